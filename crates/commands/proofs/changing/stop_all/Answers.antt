-- `commands::changing::stop_all` meets its contract. Assumes nothing.
use native.Mathlib.Omega.{arith}
use mathlib.Core.Path.{◌≡◌, sym, ◌∙◌}
use Prim.Native.Nat.{◌≤◌}
use mathlib.Core.Bool.{true}
use Rattle.motor.specs.Sound.{sound_record}
use Rattle.table.specs.Layout.{record_at, sealed}
use Rattle.drive.specs.Drives.{stopped}
use Rattle.table.proofs.TableLaws.{up_to_none, up_to_record, up_to_motor, up_to_sealed, up_to_next, up_to_all, sound_length, sound_record_at, sound_sealed, sound_set_at}
use Rattle.commands.proofs.changing.stop_all.Goals as goal

pub loop-x-init : goal.loop-x-init
loop-x-init c =
    let t₀ = c.args.t.now in
    sym (up_to_none _ t₀ ∙ sound_sealed t₀ c.requires c.fits-t)

pub stop_listed-requires : goal.stop_listed-requires
stop_listed-requires c =
    let t₀ = c.args.t.now in
    let f = stopped c.args.flags in
    let x = c.loop-x.x in
    let whole = sound_length t₀ c.requires in
    let channel : x ≤ 15 = omega arith in
    let sound : sound_record (record_at c.loop-x.t x) ≡ true = rw (c.loop-x.invariant, up_to_record f x t₀ whole (omega arith)) (sound_record_at t₀ x c.requires channel) in
    let seal : sealed c.loop-x.t ≡ c.loop-x.t = rw c.loop-x.invariant (up_to_sealed f x t₀ whole (omega arith)) in
    record {
      whole = (channel, sound, seal);
      listed = rw (c.read_head-h.ensures, c.loop-x.invariant, up_to_motor f x t₀ whole (omega arith)) (sound_set_at t₀ x c.requires channel);
    }

pub loop-x-preserved : goal.loop-x-preserved
loop-x-preserved c =
    let t₀ = c.args.t.now in
    (rw (c.stop_listed.ensures, c.loop-x.invariant) (up_to_next (stopped c.args.flags) c.loop-x.x t₀ (sound_length t₀ c.requires) (omega arith)))

pub returns : goal.returns
returns c = let e : c.loop-x.x ≡ 16 = omega arith in rw (c.loop-x.invariant, e) (up_to_all _ _ (sound_length _ c.requires))
