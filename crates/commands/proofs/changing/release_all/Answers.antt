-- `commands::changing::release_all` meets its contract. Assumes nothing.
use native.Mathlib.Omega.{arith}
use mathlib.Core.Path.{◌≡◌, sym, ◌∙◌}
use Prim.Native.Nat.{◌≤◌}
use mathlib.Core.Bool.{true}
use Rattle.motor.specs.Sound.{sound_record}
use Rattle.table.specs.Layout.{record_at}
use Rattle.drive.specs.Drives.{released}
use Rattle.table.proofs.TableLaws.{up_to_none, up_to_record, up_to_sealed, up_to_next, up_to_all, sound_length, sound_record_at, sound_sealed}
use Rattle.commands.proofs.changing.release_all.Goals as goal

pub loop-x-init : goal.loop-x-init
loop-x-init c =
    let t₀ = c.args.t.now in
    sym (up_to_none _ t₀ ∙ sound_sealed t₀ c.requires c.fits-t)

pub make_release-requires : goal.make_release-requires
make_release-requires c =
    let t₀ = c.args.t.now in
    let x = c.loop-x.x in
    let channel : x ≤ 15 = omega arith in
    let whole = sound_length t₀ c.requires in
    let sound : sound_record (record_at c.loop-x.t x) ≡ true = rw (c.loop-x.invariant, up_to_record released x t₀ whole (omega arith)) (sound_record_at t₀ x c.requires channel) in
    (channel, sound, rw c.loop-x.invariant (up_to_sealed released x t₀ whole (omega arith)))

pub loop-x-preserved : goal.loop-x-preserved
loop-x-preserved c =
    let t₀ = c.args.t.now in
    let whole = sound_length t₀ c.requires in
    (rw (c.make_release.ensures, c.loop-x.invariant) (up_to_next released c.loop-x.x t₀ whole (omega arith)))

pub returns : goal.returns
returns c = let e : c.loop-x.x ≡ 16 = omega arith in rw (c.loop-x.invariant, e) (up_to_all _ _ (sound_length _ c.requires))
