-- `urqolina::ticking::tick_all` meets its contract. Assumes nothing.
use mathlib.Core.Path.{◌≡◌, sym, ◌∙◌}
use mathlib.Core.Bool.{true, false}
use Prim.Native.Nat.{ℕ, ◌+◌, ◌-◌, ◌/◌, ◌^◌, ◌≤◌}
use native.Mathlib.Nat.{div-one}
use native.Mathlib.Omega.{arith}
use mathlib.Core.List.{List}
use Rattle.table.specs.Sound.{sound_table}
use Rattle.digits.proofs.SetLaws.{one_less}
use Rattle.motor.specs.Sound.{busy, sound_record}
use Rattle.table.specs.Layout.{head_of, record_at, motor_at}
use Rattle.table.proofs.SealLaws.{set_below}
use Rattle.table.proofs.TableLaws.{up_to_none, up_to_record, up_to_motor, up_to_sealed, up_to_next, up_to_all, sound_record_at, sound_set, sound_set_at, sound_sealed}
use Rattle.urqolina.proofs.CallLaws.{counts_none, counts_next, counts_all}
use Rattle.urqolina.proofs.RestLaws.{ticked, no_counts, none_length, zeroed_counts, zero_count, some_left, none_left, rest_table, rest_counts}
use Rattle.urqolina.proofs.ticking.tick_all.Goals as goal

-- While the set has a channel left, the next one is one of sixteen.
channel : (t₀ : List ℕ) (c left : ℕ) → sound_table t₀ ≡ true → c ≤ 16 → left ≡ (head_of t₀).busy / 2 ^ c → (left ≡ 0 → ⊥) → c ≤ 15
channel t₀ c left s h e some = some_left (head_of t₀).busy c (rw (sound_set t₀ s) (set_below t₀)) h (λ z. some (e ∙ z))

pub loop-left-init : goal.loop-left-init
loop-left-init c =
    let t₀ = c.args.t.now in (
      omega arith,
      sym (up_to_none ticked t₀ ∙ sound_sealed t₀ c.requires c.fits-t),
      c.zero_front.ensures ∙ zeroed_counts c.args.pulses.now c.told-pulses ∙ sym (counts_none t₀ no_counts),
      rw c.read_head-h.ensures (sym (div-one (head_of t₀).busy)),
    )

pub tick_channel-requires : goal.tick_channel-requires
tick_channel-requires c =
    let t₀ = c.args.t.now in
    let k = c.loop-left.c in
    let s = c.requires in
    let h : k ≤ 15 = channel t₀ k c.loop-left.left s c.loop-left.invariant.0 c.loop-left.invariant.3 c.loop-left-test.true in
    let sound : sound_record (record_at c.loop-left.t k) ≡ true = rw (c.loop-left.invariant.1, up_to_record ticked k t₀ c.told-t (omega arith)) (sound_record_at t₀ k s h) in
    record {
      whole = (h, rw c.loop-left.invariant.1 (up_to_sealed ticked k t₀ c.told-t (omega arith)), rw (c.loop-left.invariant.3, c.loop-left.invariant.1, up_to_motor ticked k t₀ c.told-t (omega arith)) (sound_set_at t₀ k s h));
      ready = (sound, rw c.loop-left.invariant.2 (zero_count t₀ k h));
    }

pub loop-left-preserved : goal.loop-left-preserved
loop-left-preserved c =
    let t₀ = c.args.t.now in
    let k = c.loop-left.c in
    let h : k ≤ 15 = channel t₀ k c.loop-left.left c.requires c.loop-left.invariant.0 c.loop-left.invariant.3 c.loop-left-test.true in
    let next : motor_at c.loop-left.t k ≡ motor_at t₀ k = rw c.loop-left.invariant.1 (up_to_motor ticked k t₀ c.told-t (omega arith)) in (
      omega arith,
      rw (c.tick_channel.ensures.t_after, c.loop-left.invariant.1) (up_to_next ticked k t₀ c.told-t h),
      rw (c.tick_channel.ensures.pulses_after, next, c.loop-left.invariant.2) (counts_next k t₀ no_counts h none_length),
      rw c.loop-left.invariant.3 (one_less (head_of t₀).busy k),
    )

pub returns : goal.returns
returns c =
    let t₀ = c.args.t.now in
    let k = c.loop-left.c in
    let s = c.requires in
    let up : k + (16 - k) ≡ 16 = omega (arith, c.loop-left.invariant.0) in
    let none : (head_of t₀).busy / 2 ^ k ≡ 0 = sym c.loop-left.invariant.3 ∙ c.loop-left-test.false in
    let still : (d : ℕ) → k ≤ d → d ≤ 15 → busy (motor_at t₀ d) ≡ false = λ d h b. sym (sound_set_at t₀ d s b) ∙ none_left (head_of t₀).busy k d none h in
    record {
      t_after = c.loop-left.invariant.1 ∙ rest_table t₀ s c.fits-t (16 - k) k up still ∙ up_to_all ticked t₀ c.told-t;
      pulses_after = c.loop-left.invariant.2 ∙ rest_counts t₀ s (16 - k) k up still ∙ counts_all t₀ no_counts none_length;
    }
