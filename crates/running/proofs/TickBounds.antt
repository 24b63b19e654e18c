-- How far the counts of a tick go, for every table: on a sound one no motor gives more than 5,000 pulses, and on any other the
-- buffer stays as it was. Assumes nothing.
use Rattle.std.specs.Prelude.{Ok, Err}
use mathlib.Core.Path.{◌≡◌, refl}
use mathlib.Core.Bool.{Bool, true, false, ◌&&◌, cond}
use mathlib.Core.List.{List}
use Prim.Native.Nat.{ℕ, ◌<◌}
use native.Mathlib.Omega.{arith}
use lib.Dec.{eqb}
use lib.ListN.{length, replicate}
use Rattle.digits.specs.Places.{place_of}
use Rattle.record.specs.Record.{motor_of}
use Rattle.motor.specs.Sound.{sound_under}
use Rattle.motor.proofs.RecordLaws.{record_motor_sound, under_record}
use Rattle.pulses.specs.Ticks.{tick_motor, tick_count}
use Rattle.drive.specs.Numbers.{number_of}
use Rattle.drive.specs.declared.Refusal.TheVariants.{WrongSize, NotSound}
use Rattle.pulses.proofs.TickSound.{pulses_bound}
use Rattle.table.specs.Layout.{table_size, head_of, paused, records, with_motors}
use Rattle.table.specs.Sound.{sound_table}
use Rattle.table.proofs.TableLaws.{sound_records}
use Rattle.obeying.specs.Taking.{accepted}
use Rattle.urqolina.specs.Calls.{TickAfter, counts, tick_call}
use Rattle.jobs.specs.Bounds.{Near, CountsWithin, most_count}
use Rattle.jobs.proofs.NetLaws.{count_near, words_within, zeros_within}

-- a sound record's motor gives no more than 5,000 pulses
record_near : (paused : Bool) (r : List ℕ) → sound_under paused r ≡ true → Near most_count (place_of (tick_count (motor_of r))) × (tick_count (motor_of r) < 4294967296)
unfolding tick_count
record_near paused r e =
    count_near (motor_of r).drive.going (tick_motor (motor_of r)).pulses most_count (pulses_bound (motor_of r) (record_motor_sound r (under_record paused r e))) (omega arith)

sound_counts : (t : List ℕ) → sound_table t ≡ true → CountsWithin most_count (counts t)
sound_counts t e =
    let pause = paused (head_of t) in
    words_within (sound_under pause) (λ r. tick_count (motor_of r)) most_count (record_near pause) (records t) (sound_records t e)

-- The counts of one tick into a buffer of zeros are near, whatever the table.
pub tick_within : (t : List ℕ) → CountsWithin most_count (tick_call t (replicate 64 0)).pulses
unfolding tick_call number_of
tick_within t = go (eqb (length t) table_size && eqb (length {A = ℕ} (replicate 64 0)) 64) (sound_table t) refl
  where
    after : Bool → Bool → TickAfter
    after sizes sound =
        let v = cond sizes (cond sound (Ok tt) (Err NotSound)) (Err WrongSize) in
        cond (accepted v)
        (record { result = number_of (Ok tt); table = with_motors t (λ m. (tick_motor m).motor); pulses = counts t })
        (record { result = number_of v; table = t; pulses = replicate 64 0 })

    go : (sizes sound : Bool) → sound_table t ≡ sound → CountsWithin most_count (after sizes sound).pulses
    go true true e = sound_counts t e
    go true false e = zeros_within 64 most_count
    go false sound e = zeros_within 64 most_count
