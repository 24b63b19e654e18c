-- A channel's settings and contacts after any sequence: fresh's, and what accepted settings and readings made of them. Assumes
-- nothing.
use mathlib.Core.Path.{◌≡◌, refl}
use mathlib.Core.List.{List, [], ◌∷◌}
use mathlib.Core.Bool.{Bool, true, false, ◌&&◌, cond}
use Prim.Native.Nat.{ℕ, ◌≤◌}
use lib.Dec.{eqb}
use Rattle.record.specs.declared.Motor.{Motor}
use Rattle.record.specs.Record.{fresh_motor, with_drive, let_go}
use Rattle.motor.specs.Switches.{blocked}
use Rattle.motor.specs.Sound.{busy}
use Rattle.drive.specs.declared.Course.{Course}
use Rattle.drive.specs.declared.Course.TheVariants.{Stay, Beyond, To, Along}
use Rattle.drive.specs.Drives.{lsend, started, released, ended_with, stopped, speed_changed, contacted, switch_read}
use Rattle.pulses.specs.Ticks.{tick_motor}
use Rattle.pulses.proofs.TickLaws.{SameSettings, settings_stay}
use Rattle.line.specs.declared.Setting.{Setting}
use Rattle.line.specs.declared.Setting.TheVariants.{Preset, SetCwLimit, SetCcwLimit, Select, SetSpeed, SetSwitches, SetMotor}
use Rattle.orders.specs.Settings.{course_of, with_setting}
use Rattle.table.specs.Layout.{motor_at, fresh_table}
use Rattle.table.specs.Sound.{sound_table}
use Rattle.table.proofs.KeptLaws.{fresh_sound}
use Rattle.laws.specs.Sequences.{urqolina, Call, after, run, Beginning, from_fresh, ran}
use Rattle.laws.specs.Deeds.{Deed, starts, stops, speeds, sets, reads, ticks, pauses, rests, deed}
use Rattle.laws.specs.Ledger.{settled, settings}
use Rattle.laws.specs.Pulses.{Settled}
use Rattle.laws.proofs.PartLaws.{fresh_motor_law}
use Rattle.laws.proofs.DeedLaws.{performed, paused_in}
use Rattle.laws.proofs.Following.{next}
use Rattle.laws.proofs.LastingLaws.{made_fresh}

-- Settings that are the same stay so over a motor that has the same ones.
same_on : (m n o : Motor) → SameSettings m n → SameSettings n o → SameSettings m o
same_on m n o p q =
    record {
      limits = rw q.limits p.limits;
      speeds = rw q.speeds p.speeds;
      wiring = rw q.wiring p.wiring;
      setup = rw q.setup p.setup;
    }

started_same : (q : Bool) (m : Motor) (c : Course) → SameSettings m (started q m c)
unfolding started
started_same q m Stay = search
started_same q m Beyond = search
started_same q m (To p) = search
started_same q m (Along going) = search

either_same : (b : Bool) (m x y : Motor) → SameSettings m x → SameSettings m y → SameSettings m (cond b x y)
either_same true m x y p q = p
either_same false m x y p q = q

-- A setting makes the same of settings that are the same.
set_same : (m n : Motor) (s : Setting) → SameSettings m n → SameSettings (with_setting m s) (with_setting n s)
unfolding with_setting
set_same m n (Preset w) p = record { limits = p.limits; speeds = p.speeds; wiring = p.wiring; setup = p.setup }
set_same m n (SetCwLimit w) p = record { limits = rw p.limits; speeds = p.speeds; wiring = p.wiring; setup = p.setup }
set_same m n (SetCcwLimit w) p = record { limits = rw p.limits; speeds = p.speeds; wiring = p.wiring; setup = p.setup }
set_same m n (Select k) p = record { limits = p.limits; speeds = rw p.speeds; wiring = p.wiring; setup = p.setup }
set_same m n (SetSpeed k v) p = record { limits = p.limits; speeds = rw p.speeds; wiring = p.wiring; setup = p.setup }
set_same m n (SetSwitches q r) p = record { limits = p.limits; speeds = p.speeds; wiring = rw p.wiring; setup = p.setup }
set_same m n (SetMotor q) p = record { limits = p.limits; speeds = p.speeds; wiring = p.wiring; setup = refl }

-- Whatever a deed does to the motor n, its settings are what the deed makes of the settings m.
pub performed_same : (q : Bool) (m n : Motor) (d : Deed) → SameSettings m n → SameSettings (settled m d) (performed q n d)
unfolding settled performed released stopped speed_changed switch_read
performed_same q m n (starts s) p = same_on m n (started q n (course_of n s)) p (started_same q n (course_of n s))
performed_same q m n (stops flags) p = same_on m n _ p (either_same (busy n) n (ended_with flags n) n (search) (search))
performed_same q m n (speeds v) p = same_on m n (speed_changed n v) p (search)
performed_same q m n (sets s) p = set_same m n s p
performed_same q m n (reads c) p =
    let read : SameSettings (contacted m c) (contacted n c) = record { limits = p.limits; speeds = p.speeds; wiring = rw p.wiring; setup = p.setup } in
    same_on (contacted m c) (contacted n c) _ read
    (either_same (busy n && blocked n.drive.going (contacted n c)) (contacted n c) (ended_with lsend (contacted n c)) (contacted n c) (search) (search))
performed_same q m n ticks p = same_on m n (tick_motor n).motor p (settings_stay n)
performed_same q m n (pauses k) p =
    same_on m n _ p
    (either_same (eqb k 0) n (released n) n (either_same n.drive.held n (with_drive n n.ended (let_go n.drive)) n (search) (search)) (search))
performed_same q m n rests p = p

run_same : (c : ℕ) → c ≤ 15 → (t : List ℕ) (ks : List Call) (m : Motor) → sound_table t ≡ true → SameSettings m (motor_at t c)
    → SameSettings (settings urqolina c t m ks) (motor_at (run urqolina t ks) c)
unfolding run settings
run_same c on t [] m s p = p
run_same c on t (k ∷ ks) m s p =
    let then : SameSettings (settled m (deed c t k)) (motor_at (after urqolina t k).table c) =
    rw ((next t k s).follows c on).motor (performed_same (paused_in t) m (motor_at t c) (deed c t k) p) in
    run_same c on (after urqolina t k).table ks (settled m (deed c t k)) (next t k s).sound then

pub settled_so : (b : Beginning) (c : ℕ) → c ≤ 15 → (ks : List Call) → Settled urqolina b c ks
settled_so b c on ks =
    let p : SameSettings (settings urqolina c (from_fresh urqolina b) fresh_motor ks) (motor_at (ran urqolina b ks) c) =
    rw (made_fresh b) (run_same c on (fresh_table b.card) ks fresh_motor (fresh_sound b.card b.known) (rw (fresh_motor_law b.card c on) (search))) in
    record { limits = p.limits; speeds = p.speeds; wiring = p.wiring; setup = p.setup }
