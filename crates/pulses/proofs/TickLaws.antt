-- Laws of one tick, for every motor, sound or not. Assumes nothing.
use mathlib.Core.Path.{◌≡◌, refl, sym, ◌∙◌}
use mathlib.Core.Bool.{Bool, true, false, cond, false≢true}
use mathlib.Core.Logic.{◌⊎◌, inl, inr}
use Prim.Native.Nat.{ℕ, ◌+◌, ◌*◌, ◌≤◌, ◌<◌, min}
use native.Mathlib.Omega.{arith}
use borrow.Author.Tests.{eqb-true, eqb-false}
use Rattle.digits.specs.Places.{moved}
use Rattle.record.specs.declared.Motor.{Motor}
use Rattle.record.specs.Record.{standing}
use Rattle.motor.specs.Sound.{busy, moving}
use Rattle.motor.proofs.MovingLaws.{moving_busy, carried_moves}
use Rattle.motor.proofs.RoomLaws.{moved_none}
use Rattle.pulses.specs.declared.Ticked.{Ticked}
use Rattle.drive.specs.Drives.{ended_with, lsend}
use Rattle.pulses.specs.Ticks.{tick_speed, due, rest, to_target, distance_left, room_left, given, reached, used_up, advanced, goes_on, driven_on, tick_motor}
use Rattle.pulses.proofs.Laws.{nothing_rounded, given_due, given_room, given_distance, still_speed}

-- "Pulses given are the least of due, room and, for a target, the distance left": they are one of the three.
least : (t : Bool) (d r a : ℕ)
    → (min d (cond t (min r a) r) ≡ d) ⊎ ((min d (cond t (min r a) r) ≡ r) ⊎ ((t ≡ true) × (min d (cond t (min r a) r) ≡ a)))
least t d r a = grind arith

pub given_least :
    (m : Motor) → (given m ≡ due m) ⊎ ((given m ≡ room_left m) ⊎ ((to_target m ≡ true) × (given m ≡ distance_left m)))
unfolding given
given_least m = least (to_target m) (due m) (room_left m) (distance_left m)

-- Where the target is reached, the pulses given are the distance left; where a drive to a target has not reached it, they
-- are fewer.
pub reached_all : (m : Motor) → reached m ≡ true → (to_target m ≡ true) × (given m ≡ distance_left m)
unfolding reached
reached_all m = grind arith

pub reached_not : (m : Motor) → reached m ≡ false → to_target m ≡ true → given m < distance_left m
unfolding reached
reached_not m e t = omega (arith, eqb-false (given m) (distance_left m) (rw t at e), given_distance m t)

-- Where room is used up, the pulses given are the room; where it is not, they are fewer.
pub room_all : (m : Motor) → used_up m ≡ true → given m ≡ room_left m
unfolding used_up
room_all m e = eqb-true _ _ e

pub room_not : (m : Motor) → used_up m ≡ false → given m < room_left m
unfolding used_up
room_not m e = omega (arith, eqb-false (given m) (room_left m) e, given_room m)

-- the four ways that a tick can go, for proofs: the motor rests, arrives at its target, ends with its room, or goes on
pub data Way (m : Motor) : Ticked → Type 0 where
  rests : moving m ≡ false → Way m (record { motor = m; pulses = 0 })
  arrives : moving m ≡ true → reached m ≡ true → Way m (record { motor = ended_with 0 (advanced m); pulses = given m })
  ends : moving m ≡ true → reached m ≡ false → used_up m ≡ true → Way m (record { motor = ended_with lsend (advanced m); pulses = given m })
  goes : moving m ≡ true → reached m ≡ false → used_up m ≡ false → Way m (record { motor = goes_on m; pulses = given m })

-- Every tick goes one of them.
pub way : (m : Motor) → Way m (tick_motor m)
unfolding tick_motor driven_on
way m = go (moving m) refl (reached m) refl (used_up m) refl
  where
    go : (d : Bool) → moving m ≡ d → (r : Bool) → reached m ≡ r → (u : Bool) → used_up m ≡ u
        → Way m (cond d (record { motor = cond r (ended_with 0 (advanced m)) (cond u (ended_with lsend (advanced m)) (goes_on m)); pulses = given m }) (record { motor = m; pulses = 0 }))
    go false d r er u eu = rests d
    go true d true r u eu = arrives d r
    go true d false r true u = ends d r u
    go true d false r false u = goes d r u

-- A drive that goes on was given all that was due.
pub goes_due : (m : Motor) → reached m ≡ false → used_up m ≡ false → given m ≡ due m
goes_due m r u = go (given_least m)
  where
    go : (given m ≡ due m) ⊎ ((given m ≡ room_left m) ⊎ ((to_target m ≡ true) × (given m ≡ distance_left m))) → given m ≡ due m
    go (inl e) = e
    go (inr (inl e)) = omega (arith, room_not m u)
    go (inr (inr e)) = omega (arith, reached_not m r e.0, e.1)

-- Nothing is lost while the drive lasts: the pulses given and the fraction kept are the old fraction and the speed.
pub carried :
    (m : Motor) → busy (tick_motor m).motor ≡ true
    → 1000 * (tick_motor m).pulses + (tick_motor m).motor.drive.fraction ≡ m.drive.fraction + tick_speed m
carried m = go (way m)
  where
    go : {t : Ticked} → Way m t → busy t.motor ≡ true → 1000 * t.pulses + t.motor.drive.fraction ≡ m.drive.fraction + tick_speed m
    go (rests d) h = omega (arith, still_speed m d)
    go (arrives d r) h = cc
    go (ends d r u) h = cc
    go (goes d r u) h = omega (arith, nothing_rounded m, goes_due m r u)

-- Never too many: no pulse goes out before its full time has passed.
pub never_early : (m : Motor) → 1000 * (tick_motor m).pulses ≤ m.drive.fraction + tick_speed m
never_early m = go (way m)
  where
    given_time : 1000 * given m ≤ m.drive.fraction + tick_speed m
    given_time = omega (arith, nothing_rounded m, given_due m)

    go : {t : Ticked} → Way m t → 1000 * t.pulses ≤ m.drive.fraction + tick_speed m
    go (rests d) = omega arith
    go (arrives d r) = given_time
    go (ends d r u) = given_time
    go (goes d r u) = given_time

-- "Position moves by them."
pub place_moves : (m : Motor) → (tick_motor m).motor.place ≡ moved m.drive.going m.place (tick_motor m).pulses
place_moves m = go (way m)
  where
    go : {t : Ticked} → Way m t → t.motor.place ≡ moved m.drive.going m.place t.pulses
    go (rests d) = sym (moved_none m.drive.going m.place)
    go (arrives d r) = refl
    go (ends d r u) = refl
    go (goes d r u) = refl

-- A tick leaves limits, speeds, wiring and set-up as they are.
pub record SameSettings (m n : Motor) : Type 0 where
  pub limits : n.limits ≡ m.limits
  pub speeds : n.speeds ≡ m.speeds
  pub wiring : n.wiring ≡ m.wiring
  pub setup : n.setup ≡ m.setup

pub settings_stay : (m : Motor) → SameSettings m (tick_motor m).motor
settings_stay m = go (way m)
  where
    go : {t : Ticked} → Way m t → SameSettings m t.motor
    go (rests d) = search
    go (arrives d r) = search
    go (ends d r u) = search
    go (goes d r u) = search

-- A drive keeps its direction, kind, speed and target while it lasts.
pub record SameDrive (m n : Motor) : Type 0 where
  pub going : n.drive.going ≡ m.drive.going
  pub kind : n.drive.kind ≡ m.drive.kind
  pub speed : n.drive.speed ≡ m.drive.speed
  pub target : n.drive.target ≡ m.drive.target

pub drive_stays : (m : Motor) → busy (tick_motor m).motor ≡ true → SameDrive m (tick_motor m).motor
drive_stays m = go (way m)
  where
    go : {t : Ticked} → Way m t → busy t.motor ≡ true → SameDrive m t.motor
    go (rests d) h = search
    go (arrives d r) h = absurd (false≢true h)
    go (ends d r u) h = absurd (false≢true h)
    go (goes d r u) h = search

-- A motor whose drive a tick does not end moves after it if it did before.
pub moving_stays : (m : Motor) → busy (tick_motor m).motor ≡ true → moving (tick_motor m).motor ≡ moving m
moving_stays m = go (way m)
  where
    go : {t : Ticked} → Way m t → busy t.motor ≡ true → moving t.motor ≡ moving m
    go (rests d) h = refl
    go (arrives d r) h = absurd (false≢true h)
    go (ends d r u) h = absurd (false≢true h)
    go (goes d r u) h = carried_moves m (advanced m).place m.ended (rest m)

-- A drive that a tick ends leaves nothing behind, and ends with flags 0 or with LSEND.
pub drive_ends :
    (m : Motor) → busy m ≡ true → busy (tick_motor m).motor ≡ false
    → ((tick_motor m).motor.drive ≡ standing) × (((tick_motor m).motor.ended ≡ 0) ⊎ ((tick_motor m).motor.ended ≡ lsend))
drive_ends m e = go (way m)
  where
    go : {t : Ticked} → Way m t → busy t.motor ≡ false → (t.motor.drive ≡ standing) × ((t.motor.ended ≡ 0) ⊎ (t.motor.ended ≡ lsend))
    go (rests d) h = absurd (false≢true (sym h ∙ e))
    go (arrives d r) h = (refl, inl refl)
    go (ends d r u) h = (refl, inr refl)
    go (goes d r u) h = absurd (false≢true (sym h ∙ moving_busy m d))
