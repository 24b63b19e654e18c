-- The numbers that a line can be answered with: what judges an order gives 0, or the number of a refusal. Assumes nothing.
use Rattle.std.specs.Prelude.{Ok, Err}
use Rattle.std.specs.Prelude.{Option, Some, None}
use mathlib.Core.Path.{◌≡◌, refl, sym, ap}
use mathlib.Core.List.{List}
use mathlib.Core.Bool.{Bool, true, false, ◌&&◌, ◌||◌, not, cond, false≢true}
use Prim.Native.Nat.{ℕ, ◌%◌}
use native.Mathlib.Omega.{arith}
use lib.Dec.{eqb}
use borrow.Author.Tests.{eq-eqb, ne_eqb}
use Rattle.record.specs.declared.Motor.{Motor}
use Rattle.motor.specs.Switches.{unread, blocked, room}
use Rattle.motor.specs.Sound.{busy}
use Rattle.drive.specs.declared.Course.{Course}
use Rattle.drive.specs.declared.Course.TheVariants.{Stay, Beyond, To, Along}
use Rattle.drive.specs.Numbers.{Verdict}
use Rattle.drive.specs.declared.Refusal.{Refusal}
use Rattle.drive.specs.declared.Refusal.TheVariants.{NoForm, Busy, OutOfRange, LocalMode, Disabled, Unread, SwitchAhead, AtLimit, AtRangeEnd, NotDriving, Full}
use Rattle.drive.specs.Numbers.{number_of, is_refusal}
use Rattle.drive.proofs.NumberLaws.{numbered}
use Rattle.drive.specs.Drives.{at_range_end, hindrance, towards, judge_start}
use Rattle.line.specs.declared.Order.{Order}
use Rattle.line.specs.declared.Order.TheVariants.{Go, Stop, StopAll, ChangeSpeed, Set, Ask, AskHead, ForHead}
use Rattle.line.specs.Forms.{has_form, on_card}
use Rattle.table.specs.Layout.{head_of, card_full, motor_at}
use Rattle.orders.specs.Values.{needs_remote, value_in_range}
use Rattle.orders.specs.Settings.{course_of}
use Rattle.commands.specs.Judging.{judge_where, meets_busy, judge_motor, judge}
use Rattle.obeying.specs.Taking.{refused, obeyed, taken}

-- An order that is accepted has its value in range.
pub judged_value : (t : List ℕ) (o : Order) → number_of (judge t o) ≡ 0 → value_in_range o ≡ true
unfolding judge judge_where number_of
judged_value t o e = local (needs_remote o && eqb (head_of t).mode 0) e
  where
    ranged : (b : Bool) → value_in_range o ≡ b → number_of (cond (not b) (Err OutOfRange) (cond (meets_busy t o) (Err Busy) (judge_motor (card_full (head_of t)) t o))) ≡ 0 → value_in_range o ≡ true
    ranged true h e = h
    ranged false h e = absurd (omega (arith, e))

    local : (b : Bool) → number_of (cond b (Err LocalMode) (cond (not (value_in_range o)) (Err OutOfRange) (cond (meets_busy t o) (Err Busy) (judge_motor (card_full (head_of t)) t o)))) ≡ 0
        → value_in_range o ≡ true
    local true e = absurd (omega (arith, e))
    local false e = ranged (value_in_range o) refl e

-- what may come of judging a line: it is done, or refused
abbrev pub judged : Verdict → Bool
judged v = eqb (number_of v) 0 || is_refusal (number_of v)

-- A cause has a number of its own.
pub cause_numbered : (r : Refusal) → eqb (number_of (Err r)) 0 ≡ false
cause_numbered r = ne_eqb (number_of (Err r)) 0 (λ e. false≢true (ap done ((numbered (Err r)).done e)))
  where
    done : Verdict → Bool
    done (Ok u) = true
    done (Err r) = false

-- One of two verdicts passes a test that both pass.
pub either : (test : Verdict → Bool) (b : Bool) (v w : Verdict) → test v ≡ true → test w ≡ true → test (cond b v w) ≡ true
either test true v w hv hw = hv
either test false v w hv hw = hw

hindrance_judged : (full : Bool) (m : Motor) (going : ℕ) → judged (hindrance full m going) ≡ true
unfolding hindrance number_of
hindrance_judged full m going =
    either judged (eqb m.setup.a 0) (Err Disabled) _ refl
    (either judged (unread m.wiring) (Err Unread) _ refl
    (either judged (blocked going m) (Err SwitchAhead) _ refl
    (either judged (at_range_end m going) (Err AtRangeEnd) _ refl
    (either judged (eqb (room going m) 0) (Err AtLimit) _ refl
    (either judged full (Err Full) (Ok tt) refl refl)))))

start_judged : (full : Bool) (m : Motor) (c : Course) → judged (judge_start full m c) ≡ true
unfolding judge_start number_of
start_judged full m Stay = refl
start_judged full m Beyond = refl
start_judged full m (To p) = hindrance_judged full m (towards m p)
start_judged full m (Along going) = hindrance_judged full m going

motor_judged : (full : Bool) (t : List ℕ) (o : Order) → judged (judge_motor full t o) ≡ true
unfolding judge_motor number_of
motor_judged full t (Go x s) = start_judged full (motor_at t x) (course_of (motor_at t x) s)
motor_judged full t (Stop x e) = refl
motor_judged full t (StopAll e) = refl
motor_judged full t (ChangeSpeed x v) = either judged (busy (motor_at t x)) (Ok tt) (Err NotDriving) refl refl
motor_judged full t (Set x s) = refl
motor_judged full t (Ask x q) = refl
motor_judged full t (AskHead q) = refl
motor_judged full t (ForHead h) = refl

-- What an order is judged passes a test that local mode, a bad value and busy pass, and what lies in the motor.
pub judge_passes : (test : Verdict → Bool) (t : List ℕ) (o : Order) → test (Err LocalMode) ≡ true → test (Err OutOfRange) ≡ true → test (Err Busy) ≡ true
    → test (judge_motor (card_full (head_of t)) t o) ≡ true → test (judge t o) ≡ true
unfolding judge judge_where
judge_passes test t o local value busy motor =
    either test (needs_remote o && eqb (head_of t).mode 0) (Err LocalMode) _ local
    (either test (not (value_in_range o)) (Err OutOfRange) _ value
    (either test (meets_busy t o) (Err Busy) (judge_motor (card_full (head_of t)) t o) busy motor))

-- Whatever judges an order, it is done or refused.
pub judge_judged : (t : List ℕ) (o : Order) → judged (judge t o) ≡ true
unfolding number_of
judge_judged t o = judge_passes judged t o refl refl refl (motor_judged (card_full (head_of t)) t o)

-- So an order that is not done is refused.
pub refused_judged : (t : List ℕ) (o : Order) → eqb (number_of (judge t o)) 0 ≡ false → is_refusal (number_of (judge t o)) ≡ true
refused_judged t o e = go (eqb (number_of (judge t o)) 0) (is_refusal (number_of (judge t o))) e (judge_judged t o)
  where
    go : (done refused : Bool) → done ≡ false → (done || refused) ≡ true → refused ≡ true
    go true refused e h = absurd (false≢true (sym e))
    go false refused e h = h

-- Where an order is judged with its form: it is done where the card has the form and the rules accept it, and else it is refused.
pub formed_judged : (b : Bool) (v : Verdict) → number_of (cond b v (Err NoForm)) ≡ 0 → (b ≡ true) × (number_of v ≡ 0)
unfolding number_of
formed_judged true v e = (refl, e)
formed_judged false v e = absurd (omega (arith, e))

pub formed_obeyed : (t : List ℕ) (o : Order) (reply : List ℕ) → number_of (cond (has_form (head_of t).card o) (judge t o) (Err NoForm)) ≡ 0
    → taken t (on_card (head_of t).card (Some o)) reply ≡ obeyed t o reply
unfolding taken
formed_obeyed t o reply e =
    let f = formed_judged (has_form (head_of t).card o) (judge t o) e in
    rw (f.0, eq-eqb (number_of (judge t o)) 0 f.1)

pub formed_refused : (t : List ℕ) (o : Order) (reply : List ℕ)
    → let v = cond (has_form (head_of t).card o) (judge t o) (Err NoForm) in eqb (number_of v) 0 ≡ false → taken t (on_card (head_of t).card (Some o)) reply ≡ refused t v reply
unfolding taken
formed_refused t o reply = go (has_form (head_of t).card o)
  where
    go : (b : Bool) → let v = cond b (judge t o) (Err NoForm) in eqb (number_of v) 0 ≡ false → taken t (cond b (Some o) None) reply ≡ refused t v reply
    go true e = rw e
    go false e = refl

-- "The command's result is the number plus 256 times the reply length."
pub refused_number : (t : List ℕ) (v : Verdict) (reply : List ℕ) → (refused t v reply).result % 256 ≡ number_of v
unfolding refused
refused_number t v reply = omega (arith, (numbered v).small)

pub obeyed_number : (t : List ℕ) (o : Order) (reply : List ℕ) → (obeyed t o reply).result % 256 ≡ 0
unfolding obeyed number_of
obeyed_number t o reply = omega arith

-- What a line on a sound table gives is 0, or the number of a refusal.
pub taken_number : (t : List ℕ) (p : Option Order) (reply : List ℕ) → let n = (taken t p reply).result % 256 in (eqb n 0 || is_refusal n) ≡ true
unfolding taken
taken_number t None reply = rw (refused_number t (Err NoForm) reply) (unfold number_of in refl)
taken_number t (Some o) reply = go (eqb (number_of (judge t o)) 0)
  where
    go : (b : Bool) → let n = (cond b (obeyed t o reply) (refused t (judge t o) reply)).result % 256 in (eqb n 0 || is_refusal n) ≡ true
    go true = rw (obeyed_number t o reply)
    go false = rw (refused_number t (judge t o) reply) (judge_judged t o)
