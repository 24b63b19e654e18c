-- What running a line goes by: how long a text is, and what the jobs of a line keep within. Assumes nothing.
use Rattle.std.specs.Prelude.{Ok, Err}
use Prim.Native.Char.{code}
use Prim.Native.Nat.{ℕ, zero, suc, ◌+◌, ◌/◌, ◌%◌, ◌≤◌}
use mathlib.Core.Path.{◌≡◌, refl}
use mathlib.Core.List.{List, [], ◌∷◌}
use mathlib.Core.Bool.{Bool, true, false, ◌&&◌, cond}
use Rattle.std.proofs.Common.{Option, Some, None}
use native.Mathlib.Omega.{arith}
use native.Mathlib.Numerals.{add-one}
use lib.Dec.{eqb, leb}
use lib.ListN.{length, take, drop, get_or, replicate, length-append, length-take}
use Rattle.text.specs.Text.{bytes, digits_at_front, value_of}
use Rattle.drive.specs.Numbers.{Verdict}
use Rattle.drive.specs.declared.Refusal.TheVariants.{NoForm, WrongSize, NotSound}
use Rattle.drive.specs.Numbers.{number_of}
use Rattle.line.specs.declared.Order.{Order}
use Rattle.line.specs.declared.Order.TheVariants.{Go, Stop, StopAll, ChangeSpeed, Set, Ask, AskHead, ForHead}
use Rattle.replies.proofs.ReplyLaws.{echo_within, head_within, question_within}
use Rattle.table.specs.Layout.{table_size, head_of, motor_at}
use Rattle.table.specs.Sound.{sound_table}
use Rattle.commands.specs.Answers.{answer}
use Rattle.commands.specs.Judging.{judge}
use Rattle.commands.specs.Changing.{changed, flagged}
use Rattle.obeying.specs.Taking.{CommandAfter, order_in, refused, obeyed, taken}
use Rattle.drive.proofs.NumberLaws.{numbered}
use Rattle.urqolina.specs.Calls.{fresh_call, command_call, reading_call}
use Rattle.jobs.specs.declared.Job.{Job}
use Rattle.jobs.specs.declared.Job.TheVariants.{Send, Touch, Wait, FourMotors}
use Rattle.jobs.specs.Jobs.{is_ticks, job_if, touch_of, wait_of, card_of, lettered, job_of}
use Rattle.jobs.specs.Bounds.{most_ticks}
use Rattle.jobs.specs.Texts.{command_text, waited_text}
use Rattle.running.specs.Running.{Waited, tick_of, waited, sent, touched, ticked, renewed, job_done, line_done}
use Rattle.jobs.proofs.JobLaws.{ticks_within}
use Rattle.jobs.proofs.OutLaws.{plain_within, reply_within, waited_within}

-- No reply is longer than 17 bytes, whatever the table, the line and the buffer.
answer_within : (t : List ℕ) (o : Order) → length (answer t o) ≤ 17
unfolding answer
answer_within t (Go x s) = echo_within (head_of t).reply (Ok tt)
answer_within t (Stop x e) = echo_within (head_of t).reply (Ok tt)
answer_within t (StopAll e) = echo_within (head_of t).reply (Ok tt)
answer_within t (ChangeSpeed x v) = echo_within (head_of t).reply (Ok tt)
answer_within t (Set x s) = echo_within (head_of t).reply (Ok tt)
answer_within t (Ask x q) = question_within (head_of t).mode x (motor_at t x) q
answer_within t (AskHead q) = head_within (head_of t) q
answer_within t (ForHead h) = echo_within (head_of t).reply (Ok tt)

refused_within : (t : List ℕ) (v : Verdict) (reply : List ℕ) → (refused t v reply).result / 256 ≤ 17
unfolding refused
refused_within t v reply = omega (arith, (numbered v).small, echo_within (head_of (flagged t (number_of v))).reply v)

obeyed_within : (t : List ℕ) (o : Order) (reply : List ℕ) → (obeyed t o reply).result / 256 ≤ 17
unfolding obeyed
obeyed_within t o reply = omega (arith, (numbered (Ok tt)).small, answer_within (changed t o) o)

taken_within : (t : List ℕ) (p : Option Order) (reply : List ℕ) → (taken t p reply).result / 256 ≤ 17
unfolding taken
taken_within t None reply = refused_within t (Err NoForm) reply
taken_within t (Some o) reply = go (eqb (number_of (judge t o)) 0)
  where
    go : (b : Bool) → (cond b (obeyed t o reply) (refused t (judge t o) reply)).result / 256 ≤ 17
    go true = obeyed_within t o reply
    go false = refused_within t (judge t o) reply

pub command_within : (t line reply : List ℕ) → (command_call t line reply).result / 256 ≤ 17
unfolding command_call number_of
command_within t line reply = go (eqb (length t) table_size && leb 32 (length reply)) (sound_table t)
  where
    after : Bool → Bool → CommandAfter
    after sizes sound =
        let v = cond sizes (cond sound (Ok tt) (Err NotSound)) (Err WrongSize) in
        cond (eqb (number_of v) 0)
        (taken t (order_in t line) reply)
        (record { result = number_of v; table = t; reply = reply })

    go : (sizes sound : Bool) → (after sizes sound).result / 256 ≤ 17
    go true true = taken_within t (order_in t line) reply
    go true false = omega arith
    go false sound = omega arith

command_short : (result : ℕ) (reply : List ℕ) → result / 256 ≤ 17 → length (command_text result reply) ≤ 234
unfolding command_text
command_short result reply h =
    rw length-append
    (omega (arith, plain_within (result % 256), reply_within (take (result / 256) reply), length-take (result / 256) reply))

waited_short : (result : ℕ) (nets : List ℕ) → length (waited_text result nets) ≤ 234
unfolding waited_text
waited_short result nets = omega (arith, waited_within result nets 16)

-- So there is room in the buffer for the text of any job, and its line feed.
pub job_within : (t line : List ℕ) (j : Option Job) → length (job_done t line j).text ≤ 234
unfolding sent touched ticked renewed bytes
job_within t line (Some Send) = command_short _ _ (command_within t (drop 2 line) (replicate 32 0))
job_within t line (Some (Touch c n)) = omega (arith, plain_within (reading_call t c n).result)
job_within t line (Some (Wait n)) = waited_short _ _
job_within t line (Some FourMotors) = omega (arith, plain_within (fresh_call t 1).result)
job_within t line None = omega arith

pub line_within : (first : Bool) (t line : List ℕ) → length (line_done first t line).text ≤ 235
unfolding line_done
line_within first t line = rw length-append (omega (arith, job_within t line (job_of first line)))

-- A line that sends a command has its letter and its blank.
pub send_two : (first : Bool) (s : List ℕ) → job_of first s ≡ Some Send → 2 ≤ length s
unfolding job_of
send_two first [] e = cc
send_two first (k ∷ []) e = cc
send_two first (k ∷ b ∷ s) e = omega arith

-- What is asked for if a test holds: the test holds.
asked : (t : Bool) (o : Option Job) (j : Job) → job_if t o ≡ Some j → (t ≡ true) × (o ≡ Some j)
asked true o j e = (refl, e)
asked false o j e = cc

-- A line that waits has 10000 ticks at most.
touch_waits : (s : List ℕ) (n : ℕ) → touch_of s ≡ Some (Wait n) → ⊥
unfolding touch_of
touch_waits s n e = apart _ _ (asked _ _ _ e).1
  where
    apart : (x c : ℕ) → Some (Touch x c) ≡ Some (Wait n) → ⊥
    apart x c e = cc

wait_few : (s : List ℕ) (n : ℕ) → wait_of s ≡ Some (Wait n) → n ≤ most_ticks
unfolding wait_of
wait_few s n e =
    let t = leb 1 (length s) && leb (length s) 5 && eqb (digits_at_front s) (length s) in
    let h = asked (t && is_ticks (get_or s 0 0) (value_of s)) (Some (Wait (value_of s))) (Wait n) e in
    few (value_of s) h.1 (ticks_within t (get_or s 0 0) (value_of s) h.0)
  where
    few : (m : ℕ) → Some (Wait m) ≡ Some (Wait n) → m ≤ most_ticks → n ≤ most_ticks
    few m e h = let p : m ≡ n = cc in omega arith

card_waits : (first : Bool) (s : List ℕ) (n : ℕ) → card_of first s ≡ Some (Wait n) → ⊥
unfolding card_of
card_waits first s n e = apart (asked _ _ _ e).1
  where
    apart : Some FourMotors ≡ Some (Wait n) → ⊥
    apart e = cc

lettered_few : (first : Bool) (k : ℕ) (s : List ℕ) (n : ℕ) → lettered first k s ≡ Some (Wait n) → n ≤ most_ticks
unfolding lettered
lettered_few first k s n e = go (eqb k (code "C")) (eqb k (code "S")) (eqb k (code "T")) (eqb k (code "K")) e
  where
    go : (a b c d : Bool) → cond a (Some Send) (cond b (touch_of s) (cond c (wait_of s) (cond d (card_of first s) None))) ≡ Some (Wait n) → n ≤ most_ticks
    go true b c d e = cc
    go false true c d e = absurd (touch_waits s n e)
    go false false true d e = wait_few s n e
    go false false false true e = absurd (card_waits first s n e)
    go false false false false e = cc

pub waits_few : (first : Bool) (s : List ℕ) (n : ℕ) → job_of first s ≡ Some (Wait n) → n ≤ most_ticks
unfolding job_of
waits_few first [] n e = cc
waits_few first (k ∷ []) n e = cc
waits_few first (k ∷ b ∷ s) n e = lettered_few first k s n (asked _ _ _ e).1

-- one tick more
pub waited_more : (n : ℕ) (w : Waited) → waited (n + 1) w ≡ tick_of (waited n w)
unfolding waited
waited_more zero w = refl
waited_more (suc n) w = rw add-one (rw add-one at (waited_more n (tick_of w)))
