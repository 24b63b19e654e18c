-- 02 §8: "Output is a bench script". Every line that is printed for a list but the last has its form, and its value in range, by
-- document 01's own rules of lines, or is a T line that *bench* takes; for the last line *bench* prints `?`. Assumes nothing.
use Rattle.std.specs.Prelude.{Option, Some, None}
use Prim.Native.Char.{code}
use mathlib.Core.Path.{◌≡◌, refl, ap}
use mathlib.Core.List.{List, [], ◌∷◌, ◌++◌, append_assoc, append-nil}
use mathlib.Core.Bool.{Bool, true, false, ◌&&◌, not, cond, false≢true, and-eq-true_iff}
use Prim.Native.Nat.{ℕ, zero, suc, ◌+◌, ◌-◌, ◌/◌, ◌%◌, ◌≤◌, ◌<◌, max}
use native.Mathlib.Omega.{arith}
use lib.Dec.{eqb, leb, ltb}
use lib.ListN.{length, take, drop, get_or}
use lib.IntN.{pos}
use lib.Ieee.{binary64, of_int}
use borrow.Author.Tests.{eq-eqb, ne_eqb, le-leb, leb-false, not-true}
use Rattle.digits.specs.Places.{origin}
use Rattle.text.specs.Text.{bytes, same, is_digit, hex_digit, digit_byte, digit_count, digits_at_front, number_at_front, last_digits, decimal, sign_byte, distance, signed_decimal}
use Rattle.text.proofs.TextLaws.{number_back, decimal_within, signed_within}
use Rattle.text.proofs.BackLaws.{hex_back, five_within, two_reached, first_digit, digit_at_law}
use Rattle.line.specs.declared.Fields.{Fields}
use Rattle.line.specs.Shapes.{Got}
use Rattle.line.specs.declared.Order.{Order}
use Rattle.line.specs.declared.Order.TheVariants.{Go, Set}
use Rattle.line.specs.declared.Start.TheVariants.{Abs, Rel}
use Rattle.line.specs.declared.Setting.TheVariants.{Select, SetSpeed}
use Rattle.line.specs.Shapes.{x, x±d, xd, no_fields, with_channel, with_written, onward, numbered, read_fields, read_channel, read_number, read_signed}
use Rattle.line.specs.Forms.{row, starting, setting, mspd, forms, fields_as_row, as_row, order_of}
use Rattle.line.specs.Computing.{computing_line}
use Rattle.line.proofs.FormLaws.{row_found}
use Rattle.orders.specs.Values.{value_in_range}
use Rattle.jobs.specs.Jobs.{lines_of, lettered, job_of}
use Rattle.jobs.specs.Texts.{plain_text, signed_text}
use Rattle.jobs.proofs.JobLaws.{wait_read}
use Rattle.std.specs.Prelude.{Option, None, Some, Result, Ok, Err}
use Rattle.steps.specs.declared.Fault.{Fault}
use Rattle.steps.specs.declared.Step.{Step}
use Rattle.steps.specs.declared.Step.TheVariants.{Drive, Wait}
use Rattle.steps.specs.declared.Move.{Move}
use Rattle.steps.specs.Numbers.{number_of}
use Rattle.steps.specs.Steps.{step_at, beyond_at}
use Rattle.steps.proofs.MadeLaws.{Ended, Stepped, Made, step_made, beyond_made}
use Rattle.lists.specs.Lines.{lined, start_word, setting_text, select_text, going_text, move_text, wait_text, total_text, fault_text}
use Rattle.lists.specs.Listing.{Adding, as_doubles, last_text, printed_by, printed_from, printed_with, printed}
use Rattle.lists.specs.Script.{taken_as, is_other, script_from, is_script}

-- ---- the command lines

-- a number as it is read
plain_read : (n : ℕ) → n < 10000000000 → number_at_front (plain_text n) ≡ Some (record { value = n; count = length (plain_text n) })
unfolding digits_at_front
plain_read n h = rw (append-nil (plain_text n)) at (number_back 1 n [] (omega arith) h refl)

-- each has the form of a row
setting_row : (c v : ℕ) → c < 16 → v < 10000000000
    → as_row (row "SPDM" xd (setting (λ f. SetSpeed mspd f.written.digits))) (bytes "SPDM" ++ (hex_digit c ∷ plain_text v)) ≡ Some (Set c (SetSpeed 1 v))
unfolding as_row fields_as_row bytes same read_fields read_channel read_number
setting_row c v h l =
    let n = length (plain_text v) in
    let all : eqb (5 + n) (length (83 ∷ 80 ∷ 68 ∷ 77 ∷ hex_digit c ∷ plain_text v)) ≡ true = eq-eqb (5 + n) (length (83 ∷ 80 ∷ 68 ∷ 77 ∷ hex_digit c ∷ plain_text v)) (omega arith) in
    rw ((hex_back c h).0, (hex_back c h).1, plain_read v l, all)

select_row : (c : ℕ) → c < 16 → as_row (row "SPDM" x (setting (λ f. Select mspd))) (bytes "SPDM" ++ (hex_digit c ∷ [])) ≡ Some (Set c (Select 1))
unfolding as_row fields_as_row bytes same read_fields read_channel
select_row c h = rw ((hex_back c h).0, (hex_back c h).1)

-- a signed number as it is read, its sign aside
distance_read : (p : ℕ) → p ≤ 4294967295 → number_at_front (plain_text (distance p)) ≡ Some (record { value = distance p; count = length (plain_text (distance p)) })
distance_read p h = plain_read (distance p) (go (leb origin p))
  where
    go : (t : Bool) → cond t (p - origin) (origin - p) < 10000000000
    go true = omega arith
    go false = omega arith

-- the fields of a start, after three letters
abbrev started : ℕ → ℕ → Fields
started c p = with_written (with_channel no_fields c) (not (leb origin p)) (distance p)

signed_fields : (i j k c p : ℕ) → c < 16 → p ≤ 4294967295
    → read_fields x±d no_fields (i ∷ j ∷ k ∷ hex_digit c ∷ signed_text p) 3 ≡ Some ((started c p), (length (i ∷ j ∷ k ∷ hex_digit c ∷ signed_text p)))
unfolding read_fields read_channel read_signed read_number signed_decimal
signed_fields i j k c p h l =
    rw ((hex_back c h).0, (hex_back c h).1, distance_read p l)
    (go (leb origin p) (distance p) (length (plain_text (distance p))) (length (i ∷ j ∷ k ∷ hex_digit c ∷ sign_byte p ∷ plain_text (distance p))) (omega arith) (numbered false (with_channel no_fields c) 4 (number_at_front (sign_byte p ∷ plain_text (distance p)))))
  where
    go : (t : Bool) (d n m : ℕ) → 5 + n ≡ m → (z : Got)
        → onward
        (cond (eqb (cond t 43 45) 43) (Some ((with_written (with_channel no_fields c) false d), (5 + n)))
        (cond (eqb (cond t 43 45) 45) (Some ((with_written (with_channel no_fields c) true d), (5 + n))) z))
        (λ g to. Some (g, to))
        ≡ Some ((with_written (with_channel no_fields c) (not t) d), m)
    go true d n m e z = ap (λ (q : ℕ). Some ((with_written (with_channel no_fields c) false d), q)) e
    go false d n m e z = ap (λ (q : ℕ). Some ((with_written (with_channel no_fields c) true d), q)) e

absolute_row : (c p : ℕ) → c < 16 → p ≤ 4294967295 → as_row (row "ABS" x±d (starting (λ f. Abs f.written))) (bytes "ABS" ++ (hex_digit c ∷ signed_text p)) ≡ Some (Go c (Abs (started c p).written))
unfolding as_row fields_as_row bytes same
absolute_row c p h l = rw (signed_fields 65 66 83 c p h l, eq-eqb _ _ refl)

relative_row : (c p : ℕ) → c < 16 → p ≤ 4294967295 → as_row (row "REL" x±d (starting (λ f. Rel f.written))) (bytes "REL" ++ (hex_digit c ∷ signed_text p)) ≡ Some (Go c (Rel (started c p).written))
unfolding as_row fields_as_row bytes same
relative_row c p h l = rw (signed_fields 82 69 76 c p h l, eq-eqb _ _ refl)

-- so each is that row's order
setting_order : (c v : ℕ) → c < 16 → v < 10000000000 → order_of (bytes "SPDM" ++ (hex_digit c ∷ plain_text v)) ≡ Some (Set c (SetSpeed 1 v))
unfolding bytes
setting_order c v h l =
    row_found (take 18 forms) (row "SPDM" xd (setting (λ f. SetSpeed mspd f.written.digits))) (drop 19 forms) (bytes "SPDM" ++ (hex_digit c ∷ plain_text v)) (Set c (SetSpeed 1 v))
    (unfold forms in refl) (omega (arith, decimal_within 1 v (omega arith))) (setting_row c v h l)

select_order : (c : ℕ) → c < 16 → order_of (bytes "SPDM" ++ (hex_digit c ∷ [])) ≡ Some (Set c (Select 1))
unfolding bytes
select_order c h =
    row_found (take 15 forms) (row "SPDM" x (setting (λ f. Select mspd))) (drop 16 forms) (bytes "SPDM" ++ (hex_digit c ∷ [])) (Set c (Select 1)) (unfold forms in refl) (omega arith) (select_row c h)

absolute_order : (c p : ℕ) → c < 16 → p ≤ 4294967295 → order_of (bytes "ABS" ++ (hex_digit c ∷ signed_text p)) ≡ Some (Go c (Abs (started c p).written))
unfolding bytes
absolute_order c p h l =
    row_found [] (row "ABS" x±d (starting (λ f. Abs f.written))) (drop 1 forms) (bytes "ABS" ++ (hex_digit c ∷ signed_text p)) (Go c (Abs (started c p).written))
    (unfold forms in refl) (omega (arith, signed_within 1 p (omega arith))) (absolute_row c p h l)

relative_order : (c p : ℕ) → c < 16 → p ≤ 4294967295 → order_of (bytes "REL" ++ (hex_digit c ∷ signed_text p)) ≡ Some (Go c (Rel (started c p).written))
unfolding bytes
relative_order c p h l =
    row_found (take 1 forms) (row "REL" x±d (starting (λ f. Rel f.written))) (drop 2 forms) (bytes "REL" ++ (hex_digit c ∷ signed_text p)) (Go c (Rel (started c p).written))
    (unfold forms in refl) (omega (arith, signed_within 1 p (omega arith))) (relative_row c p h l)

-- ---- the lines of a script

-- a line that is one of a script
abbrev Taken : Bool → List ℕ → Type 0
Taken first l = taken_as l (job_of first l) ≡ true

sent : (first : Bool) (s : List ℕ) (o : Order) → order_of s ≡ Some o → value_in_range o ≡ true → Taken first (code "C" ∷ code " " ∷ s)
unfolding job_of lettered
sent first s o e v = rw e v

rem_taken : (first : Bool) → Taken first (bytes "C REM")
unfolding job_of lettered computing_line value_in_range
rem_taken first = refl

setting_taken : (first : Bool) (c v : ℕ) → c < 16 → 1 ≤ v → v ≤ 5000000 → Taken first (bytes "C SPDM" ++ (hex_digit c ∷ plain_text v))
unfolding bytes value_in_range
setting_taken first c v h l m =
    sent first (bytes "SPDM" ++ (hex_digit c ∷ plain_text v)) (Set c (SetSpeed 1 v)) (setting_order c v h (omega arith)) (rw (le-leb 1 v l, le-leb v 5000000 m))

select_taken : (first : Bool) (c : ℕ) → c < 16 → Taken first (bytes "C SPDM" ++ (hex_digit c ∷ []))
unfolding bytes value_in_range
select_taken first c h = sent first (bytes "SPDM" ++ (hex_digit c ∷ [])) (Set c (Select 1)) (select_order c h) refl

near : (p : ℕ) → 1 ≤ p → p ≤ 4294967295 → leb (distance p) 2147483647 ≡ true
near p h l = le-leb (distance p) 2147483647 (go (leb origin p) refl)
  where
    go : (t : Bool) → leb origin p ≡ t → cond t (p - origin) (origin - p) ≤ 2147483647
    go true e = omega arith
    go false e = omega (arith, leb-false origin p e)

going_taken : (first relative : Bool) (c p : ℕ) → c < 16 → 1 ≤ p → p ≤ 4294967295 → Taken first (start_word relative ++ (hex_digit c ∷ signed_text p))
unfolding bytes value_in_range
going_taken first true c p h l m = sent first (bytes "REL" ++ (hex_digit c ∷ signed_text p)) (Go c (Rel (started c p).written)) (relative_order c p h m) (near p l m)
going_taken first false c p h l m = sent first (bytes "ABS" ++ (hex_digit c ∷ signed_text p)) (Go c (Abs (started c p).written)) (absolute_order c p h m) (near p l m)

wait_taken : (first : Bool) (n : ℕ) → 1 ≤ n → n ≤ 10000 → Taken first (bytes "T " ++ plain_text n)
unfolding bytes job_of lettered
wait_taken first n h l =
    let s = plain_text n in
    let other : eqb (get_or s 0 0) (code "0") ≡ false = ne_eqb (get_or s 0 0) (code "0") (λ z. absurd (omega (arith, first_digit n h (omega arith)))) in
    rw (wait_read s (record { value = n; count = length s }) (plain_read n (omega arith)), eq-eqb (length s) (length s) refl, le-leb (length s) 5 (five_within n (omega arith)), other, le-leb n 10000 l)

-- ---- the last line

-- a text whose second byte, if there is one, is a digit is no line of a script
digit_second : (first : Bool) (l : List ℕ) → (1 < length l → is_digit (get_or l 1 0) ≡ true) → is_other (job_of first l) ≡ true
unfolding job_of
digit_second first [] h = refl
digit_second first (a ∷ []) h = refl
digit_second first (a ∷ b ∷ s) h = rw (ne_eqb b (code " ") (λ e. absurd (blank (h (omega arith)) e)))
  where
    blank : is_digit b ≡ true → b ≡ code " " → ⊥
    blank d e = false≢true (rw e at d)

total_other : (first : Bool) (n : ℕ) → is_other (job_of first (plain_text n)) ≡ true
total_other first n = digit_second first (plain_text n) (λ h. digit_at_law 1 n 1 h)

fault_other : (first : Bool) (n m : ℕ) → 10 ≤ n → n < 10000000000 → is_other (job_of first (plain_text n ++ (code " " ∷ plain_text m))) ≡ true
fault_other first n m h l =
    digit_second first (plain_text n ++ (code " " ∷ plain_text m))
    (λ z. rw (get_d_append_le (plain_text n) (code " " ∷ plain_text m) 1 (two_reached n h l)) (digit_at_law 1 n 1 (two_reached n h l)))
  where
    get_d_append_le : (s t : List ℕ) (i : ℕ) → i < length s → get_or (s ++ t) i 0 ≡ get_or s i 0
    get_d_append_le [] t i k = absurd (omega arith)
    get_d_append_le (b ∷ s) t zero k = refl
    get_d_append_le (b ∷ s) t (suc i) k = get_d_append_le s t i (omega arith)

-- ---- a text cut into lines

-- no line feed stands in a text
unfoldable unbroken : List ℕ → Bool
unbroken [] = true
unbroken (b ∷ s) = not (eqb b (code "\n")) && unbroken s

unbroken_both : (s t : List ℕ) → unbroken s ≡ true → unbroken t ≡ true → unbroken (s ++ t) ≡ true
unfolding unbroken
unbroken_both [] t h k = k
unbroken_both (b ∷ s) t h k = let p = (and-eq-true_iff (not (eqb b (code "\n"))) (unbroken s)).0 h in rw (p.0, unbroken_both s t p.1 k)

unbroken_digits : (k n : ℕ) → unbroken (last_digits k n) ≡ true
unfolding unbroken last_digits
unbroken_digits zero n = refl
unbroken_digits (suc k) n =
    unbroken_both (last_digits k (n / 10)) (digit_byte (n % 10) ∷ []) (unbroken_digits k (n / 10)) (rw (ne_eqb (digit_byte (n % 10)) (code "\n") (λ e. absurd (omega arith))))

unbroken_plain : (n : ℕ) → unbroken (plain_text n) ≡ true
unfolding decimal
unbroken_plain n = unbroken_digits (max 1 (digit_count n)) n

unbroken_hex : (c : ℕ) (s : List ℕ) → unbroken s ≡ true → unbroken (hex_digit c ∷ s) ≡ true
unfolding unbroken hex_digit
unbroken_hex c s h = rw h (go (ltb c 10))
  where
    go : (t : Bool) → (not (eqb (cond t (digit_byte c) (code "A" + (c - 10))) (code "\n")) && true) ≡ true
    go true = rw (ne_eqb (digit_byte c) (code "\n") (λ e. absurd (omega arith)))
    go false = rw (ne_eqb (code "A" + (c - 10)) (code "\n") (λ e. absurd (omega arith)))

unbroken_signed : (p : ℕ) → unbroken (signed_text p) ≡ true
unfolding unbroken signed_decimal
unbroken_signed p = rw (unbroken_plain (distance p)) (go (leb origin p))
  where
    go : (t : Bool) → (not (eqb (cond t (code "+") (code "-")) (code "\n")) && true) ≡ true
    go true = refl
    go false = refl

-- the first line of a text, and the others
first_line : (l t : List ℕ) → unbroken l ≡ true → lines_of (lined l ++ t) ≡ l ∷ lines_of t
unfolding lines_of unbroken bytes
first_line [] t h = refl
first_line (b ∷ l) t h =
    let p = (and-eq-true_iff (not (eqb b (code "\n"))) (unbroken l)).0 h in
    rw (not-true (eqb b (code "\n")) p.0, first_line l t p.1)

only_line : (l : List ℕ) → unbroken l ≡ true → lines_of (lined l) ≡ l ∷ []
unfolding lines_of
only_line l h = rw (append-nil (lined l)) at (first_line l [] h)

-- ---- a whole list

script_more : (first : Bool) (l t : List ℕ) → unbroken l ≡ true → Taken first l → is_script first (lines_of t) ≡ true → is_script first (lines_of (lined l ++ t)) ≡ true
unfolding script_from
script_more first l t u h k = rw (first_line l t u) (go (lines_of t) k)
  where
    go : (ls : List (List ℕ)) → is_script first ls ≡ true → is_script first (l ∷ ls) ≡ true
    go [] e = absurd (false≢true e)
    go (m ∷ ls) e = rw (h, e)

script_last : (first : Bool) (l : List ℕ) → unbroken l ≡ true → is_other (job_of first l) ≡ true → is_script first (lines_of (lined l)) ≡ true
unfolding script_from
script_last first l u h = rw (only_line l u) h

last_script : {A : Type 0} (first : Bool) (by : Adding A) (total : A) (at : ℕ) (e : Result Unit Fault) → Ended at e → is_script first (lines_of (last_text by total e)) ≡ true
last_script first by total at (Ok u) h =
    unfold total_text in script_last first (plain_text (by.number total)) (unbroken_plain (by.number total)) (total_other first (by.number total))
last_script first by total at (Err f) h =
    unfold fault_text in
    script_last first (plain_text (number_of f.cause) ++ (code " " ∷ plain_text f.offset))
    (unbroken_both (plain_text (number_of f.cause)) (code " " ∷ plain_text f.offset) (unbroken_plain (number_of f.cause)) (unfold unbroken in unbroken_plain f.offset))
    (fault_other first (number_of f.cause) f.offset (omega (arith, h.0)) (omega (arith, h.1)))

-- a move in front of lines
move_script : (first : Bool) (m : Move) (t : List ℕ) → Stepped (Drive m) → is_script first (lines_of t) ≡ true → is_script first (lines_of (move_text m ++ t)) ≡ true
unfolding move_text
move_script first m t h k =
    rw (append_assoc (setting_text m ++ select_text m) (going_text m) t, append_assoc (setting_text m) (select_text m) (going_text m ++ t))
    (setting (selecting (going k)))
  where
    going : is_script first (lines_of t) ≡ true → is_script first (lines_of (going_text m ++ t)) ≡ true
    going q =
        unfold going_text in
        script_more first (start_word m.relative ++ (hex_digit m.channel ∷ signed_text m.place)) t
        (unbroken_both (start_word m.relative) (hex_digit m.channel ∷ signed_text m.place) (words m.relative) (unbroken_hex m.channel (signed_text m.place) (unbroken_signed m.place)))
        (going_taken first m.relative m.channel m.place h.0 h.1 h.2) q
      where
        words : (t : Bool) → unbroken (start_word t) ≡ true
        words true = unfold unbroken bytes in refl
        words false = unfold unbroken bytes in refl

    selecting : is_script first (lines_of (going_text m ++ t)) ≡ true → is_script first (lines_of (select_text m ++ (going_text m ++ t))) ≡ true
    selecting q =
        unfold select_text in
        script_more first (bytes "C SPDM" ++ (hex_digit m.channel ∷ [])) (going_text m ++ t)
        (unbroken_both (bytes "C SPDM") (hex_digit m.channel ∷ []) (unfold unbroken bytes in refl) (unbroken_hex m.channel [] (unfold unbroken in refl)))
        (select_taken first m.channel h.0) q

    setting : is_script first (lines_of (select_text m ++ (going_text m ++ t))) ≡ true → is_script first (lines_of (setting_text m ++ (select_text m ++ (going_text m ++ t)))) ≡ true
    setting q =
        unfold setting_text in
        script_more first (bytes "C SPDM" ++ (hex_digit m.channel ∷ plain_text m.speed)) (select_text m ++ (going_text m ++ t))
        (unbroken_both (bytes "C SPDM") (hex_digit m.channel ∷ plain_text m.speed) (unfold unbroken bytes in refl) (unbroken_hex m.channel (plain_text m.speed) (unbroken_plain m.speed)))
        (setting_taken first m.channel m.speed h.0 h.3 h.4) q

wait_script : (first : Bool) (n : ℕ) (t : List ℕ) → 1 ≤ n → n ≤ 10000 → is_script first (lines_of t) ≡ true → is_script first (lines_of (wait_text n ++ t)) ≡ true
unfolding wait_text
wait_script first n t h l k =
    script_more first (bytes "T " ++ plain_text n) t (unbroken_both (bytes "T ") (plain_text n) (unfold unbroken bytes in refl) (unbroken_plain n)) (wait_taken first n h l) k

from_script : {A : Type 0} (first : Bool) (by : Adding A) (k : ℕ) (s : List ℕ) (total : A) (at : ℕ) → is_script first (lines_of (printed_from by k s total at)) ≡ true
unfolding printed_from
from_script {A} first by zero s total at = last_script first by total at (beyond_at s at) (beyond_made s at)
from_script {A} first by (suc k) s total at = go (step_at s at) (step_made s at) (λ t p. from_script first by k s t p)
  where
    go : (x : Result (Option Step) Fault) → Made at x → ((t : A) (p : ℕ) → is_script first (lines_of (printed_from by k s t p)) ≡ true)
        → is_script first (lines_of (printed_by by (printed_from by k s) total at x)) ≡ true
    go (Ok None) m rest = last_script first by total at (Ok tt) m
    go (Err f) m rest = last_script first by total at (Err f) m
    go (Ok (Some (Drive v))) m rest = move_script first v (printed_from by k s total (at + 26)) m (rest total (at + 26))
    go (Ok (Some (Wait y n))) m rest = wait_script first n (printed_from by k s (by.more total y n) (at + 11)) m.3 m.4 (rest (by.more total y n) (at + 11))

-- What is printed for a list is a script, and one line more.
pub printed_script : (first : Bool) (s : List ℕ) → is_script first (lines_of (printed s)) ≡ true
unfolding printed printed_with
printed_script first s =
    script_more first (bytes "C REM") (printed_from as_doubles 10000 s (of_int binary64 (pos 0)) 0) (unfold unbroken bytes in refl) (rem_taken first)
    (from_script first as_doubles 10000 s (of_int binary64 (pos 0)) 0)
