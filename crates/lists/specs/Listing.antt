-- 02 §8: what is printed for a whole list.
use Rattle.std.specs.Prelude.{ℕ, zero, suc, ◌+◌, List, ◌++◌, Option, None, Some, Result, Ok, Err, pos, Float}
use Rattle.std.specs.Float.{binary64}
use Rattle.std.specs.Float.Ieee.{add, of_int, to_unsigned}
use Rattle.steps.specs.declared.Fault.{Fault}
use Rattle.steps.specs.declared.Step.{Step}
use Rattle.steps.specs.declared.Step.TheVariants.{Drive, Wait}
use Rattle.steps.specs.Numbers.{number_of}
use Rattle.steps.specs.Steps.{step_at, beyond_at}
use Rattle.lists.specs.Lines.{opening_text, move_text, wait_text, total_text, fault_text}

-- how dwells are added: where a sum begins, the sum with a dwell more, by its double or by its number, and the number that the sum is
pub record Adding (A : Type 0) : Type 0 where
  pub none : A
  pub more : A → Float → ℕ → A
  pub number : A → ℕ

-- "the dwell total, added as doubles"
abbrev pub as_doubles : Adding Float
as_doubles = record { none = of_int binary64 (pos 0); more = λ total x n. add binary64 total x; number = λ total. to_unsigned 32 total }

-- "the whole-number sum"
abbrev pub as_numbers : Adding ℕ
as_numbers = record { none = 0; more = λ total x n. total + n; number = λ total. total }

-- "The last line printed is the dwell total"; "At a refusal .. number and offset replace the total"
abbrev pub last_text : {A : Type 0} → Adding A → A → Result Unit Fault → List ℕ
last_text by total (Ok u) = total_text (by.number total)
last_text by total (Err f) = fault_text (number_of f.cause) f.offset

-- What is printed from a step on; `rest` prints what follows it, by the total and the place after it. A move has three fields, of 4,
-- 11 and 11 bytes, and a dwell one of 11. "the steps before it stay printed"
abbrev pub printed_by : {A : Type 0} → Adding A → (A → ℕ → List ℕ) → A → ℕ → Result (Option Step) Fault → List ℕ
printed_by by rest total at (Ok None) = last_text by total (Ok tt)
printed_by by rest total at (Err f) = last_text by total (Err f)
printed_by by rest total at (Ok (Some (Drive m))) = move_text m ++ rest total (at + 26)
printed_by by rest total at (Ok (Some (Wait x n))) = wait_text n ++ rest (by.more total x n) (at + 11)

-- What is printed from a place on, where so many steps more may come. "26 a step after the 10,000th": after the last of them the list
-- ends, or is refused.
unfoldable pub printed_from : {A : Type 0} → Adding A → ℕ → List ℕ → A → ℕ → List ℕ
printed_from by zero s total at = last_text by total (beyond_at s at)
printed_from by (suc k) s total at = printed_by by (printed_from by k s) total at (step_at s at)

-- the whole of it
unfoldable pub printed_with : {A : Type 0} → Adding A → List ℕ → List ℕ
printed_with by s = opening_text ++ printed_from by 10000 s by.none 0

-- "C REM first", the steps, and the last line
unfoldable pub printed : List ℕ → List ℕ
printed s = printed_with as_doubles s

-- the total of the dwells up to where a list ends, of which `total_text` prints the number
abbrev pub total_by : {A : Type 0} → Adding A → (A → ℕ → A) → A → ℕ → Result (Option Step) Fault → A
total_by by rest total at (Ok None) = total
total_by by rest total at (Err f) = total
total_by by rest total at (Ok (Some (Drive m))) = rest total (at + 26)
total_by by rest total at (Ok (Some (Wait x n))) = rest (by.more total x n) (at + 11)

unfoldable pub total_from : {A : Type 0} → Adding A → ℕ → List ℕ → A → ℕ → A
total_from by zero s total at = total
total_from by (suc k) s total at = total_by by (total_from by k s) total at (step_at s at)

unfoldable pub total_with : {A : Type 0} → Adding A → List ℕ → A
total_with by s = total_from by 10000 s by.none 0
