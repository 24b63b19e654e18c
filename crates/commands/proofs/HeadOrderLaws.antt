-- The heads that orders and refusals leave are in range. Assumes nothing.
use mathlib.Core.Path.{◌≡◌, refl}
use mathlib.Core.Bool.{Bool, true, false, cond}
use Prim.Native.Nat.{ℕ, zero, suc, ◌+◌, ◌-◌, ◌/◌, ◌%◌, ◌^◌, ◌≤◌}
use native.Mathlib.Omega.{arith}
use mathlib.Core.List.{List}
use lib.ListN.{length}
use lib.Dec.{eqb}
use borrow.Author.Tests.{eqb-false, le-leb}
use Rattle.digits.specs.Words.{is_set, with_bit, without_bit}
use Rattle.drive.specs.Numbers.{flag_bit}
use Rattle.drive.specs.Drives.{released}
use Rattle.line.specs.declared.HeadOrder.{HeadOrder}
use Rattle.line.specs.declared.HeadOrder.TheVariants.{Mode, AllReply, ClearErrors, ClearError, Pause}
use Rattle.line.specs.Made.{head_made}
use Rattle.table.specs.declared.head.Head.{Head}
use Rattle.table.specs.Layout.{table_size, with_mode, with_reply, with_errors, with_pause, with_motors}
use Rattle.table.specs.Sound.{head_in_range}
use Rattle.table.proofs.TableLaws.{motors_length}
use Rattle.table.proofs.HeadLaws.{range_parts, parts_range, range_errors}
use Rattle.commands.specs.Changing.{head_changed, releases, motors_freed}

-- The error flags stay within 0 to 15, whichever of the four bits is set or cleared.
set_bound : (k n : ℕ) → k ≤ 3 → n ≤ 15 → with_bit k n ≤ 15
unfolding with_bit
set_bound zero n h b = go (eqb (n / 1 % 2) 1) refl
  where
    go : (s : Bool) → eqb (n / 1 % 2) 1 ≡ s → cond s n (n + 1) ≤ 15
    go true e = b
    go false e = omega (arith, eqb-false (n / 1 % 2) 1 e)
set_bound (suc zero) n h b = go (eqb (n / 2 % 2) 1) refl
  where
    go : (s : Bool) → eqb (n / 2 % 2) 1 ≡ s → cond s n (n + 2) ≤ 15
    go true e = b
    go false e = omega (arith, eqb-false (n / 2 % 2) 1 e)
set_bound (suc (suc zero)) n h b = go (eqb (n / 4 % 2) 1) refl
  where
    go : (s : Bool) → eqb (n / 4 % 2) 1 ≡ s → cond s n (n + 4) ≤ 15
    go true e = b
    go false e = omega (arith, eqb-false (n / 4 % 2) 1 e)
set_bound (suc (suc (suc zero))) n h b = go (eqb (n / 8 % 2) 1) refl
  where
    go : (s : Bool) → eqb (n / 8 % 2) 1 ≡ s → cond s n (n + 8) ≤ 15
    go true e = b
    go false e = omega (arith, eqb-false (n / 8 % 2) 1 e)
set_bound (suc (suc (suc (suc k)))) n h b = absurd (omega arith)

cleared_bound : (k n : ℕ) → n ≤ 15 → without_bit k n ≤ 15
unfolding without_bit
cleared_bound k n b = go (is_set k n)
  where
    go : (s : Bool) → cond s (n - 2 ^ k) n ≤ 15
    go true = omega (arith, b)
    go false = b

-- The bit of every refusal is one of the four.
bit_bound : (n : ℕ) → flag_bit n ≤ 3
unfolding flag_bit
bit_bound n = go (eqb n 1) (eqb n 2) (eqb n 3)
  where
    go : (a b c : Bool) → cond a 0 (cond b 1 (cond c 2 3)) ≤ 3
    go true b c = omega arith
    go false true c = omega arith
    go false false true = omega arith
    go false false false = omega arith

-- A head in range with other error flags in range is in range.
errors_range : (h : Head) (n : ℕ) → head_in_range h ≡ true → n ≤ 15 → head_in_range (with_errors h n) ≡ true
errors_range h n r b =
    let p = range_parts h r in
    let errors = le-leb n 15 b in
    parts_range (with_errors h n) (search)

-- So is the head that a refusal leaves, and the one that an order of a line leaves.
pub flagged_range : (h : Head) (n : ℕ) → head_in_range h ≡ true → head_in_range (with_errors h (with_bit (flag_bit n) h.errors)) ≡ true
flagged_range h n r = errors_range h _ r (set_bound (flag_bit n) h.errors (bit_bound n) (range_errors h r))

pub changed_range : (h : Head) (o : HeadOrder) → head_in_range h ≡ true → head_made o ≡ true → head_in_range (head_changed h o) ≡ true
unfolding head_changed
changed_range h (Mode k) r m = let p = range_parts h r in parts_range (with_mode h k) (search)
changed_range h (AllReply k) r m = let p = range_parts h r in parts_range (with_reply h k) (search)
changed_range h ClearErrors r m = errors_range h 0 r (omega arith)
changed_range h (ClearError e) r m = errors_range h (without_bit e h.errors) r (cleared_bound e h.errors (range_errors h r))
changed_range h (Pause k) r m = let p = range_parts h r in parts_range (with_pause h k) (search)

-- A table whose motors are released, or left, keeps its length.
pub freed_length : (t : List ℕ) (o : HeadOrder) → length t ≡ table_size → length (motors_freed t o) ≡ table_size
freed_length t o e = go (releases o)
  where
    go : (b : Bool) → length (cond b (with_motors t released) t) ≡ table_size
    go true = motors_length released t e
    go false = e
