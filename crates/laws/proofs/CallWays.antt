-- The ways that a call can go, for every table and all inputs, and the number that each of them gives. Assumes nothing.
use Rattle.std.specs.Prelude.{Option, Some, None}
use mathlib.Core.Path.{◌≡◌, refl, sym, ◌∙◌}
use mathlib.Core.List.{List}
use mathlib.Core.Bool.{Bool, true, false, ◌&&◌, cond, false≢true}
use Prim.Native.Nat.{ℕ, ◌%◌, ◌≤◌}
use native.Mathlib.Omega.{arith}
use lib.ListN.{length}
use lib.Dec.{eqb, leb}
use borrow.Author.Tests.{eq-eqb, eqb-true}
use Rattle.drive.specs.Numbers.{Verdict}
use Rattle.drive.specs.Numbers.{number_of, is_silent, is_refusal}
use Rattle.drive.specs.Drives.{switch_read}
use Rattle.pulses.specs.Ticks.{tick_motor}
use Rattle.line.specs.declared.Order.{Order}
use Rattle.line.specs.Forms.{order_of, has_form, on_card}
use Rattle.table.specs.Layout.{table_size, head_of, motor_at, with_motor, with_motors}
use Rattle.table.specs.Sound.{sound_table}
use Rattle.table.proofs.TableLaws.{sound_length}
use Rattle.commands.specs.Judging.{judge}
use Rattle.obeying.specs.Taking.{accepted, CommandAfter, order_in, refused, obeyed, taken}
use Rattle.obeying.proofs.NumberLaws.{refused_judged, refused_number, obeyed_number}
use Rattle.urqolina.specs.Calls.{refusal, TableAfter, TickAfter, command_call, reading_call, counts, tick_call}
use Rattle.urqolina.proofs.CallLaws.{sizes_channel}
use Rattle.laws.specs.Sequences.{command}
use Rattle.laws.specs.Deeds.{verdict, order_passed, order_taken}

-- What holds of a line that is refused, and of one that is obeyed, holds of the line.
pub taken_ways : (P : CommandAfter → Option Order → Type 0) (t reply : List ℕ) (p : Option Order)
    → (is_refusal (number_of (verdict t p)) ≡ true → P (refused t (verdict t p) reply) None)
    → ((o : Order) → p ≡ Some o → number_of (judge t o) ≡ 0 → P (obeyed t o reply) (Some o))
    → P (taken t p reply) (order_passed t p)
unfolding taken
taken_ways P t reply None bad good = bad (unfold number_of in refl)
taken_ways P t reply (Some o) bad good = go (accepted (judge t o)) refl
  where
    go : (b : Bool) → accepted (judge t o) ≡ b → P (cond b (obeyed t o reply) (refused t (judge t o) reply)) (cond b (Some o) None)
    go true e = good o refl (eqb-true (number_of (judge t o)) 0 e)
    go false e = bad (refused_judged t o e)

-- A line that is an order on a card is that order.
pub on_card_law : (card : ℕ) (p : Option Order) (o : Order) → on_card card p ≡ Some o → p ≡ Some o
on_card_law card None o e = e
on_card_law card (Some q) o e = go (has_form card q) e
  where
    go : (b : Bool) → cond b (Some q) None ≡ Some o → Some q ≡ Some o
    go true e = e
    go false e = let z : ◌≡◌ {A = ℕ} 0 1 = cc in absurd (omega arith)

-- And an order that a line is has a form, where the card has its form.
pub in_form : (t line : List ℕ) (o : Order) → order_of line ≡ Some o → has_form (head_of t).card o ≡ true → order_in t line ≡ Some o
in_form t line o e h = rw (e, h)

-- The same of a command on a sound table, with the order that it carries out.
pub sound_ways : (P : CommandAfter → Option Order → Type 0) (t line reply : List ℕ) → sound_table t ≡ true
    → P (record { result = 5; table = t; reply = reply }) None
    → (let v = verdict t (order_in t line) in is_refusal (number_of v) ≡ true → P (refused t v reply) None)
    → ((o : Order) → order_of line ≡ Some o → number_of (judge t o) ≡ 0 → P (obeyed t o reply) (Some o))
    → P (command_call t line reply) (order_taken t (command line reply))
unfolding command_call order_taken number_of
sound_ways P t line reply s small bad good = go (leb 32 (length reply)) refl
  where
    go : (b : Bool) → leb 32 (length reply) ≡ b → P (command_call t line reply) (cond b (order_passed t (order_in t line)) None)
    go true e = rw (eq-eqb (length t) table_size (sound_length t s), e, s) (taken_ways P t reply (order_in t line) bad (λ o e z. good o (on_card_law (head_of t).card (order_of line) o e) z))
    go false e = rw (eq-eqb (length t) table_size (sound_length t s), e) small

-- a number that changes nothing, 5 or 6: it is no refusal's, and a byte
abbrev pub Silent : ℕ → Type 0
Silent n = (is_silent n ≡ true) × (is_refusal n ≡ false) × (n ≤ 255)

-- So a result with such a number is not one with another.
pub silent_other : (k n : ℕ) → Silent k → is_silent n ≡ false → k % 256 ≡ n → ⊥
silent_other k n h i e = let same : k ≡ n = omega (arith, h.2, e) in false≢true (sym i ∙ (rw same at h.0))

-- On any table: a call is refused with such a number, or its sizes are right and the table is sound.
ways : {A : Type 0} (P : A → Type 0) (sizes : Bool) (t : List ℕ) (left : ℕ → A) (done : A)
    → ((n : ℕ) → Silent n → P (left n)) → (sizes ≡ true → sound_table t ≡ true → P done)
    → P (cond (accepted (refusal sizes t)) done (left (number_of (refusal sizes t))))
unfolding number_of
ways P false t left done bad good = bad 5 (refl, refl, omega arith)
ways P true t left done bad good = go (sound_table t) refl
  where
    go : (b : Bool) → sound_table t ≡ b → P (cond (accepted (refusal true t)) done (left (number_of (refusal true t))))
    go true s = rw s (good refl s)
    go false s = rw s (bad 6 (refl, refl, omega arith))

-- a command, a reading and a tick
pub command_ways : (P : CommandAfter → Type 0) (t line reply : List ℕ)
    → ((n : ℕ) → Silent n → P (record { result = n; table = t; reply = reply }))
    → (sound_table t ≡ true → (v : Verdict) → is_refusal (number_of v) ≡ true → P (refused t v reply))
    → (sound_table t ≡ true → (o : Order) → order_of line ≡ Some o → P (obeyed t o reply))
    → P (command_call t line reply)
unfolding command_call
command_ways P t line reply bad flag good =
    ways P (eqb (length t) table_size && leb 32 (length reply)) t (λ n. record { result = n; table = t; reply = reply }) _ bad
    (λ e s. taken_ways (λ a p. P a) t reply (order_in t line) (flag s (verdict t (order_in t line))) (λ o q z. good s o (on_card_law (head_of t).card (order_of line) o q)))

pub reading_ways : (P : TableAfter → Type 0) (t : List ℕ) (c n : ℕ)
    → ((k : ℕ) → Silent k → P (record { result = k; table = t }))
    → (sound_table t ≡ true → c ≤ 15 → P (record { result = 0; table = with_motor t c (switch_read (motor_at t c) n) }))
    → P (reading_call t c n)
unfolding reading_call number_of
reading_ways P t c n bad good =
    ways P (eqb (length t) table_size && leb c 15 && leb n 7) t (λ k. record { result = k; table = t }) _ bad
    (λ e s. good s (sizes_channel t c n e).0)

pub tick_ways : (P : TickAfter → Type 0) (t p : List ℕ)
    → ((n : ℕ) → Silent n → P (record { result = n; table = t; pulses = p }))
    → (sound_table t ≡ true → P (record { result = 0; table = with_motors t (λ m. (tick_motor m).motor); pulses = counts t }))
    → P (tick_call t p)
unfolding tick_call number_of
tick_ways P t p bad good =
    ways P (eqb (length t) table_size && eqb (length p) 64) t (λ n. record { result = n; table = t; pulses = p }) _ bad (λ e s. good s)

-- A line with the sizes right, on a sound table, gets the number of its verdict.
pub line_number : (t line reply : List ℕ) → (eqb (length t) table_size && leb 32 (length reply)) ≡ true → sound_table t ≡ true
    → (command_call t line reply).result % 256 ≡ number_of (verdict t (order_in t line))
unfolding command_call number_of
line_number t line reply e s =
    let p = order_in t line in
    rw (e, s)
    (taken_ways (λ a q. a.result % 256 ≡ number_of (verdict t p)) t reply p
    (λ h. refused_number t (verdict t p) reply)
    (λ o q z. obeyed_number t o reply ∙ sym (rw q z)))
