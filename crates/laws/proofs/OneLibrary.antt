-- No wrong library meets the demands: whatever meets them leaves, after every call on every table, what ours leaves. Assumes
-- nothing.
use Rattle.std.specs.Prelude.{Option, Some, None}
use mathlib.Core.Path.{◌≡◌, refl, sym, ◌∙◌}
use mathlib.Core.List.{List}
use mathlib.Core.Bool.{Bool, true, false, ◌&&◌, false≢true}
use Prim.Native.Nat.{ℕ, ◌%◌, ◌≤◌}
use lib.ListN.{length}
use lib.Dec.{eqb, leb}
use borrow.Author.Tests.{leb-true, le-leb, eqb-true, eq-eqb}
use Rattle.motor.proofs.SoundLaws.{and_r}
use Rattle.drive.specs.Numbers.{number_of, is_refusal}
use Rattle.line.specs.declared.Question.{Question}
use Rattle.line.specs.declared.HeadQuestion.{HeadQuestion}
use Rattle.line.specs.declared.Order.{Order}
use Rattle.line.specs.declared.Order.TheVariants.{Go, Stop, StopAll, ChangeSpeed, Set, Ask, AskHead, ForHead}
use Rattle.line.specs.Forms.{order_of}
use Rattle.table.specs.Layout.{table_size, head_of}
use Rattle.table.specs.Sound.{sound_table}
use Rattle.commands.specs.Judging.{judge}
use Rattle.obeying.specs.Taking.{order_in}
use Rattle.obeying.proofs.NumberLaws.{refused_judged}
use Rattle.urqolina.proofs.CallLaws.{sizes_card}
use Rattle.laws.specs.Sequences.{Library, urqolina, Call, command, reading, tick, After, after}
use Rattle.laws.specs.ReadBack.{is_some}
use Rattle.laws.specs.Numbers.{sizes_right, asks}
use Rattle.laws.specs.Demands.{Demands}
use Rattle.laws.proofs.CallWays.{on_card_law}
use Rattle.laws.proofs.DemandLaws.{demands}

-- Two outcomes with the same result, table and buffer are the same.
same_after : (a b : After) → a.result ≡ b.result → a.table ≡ b.table → a.buffer ≡ b.buffer → a ≡ b
same_after a b r t u = rw (r, t, u)

-- A read, or another order.
data Asked : Order → Type 0 where
  asks_channel : (x : ℕ) (q : Question) → Asked (Ask x q)
  asks_head : (q : HeadQuestion) → Asked (AskHead q)
  unasked : (o : Order) → asks o ≡ false → Asked o

asked : (o : Order) → Asked o
unfolding asks
asked (Go x s) = unasked (Go x s) refl
asked (Stop x flags) = unasked (Stop x flags) refl
asked (StopAll flags) = unasked (StopAll flags) refl
asked (ChangeSpeed x v) = unasked (ChangeSpeed x v) refl
asked (Set x s) = unasked (Set x s) refl
asked (Ask x q) = asks_channel x q
asked (AskHead q) = asks_head q
asked (ForHead h) = unasked (ForHead h) refl

module _ (l : Library) (d : Demands l) where
  -- a line on a sound table, with the sizes right
  module _ (t line reply : List ℕ) (e : sizes_right t (command line reply) ≡ true) (s : sound_table t ≡ true) where
    enough : 32 ≤ length reply
    enough = leb-true 32 (length reply) (and_r (eqb (length t) table_size) (leb 32 (length reply)) e)

    -- Where the tables are the same, the result and the reply of a line that is no read are.
    from_table : is_some asks (order_in t line) ≡ false → (l.command t line reply).table ≡ (urqolina.command t line reply).table
        → after l t (command line reply) ≡ after urqolina t (command line reply)
    unfolding after
    from_table n u =
        let mine = (d.replies t line reply s enough).others n in
        let ours = (demands.replies t line reply s enough).others n in
        same_after _ _ (mine.0 ∙ rw u (sym ours.0)) u (mine.1 ∙ rw u (sym ours.1))

    -- A refusal with the number n leaves the same table.
    refused_table : (n : ℕ) → is_refusal n ≡ true → (l.command t line reply).result % 256 ≡ n → (urqolina.command t line reply).result % 256 ≡ n
        → (l.command t line reply).table ≡ (urqolina.command t line reply).table
    refused_table n h p q = d.numbers.flags t line reply n h p ∙ sym (demands.numbers.flags t line reply n h q)

    ordered : (o : Order) → order_in t line ≡ Some o → Asked o → after l t (command line reply) ≡ after urqolina t (command line reply)
    ordered _ q (asks_channel x k) =
        let asked = on_card_law (head_of t).card (order_of line) (Ask x k) q in
        (d.replies t line reply s enough).reads x k asked ∙ sym ((demands.replies t line reply s enough).reads x k asked)
    ordered _ q (asks_head k) = (d.replies t line reply s enough).head_reads k q ∙ sym ((demands.replies t line reply s enough).head_reads k q)
    ordered o q (unasked _ n) = from_table (rw q n) (go (eqb (number_of (judge t o)) 0) refl)
      where
        go : (b : Bool) → eqb (number_of (judge t o)) 0 ≡ b → (l.command t line reply).table ≡ (urqolina.command t line reply).table
        go true z =
            let done = eqb-true (number_of (judge t o)) 0 z in
            d.changes.orders t line reply o e s q done ∙ sym (demands.changes.orders t line reply o e s q done)
        go false z =
            refused_table (number_of (judge t o)) (refused_judged t o z)
            (d.numbers.judged t line reply o e s q) (demands.numbers.judged t line reply o e s q)

    lined : (p : Option Order) → order_in t line ≡ p → after l t (command line reply) ≡ after urqolina t (command line reply)
    lined (Some o) q = ordered o q (asked o)
    lined None q =
        from_table (rw q refl)
        (refused_table 1 refl (d.numbers.formless t line reply e s q) (demands.numbers.formless t line reply e s q))

  -- a call on a sound table, with the sizes right
  accepted : (t : List ℕ) (k : Call) → sizes_right t k ≡ true → sound_table t ≡ true → after l t k ≡ after urqolina t k
  accepted t (command line reply) e s = lined t line reply e s (order_in t line) refl
  accepted t (reading c n) e s =
      same_after _ _ (d.numbers.done t (reading c n) refl e s ∙ sym (demands.numbers.done t (reading c n) refl e s))
      (unfold after in d.changes.readings t c n e s ∙ sym (demands.changes.readings t c n e s)) (unfold after in refl)
  accepted t (tick p) e s =
      let mine = d.changes.ticks t p e s in
      let ours = demands.changes.ticks t p e s in
      same_after _ _ (d.numbers.done t (tick p) refl e s ∙ sym (demands.numbers.done t (tick p) refl e s))
      (unfold after in mine.0 ∙ sym ours.0) (unfold after in mine.1 ∙ sym ours.1)

  -- Every call, on any table and with any inputs, leaves what ours leaves.
  pub one_library : (t : List ℕ) (k : Call) → after l t k ≡ after urqolina t k
  one_library t k = go (sizes_right t k) refl (sound_table t) refl
    where
      go : (a : Bool) → sizes_right t k ≡ a → (b : Bool) → sound_table t ≡ b → after l t k ≡ after urqolina t k
      go false e b s = d.numbers.sizes t k e ∙ sym (demands.numbers.sizes t k e)
      go true e false s = d.numbers.unsound t k e s ∙ sym (demands.numbers.unsound t k e s)
      go true e true s = accepted t k e s

  pub one_fresh : (b : List ℕ) (card : ℕ) → l.fresh b card ≡ urqolina.fresh b card
  one_fresh b card = go (eqb (length b) table_size && leb card 1) refl
    where
      go : (a : Bool) → (eqb (length b) table_size && leb card 1) ≡ a → l.fresh b card ≡ urqolina.fresh b card
      go true e = let w = sizes_card b card e in d.numbers.fresh_made b card w.0 w.1 ∙ sym (demands.numbers.fresh_made b card w.0 w.1)
      go false e =
          let w : (length b ≡ table_size) × (card ≤ 1) → ⊥ = λ h. false≢true (sym e ∙ rw (eq-eqb (length b) table_size h.0) (le-leb card 1 h.1)) in
          d.numbers.fresh_refused b card w ∙ sym (demands.numbers.fresh_refused b card w)
