-- Each call's promise admits one outcome only. The premises are the promises of src/lib.rt word for word, of two outcomes of the
-- same call; the conclusion is that the results are the same, and the bytes in every buffer. Assumes nothing.
use mathlib.Core.Path.{◌≡◌, ap, sym, ◌∙◌}
use mathlib.Core.List.{List}
use Prim.Native.Nat.{ℕ}
use Rattle.urqolina.specs.Calls.{TableAfter, fresh_call, command_call, reading_call, tick_call}

-- two outcomes that are the same have the same result and the same bytes
same_table : (a b : TableAfter) → a ≡ b → (a.result ≡ b.result) × (a.table ≡ b.table)
same_table a b e = (ap (λ x. x.result) e, ap (λ x. x.table) e)

pub fresh_one : (t : List ℕ) (card r s : ℕ) (u v : List ℕ) → record { result = r; table = u } ≡ fresh_call t card → record { result = s; table = v } ≡ fresh_call t card
    → (r ≡ s) × (u ≡ v)
fresh_one t card r s u v p q = same_table _ _ (p ∙ sym q)

pub reading_one : (t : List ℕ) (c n : ℕ) (r s : ℕ) (u v : List ℕ) → record { result = r; table = u } ≡ reading_call t c n
    → record { result = s; table = v } ≡ reading_call t c n → (r ≡ s) × (u ≡ v)
reading_one t c n r s u v p q = same_table _ _ (p ∙ sym q)

pub command_one : (t line reply : List ℕ) (r s : ℕ) (u v x y : List ℕ) → record { result = r; table = u; reply = x } ≡ command_call t line reply
    → record { result = s; table = v; reply = y } ≡ command_call t line reply → (r ≡ s) × (u ≡ v) × (x ≡ y)
command_one t line reply r s u v x y p q =
    let e = p ∙ sym q in
    (ap (λ a. a.result) e, ap (λ a. a.table) e, ap (λ a. a.reply) e)

pub tick_one : (t pulses : List ℕ) (r s : ℕ) (u v x y : List ℕ) → record { result = r; table = u; pulses = x } ≡ tick_call t pulses
    → record { result = s; table = v; pulses = y } ≡ tick_call t pulses → (r ≡ s) × (u ≡ v) × (x ≡ y)
tick_one t pulses r s u v x y p q =
    let e = p ∙ sym q in
    (ap (λ a. a.result) e, ap (λ a. a.table) e, ap (λ a. a.pulses) e)
