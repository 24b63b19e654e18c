-- Laws of lines, for every list of bytes. Assumes nothing.
use Rattle.std.specs.Prelude.{Some, None}
use mathlib.Core.Path.{◌≡◌}
use mathlib.Core.List.{List}
use mathlib.Core.Bool.{false}
use Prim.Native.Nat.{ℕ, ◌<◌}
use lib.ListN.{length}
use native.Mathlib.Omega.{arith}
use lib.Dec.{eqb}
use borrow.Author.Tests.{lt-leb, ne_eqb}
use Rattle.line.specs.declared.Fields.{Fields}
use Rattle.line.specs.declared.Order.{Order}
use Rattle.line.specs.Forms.{complete, order_of}

-- "0 to 80 bytes .. longer is 1"
pub too_long : (s : List ℕ) → 80 < length s → order_of s ≡ None
unfolding order_of
too_long s h = rw (lt-leb (length s) 80 h)

-- Nothing may follow the fields of a form, whatever they are: a selection with rubbish after it is no selection.
pub no_rubbish : (o : Fields → Order) (f : Fields) (s : List ℕ) (at : ℕ) → at < length s → complete o s (Some (f, at)) ≡ None
no_rubbish o f s at h = rw (lt_ne at (length s) h)
  where
    lt_ne : (a b : ℕ) → a < b → eqb a b ≡ false
    lt_ne a b h = ne_eqb a b (λ e. omega arith)
