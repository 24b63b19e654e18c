-- `doubles::measure_of` meets its contract. Assumes nothing.
use mathlib.Core.Path.{◌≡◌, refl, sym, ap, ◌∙◌, subst}
use mathlib.Core.Bool.{true}
use lib.Dec.{T}
use lib.Ieee.{Float, nan, inf, fin, binary64, is_nan}
use lib.Ieee.Bits.{of_bits-to_bits}
use Rattle.std.specs.Prelude.{None}
use Rattle.doubles.specs.Doubles.{is_whole}
use Rattle.doubles.specs.Measures.{measure_of}
use Rattle.doubles.proofs.measure_of.Goals as goal

no_number : (x : Float) → is_nan x ≡ true → None ≡ measure_of x
unfolding measure_of is_whole is_nan
no_number nan h = refl
no_number (inf s) h = refl
no_number (fin s m e) h = absurd (subst T (sym h) tt)

pub returns-then-is_nan : goal.returns-then-is_nan
returns-then-is_nan c = no_number c.args.x (sym c.is_nan.ensures.value ∙ c.if-is_nan.true)

pub returns : goal.returns
returns c = c.measure_bits.ensures ∙ ap measure_of (of_bits-to_bits binary64 c.args.x (subst T (sym c.well_formed.0.1) tt))
