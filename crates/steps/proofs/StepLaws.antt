-- The fields of a move. Assumes nothing.
use mathlib.Core.Path.{◌≡◌, refl}
use mathlib.Core.List.{List}
use mathlib.Core.Bool.{Bool, true, false}
use Prim.Native.Nat.{ℕ, ◌+◌, ◌≤◌}
use native.Mathlib.Omega.{arith}
use lib.Dec.{eqb}
use lib.ListN.{length}
use lib.Ieee.{Float}
use Rattle.std.specs.Prelude.{Result, Ok, Err}
use Rattle.steps.specs.declared.SetPoint.{SetPoint}
use Rattle.steps.specs.declared.Fault.{Fault}
use Rattle.steps.specs.Fields.{frame_at, double_at}
use Rattle.steps.specs.Steps.{and_then, aim_of, aim_at, is_distance}
use Rattle.steps.specs.Parts.{double_in}
use Rattle.steps.proofs.FieldLaws.{good_other}

-- a target or a distance is made anew of its kind and its double
remade : (relative : Bool) (x : Float) → aim_of (is_distance (aim_of relative x)) (double_in (aim_of relative x)) ≡ aim_of relative x
remade true x = refl
remade false x = refl

pub aim_there : (s : List ℕ) (at : ℕ) (p : SetPoint) → Ok p ≡ aim_at s at → (at + 11 ≤ length s) × (aim_of (is_distance p) (double_in p) ≡ p)
unfolding aim_at
aim_there s at p e = go (frame_at 2 3 s at) refl e
  where
    go : (r : Result ℕ Fault) → frame_at 2 3 s at ≡ r → Ok p ≡ and_then r (λ tag. Ok (aim_of (eqb tag 3) (double_at s at)))
        → (at + 11 ≤ length s) × (aim_of (is_distance p) (double_in p) ≡ p)
    go (Ok tag) z h =
        let same : p ≡ aim_of (eqb tag 3) (double_at s at) = cc in
        (good_other 2 3 s at tag (omega arith) (omega arith) cc, rw same (remade (eqb tag 3) (double_at s at)))
    go (Err f) z h = absurd cc
