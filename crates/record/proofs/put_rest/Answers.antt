-- `record::put_rest` meets its contract. Assumes nothing.
use Rattle.std.proofs.Common.{◌≡◌, ℕ, List, ◌++◌, [], ◌∷◌, length, take, drop, set, replicate, refl, ◌∙◌, arith, rules, length-set, length-take, length-drop}
use Rattle.digits.specs.Bytes.{put, joined}
use Rattle.digits.proofs.PutLaws.{put_lent, put_after, stores_put}
use Rattle.record.proofs.put_rest.Goals as goal

-- a byte, and zeros up to the end
filled : (s : List ℕ) (v : ℕ) → length s ≡ 64
    → take 45 (set s 44 v) ++ (replicate 19 0 ++ drop 19 (drop 45 (set s 44 v))) ≡ put s 44 (v ∷ replicate 19 0)
filled s v e =
    let byte : set s 44 v ≡ put s 44 (v ∷ []) = stores_put (v ∷ []) s 44 (omega arith) in
    put_lent (set s 44 v) (replicate 19 0) 45 19 refl ∙ rw byte (put_after s (v ∷ []) (replicate 19 0) 44 (omega arith))

pub returns : goal.returns
unfolding joined
returns c =
    let a = c.args in
    let t = set a.b.now 44 a.m.wiring.read in
    let n : length (take 19 (drop 45 t)) ≡ 19 = rw (length-take, length-drop, length-set) (omega arith) in
    rw (c.fill.ensures.after (search rules), n) (filled a.b.now a.m.wiring.read (omega arith))
