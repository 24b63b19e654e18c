-- `jobs::texts::write_net` meets its contract. Assumes nothing.
use Prim.Native.Char.{code}
use Rattle.std.proofs.Common.{◌≡◌, ◌%◌, [], ◌∷◌, arith, set, length-set, length-take, length-drop}
use borrow.Author.Tests.{eq-eqb, ne_eqb}
use Rattle.digits.specs.Places.{origin}
use Rattle.text.specs.Text.{Wrote, hex_digit}
use Rattle.text.proofs.TextLaws.{signed_within}
use Rattle.jobs.specs.Texts.{net_text}
use Rattle.jobs.proofs.OutLaws.{wrote_none, wrote_byte, wrote_more}
use Rattle.jobs.proofs.texts.write_net.Goals as goal

pub returns-then-net-eq-ORIGIN : goal.returns-then-net-eq-ORIGIN
unfolding net_text
returns-then-net-eq-ORIGIN c =
    let zero : c.args.net ≡ origin = c.if-net-eq-ORIGIN.true in
    rw (eq-eqb _ _ zero) (wrote_none _)

pub write_signed-requires : goal.write_signed-requires
write_signed-requires c =
    simp (length-take, length-drop, length-set) (omega (arith, signed_within 1 c.args.net (omega arith)))

pub returns : goal.returns
unfolding net_text
returns c =
    let a = c.args in
    let t = a.out.now in
    let h = c.hex_digit.result in
    let digit : h ≡ hex_digit a.c = let e : a.c % 16 ≡ a.c = omega arith in rw (c.hex_digit.ensures, e) in
    let s₁ = wrote_byte t t [] (code " ") 0 (omega arith) (wrote_none t) in
    let s₂ = wrote_byte t _ _ h 1 (omega arith) s₁ in
    let head : Wrote t (set (set (set t 0 (code " ")) 1 h) 2 (code ":")) (code " " ∷ h ∷ code ":" ∷ []) 3 = wrote_byte t _ _ (code ":") 2 (omega arith) s₂ in
    let other : a.net ≡ origin → ⊥ = c.if-net-eq-ORIGIN.false in
    rw (ne_eqb _ _ other, ← digit)
    (wrote_more t _ _ _ _ 3 _ _ (simp length-set) (simp length-set (omega (arith, c.write_signed.ensures.count, signed_within 1 a.net (omega arith)))) head c.write_signed.ensures)
