-- `text::decimal::write_signed` meets its contract: the sign is written first, and what the part after it is left with is put
-- after the sign. Assumes nothing.
use Prim.Native.Nat.{ℕ, ◌+◌, ◌≤◌}
use mathlib.Core.List.{List}
use native.Mathlib.Omega.{arith}
use lib.ListN.{length, set, length-set, length-take, length-drop}
use Rattle.text.specs.Text.{decimal, distance, sign_byte, signed_decimal}
use Rattle.digits.proofs.PutLaws.{put_rest, put_front}
use Rattle.text.proofs.TextLaws.{length_signed}
use Rattle.text.proofs.decimal.write_signed.Goals as goal

-- there is room for the sign and the digits
room : (o : List ℕ) (least place : ℕ) → length (signed_decimal least place) ≤ length o → 1 + length (decimal least (distance place)) ≤ length o
room o least place h = omega (arith, length_signed least place)

pub bounds-out-0 : goal.bounds-out-0
bounds-out-0 c = omega (arith, room c.args.out.now c.args.least c.args.place c.requires)

pub slice_bounds-write_decimal-count : goal.slice_bounds-write_decimal-count
slice_bounds-write_decimal-count c = simp length-set (omega (arith, room c.args.out.now c.args.least c.args.place c.requires))

pub slice_bounds-write_decimal-start : goal.slice_bounds-write_decimal-start
slice_bounds-write_decimal-start c = simp length-set (omega (arith, room c.args.out.now c.args.least c.args.place c.requires))

pub write_decimal-requires : goal.write_decimal-requires
write_decimal-requires c =
    rw c.distance_of.ensures
    (simp (length-take, length-drop, length-set) (omega (arith, room c.args.out.now c.args.least c.args.place c.requires)))

pub overflow_add-result : goal.overflow_add-result
overflow_add-result c =
    omega (arith, rw c.distance_of.ensures at c.write_decimal.ensures.count, room c.args.out.now c.args.least c.args.place c.requires)

pub returns : goal.returns
unfolding signed_decimal
returns c =
    let a = c.args in
    let signed = set a.out.now 0 c.sign_of.result in
    let digits = decimal a.least (distance a.place) in
    let fits : 1 + length digits ≤ length signed = simp length-set (room c.args.out.now c.args.least c.args.place c.requires) in
    record {
      count = rw length_signed (omega (arith, rw c.distance_of.ensures at c.write_decimal.ensures.count));
      buffer =
          rw (
            c.write_decimal.ensures.buffer,
            c.distance_of.ensures,
            put_rest signed digits 1 fits,
            c.sign_of.ensures,
          )
          (put_front a.out.now digits (sign_byte a.place) (omega (arith, room c.args.out.now c.args.least c.args.place c.requires)));
    }
