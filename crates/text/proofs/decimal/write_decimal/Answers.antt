-- `text::decimal::write_decimal` meets its contract: as many digits are written as the text is long.
-- Assumes nothing.
use mathlib.Core.Path.{◌≡◌, sym, ◌∙◌}
use Prim.Native.Nat.{ℕ}
use lib.ListN.{length}
use Rattle.std.specs.Prelude.{max}
use Rattle.text.specs.Text.{decimal, digit_count}
use Rattle.text.proofs.TextLaws.{length_decimal}
use Rattle.text.proofs.decimal.write_decimal.Goals as goal

-- the width that is written is the length of the text
width : (r d least n : ℕ) → r ≡ max least d → d ≡ digit_count n → r ≡ length (decimal least n)
width r d least n e f = e ∙ rw f (sym (length_decimal least n))

pub write_digits-requires : goal.write_digits-requires
write_digits-requires c = rw (width _ _ c.args.least c.args.n c.max-k.ensures c.digit_count.ensures) c.requires

pub returns : goal.returns
unfolding decimal
returns c =
    record {
      count = width _ _ c.args.least c.args.n c.max-k.ensures c.digit_count.ensures;
      buffer = rw (c.write_digits.ensures, c.max-k.ensures, c.digit_count.ensures);
    }
