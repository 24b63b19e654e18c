-- `text::hex::write_hex_pair` meets its contract. Assumes nothing.
use mathlib.Core.Path.{◌≡◌}
use native.Mathlib.Omega.{arith}
use lib.ListN.{length}
use Rattle.digits.specs.Bytes.{put}
use Rattle.digits.proofs.PutLaws.{put_after, put_rest, put_length}
use Rattle.text.specs.Text.{hex_byte}
use Rattle.text.proofs.hex.write_hex_pair.Goals as goal

pub returns : goal.returns
unfolding hex_byte
returns c =
    let out = c.args.out.now in
    let first = hex_byte c.args.a in
    let second = hex_byte c.args.b in
    let after : length (put out 0 first) ≡ length out = put_length out 0 first (omega arith) in
    rw (c.write_hex-2.ensures, c.write_hex.ensures, put_rest (put out 0 first) second 2 (omega arith)) (put_after out first second 0 (omega arith))
