-- `digits::words::zero_front` meets its contract. Assumes nothing.
use Rattle.std.proofs.Common.{rules, length-take-le}
use Rattle.digits.specs.Bytes.{put}
use Rattle.digits.proofs.words.zero_front.Goals as goal

pub returns : goal.returns
unfolding put
returns c =
    let n = length-take-le 64 c.args.s.now c.requires in
    rw (c.fill.ensures.after (search rules), n)
