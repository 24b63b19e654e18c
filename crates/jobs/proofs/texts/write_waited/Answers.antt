-- `jobs::texts::write_waited` meets its contract. Assumes nothing.
use Rattle.std.proofs.Common.{◌≡◌, ◌+◌, ◌≤◌, append_assoc, append-nil, arith, get_or}
use Rattle.digits.specs.Places.{origin}
use Rattle.jobs.specs.Texts.{net_texts, waited_text, plain_text}
use Rattle.jobs.proofs.OutLaws.{wrote_more, nets_more, nets_none, net_within, waited_within}
use Rattle.std.proofs.lemmas.List.{get_or_default}
use Rattle.jobs.proofs.texts.write_waited.Goals as goal

pub loop-c-init : goal.loop-c-init
loop-c-init c = rw (nets_none, append-nil) c.write_decimal-n.ensures

pub loop-c-preserved : goal.loop-c-preserved
loop-c-preserved c =
    let nets = c.args.nets.now in
    let l = c.loop-c in
    let fits : l.n + c.write_net-n.result ≤ 256 = omega (arith, l.invariant.count, c.write_net-n.ensures.count, waited_within c.args.outcome nets l.c, net_within l.c (get_or nets l.c 0)) in
    rw (← nets_more nets l.c, get_or_default nets l.c origin 0 (omega arith), ← append_assoc (plain_text c.args.outcome) (net_texts nets l.c))
    (wrote_more _ _ _ _ _ l.n _ 256 (omega arith) fits l.invariant c.write_net-n.ensures)

pub returns : goal.returns
unfolding waited_text
returns c = let e : c.loop-c.c ≡ 16 = omega arith in rw e at c.loop-c.invariant
