-- `running::run_line` meets its contract. Assumes nothing.
use Prim.Native.Char.{code}
use Rattle.std.proofs.Common.{arith}
use Rattle.jobs.specs.Jobs.{job_of}
use Rattle.jobs.proofs.OutLaws.{wrote_byte}
use Rattle.running.specs.Running.{line_done}
use Rattle.running.proofs.RunLaws.{job_within}
use Rattle.running.proofs.run_line.Goals as goal

pub returns : goal.returns
unfolding line_done
returns c =
    let w = c.run_job-n.ensures in
    let a = c.args in
    let room = job_within a.table.now a.line.now (job_of a.first a.line.now) in
    record { table = w.table; text = wrote_byte _ _ _ (code "\n") _ (omega (arith, w.text.count)) w.text }
