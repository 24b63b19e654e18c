-- `running::run_job` meets its contract. Assumes nothing.
use Prim.Native.Char.{code}
use Rattle.std.proofs.Common.{[], refl, sym, ◌∙◌, arith}
use Rattle.text.specs.Text.{bytes}
use Rattle.jobs.proofs.OutLaws.{wrote_none, wrote_byte}
use Rattle.running.proofs.run_job.Goals as goal

pub returns-in-None : goal.returns-in-None
unfolding bytes
returns-in-None c =
    let out = c.args.out.now in
    rw (sym c.job_of.ensures ∙ c.in-None.is) (record { table = refl; text = wrote_byte out out [] (code "?") 0 (omega arith) (wrote_none out) })
