-- `script::taking::Reading::take_run` meets its contract. Assumes nothing.
use Rattle.std.proofs.Common.{◌≡◌, ◌≤◌, length, take, drop}
use Rattle.script.specs.Stream.{Prints}
use Rattle.script.proofs.taking.Reading.take_run.Given as goal

abbrev pub invariant-loop-read : goal.invariant-loop-read
invariant-loop-read l = record {
  fits : l.count ≤ length l.out;
  room : l.read ≡ 0 → l.count ≡ 0;
  prints : Prints l.fn.self.first l.fn.table l.fn.self.line l.bytes (take l.count l.out) l.self.first l.table l.self.line (drop l.read l.bytes);
}
