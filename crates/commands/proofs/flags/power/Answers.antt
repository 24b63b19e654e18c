-- `commands::flags::power` meets its contract. Assumes nothing.
use native.Mathlib.Omega.{arith}
use Prim.Native.Nat.{◌^◌, ◌≤◌}
use Rattle.commands.proofs.FlagLaws.{flag_worth}
use Rattle.commands.proofs.flags.power.Goals as goal

pub returns : goal.returns
returns c = let p : 2 ^ c.args.k ≤ 8 = flag_worth c.args.k c.requires in (omega (arith, p), omega (arith, p))
