-- The demands hold of the four calls as they are defined. Assumes nothing.
use Rattle.laws.specs.Sequences.{urqolina}
use Rattle.laws.specs.Demands.{Demands}
use Rattle.laws.proofs.NumberLaws.{numbers}
use Rattle.laws.proofs.NeighbourLaws.{neighbours}
use Rattle.laws.proofs.ChangeLaws.{changes}
use Rattle.laws.proofs.AnswerLaws.{replies}
use Rattle.laws.proofs.ReadBackLaws.{reads_back}
use Rattle.laws.proofs.SettledLaws.{settled_so}
use Rattle.laws.proofs.ContactLaws.{contacts_so}
use Rattle.laws.proofs.LastingLaws.{lasting}
use Rattle.laws.proofs.PulseLaws.{demand_3}
use Rattle.laws.proofs.SharedLaws.{shared_so}
use Rattle.laws.proofs.LastTickLaws.{last_tick_law}

pub demands : Demands urqolina
demands =
    record {
      numbers = numbers;
      changes = changes;
      replies = replies;
      neighbours = neighbours;
      read_back = reads_back;
      settled = settled_so;
      contacts = contacts_so;
      lasting = lasting;
      pulses = demand_3;
      shared = shared_so;
      last_tick = last_tick_law;
    }
