-- The third demand is met.
use Rattle.demands.specs.Passing.{Demand3}
use Rattle.demands.proofs.PassingExactly.{passed_exactly}
use Rattle.demands.proofs.PassingEncoded.{encoded_passes}
use Rattle.demands.proofs.PassingRecord.{record-holds_key}
use Rattle.demands.proofs.PassingDamage.{damage-answered}

pub demand_3 : Demand3
demand_3 =
    record {
      exactly = passed_exactly;
      encoded = encoded_passes;
      recorded = record-holds_key;
      damaged = damage-answered;
    }
