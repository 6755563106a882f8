-- Both.
use Rattle.plan_laws.specs.Planned.{Planned}
use Rattle.plan_laws.proofs.Accepted.{accepted}
use Rattle.plan_laws.proofs.Fewest.{fewest}

pub planned : Planned
planned = record { accepted = accepted; fewest = fewest }
