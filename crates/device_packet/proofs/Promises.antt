-- The promises over all calls.
use Rattle.device_packet.specs.Promises.{ExchangePromises}
use Rattle.device_packet.proofs.AsDevice.{as_device}
use Rattle.device_packet.proofs.Theorems.{only_packets}

pub exchange_promises : ExchangePromises
exchange_promises = record { as_device = as_device; only_packets = only_packets }
