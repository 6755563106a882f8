-- What the calls on a packet as received keep to, over all calls.
use Rattle.device_packet.specs.AsDevice.{AsDevice}
use Rattle.device_packet.specs.OnlyPackets.{OnlyPackets}

pub record ExchangePromises : Type 0 where
  pub as_device : AsDevice
  pub only_packets : OnlyPackets
