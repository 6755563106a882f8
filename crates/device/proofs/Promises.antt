-- The promises over all calls, each proved in a file of its own.
use Rattle.device.specs.Promises.{DevicePromises}
use Rattle.device.proofs.Demand1.{demand_1}
use Rattle.device.proofs.Written.{status_written, slot_within}
use Rattle.device.proofs.ActionLimits.{action_needs_same_limits}

pub device_promises : DevicePromises
device_promises =
    record {
      demand_1 = demand_1;
      status_written = status_written;
      slot_within = slot_within;
      action_needs_same_limits = action_needs_same_limits;
    }
