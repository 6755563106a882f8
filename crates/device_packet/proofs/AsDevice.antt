-- By what removing the stuffing says.
use Rattle.device_packet.specs.AsDevice.{AsDevice}

pub as_device : AsDevice
as_device =
    record {
      passed_on = λ table w packet body out e.
          record {
            answer = rw e;
            new_table = rw e;
            registered = rw e;
            reply = rw e;
            new_body = rw e;
            first_answer = rw e;
            first_reply = rw e;
            first_table = rw e;
            first_registered = rw e;
            first_body = rw e;
          };
      stopped = λ table w packet body out number e.
          record {
            answer = rw e;
            same_table = rw e;
            same_registered_lem = rw e;
            same_reply = rw e;
            same_body = rw e;
            first_answer = rw e;
            first_reply = rw e;
            first_table = rw e;
            first_registered = rw e;
            first_body = rw e;
          };
    }
