-- A device with its buffers, and what it is after the events that it is handed.
use Rattle.std.specs.Prelude.{List, [], ◌∷◌, ℕ}
use Rattle.answers.specs.Refusals.{unless_refused}
use Rattle.stuffing.specs.Stuffing.{unstuff}
use Rattle.stuffing.specs.Answers.{removal_refusal, removal_out}
use Rattle.reading.specs.Reading.{Event, packet, bad_checksum}
use Rattle.packet_front.specs.Front.{id_of}
use Rattle.packet.specs.Packet.{body_of}
use Rattle.device_instructions.specs.Registered.{kept_by}
use Rattle.device_instructions.specs.declared.RegisteredWrite.{RegisteredWrite}
use Rattle.device_dispatch.specs.declared.Heard.TheVariants.{Packet, BadChecksum}
use Rattle.device.specs.Answers.{carried_table, carried_registered, call_table, call_registered, call_out}
use Rattle.device_packet.specs.Exchange.{packet_table, packet_registered, packet_body, exchange_table, exchange_registered, exchange_body, exchange_out}

pub record Device : Type 0 where
  pub table : List ℕ
  pub registered : RegisteredWrite
  -- the body buffer and the reply buffer
  pub body : List ℕ
  pub reply : List ℕ

-- the device call on a packet in two, of which the first carries out and the second has nothing to do with the table; in one; or the
-- stuffing is removed, and the device call in two gets the body
pub data Form : Type 0 where
  in_two : Form
  in_one : Form
  unstuffed : Form

-- the device after an event of the reader [D50 D54]
abbrev pub hears : Form → Device → Event → Device
hears in_two d (packet w) =
    record {
      table = packet_table d.table d.registered w d.body;
      registered = packet_registered d.table d.registered w d.body;
      body = packet_body d.table d.registered w d.body;
      reply = d.reply;
    }
hears in_two d (bad_checksum id) =
    record {
      table = carried_table d.table d.registered BadChecksum id [];
      registered = carried_registered d.table d.registered BadChecksum id [];
      body = d.body;
      reply = d.reply;
    }
hears in_one d (packet w) =
    record {
      table = exchange_table d.table d.registered w d.body d.reply;
      registered = exchange_registered d.table d.registered w d.body d.reply;
      body = exchange_body d.table d.registered w d.body d.reply;
      reply = exchange_out d.table d.registered w d.body d.reply;
    }
hears in_one d (bad_checksum id) =
    record {
      table = call_table d.table d.registered BadChecksum id [] d.reply;
      registered = call_registered d.table d.registered BadChecksum id [] d.reply;
      body = d.body;
      reply = call_out d.table d.registered BadChecksum id [] d.reply;
    }
hears unstuffed d (packet w) =
    record {
      table = unless_refused (removal_refusal (body_of w) d.body) d.table (carried_table d.table d.registered Packet (id_of w) (unstuff (body_of w)));
      registered = kept_by (removal_refusal (body_of w) d.body) d.registered (carried_registered d.table d.registered Packet (id_of w) (unstuff (body_of w)));
      body = removal_out (body_of w) d.body;
      reply = d.reply;
    }
hears unstuffed d (bad_checksum id) =
    record {
      table = carried_table d.table d.registered BadChecksum id [];
      registered = carried_registered d.table d.registered BadChecksum id [];
      body = d.body;
      reply = d.reply;
    }

-- each event in its order
unfoldable pub hears_all : Form → Device → List Event → Device
hears_all form d [] = d
hears_all form d (e ∷ es) = hears_all form (hears form d e) es
