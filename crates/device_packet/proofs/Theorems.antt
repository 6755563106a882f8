-- Only well-formed packets are heard, and they are not refused.
use Rattle.std.specs.Prelude.{None, Option, Some}
use mathlib.Core.Path.{◌≡◌, refl, ◌∙◌}
use mathlib.Core.List.{List}
use Prim.Native.Nat.{ℕ, ◌-◌, ◌≤◌}
use native.Mathlib.Omega.{arith}
use lib.ListN.{length, drop, length-take, length-drop}
use borrow.Author.Tests.{le-leb}
use Rattle.answers.specs.declared.Refusal.{Refusal}
use Rattle.stuffing.specs.Stuffing.{unstuff}
use Rattle.stuffing.specs.Answers.{removal_refusal}
use Rattle.stuffing.proofs.Laws.{unstuff_short}
use Rattle.packet.specs.Packet.{body_of, WellFormed}
use Rattle.device.proofs.Calls.{then_room, accepts_room}
use Rattle.device.proofs.Unheard.{unheard, first_unheard}
use Rattle.device_instructions.specs.declared.RegisteredWrite.{RegisteredWrite}
use Rattle.device_dispatch.specs.declared.Heard.TheVariants.{Packet}
use Rattle.device_packet.specs.Exchange.{heard_of}
use Rattle.device_packet.specs.OnlyPackets.{Unheard, OnlyPackets}
use Rattle.device_packet.proofs.Hearing.{heard_packet, heard_nobody}

-- a well-formed packet is refused for a lack of room only
pub well_formed_fits : (packet body : List ℕ) → WellFormed packet → length (unstuff (body_of packet)) ≤ length body
    → removal_refusal (body_of packet) body ≡ None
unfolding removal_refusal
well_formed_fits packet body f room = rw (f.stuffed, le-leb (length (unstuff (body_of packet))) (length body) room)

-- and of its body there are at most 1,022 bytes
body_short : (packet : List ℕ) → WellFormed packet → length (unstuff (body_of packet)) ≤ 1022
unfolding body_of
body_short packet f =
    let u = unstuff_short (body_of packet) in
    let l = length-take (length packet - 9) (drop 7 packet) in
    let d = length-drop 7 packet in
    let n = f.counted in
    let k = f.longest in
    omega arith

module _ (table : List ℕ) (w : RegisteredWrite) (packet body out : List ℕ) where
  not_heard : ¬ WellFormed packet → Unheard table w packet body out
  not_heard bad = by_refusal (removal_refusal (body_of packet) body) refl
    where
      by_refusal : (r : Option Refusal) → removal_refusal (body_of packet) body ≡ r → Unheard table w packet body out
      by_refusal (Some number) e =
          record {
            same_table = rw e;
            same_registered_lem = rw e;
            same_reply = rw e;
            silent = rw e;
            first_table = rw e;
            first_registered = rw e;
            first_reply = rw e;
          }
      by_refusal None e =
          let u = unheard table w Packet (heard_of packet).body out in
          let v = first_unheard table w Packet (heard_of packet).body out in
          let i = heard_nobody packet bad in
          record {
            same_table = rw (e, i) u.same_table;
            same_registered_lem = rw (e, i) u.same_registered_lem;
            same_reply = rw (e, i) u.same_reply;
            silent = rw (e, i) u.silent;
            first_table = rw (e, i) v.same_table;
            first_registered = rw (e, i) v.same_registered_lem;
            first_reply = rw (e, i) v.silent;
          }

pub only_packets : OnlyPackets
only_packets =
    record {
      its_id = heard_packet;
      with_room = well_formed_fits;
      others = not_heard;
      never_refused = λ table w packet body out f room reply e.
          let short = body_short packet f in
          let r = well_formed_fits packet body f (omega arith) in
          (rw r (then_room table w out e ∙ accepts_room out reply), rw r e);
    }
