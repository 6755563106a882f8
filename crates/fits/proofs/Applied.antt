use mathlib.Core.List.{List, [], ◌∷◌, ◌++◌}
use Prim.Native.Nat.{ℕ}
use lib.ListN.{take, replicate}
use Rattle.lists.specs.Numbers.{number_at, bytes_of}
use Rattle.crc.specs.Crc.{reduce_if, shift, shifts, crc_byte, crc_from}
use Rattle.stuffing.specs.Stuffing.{stuff_after, well_after, unstuff_after}
use Rattle.stuffing.specs.Answers.{removal_refusal}
use Rattle.reading.specs.Reading.{read_fuel, read_from, reading}
use Rattle.reading.specs.Calls.{feed, first, fed, call}
use Rattle.packet_front.specs.Front.{length_of}
use Rattle.packet_front.specs.Header.{front_agrees, length_agrees}
use Rattle.packet_rules.specs.Shape.{verdict as shapeVerdict}
use Rattle.packet.specs.Packet.{body_of, checksum_right}
use Rattle.packet_encoder.specs.Writing.{with_checksum, packet_of}
use Rattle.packet_encoder.specs.Encoding.{encode_refusal}
use Rattle.packet_v1.specs.Packet.{up_to, last_of_p1, sum, checksum_right as sumRight}
use Rattle.packet_v1.specs.Verdict.{front_agrees as frontAgreesV1, length_agrees as lengthAgreesV1}
use Rattle.packet_encoder_v1.specs.Writing.{packet_of as packetOfV1}
use Rattle.packet_encoder_v1.specs.Encoding.{encode_refusal as encodeRefusalV1}
use Rattle.packet_protocols.specs.declared.Protocol.TheVariants.{Two, One, Mercury}
use Rattle.reader_records.specs.Records.{step_in, left_in, lent}
use Rattle.reader_plain.specs.Next.{next_event}
use Rattle.log_index.specs.Last.{last_packet, last_from, index_from}
use Rattle.log_layout.specs.Log.{laid, directory, log_of}
use Rattle.log_layout.specs.Layout.{numbers, entries, chained, none_above, header_right, laid_out}
use Rattle.log_layout.specs.Samples.{ping_to_1, ping_to_2}
use Rattle.log_writer.specs.Writing.{sum as sum_of, cut, write_refusal}
use Rattle.line_log.specs.Question.{last_answer, last_refusal}
use Rattle.log_kept.specs.Kept.{kept, dropped}
use Rattle.log_salvage.specs.Report.{differing}
use Rattle.log_salvage.specs.Salvage.{salvage_refusal}
use Rattle.table_registers.specs.Registers.{registers, permits_by, every_byte}
use Rattle.table_items.specs.Items.{value_at, put}
use Rattle.table_rules.specs.Rules.{every_touched, goal_inside, limits_kept, read_rule}
use Rattle.table_access.specs.Fresh.{freshened}
use Rattle.device_parameters.specs.Entries.{occurs, search_from}
use Rattle.device_instructions.specs.Instructions.{read}
use Rattle.device_dispatch.specs.Reactions.{heard_instruction}
use Rattle.device_dispatch.specs.declared.Heard.TheVariants.{Packet}
use Rattle.device_status.specs.Sending.{status_refusal}
use Rattle.device_status.specs.Applied.{longest as longestReply}
use Rattle.device.specs.Device.{executed}
use Rattle.device.specs.Answers.{state_refusal, room_refusal, call_refusal}
use Rattle.device_packet.specs.Exchange.{id_heard}
use Rattle.board.specs.Board.{lent_refusal, outcome, reader_left}
use Rattle.board.specs.Numbers.{board_step}
use Rattle.plan.specs.Goals.{goals_within, goals_refusal}
use Rattle.plan.specs.Planner.{entries_from, list_bytes, packets_from, plan_refusal}
use Rattle.plan.specs.Samples.{two_goals}
use Rattle.fits.specs.Fits.{StepFits}
use Rattle.fits.specs.Applied.{lacking, next_of, Stepped, StepsFitApplied, registered, table, board, ping_to_all, BoardFitsApplied, marked, read_limits, read_limits_packet, DeviceFitsApplied, segment, EventFitsApplied, file, FoundFitsApplied, SalvagedFitsApplied, CountsFitApplied}

two : StepFits Two 1031 1030 → Stepped 1030 1031
unfolding step_in left_in first fed call reduce_if shift shifts crc_byte crc_from well_after length_of body_of checksum_right front_agrees length_agrees shapeVerdict
two t =
    record {
      taken = t.taken (lacking 2 Two) (next_of 2 Two);
      count = t.count (lacking 1 Two) (next_of 1 Two);
      held = t.held (lacking 2 Two) (next_of 2 Two);
      refused = t.held (lent [] 2000) (feed []);
    }

one : StepFits One 259 258 → Stepped 258 259
unfolding step_in left_in first fed call sum sumRight frontAgreesV1 lengthAgreesV1 shapeVerdict
one t =
    record {
      taken = t.taken (lacking 2 One) (next_of 2 One);
      count = t.count (lacking 1 One) (next_of 1 One);
      held = t.held (lacking 2 One) (next_of 2 One);
      refused = t.held (lent [] 2000) (feed []);
    }

mercury : StepFits Mercury 259 258 → Stepped 258 259
unfolding step_in left_in first fed call sum sumRight frontAgreesV1 lengthAgreesV1 shapeVerdict
mercury t =
    record {
      taken = t.taken (lacking 2 Mercury) (next_of 2 Mercury);
      count = t.count (lacking 1 Mercury) (next_of 1 Mercury);
      held = t.held (lacking 2 Mercury) (next_of 2 Mercury);
      refused = t.held (lent [] 2000) (feed []);
    }

pub steps_fit_applied : StepsFitApplied
steps_fit_applied t = (two t.two, one t.one, mercury t.mercury)

pub board_fits_applied : BoardFitsApplied
unfolding board_step outcome reader_left lent_refusal state_refusal first fed call unstuff_after registers freshened put bytes_of heard_instruction executed reduce_if shift shifts crc_byte crc_from well_after length_of body_of checksum_right front_agrees length_agrees shapeVerdict
board_fits_applied t = (
  t.taken (board (lent [] 0)) (feed ping_to_all),
  t.count (board (lacking 1 Two)) (next_of 1 Two),
  t.held (board (lacking 2 Two)) (next_of 2 Two),
  t.held (board (lent [] 2000)) (feed []),
  t.slot (board (lent [] 0)) (feed ping_to_all),
)

pub device_fits_applied : DeviceFitsApplied
unfolding stuff_after unstuff_after with_checksum packet_of registers permits_by number_at value_at bytes_of put freshened every_byte every_touched goal_inside limits_kept read_rule read occurs search_from heard_instruction executed state_refusal room_refusal call_refusal removal_refusal id_heard reduce_if shift shifts crc_byte crc_from well_after length_of body_of checksum_right front_agrees length_agrees shapeVerdict
device_fits_applied t =
    let room : List ℕ = replicate 32 0xAA in (
      t.slot table registered registered Packet 254 (0x01 ∷ []) room,
      t.packet_slot table registered registered ping_to_all room room,
      t.waiting_slot table registered Packet 254 (0x01 ∷ []),
      t.waiting_packet_slot table registered ping_to_all room,
      t.count marked registered registered Packet 254 read_limits room,
      t.packet_count marked registered registered read_limits_packet room room,
    )

pub event_fits_applied : EventFitsApplied
unfolding read_fuel read_from next_event reduce_if shift shifts crc_byte crc_from well_after length_of body_of checksum_right front_agrees length_agrees shapeVerdict
event_fits_applied t = (t.offset segment 0, t.count segment 0, t.next segment 0)

pub found_fits_applied : FoundFitsApplied
unfolding number_at bytes_of read_fuel read_from reading last_packet laid numbers entries chained none_above header_right laid_out last_answer last_refusal reduce_if shift shifts crc_byte crc_from well_after length_of body_of checksum_right front_agrees length_agrees shapeVerdict
found_fits_applied t = (t.segment file 2, t.offset file 2)

pub salvaged_fits_applied : SalvagedFitsApplied
unfolding number_at bytes_of read_fuel read_from reading last_packet last_from index_from laid directory log_of numbers entries kept dropped differing salvage_refusal reduce_if shift shifts crc_byte crc_from well_after length_of body_of checksum_right front_agrees length_agrees shapeVerdict
salvaged_fits_applied t =
    let cut_file : List ℕ = take 1068 file in
    let output : List ℕ = replicate 1068 0xAA in
    let report : List ℕ = 0 ∷ 0 ∷ 0 ∷ 0 ∷ [] in
    (t.dropped cut_file output report, t.index cut_file output report, t.leftover cut_file output report, t.count cut_file output report)

pub counts_fit_applied : CountsFitApplied
unfolding number_at bytes_of read_fuel read_from reading last_packet last_from index_from laid directory log_of sum_of cut write_refusal stuff_after unstuff_after with_checksum packet_of encode_refusal packetOfV1 sum encodeRefusalV1 removal_refusal status_refusal goals_within goals_refusal entries_from list_bytes packets_from plan_refusal reduce_if shift shifts crc_byte crc_from well_after length_of body_of checksum_right front_agrees length_agrees shapeVerdict
counts_fit_applied t =
    record {
      longest_encoded = t.encoded 254 (replicate 1022 0x00) (replicate 1040 0xAA) 3;
      just_encoded = t.encoded 254 (0x01 ∷ []) (replicate 12 0xAA) 2;
      longest_v1 = t.encoded_v1 (up_to last_of_p1) 254 (replicate 254 0x00) (replicate 270 0xAA) 3;
      just_v1 = t.encoded_v1 (up_to last_of_p1) 254 (0x01 ∷ []) (replicate 8 0xAA) 2;
      all_unstuffed = t.unstuffed (0x01 ∷ 0x02 ∷ 0x03 ∷ []) (replicate 5 0xAA);
      just_unstuffed = t.unstuffed (0xFF ∷ 0xFF ∷ 0xFD ∷ 0xFD ∷ []) (replicate 3 0xAA);
      status = t.status longestReply (replicate 32 0xAA);
      logged = t.logged (ping_to_1 ++ ping_to_2) (10 ∷ 10 ∷ []) (replicate 1068 0xAA);
      planned = t.planned two_goals (replicate 24 0xAA);
    }
