-- What demand 3 asks for is computed, and what it gives is handed on.
use Rattle.std.specs.Prelude.{None}
use mathlib.Core.Path.{◌≡◌, refl, sym, ap, ◌∙◌}
use mathlib.Core.Bool.{false}
use mathlib.Core.List.{List, [], ◌∷◌, ◌++◌, map}
use mathlib.Core.Logic.{inr}
use Prim.Native.Nat.{ℕ, ◌+◌, ◌-◌}
use native.Mathlib.Omega.{arith}
use lib.ListN.{length, take, drop, replicate}
use borrow.Author.Tests.{ltb-true}
use Rattle.reading.specs.Rules.{is_packet}
use Rattle.reading.specs.Reading.{packet, bad_checksum, EventAt, read_fuel, read_from, reading}
use Rattle.reading.specs.Calls.{feed, gap, first, fed, call}
use Rattle.reading.specs.Lists.{feeds, after, took}
use Rattle.reading.specs.Promise.{what, joined, packets_at, AllOut, since, Finished, Promised}
use Rattle.reading.specs.Across.{reaches_across}
use Rattle.reading.proofs.Decided.{EachPacket, well, all_well}
use Rattle.crc.specs.Crc.{reduce_if, shift, shifts, crc_byte, crc_from}
use Rattle.stuffing.specs.Stuffing.{well_after}
use Rattle.packet_front.specs.Front.{length_of}
use Rattle.packet_front.specs.Header.{front_agrees, length_agrees}
use Rattle.packet.specs.Packet.{body_of, checksum_right}
use Rattle.packet_rules.specs.Shape.{verdict as shapeVerdict}
use Rattle.packet_v1.specs.Packet.{sum, checksum_right as sumRight}
use Rattle.packet_v1.specs.Verdict.{front_agrees as frontAgreesV1, length_agrees as lengthAgreesV1}
use Rattle.packet_protocols.specs.declared.Protocol.{Protocol}
use Rattle.packet_protocols.specs.declared.Protocol.TheVariants.{Two, One, Mercury}
use Rattle.packet_protocols.specs.Protocols.{rules_of}
use Rattle.reader_records.specs.Records.{step_in, left_in, packet_in, records_of, ProtocolPromises}
use Rattle.reader_applications.specs.Demand3.{bad_ping, ping_to_1, write_status, bad_read, read_to_1, ping_to_252, long_front, long_front_v1, full, used, earlier, after_earlier, cut, held_back, last_lacks, followed}
use Rattle.reader_applications.specs.Demand3.{Out, ComesOut, Arriving, ByFeed, Promises, Demand3Applied, IdReported}

-- what demand 3 supposes, by tests
pub record Computed (p : Protocol) (chunks : List (List ℕ)) (g : ℕ) (noise : List ℕ) (packets : List (List ℕ)) (rest : List ℕ) : Type 0 where
  pub finished_gap : (records_of p).answer (after (records_of p) (used p) (feed (0x01 ∷ []) ∷ [])) gap ≡ None
  pub taken : took (records_of p) (after_earlier p) (since chunks g) ≡ noise ++ (joined packets ++ rest)
  pub are : EachPacket (rules_of p) packets
  pub apart : reaches_across (rules_of p) noise (joined packets ++ rest) ≡ false

-- what is asked beside that: of two packets and a finished gap
pub record ByGap (p : Protocol) (chunks : List (List ℕ)) (g : ℕ) (noise a b rest : List ℕ) (id : ℕ) : Type 0 where
  pub supposed : Computed p chunks g noise (a ∷ b ∷ []) rest
  pub finished : Finished (records_of p) (after_earlier p) chunks g
  pub read : map what (reading (rules_of p) (noise ++ (joined (a ∷ b ∷ []) ++ rest))) ≡ bad_checksum id ∷ packet a ∷ packet b ∷ []
  pub sized : length (joined (a ∷ b ∷ [])) ≡ length a + length b

-- of a packet, and one that lacks its last byte
pub record Lacking (p : Protocol) (noise a b : List ℕ) : Type 0 where
  pub supposed : Computed p (last_lacks noise a b) 0 noise (a ∷ []) (take (length b - 1) b)
  pub next : (rules_of p).verdict (take (length b - 1) b ++ drop (length b - 1) b) ≡ is_packet (length (take (length b - 1) b ++ drop (length b - 1) b))
  pub one_more_lem : length (drop (length b - 1) b) ≡ 1
  pub sized : length (joined (a ∷ [])) ≡ length a

-- of a packet, and so many 0 behind it
pub record BySize (p : Protocol) (noise a : List ℕ) (most zeros : ℕ) : Type 0 where
  pub supposed : Computed p (followed noise a most) 0 noise (a ∷ []) (replicate zeros 0)
  pub silent : (records_of p).answer (after (records_of p) (after_earlier p) (feeds (take 2 (followed noise a most)))) (feed (replicate (length noise - 1) 0)) ≡ None
  pub many : length (joined (a ∷ []) ++ replicate zeros 0) ≡ most
  pub sized : length (joined (a ∷ [])) ≡ length a

module _ (p : Protocol) (most : ℕ) (promises : ProtocolPromises p most) where
  module _ (chunks : List (List ℕ)) (g : ℕ) (noise : List ℕ) (packets : List (List ℕ)) (rest : List ℕ) where
    promised : Computed p chunks g noise packets rest → Promised (rules_of p) (records_of p) (after_earlier p) chunks g noise packets rest
    promised c =
        promises.calls.demand_3 (used p) (promises.any_fresh (full p)) earlier (inr (feed (0x01 ∷ []) ∷ [], refl, c.finished_gap)) chunks g noise packets rest c.taken (all_well (rules_of p) promises.calls.laws packets c.are)
        ((promises.calls.across_decided noise (joined packets ++ rest)).0 c.apart)

  out : (events : List EventAt) (noise : List ℕ) (packets : List (List ℕ)) (start end : ℕ) (found : List EventAt) → AllOut events (length noise) packets
      → length noise ≡ start → length noise + length (joined packets) ≡ end → packets_at (length noise) packets ≡ found
      → Out events start end found
  out events noise packets start end found o s t e =
      record {
        sooner = o.sooner;
        later = o.later;
        are = o.are ∙ ap (λ (l : List EventAt). o.sooner ++ (l ++ o.later)) e;
        in_noise = λ q x m. let h = o.begin_sooner q x m in omega arith;
        in_rest = λ q x m. let h = o.begin_later q x m in omega arith;
      }

  -- by the gap
  comes_out : (chunks : List (List ℕ)) (g : ℕ) (noise a b rest : List ℕ) (id : ℕ) → ByGap p chunks g noise a b rest id → ComesOut p chunks g noise a b id
  comes_out chunks g noise a b rest id c =
      let promise = promised chunks g noise (a ∷ b ∷ []) rest c.supposed in
      let sized = ap (λ (n : ℕ). length noise + n) c.sized in
      record {
        counted = promise.counted;
        events = sym promise.firsts ∙ ap (map what) (promise.all c.finished) ∙ ap (λ (s : List ℕ). map what (reading (rules_of p) s)) c.supposed.taken ∙ c.read;
        in_words = out _ noise (a ∷ b ∷ []) _ _ _ (promise.out_by_gap c.finished) refl sized refl;
        reads = out _ noise (a ∷ b ∷ []) _ _ _ promise.reads refl sized refl;
        only_packets = λ q e m lo hi. promise.only_packets q e m lo (omega (arith, hi, sized));
      }

  -- no gap yet
  arriving : (noise a b : List ℕ) → Lacking p noise a b → Arriving p noise a b
  arriving noise a b c =
      let promise = promised (last_lacks noise a b) 0 noise (a ∷ []) (take (length b - 1) b) c.supposed in
      let sized = ap (λ (n : ℕ). length noise + n) c.sized in
      let next = well (rules_of p) promises.calls.laws (take (length b - 1) b ++ drop (length b - 1) b) c.next in
      record {
        only_packets = λ q e m lo hi. promise.only_packets q e m lo (omega (arith, hi, sized));
        none_arriving = λ q e m. let h = promise.none_arriving refl (drop (length b - 1) b) (omega (arith, c.one_more_lem)) next q e m in omega (arith, h, sized);
      }

  -- by 1,030 bytes, or 258
  by_feed : (noise a : List ℕ) (zeros : ℕ) → BySize p noise a most zeros → ByFeed p noise a most
  by_feed noise a zeros c =
      let promise = promised (followed noise a most) 0 noise (a ∷ []) (replicate zeros 0) c.supposed in
      let many = c.many in
      out _ noise (a ∷ []) _ _ _
      (promise.out_by_feed refl (replicate (length noise - 1) 0) (feeds (take 2 (followed noise a most)), refl, c.silent)
      ((promises.followed_by (joined (a ∷ []) ++ replicate zeros 0)).1 (omega (arith, many))))
      refl (ap (λ (n : ℕ). length noise + n) c.sized) refl

two : ProtocolPromises Two 1030 → Promises Two 1030 bad_ping ping_to_1 write_status long_front (0xFF ∷ 0xFF ∷ 0xFD ∷ [])
unfolding after took step_in left_in packet_in first fed call reaches_across read_fuel read_from reading reduce_if shift shifts crc_byte crc_from well_after length_of body_of checksum_right front_agrees length_agrees shapeVerdict
two t = (
  comes_out Two 1030 t (cut bad_ping ping_to_1 write_status (0xFF ∷ 0xFF ∷ 0xFD ∷ [])) 1 bad_ping ping_to_1 write_status (0xFF ∷ 0xFF ∷ 0xFD ∷ []) 1
      (record { supposed = record { finished_gap = refl; taken = refl; are = (refl, (refl, tt)); apart = refl }; finished = (0, ltb-true _ _ refl, refl); read = refl; sized = refl }),
  comes_out Two 1030 t (held_back bad_ping long_front ping_to_1 write_status (0xFF ∷ 0xFF ∷ 0xFD ∷ [])) 4 (bad_ping ++ long_front) ping_to_1 write_status (0xFF ∷ 0xFF ∷ 0xFD ∷ []) 1
      (record { supposed = record { finished_gap = refl; taken = refl; are = (refl, (refl, tt)); apart = refl }; finished = (2, ltb-true _ _ refl, refl); read = refl; sized = refl }),
  arriving Two 1030 t bad_ping ping_to_1 write_status (record { supposed = record { finished_gap = refl; taken = refl; are = (refl, tt); apart = refl }; next = refl; one_more_lem = refl; sized = refl }),
  by_feed Two 1030 t long_front ping_to_1 1020 (record { supposed = record { finished_gap = refl; taken = refl; are = (refl, tt); apart = refl }; silent = refl; many = refl; sized = refl }),
)

one : ProtocolPromises One 258 → Promises One 258 bad_read read_to_1 ping_to_252 long_front_v1 (0xFF ∷ 0xFF ∷ [])
unfolding after took step_in left_in packet_in first fed call reaches_across read_fuel read_from reading sum sumRight frontAgreesV1 lengthAgreesV1 shapeVerdict
one t = (
  comes_out One 258 t (cut bad_read read_to_1 ping_to_252 (0xFF ∷ 0xFF ∷ [])) 1 bad_read read_to_1 ping_to_252 (0xFF ∷ 0xFF ∷ []) 1
      (record { supposed = record { finished_gap = refl; taken = refl; are = (refl, (refl, tt)); apart = refl }; finished = (0, ltb-true _ _ refl, refl); read = refl; sized = refl }),
  comes_out One 258 t (held_back bad_read long_front_v1 read_to_1 ping_to_252 (0xFF ∷ 0xFF ∷ [])) 4 (bad_read ++ long_front_v1) read_to_1 ping_to_252 (0xFF ∷ 0xFF ∷ []) 1
      (record { supposed = record { finished_gap = refl; taken = refl; are = (refl, (refl, tt)); apart = refl }; finished = (2, ltb-true _ _ refl, refl); read = refl; sized = refl }),
  arriving One 258 t bad_read read_to_1 ping_to_252 (record { supposed = record { finished_gap = refl; taken = refl; are = (refl, tt); apart = refl }; next = refl; one_more_lem = refl; sized = refl }),
  by_feed One 258 t long_front_v1 read_to_1 250 (record { supposed = record { finished_gap = refl; taken = refl; are = (refl, tt); apart = refl }; silent = refl; many = refl; sized = refl }),
)

mercury : ProtocolPromises Mercury 258 → Promises Mercury 258 bad_read read_to_1 ping_to_252 long_front_v1 (0xFF ∷ 0xFF ∷ [])
unfolding after took step_in left_in packet_in first fed call reaches_across read_fuel read_from reading sum sumRight frontAgreesV1 lengthAgreesV1 shapeVerdict
mercury t = (
  comes_out Mercury 258 t (cut bad_read read_to_1 ping_to_252 (0xFF ∷ 0xFF ∷ [])) 1 bad_read read_to_1 ping_to_252 (0xFF ∷ 0xFF ∷ []) 1
      (record { supposed = record { finished_gap = refl; taken = refl; are = (refl, (refl, tt)); apart = refl }; finished = (0, ltb-true _ _ refl, refl); read = refl; sized = refl }),
  comes_out Mercury 258 t (held_back bad_read long_front_v1 read_to_1 ping_to_252 (0xFF ∷ 0xFF ∷ [])) 4 (bad_read ++ long_front_v1) read_to_1 ping_to_252 (0xFF ∷ 0xFF ∷ []) 1
      (record { supposed = record { finished_gap = refl; taken = refl; are = (refl, (refl, tt)); apart = refl }; finished = (2, ltb-true _ _ refl, refl); read = refl; sized = refl }),
  arriving Mercury 258 t bad_read read_to_1 ping_to_252 (record { supposed = record { finished_gap = refl; taken = refl; are = (refl, tt); apart = refl }; next = refl; one_more_lem = refl; sized = refl }),
  by_feed Mercury 258 t long_front_v1 read_to_1 250 (record { supposed = record { finished_gap = refl; taken = refl; are = (refl, tt); apart = refl }; silent = refl; many = refl; sized = refl }),
)

pub demand_3_applied : Demand3Applied
demand_3_applied t = (two t.two, one t.one, mercury t.mercury)

pub id_reported : IdReported
unfolding step_in first fed call reduce_if shift shifts crc_byte crc_from well_after length_of body_of checksum_right front_agrees length_agrees shapeVerdict sum sumRight frontAgreesV1 lengthAgreesV1
id_reported = (refl, refl, refl)
