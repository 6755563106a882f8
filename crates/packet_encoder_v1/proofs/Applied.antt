use mathlib.Core.Path.{◌≡◌, refl}
use mathlib.Core.Bool.{true}
use mathlib.Core.List.{[], ◌∷◌}
use Prim.Native.Nat.{ℕ}
use lib.ListN.{replicate}
use borrow.Author.Tests.{leb-true, ltb-true}
use Rattle.reading.specs.Rules.{is_packet}
use Rattle.reading.proofs.Decided.{well}
use Rattle.packet_rules.specs.Shape.{rules}
use Rattle.packet_rules.specs.Shape.{verdict as shapeVerdict}
use Rattle.packet_v1.specs.Packet.{up_to, last_of_p1, last_of_mercury, sum, body_of, checksum_right}
use Rattle.packet_v1.specs.Verdict.{shape_up_to, front_agrees, length_agrees}
use Rattle.packet_v1.proofs.Kept.{rules_kept}
use Rattle.packet_encoder_v1.specs.Writing.{packet_of}
use Rattle.packet_encoder_v1.specs.RoundTrip.{RoundTrip}
use Rattle.packet_encoder_v1.specs.Applied.{read_to_1, ThereAndBack, RoundTripApplied}

there_and_back : (last : ℕ) → RoundTrip (up_to last) → up_to last 1 ≡ true → up_to last 254 ≡ true → up_to last last ≡ true
    → (rules (shape_up_to last)).verdict read_to_1 ≡ is_packet 8 → ThereAndBack last
unfolding sum packet_of body_of
there_and_back last t one all end is =
    let f = well (rules (shape_up_to last)) (rules_kept last).laws read_to_1 is in
    record {
      well_formed = t.well_formed 1 (0x02 ∷ 0x2B ∷ 0x01 ∷ []) one (ltb-true _ _ refl) (leb-true _ _ refl);
      found = t.found 1 (0x02 ∷ 0x2B ∷ 0x01 ∷ []) (0xFF ∷ []) one (ltb-true _ _ refl) (leb-true _ _ refl);
      same_id = t.same_id 1 (0x02 ∷ 0x2B ∷ 0x01 ∷ []);
      same_body = t.same_body 1 (0x02 ∷ 0x2B ∷ 0x01 ∷ []);
      rewritten = t.rewritten read_to_1 f;
      accepted = t.accepted read_to_1 f;
      longest = t.well_formed 254 (replicate 254 0x00) all (ltb-true _ _ refl) (leb-true _ _ refl);
      shortest = t.well_formed last (0x00 ∷ []) end (ltb-true _ _ refl) (leb-true _ _ refl);
    }

pub round_trip_applied : RoundTripApplied
unfolding sum checksum_right front_agrees length_agrees shapeVerdict
round_trip_applied = (λ t. there_and_back last_of_p1 t refl refl refl refl, λ t. there_and_back last_of_mercury t refl refl refl refl)
