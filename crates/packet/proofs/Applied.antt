use mathlib.Core.Path.{◌≡◌, refl}
use mathlib.Core.List.{List, [], ◌∷◌, ◌++◌}
use Prim.Native.Nat.{ℕ}
use lib.ListN.{replicate}
use native.Mathlib.Omega.{arith}
use borrow.Author.Tests.{leb-true}
use Rattle.lists.proofs.Decided.{are_bytes}
use Rattle.crc.specs.Crc.{reduce_if, shift, shifts, crc_byte, crc_from}
use Rattle.stuffing.specs.Stuffing.{well_after}
use Rattle.reading.specs.Rules.{is_bad_checksum}
use Rattle.reading.proofs.Decided.{well}
use Rattle.packet_front.specs.Front.{length_of, id_of}
use Rattle.packet_front.specs.Header.{front_agrees, length_agrees}
use Rattle.packet_rules.specs.Shape.{verdict as shapeVerdict}
use Rattle.packet.specs.Packet.{body_of, checksum_right, WellFormed}
use Rattle.packet.specs.Verdict.{verdict, protocol2}
use Rattle.packet.specs.Burst.{Replaced, BurstDetected}
use Rattle.packet.specs.Applied.{changed_to, long_with, BurstApplied}
use Rattle.packet.proofs.Laws.{laws}

abbrev front : List ℕ
front = 0xFF ∷ 0xFF ∷ 0xFD ∷ 0x00 ∷ 0x01 ∷ 0x04 ∷ 0x00 ∷ []

abbrev end : List ℕ
end = 0xA1 ∷ 0x0C ∷ []

status_well : WellFormed (changed_to 0x55 0x00)
unfolding reduce_if shift shifts crc_byte crc_from well_after length_of body_of checksum_right front_agrees length_agrees shapeVerdict
status_well = well protocol2 laws (changed_to 0x55 0x00) refl

first_byte : Replaced front (0x55 ∷ []) (0x54 ∷ []) (0x00 ∷ end)
first_byte =
    record {
      behind = leb-true _ _ refl;
      before = leb-true _ _ refl;
      few = leb-true _ _ refl;
      as_many = refl;
      bytes = (are_bytes (0x55 ∷ []) refl, are_bytes (0x54 ∷ []) refl);
      changed = λ e. let z : ◌≡◌ {A = ℕ} 0x54 0x55 = cc in absurd (omega arith);
    }

last_byte : Replaced (front ++ 0x55 ∷ []) (0x00 ∷ []) (0xFF ∷ []) end
last_byte =
    record {
      behind = leb-true _ _ refl;
      before = leb-true _ _ refl;
      few = leb-true _ _ refl;
      as_many = refl;
      bytes = (are_bytes (0x00 ∷ []) refl, are_bytes (0xFF ∷ []) refl);
      changed = λ e. let z : ◌≡◌ {A = ℕ} 0xFF 0x00 = cc in absurd (omega arith);
    }

both_bytes : Replaced front (0x55 ∷ 0x00 ∷ []) (0xAA ∷ 0x01 ∷ []) end
both_bytes =
    record {
      behind = leb-true _ _ refl;
      before = leb-true _ _ refl;
      few = leb-true _ _ refl;
      as_many = refl;
      bytes = (are_bytes (0x55 ∷ 0x00 ∷ []) refl, are_bytes (0xAA ∷ 0x01 ∷ []) refl);
      changed = λ e. let z : ◌≡◌ {A = ℕ} 0xAA 0x55 = cc in absurd (omega arith);
    }

-- ---- of the longest

abbrev long_front_lem : List ℕ
long_front_lem = 0xFF ∷ 0xFF ∷ 0xFD ∷ 0x00 ∷ 0xFE ∷ 0x00 ∷ 0x04 ∷ []

abbrev middle : List ℕ
middle = replicate 1020 0x55

abbrev long_end : List ℕ
long_end = 0x03 ∷ 0xF8 ∷ []

long_well : WellFormed (long_with 0x55 0x55)
unfolding reduce_if shift shifts crc_byte crc_from well_after length_of body_of checksum_right front_agrees length_agrees shapeVerdict
long_well = well protocol2 laws (long_with 0x55 0x55) refl

first_of_long : Replaced long_front_lem (0x55 ∷ []) (0xAA ∷ []) (middle ++ 0x55 ∷ long_end)
first_of_long =
    record {
      behind = leb-true _ _ refl;
      before = leb-true _ _ refl;
      few = leb-true _ _ refl;
      as_many = refl;
      bytes = (are_bytes (0x55 ∷ []) refl, are_bytes (0xAA ∷ []) refl);
      changed = λ e. let z : ◌≡◌ {A = ℕ} 0xAA 0x55 = cc in absurd (omega arith);
    }

last_of_long : Replaced (long_front_lem ++ 0x55 ∷ middle) (0x55 ∷ []) (0xAA ∷ []) long_end
last_of_long =
    record {
      behind = leb-true _ _ refl;
      before = leb-true _ _ refl;
      few = leb-true _ _ refl;
      as_many = refl;
      bytes = (are_bytes (0x55 ∷ []) refl, are_bytes (0xAA ∷ []) refl);
      changed = λ e. let z : ◌≡◌ {A = ℕ} 0xAA 0x55 = cc in absurd (omega arith);
    }

detected : BurstDetected → (a d d' z : List ℕ) → Replaced a d d' z → WellFormed (a ++ (d ++ z))
    → (¬ WellFormed (a ++ (d' ++ z))) × (verdict ((a ++ (d' ++ z)) ++ 0xFF ∷ []) ≡ is_bad_checksum (id_of (a ++ (d ++ z))))
detected t a d d' z s w = (t.refused a d d' z s w, t.reported a d d' z (0xFF ∷ []) s w)

pub burst_applied : BurstApplied
burst_applied t = (
  detected t front (0x55 ∷ []) (0x54 ∷ []) (0x00 ∷ end) first_byte status_well,
  detected t (front ++ 0x55 ∷ []) (0x00 ∷ []) (0xFF ∷ []) end last_byte status_well,
  detected t front (0x55 ∷ 0x00 ∷ []) (0xAA ∷ 0x01 ∷ []) end both_bytes status_well,
  detected t long_front_lem (0x55 ∷ []) (0xAA ∷ []) (middle ++ 0x55 ∷ long_end) first_of_long long_well,
  detected t (long_front_lem ++ 0x55 ∷ middle) (0x55 ∷ []) (0xAA ∷ []) long_end last_of_long long_well,
)
