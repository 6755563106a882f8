use Rattle.std.specs.Prelude.{None}
use mathlib.Core.Path.{◌≡◌, refl}
use mathlib.Core.List.{[], ◌∷◌}
use borrow.Author.Tests.{leb-true}
use Rattle.lists.specs.Numbers.{number_at, bytes_of}
use Rattle.crc.specs.Crc.{reduce_if, shift, shifts, crc_byte, crc_from}
use Rattle.stuffing.specs.Stuffing.{well_after}
use Rattle.reading.specs.Reading.{read_fuel, read_from, reading}
use Rattle.packet_front.specs.Front.{length_of}
use Rattle.packet_front.specs.Header.{front_agrees, length_agrees}
use Rattle.packet_rules.specs.Shape.{verdict as shapeVerdict}
use Rattle.packet.specs.Packet.{body_of, checksum_right}
use Rattle.log_index.specs.Last.{last_packet, last_from, index_from}
use Rattle.log_layout.specs.Log.{laid, directory, log_of}
use Rattle.log_layout.specs.Layout.{numbers, entries}
use Rattle.log_layout.specs.Samples.{two_pings}
use Rattle.log_layout.proofs.Samples.{two_sound}
use Rattle.log_kept.specs.Kept.{kept, dropped}
use Rattle.log_salvage.specs.Salvage.{salvage_refusal, bytes_in_none}
use Rattle.log_salvage.specs.Applied.{cut_file, output, SalvageApplied}

salvage_passes : salvage_refusal cut_file output (0 ∷ 0 ∷ 0 ∷ 0 ∷ []) ≡ None
unfolding number_at bytes_of reduce_if shift shifts crc_byte crc_from well_after read_fuel read_from reading length_of front_agrees length_agrees body_of checksum_right shapeVerdict last_packet last_from index_from laid directory log_of salvage_refusal
salvage_passes = refl

pub salvage_applied : SalvageApplied
unfolding number_at bytes_of reduce_if shift shifts crc_byte crc_from well_after read_fuel read_from reading length_of front_agrees length_agrees body_of checksum_right shapeVerdict last_packet last_from index_from laid directory log_of numbers entries kept dropped bytes_in_none two_sound
salvage_applied t =
    let s = t.sound cut_file output (0 ∷ 0 ∷ 0 ∷ 0 ∷ []) salvage_passes in
    record {
      sound = s.0;
      shorter = s.1;
      unaltered = t.unaltered cut_file output (0 ∷ 0 ∷ 0 ∷ 0 ∷ []) salvage_passes;
      anew = refl;
      each = t.each cut_file;
      apart = ((t.apart cut_file).0, (t.apart cut_file).1);
      left = t.left cut_file;
      accepted = t.accepted (log_of two_pings) output (0 ∷ 0 ∷ 0 ∷ 0 ∷ []) two_sound (leb-true _ _ refl) (leb-true _ _ refl);
      same = (t.same (log_of two_pings) two_sound).0;
      nothing_reported = (t.same (log_of two_pings) two_sound).1;
      written_again = (t.again cut_file output (0 ∷ 0 ∷ 0 ∷ 0 ∷ []) salvage_passes).0;
      nothing_reported_again = (t.again cut_file output (0 ∷ 0 ∷ 0 ∷ 0 ∷ []) salvage_passes).1;
    }
