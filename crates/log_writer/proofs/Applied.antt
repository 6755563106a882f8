use mathlib.Core.Path.{refl}
use mathlib.Core.List.{[], ◌∷◌, ◌++◌}
use lib.ListN.{replicate}
use Rattle.lists.specs.Numbers.{bytes_of}
use Rattle.crc.specs.Crc.{reduce_if, shift, shifts, crc_byte, crc_from}
use Rattle.stuffing.specs.Stuffing.{well_after}
use Rattle.reading.specs.Reading.{read_fuel, read_from, reading}
use Rattle.packet_front.specs.Front.{length_of}
use Rattle.packet_front.specs.Header.{front_agrees, length_agrees}
use Rattle.packet_rules.specs.Shape.{verdict as shapeVerdict}
use Rattle.packet.specs.Packet.{body_of, checksum_right}
use Rattle.log_index.specs.Last.{last_packet, last_from, index_from}
use Rattle.log_layout.specs.Log.{laid, directory, log_of}
use Rattle.log_layout.specs.Samples.{ping_to_1, ping_to_2}
use Rattle.log_writer.specs.Writing.{sum, cut, write_refusal}
use Rattle.log_writer.specs.Applied.{WritesSoundApplied}

pub writes_sound_applied : WritesSoundApplied
unfolding bytes_of reduce_if shift shifts crc_byte crc_from well_after read_fuel read_from reading length_of front_agrees length_agrees body_of checksum_right shapeVerdict last_packet last_from index_from laid directory log_of sum cut write_refusal
writes_sound_applied t = t (ping_to_1 ++ ping_to_2) (10 ∷ 10 ∷ []) (replicate 1068 0xAA) refl
