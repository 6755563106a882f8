-- The log of two Pings is sound.
use mathlib.Core.Path.{refl}
use borrow.Author.Tests.{leb-true}
use Rattle.lists.specs.Numbers.{bytes_of}
use Rattle.crc.specs.Crc.{reduce_if, shift, shifts, crc_byte, crc_from}
use Rattle.stuffing.specs.Stuffing.{well_after}
use Rattle.reading.specs.Reading.{read_fuel, read_from, reading}
use Rattle.packet_front.specs.Front.{length_of}
use Rattle.packet_front.specs.Header.{front_agrees, length_agrees}
use Rattle.packet_rules.specs.Shape.{verdict as shapeVerdict}
use Rattle.packet.specs.Packet.{body_of, checksum_right}
use Rattle.log_index.specs.Last.{last_packet, last_from, index_from}
use Rattle.log_layout.specs.Log.{laid, directory, log_of, Sound}
use Rattle.log_layout.specs.Samples.{two_pings}

unfoldable pub two_sound : Sound (log_of two_pings)
unfolding bytes_of reduce_if shift shifts crc_byte crc_from well_after read_fuel read_from reading length_of front_agrees length_agrees body_of checksum_right shapeVerdict last_packet last_from index_from laid directory log_of
two_sound = record { fits = leb-true _ _ refl; segments = two_pings; are = refl }
