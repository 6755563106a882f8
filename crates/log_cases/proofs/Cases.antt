-- Every case of the table holds: the checker computes each report.
use mathlib.Core.Path.{refl}
use Rattle.lists.specs.Numbers.{number_at, bytes_of}
use Rattle.crc.specs.Crc.{reduce_if, shift, shifts, crc_byte, crc_from}
use Rattle.stuffing.specs.Stuffing.{well_after}
use Rattle.reading.specs.Reading.{read_fuel, read_from, reading}
use Rattle.packet_rules.specs.Shape.{verdict as shapeVerdict}
use Rattle.packet_front.specs.Front.{length_of}
use Rattle.packet_front.specs.Header.{front_agrees, length_agrees}
use Rattle.packet.specs.Packet.{body_of, checksum_right}
use Rattle.log_index.specs.Last.{last_packet, last_from, index_from}
use Rattle.log_layout.specs.Log.{laid, directory, log_of}
use Rattle.log_layout.specs.Layout.{numbers, entries}
use Rattle.line_log.specs.Soundness.{same_numbers}
use Rattle.log_kept.specs.Kept.{kept, dropped}
use Rattle.log_salvage.specs.Report.{differing}
use Rattle.log_cases.specs.Cases.{SalvageCases}

pub salvage_cases : SalvageCases
unfolding number_at bytes_of reduce_if shift shifts crc_byte crc_from well_after read_fuel read_from reading length_of front_agrees length_agrees body_of checksum_right shapeVerdict last_packet last_from index_from laid directory log_of numbers entries same_numbers kept dropped differing
salvage_cases = (refl, (refl, (refl, (refl, (refl, (refl, tt))))))
