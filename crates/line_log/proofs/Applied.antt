use Rattle.std.specs.Prelude.{None, Option, Some}
use mathlib.Core.Path.{◌≡◌, refl}
use mathlib.Core.Bool.{true}
use Prim.Native.Nat.{ℕ, zero, suc}
use native.Mathlib.Omega.{arith}
use Rattle.lists.specs.Numbers.{number_at, bytes_of}
use Rattle.lists.proofs.Decided.{all_bytes, are_bytes}
use Rattle.crc.specs.Crc.{reduce_if, shift, shifts, crc_byte, crc_from}
use Rattle.stuffing.specs.Stuffing.{well_after}
use Rattle.reading.specs.Reading.{read_fuel, read_from, reading}
use Rattle.packet_front.specs.Front.{length_of}
use Rattle.packet_front.specs.Header.{front_agrees, length_agrees}
use Rattle.packet_rules.specs.Shape.{verdict as shapeVerdict}
use Rattle.packet.specs.Packet.{body_of, checksum_right}
use Rattle.log_index.specs.Last.{last_packet, last_from, index_from}
use Rattle.log_layout.specs.Log.{laid, directory, log_of}
use Rattle.log_layout.specs.Layout.{entry_of, segment_by, numbers, entries, chained, none_above, header_right, laid_out}
use Rattle.log_layout.specs.Samples.{two_pings, numbered, file}
use Rattle.answers.specs.declared.Refusal.{Refusal}
use Rattle.answers.specs.declared.Refusal.TheVariants.{WrongIndex}
use Rattle.log_layout.proofs.Samples.{two_sound}
use Rattle.line_log.specs.Soundness.{same_numbers, check_refusal}
use Rattle.line_log.specs.Applied.{SoundExactlyApplied, damaged, LogPromisesApplied}

not_both : (o : Option Refusal) (refusal : Refusal) → o ≡ Some refusal → ¬ (o ≡ None)
not_both o refusal e f = let z : ◌≡◌ {A = ℕ} 0 1 = cc in absurd (omega arith)

is_bytes : all_bytes file ≡ true
unfolding laid bytes_of
is_bytes = refl

test_wrong : check_refusal (numbered 1 1 2) ≡ Some WrongIndex
unfolding number_at bytes_of reduce_if shift shifts crc_byte crc_from well_after read_fuel read_from reading length_of front_agrees length_agrees body_of checksum_right shapeVerdict last_packet last_from index_from laid numbers entries chained none_above header_right laid_out same_numbers check_refusal
test_wrong = refl

test_file : check_refusal file ≡ None
unfolding number_at bytes_of reduce_if shift shifts crc_byte crc_from well_after read_fuel read_from reading length_of front_agrees length_agrees body_of checksum_right shapeVerdict last_packet last_from index_from laid numbers entries chained none_above header_right laid_out same_numbers check_refusal
test_file = refl

pub sound_exactly_applied : SoundExactlyApplied
sound_exactly_applied t =
    let s = t.only file (are_bytes file is_bytes) test_file in
    (t.accepts (log_of two_pings) two_sound, (s.segments, s.are), λ wrong. not_both (check_refusal (numbered 1 1 2)) WrongIndex test_wrong (t.accepts (numbered 1 1 2) wrong))

laid_out_lem : (laid_out file ≡ true) × (laid_out damaged ≡ true)
unfolding number_at bytes_of laid numbers entries chained none_above header_right laid_out
laid_out_lem = (refl, refl)

pub log_promises_applied : LogPromisesApplied
unfolding number_at bytes_of reduce_if shift shifts crc_byte crc_from well_after read_fuel read_from reading length_of front_agrees length_agrees body_of checksum_right shapeVerdict last_packet last_from index_from laid directory log_of two_sound
log_promises_applied t = (
  t.answers (log_of two_pings) two_sound 2 refl,
  t.answers (log_of two_pings) two_sound 254 refl,
  t.depends_only file damaged 2 laid_out_lem.0 laid_out_lem.1 refl refl (λ k e. named k e),
)
  where
    -- the index number of 2 is 2: segment 1
    named : (k : ℕ) → 2 ≡ suc k → segment_by file (entry_of file k) ≡ segment_by damaged (entry_of file k)
    named zero e = absurd (omega arith)
    named (suc zero) e = refl
    named (suc (suc k)) e = absurd (omega arith)
