use Rattle.std.proofs.Common.{◌≡◌, ◌∷◌, [], ◌++◌, ◌+◌, ◌-◌, length, take, drop, ap, ℕ, ◌∙◌, arith}
use Rattle.std.proofs.lemmas.Slice.{put_mid-paste}
use lib.ListN.{length-take, length-drop}
use Rattle.lists.specs.Write.{overwritten}
use Rattle.buffers.proofs.Parts.{placed_over}
use Rattle.crc.specs.Crc.{crc_from}
use Rattle.packet.proofs.Header.{after_header}
use Rattle.packet_encoder.specs.Writing.{with_checksum, low, high}
use Rattle.packet_encoder.proofs.Lists.{pasted}
use Rattle.packet_encoder.proofs.write_checksum.Goals as goal

pub returns : goal.returns
unfolding with_checksum
returns c =
    let a = c.args in
    let s = take a.end a.out.now in
    let sum = c.checksum-crc.ensures ∙ ap (crc_from 0) (after_header a.out.now a.end c.requires.2 c.requires.0) in
    let part = take (a.end + 2 - a.end) (drop a.end a.out.now) in
    let size : length c.to_le_bytes.result ≡ length part = simp (length-take, length-drop) (omega (arith, ap length c.to_le_bytes.ensures, c.requires.1)) in
    let two = placed_over part c.to_le_bytes.result c.place.new.buffer c.place.ensures size ∙ c.to_le_bytes.ensures in
    put_mid-paste a.end _ a.out.now _ _ 2 two (omega arith) (omega arith)
    ∙ pasted a.out.now _ a.end 2 (omega arith) c.requires.1
    ∙ ap (λ (x : ℕ). overwritten a.out.now (s ++ low x ∷ high x ∷ [])) sum
