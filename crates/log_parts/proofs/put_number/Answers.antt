use mathlib.Core.Path.{◌≡◌, ap, ◌∙◌}
use Prim.Native.Nat.{◌+◌, ◌-◌}
use native.Mathlib.Omega.{arith}
use lib.ListN.{length, take, drop, length-take, length-drop}
use Rattle.std.proofs.lemmas.Grind.{common_steps}
use Rattle.lists.proofs.Numbers.{written_first, bytes_length}
use Rattle.buffers.proofs.Parts.{placed_over}
use Rattle.log_parts.proofs.put_number.Goals as goal

pub returns : goal.returns
returns c =
    let v = c.args.value in
    let at = c.args.at in
    let n = bytes_length 4 v in
    let part = take (at + 4 - at) (drop at c.args.out.now) in
    let b = ap (take 4) c.to_le_bytes.ensures ∙ written_first v in
    let size : length (take 4 c.to_le_bytes.result) ≡ length part = simp (length-take, length-drop) (omega (arith, ap length c.to_le_bytes.ensures, c.requires)) in
    let e = placed_over part (take 4 c.to_le_bytes.result) c.place.new.buffer c.place.ensures size ∙ b in
    rw e (grind (arith, common_steps))
