use mathlib.Core.Path.{◌≡◌, ap, ap₂, ◌∙◌}
use mathlib.Core.List.{List, []}
use Prim.Native.Nat.{ℕ, ◌+◌}
use native.Mathlib.Omega.{arith}
use lib.ListN.{length}
use Rattle.lists.specs.Write.{placed}
use Rattle.log_parts.proofs.Numbers.{put_fits}
use Rattle.buffers.proofs.Parts.{placed_whole}
use Rattle.log_layout.specs.Log.{laid, numbers_of, index_offset, segments_offset}
use Rattle.log_writer.specs.Writing.{directory_by}
use Rattle.log_writer.proofs.Parts.{parts_by_lengths}
use mathlib.Core.Path.{◌≡◌, ap, ◌∙◌}
use borrow.Author.Rules.{rules}
use Rattle.log_writer.proofs.put_log.Goals as goal

pub returns : goal.returns
returns c =
    let a = c.args in
    let n = length a.lengths.now in
    let e : index_offset n + 1016 ≡ segments_offset n = omega arith in
    c.place.ensures
    ∙ placed_whole c.put_index.new.out a.bytes.now (index_offset n + 1016) (search rules)
    ∙ ap₂ (λ (b : List ℕ) (k : ℕ). placed b k a.bytes.now)
    (c.put_index.ensures ∙ put_fits _ _ _ _ (search rules)
    ∙ ap₂ (λ (b x : List ℕ). placed b (index_offset n) (laid x []))
    (c.put_directory.ensures
    ∙ ap (λ (b : List ℕ). placed b 16 (laid (numbers_of (directory_by (segments_offset n) a.lengths.now)) [])) (c.put_header.ensures ∙ put_fits _ _ _ _ (search rules)))
    c.index_of.ensures)
    e
    ∙ parts_by_lengths a.out.now a.bytes.now a.lengths.now (search rules) (search rules)
