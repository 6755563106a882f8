use mathlib.Core.Path.{sym, ap, ap₂, ◌∙◌}
use mathlib.Core.List.{List, []}
use Prim.Native.Nat.{ℕ}
use Rattle.lists.specs.Write.{placed}
use Rattle.log_layout.specs.Log.{laid, index_offset, segments_offset}
use Rattle.log_layout.specs.Layout.{segments_by}
use Rattle.log_layout.proofs.Sound.{segments_count}
use Rattle.log_parts.proofs.Numbers.{put_fits}
use Rattle.log_kept.specs.Kept.{kept_of}
use Rattle.log_salvage.proofs.Packing.{packed, log_put}
use borrow.Author.Rules.{rules}
use Rattle.log_salvage.proofs.put_log.Goals as goal

pub returns : goal.returns
returns c =
    let a = c.args in
    let es = kept_of a.file.now a.count in
    let ss = segments_by a.file.now es in record {
      value = c.pack-index.ensures.value;
      out_after = c.put_index.ensures ∙ put_fits _ _ _ _ (search rules)
          ∙ ap₂ (λ (b x : List ℕ). placed b (index_offset a.kept) (laid x []))
          (c.pack-index.ensures.out_after
          ∙ ap (λ (b : List ℕ). packed b 0 (segments_offset a.kept) ss) (c.put_header.ensures ∙ put_fits _ _ _ _ (search rules)))
          c.pack-index.ensures.value
          ∙ log_put a.out.now ss a.kept (search rules ∙ sym (segments_count a.file.now es)) (search rules);
    }
