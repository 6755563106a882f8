use mathlib.Core.Path.{◌≡◌, ap, ◌∙◌}
use mathlib.Core.List.{[], List, ◌∷◌}
use Prim.Native.Nat.{ℕ}
use native.Mathlib.Omega.{arith}
use lib.ListN.{length, take, length-take, length-drop}
use Rattle.lists.specs.Write.{placed}
use Rattle.lists.proofs.Write.{tail_placed}
use Rattle.plan.specs.Planner.{list_bytes}
use Rattle.plan_writer.specs.Filling.{entries_at}
use Rattle.plan_writer.proofs.Writing.{placed_next}
use borrow.Author.Rules.{rules}
use Rattle.plan_writer.proofs.write_params.Goals as goal
use Rattle.plan_writer.proofs.write_params.Goals.{After-write_head}

-- the head leaves the length
long : (h : After-write_head) → length h.write_head.new.out ≡ length h.args.out.now
long h = search rules

pub write_entries-requires : goal.write_entries-requires
write_entries-requires c = (c.requires.0, c.requires.1, simp (length-take, length-drop) (omega (arith, c.requires.2, long (goal.at.write_entries-requires c).After-write_head)))

pub returns : goal.returns
returns c =
    let y = list_bytes (take c.args.k (entries_at c.args.goals.now c.args.from)) in record {
      result_value = c.write_entries.ensures.result_value;
      out_after = tail_placed 4 c.write_head.new.out _ y (omega (arith, long (goal.at.returns c).After-write_head, c.requires.2)) c.write_entries.ensures.out_after
          ∙ ap (λ (o : List ℕ). placed o 4 y) c.write_head.ensures ∙ placed_next c.args.out.now (116 ∷ 0 ∷ 4 ∷ 0 ∷ []) y;
    }
