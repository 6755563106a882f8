use Rattle.std.proofs.Common.{◌≡◌, ℕ, List, length, take, drop, min, ◌-◌, sym, ◌∙◌, arith}
use Rattle.std.proofs.lemmas.List.{drop_min}
use Rattle.std.proofs.Math.ListN.{length-drop}
use Rattle.std.proofs.Math.Seq.{take_all}
use Rattle.packet_rules.proofs.Peeks.{peek_nothing, peek_waiting, peek_length}
use Rattle.packet_protocols.specs.Protocols.{shape_of}
use Rattle.packet_protocols.proofs.Shapes.{shapes_kept, whole_is}
use Rattle.packet_protocols.proofs.Protocol.judge.Goals as goal

-- the bytes that are lent, from the offset on
lent : (s : List ℕ) (offset at : ℕ) → at ≡ min offset (length s) → take (length s - at) (drop at s) ≡ drop offset s
lent s offset at e = rw e (rw (drop_min offset s) (take_all _ (drop offset s) (simp length-drop (omega arith))))

pub slice_bounds-judge_whole-end : goal.slice_bounds-judge_whole-end
slice_bounds-judge_whole-end c = sym (peek_length (shape_of c.args.self) _ (shapes_kept c.args.self) _ (sym c.peek.ensures ∙ c.in-Whole.is))

pub returns-in-Nothing : goal.returns-in-Nothing
returns-in-Nothing c =
    rw (← lent c.args.segment.now c.args.offset _ c.min.ensures)
    (peek_nothing (shape_of c.args.self) _ (sym c.peek.ensures ∙ c.in-Nothing.is))

pub returns-in-Waiting : goal.returns-in-Waiting
returns-in-Waiting c =
    rw (← lent c.args.segment.now c.args.offset _ c.min.ensures)
    (peek_waiting (shape_of c.args.self) _ _ (sym c.peek.ensures ∙ c.in-Waiting.is))

pub returns-in-Whole : goal.returns-in-Whole
returns-in-Whole c =
    rw (← lent c.args.segment.now c.args.offset _ c.min.ensures)
    (c.judge_whole.ensures ∙ whole_is c.args.self _ _ (sym c.peek.ensures ∙ c.in-Whole.is))
