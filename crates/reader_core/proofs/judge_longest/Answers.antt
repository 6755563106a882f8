use mathlib.Core.Path.{refl, ap, ◌∙◌}
use lib.ListN.{length}
use Rattle.packet_rules.specs.Answers.{answer_by}
use Rattle.packet_protocols.specs.Protocols.{rules_of}
use Rattle.reader_core.proofs.Longest.{longest_placed, longest_held}
use Rattle.reader_core.proofs.judge_longest.Goals as goal

pub returns : goal.returns
returns c =
    let held = c.args.held.now in
    let q = longest_placed held c.args.byte (length held) refl c.args.packet.now _ c.place.ensures c.requires.1 in
    record {
      value = c.judge.ensures ∙ ap (answer_by (rules_of c.args.protocol)) q;
      packet_after = (q, longest_held held c.args.byte (length held) refl _ c.shift.ensures c.requires.0);
    }
