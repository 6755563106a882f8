use mathlib.Core.Path.{◌≡◌, ap, ap₂, ◌∙◌}
use mathlib.Core.List.{List}
use Prim.Native.Nat.{ℕ}
use lib.ListN.{get_or}
use borrow.Author.Rules.{rules}
use Rattle.device_dispatch.specs.Reactions.{Reaction, reaction}
use Rattle.device_replies.specs.Results.{Told, told, reacted_of, sized_reaction}
use Rattle.device_replies.proofs.Sized.{reaction_of_size}
use Rattle.device_status.specs.declared.Reply.{Reply}
use Rattle.device.specs.Results.{reply_to}
use Rattle.device.proofs.Bounds.{reaction_small}
use Rattle.device.proofs.Replies.{reply_of, number_is, registered_is, few_in}
use Rattle.device.proofs.execute.Goals as goal
use Rattle.device.proofs.execute.Goals.{After-reaction-reacted}

module _ (c : After-reaction-reacted) where
  abbrev heard : Reaction
  heard = reaction c.args.heard c.args.all c.args.table.now c.args.registered.now c.args.body.now

  has_size : sized_reaction c.args.table.now c.args.registered.now heard ≡ heard
  has_size = reaction_of_size c.args.table.now c.args.registered.now heard c.requires

  reacted : told c.reaction-reacted.result c.reaction-reacted.new.registered ≡ reacted_of heard
  reacted = c.reaction-reacted.ensures.value ∙ ap reacted_of has_size

  left : c.reaction-reacted.new.table ≡ heard.effect.table
  left = c.reaction-reacted.ensures.table_after ∙ ap (λ (x : Reaction). x.effect.table) has_size

pub reply_to-requires : goal.reply_to-requires
reply_to-requires c =
    let s = (goal.at.reply_to-requires c).After-reaction-reacted in
    let a = c.args in
    record {
      sized = search rules;
      short = few_in c.reaction-reacted.result.outcome c.reaction-reacted.new.registered _ (ap (λ (x : Told). x.done) (reacted s))
          (reaction_small a.table.now a.registered.now c.requires a.heard a.all a.body.now).few;
    }

pub returns : goal.returns
returns c =
    let s = (goal.at.returns c).After-reaction-reacted in
    let a = c.args in
    let w = c.reaction-reacted.new.registered in
    let own = get_or a.table.now 7 0 in
    let level = get_or a.table.now 68 0 in
    let done = ap (λ (x : Told). x.done) (reacted s) in
    record {
      value = ap₂ (λ (r : Reply) (n : ℕ). record { reply = r; error = n })
          (c.reply_to.ensures w
          ∙ ap (λ (t : List ℕ). reply_to t own level (told c.reaction-reacted.result w)) (left s)
          ∙ ap (reply_to (heard s).effect.table own level) (reacted s)
          ∙ reply_of a.table.now (heard s))
          (c.number_in.ensures ∙ number_is c.reaction-reacted.result.outcome w _ done);
      registered_after = registered_is c.reaction-reacted.result.outcome w _ done;
      table_after = left s;
    }
