use Rattle.reader_core.proofs.Rounds.{room_for, gap_nothing, gap_decided}
use lib.Seq.{length-take-le}
use mathlib.Core.List.{List}
use mathlib.Core.Path.{◌≡◌, refl, sym}
use Prim.Native.Nat.{ℕ}
use native.Mathlib.Omega.{arith}
use lib.ListN.{take, length-take}
use Rattle.reading.specs.Reading.{closed}
use Rattle.reading.specs.Calls.{first, CallResult, gapped, gap, call}
use Rattle.packet_protocols.specs.Protocols.{rules_of}
use Rattle.packet_protocols.proofs.Shapes.{laws}
use Rattle.reader_core.specs.declared.Step.{Step}
use Rattle.reader_core.specs.Results.{most_held}
use Rattle.reader_core.specs.Delivered.{Delivered, Stayed, Spared}
use Rattle.reader_core.proofs.Spared.{call_shorter, spared}
use borrow.Author.Rules.{rules}
use Rattle.reader_core.proofs.gap_slices.Goals as goal
use Rattle.reader_core.proofs.gap_slices.Goals.{Start}

-- what stays
to_spared : (s : Start) (r : CallResult) (step : Step) (held bytes : List ℕ)
    → gapped (first (rules_of s.args.protocol) closed (take s.args.count s.args.held.now)) ≡ r
    → Delivered s.args.protocol r step held bytes → Stayed step s.args.held.now s.args.packet.now held bytes
    → Delivered s.args.protocol (gapped (first (rules_of s.args.protocol) closed (take s.args.count s.args.held.now))) step held bytes
    × Spared (most_held s.args.protocol) s.args.count step s.args.held.now s.args.packet.now held bytes
unfolding call
to_spared s r step held bytes e d k =
    let h = take s.args.count s.args.held.now in
    let w : Delivered s.args.protocol (gapped (first (rules_of s.args.protocol) closed h)) step held bytes = rw e d in (
      w,
      spared s.args.protocol _ _ s.args.count step s.args.held.now s.args.packet.now s.args.held.now s.args.packet.now held bytes
          (omega (arith, call_shorter (rules_of s.args.protocol) (laws s.args.protocol) h gap, length-take s.args.count s.args.held.now)) w k refl
          (λ _. refl),
    )

pub slice_bounds-scan_closed-end-2 : goal.slice_bounds-scan_closed-end-2
slice_bounds-scan_closed-end-2 c = sym (length-take-le _ _ (search rules))

pub returns-in-Waiting : goal.returns-in-Waiting
returns-in-Waiting c =
    let w = gap_nothing c.args.protocol _ _ _ _ _ (rw c.in-Waiting.is at c.scan_closed-seen.ensures)
    refl in
    let both = to_spared (goal.at.returns-in-Waiting c).Start _ _ _ _ refl w (record { held_stays = refl; bytes_stay = refl }) in
    record { delivered = both.0; spared = both.1 }

pub deliver-requires : goal.deliver-requires
deliver-requires c =
    let d = gap_decided c.args.protocol _ c.scan_closed-seen.result
    c.in_default.not-Waiting c.scan_closed-seen.ensures in
    (room_for _ _ _ d.0 (sym (length-take-le _ _ (search rules))), search rules, room_for _ _ _ d.1 c.requires.2, c.requires.2)

pub returns : goal.returns
returns c =
    let d = gap_decided c.args.protocol _ c.scan_closed-seen.result
    c.in_default.not-Waiting c.scan_closed-seen.ensures in
    let q = c.deliver.ensures in let both = to_spared (goal.at.returns c).Start _ _ _ _ d.2 q.delivered q.stayed in record { delivered = both.0; spared = both.1 }
