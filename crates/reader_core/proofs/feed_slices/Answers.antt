use borrow.Author.Rules.{rules}
use mathlib.Core.List.{List, [], ◌∷◌, ◌++◌}
use lib.ListN.{length, take, drop, get_or, length-append, length-drop, length-take}
use Rattle.reading.specs.Calls.{CallResult, fed, feed, call}
use Rattle.reading.proofs.Progress.{reached_start}
use Rattle.packet_protocols.specs.Protocols.{rules_of}
use Rattle.packet_protocols.proofs.Shapes.{laws, some_longest}
use Rattle.reader_core.proofs.Answers.{some_room}
use Rattle.reader_core.specs.declared.Step.{Step}
use Rattle.reader_core.specs.Results.{most_held}
use Rattle.reader_core.specs.Delivered.{Delivered, Stayed, Spared}
use Rattle.reader_core.proofs.Spared.{call_shorter, reached_taken, filled_stays, none_stays, spared_full, spared}
use Rattle.reader_scan.specs.declared.Stop.TheVariants.{Full}
use Rattle.reader_scan.specs.Scan.{Filled}
use Rattle.packet_rules.specs.Answers.{answer_for}
use Rattle.reading.specs.Rules.{Verdict}
use Rattle.packet_rules.proofs.Answers.{was_packet, was_bad}
use Rattle.reader_core.proofs.Rounds.{rest_here, filled_rest, room_for, ends_on, ends_fed, passed_fed, filled_done, filled_passed, filled_full}
use Rattle.reader_core.proofs.Rounds.{full_packet, full_bad, full_other}
use mathlib.Core.Path.{◌≡◌, refl, sym, ap, ◌∙◌}
use Prim.Native.Nat.{ℕ, ◌+◌, ◌≤◌, ◌<◌}
use native.Mathlib.Omega.{arith}
use Rattle.reader_core.proofs.feed_slices.Goals as goal
use Rattle.reader_core.proofs.feed_slices.Goals.{After-fill, In-Full}

pub loop-seen-init : goal.loop-seen-init
loop-seen-init c = (search rules, search rules, search rules, reached_start (rules_of c.args.protocol) _ _, omega arith, refl, λ _. refl)

pub slice_bounds-fill-count : goal.slice_bounds-fill-count
slice_bounds-fill-count c = c.loop-seen.invariant.3.within

pub slice_bounds-fill-start : goal.slice_bounds-fill-start
slice_bounds-fill-start c = c.loop-seen.invariant.3.within

-- after the held bytes have taken what they wait for
module _ (g : After-fill) where
  same : length g.fill.new.held ≡ most_held g.args.protocol
  same = g.fill.auto.held ∙ g.loop-seen.invariant.1

  filled : Filled (rules_of g.args.protocol) (take g.loop-seen.n g.loop-seen.held) (drop g.loop-seen.taken g.args.chunk.now) g.loop-seen.held g.fill.new.held
      g.fill.result
  filled =
      filled_rest g.args.protocol (take g.loop-seen.n g.loop-seen.held) g.args.chunk.now g.loop-seen.held g.fill.new.held g.loop-seen.taken g.fill.result
      g.fill.ensures.filled

  abbrev h₀ : List ℕ
  h₀ = take g.args.count g.args.held.now

  -- how many bytes were held and the whole call takes
  abbrev upto : ℕ
  upto = g.args.count + (fed (rules_of g.args.protocol) h₀ g.args.chunk.now).taken

  stays : drop upto g.fill.new.held ≡ drop upto g.args.held.now
  stays =
      filled_stays (rules_of g.args.protocol) h₀ g.args.chunk.now (take g.loop-seen.n g.loop-seen.held) g.loop-seen.taken g.loop-seen.invariant.3 g.fill.new.held g.loop-seen.held g.args.held.now
      g.args.count g.loop-seen.n g.loop-seen.invariant.4 g.fill.ensures.held_unchanged g.loop-seen.invariant.5

  -- an event was delivered from there
  to_spared : (r : CallResult) (step : Step) (held bytes : List ℕ) → fed (rules_of g.args.protocol) h₀ g.args.chunk.now ≡ r → Delivered g.args.protocol r step held bytes
      → Stayed step g.fill.new.held g.loop-seen.packet held bytes
      → Delivered g.args.protocol (fed (rules_of g.args.protocol) h₀ g.args.chunk.now) step held bytes
      × Spared (most_held g.args.protocol) g.args.count step g.args.held.now g.args.packet.now held bytes
  unfolding call
  to_spared r step held bytes e d k =
      let w : Delivered g.args.protocol (fed (rules_of g.args.protocol) h₀ g.args.chunk.now) step held bytes = rw e d in (
        w,
        spared g.args.protocol (fed (rules_of g.args.protocol) h₀ g.args.chunk.now) (most_held g.args.protocol) g.args.count step g.args.held.now g.args.packet.now g.fill.new.held g.loop-seen.packet held bytes
            (omega (arith, call_shorter (rules_of g.args.protocol) (laws g.args.protocol) h₀ (feed g.args.chunk.now), length-take g.args.count g.args.held.now)) w k stays g.loop-seen.invariant.6,
      )

  -- so many bytes of what was left of the chunk
  within : (n : ℕ) → n ≤ length (drop g.loop-seen.taken g.args.chunk.now) → g.loop-seen.taken + n ≤ length g.args.chunk.now
  within n h = omega (arith, length-drop g.loop-seen.taken g.args.chunk.now, g.loop-seen.invariant.3.within)

pub overflow_add-taken : goal.overflow_add-taken
overflow_add-taken c =
    let d = filled_done c.args.protocol _ _ _ _ _ (filled (goal.at.overflow_add-taken c).After-fill) _ _ _ c.in-Done.is in
    omega (arith, within (goal.at.overflow_add-taken c).After-fill _ d.1)

pub deliver-requires : goal.deliver-requires
deliver-requires c =
    let d = filled_done c.args.protocol _ _ _ _ _ (filled (goal.at.deliver-requires c).After-fill) _ _ _ c.in-Done.is in
    let l = c.loop-seen.invariant.2 in
    (ends_on c.args.protocol _ _ c.fill.new.held _ _ _ d.2 d.3, d.2, room_for _ _ _ d.3.short l, l)

pub returns-in-Done : goal.returns-in-Done
returns-in-Done c =
    let d = filled_done c.args.protocol _ _ _ _ _ (filled (goal.at.returns-in-Done c).After-fill) _ _ _ c.in-Done.is in
    let q = c.deliver.ensures in let both = to_spared (goal.at.returns-in-Done c).After-fill _ _ _ _ (ends_fed c.args.protocol _ _ _ _ _ _ _ c.loop-seen.invariant.3 d.3) q.delivered q.stayed in record { delivered = both.0; spared = both.1 }

pub overflow_add-taken-in-Passed : goal.overflow_add-taken-in-Passed
overflow_add-taken-in-Passed c =
    let d = filled_passed c.args.protocol _ _ _ _ _ (filled (goal.at.overflow_add-taken-in-Passed c).After-fill) _ c.in-Passed.is in
    omega (arith, within (goal.at.overflow_add-taken-in-Passed c).After-fill _ d.1)

pub read_chunk-requires : goal.read_chunk-requires
read_chunk-requires c =
    let d = filled_passed c.args.protocol _ _ _ _ _ (filled (goal.at.read_chunk-requires c).After-fill) _ c.in-Passed.is in
    (within (goal.at.read_chunk-requires c).After-fill _ d.1, same (goal.at.read_chunk-requires c).After-fill, c.loop-seen.invariant.2)

pub returns-in-Passed : goal.returns-in-Passed
returns-in-Passed c =
    let d = filled_passed c.args.protocol _ _ _ _ _ (filled (goal.at.returns-in-Passed c).After-fill) _ c.in-Passed.is in
    let q = c.read_chunk.ensures in let both = to_spared (goal.at.returns-in-Passed c).After-fill _ _ _ _ (passed_fed c.args.protocol _ _ _ _ _ c.loop-seen.invariant.3 d.2) q.delivered q.stayed in record { delivered = both.0; spared = both.1 }

-- the held bytes fill their buffer
module _ (g : In-Full) (same' : length g.fill.new.held ≡ most_held g.args.protocol)
    (full : Filled (rules_of g.args.protocol) (take g.loop-seen.n g.loop-seen.held) (drop g.loop-seen.taken g.args.chunk.now) g.loop-seen.held g.fill.new.held (Full g.in-Full.more)) where
  here : g.loop-seen.taken + g.in-Full.more < length g.args.chunk.now
  here = rest_here g.args.chunk.now g.loop-seen.taken g.in-Full.more full.1

  size : (rules_of g.args.protocol).longest ≡ length g.fill.new.held + 1
  size = omega (arith, same', some_longest g.args.protocol)

  -- more bytes were held and taken than can be held
  beyond : most_held g.args.protocol < g.args.count + (g.loop-seen.taken + g.in-Full.more + 1)
  beyond = omega (arith, full.3, same', g.loop-seen.invariant.4, length-take g.loop-seen.n g.loop-seen.held)

  to_spared_full : (step : Step) (held bytes : List ℕ) (x : ℕ) → step.taken ≡ g.loop-seen.taken + g.in-Full.more + 1 → held ≡ drop 1 (g.fill.new.held ++ x ∷ [])
      → Spared (most_held g.args.protocol) g.args.count step g.args.held.now g.args.packet.now held bytes
  to_spared_full step held bytes x e i =
      let l : length held ≡ most_held g.args.protocol = ap length i ∙ length-drop 1 (g.fill.new.held ++ x ∷ []) ∙ omega (arith, length-append g.fill.new.held (x ∷ []), same') in
      spared_full (most_held g.args.protocol) g.args.count step _ _ held bytes l g.requires.1 (omega (arith, beyond))

pub overflow_add-taken-in-Full : goal.overflow_add-taken-in-Full
overflow_add-taken-in-Full c =
    let g = (goal.at.overflow_add-taken-in-Full c).In-Full in
    let same' = same (goal.at.overflow_add-taken-in-Full c).After-fill in
    let full = filled_full c.args.protocol _ _ _ _ _ (filled (goal.at.overflow_add-taken-in-Full c).After-fill) _ c.in-Full.is in
    omega (arith, here g same' full)

pub overflow_add-taken-in-loop-seen : goal.overflow_add-taken-in-loop-seen
overflow_add-taken-in-loop-seen c =
    let g = (goal.at.overflow_add-taken-in-loop-seen c).In-Full in
    let same' = same (goal.at.overflow_add-taken-in-loop-seen c).After-fill in
    let full = filled_full c.args.protocol _ _ _ _ _ (filled (goal.at.overflow_add-taken-in-loop-seen c).After-fill) _ c.in-Full.is in
    omega (arith, here g same' full)

pub judge_longest-requires : goal.judge_longest-requires
judge_longest-requires c =
    let g = (goal.at.judge_longest-requires c).In-Full in
    let same' = same (goal.at.judge_longest-requires c).After-fill in
    let full = filled_full c.args.protocol _ _ _ _ _ (filled (goal.at.judge_longest-requires c).After-fill) _ c.in-Full.is in
    (omega (arith, same', some_room c.args.protocol), c.loop-seen.invariant.2 ∙ size g same' full)

pub shape_of-held-in-Packet : goal.shape_of-held-in-Packet
shape_of-held-in-Packet c =
    let g = (goal.at.shape_of-held-in-Packet c).In-Full in
    let same' = same (goal.at.shape_of-held-in-Packet c).After-fill in
    let full = filled_full c.args.protocol _ _ _ _ _ (filled (goal.at.shape_of-held-in-Packet c).After-fill) _ c.in-Full.is in
    c.judge_longest.auto.held ∙ same' ∙ sym c.requires.1

pub shape_of-packet-in-Packet : goal.shape_of-packet-in-Packet
shape_of-packet-in-Packet c = c.judge_longest.auto.packet ∙ c.loop-seen.invariant.2 ∙ sym c.requires.2

pub returns-in-Packet : goal.returns-in-Packet
returns-in-Packet c =
    let g = (goal.at.returns-in-Packet c).In-Full in
    let same' = same (goal.at.returns-in-Packet c).After-fill in
    let full = filled_full c.args.protocol _ _ _ _ _ (filled (goal.at.returns-in-Packet c).After-fill) _ c.in-Full.is in
    let j = c.judge_longest.ensures in record {
      delivered = full_packet c.args.protocol _ _ _ c.fill.new.held _ _ c.loop-seen.invariant.3 full.2 full.1 (size g same' full) _ _ _ _ _
          (was_packet _ _ _ (sym j.value ∙ c.in-Packet.is)) refl c.id_in-id.ensures j.packet_after.0;
      spared = to_spared_full g same' full _ _ _ _ refl j.packet_after.1;
    }

pub returns-in-BadChecksum : goal.returns-in-BadChecksum
returns-in-BadChecksum c =
    let g = (goal.at.returns-in-BadChecksum c).In-Full in
    let same' = same (goal.at.returns-in-BadChecksum c).After-fill in
    let full = filled_full c.args.protocol _ _ _ _ _ (filled (goal.at.returns-in-BadChecksum c).After-fill) _ c.in-Full.is in
    let j = c.judge_longest.ensures in record {
      delivered = full_bad c.args.protocol _ _ _ c.fill.new.held _ _ c.loop-seen.invariant.3 full.2 full.1 (size g same' full) _ _ _ _ _
          (was_bad _ _ _ (sym j.value ∙ c.in-BadChecksum.is)) refl refl j.packet_after.1;
      spared = to_spared_full g same' full _ _ _ _ refl j.packet_after.1;
    }

pub loop-seen-smaller : goal.loop-seen-smaller
loop-seen-smaller c =
    let g = (goal.at.loop-seen-smaller c).In-Full in
    let same' = same (goal.at.loop-seen-smaller c).After-fill in
    let full = filled_full c.args.protocol _ _ _ _ _ (filled (goal.at.loop-seen-smaller c).After-fill) _ c.in-Full.is in
    omega (arith, here g same' full)

pub loop-seen-preserved : goal.loop-seen-preserved
loop-seen-preserved c =
    let g = (goal.at.loop-seen-preserved c).In-Full in
    let same' = same (goal.at.loop-seen-preserved c).After-fill in
    let full = filled_full c.args.protocol _ _ _ _ _ (filled (goal.at.loop-seen-preserved c).After-fill) _ c.in-Full.is in
    let j = c.judge_longest.ensures in
    let l = c.judge_longest.auto.held ∙ same' in
    let more = c.fill.new.held ++ get_or c.args.chunk.now (c.loop-seen.taken + c.in-Full.more) 0 ∷ [] in
    let o = full_other c.args.protocol _ _ _ c.fill.new.held _ _ c.loop-seen.invariant.3 full.2 full.1 (size g same' full) _ _
    (λ n e. c.in_default.not-Packet n (j.value ∙ ap (λ (v : Verdict). answer_for v ((rules_of c.args.protocol).lacks more)) e))
    (λ i e. c.in_default.not-BadChecksum i (j.value ∙ ap (λ (v : Verdict). answer_for v ((rules_of c.args.protocol).lacks more)) e)) refl j.packet_after.1 in
    let t = reached_taken (rules_of c.args.protocol) _ _ _ _ o in
    let b = beyond g same' full in (
      search rules,
      l,
      c.judge_longest.auto.packet ∙ c.loop-seen.invariant.2,
      o,
      omega (arith, b, same'),
      none_stays (most_held c.args.protocol) (upto (goal.at.loop-seen-preserved c).After-fill) _ _ l c.requires.1 (omega (arith, b, t)),
      λ m. absurd (omega (arith, b, t)),
    )
