use lib.Seq.{length-take-le}
use Rattle.reading.specs.Reading.{open'}
use Rattle.reading.specs.Calls.{fed}
use Rattle.reading.specs.Progress.{Patient}
use Rattle.buffers.proofs.Parts.{stays_more}
use Rattle.packet_rules.proofs.Laws.{undecided}
use Rattle.packet_protocols.specs.Protocols.{shape_of, rules_of}
use Rattle.packet_protocols.proofs.Shapes.{laws, shapes_kept, some_shortest}
use Rattle.reader_scan.specs.Scan.{Waits}
use Rattle.reader_scan.proofs.Windows.{not_none, Filling, filling_start, filling_none, filling_fits, filling_ordered}
use Rattle.reader_scan.proofs.Windows.{filling_decided, filling_stays, window_fits, window_end, part_length}
use Rattle.reader_scan.proofs.Windows.{least_first, not_back, window_back, window_full, window_waits, window_room, window_more, room_behind}
use mathlib.Core.Path.{◌≡◌, refl, sym, ◌∙◌}
use Prim.Native.Nat.{◌+◌, ◌-◌, ◌≤◌, ◌<◌}
use native.Mathlib.Omega.{arith}
use lib.ListN.{length, take, drop}
use Rattle.reader_scan.proofs.fill.Goals as goal
use Rattle.reader_scan.proofs.fill.Goals.{After-append-at, After-min-more, At-loop-start, In-Waiting}

-- what stays
stays : (c : At-loop-start) → let a = c.args in
    let n = (fed (rules_of c.args.protocol) (take a.count a.held.now) a.chunk.now).taken in
    drop (a.count + n) c.loop-start.held ≡ drop (a.count + n) a.held.now
stays c =
    let a = c.args in
    filling_stays (rules_of c.args.protocol) (laws c.args.protocol) _ _ _ _ _ _ _ c.loop-start.invariant.0 a.held.now a.count c.loop-start.invariant.2

pub returns-then-end-eq0 : goal.returns-then-end-eq0
returns-then-end-eq0 c =
    let a = c.args in record {
      filled = (refl, omega arith, filling_none (rules_of a.protocol) (laws a.protocol) _ 0 _ _ _ c.min-end.ensures c.if-end-eq0.true);
      held_unchanged = refl;
    }

pub loop-start-init : goal.loop-start-init
loop-start-init c =
    let a = c.args in
    (filling_start (rules_of a.protocol) (laws a.protocol) _ _ _ _ _ c.min-end.ensures refl, omega (arith, c.min-end.ensures), refl)

pub slice_bounds-scan-end : goal.slice_bounds-scan-end
slice_bounds-scan-end c = filling_fits (rules_of c.args.protocol) (laws c.args.protocol) _ _ _ _ _ _ _ c.loop-start.invariant.0

pub slice_bounds-scan-end-in-loop-start : goal.slice_bounds-scan-end-in-loop-start
slice_bounds-scan-end-in-loop-start c = sym (length-take-le _ _ (filling_fits (rules_of c.args.protocol) (laws c.args.protocol) _ _ _ _ _ _ _ c.loop-start.invariant.0))

pub scan-seen-requires : goal.scan-seen-requires
scan-seen-requires c = filling_ordered (rules_of c.args.protocol) (laws c.args.protocol) _ _ _ _ _ _ _ c.loop-start.invariant.0

pub returns-in_default : goal.returns-in_default
returns-in_default c =
    let w = c.loop-start.invariant.0 in record {
      filled = (
        w.size,
        w.taken_within,
        filling_fits (rules_of c.args.protocol) (laws c.args.protocol) _ _ _ _ _ _ _ w,
        filling_decided (rules_of c.args.protocol) (laws c.args.protocol) _ _ _ _ _ _ _ w c.scan-seen.result.seen
            c.in_default.not-Waiting c.scan-seen.ensures.0,
      );
      held_unchanged = stays (goal.at.returns-in_default c).At-loop-start;
    }

-- the held bytes wait, from `start` on
module _ (g : In-Waiting) where
  waits : Waits (rules_of g.args.protocol) open' (take g.loop-start.end g.loop-start.held) g.loop-start.at g.in-Waiting.start
  waits = rw g.in-Waiting.is at g.scan-seen.ensures.0

  wants : g.in-Waiting.start < length (take g.loop-start.end g.loop-start.held)
      → Patient (rules_of g.args.protocol) (drop g.in-Waiting.start (take g.loop-start.end g.loop-start.held)) g.scan-seen.result.lacks
  wants = rw g.in-Waiting.is at g.scan-seen.ensures.1

pub returns-then-left-eq0 : goal.returns-then-left-eq0
returns-then-left-eq0 c =
    let ws = waits (goal.at.returns-then-left-eq0 c).In-Waiting in
    let w = c.loop-start.invariant.0 in
    record {
      filled = (w.size, w.taken_within, filling_fits (rules_of c.args.protocol) (laws c.args.protocol) _ _ _ _ _ _ _ w, window_end (rules_of c.args.protocol) (laws c.args.protocol) _ _ _ _ _ _ _ w _ ws c.if-left-eq0.true);
      held_unchanged = stays (goal.at.returns-then-left-eq0 c).At-loop-start;
    }

pub overflow_sub-waiting : goal.overflow_sub-waiting
overflow_sub-waiting c =
    let ws = waits (goal.at.overflow_sub-waiting c).In-Waiting in
    window_fits (rules_of c.args.protocol) (laws c.args.protocol) _ _ _ _ _ _ _ c.loop-start.invariant.0 _ ws

pub overflow_sub-result : goal.overflow_sub-result
overflow_sub-result c =
    let ws = waits (goal.at.overflow_sub-result c).In-Waiting in
    (window_back (rules_of c.args.protocol) (laws c.args.protocol) _ _ _ _ _ _ _ c.loop-start.invariant.0 _ ws (shape_of c.args.protocol).shortest
    (undecided (shape_of c.args.protocol) (shapes_kept c.args.protocol)) (sym c.back_in_chunk.ensures ∙ c.if-back_in_chunk.true)).0

pub returns-then-back_in_chunk : goal.returns-then-back_in_chunk
returns-then-back_in_chunk c =
    let ws = waits (goal.at.returns-then-back_in_chunk c).In-Waiting in
    let w = c.loop-start.invariant.0 in record {
      filled = (
        w.size,
        omega (arith, w.taken_within),
        (window_back (rules_of c.args.protocol) (laws c.args.protocol) _ _ _ _ _ _ _ w _ ws (shape_of c.args.protocol).shortest
            (undecided (shape_of c.args.protocol) (shapes_kept c.args.protocol)) (sym c.back_in_chunk.ensures ∙ c.if-back_in_chunk.true)).1,
      );
      held_unchanged = stays (goal.at.returns-then-back_in_chunk c).At-loop-start;
    }

-- it takes m bytes more
module _ (l : After-min-more)
    (ws : Waits (rules_of l.args.protocol) open' (take l.loop-start.end l.loop-start.held) l.loop-start.at l.in-Waiting.start)
    (wt : l.in-Waiting.start < length (take l.loop-start.end l.loop-start.held)
    → Patient (rules_of l.args.protocol) (drop l.in-Waiting.start (take l.loop-start.end l.loop-start.held)) l.scan-seen.result.lacks) where
  patient : Patient (rules_of l.args.protocol) (drop l.in-Waiting.start (take l.loop-start.end l.loop-start.held)) l.scan-seen.result.lacks
  patient = wt (window_waits (rules_of l.args.protocol) (laws l.args.protocol) _ _ _ _ _ _ _ l.loop-start.invariant.0 _ ws
      (not_back (shape_of l.args.protocol).shortest _ _ (some_shortest l.args.protocol) (sym l.back_in_chunk.ensures ∙ l.if-back_in_chunk.false)))

  some : 0 < l.min-more.result
  some =
      omega (
        arith,
        l.min-more.ensures,
        l.min.ensures,
        patient.some,
        not_none _ l.if-room-eq0.false,
        not_none _ l.if-left-eq0.false,
      )

  within : l.min-more.result ≤ l.scan-seen.result.lacks
  within = least_first l.scan-seen.result.lacks _ _ _ _ l.min.ensures l.min-more.ensures

  taken_fits : l.loop-start.taken + l.min-more.result ≤ length l.args.chunk.now
  taken_fits = omega (arith, l.min-more.ensures, l.loop-start.invariant.0.taken_within)

pub overflow_sub-room : goal.overflow_sub-room
overflow_sub-room c = let v = c.loop-start.invariant.0 in omega (arith, filling_fits (rules_of c.args.protocol) (laws c.args.protocol) _ _ _ _ _ _ _ v)

pub returns-then-room-eq0 : goal.returns-then-room-eq0
returns-then-room-eq0 c =
    let ws = waits (goal.at.returns-then-room-eq0 c).In-Waiting in
    let v = c.loop-start.invariant.0 in
    let f = window_full (rules_of c.args.protocol) (laws c.args.protocol) _ _ _ _ _ _ _ v _ ws c.if-room-eq0.true (not_none _ c.if-left-eq0.false) in
    record {
      filled = (v.size, f.0, f.1, f.2);
      held_unchanged = stays (goal.at.returns-then-room-eq0 c).At-loop-start;
    }

pub overflow_add-taken : goal.overflow_add-taken
overflow_add-taken c =
    let ws = waits (goal.at.overflow_add-taken c).In-Waiting in
    let wt = wants (goal.at.overflow_add-taken c).In-Waiting in
    let tf = taken_fits (goal.at.overflow_add-taken c).After-min-more ws wt in
    omega (arith, tf)

pub slice_bounds-append-end : goal.slice_bounds-append-end
slice_bounds-append-end c =
    let ws = waits (goal.at.slice_bounds-append-end c).In-Waiting in
    let wt = wants (goal.at.slice_bounds-append-end c).In-Waiting in
    let tf = taken_fits (goal.at.slice_bounds-append-end c).After-min-more ws wt in
    tf

pub append-at-requires : goal.append-at-requires
append-at-requires c =
    let ws = waits (goal.at.append-at-requires c).In-Waiting in
    window_room (rules_of c.args.protocol) (laws c.args.protocol) _ _ _ _ _ _ _ c.loop-start.invariant.0 _ ws (c.min-more.result)
    (omega (arith, c.min-more.ensures, c.min.ensures))

-- and they stand behind it
module _ (j : After-append-at)
    (ws : Waits (rules_of j.args.protocol) open' (take j.loop-start.end j.loop-start.held) j.loop-start.at j.in-Waiting.start)
    (tf : j.loop-start.taken + j.min-more.result ≤ length j.args.chunk.now)
    (pt : Patient (rules_of j.args.protocol) (drop j.in-Waiting.start (take j.loop-start.end j.loop-start.held)) j.scan-seen.result.lacks)
    (wn : j.min-more.result ≤ j.scan-seen.result.lacks) where
  room : j.append-at.result + (j.loop-start.end - j.in-Waiting.start) + j.min-more.result ≤ length j.args.held.now
  room =
      room_behind (rules_of j.args.protocol) (laws j.args.protocol) j.args.chunk.now (length j.args.held.now) _ _ _ j.min-more.result j.loop-start.taken
      tf j.loop-start.invariant.0.size j.append-at.ensures.1

  part : length (take (j.loop-start.taken + j.min-more.result - j.loop-start.taken) (drop j.loop-start.taken j.args.chunk.now)) ≡ j.min-more.result
  part = part_length (rules_of j.args.protocol) (laws j.args.protocol) j.args.chunk.now (length j.args.held.now) j.loop-start.taken j.min-more.result tf

  reach : j.append-at.result + (j.loop-start.end - j.in-Waiting.start) + j.min-more.result ≤ j.args.count + (j.loop-start.taken + j.min-more.result)
  reach =
      omega (
        arith,
        j.append-at.ensures.0,
        j.loop-start.invariant.1,
        window_fits (rules_of j.args.protocol) (laws j.args.protocol) _ _ _ _ _ _ _ j.loop-start.invariant.0 _ ws,
      )

  more_stays : drop (j.args.count + (j.loop-start.taken + j.min-more.result)) j.append-at.new.held
      ≡ drop (j.args.count + (j.loop-start.taken + j.min-more.result)) j.args.held.now
  more_stays =
      let n = j.args.count + (j.loop-start.taken + j.min-more.result) in
      stays_more (j.loop-start.end + _) n _ j.loop-start.held (omega (arith, part, j.loop-start.invariant.1)) j.append-at.ensures.3
      ∙ stays_more (j.args.count + j.loop-start.taken) n _ _ (omega arith) j.loop-start.invariant.2

  more : Filling (rules_of j.args.protocol) (take j.args.count j.args.held.now) j.args.chunk.now (length j.args.held.now)
      j.append-at.new.held (j.loop-start.taken + j.min-more.result) j.append-at.result
      (j.append-at.result + (j.loop-start.end - j.in-Waiting.start) + j.min-more.result)
  more =
      window_more (rules_of j.args.protocol) (laws j.args.protocol) _ _ _ _ _ _ _ j.loop-start.invariant.0 _ ws _ _ j.min-more.result _ pt wn tf
      room j.append-at.auto.held j.append-at.ensures.2

pub overflow_add-taken-in-loop-start : goal.overflow_add-taken-in-loop-start
overflow_add-taken-in-loop-start c =
    let ws = waits (goal.at.overflow_add-taken-in-loop-start c).In-Waiting in
    let wt = wants (goal.at.overflow_add-taken-in-loop-start c).In-Waiting in
    let tf = taken_fits (goal.at.overflow_add-taken-in-loop-start c).After-min-more ws wt in
    omega (arith, tf)

pub loop-start-smaller : goal.loop-start-smaller
loop-start-smaller c =
    let ws = waits (goal.at.loop-start-smaller c).In-Waiting in
    let wt = wants (goal.at.loop-start-smaller c).In-Waiting in
    let tf = taken_fits (goal.at.loop-start-smaller c).After-min-more ws wt in
    let sm = some (goal.at.loop-start-smaller c).After-min-more ws wt in
    omega (arith, sm, tf)

pub loop-start-preserved : goal.loop-start-preserved
loop-start-preserved c =
    let ws = waits (goal.at.loop-start-preserved c).In-Waiting in
    let wt = wants (goal.at.loop-start-preserved c).In-Waiting in
    let tf = taken_fits (goal.at.loop-start-preserved c).After-min-more ws wt in
    let pt = patient (goal.at.loop-start-preserved c).After-min-more ws wt in
    let wn = within (goal.at.loop-start-preserved c).After-min-more ws wt in
    (more (goal.at.loop-start-preserved c).After-append-at ws tf pt wn, reach (goal.at.loop-start-preserved c).After-append-at ws tf pt wn, more_stays (goal.at.loop-start-preserved c).After-append-at ws tf pt wn)
