-- What the parts of a call come to is what a lean call answers and leaves, once it has cleared what it may have written.
use Rattle.std.specs.Prelude.{Ok}
use mathlib.Core.Path.{◌≡◌, refl, sym, ap, ap₂, ◌∙◌}
use mathlib.Core.Bool.{Bool, true, false, cond}
use mathlib.Core.List.{List, ◌++◌, append_assoc}
use Prim.Native.Nat.{ℕ, ◌+◌, ◌-◌, ◌≤◌, min}
use native.Mathlib.Omega.{arith}
use lib.Dec.{leb}
use lib.ListN.{length, take, drop, replicate, take-append-drop, drop_of_length-le}
use borrow.Author.Tests.{leb-true, leb-false, le-leb}
use borrow.Rule.Slice.PartMut.{mid_of, put_mid, mid_len, Post-is}
use Rattle.lists.specs.Write.{overwritten}
use Rattle.lists.proofs.Write.{overwritten_zeros}
use Rattle.reading.specs.Calls.{CallResult, Call, call}
use Rattle.reading.proofs.Held.{held_bound}
use Rattle.packet_protocols.specs.declared.Protocol.{Protocol}
use Rattle.packet_protocols.specs.Protocols.{rules_of, id_in}
use Rattle.packet_protocols.proofs.Shapes.{laws}
use Rattle.reader_core.specs.declared.Step.{Step}
use Rattle.reader_core.specs.Results.{most_held, packet_bytes, step_for, lean_held, lean_packet, lean_held_for, lean_packet_for}
use Rattle.reader_core.specs.Delivered.{size_in, Delivered, Spared}
use Rattle.reader_core.proofs.Deliveries.{size_is}
use Rattle.reader_core.proofs.Answers.{cleared, cleared_is, step_is}
use Rattle.reader_core.proofs.Spared.{call_shorter}

-- ---- the clearing

drop_least : (s : List ℕ) (n : ℕ) → drop (min (length s) n) s ≡ drop n s
drop_least s n = by (leb n (length s)) refl
  where
    by : (b : Bool) → leb n (length s) ≡ b → drop (min (length s) n) s ≡ drop n s
    by true i =
        let l = leb-true n (length s) i in
        let z : min (length s) n ≡ n = omega arith in
        ap (λ (k : ℕ). drop k s) z
    by false i =
        let l = leb-false n (length s) i in
        drop_of_length-le s {i = min (length s) n} (omega arith) ∙ sym (drop_of_length-le s {i = n} (omega arith))

-- the part from `from` up to what was reached is 0
pub part_cleared : (held ys : List ℕ) (count from taken k : ℕ) → k ≡ min (length held - count) taken → count ≤ length held
    → from ≤ length held → from ≤ count + taken
    → ys ≡ take 0 (mid_of from (count + k - from) held) ++ replicate (length (mid_of from (count + k - from) held) - 0) 0
    → put_mid from (count + k - from) held ys
    ≡ take from held ++ (replicate (min (length held) (count + taken) - from) 0 ++ drop (count + taken) held)
part_cleared held ys count from taken k e l m n i =
    let z : count + k ≡ min (length held) (count + taken) = omega arith in
    let q : length (mid_of from (count + k - from) held) - 0 ≡ min (length held) (count + taken) - from =
    omega (arith, mid_len from (count + k) held (omega arith)) in
    let d : drop (count + k - from) (drop from held) ≡ drop (count + taken) held =
    Post-is from (count + k) held (omega arith) ∙ ap (λ (k : ℕ). drop k held) z ∙ drop_least held (count + taken) in
    ap₂ (λ (x y : List ℕ). take from held ++ (x ++ y)) (i ∙ ap (λ (k : ℕ). replicate k 0) q) d

-- ---- the call

module _ (p : Protocol) (count : ℕ) (h : List ℕ) (c : Call) (held₀ bytes₀ held bytes : List ℕ) (step : Step) (few : length h ≤ count)
    (room : count ≤ most_held p) (m : length held ≡ most_held p) (n : length bytes ≡ (rules_of p).longest)
    (w : Delivered p (call (rules_of p) h c) step held bytes) (k : Spared (most_held p) count step held₀ bytes₀ held bytes) where
  abbrev r : CallResult
  r = call (rules_of p) h c

  -- what the clearing asks for
  pub lean_asks : (count ≤ length held) × (step.held ≤ length held) × (step.held ≤ count + step.taken)
  lean_asks =
      let b = held_bound (rules_of p) (laws p) h c (omega arith) in
      let s = call_shorter (rules_of p) (laws p) h c in
      let t = w.taken_is in
      let e = w.count_is in
      (omega arith, omega arith, omega arith)

  held_left : (held' : List ℕ)
      → held' ≡ take step.held held ++ (replicate (min (length held) (count + step.taken) - step.held) 0 ++ drop (count + step.taken) held)
      → held' ≡ lean_held p count held₀ r
  held_left held' e =
      let upto : min (length held) (count + step.taken) - step.held ≡ min (most_held p) (count + r.taken) - length r.held =
      ap₂ (λ (x y : ℕ). x - y) (ap₂ (λ (x y : ℕ). min x (count + y)) m w.taken_is) w.count_is in
      let later : drop (count + step.taken) held ≡ drop (count + r.taken) held₀ =
      k.held_stays ∙ ap (λ (x : ℕ). drop (count + x) held₀) w.taken_is in
      e
      ∙ ap₂ (λ (x y : List ℕ). x ++ y) w.held_is (ap₂ (λ (x : ℕ) (y : List ℕ). replicate x 0 ++ y) upto later)
      ∙ sym (append_assoc r.held (replicate (min (most_held p) (count + r.taken) - length r.held) 0) (drop (count + r.taken) held₀))

  size : size_in step.event ≡ length (packet_bytes r.answer)
  size = ap size_in w.event_is ∙ size_is (id_in p bytes) r.answer

  front : take (size_in step.event) bytes ≡ packet_bytes r.answer
  front = ap (λ (x : ℕ). take x bytes) size ∙ w.bytes_are

  spared_bytes : count + step.taken ≤ most_held p → bytes ≡ overwritten bytes₀ (packet_bytes r.answer)
  spared_bytes l =
      sym (take-append-drop (size_in step.event) bytes)
      ∙ ap₂ (λ (x y : List ℕ). x ++ y) front (k.bytes_stay l ∙ ap (λ (x : ℕ). drop x bytes₀) size)

  cleared_bytes : cleared bytes (size_in step.event) ≡ overwritten (replicate (rules_of p).longest 0) (packet_bytes r.answer)
  cleared_bytes =
      cleared_is bytes _ (packet_bytes r.answer) (size_in step.event) (rules_of p).longest n size front refl
      ∙ sym (overwritten_zeros (rules_of p).longest (packet_bytes r.answer))

  packet_left : (bytes' : List ℕ) → bytes' ≡ cond (leb (count + step.taken) (length held)) bytes (cleared bytes (size_in step.event))
      → bytes' ≡ lean_packet p count bytes₀ r
  packet_left bytes' e = e ∙ by (leb (count + step.taken) (length held)) refl
    where
      by : (b : Bool) → leb (count + step.taken) (length held) ≡ b
          → cond b bytes (cleared bytes (size_in step.event)) ≡ lean_packet p count bytes₀ r
      by true i =
          let l = leb-true (count + step.taken) (length held) i in
          let q : leb (count + r.taken) (most_held p) ≡ true = ap₂ (λ (x y : ℕ). leb (count + x) y) (sym w.taken_is) (sym m) ∙ i in
          rw q (spared_bytes (omega arith))
      by false i =
          let q : leb (count + r.taken) (most_held p) ≡ false = ap₂ (λ (x y : ℕ). leb (count + x) y) (sym w.taken_is) (sym m) ∙ i in
          rw q cleared_bytes

  pub lean : (held' bytes' : List ℕ)
      → (held' ≡ take step.held held ++ (replicate (min (length held) (count + step.taken) - step.held) 0 ++ drop (count + step.taken) held))
      × (bytes' ≡ cond (leb (count + step.taken) (length held)) bytes (cleared bytes (size_in step.event)))
      → (Ok step ≡ step_for p count r) × (held' ≡ lean_held_for p count held₀ r) × (bytes' ≡ lean_packet_for p count bytes₀ r)
  lean held' bytes' e =
      let q = le-leb count (most_held p) room in
      (step_is p count h c held bytes step room w, rw q (held_left held' e.0), rw q (packet_left bytes' e.1))
