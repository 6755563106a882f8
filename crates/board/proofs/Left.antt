-- How a call leaves a board's reader: it holds what the rules say, and where 0 followed the held bytes it is left as by the reader's own
-- calls.
use mathlib.Core.Path.{◌≡◌, refl, sym, ap, ◌∙◌}
use mathlib.Core.List.{List, ◌++◌, append_assoc}
use Prim.Native.Nat.{ℕ, ◌+◌, ◌-◌, ◌≤◌, min}
use native.Mathlib.Omega.{arith}
use lib.ListN.{length, take, drop, replicate, length-take, replicate-append-replicate}
use Rattle.std.proofs.lemmas.List.{drop-replicate}
use lib.Seq.{take_at, drop_at, drop-drop}
use borrow.Author.Tests.{le-leb}
use Rattle.lists.specs.Write.{padded}
use Rattle.reading.specs.Calls.{CallResult, Call, call}
use Rattle.reading.proofs.Held.{held_bound}
use Rattle.packet.specs.Verdict.{protocol2}
use Rattle.packet.proofs.Laws.{laws}
use Rattle.reader_core.proofs.Spared.{call_shorter}
use Rattle.reader_records.specs.declared.Reader.{Reader}
use Rattle.reader_records.specs.Records.{held_in, step_in, left_in, left_by}
use Rattle.board.specs.Board.{reader_left}

joined_zeros : (a b n : ℕ) → a + b ≡ n → (later : List ℕ) → later ≡ replicate b 0 → replicate a 0 ++ later ≡ replicate n 0
joined_zeros a b n z later e =
    ap (λ (s : List ℕ). replicate a 0 ++ s) e ∙ replicate-append-replicate a b 0 ∙ ap (λ (k : ℕ). replicate k 0) z

module _ (r : Reader) (c : Call) where
  abbrev result : CallResult
  result = call protocol2 (held_in r) c

  pub left_held : held_in (reader_left r c) ≡ result.held
  unfolding reader_left
  left_held =
      let zeros = replicate {A = ℕ} (min 1030 (r.count + result.taken) - length result.held) 0 in
      let later = drop (r.count + result.taken) r.bytes in
      ap (λ (s : List ℕ). take (length result.held) s) (append_assoc result.held zeros later)
      ∙ take_at result.held (zeros ++ later) (length result.held) refl

  module _ (few : r.count ≤ 1030) where
    held_few : length result.held ≤ 1030
    held_few = held_bound protocol2 laws (held_in r) c (omega (arith, length-take r.count r.bytes))

    pub left_count : (reader_left r c).count ≤ 1030
    unfolding reader_left
    left_count = held_few

    -- where 0 follows the held bytes
    module _ (clean : drop r.count r.bytes ≡ replicate (1030 - r.count) 0) where
      left_padded : (reader_left r c).bytes ≡ padded 1030 result.held
      unfolding reader_left
      left_padded =
          let h = result.held in
          let a = min 1030 (r.count + result.taken) - length h in
          let later = drop (r.count + result.taken) r.bytes in
          let z : a + (1030 - r.count - result.taken) ≡ 1030 - length h =
          omega (arith, held_few, call_shorter protocol2 laws (held_in r) c, length-take r.count r.bytes) in
          let e : later ≡ replicate (1030 - r.count - result.taken) 0 =
          sym (drop-drop result.taken r.count r.bytes) ∙ ap (λ (s : List ℕ). drop result.taken s) clean
          ∙ drop-replicate result.taken (1030 - r.count) 0 in
          let tail = joined_zeros a (1030 - r.count - result.taken) (1030 - length h) z later e in
          append_assoc h (replicate a 0) later ∙ ap (λ (s : List ℕ). h ++ s) tail

      pub left_clean : drop (reader_left r c).count (reader_left r c).bytes ≡ replicate (1030 - (reader_left r c).count) 0
      unfolding reader_left
      left_clean =
          let h = result.held in
          ap (λ (s : List ℕ). drop (length h) s) left_padded ∙ drop_at h (replicate (1030 - length h) 0) (length h) refl

      pub left_reader : reader_left r c ≡ left_by r c
      unfolding reader_left left_in step_in
      left_reader = rw (le-leb r.count 1030 few) (λ i. record { bytes = left_padded i; count = length result.held })
