-- What a call on a board comes to: where it is refused, and where the reader's event is carried out.
use Rattle.std.specs.Prelude.{None, Ok, Option, Some}
use mathlib.Core.Path.{◌≡◌, refl, ap, ◌∙◌}
use mathlib.Core.List.{List}
use mathlib.Core.Bool.{cond}
use Prim.Native.Nat.{ℕ, ◌+◌}
use lib.Dec.{leb}
use native.Mathlib.Omega.{arith}
use lib.ListN.{length, take, drop, replicate, length-append}
use lib.Seq.{take_at}
use borrow.Author.Tests.{le-leb}
use Rattle.answers.specs.Refusals.{number_of}
use Rattle.answers.specs.declared.Refusal.{Refusal}
use Rattle.lists.specs.Write.{overwritten, placed}
use Rattle.stuffing.specs.Stuffing.{unstuff}
use Rattle.reading.specs.Reading.{Event, packet, bad_checksum}
use Rattle.reading.specs.Calls.{CallResult, Call, call}
use Rattle.packet.specs.Packet.{WellFormed, body_of}
use Rattle.packet.specs.Verdict.{protocol2}
use Rattle.packet.proofs.Laws.{laws}
use Rattle.packet_protocols.specs.declared.Protocol.TheVariants.{Two}
use Rattle.reader_core.specs.declared.Step.{Step}
use Rattle.reader_core.specs.Results.{event_for, packet_bytes, step_for, lean_held, lean_packet, lean_held_for, lean_packet_for}
use Rattle.reader_records.specs.declared.Reader.{Reader}
use Rattle.reader_records.specs.Records.{held_in, lent}
use Rattle.board.specs.declared.BoardStep.{BoardStep}
use Rattle.board.specs.Board.{Board, reader_left, carried_if_any, board_refusal, outcome}
use Rattle.board.specs.Numbers.{refused_step, step_unless, board_step, buffer_for, buffer_left}
use Rattle.board.specs.Inside.{event_by, Fits, buffer_by, step_after}
use Rattle.board.proofs.Refusals.{accepted}
use Rattle.board.proofs.Sound.{call_good}

-- ---- the reader's answer and the packet buffer, by the event

module _ (base w : List ℕ) where
  whole : take (length w) (overwritten base w) ≡ w
  whole = take_at w (drop (length w) base) (length w) refl

module _ (base : List ℕ) where
  event_back : (a : Option Event) → event_by (event_for Two a) (overwritten base (packet_bytes a)) ≡ a
  event_back None = refl
  event_back (Some (packet w)) = ap (λ (s : List ℕ). Some (packet s)) (whole base w)
  event_back (Some (bad_checksum id)) = refl

  buffer_back : (a : Option Event) → buffer_by (event_for Two a) (overwritten base (packet_bytes a)) ≡ buffer_for (overwritten base (packet_bytes a)) a
  buffer_back None = refl
  buffer_back (Some (packet w)) = ap (λ (s : List ℕ). placed (overwritten base w) 7 (unstuff (body_of s))) (whole base w)
  buffer_back (Some (bad_checksum id)) = refl

  fits_back : (a : Option Event) → ((w : List ℕ) → a ≡ Some (packet w) → WellFormed w) → Fits (event_for Two a) (overwritten base (packet_bytes a))
  fits_back None good = tt
  fits_back (Some (packet w)) good =
      let f = good w refl in
      let low = f.shortest in
      let n = f.counted in
      (omega arith, omega (arith, length-append w (drop (length w) base)), rw (whole base w) refl)
  fits_back (Some (bad_checksum id)) good = tt

-- ---- the call

-- the registered write of the answer is that of the board
pub step_registered : (b : Board) (c : Call) → (board_step b c).registered ≡ (outcome b c).board.registered
unfolding board_step
step_registered b c = by (board_refusal b)
  where
    by : (r : Option Refusal) → (step_unless r (outcome b c)).registered ≡ (outcome b c).board.registered
    by None = refl
    by (Some refusal) = refl

module _ (b : Board) (c : Call) (old : List ℕ) where
  -- what the contracts of `feed` and `gap` say
  abbrev pub Says : BoardStep → Reader → List ℕ → List ℕ → Type 0
  Says r reader table buffer =
      (r ≡ board_step b c)
      × ((reader ≡ (outcome b c).board.reader) × (table ≡ (outcome b c).board.table) × (buffer ≡ buffer_left b c old))

  pub refused_call : (refusal : Refusal) → board_refusal b ≡ Some refusal → (r : BoardStep) → r ≡ refused_step (number_of refusal) b.registered
      → Says r b.reader b.table old
  unfolding board_step outcome buffer_left
  refused_call refusal i r e = (rw i e, (rw i, rw i, rw i))

  module _ (ok : board_refusal b ≡ None) where
    abbrev result : CallResult
    result = call protocol2 (held_in b.reader) c

    -- the reader's call is not refused either
    pub answered_step : step_for Two b.reader.count result ≡ Ok (record { taken = result.taken; held = length result.held; event = event_for Two result.answer })
    answered_step = rw (le-leb b.reader.count 1030 (accepted b ok).held) refl

    module _ (step : Step) (bytes buffer : List ℕ) (s : Ok step ≡ step_for Two b.reader.count result)
        (h : bytes ≡ lean_held_for Two b.reader.count b.reader.bytes result) (p : buffer ≡ lean_packet_for Two b.reader.count old result) where
      -- what the packet's bytes stand in
      abbrev base : List ℕ
      base = cond (leb (b.reader.count + result.taken) 1030) old (replicate 1031 0)

      step_is : step ≡ record { taken = result.taken; held = length result.held; event = event_for Two result.answer }
      step_is = let e = s ∙ answered_step in cc

      bytes_are : bytes ≡ lean_held Two b.reader.count b.reader.bytes result
      bytes_are = h ∙ rw (le-leb b.reader.count 1030 (accepted b ok).held) refl

      buffer_is : buffer ≡ lean_packet Two b.reader.count old result
      buffer_is = p ∙ rw (le-leb b.reader.count 1030 (accepted b ok).held) refl

      reader_is : lent bytes step.held ≡ reader_left b.reader c
      unfolding reader_left
      reader_is = λ i. record { bytes = bytes_are i; count = (step_is i).held }

      pub fits : Fits step.event buffer
      fits = rw (step_is, buffer_is) (fits_back base result.answer (call_good protocol2 laws (held_in b.reader) c))

      event_is : event_by step.event buffer ≡ result.answer
      event_is = rw (step_is, buffer_is) (event_back base result.answer)

      taken_is : step.taken ≡ result.taken
      taken_is = ap (λ (x : Step). x.taken) step_is

      left_buffer : buffer_by step.event buffer ≡ buffer_for (lean_packet Two b.reader.count old result) result.answer
      left_buffer = rw (step_is, buffer_is) (buffer_back base result.answer)

      pub received_call : (r : BoardStep) (table' buffer' : List ℕ) → r ≡ step_after b.table b.registered step.taken (event_by step.event buffer)
          → table' ≡ (carried_if_any b.table b.registered (event_by step.event buffer)).table → buffer' ≡ buffer_by step.event buffer
          → Says r (lent bytes step.held) table' buffer'
      unfolding board_step outcome buffer_left
      received_call r table' buffer' e t p =
          let w = b.registered in (
            e ∙ (λ i. step_after b.table w (taken_is i) (event_is i)) ∙ rw ok refl,
            (
              reader_is ∙ rw ok refl,
              t ∙ ap (λ (a : Option Event). (carried_if_any b.table w a).table) event_is ∙ rw ok refl,
              p ∙ left_buffer ∙ rw ok refl,
            ),
          )
