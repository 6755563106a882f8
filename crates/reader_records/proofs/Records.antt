-- The records keep to the rules, so demand 3 holds of them; from a fresh one on no call is refused.
use Rattle.std.specs.Prelude.{Err, None, Ok, Option, Result, Some}
use mathlib.Core.Path.{◌≡◌, refl, sym, ap, ◌∙◌}
use mathlib.Core.List.{List, [], ◌∷◌}
use Prim.Native.Nat.{ℕ, ◌-◌, ◌≤◌}
use native.Mathlib.Omega.{arith}
use borrow.Author.Tests.{le-leb, eq-eqb}
use lib.ListN.{length, take, replicate, length-take}
use lib.Seq.{take_at}
use Rattle.answers.specs.declared.Refusal.{Refusal}
use Rattle.reading.specs.Reading.{Event, packet, bad_checksum}
use Rattle.reading.specs.Calls.{CallResult, Call, call}
use Rattle.reading.specs.Lists.{after, Follows}
use Rattle.reading.proofs.Held.{held_bound}
use Rattle.reading.proofs.Follows.{follows_after}
use Rattle.reading.proofs.Clean.{call_promises}
use Rattle.reading.specs.Across.{NoneWithout}
use Rattle.reading.proofs.Across.{none_without}
use Rattle.packet_v1.specs.Packet.{header}
use Rattle.packet.proofs.Begins.{none_without_ff}
use Rattle.packet_protocols.specs.declared.Protocol.{Protocol}
use Rattle.packet_protocols.specs.declared.Protocol.TheVariants.{Two, One, Mercury}
use Rattle.packet_protocols.specs.Protocols.{rules_of, id_in}
use Rattle.packet_protocols.proofs.Shapes.{laws}
use Rattle.reader_core.specs.declared.Step.{Step}
use Rattle.reader_core.specs.Results.{most_held, event_for, packet_bytes, held_for}
use Rattle.reader_records.specs.declared.Reader.{Reader}
use Rattle.lists.specs.Write.{padded}
use Rattle.reader_records.specs.Records.{held_in, step_in, taken_by, held_by, told_by, left_in, packet_in, event_in, records_of, NeverRefusedIn, ProtocolPromises, EveryProtocol}

-- ---- one call on a record that is not refused

module _ (p : Protocol) (r : Reader) (c : Call) (h : r.count ≤ most_held p) where
  abbrev result : CallResult
  result = call (rules_of p) (held_in r) c

  step_is : step_in p r c ≡ Ok (record { taken = result.taken; held = length result.held; event = event_for p result.answer })
  unfolding step_in
  step_is = rw (le-leb r.count (most_held p) h)

  packet_padded : (old : List ℕ) → packet_in p r c old ≡ padded (rules_of p).longest (packet_bytes result.answer)
  unfolding packet_in
  packet_padded old = rw (le-leb r.count (most_held p) h)

  left_padded : (left_in p r c).bytes ≡ padded (most_held p) result.held
  unfolding left_in
  left_padded = rw (le-leb r.count (most_held p) h)

  left_count : (left_in p r c).count ≡ length result.held
  unfolding left_in
  left_count = ap (held_by r.count) step_is

  left_held : held_in (left_in p r c) ≡ result.held
  left_held =
      let t = result.held in
      ap (λ (s : List ℕ). take (left_in p r c).count s) left_padded
      ∙ take_at t (replicate (most_held p - length t) 0) (left_in p r c).count (sym left_count)

  left_legal : (left_in p r c).count ≤ most_held p
  left_legal =
      let k = held_bound (rules_of p) (laws p) (held_in r) c (simp length-take (omega arith)) in
      rw left_count k

  event_answered : event_in p (told_by (step_in p r c)) (packet_in p r c (replicate (rules_of p).longest 0)) ≡ result.answer
  event_answered = rw (step_is, packet_padded (replicate (rules_of p).longest 0)) (by result.answer)
    where
      by : (a : Option Event) → event_in p (event_for p a) (padded (rules_of p).longest (packet_bytes a)) ≡ a
      by None = refl
      by (Some (packet w)) =
          let e : take (length w) (padded (rules_of p).longest w) ≡ w = take_at w (replicate ((rules_of p).longest - length w) 0) (length w) refl in
          rw (e, eq-eqb (id_in p w) (id_in p w) refl)
      by (Some (bad_checksum id)) = refl

  no_refusal : (refusal : Refusal) → ¬ (step_in p r c ≡ Err refusal)
  no_refusal refusal e =
      let other = sym step_is ∙ e in
      let z : ◌≡◌ {A = ℕ} 0 1 = cc in
      omega arith

-- ---- lists of calls

module _ (p : Protocol) where
  abbrev Legal : Reader → Type 0
  Legal r = r.count ≤ most_held p

  pub follows : Follows (rules_of p) (records_of p) Legal held_in
  follows =
      record {
        fresh = λ r e. (rw e (omega arith), rw e);
        same_taken = λ r c h. ap taken_by (step_is p r c h);
        same_answer_lem = λ r c h. event_answered p r c h;
        same_next = λ r c h. (left_legal p r c h, left_held p r c h);
      }

  never_refused : NeverRefusedIn p
  unfolding follows
  never_refused r e cs c refusal =
      let f = follows.fresh r e in
      let n = follows_after (rules_of p) (records_of p) Legal held_in follows r [] cs f.0 f.1 in
      let x = after (records_of p) r cs in
      no_refusal p x c n.0 refusal

-- ---- the record after a call

pub record_left : (p : Protocol) (step : Result Step Refusal) (bytes : List ℕ) (r : Reader) (c : Call) → step ≡ step_in p r c
    → bytes ≡ held_for p r.count r.bytes (call (rules_of p) (held_in r) c)
    → ◌≡◌ {A = Reader} (record { bytes = bytes; count = held_by r.count step }) (left_in p r c)
unfolding left_in
record_left p step bytes r c e b = λ i. record { bytes = b i; count = held_by r.count (e i) }

-- ---- all that is promised

-- every packet begins with FF
begins : (w : List ℕ) → take 2 w ≡ header → (t : List ℕ) × (w ≡ 0xFF ∷ t)
begins [] e = let z : ◌≡◌ {A = ℕ} 0 1 = cc in absurd (omega arith)
begins (b ∷ t) e = let h : b ≡ 0xFF = cc in (t, ap (λ (a : ℕ). a ∷ t) h)

without_ff : (p : Protocol) → NoneWithout (rules_of p) 0xFF
without_ff Two = none_without_ff
without_ff One = none_without (rules_of One) 0xFF (λ w f. begins w f.headed)
without_ff Mercury = none_without (rules_of Mercury) 0xFF (λ w f. begins w f.headed)

protocol_promises : (p : Protocol) → ProtocolPromises p (most_held p)
protocol_promises p =
    record {
      any_fresh = λ bytes. refl;
      follows = follows p;
      calls = call_promises (rules_of p) (laws p) (records_of p) (Legal p) held_in (follows p);
      never_refused = never_refused p;
      followed_by = λ s. (λ h. omega arith, λ h. omega arith);
      none_without_ff = without_ff p;
    }

pub every_protocol : EveryProtocol
every_protocol = record { two = protocol_promises Two; one = protocol_promises One; mercury = protocol_promises Mercury }
