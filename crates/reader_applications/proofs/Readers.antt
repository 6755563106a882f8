use Rattle.std.specs.Prelude.{None, Some}
use mathlib.Core.Path.{◌≡◌, refl, sym, ap, subst, ◌∙◌}
use mathlib.Core.Bool.{Bool, true, false}
use mathlib.Core.List.Memᴰ
use mathlib.Core.List.{List, [], ◌∷◌, ◌++◌, map, append-nil, Memᴰ}
use mathlib.Core.Logic.{⊎_elim, inl, inr}
use Prim.Native.Nat.{ℕ, zero, suc, ◌+◌, ◌-◌, ◌<◌}
use native.Mathlib.Omega.{arith}
use lib.ListN.{length, take, drop, replicate}
use lib.Dec.{eqb}
use borrow.Author.Tests.{ltb-true, eqb-true, eqb-false}
use Rattle.answers.specs.declared.Refusal.TheVariants.{BadReader}
use Rattle.reading.specs.Rules.{is_packet, Rules}
use Rattle.reading.specs.Reading.{Event, packet, read_fuel, read_from, reading, open'}
use Rattle.reading.specs.Calls.{Call, feed, gap, CallResult, event, silent, first, fed, call, Fewest}
use Rattle.reading.specs.Lists.{model, after, took, given}
use Rattle.reading.specs.Promise.{what, since, AtStart, Finished, joined}
use Rattle.reading.specs.Across.{reaches_across}
use Rattle.crc.specs.Crc.{reduce_if, shift, shifts, crc_byte, crc_from}
use Rattle.stuffing.specs.Stuffing.{well_after}
use Rattle.packet_front.specs.Front.{length_of}
use Rattle.packet_front.specs.Header.{front_agrees, length_agrees}
use Rattle.packet.specs.Packet.{body_of, checksum_right}
use Rattle.packet.specs.Verdict.{protocol2}
use Rattle.packet_rules.specs.Shape.{verdict as shapeVerdict}
use Rattle.packet_v1.specs.Packet.{sum, checksum_right as sumRight}
use Rattle.packet_v1.specs.Verdict.{front_agrees as frontAgreesV1, length_agrees as lengthAgreesV1}
use Rattle.packet_protocols.specs.declared.Protocol.{Protocol}
use Rattle.packet_protocols.specs.declared.Protocol.TheVariants.{Two, One, Mercury}
use Rattle.packet_protocols.specs.Protocols.{rules_of}
use Rattle.reader_records.specs.Records.{held_in, step_in, left_in, packet_in, records_of, records, lent, ProtocolPromises}
use Rattle.reader_plain.specs.Next.{next_event}
use Rattle.reader_plain.specs.Plain.{plain, PlainPromises}
use Rattle.reading.proofs.Decided.{EachPacket, well, all_well}
use Rattle.reader_applications.specs.Demand3.{ping_to_1, write_status, read_to_1, ping_to_252, full, used, earlier, after_earlier}
use Rattle.reader_applications.specs.Readers.{halves, lacking, quiet, InWords, ReaderApplied, ProtocolPromisesApplied, segment, PlainPromisesApplied}

-- with fewer bytes of the chunk than n nothing is decided
abbrev EachSilent : Rules → List ℕ → List ℕ → ℕ → Type 0
EachSilent R held chunk zero = Unit {0}
EachSilent R held chunk (suc n) = (first R open' (held ++ take n chunk) ≡ silent (held ++ take n chunk)) × EachSilent R held chunk n

sooner : (R : Rules) (held chunk : List ℕ) (n : ℕ) → EachSilent R held chunk n → (k : ℕ) → k < n → (t : List ℕ) × (first R open' (held ++ take k chunk) ≡ silent t)
sooner R held chunk zero e k h = absurd (omega arith)
sooner R held chunk (suc n) e k h = pick (eqb k n) refl (λ l. sooner R held chunk n e.1 k l)
  where
    pick : (v : Bool) → eqb k n ≡ v → (k < n → (t : List ℕ) × (first R open' (held ++ take k chunk) ≡ silent t)) → (t : List ℕ) × (first R open' (held ++ take k chunk) ≡ silent t)
    pick true i f = (held ++ take n chunk, subst (λ (j : ℕ). first R open' (held ++ take j chunk) ≡ silent (held ++ take n chunk)) (sym (eqb-true k n i)) e.0)
    pick false i f = let d = eqb-false k n i in f (omega arith)

-- what the promises suppose, and what their conclusions come to, by tests
pub record Tested (p : Protocol) (most : ℕ) (a b : List ℕ) (h : ℕ) : Type 0 where
  pub are : EachPacket (rules_of p) (a ∷ b ∷ [])
  pub finished_gap : (call (rules_of p) (after (model (rules_of p)) [] (feed (0x01 ∷ []) ∷ [])) gap).answer ≡ None
  pub halves_taken : took (model (rules_of p)) [] (since (halves a b) 3) ≡ joined (a ∷ b ∷ [])
  pub halves_finished : (call (rules_of p) (after (model (rules_of p)) [] (since (halves a b) 0)) gap).answer ≡ None
  pub lacking_taken : took (records_of p) (used p) (since (lacking a b) 0) ≡ joined (b ∷ []) ++ take (length a - 1) a
  pub next : (rules_of p).verdict (take (length a - 1) a ++ drop (length a - 1) a) ≡ is_packet (length (take (length a - 1) a ++ drop (length a - 1) a))
  pub one_more_lem : length (drop (length a - 1) a) ≡ 1
  pub sized : length a ≡ h + 6
  pub chunk : length (drop h a ++ 0xFF ∷ []) ≡ 7
  pub each_silent : EachSilent (rules_of p) (take h a) (drop h a ++ 0xFF ∷ []) 6
  pub six : first (rules_of p) open' (take h a ++ take 6 (drop h a ++ 0xFF ∷ [])) ≡ event (packet a) []
  pub three : length (take 3 (drop h a ++ 0xFF ∷ [])) ≡ 3
  pub three_fed : fed (rules_of p) (take h a) (take 3 (drop h a ++ 0xFF ∷ [])) ≡ record { taken = 3; answer = None; held = take h a ++ take 3 (drop h a ++ 0xFF ∷ []) }
  pub bound : (rules_of p).longest - 1 ≡ most
  pub full_sized : length (full p) ≡ most
  pub full_answer : (call (rules_of p) (held_in (lent (full p) most)) (feed [])).answer ≡ None
  pub full_taken : (call (rules_of p) (held_in (lent (full p) most)) (feed (0x00 ∷ 0x00 ∷ []))).taken ≡ 1
  pub full_next : (call (rules_of p) (held_in (lent (full p) most)) gap).held ≡ []
  pub full_ends : (call (rules_of p) (full p) gap).answer ≡ None
  pub zeros : length {A = ℕ} (replicate most 0) ≡ most
  pub fewer : length {A = ℕ} (replicate (most - 1) 0) + 1 ≡ most
  pub crossing : reaches_across (rules_of p) (take 5 a) (drop 5 a) ≡ true

absent : ¬ Memᴰ {A = ℕ} 0xFF quiet
absent m =
    ⊎_elim (λ e. absurd (omega (arith, e))) (λ n. ⊎_elim (λ e. absurd (omega (arith, e))) (λ k. Memᴰ.not-nil k) (Memᴰ.cases_cons n))
    (Memᴰ.cases_cons m)

module _ (p : Protocol) (most : ℕ) (a b : List ℕ) (h : ℕ) (c : Tested p most a b h) (t : ProtocolPromises p most) where
  abbrev answered : CallResult
  answered = record { taken = 6; answer = Some (packet a); held = [] }

  -- six bytes, and no fewer
  is_fewest : Fewest (rules_of p) (take h a) (drop h a ++ 0xFF ∷ []) answered
  is_fewest =
      record {
        within = let n = c.chunk in omega (arith, n);
        none_sooner = λ k l. sooner (rules_of p) (take h a) (drop h a ++ 0xFF ∷ []) 6 c.each_silent k l;
        decided = λ e i. let s : packet a ≡ e = cc in c.six ∙ ap (λ (x : Event). event x []) s;
        undecided = λ i. let z : ◌≡◌ {A = ℕ} 0 1 = cc in absurd (omega arith);
      }

  is_answered : fed (rules_of p) (take h a) (drop h a ++ 0xFF ∷ []) ≡ answered
  is_answered = sym ((t.calls.fewest_rule (take h a) (drop h a ++ 0xFF ∷ [])).1 answered is_fewest)

  in_words : InWords (rules_of p) (take h a) (drop h a ++ 0xFF ∷ []) a
  in_words =
      let rule = subst (Fewest (rules_of p) (take h a) (drop h a ++ 0xFF ∷ [])) is_answered (t.calls.fewest_rule (take h a) (drop h a ++ 0xFF ∷ [])).0 in
      let silence = (t.calls.fewest_rule (take h a) (take 3 (drop h a ++ 0xFF ∷ []))).0.undecided (ap (λ (r : CallResult). r.answer) c.three_fed) in
      record {
        five = rule.none_sooner 5 (ltb-true _ _ refl);
        six = rule.decided (packet a) refl;
        few = rule.within;
        three = silence.0 ∙ c.three;
        waits = silence.1 ∙ ap (λ (r : CallResult). silent r.held) c.three_fed;
      }

  not_seven : ¬ (◌≡◌ {A = CallResult} answered (record { taken = 7; answer = Some (packet a); held = [] }))
  not_seven e = let z : ◌≡◌ {A = ℕ} 6 7 = ap (λ (r : CallResult). r.taken) e in absurd (omega arith)

  not_both : (v : Bool) → v ≡ true → v ≡ false → ⊥
  not_both v x y = let z : ◌≡◌ {A = ℕ} 0 1 = cc in absurd (omega arith)

  applied : ReaderApplied p most a b h
  unfolding after
  applied =
      let calls = t.calls in
      let L = calls.laws in
      let w = all_well (rules_of p) L (a ∷ b ∷ []) c.are in
      let joins = ap (λ (l : List ℕ). a ++ l) (append-nil b) in
      let clean = calls.clean_line (used p) (t.any_fresh (full p)) earlier (inr (feed (0x01 ∷ []) ∷ [], refl, c.finished_gap)) (halves a b) 3 (a ∷ b ∷ []) w c.halves_taken
      (0, ltb-true _ _ refl, c.halves_finished) in
      let one = calls.packet_by_packet (used p) (t.any_fresh (full p)) (a ∷ b ∷ []) w in
      let arriving = calls.demand_3 (used p) (t.any_fresh (full p)) [] (inl refl) (lacking a b) 0 [] (b ∷ []) (take (length a - 1) a) c.lacking_taken
      (all_well (rules_of p) L (b ∷ []) c.are.1) (calls.without_noise (joined (b ∷ []) ++ take (length a - 1) a)) in
      let next = well (rules_of p) L (take (length a - 1) a ++ drop (length a - 1) a) c.next in
      let one-packet = ap length (append-nil b) in
      let bound = c.bound in
      let sized = c.full_sized in
      let zeros = c.zeros in
      let fewer = c.fewer in
      let long = c.sized in
      let none_across = t.none_without_ff quiet a absent in
      record {
        clean_taken = clean.0 ∙ joins;
        clean_line = clean.1;
        packet_by_packet = one.all_given;
        finished = one.finished;
        start_again = one.start_again;
        all_taken = one.all_taken ∙ joins;
        only_packets = λ q e m hi. arriving.only_packets q e m (omega arith) (omega (arith, hi, one-packet));
        none_arriving = λ q e m. let l = arriving.none_arriving refl (drop (length a - 1) a) (omega (arith, c.one_more_lem)) next q e m in omega (arith, l, one-packet);
        fewest = is_answered;
        none_sooner = λ e. not_seven (sym is_answered ∙ e);
        in_words = in_words;
        held_bound = let l = calls.held_bound (full p) (feed []) (omega (arith, bound, sized)) in omega (arith, l, bound);
        finished_empty = calls.finished_empty (full p) c.full_ends;
        fresh_legal = (t.follows.fresh (used p) refl).0;
        fresh_holds = (t.follows.fresh (used p) refl).1;
        same_answer_lem = t.follows.same_answer_lem (lent (full p) most) (feed []) (omega arith) ∙ c.full_answer;
        same_taken = t.follows.same_taken (lent (full p) most) (feed (0x00 ∷ 0x00 ∷ [])) (omega arith) ∙ c.full_taken;
        same_next = (t.follows.same_next (lent (full p) most) gap (omega arith)).1 ∙ c.full_next;
        stays_legal = (t.follows.same_next (lent (full p) most) (feed []) (omega arith)).0;
        never_refused = t.never_refused (used p) refl (earlier ++ feed (full p) ∷ []) gap BadReader;
        followed = (t.followed_by (replicate most 0)).1 (omega (arith, zeros));
        too_few = λ f. let few = (t.followed_by (replicate (most - 1) 0)).0 f in absurd (omega (arith, few, fewer));
        none_without_ff = none_across [] (quiet ++ a) [] (sym (append-nil (quiet ++ a))) (ltb-true _ _ refl) (omega (arith, long));
        apart = (calls.across_decided quiet a).1 none_across;
        across = λ n. not_both _ c.crossing ((calls.across_decided (take 5 a) (drop 5 a)).1 n);
      }

two : Tested Two 1030 ping_to_1 write_status 4
unfolding after took step_in left_in packet_in first fed call reaches_across reduce_if shift shifts crc_byte crc_from well_after length_of body_of checksum_right front_agrees length_agrees shapeVerdict
two =
    record {
      are = (refl, (refl, tt));
      finished_gap = refl;
      halves_taken = refl;
      halves_finished = refl;
      lacking_taken = refl;
      next = refl;
      one_more_lem = refl;
      sized = refl;
      chunk = refl;
      each_silent = (refl, (refl, (refl, (refl, (refl, (refl, tt))))));
      six = refl;
      three = refl;
      three_fed = refl;
      bound = refl;
      full_sized = refl;
      full_answer = refl;
      full_taken = refl;
      full_next = refl;
      full_ends = refl;
      zeros = refl;
      fewer = refl;
      crossing = refl;
    }

one : Tested One 258 read_to_1 ping_to_252 2
unfolding after took step_in left_in packet_in first fed call reaches_across sum sumRight frontAgreesV1 lengthAgreesV1 shapeVerdict
one =
    record {
      are = (refl, (refl, tt));
      finished_gap = refl;
      halves_taken = refl;
      halves_finished = refl;
      lacking_taken = refl;
      next = refl;
      one_more_lem = refl;
      sized = refl;
      chunk = refl;
      each_silent = (refl, (refl, (refl, (refl, (refl, (refl, tt))))));
      six = refl;
      three = refl;
      three_fed = refl;
      bound = refl;
      full_sized = refl;
      full_answer = refl;
      full_taken = refl;
      full_next = refl;
      full_ends = refl;
      zeros = refl;
      fewer = refl;
      crossing = refl;
    }

mercury : Tested Mercury 258 read_to_1 ping_to_252 2
unfolding after took step_in left_in packet_in first fed call reaches_across sum sumRight frontAgreesV1 lengthAgreesV1 shapeVerdict
mercury =
    record {
      are = (refl, (refl, tt));
      finished_gap = refl;
      halves_taken = refl;
      halves_finished = refl;
      lacking_taken = refl;
      next = refl;
      one_more_lem = refl;
      sized = refl;
      chunk = refl;
      each_silent = (refl, (refl, (refl, (refl, (refl, (refl, tt))))));
      six = refl;
      three = refl;
      three_fed = refl;
      bound = refl;
      full_sized = refl;
      full_answer = refl;
      full_taken = refl;
      full_next = refl;
      full_ends = refl;
      zeros = refl;
      fewer = refl;
      crossing = refl;
    }

pub protocol_promises_applied : ProtocolPromisesApplied
protocol_promises_applied = (
  applied Two 1030 ping_to_1 write_status 4 two,
  applied One 258 read_to_1 ping_to_252 2 one,
  applied Mercury 258 read_to_1 ping_to_252 2 mercury,
)

both_taken : took (model protocol2) [] (since (segment ∷ ping_to_1 ∷ []) 1) ≡ segment
unfolding reduce_if shift shifts crc_byte crc_from well_after length_of body_of checksum_right front_agrees length_agrees shapeVerdict after took first fed call
both_taken = refl

both_finished : Finished (model protocol2) [] (segment ∷ ping_to_1 ∷ []) 1
unfolding reduce_if shift shifts crc_byte crc_from well_after length_of body_of checksum_right front_agrees length_agrees shapeVerdict after first fed call
both_finished = (0, omega arith, refl)

gap_finished : records.answer (after records (used Two) (feed (0x01 ∷ []) ∷ [])) gap ≡ None
unfolding after first fed call step_in left_in packet_in front_agrees length_agrees shapeVerdict
gap_finished = refl

same_given : PlainPromises records → (before : List Call) → AtStart records (used Two) before
    → given records (after records (used Two) before) (since (segment ∷ ping_to_1 ∷ []) 1) ≡ map what (plain segment)
same_given t before start =
    let s = t.same (used Two) refl before start (segment ∷ ping_to_1 ∷ []) 1 in
    s.same (s.finishes both_finished) ∙ ap (λ (l : List ℕ). map what (plain l)) (s.counted ∙ both_taken)

pub plain_promises_applied : PlainPromisesApplied
unfolding after reduce_if shift shifts crc_byte crc_from well_after length_of body_of checksum_right front_agrees length_agrees shapeVerdict read_fuel read_from reading next_event
plain_promises_applied t =
    record {
      reads = t.reads segment;
      first = t.within segment 0;
      second = t.within segment 1;
      same = same_given t earlier (inr (feed (0x01 ∷ []) ∷ [], refl, gap_finished));
      same_fresh = same_given t [] (inl refl);
    }
