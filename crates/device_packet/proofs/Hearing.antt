-- What the steps of the call come to: the ID, the refusals of removal, and what the device is given.
use Rattle.std.specs.Prelude.{Result}
use Rattle.std.specs.Prelude.{None, Option, Some}
use mathlib.Core.Path.{◌≡◌, refl, sym, ap, ap₂, subst, ◌∙◌}
use mathlib.Core.Bool.{Bool, true, false, cond}
use mathlib.Core.List.{List, [], append-nil}
use Prim.Native.Nat.{ℕ, ◌≤◌, ◌<◌}
use native.Mathlib.Omega.{arith}
use lib.Dec.{eqb}
use lib.ListN.{length, take}
use lib.Seq.{take_all}
use borrow.Author.Tests.{eq-eqb, ne_eqb, le-leb, lt-leb, le-ltb}
use Rattle.answers.specs.Refusals.{or_else, unless_refused}
use Rattle.answers.specs.declared.Refusal.{Refusal}
use Rattle.answers.specs.declared.Refusal.TheVariants.{BadStuffing, NoRoom}
use Rattle.lists.specs.Write.{overwritten}
use Rattle.lists.proofs.Bools.{both_ways}
use Rattle.lists.proofs.Write.{overwritten_take}
use Rattle.stuffing.specs.Stuffing.{well_stuffed, unstuff}
use Rattle.stuffing.specs.Answers.{checked, removal_refusal, removal_out}
use Rattle.stuffing.proofs.Answers.{checked_bad, checked_good, Removed}
use Rattle.reading.specs.Rules.{Verdict, is_packet, is_bad_checksum, is_waiting, is_nothing}
use Rattle.packet_front.specs.Front.{header, id_of}
use Rattle.packet_rules.specs.Answers.{front_by, answer_for}
use Rattle.packet_rules.specs.declared.Front.{Front}
use Rattle.packet_rules.specs.declared.Front.TheVariants.{Nothing, Waiting, Whole}
use Rattle.packet.specs.Packet.{body_of, checksum_right, WellFormed}
use Rattle.packet.specs.Verdict.{shape, verdict, whole_answer}
use Rattle.packet_rules.specs.declared.Verdict.{Verdict as Verdict-as-Code}
use Rattle.packet_rules.specs.declared.Verdict.TheVariants.{Packet as Verdict-as-Packet, Nothing as Verdict-as-Nothing, Waiting as Verdict-as-Waiting}
use Rattle.packet.proofs.Header.{headed}
use Rattle.packet_rules.proofs.Peeks.{peek_nothing, peek_waiting, peek_size, peek_long}
use Rattle.packet.proofs.Laws.{shape_laws, laws}
use Rattle.packet.proofs.Peeks.{peek_header, peek_whole}
use Rattle.device_instructions.specs.Registered.{kept_by}
use Rattle.device_instructions.specs.declared.RegisteredWrite.{RegisteredWrite}
use Rattle.device_status.specs.declared.Reply.{Reply}
use Rattle.device.specs.Answers.{answered_by, reply_unless}
use Rattle.device_status.specs.Status.{silence}
use Rattle.device.proofs.Calls.{Refuses}
use Rattle.device_packet.specs.Exchange.{id_by, id_heard, Message, heard_of, refused_or}
use Rattle.device.specs.declared.Sent.{Sent}

-- ---- the ID

module _ (packet : List ℕ) where
  -- a packet of all these bytes
  pub whole : (n : ℕ) → verdict packet ≡ is_packet n → n ≡ length packet → WellFormed packet
  whole n e l = subst WellFormed (take_all n packet (omega arith)) (laws.sound packet n e).2

  by_count : (n : ℕ) (b : Bool) → verdict packet ≡ is_packet n → eqb n (length packet) ≡ b → id_heard packet ≡ cond b (id_of packet) 255
  unfolding id_heard
  by_count n b e l = ap (λ (v : Verdict). id_by v packet) e ∙ ap (λ (x : Bool). cond x (id_of packet) 255) l

  pub heard_whole : (n : ℕ) → verdict packet ≡ is_packet n → n ≡ length packet → id_heard packet ≡ id_of packet
  heard_whole n e l = by_count n true e (eq-eqb n (length packet) l)

  pub heard_beyond : (n : ℕ) → verdict packet ≡ is_packet n → (n ≡ length packet → ⊥) → id_heard packet ≡ 255
  heard_beyond n e l = by_count n false e (ne_eqb n (length packet) l)

  pub heard_packet : WellFormed packet → id_heard packet ≡ id_of packet
  heard_packet f = heard_whole (length packet) (ap verdict (sym (append-nil packet)) ∙ laws.whole packet [] f) refl

  -- a verdict other than a packet
  pub heard_other : (v : Verdict) → verdict packet ≡ v → ((n : ℕ) → v ≡ is_packet n → ⊥) → id_heard packet ≡ 255
  unfolding id_heard
  heard_other (is_packet n) e other = absurd (other n refl)
  heard_other (is_bad_checksum id) e other = ap (λ (v : Verdict). id_by v packet) e
  heard_other is_waiting e other = ap (λ (v : Verdict). id_by v packet) e
  heard_other is_nothing e other = ap (λ (v : Verdict). id_by v packet) e

  pub heard_nobody : ¬ WellFormed packet → id_heard packet ≡ 255
  heard_nobody bad = by_verdict (verdict packet) refl
    where
      by_verdict : (v : Verdict) → verdict packet ≡ v → id_heard packet ≡ 255
      by_verdict (is_packet n) e = heard_beyond n e (λ l. bad (whole n e l))
      by_verdict (is_bad_checksum id) e = heard_other _ e (λ n i. let z : ◌≡◌ {A = ℕ} 0 1 = cc in absurd (omega arith))
      by_verdict is_waiting e = heard_other _ e (λ n i. let z : ◌≡◌ {A = ℕ} 0 1 = cc in absurd (omega arith))
      by_verdict is_nothing e = heard_other _ e (λ n i. let z : ◌≡◌ {A = ℕ} 0 1 = cc in absurd (omega arith))

  -- the verdict, by the code's answer
  module _ (r : Verdict-as-Code) (k : ℕ) (e : r ≡ answer_for (verdict packet) k) where
    pub packet_answered : (n : ℕ) → r ≡ Verdict-as-Packet n → verdict packet ≡ is_packet n
    packet_answered n i = by_verdict (verdict packet) (sym i ∙ e)
      where
        by_verdict : (v : Verdict) → Verdict-as-Packet n ≡ answer_for v k → v ≡ is_packet n
        by_verdict (is_packet m) a = cc
        by_verdict (is_bad_checksum id) a = let z : ◌≡◌ {A = ℕ} 0 1 = cc in absurd (omega arith)
        by_verdict is_waiting a = let z : ◌≡◌ {A = ℕ} 0 1 = cc in absurd (omega arith)
        by_verdict is_nothing a = let z : ◌≡◌ {A = ℕ} 0 1 = cc in absurd (omega arith)

    pub other_answered : ((n : ℕ) → r ≡ Verdict-as-Packet n → ⊥) → id_heard packet ≡ 255
    other_answered other = heard_other (verdict packet) refl (λ n i. other n (e ∙ ap (λ (v : Verdict). answer_for v k) i))

  -- by what header, ID and length field say
  pub not_front : (b : Front) → front_by shape packet ≡ b → ((n : ℕ) → b ≡ Whole n → ⊥) → id_heard packet ≡ 255
  not_front Nothing e other = other_answered Verdict-as-Nothing _ (peek_nothing shape packet e) (λ n i. let z : ◌≡◌ {A = ℕ} 0 1 = cc in absurd (omega arith))
  not_front (Waiting m) e other = other_answered (Verdict-as-Waiting m) _ (peek_waiting shape packet m e) (λ n i. let z : ◌≡◌ {A = ℕ} 0 1 = cc in absurd (omega arith))
  not_front (Whole m) e other = absurd (other m refl)

  module _ (n : ℕ) (e : front_by shape packet ≡ Whole n) where
    pub front_beyond : (n ≡ length packet → ⊥) → id_heard packet ≡ 255
    front_beyond other = heard_nobody (λ f. other (omega (arith, peek_size shape packet shape_laws n e, f.counted)))

    module _ (l : n ≡ length packet) where
      all : take n packet ≡ packet
      all = take_all n packet (omega arith)

      pub front_long : 10 ≤ length packet
      front_long = subst (λ (w : List ℕ). 10 ≤ length w) all (peek_long shape packet shape_laws n e)

      pub front_header : take 4 packet ≡ header
      front_header = ap (take 4) (sym all) ∙ peek_header packet n e

      pub wrong_sum : checksum_right packet ≡ false → id_heard packet ≡ 255
      wrong_sum h = heard_nobody (λ f. both_ways _ f.summed h)

      pub right_sum : checksum_right packet ≡ true → well_stuffed (body_of packet) ≡ true → id_heard packet ≡ id_of packet
      right_sum h w =
          heard_whole (length packet)
          (packet_answered (whole_answer packet) _ (ap whole_answer (sym all) ∙ peek_whole packet n e) (length packet)
          (rw (le-ltb (length packet) 10 front_long, headed packet front_header, h, w))) refl

-- ---- the removal of the stuffing

module _ (packet body : List ℕ) where
  pub bad_stuffing : checked (body_of packet) ≡ None → removal_refusal (body_of packet) body ≡ Some BadStuffing
  unfolding removal_refusal
  bad_stuffing e = rw (checked_bad (body_of packet) e)

  module _ (n : ℕ) (e : checked (body_of packet) ≡ Some n) where
    pub no_room : length body < n → removal_refusal (body_of packet) body ≡ Some NoRoom
    unfolding removal_refusal
    no_room l =
        let g = checked_good (body_of packet) n e in
        rw (g.0, lt-leb (length (unstuff (body_of packet))) (length body) (omega arith))

    pub fits : n ≤ length body → removal_refusal (body_of packet) body ≡ None
    unfolding removal_refusal
    fits room =
        let g = checked_good (body_of packet) n e in
        rw (g.0, le-leb (length (unstuff (body_of packet))) (length body) (omega arith))

  module _ (n : ℕ) (r : Removed (body_of packet) body n) (left : List ℕ) (o : left ≡ removal_out (body_of packet) body) where
    -- what the body buffer holds
    pub unstuffed : left ≡ overwritten body (heard_of packet).body
    unstuffed = rw r.unrefused at o

    -- and that its first bytes are the body that the device hears
    first_bytes : take n left ≡ (heard_of packet).body
    first_bytes = ap₂ (λ (k : ℕ) (l : List ℕ). take k l) (sym r.counted) unstuffed ∙ overwritten_take body (heard_of packet).body

    pub first_count : n ≡ length (take n left)
    first_count = sym r.counted ∙ ap length (sym first_bytes)

    pub message_is : (id : ℕ) → id ≡ id_heard packet → ◌≡◌ {A = Message} (record { id = id; body = take n left }) (heard_of packet)
    message_is id i = ap₂ (λ (k : ℕ) (l : List ℕ). record { id = k; body = l }) i first_bytes

-- ---- the device refuses: what the call refuses first, and that everything stays

module _ (b c : Option Refusal) (r : Result Sent Refusal) (q : Refuses c r) where
  pub answers_first : (reply : Reply) → refused_or b r ≡ refused_or b (answered_by c reply)
  answers_first reply = ap (refused_or b) (q.answers reply)

  -- and of the first call
  pub first_answered : refused_or b r ≡ answered_by (or_else b c) silence
  first_answered = by_refusal b
    where
      by_refusal : (b : Option Refusal) → refused_or b r ≡ answered_by (or_else b c) silence
      by_refusal None = q.answers silence
      by_refusal (Some refusal) = refl

  pub silences_first : (reply : Reply) → silence ≡ reply_unless b (reply_unless c reply)
  silences_first reply = by_refusal b
    where
      by_refusal : (b : Option Refusal) → silence ≡ reply_unless b (reply_unless c reply)
      by_refusal None = q.silences reply
      by_refusal (Some refusal) = refl

  pub keeps_first : (old new : RegisteredWrite) → old ≡ kept_by b old (kept_by c old new)
  keeps_first old new = by_refusal b
    where
      by_refusal : (b : Option Refusal) → old ≡ kept_by b old (kept_by c old new)
      by_refusal None = q.keeps old new
      by_refusal (Some refusal) = refl

  pub leaves_first : (old new : List ℕ) → (old ≡ unless_refused b old (unless_refused c old new)) × (old ≡ unless_refused (or_else b c) old new)
  leaves_first old new = by_refusal b
    where
      by_refusal : (b : Option Refusal) → (old ≡ unless_refused b old (unless_refused c old new)) × (old ≡ unless_refused (or_else b c) old new)
      by_refusal None = (q.leaves old new, q.leaves old new)
      by_refusal (Some refusal) = (refl, refl)
