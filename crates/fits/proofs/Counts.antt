-- The counts of what is written into a buffer.
use Rattle.std.specs.Prelude.{Err, None, Ok, Option, Some}
use mathlib.Core.Path.{◌≡◌, refl}
use mathlib.Core.Bool.{Bool}
use mathlib.Core.List.{List}
use Prim.Native.Nat.{ℕ, zero, suc, ◌+◌, ◌≤◌, min}
use lib.IntN.{ℤ}
use native.Mathlib.Omega.{arith}
use borrow.Author.Tests.{leb-true}
use lib.Dec.{leb, eqb}
use lib.ListN.{length}
use Rattle.answers.specs.declared.Refusal.{Refusal}
use Rattle.answers.specs.declared.Refusal.TheVariants.{BadId, TooLong, BadStuffing, NoRoom, NotATable, BadTableId, BadRegistered, ShortReply, BadReader, BadLog, BadLogId, BadLogSize, WrongIndex, NotGoals, BadGoal}
use Rattle.answers.specs.Refusals.{or_else}
use Rattle.answers.specs.Answers.{answered, exported}
use Rattle.answers.proofs.Laws.{passed}
use Rattle.stuffing.specs.Stuffing.{stuff, unstuff, well_stuffed}
use Rattle.stuffing.specs.Answers.{removal_refusal}
use Rattle.stuffing.proofs.Laws.{unstuff_short}
use Rattle.packet_front.specs.Front.{good_id}
use Rattle.packet_encoder.specs.Writing.{packet_of}
use Rattle.packet_encoder.specs.Encoding.{encode_refusal}
use Rattle.packet_encoder.proofs.Writing.{packet_length}
use Rattle.packet_encoder_v1.specs.Writing.{packet_of as packetOfV1}
use Rattle.packet_encoder_v1.specs.Encoding.{encode_refusal as encodeRefusalV1}
use Rattle.packet_encoder_v1.proofs.Writing.{packet_length as packet-length-v1}
use Rattle.log_layout.specs.Log.{longest_file}
use Rattle.log_writer.specs.Writing.{sum, written, write_refusal}
use Rattle.device_status.specs.declared.Reply.{Reply}
use Rattle.device_status.specs.Status.{reply_bytes}
use Rattle.device_status.specs.Sending.{status_refusal}
use Rattle.device_status.proofs.Sent.{reply_written}
use Rattle.plan.specs.Goals.{goals_refusal}
use Rattle.plan.specs.Planner.{plan_of, plan_refusal}
use Rattle.fits.specs.Fits.{AtMost, CountsFit}

-- ---- a count or a refusal

pub count_at_most : (most n : ℕ) → n ≤ most → AtMost most (exported (Ok n))
count_at_most most n h = omega (arith, h)

pub refused_at_most : (most : ℕ) (refusal : Refusal) → AtMost most (exported (Err refusal))
refused_at_most most BadId = tt
refused_at_most most TooLong = tt
refused_at_most most BadStuffing = tt
refused_at_most most NoRoom = tt
refused_at_most most NotATable = tt
refused_at_most most BadTableId = tt
refused_at_most most BadRegistered = tt
refused_at_most most ShortReply = tt
refused_at_most most BadReader = tt
refused_at_most most BadLog = tt
refused_at_most most BadLogId = tt
refused_at_most most BadLogSize = tt
refused_at_most most WrongIndex = tt
refused_at_most most NotGoals = tt
refused_at_most most BadGoal = tt

answered_at_most : (most n : ℕ) (r : Option Refusal) → (r ≡ None → n ≤ most) → AtMost most (exported (answered r n))
answered_at_most most n None h = count_at_most most n (h refl)
answered_at_most most n (Some refusal) h = refused_at_most most refusal

-- the first of two refusals is none, and so is the second
pub neither : {R : Type 0} (a b : Option R) → or_else a b ≡ None → (a ≡ None) × (b ≡ None)
neither None b e = (refl, e)
neither (Some x) b e = let z : ◌≡◌ {A = ℕ} 0 1 = cc in absurd (omega arith)

-- ---- what is written

encoded : (id : ℕ) (body out : List ℕ) (at : ℕ) → encode_refusal id body out at ≡ None → length (packet_of id body) ≤ min 1031 (length out)
unfolding encode_refusal
encoded id body out at e =
    let t = passed (good_id id) BadId _ e in
    let u = passed (leb (length (stuff body) + 2) 1024) TooLong _ t.1 in
    let v = passed (leb (at + length (packet_of id body)) (length out)) NoRoom None u.1 in
    let l = leb-true (length (stuff body) + 2) 1024 u.0 in
    let m = leb-true (at + length (packet_of id body)) (length out) v.0 in
    omega (arith, packet_length id body, l, m)

encoded_v1 : (good : ℕ → Bool) (id : ℕ) (body out : List ℕ) (at : ℕ) → encodeRefusalV1 good id body out at ≡ None
    → length (packetOfV1 id body) ≤ min 259 (length out)
unfolding encodeRefusalV1
encoded_v1 good id body out at e =
    let t = passed (good id) BadId _ e in
    let u = passed (leb (length body + 1) 255) TooLong _ t.1 in
    let v = passed (leb (at + length (packetOfV1 id body)) (length out)) NoRoom None u.1 in
    let l = leb-true (length body + 1) 255 u.0 in
    let m = leb-true (at + length (packetOfV1 id body)) (length out) v.0 in
    omega (arith, packet-length-v1 id body, l, m)

unstuffed : (body out : List ℕ) → removal_refusal body out ≡ None → length (unstuff body) ≤ min (length body) (length out)
unfolding removal_refusal
unstuffed body out e =
    let t = passed (well_stuffed body) BadStuffing _ e in
    let u = passed (leb (length (unstuff body)) (length out)) NoRoom None t.1 in
    let l = leb-true (length (unstuff body)) (length out) u.0 in
    omega (arith, unstuff_short body, l)

logged : (bytes lengths out : List ℕ) → write_refusal bytes lengths out ≡ None → length (written bytes lengths) ≤ length out
unfolding write_refusal
logged bytes lengths out e =
    let n = length (written bytes lengths) in
    let t = passed (eqb (sum lengths) (length bytes)) BadLog _ e in
    let u = passed (leb n longest_file) BadLog _ t.1 in
    leb-true _ _ (passed (leb n (length out)) NoRoom None u.1).0

planned : (goals : List ℤ) (out : List ℕ) → plan_refusal goals out ≡ None → length (plan_of goals) ≤ length out
unfolding plan_refusal
planned goals out e =
    let t = neither (goals_refusal goals) _ e in
    leb-true _ _ (passed (leb (length (plan_of goals)) (length out)) NoRoom None t.1).0

-- silence has no bytes
sent : (r : Reply) (out : List ℕ) (n : ℕ) → length (reply_bytes r) ≡ n → status_refusal r out ≡ None → length (reply_bytes r) ≤ 22
sent r out zero l e = omega (arith, l)
sent r out (suc n) l e = (reply_written r out (length (reply_bytes r)) (rw e refl) (omega (arith, l))).short

pub counts_fit : CountsFit
counts_fit =
    record {
      encoded = λ id body out at.
          answered_at_most _ _ (encode_refusal id body out at) (λ e. let k = encoded id body out at e in omega (arith, k));
      encoded_v1 = λ good id body out at.
          answered_at_most _ _ (encodeRefusalV1 good id body out at) (λ e. let k = encoded_v1 good id body out at e in omega (arith, k));
      unstuffed = λ body out. answered_at_most _ _ (removal_refusal body out) (λ e. let k = unstuffed body out e in omega (arith, k));
      status = λ r out.
          answered_at_most _ _ (status_refusal r out) (λ e. let k = sent r out (length (reply_bytes r)) refl e in omega (arith, k));
      logged = λ bytes lengths out.
          answered_at_most _ _ (write_refusal bytes lengths out) (λ e. let k = logged bytes lengths out e in omega (arith, k));
      planned = λ goals out. answered_at_most _ _ (plan_refusal goals out) (λ e. let k = planned goals out e in omega (arith, k));
    }
