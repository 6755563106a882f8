-- A reply with a good ID and at most 8 bytes goes out: 32 bytes are room enough.
use Rattle.std.specs.Prelude.{None, Ok, Some}
use mathlib.Core.Path.{◌≡◌, sym, ap, ◌∙◌}
use mathlib.Core.List.{List, [], ◌∷◌}
use Prim.Native.Nat.{ℕ, suc, ◌+◌, ◌≤◌, ◌<◌}
use native.Mathlib.Nat.{le_of_eq}
use native.Mathlib.Numerals.{add-one}
use native.Mathlib.Omega.{arith}
use lib.ListN.{length, take, drop, get_or, length-take, drop_of_length-le}
use lib.Seq.{drop-cons}
use borrow.Author.Tests.{le-leb, lt-leb}
use Rattle.answers.specs.declared.Refusal.TheVariants.{BadId, TooLong, ShortReply}
use Rattle.stuffing.specs.Stuffing.{stuff}
use Rattle.stuffing.proofs.Laws.{stuff_at_most}
use Rattle.packet_encoder.proofs.Writing.{packet_length}
use Rattle.packet_encoder.specs.Encoding.{encode_refusal, encode_answer}
use Rattle.device_status.specs.declared.Reply.{Reply}
use Rattle.device_status.specs.Status.{status_body, status_packet}
use Rattle.device_status.specs.Sending.{status_refusal}

-- eight bytes one by one
pub eight : (b : List ℕ) → length b ≡ 8
    → get_or b 0 0 ∷ get_or b 1 0 ∷ get_or b 2 0 ∷ get_or b 3 0 ∷ get_or b 4 0 ∷ get_or b 5 0 ∷ get_or b 6 0 ∷ get_or b 7 0 ∷ [] ≡ b
eight b e =
    let past : drop 8 b ≡ [] = drop_of_length-le b (le_of_eq e) in
    sym (at 0 (omega arith) (at 1 (omega arith) (at 2 (omega arith) (at 3 (omega arith) (at 4 (omega arith) (at 5 (omega arith) (at 6 (omega arith) (at 7 (omega arith) past))))))))
  where
    at : (k : ℕ) {l : List ℕ} → k < length b → drop (suc k) b ≡ l → drop k b ≡ get_or b k 0 ∷ l
    at k h t = drop-cons b k 0 h ∙ ap (λ (l : List ℕ). get_or b k 0 ∷ l) t

-- the parameters of a status
pub params_are : (error n : ℕ) (bytes : List ℕ) → length bytes ≡ 8
    → take (n + 1)
    (error ∷ get_or bytes 0 0 ∷ get_or bytes 1 0 ∷ get_or bytes 2 0 ∷ get_or bytes 3 0 ∷ get_or bytes 4 0 ∷ get_or bytes 5 0 ∷ get_or bytes 6 0 ∷ get_or bytes 7 0 ∷ [])
    ≡ error ∷ take n bytes
params_are error n bytes full = rw (add-one) (ap (λ (l : List ℕ). error ∷ take n l) (eight bytes full))

-- the stuffed body of at most 10 bytes
pub body_stuffed : (r : Reply) → r.count ≤ 8 → length (stuff (status_body r)) ≤ 13
body_stuffed r short =
    let l : length (take r.count r.bytes) ≤ 8 = simp length-take (omega arith) in
    omega (arith, stuff_at_most (status_body r))

-- ---- the refusals, each where those before it do not apply
module _ (r : Reply) (out : List ℕ) where
  pub refuses_id : 252 < r.id → status_refusal r out ≡ Some BadId
  unfolding status_refusal
  refuses_id l = rw (lt-leb r.id 252 l)

  module _ (known : r.id ≤ 252) where
    pub refuses_count : 8 < r.count → status_refusal r out ≡ Some TooLong
    unfolding status_refusal
    refuses_count l = rw (le-leb r.id 252 known, lt-leb r.count 8 l)

    module _ (short : r.count ≤ 8) where
      pub refuses_room : length out < 32 → status_refusal r out ≡ Some ShortReply
      unfolding status_refusal
      refuses_room l = rw (le-leb r.id 252 known, le-leb r.count 8 short, lt-leb 32 (length out) l)

      module _ (room : 32 ≤ length out) where
        pub accepts : status_refusal r out ≡ None
        unfolding status_refusal
        accepts = rw (le-leb r.id 252 known, le-leb r.count 8 short, le-leb 32 (length out) room)

        -- and then the encoder refuses nothing
        pub fits : encode_refusal r.id (status_body r) out 0 ≡ None
        unfolding encode_refusal
        fits =
            let l = body_stuffed r short in
            rw (
              le-leb r.id 252 known,
              le-leb (length (stuff (status_body r)) + 2) 1024 (omega arith),
              le-leb (0 + length (status_packet r)) (length out) (omega (arith, packet_length r.id (status_body r))),
            )

        pub goes_out : encode_answer r.id (status_body r) out 0 ≡ Ok (length (status_packet r))
        goes_out = rw fits
