-- The refusals of the device call, each where those before it do not apply.
use Rattle.std.specs.Prelude.{Err, Result}
use Rattle.std.specs.Prelude.{None, Option, Some}
use mathlib.Core.Path.{◌≡◌, refl, sym, ◌∙◌}
use mathlib.Core.List.{List}
use Prim.Native.Nat.{ℕ, ◌≤◌, ◌<◌}
use native.Mathlib.Omega.{arith}
use lib.Dec.{eqb, leb}
use lib.ListN.{length}
use borrow.Author.Tests.{eq-eqb, ne_eqb, le-leb, lt-leb, eqb-true, leb-true}
use Rattle.table_registers.specs.Registers.{table_size}
use Rattle.device_dispatch.specs.Reactions.{own_id}
use Rattle.device.specs.Answers.{replied, reply_unless, error_unless, state_refusal, room_refusal, call_refusal, answered_by}
use Rattle.device.specs.Split.{answer_of_both}
use Rattle.device_status.specs.Status.{silence}
use Rattle.device_instructions.specs.Registered.{kept_by}
use Rattle.device_status.specs.declared.Reply.{Reply}
use Rattle.answers.specs.Refusals.{or_else, unless_refused}
use Rattle.answers.specs.declared.Refusal.{Refusal}
use Rattle.answers.specs.declared.Refusal.TheVariants.{NotATable, BadTableId, BadRegistered, ShortReply}
use Rattle.answers.proofs.Laws.{passed}
use Rattle.device_instructions.specs.declared.RegisteredWrite.{RegisteredWrite}
use Rattle.device.specs.declared.Sent.{Sent}

module _ (table : List ℕ) (w : RegisteredWrite) where
  pub refuses_table : (length table ≡ table_size → ⊥) → state_refusal table w ≡ Some NotATable
  unfolding state_refusal
  refuses_table n = rw (ne_eqb (length table) table_size n)

  module _ (sized : length table ≡ table_size) where
    pub refuses_id : 252 < own_id table → state_refusal table w ≡ Some BadTableId
    unfolding state_refusal
    refuses_id l = rw (eq-eqb (length table) table_size sized, lt-leb (own_id table) 252 l)

    module _ (own : own_id table ≤ 252) where
      pub refuses_registered : 8 < w.count → state_refusal table w ≡ Some BadRegistered
      unfolding state_refusal
      refuses_registered l = rw (eq-eqb (length table) table_size sized, le-leb (own_id table) 252 own, lt-leb w.count 8 l)

      pub accepts_state : w.count ≤ 8 → state_refusal table w ≡ None
      unfolding state_refusal
      accepts_state short = rw (eq-eqb (length table) table_size sized, le-leb (own_id table) 252 own, le-leb w.count 8 short)

-- what holds where none applies
pub record AcceptedState (table : List ℕ) (w : RegisteredWrite) : Type 0 where
  pub sized : length table ≡ table_size
  pub known : own_id table ≤ 252
  pub short : w.count ≤ 8

pub state_accepted : (table : List ℕ) (w : RegisteredWrite) → state_refusal table w ≡ None → AcceptedState table w
unfolding state_refusal
state_accepted table w e =
    let p = passed (eqb (length table) table_size) NotATable _ e in
    let q = passed (leb (own_id table) 252) BadTableId _ p.1 in
    let r = passed (leb w.count 8) BadRegistered _ q.1 in
    record {
      sized = eqb-true (length table) table_size p.0;
      known = leb-true (own_id table) 252 q.0;
      short = leb-true w.count 8 r.0;
    }

pub refuses_room : (out : List ℕ) → length out < 32 → room_refusal out ≡ Some ShortReply
unfolding room_refusal
refuses_room out l = rw (lt-leb 32 (length out) l)

pub accepts_room : (out : List ℕ) → 32 ≤ length out → room_refusal out ≡ None
unfolding room_refusal
accepts_room out l = rw (le-leb 32 (length out) l)

module _ (table : List ℕ) (w : RegisteredWrite) (out : List ℕ) where
  -- the buffer is looked at where table and registered write are not refused
  pub then_room : state_refusal table w ≡ None → call_refusal table w out ≡ room_refusal out
  unfolding call_refusal
  then_room e = rw e

  pub accepts : length table ≡ table_size → own_id table ≤ 252 → w.count ≤ 8 → 32 ≤ length out → call_refusal table w out ≡ None
  accepts sized own short room = then_room (accepts_state table w sized own short) ∙ accepts_room out room

  -- and what holds where none applies
  pub record Accepted : Type 0 where
    pub sized : length table ≡ table_size
    pub known : own_id table ≤ 252
    pub short : w.count ≤ 8
    pub room : 32 ≤ length out

  both : (a b : Option Refusal) → or_else a b ≡ None → (a ≡ None) × (b ≡ None)
  both None b e = (refl, e)
  both (Some refusal) b e = let z : ◌≡◌ {A = ℕ} 0 1 = cc in absurd (omega arith)

  pub accepted : call_refusal table w out ≡ None → Accepted
  unfolding call_refusal room_refusal
  accepted h =
      let parts = both _ _ h in
      let a = state_accepted table w parts.0 in
      let s = passed (leb 32 (length out)) ShortReply _ parts.1 in
      record { sized = a.sized; known = a.known; short = a.short; room = leb-true 32 (length out) s.0 }

-- ---- what the test of the caller's faults has answered

-- a refusal: it is that of every call, which leaves everything
pub record Refuses (refusal : Option Refusal) (r : Result Sent Refusal) : Type 0 where
  pub answers : (reply : Reply) → r ≡ answered_by refusal reply
  pub before : (later : Option Refusal) → r ≡ answered_by (or_else refusal later) silence
  pub leaves : (old new : List ℕ) → old ≡ unless_refused refusal old new
  pub keeps : (old new : RegisteredWrite) → old ≡ kept_by refusal old new
  -- of the first call, and of both where the second is not made
  pub silences : (reply : Reply) → silence ≡ reply_unless refusal reply
  pub errs : (error : ℕ) → 0 ≡ error_unless refusal error
  pub stops : (reply : Reply) (out : List ℕ) → r ≡ answer_of_both refusal reply out

pub some_refused : (r : Result Sent Refusal) (refusal : Refusal) → r ≡ Err refusal → Refuses (Some refusal) r
some_refused r refusal e =
    record {
      answers = λ reply. e;
      before = λ later. e;
      leaves = λ old new. refl;
      keeps = λ old new. refl;
      silences = λ reply. refl;
      errs = λ error. refl;
      stops = λ reply out. e;
    }

pub fault_answered : (refusal : Option Refusal) (r : Result Sent Refusal) → r ≡ answered_by refusal silence → (stated : Refusal) → r ≡ Err stated → Refuses refusal r
fault_answered (Some refusal) r e stated i = some_refused r refusal e
fault_answered None r e stated i = let z : ◌≡◌ {A = ℕ} 0 1 = cc in absurd (omega arith)

-- silence: nothing is refused
sent_none : (refusal : Option Refusal) (n slot : ℕ) → replied n slot ≡ answered_by refusal silence → refusal ≡ None
sent_none None n slot e = refl
sent_none (Some refusal) n slot e = let z : ◌≡◌ {A = ℕ} 0 1 = cc in absurd (omega arith)

module _ (refusal : Option Refusal) (r : Result Sent Refusal) (e : r ≡ answered_by refusal silence) (n slot : ℕ) (is : r ≡ replied n slot) where
  pub no_fault : refusal ≡ None
  no_fault = sent_none refusal n slot (sym is ∙ e)

-- a fault in table or registered write is one of the call
pub state_refused : (table : List ℕ) (w : RegisteredWrite) (out : List ℕ) (r : Result Sent Refusal)
    → Refuses (state_refusal table w) r → r ≡ answered_by (call_refusal table w out) silence
unfolding call_refusal
state_refused table w out r q = q.before (room_refusal out)

-- a buffer that is too short: whatever is told, the call is refused
pub short_refused : (table : List ℕ) (w : RegisteredWrite) (out : List ℕ) → length out < 32 → (r : Result Sent Refusal)
    → r ≡ answered_by (call_refusal table w out) silence → Refuses (call_refusal table w out) r
unfolding call_refusal
short_refused table w out l r e = by_state (state_refusal table w) refl
  where
    by_refusal : (f : Option Refusal) (refusal : Refusal) → f ≡ Some refusal → r ≡ answered_by f silence → Refuses f r
    by_refusal None refusal i h = let z : ◌≡◌ {A = ℕ} 0 1 = cc in absurd (omega arith)
    by_refusal (Some other) refusal i h = some_refused r other h

    by_state : (s : Option Refusal) → state_refusal table w ≡ s → Refuses (or_else (state_refusal table w) (room_refusal out)) r
    by_state (Some refusal) f = by_refusal _ refusal (rw f) e
    by_state None f = by_refusal _ ShortReply (rw (f, refuses_room out l)) e
