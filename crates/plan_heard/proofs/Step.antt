-- What a device is after one packet of a plan.
use Rattle.std.specs.Prelude.{None, Option, Some}
use mathlib.Core.Path.{◌≡◌, refl, sym, ap, subst, ◌∙◌}
use mathlib.Core.List.{List, [], ◌∷◌, ◌++◌}
use Prim.Native.Nat.{ℕ, ◌+◌, ◌≤◌}
use native.Mathlib.Omega.{arith}
use lib.ListN.{length, take, drop, length-append, length-take, length-drop, take-append-drop}
use borrow.Author.Tests.{le-leb, ne_eqb}
use Rattle.answers.specs.Refusals.{first_failing, unless_refused}
use Rattle.lists.specs.Numbers.{number_at}
use Rattle.lists.specs.Write.{overwritten}
use Rattle.lists.proofs.Numbers.{part_number}
use Rattle.stuffing.specs.Stuffing.{unstuff}
use Rattle.stuffing.specs.Answers.{removal_refusal}
use Rattle.reading.specs.Reading.{packet}
use Rattle.packet.specs.Packet.{body_of}
use Rattle.table_registers.specs.Registers.{table_size}
use Rattle.table_rules.specs.Rules.{stored}
use Rattle.device_parameters.specs.Parameters.{sync_search}
use Rattle.device_parameters.specs.declared.OwnEntry.{OwnEntry}
use Rattle.device_parameters.proofs.Searching.{sync_whole}
use Rattle.device_instructions.specs.Instructions.{Effect, write}
use Rattle.device_instructions.specs.declared.RegisteredWrite.{RegisteredWrite}
use Rattle.device_sync.specs.Sync.{by_entry, sync_write_by}
use Rattle.device_dispatch.specs.Reactions.{own_id, silent, reacting, unchanged, heard_instruction}
use Rattle.device_dispatch.specs.declared.Heard.TheVariants.{Packet}
use Rattle.device.specs.Device.{executed}
use Rattle.device.proofs.Calls.{accepts_state, accepts}
use Rattle.device_packet.specs.Exchange.{id_heard}
use Rattle.device_packet.proofs.Hearing.{heard_packet}
use Rattle.plan.specs.Plan.{plan_head, goal_at, goal_found, params_of, GoalWrite}
use Rattle.plan_heard.specs.Hearing.{Device, Form, in_two, in_one, unstuffed, hears}
use Rattle.plan_heard.specs.PlanCarriedOut.{admits}
use Rattle.plan_heard.proofs.Written.{rule_is}

-- the four bytes of the entry at `at`
abbrev pub goal_bytes : List ℕ → ℕ → List ℕ
goal_bytes params at = take 4 (drop (at + 1) params)

all_four : (params : List ℕ) (at : ℕ) → at + 5 ≤ length params → length (goal_bytes params at) ≡ 4
all_four params at h = simp (length-take, length-drop) (omega arith)

-- ---- what is done with a Sync Write of goals, by the own entry

abbrev effect_of : List ℕ → RegisteredWrite → List ℕ → Option OwnEntry → Effect
effect_of table r params (Some entry) = write table r 116 (goal_bytes params entry.offset)
effect_of table r params None = unchanged table r

by_entry_lem : (table : List ℕ) (r : RegisteredWrite) (params : List ℕ) (f : Option OwnEntry)
    → by_entry f table r (λ slot at. sync_write_by table r 116 (goal_bytes params at)) ≡ reacting (effect_of table r params f) silent
by_entry_lem table r params (Some entry) = refl
by_entry_lem table r params None = refl

begins : (table : List ℕ) (r : RegisteredWrite) (rest : List ℕ) → own_id table ≤ 252
    → executed table r Packet 254 (plan_head ++ rest)
    ≡ reacting (effect_of table r (drop 1 (plan_head ++ rest)) (sync_search 5 (own_id table) (drop 1 (plan_head ++ rest)))) silent
unfolding executed heard_instruction
begins table r rest known =
    rw (ne_eqb 254 (own_id table) (λ e. omega arith))
    (by_entry_lem table r (drop 1 (plan_head ++ rest)) (sync_search 5 (own_id table) (drop 1 (plan_head ++ rest))))

with_head : (body : List ℕ) → take 5 body ≡ plan_head → plan_head ++ drop 5 body ≡ body
with_head body h = ap (λ (l : List ℕ). l ++ drop 5 body) (sym h) ∙ take-append-drop 5 body

-- ---- a device that refuses nothing

abbrev Answerable : Form → List ℕ → Type 0
Answerable in_two reply = Unit {0}
Answerable unstuffed reply = Unit {0}
Answerable in_one reply = 32 ≤ length reply

pub record Fit (form : Form) (d : Device) : Type 0 where
  pub sized : length d.table ≡ table_size
  pub known : own_id d.table ≤ 252
  pub short : d.registered.count ≤ 8
  pub answerable : Answerable form d.reply

-- with another table, and the body in its buffer
abbrev pub changed : Device → List ℕ → List ℕ → Device
changed d table w =
    record { table = table; registered = d.registered; body = overwritten d.body (unstuff (body_of w)); reply = d.reply }

module _ (w : List ℕ) (g : GoalWrite w) where
  carried : (table : List ℕ) (r : RegisteredWrite) → own_id table ≤ 252
      → executed table r Packet (id_heard w) (unstuff (body_of w))
      ≡ reacting (effect_of table r (params_of w) (sync_search 5 (own_id table) (params_of w))) silent
  carried table r known =
      let b = unstuff (body_of w) in
      ap (λ (id : ℕ). executed table r Packet id b) (heard_packet w g.well ∙ g.to_all)
      ∙ subst (λ (l : List ℕ). executed table r Packet 254 l ≡ reacting (effect_of table r (drop 1 l) (sync_search 5 (own_id table) (drop 1 l))) silent)
      (with_head b g.head) (begins table r (drop 5 b) known)

  module _ (d : Device) (room : length (unstuff (body_of w)) ≤ length d.body) where
    removed : removal_refusal (body_of w) d.body ≡ None
    unfolding removal_refusal
    removed = rw (g.well.stuffed, le-leb (length (unstuff (body_of w))) (length d.body) room)

    -- the body buffer keeps its size
    pub same_room : (table : List ℕ) → length (changed d table w).body ≡ length d.body
    same_room table =
        length-append (unstuff (body_of w)) (drop (length (unstuff (body_of w))) d.body)
        ∙ omega (arith, length-drop (length (unstuff (body_of w))) d.body)

    abbrev found : Option OwnEntry
    found = sync_search 5 (own_id d.table) (params_of w)

    -- in each form: what is left is what the effect leaves
    after : (form : Form) → Fit form d → (e : Effect) → effect_of d.table d.registered (params_of w) found ≡ e → e.registered ≡ d.registered
        → hears form d (packet w) ≡ changed d e.table w
    after in_two f e is r =
        rw (removed, accepts_state d.table d.registered f.sized f.known f.short, carried d.table d.registered f.known, is, r)
    after unstuffed f e is r =
        rw (removed, accepts_state d.table d.registered f.sized f.known f.short, sym (heard_packet w g.well), carried d.table d.registered f.known, is, r)
    after in_one f e is r =
        rw (removed, accepts d.table d.registered d.reply f.sized f.known f.short f.answerable, carried d.table d.registered f.known, is, r)

    module _ (form : Form) (fit : Fit form d) where
      -- it has no entry for the device
      pub not_found : goal_found (own_id d.table) (params_of w) ≡ [] → hears form d (packet w) ≡ changed d d.table w
      not_found n = by_found found refl n
        where
          by_found : (f : Option OwnEntry) → found ≡ f → goal_at (params_of w) f ≡ [] → hears form d (packet w) ≡ changed d d.table w
          by_found (Some entry) e n = let z : ◌≡◌ {A = ℕ} 0 1 = cc in absurd (omega arith)
          by_found None e n =
              after form fit (unchanged d.table d.registered) (ap (λ (f : Option OwnEntry). effect_of d.table d.registered (params_of w) f) e) refl

      -- it has one: four bytes are written, unless the limits refuse
      pub record Wrote (goal : ℕ) : Type 0 where
        pub bytes : List ℕ
        pub four : length bytes ≡ 4
        pub are : number_at bytes 0 4 ≡ goal
        pub left : hears form d (packet w)
            ≡ changed d (unless_refused (first_failing {R = ℕ} ((admits d.table goal, 0x06) ∷ [])) d.table (stored d.table 116 bytes)) w

      written : (bytes : List ℕ) (goal : ℕ) → length bytes ≡ 4 → number_at bytes 0 4 ≡ goal → goal ≤ 4095
          → (write d.table d.registered 116 bytes).table
          ≡ unless_refused (first_failing {R = ℕ} ((admits d.table goal, 0x06) ∷ [])) d.table (stored d.table 116 bytes)
      unfolding write
      written bytes goal four are low =
          ap (λ (r : Option ℕ). unless_refused r d.table (stored d.table 116 bytes)) (rule_is d.table bytes goal fit.sized four are low)

      registered_kept : (bytes : List ℕ) → (write d.table d.registered 116 bytes).registered ≡ d.registered
      unfolding write
      registered_kept bytes = refl

      pub is_found : (goal : ℕ) (more : List ℕ) → goal_found (own_id d.table) (params_of w) ≡ goal ∷ more → goal ≤ 4095 → Wrote goal
      is_found goal more n low = by_found found refl n
        where
          by_found : (f : Option OwnEntry) → found ≡ f → goal_at (params_of w) f ≡ goal ∷ more → Wrote goal
          by_found None e n = let z : ◌≡◌ {A = ℕ} 0 1 = cc in absurd (omega arith)
          by_found (Some entry) e n =
              let slot = entry.slot in
              let at = entry.offset in
              let bytes = goal_bytes (params_of w) at in
              let four = all_four (params_of w) at (sync_whole 5 (own_id d.table) (params_of w) slot at e) in
              let are : number_at bytes 0 4 ≡ goal = part_number (params_of w) (at + 1) 4 ∙ cc in
              record {
                bytes = bytes;
                four = four;
                are = are;
                left = after form fit (write d.table d.registered 116 bytes) (ap (λ (f : Option OwnEntry). effect_of d.table d.registered (params_of w) f) e) (registered_kept bytes)
                    ∙ ap (λ (t : List ℕ). changed d t w) (written bytes goal four are low);
              }
