-- What Ping answers, the options of Factory Reset, and the outcomes of Action.
use mathlib.Core.Path.{◌≡◌, refl, sym, ap, ◌∙◌}
use mathlib.Core.Bool.{Bool, true, false, cond}
use mathlib.Core.List.{List, [], ◌∷◌, ◌++◌}
use Prim.Native.Nat.{ℕ}
use native.Mathlib.Omega.{arith}
use lib.Dec.{eqb}
use borrow.Author.Tests.{ne_eqb}
use lib.ListN.{length, take, get_or}
use lib.Seq.{drop-cons}
use Rattle.table_registers.specs.Registers.{Register, table_size, model_number, firmware_version, min_position, max_position, registered_instruction}
use Rattle.table_items.specs.Items.{item_bytes, put}
use Rattle.device_instructions.specs.declared.RegisteredWrite.{RegisteredWrite}
use Rattle.device_instructions.specs.Instructions.{Effect, refusing, write, action, reboot, factory_reset}
use Rattle.device_instructions.specs.Registered.{dropped, bytes_to_write, same_limits}
use Rattle.device_instructions.specs.Results.{Done, done_of, sized}
use Rattle.device_instructions.proofs.Sized.{of_size, done}
use Rattle.table_resets.specs.Resets.{reset_rom, keeps_none, keeps_id, keeps_id_and_baud}
use Rattle.table_rules.specs.Outcomes.{on_table}
use Rattle.table_rules.proofs.Size.{on_table_lem}

pub identity_bytes : (table : List ℕ) → length table ≡ table_size
    → get_or table 0 0 ∷ get_or table 1 0 ∷ get_or table 6 0 ∷ [] ≡ item_bytes model_number table ++ item_bytes firmware_version table
identity_bytes table sized =
    let model = drop-cons table 0 0 (omega arith) ∙ ap (λ (l : List ℕ). get_or table 0 0 ∷ l) (drop-cons table 1 0 (omega arith)) in
    ap (λ (l : List ℕ). take 2 l ++ get_or table 6 0 ∷ []) (sym model)
    ∙ ap (λ (l : List ℕ). item_bytes model_number table ++ take 1 l) (sym (drop-cons table 6 0 (omega arith)))

-- the options of Factory Reset
module _ (table : List ℕ) (w : RegisteredWrite) (s : length table ≡ table_size) where
  -- as Reboot goes on, on the table that a reset has left
  pub then_reboot : (new left : List ℕ) → length left ≡ length table → left ≡ on_table table new → (r : Done) (t : List ℕ)
      → r ≡ done_of (sized left w (reboot left w)) → t ≡ (sized left w (reboot left w)).table
      → (r ≡ done_of (reboot new w)) × (t ≡ (reboot new w).table)
  then_reboot new left l e r t a b =
      let p = of_size left w (reboot left w) (l ∙ s) ∙ ap (λ (x : List ℕ). reboot x w) (e ∙ on_table_lem table s new) in
      (a ∙ ap done_of p, b ∙ ap (λ (f : Effect). f.table) p)

  -- the two promises of `factory_reset`, by the effect that the code shows
  module _ (option : ℕ) (r : Done) (t : List ℕ) where
    abbrev Promised : Type 0
    Promised = (r ≡ done_of (sized table w (factory_reset table w option))) × (t ≡ (sized table w (factory_reset table w option)).table)

    shown : (e : Effect) → e ≡ factory_reset table w option → r ≡ done_of e → t ≡ e.table → Promised
    shown e p a b = done table w (factory_reset table w option) r t s (a ∙ ap done_of p) (b ∙ ap (λ (f : Effect). f.table) p)

    -- an option that is known, by the number of its clause
    pub option_is : (number : ℕ) (e : Effect) → e ≡ factory_reset table w number → option ≡ number → r ≡ done_of e → t ≡ e.table → Promised
    option_is number e is o = shown e (is ∙ ap (factory_reset table w) (sym o))

    pub option_other : (option ≡ 0xFF → ⊥) → (option ≡ 0x01 → ⊥) → (option ≡ 0x02 → ⊥) → r ≡ done_of (refusing table w 0x04) → t ≡ table
        → Promised
    unfolding factory_reset
    option_other a b c =
        shown (refusing table w 0x04) (rw (ne_eqb option 0xFF a, ne_eqb option 0x01 b, ne_eqb option 0x02 c))

-- what holds of either effect holds of the one that a test picks
module _ (P : Effect → Type 0) where
  pub pick : (b : Bool) (x y : Effect) → P x → P y → P (cond b x y)
  pick true x y f g = f
  pick false x y f g = g

  -- and of Factory Reset what holds of Reboot after each reset of ROM, which has both limits, and of the refusal
  pub each_option : (table : List ℕ) (w : RegisteredWrite)
      → ((keeps : Register → Bool) → keeps min_position ≡ false → keeps max_position ≡ false → P (reboot (reset_rom keeps table) w))
      → P (refusing table w 0x04) → (option : ℕ) → P (factory_reset table w option)
  unfolding factory_reset
  each_option table w reset refusal option =
      pick (eqb option 0xFF) _ _ (reset keeps_none refl refl)
      (pick (eqb option 0x01) _ _ (reset keeps_id refl refl) (pick (eqb option 0x02) _ _ (reset keeps_id_and_baud refl refl) refusal))

  -- and of Action what holds of its two refusals, and of the write on the table that says that none is registered
  pub each_action : (table : List ℕ) (w : RegisteredWrite) → P (refusing table w 0x02)
      → P (write (put table registered_instruction 0) dropped w.address (bytes_to_write w))
      → P (refusing (put table registered_instruction 0) dropped 0x06) → P (action table w)
  unfolding action
  each_action table w missing written changed =
      pick (eqb w.count 0) (refusing table w 0x02) _ missing
      (pick (same_limits table w) _ (refusing (put table registered_instruction 0) dropped 0x06) written changed)
