-- No board is behind: demand 3 of the reader in the board, and the events carried out one after the other.
use Rattle.std.specs.Prelude.{None}
use mathlib.Core.Path.{◌≡◌, refl, sym, ap, ap₂, subst, ◌∙◌}
use mathlib.Core.List.{List, [], ◌∷◌, ◌++◌, map}
use mathlib.Core.Logic.{inl}
use Prim.Native.Nat.{ℕ, ◌+◌}
use lib.ListN.{length}
use Rattle.reading.specs.Reading.{Event, packet, EventAt, reading}
use Rattle.reading.specs.Calls.{Call}
use Rattle.reading.specs.Lists.{model, after, took, given}
use Rattle.reading.specs.Promise.{what, joined, packets_at, AllOut, since, AllWellFormed, NoneAcross, given_at}
use Rattle.reading.proofs.Demand.{fresh, demand_3}
use Rattle.reading.proofs.Clean.{call_promises}
use Rattle.reading.proofs.Follows.{follows_after, follows_took, follows_given}
use Rattle.packet.specs.Verdict.{protocol2}
use Rattle.packet.proofs.Laws.{laws}
use Rattle.reader_records.specs.Records.{held_in}
use Rattle.reader_records.proofs.Records.{every_protocol}
use Rattle.device_instructions.specs.declared.RegisteredWrite.{RegisteredWrite}
use Rattle.board.specs.Board.{Board, board_refusal}
use Rattle.board_in_step.specs.InStep.{Shown, hearing, boards, shown_after, CaughtUp, NotBehind, InStep}
use Rattle.board_in_step.proofs.OneCall.{follows, stays_clean, as_a_reader}
use Rattle.board_in_step.proofs.Hearing.{each_once, none_heard, none_after, state_before, state_after}

what_packets : (p : ℕ) (packets : List (List ℕ)) → map what (packets_at p packets) ≡ map packet packets
what_packets p [] = refl
what_packets p (w ∷ packets) = ap {B = List Event} (λ l. packet w ∷ l) (what_packets (p + length w) packets)

map_what : (a b : List EventAt) → map what (a ++ b) ≡ map what a ++ map what b
map_what [] b = refl
map_what (f ∷ a) b = ap (λ (l : List Event). what f ∷ l) (map_what a b)

-- what came out, in three parts
pub parts : (events : List EventAt) (p : ℕ) (packets : List (List ℕ)) (out : AllOut events p packets)
    → map what events ≡ map what out.sooner ++ (map packet packets ++ map what out.later)
parts events p packets out =
    ap (λ (l : List EventAt). map what l) out.are
    ∙ map_what out.sooner (packets_at p packets ++ out.later)
    ∙ ap (λ (l : List Event). map what out.sooner ++ l)
    (map_what (packets_at p packets) out.later ∙ ap (λ (l : List Event). l ++ map what out.later) (what_packets p packets))

module _ (b : Board) (legal : board_refusal b ≡ None) (cs : List Call) (events : List EventAt) (noise : List ℕ) (packets : List (List ℕ))
    (out : AllOut events (length noise) packets) (are : given boards b cs ≡ map what events) where
  abbrev sooner : List Event
  sooner = map what out.sooner

  abbrev later : List Event
  later = map what out.later

  carried_out_lem : shown_after b cs ≡ hearing b.table b.registered (sooner ++ (map packet packets ++ later))
  carried_out_lem = each_once cs b legal ∙ ap (λ (l : List Event). hearing b.table b.registered l) (are ∙ parts events (length noise) packets out)

  caught_up : CaughtUp b cs events noise packets
  caught_up =
      record {
        out = out;
        carried_out_lem = carried_out_lem;
        only_packets = λ n m.
            carried_out_lem
            ∙ none_heard b.table b.registered out.sooner (map packet packets ++ later) n
            ∙ none_after b.table b.registered (map packet packets) out.later m;
        same_state = λ n m.
            let x = state_before b.table b.registered out.sooner (map packet packets ++ later) n in
            let y = state_after b.table b.registered (map packet packets) out.later m in
            record {
              table = ap (λ (s : Shown). s.table) carried_out_lem ∙ x.table ∙ y.table;
              registered = ap (λ (s : Shown). s.registered) carried_out_lem ∙ x.registered ∙ y.registered;
            };
      }

promised : (b : Board) → board_refusal b ≡ None → held_in b.reader ≡ [] → (chunks : List (List ℕ)) (g : ℕ) (noise : List ℕ) (packets : List (List ℕ))
    (rest : List ℕ) → took (model protocol2) [] (since chunks g) ≡ noise ++ (joined packets ++ rest) → AllWellFormed protocol2 packets
    → NoneAcross protocol2 noise (joined packets ++ rest) → NotBehind b chunks g noise packets rest
unfolding after
promised b legal empty chunks g noise packets rest is good across =
    let cs = since chunks g in
    let m = demand_3 protocol2 laws [] refl [] (inl refl) chunks g noise packets rest is good across in
    let t = follows_took protocol2 boards (λ b. board_refusal b ≡ None) (λ b. held_in b.reader) follows b [] cs legal empty in
    let v = follows_given protocol2 boards (λ b. board_refusal b ≡ None) (λ b. held_in b.reader) follows b [] cs legal empty in
    record {
      all_taken = t ∙ is;
      by_gap = λ f.
          let all = m.all f ∙ ap (λ (s : List ℕ). reading protocol2 s) is in
          caught_up b legal cs (reading protocol2 (noise ++ (joined packets ++ rest))) noise packets
          (subst (λ (l : List EventAt). AllOut l (length noise) packets) all (m.out_by_gap f))
          (v ∙ sym m.firsts ∙ ap (λ (l : List EventAt). map what l) all);
      by_feed = λ z chunk s many.
          let o = m.out_by_feed z chunk s ((every_protocol.two.followed_by (joined packets ++ rest)).1 many) in
          caught_up b legal cs (given_at protocol2 boards b chunks g) noise packets (rw (t, v) o) (rw (t, v) (sym m.firsts));
    }

pub in_step : InStep
unfolding after
in_step =
    record {
      in_step = λ b is-fresh earlier start chunks g noise packets rest is good across.
          let s = follows.fresh b is-fresh in
          let n = follows_after protocol2 boards (λ b. board_refusal b ≡ None) (λ b. held_in b.reader) follows b [] earlier s.0 s.1 in
          promised (after boards b earlier) n.0 (n.1 ∙ fresh protocol2 laws earlier start) chunks g noise packets rest is good across;
      each_once = λ b legal cs. each_once cs b legal;
      demand_3 = (call_promises protocol2 laws boards (λ b. board_refusal b ≡ None) (λ b. held_in b.reader) follows).demand_3;
      alike = λ b clean cs events noise packets good up n m is-fresh earlier start chunks g is f same_table same_registered_lem.
          let s = follows.fresh clean is-fresh in
          let k = follows_after protocol2 boards (λ b. board_refusal b ≡ None) (λ b. held_in b.reader) follows clean [] earlier s.0 s.1 in
          let line = (call_promises protocol2 laws boards (λ b. board_refusal b ≡ None) (λ b. held_in b.reader) follows).clean_line
          clean is-fresh earlier start chunks g packets good is f in
          up.only_packets n m
          ∙ ap₂ (λ (t : List ℕ) (w : RegisteredWrite). hearing t w (map packet packets)) same_table same_registered_lem
          ∙ ap (λ (l : List Event). hearing (after boards clean earlier).table (after boards clean earlier).registered l) (sym line.1)
          ∙ sym (each_once (since chunks g) (after boards clean earlier) k.0);
      never_refused = λ b legal cs.
          (follows_after protocol2 boards (λ b. board_refusal b ≡ None) (λ b. held_in b.reader) follows b (held_in b.reader) cs legal refl).0;
      stays_clean = λ b clean cs. stays_clean cs b clean;
      as_a_reader = as_a_reader;
    }
