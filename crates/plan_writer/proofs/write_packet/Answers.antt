use mathlib.Core.Path.{◌≡◌, sym, ◌∙◌}
use mathlib.Core.List.{◌∷◌}
use Prim.Native.Nat.{ℕ, ◌+◌, ◌*◌, ◌≤◌}
use native.Mathlib.Omega.{arith}
use Rattle.plan.specs.Planner.{list_bytes}
use lib.ListN.{length, take, replicate, length-replicate}
use lib.Seq.{length-take-le}
use Rattle.plan_writer.specs.Filling.{entries_at}
use Rattle.plan_writer.proofs.Sending.{params_taken, packet_placed}
use Rattle.plan_writer.proofs.write_packet.Goals as goal
use Rattle.plan_writer.proofs.write_packet.Goals.{After-write_params-next}

pub write_params-next-requires : goal.write_params-next-requires
write_params-next-requires c = let f = c.requires.1 in (c.requires.0, c.requires.2, omega arith)

-- the parameters, once they are written
filled : (w : After-write_params-next) → let es = entries_at w.args.goals.now w.args.from in
    let out = w.write_params-next.new.out in
    (4 + 5 * w.args.k ≤ length out) × (take (4 + 5 * w.args.k) out ≡ 116 ∷ 0 ∷ 4 ∷ 0 ∷ list_bytes (take w.args.k es))
filled w =
    params_taken (entries_at w.args.goals.now w.args.from) w.args.k w.requires.2 (replicate 1019 0) w.write_params-next.new.out w.write_params-next.ensures.out_after w.requires.1
    (length-replicate {A = ℕ} 1019 0)

pub slice_bounds-encode-end : goal.slice_bounds-encode-end
slice_bounds-encode-end c = sym (length-take-le _ _ (filled (goal.at.slice_bounds-encode-end c).After-write_params-next).0)

pub returns : goal.returns
returns c =
    record {
      result_value = c.write_params-next.ensures.result_value;
      out_after = c.encode.ensures.out_after
          ∙ packet_placed (entries_at c.args.goals.now c.args.from) c.args.k c.requires.2 c.args.out.now c.args.at c.requires.3 c.requires.1 c.requires.4 _ (filled (goal.at.returns c).After-write_params-next).1;
    }
