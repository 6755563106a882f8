use Rattle.std.proofs.Common.{◌≡◌, ◌<◌, ◌≤◌, ◌+◌, length, true, arith, ◌∙◌}
use Rattle.std.proofs.lemmas.Grind.{common_steps}
use Rattle.packet_rules.proofs.Peeks.{front_nothing, front_early, front_late, front_whole}
use Rattle.packet_protocols.specs.Protocols.{shape_of, front_agrees_of}
use Rattle.packet_protocols.proofs.Shapes.{front_cut, by_length, size_is}
use Rattle.packet_protocols.proofs.Protocol.peek.Goals as goal

pub returns-then-n-layout : goal.returns-then-n-layout
returns-then-n-layout c =
    let p = c.args.self in
    let s = c.args.s.now in
    let agreed : front_agrees_of p s ≡ true = cc in
    let cut : length s < (shape_of p).front = omega arith in
    cc (front_early (shape_of p) s (front_cut s p agreed cut) cut)

pub returns-then-not-contains : goal.returns-then-not-contains
returns-then-not-contains c =
    let p = c.args.self in
    let s = c.args.s.now in
    let agreed : front_agrees_of p s ≡ true = cc in
    let there : (shape_of p).front ≤ length s = omega arith in
    front_nothing (shape_of p) s (by_length s p agreed there ∙ grind (arith, common_steps))

pub returns-then-n-size : goal.returns-then-n-size
returns-then-n-size c =
    let p = c.args.self in
    let s = c.args.s.now in
    let agreed : front_agrees_of p s ≡ true = cc in
    let there : (shape_of p).front ≤ length s = omega arith in
    let good : (shape_of p).agrees s ≡ true = by_length s p agreed there ∙ grind (arith, common_steps) in
    let size : (shape_of p).size s ≡ c.layout-layout.result.front + c.length_in-length.result = cc (size_is s p) in
    cc (front_late (shape_of p) s good there (omega arith))

pub returns : goal.returns
returns c =
    let p = c.args.self in
    let s = c.args.s.now in
    let agreed : front_agrees_of p s ≡ true = cc in
    let there : (shape_of p).front ≤ length s = omega arith in
    let good : (shape_of p).agrees s ≡ true = by_length s p agreed there ∙ grind (arith, common_steps) in
    let size : (shape_of p).size s ≡ c.layout-layout.result.front + c.length_in-length.result = cc (size_is s p) in
    cc (front_whole (shape_of p) s good there (omega arith))
