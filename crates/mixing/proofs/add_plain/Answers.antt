use Rattle.std.proofs.Common.{◌≡◌, ◌+◌, ◌-◌, ◌≤◌, length, take, drop, ◌∙◌, arith, length-drop, length-take-le}
use lib.ListN.{length-map}
use Rattle.event.specs.Runs.{length_made}
use Rattle.event.specs.Sources.{next_samples, sample_of, advanced}
use Rattle.floats.specs.Arithmetic.{◌×ˢ◌}
use Rattle.ledger.specs.BlockSamples.{gained}
use Rattle.runs.specs.Adding.{add-inside}
use Rattle.mixing.proofs.add_plain.Goals as goal

pub returns : goal.returns
returns c =
    let a = c.args in
    let p = c.requires in
    let u = a.unit in
    let l = a.channel.now in
    let pool = a.pool.now in
    let n = a.z - a.s in
    let run = gained a.gain (next_samples pool u n) in
    let there : n ≤ length (drop a.s l) = simp length-drop (omega (arith, p.fact_1, p.fact_2)) in
    let long : length (take n (drop a.s l)) ≡ n = length-take-le n (drop a.s l) there in
    let runs : length run ≡ n = length-map (next_samples pool u n) (λ x. x ×ˢ a.gain) ∙ length_made (sample_of pool) advanced u n in
    let inside : a.s + length run ≤ length l = omega (arith, runs, p.fact_1, p.fact_2) in
    (rw (c.add_source.ensures.1, long), rw (c.add_source.ensures.0, long) (rw runs at (add-inside a.s run l inside)))
