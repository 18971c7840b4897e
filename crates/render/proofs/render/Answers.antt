-- `render::render` meets its contract: the player gives what the plain ledger gives. Assumes nothing.
use Rattle.std.proofs.Common.{◌≡◌, ℕ, ap, ◌∙◌, List, ◌++◌, length, drop}
use Rattle.std.specs.Prelude.{Float}
use Rattle.tape.specs.Pool.{trail_pool}
use Rattle.player.specs.Records.{played}
use Rattle.render.proofs.Rolling.{same_bytes}
use Rattle.render.proofs.render.Goals as goal

pub returns : goal.returns
returns c =
    let r = c.play in
    let t = c.args.tape.now in
    let out = c.args.out.now in
    let same = ap (λ (p : List Float). played p t (length out)) c.trail_pool-pool.ensures ∙ same_bytes trail_pool t (length out) (λ i. (c.type_inv.tape i).fits) in
    record {
      value = r.ensures.value ∙ ap (λ (w : List ℕ). length w) same;
      out_after = r.ensures.out_after ∙ ap (λ (w : List ℕ). w ++ drop r.result out) same;
    }
