-- `render::render_with_pool` meets its contract: the player gives what the plain ledger gives. Assumes nothing.
use Rattle.std.proofs.Common.{◌≡◌, ℕ, ap, ◌∙◌, List, ◌++◌, length, drop}
use Rattle.render.proofs.Rolling.{same_bytes}
use Rattle.render.proofs.render_with_pool.Goals as goal

pub returns : goal.returns
returns c =
    let r = c.play in
    let t = c.args.tape.now in
    let out = c.args.out.now in
    let same = same_bytes c.args.pool.now t (length out) (λ i. (c.type_inv.tape i).fits) in
    record {
      value = r.ensures.value ∙ ap (λ (w : List ℕ). length w) same;
      out_after = r.ensures.out_after ∙ ap (λ (w : List ℕ). w ++ drop r.result out) same;
    }
