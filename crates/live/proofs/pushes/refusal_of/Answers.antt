-- `live::pushes::refusal_of` meets its contract.
use Rattle.std.proofs.Common.{ℕ, get_or, ap, ◌∙◌}
use Rattle.refusals.specs.Refusals.{push_refusal}
use Rattle.live.proofs.pushes.refusal_of.Goals as goal

pub returns : goal.returns
returns c =
    let a = c.args in
    let s = a.stated in
    let v = a.voice in
    c.push_refusal.ensures ∙ ap (λ (m : ℕ). push_refusal s.start s.end s.lasts v.fade_in v.fade_out v.source v.gain m (get_or a.numbers.now 1286 0)) c.held-n.ensures
