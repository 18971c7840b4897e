-- `sequencer::Sequencer::amend` meets its contract. Assumes nothing.
use Rattle.std.proofs.Common.{◌≡◌, ℕ, ap, ◌∙◌, eq-eqb}
use lib.Ieee.{Float}
use Rattle.event.specs.declared.EventId.{EventId}
use Rattle.std.specs.declared.option.Option.{Option as Found}
use Rattle.refusals.specs.Numbers.{refused_is, taken_is}
use Rattle.refusals.specs.Refusals.{edit_refusal}
use Rattle.sequencer.specs.declared.Sequencer.{Sequencer}
use Rattle.sequencer.specs.Edits.{amended}
use Rattle.sequencer.specs.Outcomes.{not_zero}
use Rattle.sequencer.specs.Readers.{place_in}
use Rattle.sequencer.proofs.Sequencer.amend.Goals as goal

-- the refusal of what the search found is that of the definition
told : (s : Sequencer) (k : EventId) (end until fade_out : Float) (f : Found ℕ) (n : ℕ) → f ≡ place_in s k → n ≡ edit_refusal f s.edit_map s.active_threshold k end until fade_out
    → n ≡ edit_refusal (place_in s k) s.edit_map s.active_threshold k end until fade_out
told s k end until fade_out f n h q = q ∙ ap (λ (x : Found ℕ). edit_refusal x s.edit_map s.active_threshold k end until fade_out) h

pub returns-in-Some : goal.returns-in-Some
unfolding amended
returns-in-Some c =
    let a = c.args in
    let k = refused_is _ _ _ (told a.self a.id a.end a.until a.fade_out c.place-found.result _ c.place-found.ensures c.edit_refusal-no.ensures) c.in-Some.is in
    rw (not_zero _ k.1, c.number.ensures, k.0)

pub returns : goal.returns
unfolding amended
returns c =
    let a = c.args in
    let h = told a.self a.id a.end a.until a.fade_out c.place-found.result _ c.place-found.ensures c.edit_refusal-no.ensures in
    rw (eq-eqb _ 0 (taken_is _ _ h c.in_default.is)) c.change_found.ensures
