-- `state_listing::digest::mixed_message` meets its contract, message by message. Assumes nothing.
use Rattle.std.proofs.Common.{ℕ, sym, ap, ◌∙◌, rules}
use Rattle.digests.specs.Digests.{mixed_all}
use Rattle.state_listing.specs.Digests.{event_words, edit_words, message_words}
use Rattle.state_listing.proofs.digest.mixed_message.Goals as goal

pub returns-in-Reset : goal.returns-in-Reset
unfolding mixed_all message_words
returns-in-Reset c = c.mixed.ensures ∙ ap (λ m. mixed_all c.args.digest (message_words m)) (sym c.in-Reset.is)

pub returns-in-Push : goal.returns-in-Push
unfolding mixed_all message_words
returns-in-Push c =
    c.mixed_event.ensures ∙ ap (λ (d : ℕ). mixed_all d (event_words c.in-Push.event)) c.mixed-in-Push.ensures ∙ ap (λ m. mixed_all c.args.digest (message_words m)) (sym c.in-Push.is)

pub returns-in-PushRelative : goal.returns-in-PushRelative
unfolding mixed_all message_words
returns-in-PushRelative c =
    c.mixed_event-in-PushRelative.ensures ∙ ap (λ (d : ℕ). mixed_all d (event_words c.in-PushRelative.event)) c.mixed-in-PushRelative.ensures ∙ ap (λ m. mixed_all c.args.digest (message_words m)) (sym c.in-PushRelative.is)

pub returns-in-Edit : goal.returns-in-Edit
unfolding mixed_all message_words
returns-in-Edit c =
    c.mixed_edit.ensures ∙ ap (λ (d : ℕ). mixed_all d (edit_words c.in-Edit.id c.in-Edit.edit)) c.mixed-in-Edit.ensures ∙ ap (λ m. mixed_all c.args.digest (message_words m)) (sym c.in-Edit.is)

pub returns-in-EditRelative : goal.returns-in-EditRelative
unfolding mixed_all message_words
returns-in-EditRelative c =
    c.mixed_edit-in-EditRelative.ensures ∙ ap (λ (d : ℕ). mixed_all d (edit_words c.in-EditRelative.id c.in-EditRelative.edit)) c.mixed-in-EditRelative.ensures ∙ ap (λ m. mixed_all c.args.digest (message_words m)) (sym c.in-EditRelative.is)
