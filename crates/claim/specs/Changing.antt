-- An edit of a sounding event, a past edit, and an edit that is stored: the engine's and the ledger's. Assumes nothing.
use Rattle.std.specs.Prelude.{Bool, true, false, ◌≡◌, ℕ, ◌<◌, Float, length}
use Rattle.std.proofs.Common.{true≢false, sym, ap, ◌∙◌, arith}
use Rattle.std.proofs.Math.Path.{refl, subst}
use Rattle.std.proofs.Math.Option.{none, some}
use Rattle.event.specs.declared.EventId.{EventId}
use Rattle.event.specs.declared.Edit.{Edit}
use Rattle.floats.specs.Arithmetic.{◌<ᶠ◌}
use Rattle.ledger.specs.Lists.{has, place_of, edit_of}
use Rattle.ledger.specs.Ledger.{Ledger}
use Rattle.ledger.specs.Steps as Plain
use Rattle.ledger.specs.Steps.{change}
use Rattle.std.specs.declared.option.Option.{Option as Found}
use Rattle.std.specs.declared.option.Option.TheVariants.{Some, None}
use Rattle.lists.specs.EditList.{edits-insert}
use Rattle.lists.specs.Index.{found_id}
use Rattle.lists.specs.Numbered.{place_none, none-place}
use Rattle.lists.specs.Sounding.{index_find, listed-edit}
use Rattle.lists.specs.PlaceFound.{place_found}
use Rattle.sequencer.specs.declared.Sequencer.{Sequencer}
use Rattle.sequencer.specs.declared.Outcome.{Outcome}
use Rattle.sequencer.specs.Answers.{answer_of}
use Rattle.sequencer.specs.Edits.{index_of, changed_by, changed}
use Rattle.claim.specs.Related.{Related}

abbrev pub Same : Outcome → Plain.Outcome → Type 0
Same a b = Related a.sequencer b.ledger × (answer_of a.answer ≡ b.reply.answer)

module _ (s : Sequencer) (l : Ledger) (k : EventId) (d : Edit) where
  -- an edit that is to be stored, of a number that has none, needs room
  abbrev pub Room : (sounds over : Bool) → Type 0
  Room sounds over = sounds ≡ false → over ≡ false → edit_of k.0 l.edits ≡ none → length l.edits < 256

  by_place : (over : Bool) → Room (has k.0 l.sounding) over → Related s l → Same (changed_by s k d (found_id (index_of s) k) over) (change l k.0 d (has k.0 l.sounding) over)
  unfolding changed_by change
  by_place over room r = go (found_id (index_of s) k) refl (has k.0 l.sounding) refl over room
    where
      place_is : place_found (found_id (index_of s) k) ≡ place_of k.0 l.sounding
      place_is = index_find k (r.lists.1, r.lists.2)

      some_none : (i : ℕ) → some i ≡ none → ⊥
      some_none i q = let z : ◌≡◌ {A = ℕ} 0 1 = cc in omega arith

      go : (f : Found ℕ) → found_id (index_of s) k ≡ f → (b : Bool) → has k.0 l.sounding ≡ b → (o : Bool) → Room b o → Same (changed_by s k d f o) (change l k.0 d b o)
      go (Some i) q true h o n =
          let e = (listed-edit k d i q (r.lists.1, r.lists.2)).1 in
          (record { lists = (r.lists.0, e.0, e.1, r.lists.3, r.lists.4); plain = r.plain }, refl)
      go (Some i) q false h o n = absurd (some_none i (sym (ap place_found q) ∙ place_is ∙ none-place k.0 l.sounding h))
      go None q true h o n = absurd (true≢false (sym h ∙ place_none k.0 l.sounding (sym place_is ∙ ap place_found q)))
      go None q false h true n = (r, refl)
      go None q false h false n =
          (record { lists = (r.lists.0, r.lists.1, r.lists.2, r.lists.3, edits-insert s.edit_map k l.edits r.lists.4 d (n refl refl)); plain = r.plain }, refl)

  pub related_change : Room (has k.0 l.sounding) (d.end_time <ᶠ l.threshold) → Related s l
      → Same (changed s k d) (change l k.0 d (has k.0 l.sounding) (d.end_time <ᶠ l.threshold))
  unfolding changed
  related_change room r =
      subst (λ (θ : Float). Same (changed_by s k d (found_id (index_of s) k) (d.end_time <ᶠ θ)) (change l k.0 d (has k.0 l.sounding) (d.end_time <ᶠ l.threshold)))
      (sym r.plain.1) (by_place (d.end_time <ᶠ l.threshold) room r)
