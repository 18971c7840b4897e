-- What a call gives does not depend on what stood in the 512 samples that it is lent.
use Rattle.std.specs.Prelude.{Bool, true, false, cond, List, [], ◌∷◌, ◌++◌, ◌≡◌, eqb, Float, length, take, drop, replicate}
use Rattle.std.proofs.Math.Path.{refl}
use Rattle.std.proofs.Common.{sym, ap, ◌∙◌, subst, eqb-true, take-append-drop}
use Prim.Native.Nat.{ℕ, ◌*◌, ◌/◌, min}
use Rattle.event.specs.declared.MixOrder.TheVariants.{Forward}
use Rattle.ledger.specs.BlockSamples.{overlay}
use Rattle.refusals.specs.Refusals.{tick_refusal, process_refusal}
use Rattle.sequencer.specs.declared.Sequencer.{Sequencer}
use Rattle.sequencer.specs.Answers.{accepts}
use Rattle.sequencer.specs.Moves.{advanced}
use Rattle.sequencer.specs.Outcomes.{renders, refuses}
use Rattle.sequencer.specs.Rendering.{tick_end, tick_pass, rendered_tick, block_end, span_of, block_pass, rendered_block, rendered_places}
use Rattle.tape.specs.declared.reader.Call.{Call}
use Rattle.tape.specs.declared.reader.Call.TheVariants as Call
use Rattle.apply.specs.declared.Applied.{Applied}
use Rattle.apply.specs.Applying.{silent, sounding_of, applied_to, applied_out}
use Rattle.record_output.specs.Rows.{Rows, tick_rows}
use Rattle.player.specs.Heard.{channels, tick-no, lent, block_no, run, accepted, refused-silent, block-small, tick_gives, tick_leaves, block-gives, block-leaves, block-shown, heard}

-- what a call gives on an engine, any engine, whatever stood in the 512 samples that it is lent: every sample that it leaves is one of a row
pub record Given (pool : List Float) (s : Sequencer) (call : Call) : Type 0 where
  pub gives : Applied
  pub row : List Float
  pub is : (x : List Float) → length x ≡ 512 → applied_to pool s call x ≡ gives
  pub shows : (x : List Float) → length x ≡ 512 → Rows gives.channels gives.each gives.stride row (applied_out pool s call x)
  pub long : (x : List Float) → length x ≡ 512 → length (applied_out pool s call x) ≡ 512

module _ (pool : List Float) (s : Sequencer) where
  -- a call without samples
  soundless : (call : Call) (t : Sequencer) (n : ℕ) → ((x : List Float) → length x ≡ 512 → applied_to pool s call x ≡ silent t n)
      → ((x : List Float) → length x ≡ 512 → applied_out pool s call x ≡ x) → Given pool s call
  soundless call t n g o = record { gives = silent t n; row = []; is = g; shows = λ x l. tt; long = λ x l. ap length (o x l) ∙ l }

  tick_given : Given pool s Call.Tick
  unfolding channels tick-no sounding_of applied_to applied_out
  tick_given = go (eqb no 0) refl
    where
      c : ℕ
      c = min s.outputs 8

      no : ℕ
      no = tick_refusal c s.outputs s.time s.sample_duration

      sum : Float
      sum = (tick_pass Forward pool s.time (advanced s (tick_end s))).sum

      gives : Bool → Applied
      gives b = sounding_of (cond b (accepts (rendered_tick Forward pool s)) (refuses s no)) c 1 1

      leaves : List Float → Bool → List Float
      leaves x b = cond b (replicate c sum) (take c x) ++ drop c x

      go : (b : Bool) → eqb no 0 ≡ b → Given pool s Call.Tick
      go true q = record {
        gives = record { sequencer = rendered_tick Forward pool s; refusal = 0; channels = c; each = 1; stride = 1 };
        row = sum ∷ [];
        is = λ x l. tick_gives pool s x l ∙ ap gives q;
        shows = λ x l. subst (Rows c 1 1 (sum ∷ [])) (sym (tick_leaves pool s x l ∙ ap (leaves x) q)) (tick_rows c sum (sum ∷ []) (drop c x) refl);
        long = λ x l. (heard pool s x l Call.Tick).long;
      }
      go false q =
          soundless Call.Tick s no (λ x l. tick_gives pool s x l ∙ ap gives q ∙ refused-silent s no c 1 1 q)
          (λ x l. tick_leaves pool s x l ∙ ap (leaves x) q ∙ take-append-drop c x)

  block_given : (n : ℕ) → Given pool s (Call.Process n)
  unfolding channels lent block_no run accepted sounding_of applied_to applied_out
  block_given n = go (eqb no 0) refl
    where
      c : ℕ
      c = min s.outputs 8

      places : ℕ
      places = 64 * c

      no : ℕ
      no = process_refusal n places s.outputs s.time s.sample_duration

      row : List Float
      row = take 64 (block_pass Forward pool (span_of s n) n (advanced s (block_end s n))).sum

      gives : Bool → Applied
      gives b = sounding_of (cond b (renders (rendered_block Forward pool n s) (rendered_places Forward n s)) (refuses s no)) c n 64

      leaves : List Float → Bool → List Float
      leaves x b = cond b (overlay (places / 64) row (take places x)) (take places x) ++ drop places x

      go : (b : Bool) → eqb no 0 ≡ b → Given pool s (Call.Process n)
      go true q = record {
        gives = record { sequencer = rendered_block Forward pool n s; refusal = 0; channels = c; each = n; stride = 64 };
        row = row;
        is = λ x l. block-gives pool s x l n ∙ ap gives q;
        shows = λ x l. subst (Rows c n 64 row) (sym (block-leaves pool s x l n ∙ ap (leaves x) q))
            (block-shown pool s x l n (block-small n places s.outputs s.time s.sample_duration (eqb-true no 0 q)));
        long = λ x l. (heard pool s x l (Call.Process n)).long;
      }
      go false q =
          soundless (Call.Process n) s no (λ x l. block-gives pool s x l n ∙ ap gives q ∙ refused-silent s no c n 64 q)
          (λ x l. block-leaves pool s x l n ∙ ap (leaves x) q ∙ take-append-drop places x)

  -- ---- every call
  pub given : (call : Call) → Given pool s call
  unfolding applied_to applied_out
  given (Call.Push p) = soundless _ _ _ (λ x l. refl) (λ x l. refl)
  given (Call.PushRelative p) = soundless _ _ _ (λ x l. refl) (λ x l. refl)
  given (Call.PushDuration p) = soundless _ _ _ (λ x l. refl) (λ x l. refl)
  given Call.Tick = tick_given
  given (Call.Process n) = block_given n
  given (Call.Create k m n) = soundless _ _ _ (λ x l. refl) (λ x l. refl)
  given (Call.Edit p) = soundless _ _ _ (λ x l. refl) (λ x l. refl)
  given (Call.EditRelative p) = soundless _ _ _ (λ x l. refl) (λ x l. refl)
  given Call.Reset = soundless _ _ _ (λ x l. refl) (λ x l. refl)
  given (Call.SetSampleRate r) = soundless _ _ _ (λ x l. refl) (λ x l. refl)
