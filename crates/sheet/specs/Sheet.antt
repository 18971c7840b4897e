-- Document 01's proof sheet, cases 1 to 8, as one list computed over the definitions: rate 8, clock 0, one channel. Assumes nothing.
use Rattle.std.specs.Prelude.{ℕ, ◌≡◌, refl, List, [], ◌∷◌, ◌++◌, map, false, negsuc, length, take, replicate, Float}
use Rattle.std.proofs.Math.Option.{none}
use Rattle.std.specs.Float.{fin}
use Rattle.std.specs.Float.Ieee.{neg}
use Rattle.event.specs.declared.Fade.TheVariants.{Smooth}
use Rattle.event.specs.declared.MixOrder.TheVariants.{Forward}
use Rattle.event.specs.declared.ReplayMode.TheVariants.{None}
use Rattle.event.specs.declared.Source.TheVariants.{Held}
use Rattle.floats.specs.Arithmetic.{zeroᶠ, oneᶠ, halfᶠ, whole}
use Rattle.floats.specs.Constants.{+∞}
use Rattle.floats.specs.Floats.{index}
use Rattle.math.specs.Curves.{smooth}
use Rattle.ledger.specs.Calls.{Call, tick, block, absolute, number, refused}
use Rattle.ledger.specs.Ledger.{held, fresh}
use Rattle.ledger.specs.Steps.{run}
use Rattle.ledger.specs.Computes.{computes}
use Rattle.ledger.specs.Cases.{decimal, 512ths, at_rate8, held1, answers_of, last_out}
use Rattle.desk.specs.Desk as Desk
use Rattle.desk.specs.Desk.{front, back, opened}

-- after one push and one tick: how many wait, sound and are finished, and the sample
pub record Ticked : Type 0 where
  pub waiting : ℕ
  pub sounding : ℕ
  pub finished : ℕ
  pub out : List Float

unfoldable pub ticked : Call → Ticked
unfolding at_rate8
ticked c =
    let r = run (c ∷ tick Forward [] (zeroᶠ ∷ []) ∷ []) at_rate8 in
    record { waiting = length r.ledger.waiting; sounding = length r.ledger.sounding; finished = length r.ledger.finished; out = last_out r.replies }

abbrev waits : Ticked
waits = record { waiting = 1; sounding = 0; finished = 0; out = zeroᶠ ∷ [] }

abbrev sounds : Ticked
sounds = record { waiting = 0; sounding = 1; finished = 0; out = oneᶠ ∷ [] }

abbrev finishes_unheard : Ticked
finishes_unheard = record { waiting = 0; sounding = 0; finished = 1; out = zeroᶠ ∷ [] }

-- the samples of a block of 16 after one push
unfoldable pub block16 : Call → List Float
unfolding at_rate8
block16 c = take 16 (last_out (run (c ∷ block Forward 16 [] (replicate 64 zeroᶠ) none ∷ []) at_rate8).replies)

-- the desk in mode None after a queued reset, a queued push and a tick of the back
unfoldable pub desk8 : Desk.Desk
unfolding Desk.computes
desk8 =
    (Desk.run (
    back (Desk.rate (whole 8))
    ∷ front Desk.reset
    ∷ front (Desk.push absolute zeroᶠ oneᶠ zeroᶠ zeroᶠ Smooth (Held oneᶠ) oneᶠ)
    ∷ back (Desk.tick Forward [] (zeroᶠ ∷ [])) ∷ []) (opened (fresh 1 None 1))).desk

pub record Sheet : Type 0 where
  -- 1. smooth5 at 0, 0.25, 0.5, 0.75, 1 is 0, 0.103515625, 0.5, 0.896484375, 1.
  pub case1 : map smooth (zeroᶠ ∷ decimal 25 2 ∷ decimal 5 1 ∷ decimal 75 2 ∷ oneᶠ ∷ []) ≡ zeroᶠ ∷ 512ths 53 ∷ halfᶠ ∷ 512ths 459 ∷ oneᶠ ∷ []
  -- 2. Index of 0.5 is 1, of 2.5 is 3, of -0.5 is 0.
  pub case2 : map index (decimal 5 1 ∷ decimal 25 1 ∷ neg (decimal 5 1) ∷ []) ≡ 1 ∷ 3 ∷ 0 ∷ []
  -- 3. First tick: start 0.0625 waits; start 0.06 sounds.
  pub case3 : map ticked (held1 (decimal 625 4) oneᶠ zeroᶠ zeroᶠ ∷ held1 (decimal 6 2) oneᶠ zeroᶠ zeroᶠ ∷ []) ≡ waits ∷ sounds ∷ []
  -- 4. End 0.0625 finishes unheard in the first tick; end 0.0626 sounds.
  pub case4 : map ticked (held1 zeroᶠ (decimal 625 4) zeroᶠ zeroᶠ ∷ held1 zeroᶠ (decimal 626 4) zeroᶠ zeroᶠ ∷ []) ≡ finishes_unheard ∷ sounds ∷ []
  -- 5. Held 1.0, start 0, end 1, smooth fade-out 0.5, block 16: four of 1, then 1, 0.896484375, 0.5, 0.103515625, then eight 0.
  pub case5 : block16 (held1 zeroᶠ oneᶠ zeroᶠ halfᶠ) ≡ replicate 4 oneᶠ ++ (oneᶠ ∷ 512ths 459 ∷ halfᶠ ∷ 512ths 53 ∷ replicate 8 zeroᶠ)
  -- 6. Held 1.0, start 1, end +infinity, smooth fade-in 0.5, block 16: places 8 to 15. Document 02, Paper 3, in place of document 01's last three values: "Case 6 then reads 0, 0.103515625, 0.5, 0.896484375, 1, 1, 1, 1."
  pub case6 : block16 (held1 oneᶠ +∞ halfᶠ zeroᶠ) ≡ replicate 8 zeroᶠ ++ (zeroᶠ ∷ 512ths 53 ∷ halfᶠ ∷ 512ths 459 ∷ replicate 4 oneᶠ)
  -- 7. Fade equal to end - start passes; fade 1.01 over 1 gives 4.
  pub case7 : answers_of (run (held1 zeroᶠ oneᶠ oneᶠ oneᶠ ∷ held1 zeroᶠ oneᶠ (decimal 101 2) zeroᶠ ∷ held1 zeroᶠ oneᶠ zeroᶠ (decimal 101 2) ∷ []) at_rate8).replies
      ≡ number 1 ∷ refused 4 ∷ refused 4 ∷ []
  -- 8. Desk, None, queued reset then push, back tick: nothing is held. (The push was let go, and its number returned.)
  pub case8 : (held desk8.back ≡ 0) × (desk8.back.gone ≡ 1 ∷ []) × (desk8.returned ≡ 1 ∷ [])

pub sheet : Sheet
unfolding smooth index neg ticked block16 decimal at_rate8 desk8
sheet = record { case1 = refl; case2 = refl; case3 = refl; case4 = refl; case5 = refl; case6 = refl; case7 = refl; case8 = (refl, refl, refl) }
