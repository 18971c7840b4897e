-- The calls of crate live as functions of four arrays, and what their contracts say of them: of any functions that meet these contracts,
-- and so of every list of calls, each on the memory that the one before left, nobody else writing it.
use Rattle.std.specs.Prelude.{ℕ, false, List, [], ◌≡◌, Float, length}
use Rattle.event.specs.declared.EventId.{EventId}
use Rattle.event.specs.declared.Fade.{Fade}
use Rattle.event.specs.declared.MixOrder.{MixOrder}
use Rattle.event.specs.declared.ReplayMode.{ReplayMode}
use Rattle.event.specs.declared.Source.{Source}
use Rattle.ledger.specs.Calls as Calls
use Rattle.ledger.specs.Calls.{PushKind, EditKind, Call, Reply}
use Rattle.ledger.specs.Claim.{Engine}
use Rattle.sequencer.specs.declared.Answer.{Answer}
use Rattle.sequencer.specs.declared.Answer.TheVariants.{Done}
use Rattle.sequencer.specs.declared.Sequencer.{Sequencer}
use Rattle.sequencer.specs.Answers.{answer_of}
use Rattle.sequencer.specs.Creation.{created}
use Rattle.sequencer.specs.Rises.{pushes_told}
use Rattle.sequencer.specs.Edits as Edits
use Rattle.sequencer.specs.Rendering.{ticks, tick_outs, blocks, block_outs}
use Rattle.sequencer.specs.Resets.{rates, resets}
use Rattle.memory.specs.Memory.{Cells, engine_of}
use Rattle.memory.specs.Laws.{Sized}
use Rattle.claim.specs.View.{view_of}
use Rattle.claim.specs.EngineCalls.{gives}

-- four arrays of the lengths that the layout has
pub record Arrays : Type 0 where
  pub cells : Cells
  pub sized : Sized cells

abbrev pub holds : Arrays → Sequencer
holds a = engine_of a.cells

-- what a call leaves and answers, and what is left in the output lent to it
pub record Left : Type 0 where
  pub arrays : Arrays
  pub answer : Answer
  pub out : List Float

-- functions for `create`, the pushes, the edits, `tick`, `process`, `set_sample_rate` and `reset`
pub record Live : Type 0 where
  pub create : (channels : ℕ) → ReplayMode → (first : ℕ) → Arrays → Left
  pub push : PushKind → (start end : Float) → Fade → (fade_in fade_out : Float) → Source → (gain : Float) → Arrays → Left
  pub edit : EditKind → EventId → (end fade_out : Float) → Arrays → Left
  pub tick : MixOrder → (pool out : List Float) → Arrays → Left
  pub process : MixOrder → (size : ℕ) → (pool out : List Float) → Arrays → Left
  pub rate : Float → Arrays → Left
  pub reset : Arrays → Arrays

-- each meets its contract: the engine that the arrays hold afterwards, the answer, and the output
pub record Meets (f : Live) : Type 0 where
  pub creates : (channels : ℕ) (mode : ReplayMode) (first : ℕ) (a : Arrays) → (let r = f.create channels mode first a in
      (holds r.arrays ≡ (created channels mode first).sequencer) × (r.answer ≡ (created channels mode first).answer))
  pub pushes : (kind : PushKind) (start end : Float) (curve : Fade) (fade_in fade_out : Float) (source : Source) (gain : Float) (a : Arrays)
      → (let r = f.push kind start end curve fade_in fade_out source gain a in
      let o = pushes_told kind (holds a) start end curve fade_in fade_out source gain in
      (holds r.arrays ≡ o.sequencer) × (r.answer ≡ o.answer))
  pub edits : (kind : EditKind) (k : EventId) (end fade_out : Float) (a : Arrays) → (let r = f.edit kind k end fade_out a in
      let o = Edits.edits kind (holds a) k end fade_out in
      (holds r.arrays ≡ o.sequencer) × (r.answer ≡ o.answer))
  pub ticked : (order : MixOrder) (pool out : List Float) (a : Arrays) → (let r = f.tick order pool out a in
      let o = ticks order pool (length out) (holds a) in
      (holds r.arrays ≡ o.sequencer) × (r.out ≡ tick_outs order pool (holds a) out) × (r.answer ≡ o.answer))
  pub processed : (order : MixOrder) (size : ℕ) (pool out : List Float) (a : Arrays) → (let r = f.process order size pool out a in
      let o = blocks order pool size (length out) (holds a) in
      (holds r.arrays ≡ o.sequencer) × (r.out ≡ block_outs order pool size (holds a) out) × (r.answer ≡ o.answer))
  pub rated : (r : Float) (a : Arrays) → (holds (f.rate r a).arrays ≡ (rates (holds a) r).sequencer) × ((f.rate r a).answer ≡ (rates (holds a) r).answer)
  pub is-reset : (a : Arrays) → holds (f.reset a) ≡ resets (holds a)

-- ---- the engine of demand 3: its state is the memory; its blocks are lent no scratch

-- the reply with this answer and this output, as crate claim's engine gives it
abbrev pub replies : Answer → (out : List Float) → Arrays → Reply
replies x out a = (gives (record { sequencer = holds a; answer = x }) out).1

abbrev leaves : Left → (out : List Float) → Arrays × Reply
leaves r out = (r.arrays, replies r.answer out r.arrays)

abbrev pub live_call : Live → Arrays → Call → Arrays × Reply
live_call f a (Calls.push kind start end fade_in fade_out curve source gain) = leaves (f.push kind start end curve fade_in fade_out source gain a) []
live_call f a (Calls.edit kind k end fade_out) = leaves (f.edit kind (record { 0 = k }) end fade_out a) []
live_call f a (Calls.tick order pool out) = let r = f.tick order pool out a in leaves r r.out
live_call f a (Calls.block order n pool out scratch) = let r = f.process order n pool out a in leaves r r.out
live_call f a (Calls.rate r) = leaves (f.rate r a) []
live_call f a Calls.reset = leaves (record { arrays = f.reset a; answer = Done; out = [] }) []

-- creation is given memory, whatever it held
abbrev pub live_engine : Live → Arrays → Engine
live_engine f a = record {
  State = Arrays;
  lends = false;
  new = λ channels mode first. let r = f.create channels mode first a in (r.arrays, answer_of r.answer);
  call = live_call f;
  view = λ b. view_of (holds b);
}
