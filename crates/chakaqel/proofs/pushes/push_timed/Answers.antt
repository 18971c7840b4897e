-- `chakaqel::pushes::push_timed` meets its contract.
use mathlib.Core.Path.{refl, ap, ◌∙◌}
use Rattle.event.specs.declared.Fade.{Fade}
use Rattle.event.specs.declared.Source.{Source}
use Rattle.live.specs.CallContracts.{timed}
use Rattle.memory.specs.Memory.{cells_of, source_in}
use Rattle.chakaqel.specs.Entries.{curve_of, unknown_voice}
use Rattle.chakaqel.proofs.Codes.{unknown_is, known-is, pushed-entry}
use borrow.Author.Rules.{rules}
use Rattle.chakaqel.proofs.pushes.push_timed.Goals as goal

pub returns-in_default : goal.returns-in_default
returns-in_default c =
    let a = c.args in
    rw (unknown_is (curve_of a.curve, source_in a.source a.a a.b a.offset a.length) _ (unknown_voice a.curve a.source) c.voice_of.ensures c.in_default.is) (record { engine = refl; answer = refl; told = refl; refused = λ h. refl })

pub returns : goal.returns
returns c =
    let a = c.args in
    let k = known-is (curve_of a.curve, source_in a.source a.a a.b a.offset a.length) _ (unknown_voice a.curve a.source) c.voice_of.ensures _ c.in-Some.is in
    let e = c.push_timed-pushed.ensures in
    let t = c.tell_push.ensures in
    let r = pushed-entry (timed a.timing) (cells_of a.times.now a.levels.now a.marks.now a.numbers.now) _ (unknown_voice a.curve a.source) k.0
    (curve_of a.curve) _ (ap (λ (v : Fade × Source). v.0) k.1) (source_in a.source a.a a.b a.offset a.length) _ (ap (λ (v : Fade × Source). v.1) k.1)
    a.start_time a.end_time a.fade_in a.fade_out a.gain _ _ (e.engine, (e.answer, (e.rise, e.refused))) _ a.told.now _ (t.code, t.told) in
    record { engine = r.0; answer = r.1.0; told = r.1.1.0; refused = r.1.1.1 }
