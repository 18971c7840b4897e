-- `live_apply::sounding` meets its contract: by two cases on the refusal.
use Rattle.std.proofs.Common.{◌≡◌, sym, ap, ◌∙◌, ne_eqb}
use Rattle.record_output.specs.declared.Left.{Left}
use Rattle.apply.specs.Applying.{refusal_of}
use Rattle.live_apply.proofs.sounding.Goals as goal

pub returns-then-left-ne0 : goal.returns-then-left-ne0
returns-then-left-ne0 c =
    let e : c.silent-left.result.refusal ≡ refusal_of c.args.answer = ap (λ (l : Left). l.refusal) c.silent-left.ensures in
    c.silent-left.ensures ∙ rw (← e, ne_eqb _ 0 c.if-left-ne0.true)

pub returns : goal.returns
returns c =
    let none : refusal_of c.args.answer ≡ 0 = sym (ap (λ (l : Left). l.refusal) c.silent-left.ensures) ∙ c.if-left-ne0.false in
    ap (λ (l : Left). record { any = l.any; kind = l.kind; refusal = l.refusal; channels = c.args.channels; each = c.args.each }) c.silent-left.ensures ∙ rw none
