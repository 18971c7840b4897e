use Rattle.std.proofs.Common.{◌≡◌, ap, inl, inr}
use borrow.Author.Tests.{ne_eqb}
use Rattle.listing.specs.Ascii.{ascii}
use Rattle.tape_words.specs.Words.{push_text}
use Rattle.tape_words.specs.Joining.{under}
use borrow.Author.Rules.{rules}
use Rattle.tape_words.proofs.put_push.Goals as goal

pub returns-in-1 : goal.returns-in-1
unfolding push_text
returns-in-1 c =
    elim c.in-1.is [ inl e ↦ under _ (ap push_text e) c.put_bytes.ensures | inr e ↦ under _ (ap push_text e) c.put_bytes.ensures ]

pub returns-in-2 : goal.returns-in-2
unfolding push_text
returns-in-2 c =
    elim c.in-2.is [ inl e ↦ under _ (ap push_text e) c.put_bytes-in-2.ensures | inr e ↦ under _ (ap push_text e) c.put_bytes-in-2.ensures ]

pub returns-in-3 : goal.returns-in-3
unfolding push_text
returns-in-3 c =
    elim c.in-3.is [ inl e ↦ under _ (ap push_text e) c.put_bytes-in-3.ensures | inr e ↦ under _ (ap push_text e) c.put_bytes-in-3.ensures ]

pub returns-in_default : goal.returns-in_default
unfolding push_text
returns-in_default c =
    let r = c.in_default.in_default-own.rest in
    let e : push_text c.args.kind ≡ ascii "rate" =
    simp (ne_eqb _ _ (λ e. r.1 (inl e)), ne_eqb _ _ (λ e. r.1 (inr e)), ne_eqb _ _ (λ e. r.0.1 (inl e)), ne_eqb _ _ (λ e. r.0.1 (inr e)), ne_eqb _ _ (λ e. r.0.0.1 (inl e)), ne_eqb _ _ (λ e. r.0.0.1 (inr e))) in
    under _ e c.put_bytes-in_default.ensures
