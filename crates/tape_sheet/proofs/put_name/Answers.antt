use Rattle.tape_sheet.specs.Elements.{name_text}
use borrow.Author.Rules.{rules}
use Rattle.tape_sheet.proofs.put_name.Goals as goal

pub returns : goal.returns
unfolding name_text
returns c =
    c.put_by_place.ensures
