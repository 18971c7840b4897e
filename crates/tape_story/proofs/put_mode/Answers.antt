use mathlib.Core.Path.{ap}
use Rattle.tape_words.specs.Joining.{under}
use Rattle.tape_story.specs.Lines.{mode_text}
use borrow.Author.Rules.{rules}
use Rattle.tape_story.proofs.put_mode.Goals as goal

pub returns-in-All : goal.returns-in-All
unfolding mode_text
returns-in-All c =
    under _ (ap mode_text c.in-All.is) c.put_bytes.ensures

pub returns-in-None : goal.returns-in-None
unfolding mode_text
returns-in-None c =
    under _ (ap mode_text c.in-None.is) c.put_bytes-in-None.ensures
