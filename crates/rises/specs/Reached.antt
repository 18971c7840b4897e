-- Document 02, Paper 13: on every engine that a list of calls reaches from a creation, what a push says is how many levels its event rose: its heap is a heap. A refused push says 0. Assumes nothing.
use Rattle.std.specs.Prelude.{◌≡◌, true, false}
use Rattle.sequencer.specs.declared.Sequencer.{Sequencer}
use Rattle.rises.specs.Totals.{Push, pushed_by, is_number, levels_risen}
use Rattle.rises.specs.Single.{event_of}

-- what a push says on s is the paper's number, or, where it is refused, 0
abbrev pub Says : Sequencer → Push → Type 0
Says s p = let o = pushed_by s p in (is_number o.answer ≡ true → o.rise ≡ levels_risen s (event_of s p)) × (is_number o.answer ≡ false → o.rise ≡ 0)
