-- What a case that computes must unfold: of each file of the ledger's definitions, and of all of them. Nothing here is to be believed: without a name of these lists a case does not compute.
use Rattle.std.specs.Float.Ieee.{add, sub, mul, div, lt, le, eq, neg, is_nan, round, of_bits}
use Rattle.floats.specs.Arithmetic.{whole}
use Rattle.floats.specs.Floats.{narrowed, index, negative, total_less, sooner, clamp_of}
use Rattle.math.specs.Curves.{delerped}
use Rattle.event.specs.Fades.{curve}
use Rattle.event.specs.Sources.{made, steps}
use Rattle.ledger.specs.Lists.{insert, insert_all, edit_of, drop_edit, store_edit, start, sweep}
use Rattle.ledger.specs.TickSamples.{faded_in, faded_out, tick_sum}
use Rattle.ledger.specs.BlockSamples.{faded_all, faded, fade_in_place, fade_out_place, phase_at, phase_step, run_faded_in, run_faded_out, first_place, end_place, add_at, channel_after, scratch_after, after_block, block_sum, overlay}
use Rattle.ledger.specs.Places.{rounded, first_placing, end_placing, fade_in_placing, fade_out_placing, fade_in_placings, fade_out_placings, event_placings, placings}
use Rattle.ledger.specs.Ledger.{fresh, create}
use Rattle.ledger.specs.Refusals.{first_of, within, within_end, stated_end, edit_end, tick_end, block_end, push_checks, edit_checks, checks, refusal}
use Rattle.ledger.specs.Steps.{pushed_time, enter, change, advance, set_rate, restart, accept, decide, step, run}

unfoldable pub computes-lists : Unit {0}
unfolding lt le eq is_nan negative total_less sooner insert insert_all edit_of drop_edit store_edit start sweep
computes-lists = tt

unfoldable pub computes-ticks : Unit {0}
unfolding add sub mul lt round of_bits delerped narrowed curve faded_in faded_out tick_sum
computes-ticks = tt

unfoldable pub computes-blocks : Unit {0}
unfolding add sub mul div lt le round of_bits whole delerped narrowed index curve made steps faded_all faded fade_in_place fade_out_place phase_at phase_step run_faded_in run_faded_out first_place end_place add_at channel_after scratch_after after_block block_sum overlay
computes-blocks = tt

unfoldable pub computes-places : Unit {0}
unfolding add sub mul div lt le index clamp_of rounded first_place end_place fade_out_place first_placing end_placing fade_in_placing fade_out_placing fade_in_placings fade_out_placings event_placings placings
computes-places = tt

unfoldable pub computes_ledgers : Unit {0}
unfolding div whole fresh create
computes_ledgers = tt

unfoldable pub computes-refusals : Unit {0}
unfolding add sub mul lt le neg whole edit_of first_of within within_end stated_end edit_end tick_end block_end push_checks edit_checks checks refusal
computes-refusals = tt

unfoldable pub computes : Unit {0}
unfolding computes-lists computes-ticks computes-blocks computes-places computes_ledgers computes-refusals pushed_time enter change advance set_rate restart accept decide step run
computes = tt
