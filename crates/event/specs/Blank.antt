-- What the logic reads past the end of an array of events.
use Rattle.std.specs.Float.{nan}
use Rattle.event.specs.declared.Event.{Event}
use Rattle.event.specs.declared.Source.TheVariants.{Held}
use Rattle.event.specs.declared.Fade.TheVariants.{Power}

abbrev pub blank : Event
blank = record {
  start_time = nan;
  end_time = nan;
  fade_in = nan;
  fade_out = nan;
  fade_ease = Power;
  unit = record { source = Held nan; value = nan; place = 0 };
  gain = nan;
  id = record { 0 = 0 };
}
