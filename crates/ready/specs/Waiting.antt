-- What the calls of the waiting heap give, for every heap. A count above 256 is corrupt, and nothing changes.
use Rattle.std.specs.Prelude.{◌&&◌, cond, ℕ, ◌+◌, ◌-◌, ltb, leb, get_or, replicate}
use Rattle.floats.specs.Arithmetic.{zeroᶠ}
use Rattle.event.specs.declared.Event.{Event}
use Rattle.event.specs.declared.Fade.TheVariants.{Power}
use Rattle.event.specs.declared.Source.TheVariants.{Held}
use Rattle.event.specs.Events.{earlier}
use Rattle.event.specs.Blank.{blank}
use Rattle.ready.specs.declared.Ready.{Ready}
use Rattle.ready.specs.Sift.{rise, sink}
use Rattle.ready.specs.Levels.{levels}

-- what fills the places of a new heap
abbrev pub unused : Event
unused = record {
  start_time = zeroᶠ;
  end_time = zeroᶠ;
  fade_in = zeroᶠ;
  fade_out = zeroᶠ;
  fade_ease = Power;
  unit = record { source = Held zeroᶠ; value = zeroᶠ; place = 0 };
  gain = zeroᶠ;
  id = record { 0 = 0 };
}

unfoldable pub emptied : Ready
emptied = record { items = replicate 256 unused; len = 0 }

abbrev pub peeked : Ready → Event
peeked h = get_or h.items 0 blank

-- e rises from the first free place
unfoldable pub pushed : Ready → Event → Ready
pushed h e = cond (ltb h.len 256) (record { items = rise earlier blank h.len h.items h.len e; len = h.len + 1 }) h

-- how many levels it rises
abbrev pub risen_by : Ready → Event → ℕ
risen_by h e = cond (ltb h.len 256) (levels earlier blank h.len h.items h.len e) 0

-- the first place is filled from below, and the last rises from where that ends
unfoldable pub popped : Ready → Ready
popped h =
    let n = h.len - 1 in
    cond (ltb 0 h.len && leb h.len 256) (record { items = sink earlier blank n h.items n 0 (get_or h.items n blank); len = n }) h
