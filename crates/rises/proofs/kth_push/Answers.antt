-- `rises::kth_push` meets its contract. Assumes nothing.
use Rattle.std.proofs.Common.{◌≡◌, ℕ, ◌-◌, pos, sym, ◌∙◌, ap₂}
use lib.Ieee.{Float, binary64, of_int, of_bits}
use Rattle.event.specs.declared.Fade.TheVariants.{Smooth}
use Rattle.event.specs.declared.Source.TheVariants.{Held}
use Rattle.floats.specs.Arithmetic.{zeroᶠ, oneᶠ}
use Rattle.floats.specs.WholeIs.{whole_is}
use Rattle.tape.specs.declared.reader.PushRecord.{PushRecord}
use Rattle.rises.specs.Arrangement.{kth_push}
use Rattle.rises.proofs.kth_push.Goals as goal

abbrev given : (start end : Float) → PushRecord
given x y = record { start_time = x; end_time = y; fade_in = zeroᶠ; fade_out = zeroᶠ; fade_ease = Smooth; source = Held oneᶠ; gain = oneᶠ }

is-kth : (n k : ℕ) (x y : Float) → x ≡ of_int binary64 (pos (n - k)) → y ≡ of_int binary64 (pos n) → given x y ≡ kth_push n k
unfolding kth_push
is-kth n k x y p q = ap₂ given (p ∙ sym (whole_is (n - k))) (q ∙ sym (whole_is n))

pub returns : goal.returns
unfolding of_bits
returns c = is-kth _ _ _ _ c.nearest_u64_to_f64.ensures c.nearest_u64_to_f64-2.ensures
