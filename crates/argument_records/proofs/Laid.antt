-- The arguments' fields put down one behind the other are their bytes. Assumes nothing.
use mathlib.Core.Path.{◌≡◌, refl}
use mathlib.Core.List.{List}
use Prim.Native.Nat.{ℕ}
use lib.ListN.{length, replicate}
use lib.Seq.{sets}
use Rattle.tape_writer.specs.declared.Arguments.{Arguments}
use Rattle.little_endian.specs.LowBytes.{little_endian}
use Rattle.little_endian.specs.Fields.{joined}
use Rattle.little_endian.specs.Fields.{fields_in}
use Rattle.argument_records.specs.Records.{record_parts, record_bytes, record_widths, record_numbers}

laid : (a : Arguments) → sets (replicate 120 0) 0 (fields_in 120 record_widths (record_numbers a)) ≡ record_bytes a
unfolding fields_in record_widths record_numbers record_bytes record_parts joined little_endian
laid a = refl

pub record_laid : (a : Arguments) (o ws ns : List ℕ) → o ≡ replicate 120 0 → ws ≡ record_widths → ns ≡ record_numbers a → sets o 0 (fields_in (length o) ws ns) ≡ record_bytes a
record_laid a o ws ns p q s = rw (p, q, s) (laid a)
