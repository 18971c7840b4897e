use Rattle.std.proofs.Common.{refl, ap, arith, [], ℕ, List, Float, None, Some}
use Rattle.std.specs.Prelude.{Option}
use Rattle.pool_file.specs.Loading.{Loads, counted_if}
use Rattle.tape_pages.specs.Opening.{Opens}
use Rattle.tape_pages.proofs.open.Goals as goal

pub returns-in_default-clause-lent : goal.returns-in_default-clause-lent
returns-in_default-clause-lent g c = record { file = None; name = 0; samples = []; most = omega arith; lent = refl; is = refl }

-- with its file, the pool's samples are counted
opened : {F : Type 0} (file : F) (name : ℕ) {l l' : List Float} {n : ℕ} → Loads l l' (Some n) → Opens l l' (Some (record { file = file; name = name; count = n }))
opened file name a = record { file = Some file; name = name; samples = a.samples; most = a.most; lent = a.lent; is = ap (λ (k : ℕ). Some (record { file = file; name = name; count = k })) (counted_if a) }

pub returns-in-Ok-clause-lent : goal.returns-in-Ok-clause-lent
returns-in-Ok-clause-lent g c = opened _ _ c.in_ok-count.ensures.lent
