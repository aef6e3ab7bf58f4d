-- When a call refuses, but for want of memory.
use Rattle.std.proofs.Common.{◌↔◌, Result, Ok, Err, IsOk}
use Rattle.col_types.specs.Answer.{ButForMemory}
use Rattle.col_types.specs.declared.error.Error.{Error}
use Rattle.col_types.specs.declared.error.Error.TheVariants.{Memory}

-- of two conditions of a call the one that holds is left out
pub ButForMemory-held : {X : Type 0} (r : Result X Error) (fact held : Type 0) → held
    → ButForMemory r (IsOk r ↔ (fact × held)) → ButForMemory r (IsOk r ↔ fact)
ButForMemory-held (Ok x) fact held h range = (λ ok. (range.0 ok).0, λ f. range.1 (f, h))
ButForMemory-held (Err Memory) fact held h range = tt
ButForMemory-held (Err _) fact held h range = (λ ok. (range.0 ok).0, λ f. range.1 (f, h))
