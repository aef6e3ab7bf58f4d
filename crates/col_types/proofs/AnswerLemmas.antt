-- What follows of facts that hold but for want of memory.
use Rattle.col_types.specs.Answer.{UnlessMemory}
use Rattle.col_types.specs.declared.error.Error.{Error}
use Rattle.col_types.specs.declared.error.Error.TheVariants.{Memory}

-- a fact that follows holds too, but for want of memory
pub UnlessMemory-weaker : {P Q : Type 0} (e : Error) → (P → Q) → UnlessMemory e P
    → UnlessMemory e Q
UnlessMemory-weaker Memory f h = h
UnlessMemory-weaker _ f h = f h

-- a fact that follows from two holds too, but for want of memory
pub UnlessMemory-both : {P Q R : Type 0} (e : Error) → (P → Q → R) → UnlessMemory e P
    → UnlessMemory e Q → UnlessMemory e R
UnlessMemory-both Memory f p q = p
UnlessMemory-both _ f p q = f p q
