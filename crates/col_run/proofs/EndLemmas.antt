-- How a run ends whose input is told, where no fault comes.
use Rattle.std.proofs.Common.{◌≡◌, ℕ, ◌+◌, ◌≤◌, Bool, true, false, List, [], length, Option, Some}
use Rattle.std.proofs.Common.{None, cond, refl, sym, subst, inl, inr, ◌⊎◌, ◌↔◌, arith}
use Rattle.std.proofs.Common.{length-append}
use Rattle.std.specs.Prelude.{nat_lt, IfSome}
use Rattle.std.proofs.lemmas.Bool.Decides.{nat_tests}
use Rattle.col_run.specs.Command.{reads_source}
use Rattle.col_run.specs.Laws.{EndsByInput, input_of, status_of}
use Rattle.col_run.specs.Run.{HasInput, ReadsWhere, TakesPart, TakesWithin, WritesPage}
use Rattle.col_run.specs.Run.{max_bytes}
use Rattle.col_run.specs.Streams.{TakesFront}
use Rattle.col_run.specs.declared.words.Command.{Command}
use Rattle.col_run.specs.declared.status.Status.{Status}
use Rattle.col_run.specs.declared.status.Status.TheVariants.{Done, Refused, Malformed, ReadFault}
use Rattle.col_run.specs.declared.status.Status.TheVariants.{WriteFault, Memory, TooLong, Words}

-- a fact of what is there
if_there : {X : Type 0} (o : Option X) (P : X → Type 0) → ((x : X) → o ≡ Some x → P x) → IfSome o P
if_there None P h = tt
if_there (Some x) P h = h x refl

-- what was taken is the input that was told, and it lies within the limit
told_input : {S : Type 0} (reads : Bool) (left : S → Option (List ℕ)) (before after : S)
    (bytes : List ℕ) (fact : List ℕ → Type 0) → cond reads (left before) (Some []) ≡ Some bytes
    → ReadsWhere reads left before after fact → (length bytes ≤ max_bytes) × fact bytes
told_input true left before after bytes fact e read =
    let taken = rw e at read.taken in
    let same : bytes ≡ read.bytes = taken.0 in
    (rw same read.short, subst fact (sym same) read.holds)
told_input false left before after bytes fact e kept =
    let same : [] ≡ bytes = cc in
    (rw (← same) (omega arith), subst fact same kept.1)

-- a longer front than the limit makes the input too long
longer : (bytes front : List ℕ) (rest : Option (List ℕ)) → TakesFront (Some bytes) front rest
    → length front ≡ max_bytes + 1 → nat_lt max_bytes (length bytes) ≡ true
longer bytes front None taken e = absurd taken
longer bytes front (Some rest) taken e =
    let whole : length bytes ≡ length front + length rest =
    rw taken (length-append front rest) in
    grind (arith, nat_tests)

too_long : {S : Type 0} (reads : Bool) (left : S → Option (List ℕ)) (before after : S)
    (bytes : List ℕ) → cond reads (left before) (Some []) ≡ Some bytes
    → TakesPart reads TooLong left before after → nat_lt max_bytes (length bytes) ≡ true
too_long true left before after bytes e part =
    longer bytes part.0 (left after) (rw e at part.1) part.2
too_long false left before after bytes e part = absurd part

-- an input within the limit is not too long
short : (bytes : List ℕ) → length bytes ≤ max_bytes → nat_lt max_bytes (length bytes) ≡ false
short bytes h = grind (arith, nat_tests)

-- how a run of a command ends
ends_by : {S K : Type 0} (c : Command) (status : Status) (left : S → Option (List ℕ))
    (before after : S) (written : K → Option (List ℕ)) (old new : K) (reading writing : Type 0)
    (bytes : List ℕ) → input_of (Some c) (left before) ≡ Some bytes
    → WritesPage (Some c) status left before after written old new
    → (status ≡ Words → ⊥)
    → (status ≡ Malformed → HasInput (Some c) left before after (λ made. made ≡ None))
    → TakesWithin (Some c) status left before after
    → (status ≡ ReadFault → reading) → (status ≡ WriteFault → writing)
    → ¬ reading → ¬ writing → (status ≡ status_of (Some c) bytes) ⊎ (status ≡ Memory)
ends_by c Done left before after written old new reading writing bytes e page w m t r f no_r no_f =
    let told = told_input (reads_source c) left before after bytes _ e page in
    inl (rw (short bytes told.0, told.1.is_made, told.1.error) refl)
ends_by c Refused left before after written old new reading writing bytes e page w m t r f no_r
    no_f =
    let told = told_input (reads_source c) left before after bytes _ e page in
    inl (rw (short bytes told.0, told.1.is_made, told.1.error) refl)
ends_by c Malformed left before after written old new reading writing bytes e page w m t r f no_r
    no_f =
    let told = told_input (reads_source c) left before after bytes _ e (m refl) in
    inl (rw (short bytes told.0, told.1) refl)
ends_by c ReadFault left before after written old new reading writing bytes e page w m t r f no_r
    no_f = absurd (no_r (r refl))
ends_by c WriteFault left before after written old new reading writing bytes e page w m t r f no_r
    no_f = absurd (no_f (f refl))
ends_by c Memory left before after written old new reading writing bytes e page w m t r f no_r
    no_f = inr refl
ends_by c TooLong left before after written old new reading writing bytes e page w m t r f no_r
    no_f = inl (rw (too_long (reads_source c) left before after bytes e t) refl)
ends_by c Words left before after written old new reading writing bytes e page w m t r f no_r
    no_f = absurd (w refl)

-- how any run ends
pub ends-by_input : {S K : Type 0} (command : Option Command) (status : Status)
    (left : S → Option (List ℕ)) (before after : S) (written : K → Option (List ℕ)) (old new : K)
    (reading writing : Type 0)
    → WritesPage command status left before after written old new
    → (status ≡ Words) ↔ (command ≡ None)
    → (status ≡ Malformed → HasInput command left before after (λ made. made ≡ None))
    → TakesWithin command status left before after
    → (status ≡ ReadFault → reading) → (status ≡ WriteFault → writing)
    → EndsByInput command (left before) reading writing status
ends-by_input None status left before after written old new reading writing page w m t r f =
    λ no_r no_f. inl (w.1 refl)
ends-by_input (Some c) status left before after written old new reading writing page w m t r f =
    if_there (input_of (Some c) (left before)) _ (λ bytes e no_r no_f.
    ends_by c status left before after written old new reading writing bytes e page
    (λ is. let none : Some c ≡ None = w.0 is in cc) m t r f no_r no_f)
