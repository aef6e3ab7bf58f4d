-- What each status of a run tells: of the bytes that were taken, and of those that were written.
use Rattle.std.specs.Prelude.{◌≡◌, ℕ, ◌+◌, ◌≤◌, Bool, true, false, List, [], length}
use Rattle.std.specs.Prelude.{Option, Some, None, ⊤}
use Rattle.col_run.specs.Streams.{AddsBytes, AddsFront, TakesAll, TakesAtMost}
use Rattle.col_run.specs.Streams.{TakesCount}
use Rattle.col_run.specs.Command.{page_of_command, reads_source}
use Rattle.col_page.specs.PageView.{PageView}
use Rattle.col_run.specs.declared.words.Command.{Command}
use Rattle.col_run.specs.declared.status.Status.{Status}
use Rattle.col_run.specs.declared.status.Status.TheVariants.{Done, Refused, Malformed, ReadFault}
use Rattle.col_run.specs.declared.status.Status.TheVariants.{WriteFault, Memory, TooLong}

-- the most bytes that a document has: 64 mebibytes
abbrev pub max_bytes : ℕ
max_bytes = 67108864

-- bytes within the limit were all that was left, and the fact holds of them
pub record ReadsAll (left rest : Option (List ℕ)) (fact : List ℕ → Type 0) : Type 0 where
  pub bytes : List ℕ
  pub short : length bytes ≤ max_bytes
  pub taken : TakesAll left bytes rest
  pub holds : fact bytes

-- the fact holds of all that a source had left or, where it was not to be read and is as it was,
-- of no bytes
abbrev pub ReadsWhere : {S : Type 0} → Bool → (S → Option (List ℕ)) → S → S
    → (List ℕ → Type 0) → Type 0
ReadsWhere true left old new fact = ReadsAll (left old) (left new) fact
ReadsWhere false left old new fact = (new ≡ old) × fact []

-- a command took its input, and the fact holds of the page of it, or of its having none
abbrev pub HasInput : {S : Type 0} → Option Command → (S → Option (List ℕ)) → S → S
    → (Option PageView → Type 0) → Type 0
HasInput None left old new fact = ⊥
HasInput (Some c) left old new fact =
    ReadsWhere (reads_source c) left old new (λ bytes. fact (page_of_command c bytes))

-- there is a page; it, and nothing else, was written, and the flag tells whether some line of it
-- is an error line
pub record IsDelivered (old new : Option (List ℕ)) (has_error : Bool)
    (made : Option PageView) : Type 0 where
  pub page : PageView
  pub is_made : made ≡ Some page
  pub written : AddsBytes old page.text new
  pub error : page.has_error ≡ has_error

-- there is a page; some front of it, and nothing else, was written
pub record IsBroken (old new : Option (List ℕ)) (made : Option PageView) : Type 0 where
  pub page : PageView
  pub is_made : made ≡ Some page
  pub written : AddsFront old page.text new

-- what a run wrote, by its source and its sink before and after it: the page of the input, a front
-- of it where writing failed, and else nothing, so that the sink is as it was
abbrev pub WritesPage : {S K : Type 0} → Option Command → Status → (S → Option (List ℕ)) → S → S
    → (K → Option (List ℕ)) → K → K → Type 0
WritesPage command Done left before after written old new =
    HasInput command left before after (IsDelivered (written old) (written new) false)
WritesPage command Refused left before after written old new =
    HasInput command left before after (IsDelivered (written old) (written new) true)
WritesPage command WriteFault left before after written old new =
    HasInput command left before after (IsBroken (written old) (written new))
WritesPage command _ left before after written old new = new ≡ old

-- how many bytes were taken where the input was not taken whole: one past the limit where it is
-- too long, at most as many as the limit where reading failed; want of memory may come in front
-- of either, and a source that was not to be read is as it was
abbrev pub TakesPart : {S : Type 0} → Bool → Status → (S → Option (List ℕ)) → S → S → Type 0
TakesPart true TooLong left old new = TakesCount (left old) (max_bytes + 1) (left new)
TakesPart true ReadFault left old new = TakesAtMost (left old) max_bytes (left new)
TakesPart true Memory left old new = TakesAtMost (left old) (max_bytes + 1) (left new)
TakesPart true _ left old new = ⊤
TakesPart false TooLong left old new = ⊥
TakesPart false ReadFault left old new = ⊥
TakesPart false _ left old new = new ≡ old

-- the same of a command; where there is none, the source is as it was
abbrev pub TakesWithin : {S : Type 0} → Option Command → Status → (S → Option (List ℕ)) → S → S
    → Type 0
TakesWithin None status left old new = new ≡ old
TakesWithin (Some c) status left old new = TakesPart (reads_source c) status left old new

-- why a command has no page, and that the source failed where it is a read fault
abbrev pub IsStopped : {S : Type 0} → Option Command → (S → Option (List ℕ)) → S → S → Type 0
    → Status → Type 0
IsStopped command left old new failed Malformed =
    HasInput command left old new (λ made. made ≡ None)
IsStopped command left old new failed ReadFault =
    TakesWithin command ReadFault left old new × failed
IsStopped command left old new failed Memory = TakesWithin command Memory left old new
IsStopped command left old new failed TooLong = TakesWithin command TooLong left old new
IsStopped command left old new failed _ = ⊥
