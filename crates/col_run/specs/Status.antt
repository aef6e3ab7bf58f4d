-- How a run ends: the numbers and the texts.
use Rattle.std.specs.Prelude.{ℕ, List, [], codes}
use Rattle.col_run.specs.declared.status.Status.{Status}
use Rattle.col_run.specs.declared.status.Status.TheVariants.{Done, Refused, Malformed, ReadFault}
use Rattle.col_run.specs.declared.status.Status.TheVariants.{WriteFault, Memory, TooLong, Words}

-- the status of the process
abbrev pub status_number : Status → ℕ
status_number Done = 0
status_number Refused = 1
status_number Malformed = 2
status_number ReadFault = 3
status_number WriteFault = 4
status_number Memory = 5
status_number TooLong = 6
status_number Words = 64

-- the line that says why, without its end
abbrev pub text_of_status : Status → List ℕ
text_of_status Done = []
text_of_status Refused = []
text_of_status Malformed = codes "malformed document"
text_of_status ReadFault = codes "read fault"
text_of_status WriteFault = codes "write fault"
text_of_status Memory = codes "out of memory"
text_of_status TooLong = codes "document too long"
text_of_status Words = codes "usage: col_tool eval, sum or make N"
