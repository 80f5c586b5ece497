-- The status and the texts of each answer.
use Rattle.std.specs.Prelude.{ℕ, List, [], ◌++◌, codes, decimal}
use Rattle.ace_grammar.specs.Reasons.{number_of_reason}
use Rattle.ace_bin.specs.Reading as binary
use Rattle.ace_script.specs.Fields as script
use Rattle.ace_top.specs.declared.answer.Answer.{Answer}
use Rattle.ace_top.specs.declared.answer.Answer.TheVariants.{Accepted, Refused, Shown, Reported, Generated, Ran, Tried, Usage, Malformed, MalformedScript, MalformedRecord, ReadFault, LimitEvents, LimitLines, LimitOperations, NoMemory}

abbrev pub status_of : Answer → ℕ
status_of (Accepted events) = 0
status_of (Refused index rule) = 1
status_of Shown = 0
status_of Reported = 0
status_of Generated = 0
status_of Ran = 0
status_of (Tried number events) = 0
status_of Usage = 2
status_of (Malformed line reason) = 3
status_of (MalformedScript line reason) = 3
status_of (MalformedRecord byte reason) = 3
status_of ReadFault = 4
status_of LimitEvents = 6
status_of LimitLines = 6
status_of LimitOperations = 6
status_of NoMemory = 7

-- what is written to the standard output, beside the text of a trace that is shown or that a run
-- gave, beside an account of a trace, and beside a script
abbrev pub out_text_of : Answer → List ℕ
out_text_of (Accepted events) = codes "accepted " ++ decimal events ++ codes "\n"
out_text_of (Refused index rule) =
    codes "refused event " ++ decimal index ++ codes ": K" ++ decimal rule ++ codes "\n"
out_text_of (Tried number events) =
    codes "trial " ++ decimal number ++ codes ": 512 operations, "
    ++ decimal events ++ codes " events, accepted\n"
out_text_of answer = []

-- what is written to the standard error
abbrev pub notes_text_of : Answer → List ℕ
notes_text_of Usage =
    codes "usage: ace check|run [filter]|show|migrate|pack|unpack|report|order|gen N|trial N\n"
notes_text_of (Malformed line reason) =
    codes "malformed line " ++ decimal line ++ codes ": F"
    ++ decimal (number_of_reason reason) ++ codes "\n"
notes_text_of (MalformedScript line reason) =
    codes "malformed line " ++ decimal line ++ codes ": P"
    ++ decimal (script.number_of_reason reason) ++ codes "\n"
notes_text_of (MalformedRecord byte reason) =
    codes "malformed byte " ++ decimal byte ++ codes ": Z"
    ++ decimal (binary.number_of_reason reason) ++ codes "\n"
notes_text_of ReadFault = codes "read fault\n"
notes_text_of LimitEvents = codes "limit events\n"
notes_text_of LimitLines = codes "limit lines\n"
notes_text_of LimitOperations = codes "limit operations\n"
notes_text_of NoMemory = codes "out of memory\n"
notes_text_of answer = []
