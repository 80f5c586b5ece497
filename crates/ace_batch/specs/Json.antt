-- The results of many traces as JSON, an object a line.
use Rattle.std.specs.Prelude.{ℕ, ◌++◌, ◌==◌, if◌then◌else◌, List, [], Option, Some, None, codes, decimal, flat_map, length, string_bytes}
use Rattle.ace_batch.specs.Escapes.{json_text}
use Rattle.ace_batch.specs.Outcomes.{verdict_of}
use Rattle.ace_batch.specs.declared.entry.Entry.{Entry}

-- a number, if there is one
abbrev pub number_json : Option ℕ → List ℕ
number_json None = codes "null"
number_json (Some number) = decimal number

-- a member whose value is a text, behind its name
unfoldable pub member_json : List ℕ → List ℕ → List ℕ
member_json name text = name ++ (json_text text ++ codes "\"")

-- which trace it is, and how its check came out
unfoldable pub which_json : Entry → List ℕ
which_json e =
    member_json (codes "{\"file\":\"") (string_bytes e.path)
    ++ member_json (codes ",\"verdict\":\"") (verdict_of e.outcome)

unfoldable pub outstanding_name : List ℕ
outstanding_name = codes ",\"outstanding\":"

-- how many events were judged, and how many transactions are outstanding behind them
unfoldable pub events_json : Entry → List ℕ
events_json e =
    codes ",\"events\":" ++ (decimal e.events ++ (outstanding_name ++ number_json e.outstanding))

-- the same, and the line that is refused or malformed
unfoldable pub numbers_json : Entry → List ℕ
numbers_json e = events_json e ++ (codes ",\"line\":" ++ number_json e.line)

-- what is wrong with it
unfoldable pub signature_name : List ℕ
signature_name = codes ",\"signature\":\""

unfoldable pub message_name : List ℕ
message_name = codes ",\"message\":\""

unfoldable pub why_json : Entry → List ℕ
why_json e =
    member_json signature_name e.signature.items ++ member_json message_name e.message.items

unfoldable pub words_json : Entry → List ℕ
words_json e = why_json e ++ member_json (codes ",\"text\":\"") e.text.items

-- the line of a trace
unfoldable pub entry_json : Entry → List ℕ
entry_json e = which_json e ++ (numbers_json e ++ (words_json e ++ codes "}\n"))

-- the first line: which part of the list it is, and how many traces follow
unfoldable pub part_json : ℕ → ℕ → List ℕ
part_json part parts =
    codes "{\"format\":\"ace batch 1\",\"shard\":\""
    ++ (decimal part ++ (codes "/" ++ decimal parts))

unfoldable pub traces_name : List ℕ
traces_name = codes "\",\"traces\":"

unfoldable pub count_json : ℕ → List ℕ
count_json count = traces_name ++ (decimal count ++ codes "}\n")

unfoldable pub head_json : ℕ → ℕ → ℕ → List ℕ
head_json part parts count = part_json part parts ++ count_json count

-- how many traces of the part were not looked at, where there are any
unfoldable pub left_json : ℕ → List ℕ
left_json left =
    if left == 0 then [] else codes "{\"left\":" ++ (decimal left ++ codes "}\n")

-- the last one: that these were all that were
unfoldable pub end_json : ℕ → List ℕ
end_json count = codes "{\"end\":" ++ (decimal count ++ codes "}\n")

unfoldable pub tail_json : ℕ → ℕ → List ℕ
tail_json left count = left_json left ++ end_json count

-- the whole text, of the traces that were looked at and of so many that were not
unfoldable pub results_json : ℕ → ℕ → ℕ → List Entry → List ℕ
results_json part parts left entries =
    head_json part parts (length entries)
    ++ (flat_map entry_json entries ++ tail_json left (length entries))
