-- The results of many traces as JUnit XML: one suite, with a case for each trace.
use Rattle.std.specs.Prelude.{ℕ, ◌+◌, ◌==◌, ◌++◌, Bool, true, false, if◌then◌else◌, List, [], Option, Some, None, codes, decimal, flat_map, length, map, string_bytes}
use Rattle.std.specs.List.{after_last, before_last}
use Rattle.ace_batch.specs.Counts.{count_of}
use Rattle.ace_batch.specs.Escapes.{xml_text}
use Rattle.ace_batch.specs.Outcomes.{is_accepted, is_failure}
use Rattle.ace_batch.specs.declared.entry.Entry.{Entry}

-- a text as the value of an attribute
abbrev pub attribute : List ℕ → List ℕ
attribute text = xml_text false text

abbrev pub is_slash : ℕ → Bool
is_slash byte = byte == 47

-- the folder of a path, with dots for slashes; where it has none `traces`
abbrev pub dotted : ℕ → ℕ
dotted byte = if is_slash byte then 46 else byte

abbrev pub some_class : List ℕ → List ℕ
some_class [] = codes "traces"
some_class folder = map dotted folder

abbrev pub class_of : List ℕ → List ℕ
class_of path = some_class (before_last is_slash path)

-- the line that is refused or malformed, if there is one
abbrev pub line_attribute : Option ℕ → List ℕ
line_attribute None = []
line_attribute (Some line) = codes " line=\"" ++ (decimal line ++ codes "\"")

-- the names of the class and of the case
unfoldable pub names_text : List ℕ → List ℕ
names_text path =
    attribute (class_of path)
    ++ (codes "\" name=\"" ++ attribute (after_last is_slash path))

-- what a case begins with
unfoldable pub file_text : Entry → List ℕ
file_text e =
    codes "\" file=\"" ++ (attribute (string_bytes e.path) ++ (codes "\"" ++ line_attribute e.line))

unfoldable pub case_head : Entry → List ℕ
case_head e =
    codes "<testcase classname=\"" ++ (names_text (string_bytes e.path) ++ file_text e)

-- a trace that fails the check is a failure, and one that hindered it an error
abbrev pub tag_of : Entry → List ℕ
tag_of e = if is_failure e.outcome then codes "failure" else codes "error"

-- what is wrong with the trace: its signature, what is wrong in words, and all that is told of it
unfoldable pub type_text : Entry → List ℕ
type_text e =
    codes "<" ++ (tag_of e ++ (codes " type=\"" ++ attribute e.signature.items))

unfoldable pub message_text : Entry → List ℕ
message_text e = codes "\" message=\"" ++ (attribute e.message.items ++ codes "\">")

unfoldable pub end_text : Entry → List ℕ
end_text e = codes "</" ++ (tag_of e ++ codes "></testcase>\n")

unfoldable pub fault_text : Entry → List ℕ
fault_text e =
    type_text e ++ (message_text e ++ (xml_text true e.text.items ++ end_text e))

-- the case of a trace
unfoldable pub rest_text : Entry → List ℕ
rest_text e = if is_accepted e.outcome then codes "/>\n" else codes ">" ++ fault_text e

unfoldable pub case_text : Entry → List ℕ
case_text e = case_head e ++ rest_text e

-- how many are failures, and how many errors
abbrev pub failures_of : List Entry → ℕ
failures_of entries = count_of 1 entries + (count_of 3 entries + count_of 8 entries)

abbrev pub errors_of : List Entry → ℕ
errors_of entries = count_of 6 entries + (count_of 4 entries + count_of 7 entries)

-- what the text begins with
unfoldable pub start_text : List ℕ
start_text =
    codes "<?xml version=\"1.0\" encoding=\"UTF-8\"?>\n<testsuites><testsuite name=\"acetool\" tests=\""

unfoldable pub tests_text : ℕ → List ℕ
tests_text count = start_text ++ decimal count

unfoldable pub failures_name : List ℕ
failures_name = codes "\" failures=\""

unfoldable pub failures_text : ℕ → List ℕ
failures_text count = failures_name ++ decimal count

unfoldable pub errors_text : ℕ → List ℕ
errors_text count = codes "\" errors=\"" ++ (decimal count ++ codes "\">\n")

unfoldable pub suite_head : List Entry → List ℕ
suite_head entries =
    tests_text (length entries)
    ++ (failures_text (failures_of entries) ++ errors_text (errors_of entries))

-- the whole text
unfoldable pub junit_text : List Entry → List ℕ
junit_text entries =
    suite_head entries ++ (flat_map case_text entries ++ codes "</testsuite></testsuites>\n")
