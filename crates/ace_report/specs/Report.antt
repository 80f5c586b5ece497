-- The report of a trace, as text: what each port did, the stores and the value of each line, and
-- the place of each load among the stores of its line.
use Rattle.std.specs.Prelude.{ℕ, ◌+◌, Bool, false, ◌==◌, nat_lt, if◌then◌else◌, List, [], ◌∷◌, ◌++◌, length, codes, decimal}
use Rattle.std.specs.List.{count_by, flat_map, range_with_len}
use Rattle.ace_event.specs.Text.{hex_text, line_digits}
use Rattle.ace_event.specs.declared.event.Event.{Event}
use Rattle.ace_event.specs.declared.event.Event.TheVariants.{Ar, Aw, L, D}
use Rattle.ace_event.specs.declared.header.Header.{Header}
use Rattle.ace_model.specs.Trace.{Trace}
use Rattle.ace_model.specs.Lines.{known_lines}
use Rattle.ace_model.specs.Values.{stores_of, value_of}

-- the event is a load, a store, a read, a write of the port: an L, D, AR, AW
abbrev pub is_load : ℕ → Event → Bool
is_load p (L q addr w x word) = p == q
is_load p _ = false

abbrev pub is_store : ℕ → Event → Bool
is_store p (D q addr strobe x line) = p == q
is_store p _ = false

abbrev pub is_read : ℕ → Event → Bool
is_read p (Ar q i addr snoop dom bar lock) = p == q
is_read p _ = false

abbrev pub is_write : ℕ → Event → Bool
is_write p (Aw q i addr snoop dom bar) = p == q
is_write p _ = false

-- what the port did
abbrev pub port_report : Trace → ℕ → List ℕ
port_report past p =
    codes "port " ++ decimal p
    ++ codes " loads " ++ decimal (count_by (is_load p) past)
    ++ codes " stores " ++ decimal (count_by (is_store p) past)
    ++ codes " reads " ++ decimal (count_by (is_read p) past)
    ++ codes " writes " ++ decimal (count_by (is_write p) past)
    ++ codes "\n"

-- the addresses in order
abbrev pub put_in_order : ℕ → List ℕ → List ℕ
put_in_order l [] = l ∷ []
put_in_order l (m ∷ ms) = if nat_lt l m then l ∷ m ∷ ms else m ∷ put_in_order l ms

abbrev pub in_order : List ℕ → List ℕ
in_order [] = []
in_order (l ∷ ls) = put_in_order l (in_order ls)

-- how many stores were made to the line, and its value at the end
abbrev pub line_report : Trace → ℕ → List ℕ
line_report past l =
    codes "line " ++ hex_text 8 l ++ codes " stores " ++ decimal (length (stores_of past l))
    ++ codes " value " ++ line_digits (value_of past l) ++ codes "\n"

-- a load after the trace: the number of its event, from 1, its port and address, and how many
-- stores to its line came before it
abbrev pub load_report : Trace → ℕ → ℕ → List ℕ
load_report past p addr =
    codes "load " ++ decimal (length past + 1) ++ codes " " ++ decimal p
    ++ codes " " ++ hex_text 8 addr
    ++ codes " " ++ decimal (length (stores_of past addr)) ++ codes "\n"

-- each load, in order
abbrev pub load_reports : Trace → List ℕ
load_reports [] = []
load_reports (L p addr w x word ∷ past) = load_reports past ++ load_report past p addr
load_reports (_ ∷ past) = load_reports past

-- The report of a trace under its header: its ports in order of number, the lines that line
-- transactions name in order of address, and its loads in order.
abbrev pub report_text : Header → Trace → List ℕ
report_text h past =
    flat_map (port_report past) (range_with_len 0 h.ports)
    ++ flat_map (line_report past) (in_order (known_lines past)) ++ load_reports past
