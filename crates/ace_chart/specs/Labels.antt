-- The labels of events: the record of each, and what tells it from others.
use Rattle.std.specs.Prelude.{ℕ, ◌++◌, ◌==◌, Bool, true, false, if◌then◌else◌, List, [], Option, Some, None, codes, decimal}
use Rattle.ace_codes.specs.Responses.{has_error, is_shared, low_bits, passes_dirty, transfers_data, was_unique}
use Rattle.ace_codes.specs.declared.state.LineState.{LineState}
use Rattle.ace_event.specs.Text.{outcome_text, state_text}
use Rattle.ace_event.specs.declared.event.Event.{Event}
use Rattle.ace_event.specs.declared.event.Event.TheVariants.{Ar, R, Rk, Aw, W, B, Wk, Ac, Cr, Cd, G, M, S, L, D, Op, Mem}
use Rattle.ace_model.specs.declared.transactions.Transaction.{Transaction}
use Rattle.ace_chart.specs.declared.rows.Burst.{Burst}
use Rattle.ace_chart.specs.declared.rows.Row.{Row}
use Rattle.ace_chart.specs.declared.rows.Version.{Version}
use Rattle.ace_chart.specs.declared.rows.Version.TheVariants.{Known, Unknown}
use Rattle.ace_event_words.specs.SmallWords.{bit_word}
use Rattle.ace_event_words.specs.KindWords.{read_words, served_words, snoop_words, write_words}

-- what the low bits of a response say, behind a space: nothing where they are OKAY
abbrev pub low_word : ℕ → List ℕ
low_word resp =
    if low_bits resp == 0 then []
    else (if low_bits resp == 1 then codes " EXOKAY"
    else (if low_bits resp == 2 then codes " SLVERR" else codes " DECERR"))

-- a record and what it is about; and whether that is exclusive; and the state in which it leaves
-- the line
unfoldable pub named : List ℕ → List ℕ → List ℕ
named event_record words = event_record ++ codes " " ++ words

unfoldable pub with_lock : List ℕ → List ℕ → Bool → List ℕ
with_lock event_record words lock = named event_record words ++ bit_word lock (codes " exclusive")

unfoldable pub with_state : List ℕ → List ℕ → LineState → List ℕ
with_state event_record words st = named event_record words ++ codes " " ++ state_text st

-- a record, the port of its transaction, and what that is
unfoldable pub of_port : List ℕ → ℕ → List ℕ → List ℕ
of_port event_record port words = event_record ++ codes " p" ++ decimal port ++ codes " " ++ words

-- which transfers of a burst: `1-4/4`, or `2/4`
unfoldable pub burst_text : Burst → List ℕ
burst_text b =
    codes " " ++ decimal b.first
    ++ (if b.first == b.last then [] else codes "-" ++ decimal b.last)
    ++ codes "/" ++ decimal b.beats

abbrev pub burst_words : Option Burst → List ℕ
burst_words None = []
burst_words (Some b) = burst_text b

-- which value of the line: `v1`, or `v?`
unfoldable pub version_text : Version → List ℕ
version_text (Known stores) = codes " v" ++ decimal stores
version_text Unknown = codes " v?"

abbrev pub version_words : Option Version → List ℕ
version_words None = []
version_words (Some v) = version_text v

-- what transfers belong to: left out where the line is told by its value
abbrev pub owner_words : Option Burst → Option Version → List ℕ → List ℕ
owner_words (Some b) (Some v) words = []
owner_words b v words = codes " " ++ words

unfoldable pub transfer_words : List ℕ → Option Burst → Option Version → List ℕ → List ℕ
transfer_words event_record burst version words =
    event_record ++ owner_words burst version words ++ burst_words burst ++ version_words version

-- what the response of a read says
unfoldable pub resp_words : ℕ → List ℕ
resp_words resp =
    low_word resp ++ bit_word (passes_dirty resp) (codes " PassDirty")
    ++ bit_word (is_shared resp) (codes " IsShared")

-- an answer to a snoop, with what its response says
unfoldable pub answer_words : ℕ → LineState → List ℕ
answer_words resp st =
    named (codes "CR") (state_text st) ++ bit_word (transfers_data resp) (codes " data")
    ++ bit_word (has_error resp) (codes " error")
    ++ bit_word (passes_dirty resp) (codes " PassDirty")
    ++ bit_word (is_shared resp) (codes " IsShared")
    ++ bit_word (was_unique resp) (codes " WasUnique")

-- what tells an event that belongs to the transaction, if it belongs to one, and isn't a transfer
abbrev pub event_label : Option Transaction → Event → List ℕ
event_label serves (Ar p id addr snoop dom bar lock) =
    with_lock (codes "AR") (read_words snoop dom bar) lock
event_label serves (Rk p st) = with_state (codes "RK") (served_words serves) st
event_label serves (Aw p id addr snoop dom bar) = named (codes "AW") (write_words snoop dom bar)
event_label serves (B p id resp) = named (codes "B") (served_words serves) ++ low_word resp
event_label serves (Wk p st) = with_state (codes "WK") (served_words serves) st
event_label serves (Ac p addr snoop) = named (codes "AC") (snoop_words snoop)
event_label serves (Cr p resp st) = answer_words resp st
event_label serves (G p chan id) = of_port (codes "G") p (served_words serves)
event_label serves (M p chan id line) = of_port (codes "M") p (served_words serves)
event_label serves (S p addr st) = named (codes "S") (state_text st)
event_label serves (L p addr w x word) =
    codes "L word " ++ decimal w ++ bit_word x (codes " exclusive")
event_label serves (D p addr strobe x line) = with_lock (codes "D") (codes "store") x
event_label serves (Op p k res) = codes "OP " ++ decimal k ++ codes " " ++ outcome_text res
event_label serves (Mem addr line) = codes "MEM"
event_label serves e = []

-- the label of a row
abbrev pub label_of : Option Burst → Option Version → Option Transaction → Event → List ℕ
label_of burst version serves (R p id resp last word) =
    transfer_words (codes "R") burst version (served_words serves) ++ resp_words resp
label_of burst version serves (W p strb last word) =
    transfer_words (codes "W") burst version (served_words serves)
label_of burst version serves (Cd p last word) =
    codes "CD" ++ burst_words burst ++ version_words version
label_of burst version serves e = event_label serves e ++ version_words version

abbrev pub label : Row → List ℕ
label r = label_of r.burst r.version r.serves r.event
