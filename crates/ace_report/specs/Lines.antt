-- The lines of a report, as text of what was counted.
use Rattle.std.specs.Prelude.{ℕ, ◌+◌, List, [], ◌∷◌, ◌++◌, codes, decimal}
use Rattle.ace_event.specs.Text.{hex_text, line_digits}
use Rattle.ace_report.specs.declared.tally.PortTally.{PortTally}
use Rattle.ace_report.specs.declared.tally.LineTally.{LineTally}
use Rattle.ace_report.specs.declared.tally.Load.{Load}

-- what a port did
abbrev pub port_line : ℕ → PortTally → List ℕ
port_line p t =
    codes "port " ++ decimal p
    ++ codes " loads " ++ decimal t.loads
    ++ codes " stores " ++ decimal t.stores
    ++ codes " reads " ++ decimal t.reads
    ++ codes " writes " ++ decimal t.writes
    ++ codes "\n"

-- what each port did, from port n on
abbrev pub ports_text : ℕ → List PortTally → List ℕ
ports_text n [] = []
ports_text n (t ∷ ts) = port_line n t ++ ports_text (n + 1) ts

-- what was stored to a line
abbrev pub line_line : ℕ × LineTally → List ℕ
line_line e =
    codes "line " ++ hex_text 8 e.0 ++ codes " stores " ++ decimal e.1.stores
    ++ codes " value " ++ line_digits e.1.value ++ codes "\n"

-- a load
abbrev pub load_line : Load → List ℕ
load_line x =
    codes "load " ++ decimal x.event ++ codes " " ++ decimal x.port
    ++ codes " " ++ hex_text 8 x.addr
    ++ codes " " ++ decimal x.stores ++ codes "\n"
