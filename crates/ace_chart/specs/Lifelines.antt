-- The lifelines of a chart, with their heads.
use Rattle.std.specs.Prelude.{ℕ, zero, suc, ◌+◌, ◌-◌, ◌++◌, if◌then◌else◌, List, [], Option, codes}
use Rattle.ace_event.specs.declared.header.Header.{Header}
use Rattle.ace_model.specs.Transactions.{is_ace}
use Rattle.ace_svg.specs.Elements.{line_element, rectangle, words_element}
use Rattle.ace_words.specs.Kinds.{port_words}
use Rattle.ace_chart.specs.Places.{x_of}
use Rattle.ace_chart.specs.Side.{below_port, name_of}
use Rattle.ace_side_facts.specs.declared.facts.SideFacts.{SideFacts}
use Rattle.ace_chart.specs.declared.places.Lifeline.TheVariants.{Port, Interconnect, Memory}

-- what is behind a port
abbrev pub kind_word : Header → ℕ → List ℕ
kind_word h p = if is_ace h p then codes "ACE" else codes "ACE-Lite"

-- a lifeline down to the bottom, and its head with a name and what is below it
unfoldable pub lifeline : ℕ → ℕ → List ℕ → List ℕ → List ℕ
lifeline x bottom name kind =
    line_element (codes "lifeline") (record { x = x; y = 106 }) (record { x = x; y = bottom })
    ++ rectangle (codes "head") (record { x = x - 52; y = 72 })
    (record { width = 104; height = 34 })
    ++ words_element (codes "name") (record { x = x; y = 87 }) name
    ++ words_element (codes "kind") (record { x = x; y = 100 }) kind

unfoldable pub port_head : Header → Option SideFacts → ℕ → ℕ → List ℕ
port_head h side bottom p =
    lifeline (x_of h.ports (Port p)) bottom (port_words p)
    (below_port (name_of side p) (kind_word h p))

-- those of so many ports, from one on
unfoldable pub port_lifelines : Header → Option SideFacts → ℕ → ℕ → ℕ → List ℕ
port_lifelines h side bottom p zero = []
port_lifelines h side bottom p (suc count) =
    port_head h side bottom p ++ port_lifelines h side bottom (p + 1) count

-- those of the ports, of the interconnect and of memory
unfoldable pub lifelines : Header → Option SideFacts → ℕ → List ℕ
lifelines h side bottom =
    port_lifelines h side bottom 0 h.ports
    ++ lifeline (x_of h.ports Interconnect) bottom (codes "interconnect") []
    ++ lifeline (x_of h.ports Memory) bottom (codes "memory") []
