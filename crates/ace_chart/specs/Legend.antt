-- What the colours, dashes and widths of a chart mean.
use Rattle.std.specs.Prelude.{ℕ, ◌+◌, ◌-◌, ◌++◌, List, codes}
use Rattle.ace_svg.specs.Elements.{line_element, rectangle, words_element}

-- an arrow of a class with words, and a part of a bar
unfoldable pub message_sample : List ℕ → ℕ → ℕ → List ℕ → List ℕ
message_sample class x y words =
    line_element class (record { x = x; y = y }) (record { x = x + 26; y = y })
    ++ words_element (codes "sample") (record { x = x + 32; y = y + 4 }) words

unfoldable pub bar_sample : List ℕ → ℕ → ℕ → ℕ → List ℕ → List ℕ
bar_sample class x y width words =
    rectangle class (record { x = x; y = y - 7 }) (record { width = width; height = 14 })
    ++ words_element (codes "sample") (record { x = x + 26; y = y + 4 }) words

-- the arrows of addresses and data, those of snoops, and the others
unfoldable pub address_legend : ℕ → List ℕ
address_legend y =
    message_sample (codes "address") 16 y (codes "address AR AW")
    ++ message_sample (codes "data") 144 y (codes "data R W CD")

unfoldable pub snoop_legend : ℕ → List ℕ
snoop_legend y = message_sample (codes "snoop") 256 y (codes "snoop AC CR")

unfoldable pub answer_legend : ℕ → List ℕ
answer_legend y =
    message_sample (codes "response") 372 y (codes "response B RK WK")
    ++ message_sample (codes "memory") 512 y (codes "memory M")

-- the bars of states, and the others
unfoldable pub state_legend : ℕ → List ℕ
state_legend y =
    bar_sample (codes "UC") 16 y 18 (codes "UC") ++ bar_sample (codes "UD") 80 y 18 (codes "UD")
    ++ bar_sample (codes "SC") 148 y 10 (codes "SC")
    ++ bar_sample (codes "SD") 208 y 10 (codes "SD")

unfoldable pub bar_legend : ℕ → List ℕ
bar_legend y =
    bar_sample (codes "grant") 268 y 18 (codes "grant")
    ++ bar_sample (codes "current") 344 y 8 (codes "memory current")
    ++ bar_sample (codes "behind") 472 y 8 (codes "memory behind")

unfoldable pub legend : ℕ → List ℕ
legend y = address_legend y ++ snoop_legend y ++ answer_legend y ++ state_legend (y + 24)
    ++ bar_legend (y + 24)
