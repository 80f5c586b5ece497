-- A certificate as text: a line for each store to each line of memory, in order of address, and
-- then one for each read.
use Rattle.std.specs.Prelude.{ℕ, List, ◌++◌, map, codes, decimal}
use Rattle.std.specs.List.{flat_map}
use Rattle.ace_event.specs.Text.{hex_text}
use Rattle.ace_cert.specs.declared.cert.LineOrder.{LineOrder}
use Rattle.ace_cert.specs.declared.cert.ReadPlace.{ReadPlace}
use Rattle.ace_cert.specs.declared.cert.Cert.{Cert}

-- a store to the line at this address, by the number of its event
abbrev pub store_line : ℕ → ℕ → List ℕ
store_line addr event =
    codes "store " ++ hex_text 8 addr ++ codes " " ++ decimal event ++ codes "\n"

abbrev pub order_lines : LineOrder → List ℕ
order_lines order = flat_map (store_line order.addr) order.stores

-- a read, by the number of its event, and its place
abbrev pub place_line : ReadPlace → List ℕ
place_line read =
    codes "place " ++ decimal read.event ++ codes " " ++ decimal read.place ++ codes "\n"

abbrev pub cert_text : Cert → List ℕ
cert_text cert = flat_map order_lines cert.lines ++ flat_map place_line cert.reads
