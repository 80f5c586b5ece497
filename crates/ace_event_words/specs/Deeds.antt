-- What an event does, without its addresses and its data.
use Rattle.std.specs.Prelude.{ℕ, Option, Some, None}
use Rattle.ace_event.specs.declared.event.Channel.{Channel}
use Rattle.ace_event.specs.declared.event.Channel.TheVariants.{Read, Write}
use Rattle.ace_event.specs.declared.event.Event.{Event}
use Rattle.ace_event.specs.declared.event.Event.TheVariants as event
use Rattle.ace_event_words.specs.declared.deed.Deed.{Deed}
use Rattle.ace_event_words.specs.declared.deed.Deed.TheVariants.{Ar, R, Rk, Aw, W, B, Wk, Ac, Cr, Cd, G, M, S, L, D, Op, Mem}
use Rattle.ace_event_words.specs.declared.deed.Kind.{Kind}
use Rattle.ace_model.specs.declared.transactions.Transaction.{Transaction}

abbrev pub kind_of : Channel → ℕ → ℕ → ℕ → Kind
kind_of chan snoop dom bar = record { chan = chan; snoop = snoop; dom = dom; bar = bar }

-- the kind of a transaction, if there is one
abbrev pub kind_under : Option Transaction → Option Kind
kind_under None = None
kind_under (Some x) = Some (kind_of x.chan x.snoop x.dom x.bar)

-- what the event does, which belongs to this transaction, if it belongs to one
abbrev pub deed_of : Option Transaction → Event → Deed
deed_of serves (event.Ar p id addr snoop dom bar lock) = Ar p (kind_of Read snoop dom bar) id lock
deed_of serves (event.R p id resp last word) = R p (kind_under serves) resp
deed_of serves (event.Rk p st) = Rk p (kind_under serves) st
deed_of serves (event.Aw p id addr snoop dom bar) = Aw p (kind_of Write snoop dom bar) id
deed_of serves (event.W p strb last word) = W p (kind_under serves)
deed_of serves (event.B p id resp) = B p (kind_under serves) resp
deed_of serves (event.Wk p st) = Wk p (kind_under serves) st
deed_of serves (event.Ac p addr snoop) = Ac p snoop
deed_of serves (event.Cr p resp st) = Cr p resp st
deed_of serves (event.Cd p last word) = Cd p
deed_of serves (event.G p chan id) = G p (kind_under serves)
deed_of serves (event.M p chan id line) = M p (kind_under serves)
deed_of serves (event.S p addr st) = S p st
deed_of serves (event.L p addr w x word) = L p w x
deed_of serves (event.D p addr strobe x line) = D p x
deed_of serves (event.Op p k res) = Op p k res
deed_of serves (event.Mem addr line) = Mem
