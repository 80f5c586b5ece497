-- Bursts: transfers of one that come one after another are one row.
use Rattle.std.specs.Prelude.{ℕ, ◌+◌, ◌&&◌, ◌==◌, Bool, true, false, Option, Some, None}
use Rattle.ace_chart.specs.declared.rows.Burst.{Burst}
use Rattle.ace_chart.specs.declared.rows.Row.{Row}
use Rattle.ace_chart.specs.declared.rows.Version.{Version}
use Rattle.ace_chart.specs.declared.rows.Version.TheVariants.{Known, Unknown}
use Rattle.ace_event.specs.declared.event.Event.{Event}
use Rattle.ace_event.specs.declared.event.Event.TheVariants.{R, W, Cd}
use Rattle.ace_event_words.specs.declared.transfers.Transfers.{Transfers}
use Rattle.ace_event_words.specs.declared.transfers.Transfers.TheVariants.{Nth}
use Rattle.ace_model.specs.declared.transactions.Transaction.{Transaction}

-- the transfer of a burst, if it is one
abbrev pub burst_of : Transfers → Option Burst
burst_of (Nth number beats) = Some (record { first = number; last = number; beats = beats })
burst_of _ = None

-- both belong to the same transaction
abbrev pub is_same : Option Transaction → Option Transaction → Bool
is_same (Some x) (Some y) = x.place == y.place
is_same _ _ = false

-- both are transfers of one read with one response, of one write, or of what one port sends for a
-- snoop
abbrev pub is_one_burst : Event → Option Transaction → Event → Option Transaction → Bool
is_one_burst (R p i resp last word) x (R q j of_other l w) y = is_same x y && (resp == of_other)
is_one_burst (W p strb last word) x (W q s l w) y = is_same x y
is_one_burst (Cd p last word) x (Cd q l w) y = p == q
is_one_burst e x d y = false

-- the transfer comes behind those of the first
abbrev pub follows : Option Burst → Option Burst → Bool
follows (Some b) (Some next) = next.first == b.last + 1
follows _ _ = false

abbrev pub is_version : Option Version → Option Version → Bool
is_version None None = true
is_version (Some Unknown) (Some Unknown) = true
is_version (Some (Known n)) (Some (Known k)) = n == k
is_version _ _ = false

-- The second row goes on with the burst of the first: nothing is left out between them, and the
-- words are of one value.
abbrev pub goes_on : Row → Row → Bool
goes_on r next =
    is_one_burst r.event r.serves next.event next.serves && follows r.burst next.burst
    && is_version r.version next.version && (next.left_out == 0)

-- the transfers of both
abbrev pub both : Option Burst → Option Burst → Option Burst
both (Some b) (Some next) = Some (record b { last = next.last })
both b _ = b

-- the row of both
abbrev pub joined : Row → Row → Row
joined r next = record r { last = next.last; burst = both r.burst next.burst }
