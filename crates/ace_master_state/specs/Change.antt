-- What an event of a port does to the lines that it holds.
use Rattle.std.specs.Prelude.{ℕ, ◌≡◌, ◌<◌, Bool, true, false, ⊤, ◌==◌, if◌then◌else◌, List, length, Option, Some, None, option_map, unwrap_or}
use Rattle.ace_codes.specs.declared.state.LineState.{LineState}
use Rattle.ace_codes.specs.declared.state.LineState.TheVariants.{UD}
use Rattle.ace_event.specs.Bytes.{merged}
use Rattle.ace_event.specs.declared.event.Channel.TheVariants.{Read, Write}
use Rattle.ace_event.specs.declared.event.Event.{Event}
use Rattle.ace_event.specs.declared.event.Event.TheVariants as event
use Rattle.ace_event.specs.declared.header.Header.{Header}
use Rattle.ace_event.specs.declared.line.Line.{Line}
use Rattle.ace_tables.specs.States.{is_invalid}
use Rattle.ace_model.specs.declared.snoops.Snoop.{Snoop}
use Rattle.ace_model.specs.declared.transactions.Transaction.{Transaction}
use Rattle.ace_model.specs.Snoops.{answered, snoops_a_line}
use Rattle.ace_model.specs.Trace.{Trace}
use Rattle.ace_model.specs.Transactions.{acknowledged, has_outstanding_on, is_line, issued}
use Rattle.ace_cache.specs.LineCache.{CachedWays, IsCache}
use Rattle.ace_cache.specs.Ways.{way_of}
use Rattle.ace_cache.specs.declared.way.Way.{Way}
use Rattle.ace_master_state.specs.Arriving.{line_under}
use Rattle.ace_master_state.specs.declared.change.Change.{Change}
use Rattle.ace_master_state.specs.declared.change.Change.TheVariants.{Nothing, Begins, Ends, Becomes, Stores}

abbrev pub begins : Option Transaction → Change
begins None = Nothing
begins (Some x) = if is_line x then Begins x.addr else Nothing

abbrev pub ends : Option Transaction → LineState → List Line → Change
ends None st arriving = Nothing
ends (Some x) st arriving = if is_line x then Ends x.addr st (line_under arriving x.id) else Nothing

abbrev pub becomes : Option Snoop → LineState → Change
becomes None st = Nothing
becomes (Some s) st = if snoops_a_line s.snoop then Becomes s.addr st else Nothing

-- What an event of the port does. A store is one of a MakeUnique where a transaction of the port on
-- the line is outstanding, and then leaves the line in its state.
abbrev pub change_of : Header → Trace → List Line → Event → Change
change_of h past arriving (event.Ar p i addr snoop dom bar lock) =
    begins (issued (length past) (event.Ar p i addr snoop dom bar lock))
change_of h past arriving (event.Aw p i addr snoop dom bar) =
    begins (issued (length past) (event.Aw p i addr snoop dom bar))
change_of h past arriving (event.Rk p st) = ends (acknowledged past p Read) st arriving
change_of h past arriving (event.Wk p st) = ends (acknowledged past p Write) st arriving
change_of h past arriving (event.Cr p resp st) = becomes (answered past p) st
change_of h past arriving (event.S p addr st) = Becomes addr st
change_of h past arriving (event.D p addr strobe x line) =
    Stores addr strobe line (if has_outstanding_on h past p addr then None else Some UD)
change_of h past arriving _ = Nothing

-- the line that comes in, where the way had none before
abbrev pub held_or : Option Way → Line → Line
held_or None bytes = bytes
held_or (Some way) bytes = way.line

abbrev pub marked_so : LineState → Bool → Way → Way
marked_so st busy way = record way { st = st; busy = busy }

abbrev pub stored_so : ℕ → Line → Option LineState → Way → Way
stored_so strobe bytes st way =
    record way { line = merged way.line strobe bytes; st = unwrap_or st way.st }

-- what the change leaves of the way of line l
abbrev pub changed : Change → ℕ → Option Way → Option Way
changed Nothing l way = way
changed (Begins addr) l way = if l == addr then option_map (λ w. marked_so w.st true w) way else way
changed (Ends addr st bytes) l way =
    if l == addr then (if is_invalid st then None
    else Some (record { addr = addr; st = st; line = held_or way bytes; busy = false }))
    else way
changed (Becomes addr st) l way =
    if l == addr then (if is_invalid st then None else option_map (λ w. marked_so st w.busy w) way)
    else way
changed (Stores addr strobe bytes st) l way =
    if l == addr then option_map (stored_so strobe bytes st) way else way

-- where the change puts a line into the cache, there is room for it
abbrev pub HasPlace : CachedWays → Change → Type 0
HasPlace cache (Ends addr st bytes) =
    IsCache cache → is_invalid st ≡ false → way_of cache.held addr ≡ None
    → length cache.held < cache.ways
HasPlace cache _ = ⊤
