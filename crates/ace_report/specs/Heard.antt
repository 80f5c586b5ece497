-- What the groups of a report keep of a trace, and what an event does to the tally of a line.
use Rattle.std.specs.Prelude.{ℕ, ◌+◌, ◌≡◌, ◌<◌, ◌-◌, ◌^◌, ◌==◌, min, if◌then◌else◌, List, [], ◌∷◌, ◌++◌, length, slice_get, Option, Some, None}
use Rattle.std.specs.List.{count_by}
use Rattle.std.specs.Ordering.{nat_cmp}
use Rattle.std.specs.BTreeMap.{BTreeMap, get}
use Rattle.ace_event.specs.declared.event.Event.{Event}
use Rattle.ace_event.specs.declared.event.Event.TheVariants.{Ar, Aw, L, D}
use Rattle.ace_event.specs.declared.line.Line.{Line}
use Rattle.ace_event.specs.Bytes.{merged}
use Rattle.ace_model.specs.Trace.{Trace, is_some_and}
use Rattle.ace_model.specs.Lines.{is_known}
use Rattle.ace_model.specs.Values.{Store, stores_of, value_of, stores_data, discards_data, full_line}
use Rattle.ace_portck.specs.declared.target.WriteData.{WriteData}
use Rattle.ace_portck.specs.declared.target.Progress.{Progress}
use Rattle.ace_report.specs.Report.{is_load, is_store, is_read, is_write}
use Rattle.ace_report.specs.declared.tally.PortTally.{PortTally}
use Rattle.ace_report.specs.declared.tally.LineTally.{LineTally}
use Rattle.ace_report.specs.declared.tally.Load.{Load}

-- what the port did
abbrev pub port_tally : Trace → ℕ → PortTally
port_tally past p = record {
  loads = count_by (is_load p) past;
  stores = count_by (is_store p) past;
  reads = count_by (is_read p) past;
  writes = count_by (is_write p) past;
}

-- what was stored to the line
abbrev pub line_tally : Trace → ℕ → LineTally
line_tally past l = record { stores = length (stores_of past l); value = value_of past l }

-- the loads, in order
abbrev pub loads_of : Trace → List Load
loads_of [] = []
loads_of (L p addr w x word ∷ past) =
    loads_of past ++ record {
      event = length past + 1;
      port = p;
      addr = addr;
      stores = length (stores_of past addr);
    } ∷ []
loads_of (_ ∷ past) = loads_of past

-- the tallies are those of the ports from 0 on
abbrev pub PortsStand : Trace → List PortTally → Type 0
PortsStand past ports = (p : ℕ) → p < length ports → slice_get ports p ≡ Some (port_tally past p)

-- the lines that line transactions name have their tallies
abbrev pub LinesStand : Trace → BTreeMap ℕ LineTally → Type 0
LinesStand past lines =
    (l : ℕ) → get nat_cmp lines l ≡ (if is_known past l then Some (line_tally past l) else None)

-- a count of 64 bits with one more
abbrev pub one_more : ℕ → ℕ
one_more count = min (count + 1) (2 ^ 64 - 1)

-- the tally of a port with an event of the port
abbrev pub counted : Event → PortTally → PortTally
counted (L p addr w x word) t =
    record { loads = one_more t.loads; stores = t.stores; reads = t.reads; writes = t.writes }
counted (D p addr strobe x line) t =
    record { loads = t.loads; stores = one_more t.stores; reads = t.reads; writes = t.writes }
counted (Ar p i addr snoop dom bar lock) t =
    record { loads = t.loads; stores = t.stores; reads = one_more t.reads; writes = t.writes }
counted (Aw p i addr snoop dom bar) t =
    record { loads = t.loads; stores = t.stores; reads = t.reads; writes = one_more t.writes }
counted _ t = t

-- the port of an event that is counted
abbrev pub counted_port : Event → Option ℕ
counted_port (L p addr w x word) = Some p
counted_port (D p addr strobe x line) = Some p
counted_port (Ar p i addr snoop dom bar lock) = Some p
counted_port (Aw p i addr snoop dom bar) = Some p
counted_port _ = None

-- the tally of a line with one more store
abbrev pub with_store : WriteData → LineTally → LineTally
with_store s t = record { stores = one_more t.stores; value = merged t.value s.strobe s.line }

-- the bytes of a store
abbrev pub bytes_of : Store → WriteData
bytes_of s = record { strobe = s.strobe; line = s.line }

-- the bytes that are stored to the line, where they are stored to a line
abbrev pub bytes_to : Option ℕ → Option WriteData → ℕ → Option WriteData
bytes_to None bytes l = None
bytes_to (Some line) bytes l = if line == l then bytes else None

-- the burst of the transaction of an M, where it is a write that stores
abbrev pub written_bytes : Option Progress → Option WriteData → Option WriteData
written_bytes x burst = if is_some_and x (λ y. stores_data y.transaction) then burst else None

-- all bytes of the line
abbrev pub whole : Line → WriteData
whole line = record { strobe = full_line; line = line }

-- the tally with the store, if there is one
abbrev pub stored : Option WriteData → LineTally → LineTally
stored None t = t
stored (Some s) t = with_store s t
