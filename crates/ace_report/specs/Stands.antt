-- What a report keeps of a trace.
use Rattle.std.specs.Prelude.{◌≡◌, ◌<◌, ◌-◌, ◌^◌, length}
use Rattle.ace_event.specs.declared.header.Header.{Header}
use Rattle.ace_event.specs.Ports.{IsHeader}
use Rattle.ace_model.specs.Trace.{Trace}
use Rattle.ace_model.specs.Accepted.{IsAccepted}
use Rattle.ace_report.specs.Heard.{PortsStand, LinesStand, loads_of}
use Rattle.ace_report.specs.declared.report.Report.{Report}
pub use Rattle.ace_report.specs.Next.{IsNext, AddsEntry}

-- The report has counted this trace, which is accepted.
pub record Stands (r : Report) (h : Header) (past : Trace) : Type 0 where
  pub header : r.header ≡ h
  pub is_header : IsHeader h
  pub accepted : IsAccepted h past
  pub few : length past < 2 ^ 64 - 1
  pub len : length r.ports.items ≡ h.ports
  pub ports : PortsStand past r.ports.items
  pub lines : LinesStand past r.lines
  pub loads : r.loads.items ≡ loads_of past
