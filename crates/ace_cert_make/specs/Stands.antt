-- What a maker keeps of a trace.
use Rattle.std.specs.List.{AllByRecursion}
use Rattle.ace_event.specs.Range.{FitsFields}
use Rattle.ace_event.specs.declared.header.Header.{Header}
use Rattle.ace_model.specs.Trace.{Trace}
use Rattle.ace_portck.specs.declared.ports.PortCheck.{PortCheck}
use Rattle.ace_portck.specs.Stands.{Stands as Tell}
use Rattle.ace_cert_make.specs.declared.maker.Maker.{Maker}
use Rattle.ace_cert_make.specs.Tracks.{LinesStand, PlacesStand}
pub use Rattle.ace_cert_make.specs.Next.{IsNext}

-- The maker has heard this trace.
pub record Stands (m : Maker) (past : Trace) : Type 0 where
  pub lines : LinesStand past m.lines
  pub reads : PlacesStand past m.reads

-- The ports and the maker have heard it, and its events have fields that fit.
pub record Hears (ports : PortCheck) (m : Maker) (h : Header) (past : Trace) : Type 0 where
  pub tell : Tell ports (record { header = h; past = past })
  pub stands : Stands m past
  pub fits : AllByRecursion FitsFields past
