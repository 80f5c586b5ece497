-- What the operations of an ACE-Lite port ask for.
use Rattle.std.specs.Prelude.{Option, Some, None}
use Rattle.ace_codes.specs.declared.kind.ArKind.TheVariants as read
use Rattle.ace_codes.specs.declared.kind.AwKind.TheVariants as write
use Rattle.ace_model.specs.declared.plans.Op.{Op}
use Rattle.ace_model.specs.declared.plans.Op.TheVariants.{Ro, Cs, Ci, Mi, Rn, Wu, Wlu, Wn, Mb, Sb}
use Rattle.ace_runs.specs.Acts.{memory_bar, synchronisation_bar}
use Rattle.ace_master.specs.declared.lite_requests.LiteRequest.{LiteRequest}
use Rattle.ace_master.specs.declared.lite_requests.LiteRequest.TheVariants.{Read, Write, Barrier}

-- what the operation asks for, if it is one for an ACE-Lite port
abbrev pub lite_request : Op → Option LiteRequest
lite_request (Ro a) = Some (Read read.ReadOnce a)
lite_request (Cs a) = Some (Read read.CleanShared a)
lite_request (Ci a) = Some (Read read.CleanInvalid a)
lite_request (Mi a) = Some (Read read.MakeInvalid a)
lite_request (Rn a) = Some (Read read.ReadNoSnoop a)
lite_request (Wu a strobe line) = Some (Write write.WriteUnique a)
lite_request (Wlu a line) = Some (Write write.WriteLineUnique a)
lite_request (Wn a strobe line) = Some (Write write.WriteNoSnoop a)
lite_request Mb = Some (Barrier memory_bar)
lite_request Sb = Some (Barrier synchronisation_bar)
lite_request _ = None
