-- What a master asks for, as the steps say it.
use Rattle.ace_runs.specs.Requests.{Request}
use Rattle.ace_runs.specs.Requests as steps
use Rattle.ace_master_state.specs.declared.ace_requests.Request.{Request as Asked}
use Rattle.ace_master_state.specs.declared.ace_requests.Request.TheVariants.{Reads, Misses, Writes, Drops, Barriers, Messages}

abbrev pub asks : Asked → Request
asks (Reads kind addr lock) = steps.Reads kind addr lock
asks (Misses kind addr lock) = steps.Misses kind addr lock
asks (Writes kind addr) = steps.Writes kind addr
asks (Drops addr) = steps.Drops addr
asks (Barriers bar) = steps.Barriers bar
asks (Messages word second) = steps.Messages word second
