-- What a transaction or a snoop changes of its line by an event.
use Rattle.std.specs.Prelude.{ℕ, ◌&&◌, if◌then◌else◌, Option, Some, None}
use Rattle.ace_codes.specs.Responses.{transfers_data}
use Rattle.ace_model.specs.declared.snoops.Snoop.{Snoop}
use Rattle.ace_model.specs.Snoops.{snoops_a_line}
use Rattle.ace_model.specs.Transactions.{is_line}
use Rattle.ace_model.specs.Values.{discards_data, stores_data}
use Rattle.ace_portck.specs.declared.target.Progress.{Progress}
use Rattle.ace_cert_make.specs.declared.track.LineChange.{LineChange}
use Rattle.ace_cert_make.specs.declared.track.Change.TheVariants.{Grant, Store, Write, Answer}

-- by its G
abbrev pub granting : Option Progress → Option LineChange
granting None = None
granting (Some x) =
    if is_line x.transaction
    then Some (record { line = x.transaction.addr; change = Grant }) else None

-- by its M
abbrev pub writing : Option Progress → Option LineChange
writing None = None
writing (Some x) =
    if is_line x.transaction
    then Some (record {
      line = x.transaction.addr;
      change = Write (stores_data x.transaction);
    }) else None

-- by its R
abbrev pub discarding : Option Progress → Option LineChange
discarding None = None
discarding (Some x) =
    if is_line x.transaction && discards_data x.transaction
    then Some (record { line = x.transaction.addr; change = Store }) else None

-- by an answer with this response
abbrev pub answering : ℕ → Option Snoop → Option LineChange
answering resp None = None
answering resp (Some s) =
    if transfers_data resp && snoops_a_line s.snoop
    then Some (record { line = s.addr; change = Answer s.place }) else None
