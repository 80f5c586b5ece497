-- What the master of an ACE-Lite port keeps says of a trace.
use Rattle.std.specs.Prelude.{ℕ, ◌≡◌, ◌*◌, Bool, true, false, ◌&&◌, ◌==◌, nat_lt, List, [], ◌∷◌, ◌++◌, length, Option, Some, None}
use Rattle.std.specs.List.{list_all}
use Rattle.std.specs.Option.{option_to_list}
use Rattle.ace_codes.specs.declared.kind.AwKind.{AwKind}
use Rattle.ace_codes.specs.declared.kind.AwKind.TheVariants as write
use Rattle.ace_event.specs.declared.event.Event.{Event}
use Rattle.ace_model.specs.declared.plans.Op.{Op}
use Rattle.ace_model.specs.declared.plans.Op.TheVariants.{Wu, Wlu, Wn}
use Rattle.ace_model.specs.declared.transactions.Transaction.{Transaction}
use Rattle.ace_event.specs.declared.header.Header.{Header}
use Rattle.ace_model.specs.Plans.{Plan, line_named}
use Rattle.ace_model.specs.Trace.{Trace, is_some_and}
use Rattle.ace_model.specs.Transactions.{has_outstanding_on, is_ace, write_kind}
use Rattle.ace_model.specs.Writes.{beats, data_writes}
use Rattle.ace_runs.specs.Acts.{acts_of, data_of_operation, is_act_transaction}
use Rattle.ace_runs.specs.Bursts.{onto}
use Rattle.ace_runs.specs.Operations.{next_operation, operation_behind, operations_of}
use Rattle.ace_runs.specs.Segments.{acts_made, segment}
use Rattle.ace_runs.specs.Steps.{is_step_by}
use Rattle.ace_portck.specs.declared.target.WriteData.{WriteData}
use Rattle.ace_portck.specs.OnePort as one_port
use Rattle.ace_master_state.specs.Identifiers.{IdentifiersStand}
use Rattle.ace_master.specs.declared.lite.LiteMaster.{LiteMaster}
use Rattle.ace_master.specs.KeptPort.{KeepsPort}

-- the port that it is the master of
abbrev pub port_of : LiteMaster → ℕ
port_of s = one_port.port_of s.port

-- what a port has issued on each channel, the read first
abbrev pub both_of : Option Transaction → Option Transaction → List Transaction
both_of reads writes = option_to_list reads ++ option_to_list writes

-- the operation retires once its acts are done: a WriteUnique or WriteLineUnique retires as soon as
-- it is issued
abbrev pub awaits_acts : Op → Bool
awaits_acts (Wu a strobe line) = false
awaits_acts (Wlu a line) = false
awaits_acts _ = true

-- the transactions are none, or all acts of an operation that awaits them
abbrev pub are_none_or_all : Option Op → List Transaction → Bool
are_none_or_all next [] = true
are_none_or_all next xs = is_some_and next (λ op. awaits_acts op
    && (length xs == length (acts_of op)))

-- The port has issued these for its next operation: nothing, or all acts of it.
pub record AreIssued (plan : Plan) (past : Trace) (p : ℕ) (xs : List Transaction) : Type 0 where
  pub segment_is : segment past p ≡ xs
  pub made : acts_made past p ≡ length xs
  pub acts : list_all is_act_transaction xs ≡ true
  pub whole : are_none_or_all (next_operation plan past p) xs ≡ true

-- the kind of the write that carries the operation's data
abbrev pub kind_written : Op → Option AwKind
kind_written (Wu a strobe line) = Some write.WriteUnique
kind_written (Wlu a line) = Some write.WriteLineUnique
kind_written (Wn a strobe line) = Some write.WriteNoSnoop
kind_written _ = None

-- All bursts are sent but that of the last write, and these are the data of the operation for which
-- that was issued.
pub record IsUnsent (plan : Plan) (past : Trace) (p : ℕ) (d : WriteData) : Type 0 where
  pub earlier : List Transaction
  pub last : Transaction
  pub writes : data_writes past p ≡ earlier ++ last ∷ []
  pub sent : length (beats past p) ≡ 4 * length earlier
  pub behind : Op
  pub is_behind : operation_behind plan past last ≡ Some behind
  pub kind : write_kind last ≡ kind_written behind
  pub carries : data_of_operation behind ≡ Some (d.strobe, d.line)

-- all bursts are sent but this one
abbrev pub AreSent : Plan → Trace → ℕ → Option WriteData → Type 0
AreSent plan past p None = length (beats past p) ≡ 4 * length (data_writes past p)
AreSent plan past p (Some d) = IsUnsent plan past p d

-- What it keeps beside its port: the port's operations, what the port has issued for the next of
-- them, and the data of the burst that isn't sent.
pub record LiteTells (plan : Plan) (past : Trace) (p : ℕ) (operations : List Op)
    (reads writes : Option Transaction) (unsent : Option WriteData) : Type 0 where
  pub low : nat_lt p plan.header.ports ≡ true
  pub lite : is_ace plan.header p ≡ false
  pub operations_are : operations ≡ operations_of plan p
  pub issued : AreIssued plan past p (both_of reads writes)
  pub sent : AreSent plan past p unsent

pub record LiteStands (s : LiteMaster) (plan : Plan) (past : Trace) : Type 0 where
  pub port : KeepsPort s.port plan past
  pub identifiers : IdentifiersStand plan.header past (port_of s) s.identifiers
  pub tells : LiteTells plan past (port_of s) s.operations.items s.read s.write s.unsent

-- the numbers of the steps of a master
abbrev pub own_steps : List ℕ
own_steps = 1 ∷ 2 ∷ 4 ∷ 14 ∷ []

-- The burst is a step of its port, and it stands for the trace with it.
pub record IsTurn (s : LiteMaster) (plan : Plan) (past : Trace) (burst : List Event) : Type 0 where
  pub step : is_step_by own_steps plan past (port_of s) burst ≡ true
  pub stands : LiteStands s plan (onto burst past)

-- It stands for the trace; every burst is sent, and nothing is issued for the next operation.
pub record IsAsking (s : LiteMaster) (plan : Plan) (past : Trace) (op : Op) : Type 0 where
  pub stands : LiteStands s plan past
  pub next : next_operation plan past (port_of s) ≡ Some op
  pub sent : s.unsent ≡ None
  pub none_read : s.read ≡ None
  pub none_written : s.write ≡ None

-- a transaction of the port on the line that the operation names is outstanding
abbrev pub is_line_busy : Header → Trace → ℕ → Op → Bool
is_line_busy h past p op = is_some_and (line_named op) (has_outstanding_on h past p)
