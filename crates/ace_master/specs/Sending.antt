-- The burst of write data that a port sends next.
use Rattle.std.specs.Prelude.{ℕ, ◌≡◌, ◌+◌, ◌*◌, ◌≤◌, ◌<◌, ◌/◌, ◌%◌, ◌^◌, true, List, length, Option, Some}
use Rattle.ace_event.specs.declared.event.Event.{Event}
use Rattle.ace_model.specs.declared.plans.Op.{Op}
use Rattle.ace_model.specs.declared.transactions.Transaction.{Transaction}
use Rattle.ace_model.specs.Copies.{word_of}
use Rattle.ace_model.specs.Plans.{Plan}
use Rattle.ace_model.specs.SnoopRules.{fits_write}
use Rattle.ace_model.specs.Trace.{Trace, is_none_or}
use Rattle.ace_model.specs.Transactions.{write_kind}
use Rattle.ace_model.specs.Values.{stores_data}
use Rattle.ace_model.specs.Writes.{beats, data_writes, next_write, next_write_beat}
use Rattle.ace_runs.specs.Acts.{data_of_operation}
use Rattle.ace_runs.specs.Bursts.{are_kept, onto}
use Rattle.ace_runs.specs.MasterSteps.{may_send, sends}
use Rattle.ace_runs.specs.Operations.{operation_behind}
use Rattle.ace_runs.specs.Segments.{acts_made}
use Rattle.ace_engine.specs.Engines.{IsLegal}
use Rattle.ace_portck.specs.declared.target.WriteData.{WriteData}
use Rattle.ace_master_laws.specs.Chosen.{AreChosen}
use Rattle.ace_master.specs.Lite.{kind_written}

-- The write was issued for the data of an operation, and these are they.
pub record IsForData (plan : Plan) (past : Trace) (x : Transaction) (d : WriteData) : Type 0 where
  pub behind : Op
  pub is_behind : operation_behind plan past x ≡ Some behind
  pub kind : write_kind x ≡ kind_written behind
  pub carries : data_of_operation behind ≡ Some (d.strobe, d.line)

-- These are the data of the operation for which the port's next write to send was issued, where it
-- was for one's data.
abbrev pub KeepsData : Plan → Trace → ℕ → Option WriteData → Type 0
KeepsData plan past p unsent =
    (x : Transaction) → next_write past p ≡ Some x → stores_data x ≡ true
    → (d : WriteData) × (unsent ≡ Some d) × IsForData plan past x d

-- the strobe of beat n
abbrev pub strobe_of : WriteData → ℕ → ℕ
strobe_of d n = d.strobe / 65536 ^ n % 65536

-- What the write has to carry, if it is the port's next one to send: beats that its kind asks for,
-- and the data of its operation.
pub record Carries (plan : Plan) (past : Trace) (x : Transaction) (d : WriteData) : Type 0 where
  pub fits : (n : ℕ) → n < 4 → is_none_or (write_kind x)
      (fits_write past x n (strobe_of d n) (word_of d.line n)) ≡ true
  pub carried : stores_data x ≡ true → (op : Op) × (operation_behind plan past x ≡ Some op)
      × (data_of_operation op ≡ Some (d.strobe, d.line))

abbrev pub IsDataOf : Plan → Trace → ℕ → Transaction → WriteData → Type 0
IsDataOf plan past p x d = IsLegal plan past → next_write past p ≡ Some x → Carries plan past x d

-- The burst is write data that a step of the port sends, and the trace stays legal with it: it is
-- the whole burst of the next write.
pub record IsSent (plan : Plan) (past : Trace) (p : ℕ) (burst : List Event) : Type 0 where
  pub may : may_send plan.header past p ≡ true
  pub step : sends plan.header past p burst ≡ true
  pub kept : are_kept plan.header past burst ≡ true
  pub chosen : AreChosen plan past burst
  pub legal : IsLegal plan (onto burst past)
  pub made : acts_made (onto burst past) p ≡ acts_made past p
  pub writes : data_writes (onto burst past) p ≡ data_writes past p
  pub more : length (beats (onto burst past) p) ≡ length (beats past p) + 4

-- What a master keeps of the burst that it hasn't sent: bursts are whole, all but that of the last
-- write with data are sent, and these are the data for that.
pub record UnsentStands (plan : Plan) (past : Trace) (p : ℕ)
    (unsent : Option WriteData) : Type 0 where
  pub whole : next_write_beat past p ≡ 0
  pub last : 4 * length (data_writes past p) ≤ length (beats past p) + 4
  pub data_is : KeepsData plan past p unsent
