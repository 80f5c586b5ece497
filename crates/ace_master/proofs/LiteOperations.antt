-- What each operation of an ACE-Lite port asks for, and when it is done.
use Rattle.std.proofs.Common.{◌≡◌, ℕ, true, false, if◌then◌else◌, [], ◌∷◌, Option, Some, None, refl, subst}
use Rattle.ace_codes.specs.declared.kind.ArKind.{ArKind}
use Rattle.ace_codes.specs.declared.kind.AwKind.{AwKind}
use Rattle.ace_codes.specs.declared.state.LineState.TheVariants.{I}
use Rattle.ace_codes.specs.Places.{is_at, is_barrier}
use Rattle.ace_codes.specs.Reads.{ar_code, read_place}
use Rattle.ace_codes.specs.Writes.{aw_code, write_place}
use Rattle.ace_event.specs.declared.header.Header.{Header}
use Rattle.ace_event.specs.declared.line.Line.{Line}
use Rattle.ace_tables.specs.StartStates.{starts_read, starts_write}
use Rattle.ace_model.specs.declared.plans.Op.{Op}
use Rattle.ace_model.specs.declared.plans.Op.TheVariants.{Ro, Cs, Ci, Mi, Rn, Wu, Wlu, Wn, Mb, Sb}
use Rattle.ace_model.specs.AddressRules.{gives_up}
use Rattle.ace_model.specs.Kinds.{is_dvm_complete, is_granted_write, is_line_read, is_line_write, is_lite_read, is_lite_write, is_no_snoop_read, is_no_snoop_write, is_read_barrier, is_write_barrier}
use Rattle.ace_model.specs.Plans.{line_named, wants_no_snoop}
use Rattle.ace_model.specs.Trace.{Trace}
use Rattle.ace_runs.specs.Acts.{acts_of, begins_on_reads, begins_on_writes, data_of_operation, is_act_read, issues_read, issues_write}
use Rattle.ace_runs.specs.Closing.{access_of}
use Rattle.ace_runs.specs.Requests.{Reads, Writes, Barriers, domain_for, request_of}
use Rattle.ace_runs.specs.Retiring.{are_acts_done, is_met, may_fail, may_skip}
use Rattle.ace_runs.proofs.NeverStuck.Barriers.Acts.{is_barrier_operation}
use Rattle.ace_master.specs.declared.lite_requests.LiteRequest.{LiteRequest}
use Rattle.ace_master.specs.declared.lite_requests.LiteRequest.TheVariants.{Read, Write, Barrier}
use Rattle.ace_master.specs.Lite.{awaits_acts, kind_written}
use Rattle.ace_master.specs.LiteRequests.{lite_request}

-- it is never left out, doesn't fail, and is no load or store
pub record IsPlain (op : Op) : Type 0 where
  pub skip : (h : Header) (past : Trace) (p : ℕ) → may_skip h past p op ≡ false
  pub fail : (h : Header) (past : Trace) (p : ℕ) → may_fail h past p op ≡ false
  pub access : (past : Trace) (p : ℕ) → access_of past p op ≡ None

-- a read of the line
pub record IsRead (op : Op) (k : ArKind) (a : ℕ) : Type 0 where
  pub acts : acts_of op ≡ issues_read k a ∷ []
  pub line : line_named op ≡ Some a
  pub asks : request_of op I ≡ Reads k a false
  pub awaits : awaits_acts op ≡ true
  pub of_line : is_line_read k ≡ true
  pub lite : is_lite_read k ≡ true
  pub class : wants_no_snoop op ≡ is_no_snoop_read k
  pub starts : starts_read k I ≡ true
  pub at : is_at (read_place k) (ar_code k) (domain_for (is_no_snoop_read k)) 0 ≡ true
  pub act : is_act_read k ≡ true
  pub completes : is_dvm_complete k ≡ false
  pub half : is_read_barrier k ≡ false
  pub met : (h : Header) (past : Trace) (p : ℕ) → is_met h past p op ≡ are_acts_done h past p
  pub plain : IsPlain op

-- A write of the line. One without a snoop is waited for.
pub record IsWrite (op : Op) (k : AwKind) (a : ℕ) : Type 0 where
  pub acts : acts_of op ≡ issues_write k a ∷ []
  pub line : line_named op ≡ Some a
  pub asks : request_of op I ≡ Writes k a
  pub awaits : awaits_acts op ≡ is_no_snoop_write k
  pub of_line : is_line_write k ≡ true
  pub lite : is_lite_write k ≡ true
  pub class : wants_no_snoop op ≡ is_no_snoop_write k
  pub starts : starts_write k I ≡ true
  pub at : is_at (write_place k) (aw_code k) (domain_for (is_no_snoop_write k)) 0 ≡ true
  pub granted : is_granted_write k ≡ true
  pub apart : gives_up k ≡ false
  pub half : is_write_barrier k ≡ false
  pub kind : kind_written op ≡ Some k
  pub carries : (c : ℕ × Line) × (data_of_operation op ≡ Some c)
  pub met : (h : Header) (past : Trace) (p : ℕ) → is_met h past p op ≡ (if is_no_snoop_write k then are_acts_done h past p else true)
  pub plain : IsPlain op

-- a barrier
pub record IsBarrier (op : Op) (bar : ℕ) : Type 0 where
  pub acts : acts_of op ≡ begins_on_reads bar ∷ begins_on_writes bar ∷ []
  pub line : line_named op ≡ None
  pub asks : request_of op I ≡ Barriers bar
  pub awaits : awaits_acts op ≡ true
  pub is : is_barrier bar ≡ true
  pub sort : is_barrier_operation op ≡ true
  pub met : (h : Header) (past : Trace) (p : ℕ) → is_met h past p op ≡ are_acts_done h past p
  pub plain : IsPlain op

abbrev IsAsBy : Op → Option LiteRequest → Type 0
IsAsBy op None = Unit {0}
IsAsBy op (Some (Read k a)) = IsRead op k a
IsAsBy op (Some (Write k a)) = IsWrite op k a
IsAsBy op (Some (Barrier bar)) = IsBarrier op bar

as-by : (op : Op) → IsAsBy op (lite_request op)
as-by (Ro a) = record { acts = refl; line = refl; asks = refl; awaits = refl; of_line = refl; lite = refl; class = refl; starts = refl; at = refl; act = refl; completes = refl; half = refl; met = λ h past p. refl; plain = record { skip = λ h past p. refl; fail = λ h past p. refl; access = λ past p. refl } }
as-by (Cs a) = record { acts = refl; line = refl; asks = refl; awaits = refl; of_line = refl; lite = refl; class = refl; starts = refl; at = refl; act = refl; completes = refl; half = refl; met = λ h past p. refl; plain = record { skip = λ h past p. refl; fail = λ h past p. refl; access = λ past p. refl } }
as-by (Ci a) = record { acts = refl; line = refl; asks = refl; awaits = refl; of_line = refl; lite = refl; class = refl; starts = refl; at = refl; act = refl; completes = refl; half = refl; met = λ h past p. refl; plain = record { skip = λ h past p. refl; fail = λ h past p. refl; access = λ past p. refl } }
as-by (Mi a) = record { acts = refl; line = refl; asks = refl; awaits = refl; of_line = refl; lite = refl; class = refl; starts = refl; at = refl; act = refl; completes = refl; half = refl; met = λ h past p. refl; plain = record { skip = λ h past p. refl; fail = λ h past p. refl; access = λ past p. refl } }
as-by (Rn a) = record { acts = refl; line = refl; asks = refl; awaits = refl; of_line = refl; lite = refl; class = refl; starts = refl; at = refl; act = refl; completes = refl; half = refl; met = λ h past p. refl; plain = record { skip = λ h past p. refl; fail = λ h past p. refl; access = λ past p. refl } }
as-by (Wu a strobe line) = record { acts = refl; line = refl; asks = refl; awaits = refl; of_line = refl; lite = refl; class = refl; starts = refl; at = refl; granted = refl; apart = refl; half = refl; kind = refl; carries = (_, refl); met = λ h past p. refl; plain = record { skip = λ h past p. refl; fail = λ h past p. refl; access = λ past p. refl } }
as-by (Wlu a line) = record { acts = refl; line = refl; asks = refl; awaits = refl; of_line = refl; lite = refl; class = refl; starts = refl; at = refl; granted = refl; apart = refl; half = refl; kind = refl; carries = (_, refl); met = λ h past p. refl; plain = record { skip = λ h past p. refl; fail = λ h past p. refl; access = λ past p. refl } }
as-by (Wn a strobe line) = record { acts = refl; line = refl; asks = refl; awaits = refl; of_line = refl; lite = refl; class = refl; starts = refl; at = refl; granted = refl; apart = refl; half = refl; kind = refl; carries = (_, refl); met = λ h past p. refl; plain = record { skip = λ h past p. refl; fail = λ h past p. refl; access = λ past p. refl } }
as-by Mb = record { acts = refl; line = refl; asks = refl; awaits = refl; is = refl; sort = refl; met = λ h past p. refl; plain = record { skip = λ h past p. refl; fail = λ h past p. refl; access = λ past p. refl } }
as-by Sb = record { acts = refl; line = refl; asks = refl; awaits = refl; is = refl; sort = refl; met = λ h past p. refl; plain = record { skip = λ h past p. refl; fail = λ h past p. refl; access = λ past p. refl } }
as-by op = tt

pub read-of : (op : Op) (k : ArKind) (a : ℕ) → lite_request op ≡ Some (Read k a) → IsRead op k a
read-of op k a is = subst (IsAsBy op) is (as-by op)

pub write-of : (op : Op) (k : AwKind) (a : ℕ) → lite_request op ≡ Some (Write k a) → IsWrite op k a
write-of op k a is = subst (IsAsBy op) is (as-by op)

pub barrier-of : (op : Op) (bar : ℕ) → lite_request op ≡ Some (Barrier bar) → IsBarrier op bar
barrier-of op bar is = subst (IsAsBy op) is (as-by op)
