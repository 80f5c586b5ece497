-- What is kept of the grant of a line says what there is to say of it after a trace.
use Rattle.std.specs.Prelude.{ℕ, ◌≡◌, Bool, false, not, ◌&&◌, ◌==◌, if◌then◌else◌, List, slice_get, replicate, nat_lt, Option, Some, None, unwrap_or, option_map, option_and_then}
use Rattle.ace_event.specs.declared.event.Event.{Event}
use Rattle.ace_event.specs.declared.event.Event.TheVariants.{R, Rk, B, Wk}
use Rattle.ace_event.specs.declared.header.Header.{Header}
use Rattle.ace_event.specs.declared.line.Line.{Line}
use Rattle.ace_model.specs.declared.snoops.Answer.{Answer}
use Rattle.ace_model.specs.declared.transactions.Transaction.{Transaction}
use Rattle.ace_model.specs.Trace.{Trace, newer, is_some_and}
use Rattle.ace_model.specs.Transactions.{is_ace, is_read, transfers}
use Rattle.ace_model.specs.Writes.{has_memory_write}
use Rattle.ace_model.specs.Grants.{granted, is_begun, was_snooped, answer_of, is_short, has_sharer, passer}
use Rattle.ace_model.specs.Copies.{zero_line}
use Rattle.ace_model.specs.Replies.{copy_at_answer, first_sender, memory_at_first_beat}
use Rattle.ace_portck.specs.declared.target.Progress.{Progress}
use Rattle.ace_portck.specs.Target.{Target}
use Rattle.ace_lineck.specs.declared.record.Holder.{Holder}
use Rattle.ace_lineck.specs.declared.stages.Stage.{Stage}
use Rattle.ace_lineck.specs.declared.stages.Stage.TheVariants.{Unsnooped, Unanswered, Sending, Done}
use Rattle.ace_lineck.specs.declared.grant.Passed.{Passed}
use Rattle.ace_lineck.specs.declared.grant.Grant.{Grant}
use Rattle.ace_lineck.specs.Holders.{HoldersStand, MemoryStands, IsLineStep}

-- how far the snoop of a port has come: whether it was snooped, and its answer, tell it
abbrev pub stage_by : Trace → ℕ → Bool → Option Answer → Stage
stage_by past p snooped None = if snooped then Unanswered else Unsnooped
stage_by past p snooped (Some a) = if is_short past p a then Sending else Done

-- how far the port's snoop under the present grant of the line has come
abbrev pub stage_of : Trace → ℕ → ℕ → Stage
stage_of past p l = stage_by past p (was_snooped past p l) (answer_of past p l)

-- what is kept of the port: a port for which nothing is kept wasn't snooped
abbrev pub stage_at : List Stage → ℕ → Stage
stage_at stages p = unwrap_or (slice_get stages p) Unsnooped

-- the same, of a line without a grant nothing
abbrev pub stage_under : Option Grant → ℕ → Stage
stage_under None p = Unsnooped
stage_under (Some g) p = stage_at g.stages p

-- the port that answered with PassDirty under the grant of the line, and its copy at that answer
abbrev pub passed_by : Header → Trace → ℕ → Option Passed
passed_by h past l =
    option_map (λ p. record { port = p; line = unwrap_or (copy_at_answer past l p) zero_line })
    (passer h past l)

-- memory of the line of a read at the point before its first beat, where it has had one
abbrev pub fetched : Trace → Transaction → Option Line
fetched past x =
    if is_read x.chan && not (transfers past x.port x.id == 0)
    then Some (memory_at_first_beat past x.port x.id x.addr) else None

-- The reply of the granted read of the line, as soon as it is settled: the copy of the first port
-- that sent data, or else memory at the first beat.
abbrev pub settled_reply : Trace → ℕ → Transaction → Option Line
settled_reply past l x =
    newer (option_and_then (copy_at_answer past l) (first_sender past l)) (fetched past x)

-- what is kept is the grant of the line, and what came under it
pub record GrantFits (h : Header) (past : Trace) (l : ℕ) (g : Grant) : Type 0 where
  pub granted : granted h past l ≡ Some g.transaction
  pub begun : g.begun ≡ is_begun past g.transaction
  pub written : g.written
      ≡ has_memory_write past g.transaction.port g.transaction.chan g.transaction.id
  pub stages : (p : ℕ) → stage_at g.stages p ≡ stage_of past p l
  pub shared : g.shared ≡ has_sharer h past l
  pub passed : g.passed ≡ passed_by h past l
  pub reply : g.reply ≡ settled_reply past l g.transaction

-- nothing is kept exactly where no transaction on the line is granted
abbrev pub GrantStands : Header → Trace → ℕ → Option Grant → Type 0
GrantStands h past l None = granted h past l ≡ None
GrantStands h past l (Some g) = GrantFits h past l g

-- a grant under which nothing has come
abbrev pub fresh_grant : Transaction → Grant
fresh_grant x = record {
  transaction = x;
  begun = false;
  written = false;
  stages = replicate 32 Unsnooped;
  shared = false;
  passed = None;
  reply = None;
}

-- what an event belongs to is this transaction
abbrev pub is_of : Option Progress → Transaction → Bool
is_of target x = is_some_and target (λ y. y.transaction.place == x.place)

-- With the event its transaction is no longer outstanding, where that is the granted one: at an ACE
-- port it ends with its RK or WK, at an ACE-Lite port with its last R or its B.
abbrev pub is_over : Header → Event → Bool → Bool
is_over h (Rk p st) own = own
is_over h (Wk p st) own = own
is_over h (R p i resp last word) own = last && not (is_ace h p) && own
is_over h (B p i resp) own = not (is_ace h p) && own
is_over h e own = false

-- the port has come to this stage, and the others haven't moved
abbrev pub IsMoved : List Stage → List Stage → ℕ → Stage → Type 0
IsMoved old new q stage =
    (p : ℕ) → stage_at new p ≡ (if (p == q) && nat_lt p 32 then stage else stage_at old p)

-- the event is the next of the line, and what is kept of the line stands
pub record IsGrantStep (h : Header) (past : Trace) (l : ℕ) (e : Event) (t : Target)
    (g : Option Grant) (xs : List Holder) (line : Line) : Type 0 where
  pub step : IsLineStep h past l e t
  pub grant : GrantStands h past l g
  pub holders : HoldersStand past l xs
  pub memory : MemoryStands past l line
