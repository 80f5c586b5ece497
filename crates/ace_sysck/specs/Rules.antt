-- When the rules over several groups may be asked, and which rules look at an event of a kind.
use Rattle.std.specs.Prelude.{ℕ, ◌≡◌, Bool, not, ◌&&◌, ◌==◌, Option, is_some, slice_index_or}
use Rattle.ace_event.specs.declared.event.Event.{Event}
use Rattle.ace_event.specs.declared.header.Header.{Header}
use Rattle.ace_model.specs.declared.transactions.Transaction.{Transaction}
use Rattle.ace_model.specs.Trace.{implies, is_some_and}
use Rattle.ace_model.specs.Kinds.{is_clean_unique}
use Rattle.ace_model.specs.Transactions.{read_kind, is_exclusive_store}
use Rattle.ace_portck.specs.Target.{Target}
use Rattle.ace_portck.specs.Targets.{Recording}
use Rattle.ace_sysck.specs.declared.messages.Messages.{Messages}
use Rattle.ace_sysck.specs.declared.messages.PortMessages.{PortMessages}
use Rattle.ace_sysck.specs.declared.syncs.Syncs.{Syncs}
use Rattle.ace_sysck.specs.Steps.{IsAsked}
use Rattle.ace_sysck.specs.Messages.{MessagesStand, silent}
use Rattle.ace_sysck.specs.Syncs.{SyncsStand, completes_all}

-- for K39
pub record MayAskK39 (r : Recording) (h : Header) (m : Messages) (s : Syncs) (e : Event)
    (t : Target) : Type 0 where
  pub asked : IsAsked r e t
  pub header : h ≡ r.header
  pub messages : MessagesStand r m
  pub syncs : SyncsStand r s

-- the read is an exclusive load, or an exclusive store that passed
abbrev pub is_okay : Transaction → Option Bool → Bool
is_okay x passed =
    x.lock && implies (is_some_and (read_kind x) is_clean_unique)
    (is_exclusive_store x && is_some_and passed (λ p. p))

-- the port's last Sync may have its AC DVM Complete with the address
abbrev pub completes_with : PortMessages → Header → Syncs → ℕ → ℕ → Bool
completes_with m h s p addr =
    (addr == 0) && is_some m.sync && m.sync_done && not m.sync_completed && completes_all h s p

abbrev pub completes_now : Header → Messages → Syncs → ℕ → ℕ → Bool
completes_now h m s p addr = completes_with (slice_index_or m.ports.items p silent) h s p addr
