-- What the rules of a grant ask, asked of what is kept of the line.
use Rattle.std.specs.Prelude.{ℕ, Bool, true, false, not, ◌&&◌, ◌||◌, ◌==◌, List, Option, Some, None, is_some, is_none, option_map, unwrap_or, if◌then◌else◌}
use Rattle.ace_codes.specs.declared.kind.ArKind.{ArKind}
use Rattle.ace_codes.specs.declared.kind.AwKind.{AwKind}
use Rattle.ace_codes.specs.declared.kind.AwKind.TheVariants.{WriteUnique, WriteNoSnoop}
use Rattle.ace_codes.specs.declared.state.LineState.{LineState}
use Rattle.ace_codes.specs.Responses.{passes_dirty, is_shared}
use Rattle.ace_event.specs.declared.header.Header.{Header}
use Rattle.ace_event.specs.declared.line.Line.{Line}
use Rattle.ace_event.specs.Bytes.{merged}
use Rattle.ace_model.specs.Copies.{is_line_read_transaction, word_of, same_line}
use Rattle.ace_model.specs.ReadRules.{same_upper_bits}
use Rattle.ace_tables.specs.States.{is_invalid}
use Rattle.ace_model.specs.declared.transactions.Transaction.{Transaction}
use Rattle.ace_model.specs.Trace.{implies, is_none_or, is_some_and}
use Rattle.ace_model.specs.Kinds.{takes_passed_data, may_be_shared, is_read_not_shared_dirty}
use Rattle.ace_model.specs.Transactions.{is_ace, is_line, is_read, read_kind, write_kind, snoop_of}
use Rattle.std.specs.List.{list_all}
use Rattle.ace_model.specs.Grants.{ports_below}
use Rattle.ace_model.specs.SnoopRules.{has_snoop_code}
use Rattle.ace_portck.specs.declared.target.Progress.{Progress}
use Rattle.ace_portck.specs.declared.target.WriteData.{WriteData}
use Rattle.ace_lineck.specs.declared.stages.Stage.{Stage}
use Rattle.ace_lineck.specs.declared.stages.Stage.TheVariants.{Unsnooped, Sending, Done}
use Rattle.ace_lineck.specs.declared.grant.Grant.{Grant}
use Rattle.ace_lineck.specs.States.{state_at}
use Rattle.ace_lineck.specs.Grants.{stage_at}

abbrev pub is_unsnooped : Stage → Bool
is_unsnooped Unsnooped = true
is_unsnooped _ = false

abbrev pub is_sending : Stage → Bool
is_sending Sending = true
is_sending _ = false

-- the port owes nothing, and was snooped unless it need not be
abbrev pub is_settled : Stage → Bool → Bool
is_settled Unsnooped spared = spared
is_settled Done spared = true
is_settled _ spared = false

-- K13: another port may be snooped with this code under the grant
abbrev pub may_be_snooped : Bool → Option Grant → ℕ → ℕ → Bool
may_be_snooped failed None p snoop = false
may_be_snooped failed (Some g) p snoop =
    not (g.transaction.port == p) && has_snoop_code g.transaction snoop && not failed
    && not g.begun && is_unsnooped (stage_at g.stages p)

-- the granted transaction has passed data; their burst is whole
abbrev pub has_passed : Grant → Bool
has_passed g = is_some g.passed && not g.written

abbrev pub is_passed_whole : Grant → Bool
is_passed_whole g = is_some_and g.passed (λ p. not (is_sending (stage_at g.stages p.port)))

-- the snoops under the grant are done: the port's, and all
abbrev pub is_done_at : Header → Grant → List LineState → ℕ → Bool
is_done_at h g states q =
    is_settled (stage_at g.stages q)
    ((q == g.transaction.port) || not (is_ace h q) || is_invalid (state_at states q))

abbrev pub are_done : Header → Bool → Grant → List LineState → Bool
are_done h failed g states =
    is_none (snoop_of g.transaction) || failed
    || list_all (is_done_at h g states) (ports_below h.ports)

-- the grant is that of the transaction
abbrev pub is_its : Grant → Transaction → Bool
is_its g x = g.transaction.place == x.place

-- K18: the transfer of a line read is one that its grant lets through
abbrev pub takes_data : Grant → Transaction → ℕ → Bool
takes_data g x resp =
    is_some_and (read_kind x) takes_passed_data && is_passed_whole g && passes_dirty resp

abbrev pub may_have_beat : Header → Bool → Option Grant → List LineState → Progress → ℕ → Bool
may_have_beat h failed None states x resp = false
may_have_beat h failed (Some g) states x resp =
    is_its g x.transaction && implies (x.transfers == 0) (are_done h failed g states)
    && implies (has_passed g) (takes_data g x.transaction resp)

-- the reply of the granted read: memory, as long as it isn't settled
abbrev pub reply_kept : Option Grant → Line → Line
reply_kept None memory = memory
reply_kept (Some g) memory = unwrap_or g.reply memory

-- K20: the word is that of the reply, or 0 of a dataless transfer
abbrev pub fits_reply : Option Grant → Line → ℕ → Progress → Bool
fits_reply grant memory word x =
    word
    == (if is_line_read_transaction x.transaction then word_of (reply_kept grant memory) x.transfers
    else 0)

-- K19: the upper bits of the response fit the kind, where there are passed data or not, and an
-- answer with IsShared or not
abbrev pub fits_shared : Header → Bool → ℕ → Transaction → ArKind → Bool
fits_shared h shared resp x k =
    implies (is_shared resp) (may_be_shared k)
    && not (is_read_not_shared_dirty k && passes_dirty resp && is_shared resp)
    && implies (is_ace h x.port && may_be_shared k && shared) (is_shared resp)

abbrev pub fits_bits : Header → Bool → Bool → ℕ → Progress → Bool
fits_bits h passed shared resp x =
    implies (passes_dirty resp) passed
    && is_none_or (read_kind x.transaction) (fits_shared h shared resp x.transaction)
    && implies (passes_dirty resp || is_shared resp) (is_ace h x.transaction.port)
    && (if x.transfers == 0 then true else same_upper_bits resp x.response)

-- the granted transaction is this one, and has passed data; an answer under the grant has IsShared
abbrev pub has_passed_for : Option Grant → Transaction → Bool
has_passed_for grant x = is_line x && is_some_and grant (λ g. is_its g x && has_passed g)

abbrev pub is_shared_under : Option Grant → Bool
is_shared_under grant = is_some_and grant (λ g. g.shared)

-- the passed data of the line
abbrev pub passed_kept : Option Grant → Option Line
passed_kept None = None
passed_kept (Some g) = if has_passed g then option_map (λ p. p.line) g.passed else None

-- K25: what a write of this kind writes
abbrev pub written_kept : Option Line → Line → WriteData → AwKind → Line
written_kept passed memory burst WriteUnique =
    merged (unwrap_or passed memory) burst.strobe burst.line
written_kept passed memory burst WriteNoSnoop = merged memory burst.strobe burst.line
written_kept passed memory burst _ = burst.line

-- the line is the one that the transaction writes
abbrev pub fits_data : Option Line → Line → Option WriteData → Line → Transaction → Bool
fits_data passed memory burst line x =
    if is_read x.chan then is_none_or passed (same_line line)
    else is_none_or burst
    (λ b. is_none_or (write_kind x) (λ k. same_line line (written_kept passed memory b k)))
