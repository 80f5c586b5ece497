-- The next transfer of a read, as it is told from how far the read has come.
use Rattle.std.proofs.Common.{◌≡◌, ℕ, ◌+◌, ◌==◌, Bool, true, if◌then◌else◌, ap, ◌∙◌}
use Rattle.ace_event.specs.declared.event.Event.TheVariants.{R}
use Rattle.ace_event.specs.declared.header.Header.{Header}
use Rattle.ace_event.specs.declared.line.Line.{Line}
use Rattle.ace_model.specs.declared.transactions.Transaction.{Transaction}
use Rattle.ace_model.specs.Copies.{is_line_read_transaction, word_of}
use Rattle.ace_model.specs.Grants.{has_passed_data}
use Rattle.ace_model.specs.Kinds.{beats_of}
use Rattle.ace_model.specs.ReadRules.{is_exclusive_okay, must_be_shared}
use Rattle.ace_model.specs.Replies.{reply_of}
use Rattle.ace_model.specs.Trace.{Trace, is_some_and}
use Rattle.ace_model.specs.Transactions.{is_read, read_kind, transfers}
use Rattle.ace_runs.specs.LineSteps.{bit_if, is_last_beat, next_word, response_bits}
use Rattle.ace_portck.specs.declared.target.Progress.{Progress}
use Rattle.ace_portck.specs.Targets.{progress_of}

-- the transfers of a read
pub transfers-told : (h : Header) (past : Trace) (x : Progress) → x ≡ progress_of h past x.transaction → is_read x.transaction.chan ≡ true
    → x.transfers ≡ transfers past x.transaction.port x.transaction.id
transfers-told h past x is reads =
    ap (λ (v : Progress). v.transfers) is ∙ ap (λ (b : Bool). if b then transfers past x.transaction.port x.transaction.id else 0) reads

pub bits-are : (h : Header) (past : Trace) (x : Transaction) (dirty shared okay : Bool) (resp : ℕ) → resp ≡ bit_if 4 dirty + bit_if 8 shared + bit_if 1 okay
    → dirty ≡ has_passed_data h past x → shared ≡ is_some_and (read_kind x) (must_be_shared h past x) → okay ≡ is_exclusive_okay past x → resp ≡ response_bits h past x
bits-are h past x dirty shared okay resp is d s o =
    is ∙ ap (λ b. bit_if 4 b + bit_if 8 shared + bit_if 1 okay) d
    ∙ ap (λ b. bit_if 4 (has_passed_data h past x) + bit_if 8 b + bit_if 1 okay) s
    ∙ ap (λ b. bit_if 4 (has_passed_data h past x) + bit_if 8 (is_some_and (read_kind x) (must_be_shared h past x)) + bit_if 1 b) o

pub same-transfer : (h : Header) (past : Trace) (x : Transaction) (n resp : ℕ) (reply : Line) → n ≡ transfers past x.port x.id → resp ≡ response_bits h past x → reply ≡ reply_of past x
    → R x.port x.id resp (is_some_and (read_kind x) (λ k. n + 1 == beats_of k)) (if is_line_read_transaction x then word_of reply n else 0)
    ≡ R x.port x.id (response_bits h past x) (is_last_beat past x) (next_word past x)
same-transfer h past x n resp reply count bits line =
    ap (λ m. R x.port x.id resp (is_some_and (read_kind x) (λ k. m + 1 == beats_of k)) (if is_line_read_transaction x then word_of reply m else 0)) count
    ∙ ap (λ b. R x.port x.id b (is_last_beat past x) (if is_line_read_transaction x then word_of reply (transfers past x.port x.id) else 0)) bits
    ∙ ap (λ l. R x.port x.id (response_bits h past x) (is_last_beat past x) (if is_line_read_transaction x then word_of l (transfers past x.port x.id) else 0)) line
