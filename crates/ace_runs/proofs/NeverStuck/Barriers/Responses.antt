-- Responses, and the channel of what has them.
use Rattle.std.proofs.Common.{◌≡◌, ℕ, Bool, true, false, not, ◌&&◌, ◌||◌, ◌==◌, [], ◌∷◌, ◌++◌, Option, Some, None, inl, inr, refl, ap}
use Rattle.std.specs.List.{list_all}
use Rattle.std.proofs.lemmas.Bool.{and_from, or_right, cases_Bool, eq-eqb}
use Rattle.ace_codes.specs.declared.kind.AwKind.{AwKind}
use Rattle.ace_codes.specs.declared.kind.AwKind.TheVariants as write
use Rattle.ace_event.specs.declared.event.Event.{Event}
use Rattle.ace_event.specs.declared.event.Event.TheVariants.{Ar, R, Aw, B}
use Rattle.ace_event.specs.declared.header.Header.{Header}
use Rattle.ace_model.specs.declared.transactions.Transaction.{Transaction}
use Rattle.ace_model.specs.Kinds.{is_evict, is_line_read, is_line_write}
use Rattle.ace_model.specs.Messages.{is_dvm_completion, is_message_part}
use Rattle.ace_model.specs.Progress.{evicts}
use Rattle.ace_model.specs.Trace.{Trace, is_some_and}
use Rattle.ace_model.specs.Transactions.{is_line, is_read, read_kind, write_kind}
use Rattle.ace_runs.specs.LineSteps.{memory_write, response}
use Rattle.ace_runs.proofs.NeverStuck.Steps.SameEvents.{TellsSame, tells-same}
use Rattle.ace_runs.proofs.NeverStuck.Steps.Lists.{all-append}
use Rattle.ace_runs.proofs.NeverStuck.Steps.Serving.{written-all}

-- it issues no transaction, and a response is one for this transaction
abbrev pub is_response_for : Transaction → Event → Bool
is_response_for x (Ar q i addr snoop dom bar lock) = false
is_response_for x (Aw q i addr snoop dom bar) = false
is_response_for x (R q i resp last word) = is_read x.chan && (x.port == q) && (x.id == i)
is_response_for x (B q i resp) = not (is_read x.chan) && (x.port == q) && (x.id == i)
is_response_for x _ = true

-- ---- responses ---------------------------------------------------------------------------------------

pub same-response : (x : Transaction) → TellsSame (is_response_for x)
same-response x = tells-same (is_response_for x) (λ p c i line. refl) (λ p a s x line. refl) (λ a line. refl)

pub response-for : (x : Transaction) → is_read x.chan ≡ false → list_all (is_response_for x) (response x) ≡ true
response-for x writes = and_from _ _ (and_from _ _ (and_from _ _ (ap not writes) (eq-eqb x.port x.port refl)) (eq-eqb x.id x.id refl)) refl

pub transfer-for : (x : Transaction) (resp : ℕ) (last : Bool) (word : ℕ) → is_read x.chan ≡ true → list_all (is_response_for x) (R x.port x.id resp last word ∷ []) ≡ true
transfer-for x resp last word reads = and_from _ _ (and_from _ _ (and_from _ _ reads (eq-eqb x.port x.port refl)) (eq-eqb x.id x.id refl)) refl

pub written-responses : (h : Header) (past : Trace) (x : Transaction) → is_read x.chan ≡ false → list_all (is_response_for x) (memory_write h past x ++ response x) ≡ true
written-responses h past x writes =
    all-append (is_response_for x) (memory_write h past x) (response x)
    (written-all (is_response_for x) (λ p c i line. refl) h past x)
    (response-for x writes)

-- ---- lines and reads ---------------------------------------------------------------------------------

pub evicts-line : (x : Transaction) → evicts x ≡ true → is_line x ≡ true
evicts-line x v = or_right (is_some_and (read_kind x) is_line_read) _ (of (write_kind x) v)
  where
    of : (o : Option AwKind) → is_some_and o is_evict ≡ true → is_some_and o is_line_write ≡ true
    of None v = cc
    of (Some write.Evict) v = refl
    of (Some k) v = cc

pub dvm-reads : (x : Transaction) → (is_message_part x || is_dvm_completion x) ≡ true → is_read x.chan ≡ true
dvm-reads x d =
    elim (cases_Bool (is_read x.chan)) [
      | inl t ↦ t
      | inr f ↦ let none : read_kind x ≡ None = rw f refl in let bad : (false || false) ≡ true = rw none at d in cc
    ]
