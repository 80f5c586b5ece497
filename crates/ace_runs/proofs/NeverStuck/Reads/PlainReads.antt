-- The transfer of an outstanding read without a line that isn't complete breaks no rule, but for those on order.
use Rattle.std.proofs.Common.{◌≡◌, Bool, true, false, not, ◌&&◌, ◌==◌, if◌then◌else◌, Some, refl, sym, ap, subst, ◌∙◌, arith}
use Rattle.std.proofs.lemmas.Bool.{and_parts, and_from, false_from_ne_true}
use Rattle.ace_codes.specs.Responses.{is_shared, low_bits, passes_dirty}
use Rattle.ace_codes.specs.declared.kind.ArKind.{ArKind}
use Rattle.ace_codes.specs.declared.kind.ArKind.TheVariants as read
use Rattle.ace_event.specs.declared.event.Channel.TheVariants.{Read}
use Rattle.ace_event.specs.declared.event.Event.{Event}
use Rattle.ace_event.specs.declared.header.Header.{Header}
use Rattle.ace_model.specs.declared.transactions.Transaction.{Transaction}
use Rattle.ace_model.specs.Accepted.{IsAccepted}
use Rattle.ace_model.specs.AddressRules.{may_lock}
use Rattle.ace_model.specs.Copies.{is_line_read_transaction, word_of}
use Rattle.ace_model.specs.Grants.{has_sharer}
use Rattle.ace_model.specs.Kinds.{beats_of, is_line_read, is_read_not_shared_dirty, may_be_exclusive, may_be_shared, reads_a_line}
use Rattle.ace_model.specs.Messages.{is_message_part}
use Rattle.ace_model.specs.OrderRules.{is_answered_by_all, k34, k37, may_answer_half}
use Rattle.ace_model.specs.Progress.{is_completed}
use Rattle.ace_model.specs.ReadRules.{fits_kind, has_low_bits, has_upper_bits, has_word, is_due, is_exclusive_okay, is_next_transfer, k18, k19, k20, k21, may_transfer, same_upper_bits}
use Rattle.ace_model.specs.Replies.{reply_of}
use Rattle.ace_model.specs.Trace.{Trace, implies, is_none_or, is_some_and}
use Rattle.ace_model.specs.Transactions.{first_resp, is_ace, is_complete, is_outstanding, outstanding, read_kind, transfers}
use Rattle.ace_model.proofs.General.Booleans.{implies-at}
use Rattle.ace_model.proofs.Outstanding.Names.{complete_by_name}
use Rattle.ace_model.proofs.Rules.Keeps.{accepted_keeps}
use Rattle.ace_model.proofs.Trace.Growth.{IsIssued}
use Rattle.ace_model.proofs.Trace.Issued.{outstanding-named}
use Rattle.ace_model.proofs.Trace.LineOnce.{outstanding_is}
use Rattle.ace_model.proofs.Trace.Looks.{is_read-is, read_writes_none}
use Rattle.ace_runs.specs.Bursts.{is_kept}
use Rattle.ace_runs.specs.OrderSteps.{plain_transfer}
use Rattle.ace_runs.proofs.NeverStuck.Reads.PlainTransfers.{no-line}
use Rattle.ace_runs.proofs.NeverStuck.Reads.ReadsMove.{no-first}
use Rattle.ace_runs.proofs.NeverStuck.Reads.TransfersKept.{transfer-kept}
use Rattle.ace_runs.proofs.NeverStuck.Reads.TransfersLeft.{transfers-left}
use Rattle.ace_model.proofs.Trace.IssuedTransactions.{issuer-low, issued-by-rule}

-- ---- kinds without a line ----------------------------------------------------------------------------

-- A read of such a kind has one transfer, no line, and may be neither shared nor exclusive.
record IsWithoutLine (k : ArKind) : Type 0 where
  beats : beats_of k ≡ 1
  dataless : reads_a_line k ≡ false
  unshared : may_be_shared k ≡ false
  inclusive : may_be_exclusive k ≡ false

without-line : (k : ArKind) → is_line_read k ≡ false → IsWithoutLine k
without-line read.Barrier none = record { beats = refl; dataless = refl; unshared = refl; inclusive = refl }
without-line read.DvmComplete none = record { beats = refl; dataless = refl; unshared = refl; inclusive = refl }
without-line read.DvmMessage none = record { beats = refl; dataless = refl; unshared = refl; inclusive = refl }
without-line k none = cc

-- ---- locks -------------------------------------------------------------------------------------------

-- K7, at each transaction of the trace
lock-allowed : (h : Header) (past : Trace) (x : Transaction) → IsAccepted h past → IsIssued past x → may_lock h x ≡ true
lock-allowed h past x a i = issued-by-rule (may_lock h) h (λ past e a. (accepted_keeps h past e a).rule_7) past x a i

unlocked : (h : Header) (past : Trace) (x : Transaction) (k : ArKind) → IsAccepted h past → IsIssued past x → read_kind x ≡ Some k → is_line_read k ≡ false → x.lock ≡ false
unlocked h past x k a i kind none =
    false_from_ne_true x.lock (λ locked.
    let may = implies-at x.lock (is_ace h x.port && is_some_and (read_kind x) may_be_exclusive) (lock-allowed h past x a i) locked in
    let exclusive = (and_parts (is_ace h x.port) (is_some_and (read_kind x) may_be_exclusive) may).1 in
    let not_so : is_some_and (read_kind x) may_be_exclusive ≡ false = ap (λ o. is_some_and o may_be_exclusive) kind ∙ (without-line k none).inclusive in
    let bad : false ≡ true = sym not_so ∙ exclusive in cc)

-- ---- the rules ---------------------------------------------------------------------------------------

-- An outstanding read of a kind without a line, before its one transfer.
record IsPlain (h : Header) (past : Trace) (x : Transaction) (k : ArKind) : Type 0 where
  accepted : IsAccepted h past
  there : IsIssued past x
  out : outstanding h past x.port Read x.id ≡ Some x
  kind : read_kind x ≡ Some k
  plain : is_line_read k ≡ false
  none_yet : transfers past x.port x.id ≡ 0

module _ (h : Header) (past : Trace) (x : Transaction) (k : ArKind) (p : IsPlain h past x k) where
  -- K18
  due : is_due h past 0 true x ≡ true
  due =
      let none = p.none_yet in
      let one = (without-line k p.plain).beats in
      let next : is_next_transfer past x true k ≡ true = rw (none, one) refl in
      let line = no-line x k p.kind p.plain in
      and_from _ _ (ap (λ o. is_some_and o (is_next_transfer past x true)) p.kind ∙ next) (ap (λ b. implies b (may_transfer h past x 0)) line)

  unshared : (a m s : Bool) → m ≡ false → implies (a && m && s) false ≡ true
  unshared true true s f = cc
  unshared true false s f = refl
  unshared false m s f = refl

  -- K19
  upper : has_upper_bits h past 0 x ≡ true
  upper =
      let fits : fits_kind h past x 0 k ≡ true = and_from _ _ (no-bits k) (unshared (is_ace h x.port) (may_be_shared k) (has_sharer h past x.addr) (without-line k p.plain).unshared) in
      let none : is_none_or (first_resp past x.port x.id) (same_upper_bits 0) ≡ true = ap (λ o. is_none_or o (same_upper_bits 0)) (no-first past x.port x.id p.none_yet) in
      and_from _ _ (and_from _ _ (ap (λ o. is_none_or o (fits_kind h past x 0)) p.kind ∙ fits) refl) none
    where
      no-bits : (k : ArKind) → (implies (is_shared 0) (may_be_shared k) && not (is_read_not_shared_dirty k && passes_dirty 0 && is_shared 0)) ≡ true
      no-bits read.ReadNotSharedDirty = refl
      no-bits k = refl

  -- K20
  word : has_word past 0 x ≡ true
  word =
      let dataless : is_line_read_transaction x ≡ false = ap (λ o. is_some_and o reads_a_line) p.kind ∙ (without-line k p.plain).dataless in
      ap (λ b. 0 == (if b then word_of (reply_of past x) (transfers past x.port x.id) else 0)) dataless

  -- K21
  low : has_low_bits past 0 x ≡ true
  low =
      let lock = unlocked h past x k p.accepted p.there p.kind p.plain in
      let inclusive : is_exclusive_okay past x ≡ false = rw lock refl in
      ap (λ b. low_bits 0 == (if b then 1 else 0)) inclusive

  kept-in-order : may_answer_half past x ≡ true → implies (is_message_part x) (is_answered_by_all h past x) ≡ true → is_kept h past (plain_transfer x) ≡ true
  kept-in-order half message =
      let e : Event = plain_transfer x in
      let out = p.out in
      let eighteen : k18 h past e ≡ true = ap (λ o. is_some_and o (is_due h past 0 true)) out ∙ due in
      let nineteen : k19 h past e ≡ true = ap (λ o. is_none_or o (has_upper_bits h past 0)) out ∙ upper in
      let twenty : k20 h past e ≡ true = ap (λ o. is_none_or o (has_word past 0)) out ∙ word in
      let twenty_one : k21 h past e ≡ true = ap (λ o. is_none_or o (has_low_bits past 0)) out ∙ low in
      let thirty_four : k34 h past e ≡ true = ap (λ o. is_none_or o (may_answer_half past)) out ∙ half in
      let thirty_seven : k37 h past e ≡ true = ap (λ o. is_none_or o (λ x. implies (is_message_part x) (is_answered_by_all h past x))) out ∙ message in
      transfer-kept h past x.port x.id 0 true 0 (and_from _ _ (issuer-low h past x p.accepted p.there) refl) refl eighteen nineteen twenty twenty_one thirty_four thirty_seven

-- Where the rules on order allow it, the transfer of a read without a line that is outstanding and not complete breaks no rule.
pub plain-kept : (h : Header) (past : Trace) (x : Transaction) (k : ArKind) → IsAccepted h past → IsIssued past x → is_outstanding h past x ≡ true → is_completed past x ≡ false
    → read_kind x ≡ Some k → is_line_read k ≡ false → may_answer_half past x ≡ true → implies (is_message_part x) (is_answered_by_all h past x) ≡ true
    → is_kept h past (plain_transfer x) ≡ true
plain-kept h past x k a i is_out undone kind plain half message =
    let chan = is_read-is x.chan (read_writes_none x k kind).1 in
    let out : outstanding h past x.port Read x.id ≡ Some x = subst (λ c. outstanding h past x.port c x.id ≡ Some x) chan (outstanding_is h past x i is_out) in
    let incomplete : is_complete past x.port Read x.id ≡ false = complete_by_name past x.port Read x.id x (outstanding-named h past x.port Read x.id x out) ∙ undone in
    let left = transfers-left h past x.port x.id x k a out kind incomplete in
    let one = (without-line k plain).beats in
    let p : IsPlain h past x k = record { accepted = a; there = i; out = out; kind = kind; plain = plain; none_yet = omega (arith, left, one) } in
    kept-in-order h past x k p half message
