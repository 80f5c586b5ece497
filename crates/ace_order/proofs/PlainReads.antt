-- The R of a read without a line: where it breaks no rule, the read isn't complete; and where the read isn't complete, the rules of the system
-- decide alone.
use Rattle.std.proofs.Common.{◌≡◌, ℕ, Bool, true, false, if◌then◌else◌, ◌∷◌, Option, Some, None, is_none, is_some, not, nat_lt, refl, sym, subst, ◌∙◌, inl, inr, arith}
use Rattle.std.proofs.lemmas.Bool.{and_from, and_parts, cases_Bool, false_from_ne_true, ltb-true}
use Rattle.ace_codes.specs.declared.kind.ArKind.{ArKind}
use Rattle.ace_codes.specs.declared.kind.ArKind.TheVariants as read
use Rattle.ace_event.specs.declared.event.Channel.TheVariants.{Read}
use Rattle.ace_event.specs.declared.header.Header.{Header}
use Rattle.ace_model.specs.declared.transactions.Transaction.{Transaction}
use Rattle.ace_model.specs.Accepted.{IsAccepted, least_of}
use Rattle.ace_model.specs.AddressRules.{k1}
use Rattle.ace_model.specs.Kinds.{beats_of, is_line_read}
use Rattle.ace_model.specs.Messages.{is_message_part}
use Rattle.ace_model.specs.OrderRules.{is_answered_by_all, k34, k37, may_answer_half}
use Rattle.ace_model.specs.Progress.{is_completed}
use Rattle.ace_model.specs.ReadRules.{is_due, is_next_transfer, k18, k21}
use Rattle.ace_model.specs.Shares.{system_rules}
use Rattle.ace_model.specs.Trace.{Trace, implies, is_some_and}
use Rattle.ace_model.specs.Transactions.{is_outstanding, outstanding, read_kind, transfers}
use Rattle.ace_model.proofs.General.Options.{is_none_or-at, is_some_and-at}
use Rattle.ace_model.proofs.Outstanding.Names.{complete_by_name}
use Rattle.ace_model.proofs.Rules.Keeps.{accepted_keeps, kept}
use Rattle.ace_model.proofs.Trace.Growth.{IsIssued}
use Rattle.ace_model.proofs.Trace.Issued.{outstanding-named}
use Rattle.ace_model.proofs.Trace.LineOnce.{outstanding_is}
use Rattle.ace_model.proofs.Trace.Looks.{is_read-is, read_writes_none}
use Rattle.ace_model.proofs.Trace.Transfers.{full_some}
use Rattle.ace_model.proofs.Values.FullReads.{done_read}
use Rattle.ace_runs.specs.Bursts.{is_kept}
use Rattle.ace_runs.specs.OrderSteps.{plain_transfer}
use Rattle.ace_runs.proofs.Accepting.{kept-breaks-none}
use Rattle.ace_model.proofs.Trace.IssuedTransactions.{issuer-low}
use Rattle.ace_runs.proofs.NeverStuck.Reads.PlainReads.{plain-kept}

-- An outstanding read of a kind without a line.
pub record IsPlain (h : Header) (past : Trace) (x : Transaction) : Type 0 where
  pub accepted : IsAccepted h past
  pub issued : IsIssued past x
  pub out : is_outstanding h past x ≡ true
  pub kind : ArKind
  pub kind_is : read_kind x ≡ Some kind
  pub plain : is_line_read kind ≡ false

one-beat : (k : ArKind) → is_line_read k ≡ false → beats_of k ≡ 1
one-beat read.Barrier none = refl
one-beat read.DvmComplete none = refl
one-beat read.DvmMessage none = refl
one-beat k none = cc

pub nothing-broken : (o : Option ℕ) → is_none o ≡ true → o ≡ None
nothing-broken None t = refl
nothing-broken (Some n) t = cc

pub none-where : (o : Option ℕ) (b : Bool) → is_some o ≡ not b → b ≡ is_none o
none-where None true e = refl
none-where None false e = cc
none-where (Some x) true e = cc
none-where (Some x) false e = refl

three-keep : (a b c : Bool) → a ≡ true → b ≡ true → c ≡ true → is_none {T = ℕ} (if a then (if b then (if c then None else Some 37) else Some 34) else Some 21) ≡ true
three-keep a b c s t u = rw (s, t, u) refl

module _ (h : Header) (past : Trace) (x : Transaction) (p : IsPlain h past x) where
  pub named-out : outstanding h past x.port Read x.id ≡ Some x
  named-out =
      let chan = is_read-is x.chan (read_writes_none x p.kind p.kind_is).1 in
      subst (λ c. outstanding h past x.port c x.id ≡ Some x) chan (outstanding_is h past x p.issued p.out)

  -- a read whose R breaks no rule isn't complete
  pub kept-undone : is_kept h past (plain_transfer x) ≡ true → is_completed past x ≡ false
  kept-undone kept_now =
      let out = named-out in
      let accepted : IsAccepted h (plain_transfer x ∷ past) = (p.accepted, kept-breaks-none h past (plain_transfer x) kept_now) in
      let eighteen : k18 h past (plain_transfer x) ≡ true = (accepted_keeps h past (plain_transfer x) accepted).rule_18 in
      let due = is_some_and-at (outstanding h past x.port Read x.id) (is_due h past 0 true) x eighteen out in
      let next = is_some_and-at (read_kind x) (is_next_transfer past x true) p.kind (and_parts (is_some_and (read_kind x) (is_next_transfer past x true)) _ due).0 p.kind_is in
      let low = ltb-true (transfers past x.port x.id) (beats_of p.kind) (and_parts (nat_lt (transfers past x.port x.id) (beats_of p.kind)) _ next).0 in
      let one = one-beat p.kind p.plain in
      false_from_ne_true (is_completed past x) (λ done.
      let complete = complete_by_name past x.port Read x.id x (outstanding-named h past x.port Read x.id x out) ∙ done in
      full_some past x.port x.id x (done_read h past p.accepted x.port x.id x out complete) (omega (arith, low, one)))

  -- of a read that isn't complete the R is kept where the rules of the system keep it
  pub plain-decides : is_completed past x ≡ false → is_none (least_of system_rules h past (plain_transfer x)) ≡ is_kept h past (plain_transfer x)
  plain-decides undone =
      elim (cases_Bool (is_none (least_of system_rules h past (plain_transfer x)))) [
        | inl t ↦ t ∙ sym (by-system (nothing-broken (least_of system_rules h past (plain_transfer x)) t))
        | inr f ↦ f ∙ sym (false_from_ne_true (is_kept h past (plain_transfer x)) (λ k. let bad : true ≡ false = sym (in-system k) ∙ f in cc))
      ]
    where
      by-system : least_of system_rules h past (plain_transfer x) ≡ None → is_kept h past (plain_transfer x) ≡ true
      by-system none =
          let thirty_four : k34 h past (plain_transfer x) ≡ true = kept system_rules 34 h past (plain_transfer x) none in
          let thirty_seven : k37 h past (plain_transfer x) ≡ true = kept system_rules 37 h past (plain_transfer x) none in
          let half = is_none_or-at (outstanding h past x.port Read x.id) (may_answer_half past) x thirty_four named-out in
          let message = is_none_or-at (outstanding h past x.port Read x.id) (λ y. implies (is_message_part y) (is_answered_by_all h past y)) x thirty_seven named-out in
          plain-kept h past x p.kind p.accepted p.issued p.out undone p.kind_is p.plain half message

      in-system : is_kept h past (plain_transfer x) ≡ true → is_none (least_of system_rules h past (plain_transfer x)) ≡ true
      in-system k =
          let keeps = accepted_keeps h past (plain_transfer x) (p.accepted, kept-breaks-none h past (plain_transfer x) k) in
          three-keep (k21 h past (plain_transfer x)) (k34 h past (plain_transfer x)) (k37 h past (plain_transfer x)) keeps.rule_21 keeps.rule_34 keeps.rule_37

  -- its R is one of a port of the header
  pub plain-port : k1 h past (plain_transfer x) ≡ true
  plain-port = and_from _ _ (issuer-low h past x p.accepted p.issued) refl
