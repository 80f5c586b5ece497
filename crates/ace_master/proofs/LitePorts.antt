-- An ACE-Lite port gives no line up: it has none.
use Rattle.std.proofs.Common.{◌≡◌, ℕ, Bool, true, false, ◌&&◌, ◌||◌, ◌==◌, length, Option, Some, None, refl, sym, ap, subst, ◌∙◌}
use Rattle.std.proofs.lemmas.Bool.{and_parts, eqb-true, false_from_ne_true}
use Rattle.ace_codes.specs.declared.kind.AwKind.{AwKind}
use Rattle.ace_codes.specs.declared.kind.AwKind.TheVariants as write
use Rattle.ace_codes.specs.Writes.{aw_kind_of}
use Rattle.ace_event.specs.declared.event.Event.{Event}
use Rattle.ace_event.specs.declared.event.Event.TheVariants.{Aw}
use Rattle.ace_event.specs.declared.header.Header.{Header}
use Rattle.ace_model.specs.Accepted.{IsAccepted}
use Rattle.ace_model.specs.AddressRules.{gives_up, has_write, k2, may_issue_write}
use Rattle.ace_model.specs.Kinds.{is_lite_write}
use Rattle.ace_model.specs.Trace.{Trace, is_none_or, is_some_and}
use Rattle.ace_model.specs.Transactions.{is_ace, is_outstanding, issued, write_kind}
use Rattle.ace_model.proofs.General.Options.{is_none_or-at, is_some_and-is}
use Rattle.ace_model.proofs.Rules.Keeps.{accepted_keeps}
use Rattle.ace_model.proofs.Trace.Growth.{some_issued-is}
use Rattle.ace_model.proofs.Trace.IssuedTransactions.{issued-by-rule}

some-none : {A : Type 0} (o : Option A) (test : A → Bool) → is_some_and o test ≡ true → is_none_or o test ≡ true
some-none None test t = refl
some-none (Some x) test t = t

-- each write is of a kind that its port may issue
by-rule : (h : Header) (past : Trace) (e : Event) (n : ℕ) → k2 h past e ≡ true → is_none_or (issued n e) (λ x. is_none_or (write_kind x) (may_issue_write h x.port)) ≡ true
by-rule h past (Aw p i addr snoop dom bar) n k = some-none (aw_kind_of snoop dom bar) (may_issue_write h p) k
by-rule h past e n k = refl

kept-up : (k : AwKind) → gives_up k ≡ true → is_lite_write k ≡ false
kept-up write.WriteBack g = refl
kept-up write.WriteClean g = refl
kept-up write.WriteEvict g = refl
kept-up write.Evict g = refl
kept-up k g = cc

pub none-given-up : (h : Header) (past : Trace) (p : ℕ) → IsAccepted h past → is_ace h p ≡ false → has_write h past p gives_up ≡ false
none-given-up h past p accepted lite =
    false_from_ne_true (has_write h past p gives_up) (λ some.
    let x = some_issued-is past (λ y. (y.port == p) && is_some_and (write_kind y) gives_up && is_outstanding h past y) some in
    let two = and_parts ((x.0.port == p) && is_some_and (write_kind x.0) gives_up) (is_outstanding h past x.0) x.2 in
    let one = and_parts (x.0.port == p) (is_some_and (write_kind x.0) gives_up) two.0 in
    let k = is_some_and-is (write_kind x.0) gives_up one.1 in
    let may : is_none_or (write_kind x.0) (may_issue_write h x.0.port) ≡ true =
    issued-by-rule (λ x. is_none_or (write_kind x) (may_issue_write h x.port)) h (λ past e a. by-rule h past e (length past) (accepted_keeps h past e a).rule_2) past x.0 accepted x.1 in
    let own : may_issue_write h p k.0 ≡ true = subst (λ q. may_issue_write h q k.0 ≡ true) (eqb-true x.0.port p one.0) (is_none_or-at (write_kind x.0) (may_issue_write h x.0.port) k.0 may k.1) in
    let bad : true ≡ false = sym own ∙ ap (λ b. b || is_lite_write k.0) lite ∙ kept-up k.0 k.2 in cc)
