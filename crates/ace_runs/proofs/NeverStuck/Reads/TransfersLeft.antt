-- A read that isn't complete has transfers left, as its last one completes it.
use Rattle.std.proofs.Common.{◌≡◌, ℕ, ◌+◌, ◌<◌, Bool, true, false, not, ◌&&◌, ◌==◌, [], ◌∷◌, length, Some, refl, sym, ap, subst, ◌∙◌, inl, inr, arith}
use Rattle.std.proofs.lemmas.Bool.{cases_Bool, eqb-false, eq-eqb, or_parts}
use Rattle.ace_codes.specs.declared.kind.ArKind.{ArKind}
use Rattle.ace_event.specs.declared.event.Channel.TheVariants.{Read}
use Rattle.ace_event.specs.declared.event.Event.{Event}
use Rattle.ace_event.specs.declared.event.Event.TheVariants.{R}
use Rattle.ace_event.specs.declared.header.Header.{Header}
use Rattle.ace_tables.specs.Answers.{same_test}
use Rattle.ace_model.specs.declared.transactions.Transaction.{Transaction}
use Rattle.ace_model.specs.Accepted.{IsAccepted}
use Rattle.ace_model.specs.Kinds.{beats_of}
use Rattle.ace_model.specs.Trace.{Trace}
use Rattle.ace_model.specs.Transactions.{is_complete, is_completion, is_named, issued, outstanding, read_kind, transfers}
use Rattle.ace_model.proofs.General.Options.{Some-injective}
use Rattle.ace_model.proofs.Tables.Kinds.{beats_some}
use Rattle.ace_model.proofs.Trace.Issued.{outstanding-named, outstanding-origin}
use Rattle.ace_model.proofs.Values.FullReads.{issue_transfers, transfer_moves}
use Rattle.ace_runs.proofs.Few.Transfers.{next-transfer}

-- after a transfer that doesn't say that it is the last
not-last : (last : Bool) (n m : ℕ) → same_test last (n + 1 == m) ≡ true → last ≡ false → n < m → n + 1 < m
not-last true n m ends l room = cc
not-last false n m ends l room =
    elim (cases_Bool (n + 1 == m)) [
      | inl t ↦ let bad : same_test false true ≡ true = rw t at ends in cc
      | inr f ↦ let apart = eqb-false (n + 1) m f in omega (arith, room, apart)
    ]

completes-last : (p i resp : ℕ) (last : Bool) (word : ℕ) → is_completion (R p i resp last word) p Read i ≡ false → last ≡ false
completes-last p i resp true word c =
    let bad : true ≡ false = rw (eq-eqb p p (refl {a = p}), eq-eqb i i (refl {a = i})) at c in cc
completes-last p i resp false word c = refl

after-transfer : (h : Header) (past : Trace) (p i : ℕ) (x : Transaction) (k : ArKind) (resp : ℕ) (last : Bool) (word : ℕ) → IsAccepted h (R p i resp last word ∷ past)
    → outstanding h past p Read i ≡ Some x → read_kind x ≡ Some k → is_completion (R p i resp last word) p Read i ≡ false
    → transfers (R p i resp last word ∷ past) p i < beats_of k
after-transfer h past p i x k resp last word a o kind undone =
    let n = next-transfer h past p i resp last word a in
    let one : n.read ≡ x = Some-injective n.read x (sym n.named ∙ outstanding-named h past p Read i x o) in
    let same : n.kind ≡ k = Some-injective n.kind k (sym n.of_kind ∙ ap read_kind one ∙ kind) in
    let less = not-last last (transfers past p i) (beats_of n.kind) n.ends (completes-last p i resp last word undone) n.room in
    rw (eq-eqb p p (refl {a = p}), eq-eqb i i (refl {a = i})) (subst (λ k. transfers past p i + 1 < beats_of k) same less)

pub transfers-left : (h : Header) (past : Trace) (p i : ℕ) (x : Transaction) (k : ArKind) → IsAccepted h past → outstanding h past p Read i ≡ Some x → read_kind x ≡ Some k
    → is_complete past p Read i ≡ false → transfers past p i < beats_of k
transfers-left h [] p i x k a o kind undone = cc
transfers-left h (e ∷ past) p i x k a o kind undone =
    elim (outstanding-origin h past e p Read i x o) [
      | inl new ↦
          let none = issue_transfers past e p i x new.0 new.1 in
          let some = beats_some k in
          omega (arith, none, some)
      | inr old ↦
          let parts = or_parts (is_completion e p Read i) (not (is_named (issued (length past) e) p Read i) && is_complete past p Read i) undone in
          elim (transfer_moves past e p i old.other) [
            | inl none ↦
                let before : is_complete past p Read i ≡ false = rw old.other at parts.1 in
                subst (λ n. n < beats_of k) (sym none.count) (transfers-left h past p i x k a.0 old.was kind before)
            | inr t ↦
                subst (λ (d : Event). transfers (d ∷ past) p i < beats_of k) (sym t.is)
                (after-transfer h past p i x k t.resp t.last t.word (subst (λ (d : Event). IsAccepted h (d ∷ past)) t.is a) old.was kind
                (subst (λ (d : Event). is_completion d p Read i ≡ false) t.is parts.0))
          ]
    ]
