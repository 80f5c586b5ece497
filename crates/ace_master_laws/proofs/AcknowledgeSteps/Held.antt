-- What a port may hold of the line of its outstanding read: no more than the read started from.
use Rattle.std.proofs.Common.{◌≡◌, ◌⊎◌, ℕ, Bool, true, false, not, ◌==◌, [], ◌∷◌, length, Some, inl, inr, refl, sym, ap, subst, ◌∙◌}
use Rattle.std.proofs.lemmas.Bool.{and_parts, not-true}
use Rattle.ace_codes.specs.declared.kind.ArKind.{ArKind}
use Rattle.ace_codes.specs.declared.kind.ArKind.TheVariants as read
use Rattle.ace_codes.specs.declared.state.LineState.{LineState}
use Rattle.ace_codes.specs.declared.state.LineState.TheVariants.{I}
use Rattle.ace_event.specs.declared.event.Channel.TheVariants.{Read}
use Rattle.ace_event.specs.declared.event.Event.{Event}
use Rattle.ace_event.specs.declared.header.Header.{Header}
use Rattle.ace_tables.specs.StartStates.{starts_read}
use Rattle.ace_tables.specs.States.{is_dirty, is_invalid, is_unique}
use Rattle.ace_model.specs.declared.transactions.Transaction.{Transaction}
use Rattle.ace_model.specs.Accepted.{IsAccepted}
use Rattle.ace_model.specs.AddressRules.{starts_well}
use Rattle.ace_model.specs.CacheRules.{may_store}
use Rattle.ace_model.specs.States.{state_of}
use Rattle.ace_model.specs.Trace.{Trace, implies, is_none_or}
use Rattle.ace_model.specs.Transactions.{has_outstanding_on, is_line, is_on, issued, outstanding, read_kind}
use Rattle.ace_model.proofs.General.Booleans.{implies-at}
use Rattle.ace_model.proofs.General.Options.{is_none_or-at}
use Rattle.ace_model.proofs.Holders.Rises.{Raised, dirty_moves, issue_leaves, state_moves}
use Rattle.ace_model.proofs.Rules.Keeps.{accepted_keeps}
use Rattle.ace_model.proofs.Tables.States.{each_state, is_invalid-is}
use Rattle.ace_model.proofs.Trace.Issued.{outstanding-origin}
use Rattle.ace_model.proofs.Trace.LineOnce.{one_on_line, outstanding_found}
use Rattle.ace_model.proofs.Trace.Looks.{has_name-is, is_on-addr}

-- the port of an outstanding read of this kind may hold its line in this state
abbrev pub may_hold : ArKind → LineState → Bool
may_hold read.CleanUnique st = not (is_unique st)
may_hold read.MakeUnique st = not (is_unique st)
may_hold read.CleanShared st = not (is_dirty st)
may_hold _ st = is_invalid st

may-start : (k : ArKind) (st : LineState) → implies (starts_read k st) (may_hold k st) ≡ true
may-start read.Barrier = each_state _ refl refl refl refl refl
may-start k = each_state _ refl refl refl refl refl

pub may-hold-none : (k : ArKind) → may_hold k I ≡ true
may-hold-none read.CleanUnique = refl
may-hold-none k = refl

-- the start states of a new read of the line
starts-at : (h : Header) (past : Trace) (e : Event) → IsAccepted h (e ∷ past) → (p l : ℕ) (x : Transaction) (k : ArKind) → issued (length past) e ≡ Some x → x.port ≡ p → is_on x l ≡ true
    → read_kind x ≡ Some k → starts_read k (state_of h (e ∷ past) p l) ≡ true
starts-at h past e a p l x k new port on kind =
    let parts = and_parts (is_line x) (x.addr == l) on in
    let well = is_none_or-at (issued (length past) e) (starts_well h past) x (accepted_keeps h past e a).rule_6 new in
    let both = implies-at (is_line x) _ well parts.0 in
    let reads = (and_parts (is_none_or (read_kind x) (λ c. starts_read c (state_of h past x.port x.addr))) _ both).0 in
    let starts = is_none_or-at (read_kind x) (λ c. starts_read c (state_of h past x.port x.addr)) k reads kind in
    let same : state_of h past x.port x.addr ≡ state_of h (e ∷ past) p l =
    ap (λ b. state_of h past b x.addr) port ∙ ap (state_of h past p) (is_on-addr x l on) ∙ sym (issue_leaves h past e x p l new) in
    subst (λ st. starts_read k st ≡ true) same starts

module _ (h : Header) (past : Trace) (e : Event) (a : IsAccepted h (e ∷ past)) (p l : ℕ) where
  -- an event leaves the port with no more, or its port may store, or it is the RK of its read
  abbrev Holds : Bool → Type 0
  Holds fits = (fits ≡ true) ⊎ ((may_store h past p l ≡ true) ⊎ Raised h past e p l)

  moves-gone : is_invalid (state_of h past p l) ≡ true → Holds (is_invalid (state_of h (e ∷ past) p l))
  moves-gone m =
      elim (state_moves h past e a p l) [
        | inl less ↦ inl (ap is_invalid (less.gone (is_invalid-is (state_of h past p l) m)))
        | inr up ↦ inr (inr up)
      ]

  moves-shared : not (is_unique (state_of h past p l)) ≡ true → Holds (not (is_unique (state_of h (e ∷ past) p l)))
  moves-shared m =
      elim (state_moves h past e a p l) [
        | inl less ↦ inl (ap not (less.not_unique (not-true (is_unique (state_of h past p l)) m)))
        | inr up ↦ inr (inr up)
      ]

  moves-clean : not (is_dirty (state_of h past p l)) ≡ true → Holds (not (is_dirty (state_of h (e ∷ past) p l)))
  moves-clean m =
      elim (dirty_moves h past e a p l (not-true (is_dirty (state_of h past p l)) m)) [
        | inl fine ↦ inl (ap not fine)
        | inr other ↦ inr other
      ]

  moves : (k : ArKind) → may_hold k (state_of h past p l) ≡ true → Holds (may_hold k (state_of h (e ∷ past) p l))
  moves read.CleanUnique m = moves-shared m
  moves read.MakeUnique m = moves-shared m
  moves read.CleanShared m = moves-clean m
  moves k m = moves-gone m

-- So it does.
pub held-fits : (h : Header) (past : Trace) → IsAccepted h past → (p i l : ℕ) (x : Transaction) (k : ArKind) → read_kind x ≡ Some k → is_on x l ≡ true
    → outstanding h past p Read i ≡ Some x → may_hold k (state_of h past p l) ≡ true
held-fits h [] a p i l x k is on o = cc
held-fits h (e ∷ past) a p i l x k is on o =
    elim (outstanding-origin h past e p Read i x o) [
      | inl new ↦
          implies-at (starts_read k (state_of h (e ∷ past) p l)) (may_hold k (state_of h (e ∷ past) p l)) (may-start k (state_of h (e ∷ past) p l))
          (starts-at h past e a p l x k new.0 (has_name-is x p Read i new.1).port on is)
      | inr old ↦ elim (moves h past e a p l k (held-fits h past a.0 p i l x k is on old.was)) [
        | inl fine ↦ fine
        | inr (inl may) ↦
            let none = not-true (has_outstanding_on h past p l) (and_parts (is_unique (state_of h past p l)) _ may).1 in
            let some = outstanding_found h past p Read i l x old.was on in
            let bad : false ≡ true = sym none ∙ some in cc
        | inr (inr up) ↦
            let one = one_on_line h past a.0 p Read Read up.id i l up.read_one x up.out old.was up.on on in
            absurd (old.lasts up.read_one up.ends_it (ap (λ (y : Transaction). y.place) one))
      ]
    ]
