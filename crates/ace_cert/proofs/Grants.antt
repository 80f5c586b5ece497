-- The first grant of the newest read of a name is a grant of that read, and no grant of it comes before.
use Rattle.std.proofs.Common.{◌≡◌, ◌⊎◌, inl, inr, ℕ, ◌+◌, ◌<◌, ◌≤◌, true, false, ◌&&◌, nat_eq, [], ◌∷◌, length, Option, Some, None, unwrap_or, refl, sym, ap, subst, ◌∙◌, arith}
use Rattle.std.proofs.lemmas.Bool.{and_parts, and_from, cases_Bool, eqb-true, eq-eqb}
use Rattle.ace_model.specs.declared.transactions.Transaction.{Transaction}
use Rattle.ace_model.proofs.Terms.{Event, Ar, Aw, G, Read, Write, Trace, has_name, is_named, is_read, issued, event_at, transaction_of, IsGrantOf}
use Rattle.ace_model.proofs.General.Options.{Some-injective}
use Rattle.ace_model.proofs.Trace.Issued.{issued-place, transaction_of-name}
use Rattle.ace_model.proofs.Trace.Looks.{has_name-is, is_read-is, newest_named-cases}
use Rattle.ace_model.proofs.Trace.Outstanding.{named_read}
use Rattle.ace_model.proofs.Trace.Growth.{at_point-before}
use Rattle.ace_model.proofs.Trace.Places.{at_point-last, event_at-cases, event_at-now, grant-old, placed-before}
use Rattle.ace_cert.specs.Checks.{first_grant}

-- a new read has none
grant-new : (past : Trace) (e : Event) (p i : ℕ) (x : Transaction) → issued (length past) e ≡ Some x → has_name x p Read i ≡ true → first_grant (e ∷ past) p i ≡ None
grant-new past (Ar q j addr snoop dom bar lock) p i x new named =
    let same = Some-injective _ x new in
    rw (named_read past q j addr snoop dom bar lock p i true (subst (λ (y : Transaction). has_name y p Read i ≡ true) (sym same) named)) refl
grant-new past (Aw q j addr snoop dom bar) p i x new named =
    let same = Some-injective _ x new in
    let bad : Write ≡ Read = ap (λ (y : Transaction). y.chan) same ∙ (has_name-is x p Read i named).chan in cc
grant-new past e p i x new named = cc

-- the event is a G of the name
record IsGrant (past : Trace) (e : Event) (p i : ℕ) : Type 0 where
  pub is : e ≡ G p Read i
  pub grant : first_grant (e ∷ past) p i ≡ Some (unwrap_or (first_grant past p i) (length past + 1))

grant-moves : (past : Trace) (e : Event) (p i : ℕ) → is_named (issued (length past) e) p Read i ≡ false
    → (first_grant (e ∷ past) p i ≡ first_grant past p i) ⊎ IsGrant past e p i
grant-moves past (Ar q j addr snoop dom bar lock) p i other =
    let f = named_read past q j addr snoop dom bar lock p i false other in inl (rw f refl)
grant-moves past (G q c j) p i other =
    elim (cases_Bool (is_read c && nat_eq p q && nat_eq i j)) [
      | inr f ↦ inl (rw f refl)
      | inl t ↦
          let parts = and_parts (is_read c && nat_eq p q) (nat_eq i j) t in
          let first = and_parts (is_read c) (nat_eq p q) parts.0 in
          let chan = is_read-is c first.0 in
          let port = eqb-true p q first.1 in
          let id = eqb-true i j parts.1 in
          inr (record { is = cc; grant = rw t refl })
    ]
grant-moves past _ p i other = inl refl

-- it is the number of an event
grant-bound : (past : Trace) (p i g : ℕ) → first_grant past p i ≡ Some g → g ≤ length past
grant-bound [] p i g is = cc
grant-bound (e ∷ past) p i g is =
    elim (cases_Bool (is_named (issued (length past) e) p Read i)) [
      | inl t ↦ named (issued (length past) e) refl t
      | inr f ↦ elim (grant-moves past e p i f) [
        | inl same ↦ let low = grant-bound past p i g (sym same ∙ is) in omega arith
        | inr new ↦ either (grant-bound past p i) (first_grant past p i) refl (Some-injective _ g (sym new.grant ∙ is))
      ]
    ]
  where
    named : (o : Option Transaction) → issued (length past) e ≡ o → is_named o p Read i ≡ true → g ≤ length (e ∷ past)
    named None s t = cc
    named (Some x) s t = let none = grant-new past e p i x s t in cc

    either : ((v : ℕ) → first_grant past p i ≡ Some v → v ≤ length past) → (o : Option ℕ) → first_grant past p i ≡ o → unwrap_or o (length past + 1) ≡ g → g ≤ length (e ∷ past)
    either bound None s t = omega arith
    either bound (Some v) s t = let low = bound v s in omega arith

-- it is the number of a grant of the read
pub grant-found : (past : Trace) (p i g : ℕ) (x : Transaction) → transaction_of past p Read i ≡ Some x → first_grant past p i ≡ Some g
    → (n : ℕ) × (IsGrantOf past n x × (g ≡ n + 1))
grant-found [] p i g x named is = cc
grant-found (e ∷ past) p i g x named is =
    elim (newest_named-cases (issued (length past) e) p Read i (transaction_of past p Read i) x named) [
      | inl new ↦ let none = grant-new past e p i x new.0 new.1 in cc
      | inr old ↦ elim (grant-moves past e p i old.1) [
        | inl same ↦ grown (grant-found past p i g x old.0 (sym same ∙ is))
        | inr grant ↦ either (λ v. grant-found past p i v x old.0) grant (first_grant past p i) refl (Some-injective _ g (sym grant.grant ∙ is)) old.0
      ]
    ]
  where
    grown : ((n : ℕ) × (IsGrantOf past n x × (g ≡ n + 1))) → (n : ℕ) × (IsGrantOf (e ∷ past) n x × (g ≡ n + 1))
    grown s = (s.0, (grant-old e past s.0 x s.1.0, s.1.1))

    either : ((v : ℕ) → first_grant past p i ≡ Some v → (n : ℕ) × (IsGrantOf past n x × (v ≡ n + 1))) → IsGrant past e p i → (o : Option ℕ) → first_grant past p i ≡ o → unwrap_or o (length past + 1) ≡ g → transaction_of past p Read i ≡ Some x
        → (n : ℕ) × (IsGrantOf (e ∷ past) n x × (g ≡ n + 1))
    either was grant (Some v) s t old = grown (was g (s ∙ ap (λ n. Some n) t))
    either was grant None s t old =
        let n = transaction_of-name past p Read i x old in
        let port : p ≡ x.port = sym n.port in
        let id : i ≡ x.id = sym n.id in
        let there : event_at (e ∷ past) (length past) ≡ Some (G x.port Read x.id) =
        event_at-now e past ∙ ap (λ v. Some v) grant.is ∙ ap (λ v. Some (G v Read i)) port ∙ ap (λ v. Some (G x.port Read v)) id in
        let last = at_point-last e past (length past) refl in
        let same : transaction_of past x.port Read x.id ≡ Some x = ap (λ v. transaction_of past v Read x.id) n.port ∙ ap (transaction_of past p Read) n.id ∙ old in
        (length past, ((there, rw last same), sym t))

-- and no grant of it comes before
pub grant-first : (past : Trace) (n : ℕ) (x : Transaction) → IsGrantOf past n x → transaction_of past x.port Read x.id ≡ Some x
    → (g : ℕ) × ((first_grant past x.port x.id ≡ Some g) × (g ≤ n + 1))
grant-first [] n x grant named = cc
grant-first (e ∷ past) n x grant named =
    elim (event_at-cases e past n (G x.port Read x.id) grant.0) [
      | inl old ↦ before (grant-first past n x) old (newest_named-cases (issued (length past) e) x.port Read x.id (transaction_of past x.port Read x.id) x named)
      | inr now ↦ after now
    ]
  where
    kept : (v : ℕ) → first_grant past x.port x.id ≡ Some v → v ≤ n + 1
        → (first_grant (e ∷ past) x.port x.id ≡ first_grant past x.port x.id) ⊎ IsGrant past e x.port x.id
        → (g : ℕ) × ((first_grant (e ∷ past) x.port x.id ≡ Some g) × (g ≤ n + 1))
    kept v s low (inl same) = (v, (same ∙ s, low))
    kept v s low (inr grant) = (v, (grant.grant ∙ ap (λ o. Some (unwrap_or o (length past + 1))) s, low))

    before : (IsGrantOf past n x → transaction_of past x.port Read x.id ≡ Some x → (g : ℕ) × ((first_grant past x.port x.id ≡ Some g) × (g ≤ n + 1)))
        → (event_at past n ≡ Some (G x.port Read x.id)) × (n < length past)
        → ((issued (length past) e ≡ Some x) × (has_name x x.port Read x.id ≡ true)) ⊎ ((transaction_of past x.port Read x.id ≡ Some x) × (is_named (issued (length past) e) x.port Read x.id ≡ false))
        → (g : ℕ) × ((first_grant (e ∷ past) x.port x.id ≡ Some g) × (g ≤ n + 1))
    before was old (inl new) =
        let low = old.1 in
        let same = at_point-before e past n (omega arith) in
        let at = issued-place (length past) e x new.0 in
        let placed = placed-before past n x.port Read x.id x (omega arith) (rw same at grant.1) in
        absurd (omega arith)
    before was old (inr earlier) =
        let low = old.1 in
        let same = at_point-before e past n (omega arith) in
        let s = was (old.0, rw same at grant.1) earlier.0 in
        kept s.0 s.1.0 s.1.1 (grant-moves past e x.port x.id earlier.1)

    after : (n ≡ length past) × (e ≡ G x.port Read x.id) → (g : ℕ) × ((first_grant (e ∷ past) x.port x.id ≡ Some g) × (g ≤ n + 1))
    after now = either (first_grant past x.port x.id) refl
      where
        is : is_read Read && nat_eq x.port x.port && nat_eq x.id x.id ≡ true
        is = and_from (nat_eq x.port x.port) (nat_eq x.id x.id) (eq-eqb x.port x.port (refl {a = x.port})) (eq-eqb x.id x.id (refl {a = x.id}))

        grown : first_grant (e ∷ past) x.port x.id ≡ Some (unwrap_or (first_grant past x.port x.id) (length past + 1))
        grown = ap (λ (v : Event). first_grant (v ∷ past) x.port x.id) now.1 ∙ (rw is refl)

        either : (o : Option ℕ) → first_grant past x.port x.id ≡ o → (g : ℕ) × ((first_grant (e ∷ past) x.port x.id ≡ Some g) × (g ≤ n + 1))
        either None s = (length past + 1, (grown ∙ ap (λ o. Some (unwrap_or o (length past + 1))) s, let same = now.0 in omega arith))
        either (Some v) s =
            let low = grant-bound past x.port x.id v s in
            let same = now.0 in
            (v, (grown ∙ ap (λ o. Some (unwrap_or o (length past + 1))) s, omega arith))
