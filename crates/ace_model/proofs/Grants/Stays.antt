-- An event grants a line, ends the granted transaction, or leaves the grant as it is.
use Rattle.std.proofs.Common.{[], arith, if◌then◌else◌, suc, ◌+◌, ◌≤◌, ◌≡◌, ◌≢◌, ◌⊎◌, ℕ, Bool, true, false, nat_eq, ◌∷◌, length, Some, refl, sym, ap, ◌∙◌, inl, inr}
use Rattle.std.proofs.Math.Bool.{and-false}
use Rattle.std.proofs.lemmas.Bool.{and_parts, cases_Bool, eqb-true}
use Rattle.ace_model.proofs.Terms.{Read, grant_place, Channel, Event, Ar, Aw, G, Header, Transaction, Trace, is_read, is_line, is_some_on, has_name, issued, ended, transaction_of, outstanding}
use Rattle.ace_model.proofs.Terms.{without, is_exclusive_store, given, gives_line, granted, has_failed, has_free_name, IsAccepted}
use Rattle.ace_model.proofs.Trace.Looks.{without-cases, is_read-is, newest_on-cases, newest_on-older, without-some}
use Rattle.ace_model.proofs.Holders.Acknowledge.{ends}
use Rattle.ace_model.proofs.Rules.Keeps.{accepted_keeps}
use Rattle.ace_model.proofs.Holders.Grant.{other_line, failed_g}
use Rattle.ace_model.proofs.Holders.Law.{accepted_holds}
use Rattle.ace_model.proofs.General.Options.{is_none_or-at}
use Rattle.ace_model.proofs.Trace.Outstanding.{read_issued, write_issued, outstanding_stays, failed_issued}

module _ (h : Header) (past : Trace) where
  -- a granted line is not given again
  pub gives_none : (e : Event) → IsAccepted h (e ∷ past) → (l : ℕ) (x : Transaction) → granted h past l ≡ Some x → gives_line past e l ≡ false
  gives_none (G q c j) a l x g = other_line h past q c j l x (accepted_keeps h past (G q c j) a).rule_12 g
  gives_none _ a l x g = refl

  -- The grant of the line stays.
  pub record Stays (e : Event) (l : ℕ) (x : Transaction) : Type 0 where
    pub was : granted h past l ≡ Some x
    pub is : granted h (e ∷ past) l ≡ Some x
    pub gives : gives_line past e l ≡ false
    pub lasts : (z : Transaction) → ended h past e ≡ Some z → z.place ≢ x.place

  -- what is granted after an event was so before, or is new
  pub granted_before : (e : Event) (l : ℕ) (x : Transaction) → granted h (e ∷ past) l ≡ Some x
      → Stays e l x ⊎ (gives_line past e l ≡ true)
  granted_before e l x g =
      elim (newest_on-cases (given past e) l (without (ended h past e) (granted h past l)) x g) [
        | inl new ↦ inr (rw new.0 new.1)
        | inr old ↦
            let w = without-some (ended h past e) (granted h past l) x old.0 in
            inl (record { was = w.0; is = g; gives = old.1; lasts = w.1 })
      ]

  -- what is granted before an event is so after it, or ends
  pub granted_after : (e : Event) → IsAccepted h (e ∷ past) → (l : ℕ) (x : Transaction) → granted h past l ≡ Some x
      → Stays e l x ⊎ ((z : Transaction) × (ended h past e ≡ Some z) × (z.place ≡ x.place))
  granted_after e a l x g =
      let gives = gives_none e a l x g in
      let same : granted h (e ∷ past) l ≡ without (ended h past e) (granted h past l) = newest_on-older (given past e) l (without (ended h past e) (granted h past l)) gives in
      elim (without-cases (ended h past e) (granted h past l) x g) [
        | inl stays ↦
            let w = without-some (ended h past e) (granted h past l) x stays in
            inl (record { was = g; is = same ∙ stays; gives = gives; lasts = w.1 })
        | inr ends ↦ inr ends
      ]

  -- a new transaction has another name than an outstanding one
  pub issued_apart : (e : Event) → IsAccepted h (e ∷ past) → (p : ℕ) (c : Channel) (i : ℕ) (x y : Transaction)
      → outstanding h past p c i ≡ Some x → issued (length past) e ≡ Some y → has_name y p c i ≡ false
  issued_apart e a p c i x y o new =
      let free = is_none_or-at (issued (length past) e) (has_free_name h past) y (accepted_keeps h past e a).rule_4 new in
      (outstanding_stays h past y p c i x free o).0

  -- and so than the granted one
  pub stays_apart : (e : Event) → IsAccepted h (e ∷ past) → (l : ℕ) (x y : Transaction) → Stays e l x → issued (length past) e ≡ Some y
      → has_name y x.port x.chan x.id ≡ false
  stays_apart e a l x y s new = issued_apart e a x.port x.chan x.id x y ((accepted_holds h past a.0).grants l x s.was).0 new

  pub read_apart : (e : Event) → IsAccepted h (e ∷ past) → (l : ℕ) (x y : Transaction) → Stays e l x → issued (length past) e ≡ Some y
      → is_read x.chan ≡ true → has_name y x.port Read x.id ≡ false
  read_apart e a l x y s new t = ap (λ (c : Channel). has_name y x.port c x.id) (sym (is_read-is x.chan t)) ∙ stays_apart e a l x y s new

-- only a read can be an exclusive store
failed_read : (past longer : Trace) (x : Transaction) → (is_read x.chan ≡ true → has_failed longer x ≡ has_failed past x) → has_failed longer x ≡ has_failed past x
failed_read past longer x same =
    elim (cases_Bool (is_read x.chan)) [
      | inl t ↦ same t
      | inr f ↦ let none : is_exclusive_store x ≡ false = rw f (and-false x.lock) in rw none refl
    ]

-- as long as the grant stays, an exclusive store has failed or not
pub failed_stays : (h : Header) (past : Trace) (e : Event) → IsAccepted h (e ∷ past) → (l : ℕ) (x : Transaction) → Stays h past e l x
    → has_failed (e ∷ past) x ≡ has_failed past x
failed_stays h past (Ar q j addr snoop dom bar lock) a l x s =
    let e = Ar q j addr snoop dom bar lock in
    let y = read_issued past q j addr snoop dom bar lock in
    failed_read past (e ∷ past) x (λ t. failed_issued past y x (read_apart h past e a l x y s refl t))
failed_stays h past (Aw q j addr snoop dom bar) a l x s =
    let e = Aw q j addr snoop dom bar in
    let y = write_issued past q j addr snoop dom bar in
    failed_read past (e ∷ past) x (λ t. failed_issued past y x (read_apart h past e a l x y s refl t))
failed_stays h past (G q c j) a l x s =
    let o = (accepted_holds h past a.0).grants l x s.was in
    let on = and_parts (is_line x) (nat_eq x.addr l) o.1 in
    failed_read past (G q c j ∷ past) x (λ t.
    failed_g h past q c j x.port x.id x (ap (λ (d : Channel). outstanding h past x.port d x.id) (sym (is_read-is x.chan t)) ∙ o.0) on.0
    (ap (is_some_on (transaction_of past q c j)) (eqb-true x.addr l on.1) ∙ s.gives))
failed_stays h past _ a l x s = refl

-- the present grant of a line came within the trace
pub grant_place-low : (past : Trace) (l : ℕ) → grant_place past l ≤ length past
grant_place-low [] l = omega arith
grant_place-low (e ∷ past) l = chosen (is_some_on (given past e) l) (grant_place-low past l)
  where
    chosen : (b : Bool) → grant_place past l ≤ length past → (if b then length past + 1 else grant_place past l) ≤ suc (length past)
    chosen true low = omega arith
    chosen false low = omega arith
