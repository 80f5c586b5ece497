-- Exactly the loads, and the reads of a line with a beat, get a place.
use Rattle.std.proofs.Common.{◌≡◌, ◌≢◌, ℕ, ◌+◌, ◌&&◌, Bool, true, nat_eq, [], ◌∷◌, length, Option, Some, None, option_map, refl, sym, ap, subst, ◌∙◌, inl, inr}
use Rattle.std.proofs.lemmas.Bool.{and_from, and_parts, cases_Bool, cases_eq, eq-eqb, eqb-true, or_cases, or_left, or_right}
use Rattle.ace_model.specs.declared.transactions.Transaction.{Transaction}
use Rattle.ace_model.proofs.Terms.{Event, L, R, Read, Trace, is_line_read_transaction, issued, option_filter, transaction_of, transfers}
use Rattle.ace_model.proofs.General.Options.{Some-injective, is_some_and-is, option_filter-is}
use Rattle.ace_model.proofs.Trace.Looks.{newest_named-cases}
use Rattle.ace_model.proofs.Values.FullReads.{issue_transfers, transfer_moves}
use Rattle.ace_cert.specs.declared.cert.ReadPlace.{ReadPlace}
use Rattle.ace_cert.specs.Checks.{is_read_at, reads_at}
use Rattle.ace_cert_make.specs.Places.{next_place, place_given, placed_by, placed_or}

-- what has a place keeps one
placed-kept : (o : Option ReadPlace) (number q : ℕ) → (r : ℕ) × (placed_or o number (Some q) ≡ Some r)
placed-kept None number q = (q, refl)
placed-kept (Some r) number q =
    elim (cases_Bool (nat_eq r.event number)) [
      | inl t ↦ (r.place, rw t refl)
      | inr f ↦ (q, rw f refl)
    ]

-- a read that has had a beat is one by the test
begun-read : (past : Trace) (p i : ℕ) (x : Transaction) → transaction_of past p Read i ≡ Some x → is_line_read_transaction x ≡ true → transfers past p i ≢ 0
    → is_read_at past x.place ≡ true
begun-read [] p i x named reads some = cc
begun-read (e ∷ past) p i x named reads some =
    elim (newest_named-cases (issued (length past) e) p Read i (transaction_of past p Read i) x named) [
      | inl new ↦ absurd (some (issue_transfers past e p i x new.0 new.1))
      | inr old ↦ elim (transfer_moves past e p i old.1) [
        | inl same ↦ or_left (is_read_at past x.place) (reads_at past e x.place) (begun-read past p i x old.0 reads (λ z. some (same.count ∙ z)))
        | inr t ↦
            let was = old.0 in
            let here : reads_at past (R p i t.resp t.last t.word) x.place ≡ true =
            rw was (and_from (is_line_read_transaction x) (nat_eq x.place x.place) reads (eq-eqb x.place x.place (refl {a = x.place}))) in
            or_right (is_read_at past x.place) (reads_at past e x.place) (subst (λ (v : Event). reads_at past v x.place ≡ true) (sym t.is) here)
      ]
    ]

pub read-given : (past : Trace) (n : ℕ) → is_read_at past n ≡ true → (q : ℕ) × (place_given past (n + 1) ≡ Some q)
read-given [] n t = cc
read-given (e ∷ past) n t =
    elim (or_cases (is_read_at past n) (reads_at past e n) t) [
      | inl old ↦ kept (read-given past n old)
      | inr new ↦ now e (read-given past n) new
    ]
  where
    kept : (q : ℕ) × (place_given past (n + 1) ≡ Some q) → (q : ℕ) × (place_given (e ∷ past) (n + 1) ≡ Some q)
    kept q =
        let r = placed-kept (placed_by past e) (n + 1) q.0 in
        (r.0, ap (placed_or (placed_by past e) (n + 1)) q.1 ∙ r.1)

    beat : (p i resp : ℕ) (last : Bool) (word : ℕ) (x : Transaction) → transaction_of past p Read i ≡ Some x → is_line_read_transaction x ≡ true → x.place ≡ n
        → (is_read_at past n ≡ true → (q : ℕ) × (place_given past (n + 1) ≡ Some q))
        → (q : ℕ) × (placed_or (placed_by past (R p i resp last word)) (n + 1) (place_given past (n + 1)) ≡ Some q)
    beat p i resp last word x named reads place again =
        elim (cases_eq (transfers past p i) 0) [
          | inl none ↦
              let here : nat_eq (x.place + 1) (n + 1) ≡ true = eq-eqb (x.place + 1) (n + 1) (ap (λ v. v + 1) place) in
              (next_place past x.addr, rw (none, named, reads, here) refl)
          | inr some ↦
              let q = again (ap (is_read_at past) (sym place) ∙ begun-read past p i x named reads some) in
              let r = placed-kept (placed_by past (R p i resp last word)) (n + 1) q.0 in
              (r.0, ap (placed_or (placed_by past (R p i resp last word)) (n + 1)) q.1 ∙ r.1)
        ]

    now : (d : Event) → (is_read_at past n ≡ true → (q : ℕ) × (place_given past (n + 1) ≡ Some q)) → reads_at past d n ≡ true
        → (q : ℕ) × (placed_or (placed_by past d) (n + 1) (place_given past (n + 1)) ≡ Some q)
    now (L p l w x word) again new =
        let here : nat_eq (length past + 1) (n + 1) ≡ true = eq-eqb (length past + 1) (n + 1) (ap (λ v. v + 1) (eqb-true (length past) n new)) in
        (length past, rw here refl)
    now (R p i resp last word) again new =
        let s = is_some_and-is (transaction_of past p Read i) (λ x. is_line_read_transaction x && nat_eq x.place n) new in
        let parts = and_parts (is_line_read_transaction s.0) (nat_eq s.0.place n) s.2 in
        beat p i resp last word s.0 s.1 parts.0 (eqb-true s.0.place n parts.1) again
    now d again new = cc

-- a read that is placed now is one, and its number isn't 0
placed-read : (past : Trace) (e : Event) (r : ReadPlace) → placed_by past e ≡ Some r → (n : ℕ) × ((r.event ≡ n + 1) × (reads_at past e n ≡ true))
placed-read past (L p l w x word) r is =
    let one = Some-injective _ r is in
    (length past, (ap (λ (v : ReadPlace). v.event) (sym one), eq-eqb (length past) (length past) (refl {a = length past})))
placed-read past (R p i resp last word) r is =
    elim (cases_Bool (nat_eq (transfers past p i) 0)) [
      | inr f ↦ let bad : None ≡ Some r = rw f at is in cc
      | inl t ↦ by (option_filter is_line_read_transaction (transaction_of past p Read i)) refl (rw t at is)
    ]
  where
    by : (o : Option Transaction) → option_filter is_line_read_transaction (transaction_of past p Read i) ≡ o
        → option_map (λ x. record { event = x.place + 1; place = next_place past x.addr }) o ≡ Some r
        → (n : ℕ) × ((r.event ≡ n + 1) × (reads_at past (R p i resp last word) n ≡ true))
    by None o e = cc
    by (Some x) o e =
        let s = option_filter-is is_line_read_transaction (transaction_of past p Read i) x o in
        let one = Some-injective _ r e in
        let named = s.0 in (
          x.place,
          (
            ap (λ (v : ReadPlace). v.event) (sym one),
            rw named (and_from (is_line_read_transaction x) (nat_eq x.place x.place) s.1 (eq-eqb x.place x.place (refl {a = x.place}))),
          ),
        )
placed-read past e r is = cc

pub given-read : (past : Trace) (number q : ℕ) → place_given past number ≡ Some q → (n : ℕ) × ((number ≡ n + 1) × (is_read_at past n ≡ true))
given-read [] number q is = cc
given-read (e ∷ past) number q is = by (placed_by past e) refl is (given-read past number q)
  where
    old : (n : ℕ) × ((number ≡ n + 1) × (is_read_at past n ≡ true)) → (n : ℕ) × ((number ≡ n + 1) × (is_read_at (e ∷ past) n ≡ true))
    old r = (r.0, (r.1.0, or_left (is_read_at past r.0) (reads_at past e r.0) r.1.1))

    by : (o : Option ReadPlace) → placed_by past e ≡ o → placed_or o number (place_given past number) ≡ Some q
        → (place_given past number ≡ Some q → (n : ℕ) × ((number ≡ n + 1) × (is_read_at past n ≡ true)))
        → (n : ℕ) × ((number ≡ n + 1) × (is_read_at (e ∷ past) n ≡ true))
    by None o was again = old (again was)
    by (Some r) o now again =
        elim (cases_Bool (nat_eq r.event number)) [
          | inr f ↦ old (again (rw f at now))
          | inl t ↦
              let p = placed-read past e r o in
              (p.0, (sym (eqb-true r.event number t) ∙ p.1.0, or_right (is_read_at past p.0) (reads_at past e p.0) p.1.1))
        ]
