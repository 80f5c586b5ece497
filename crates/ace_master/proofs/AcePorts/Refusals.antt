-- What the response to an exclusive store says: whether the interconnect refused it.
use Rattle.std.proofs.Common.{◌≡◌, ◌≢◌, ◌<◌, ℕ, Bool, true, false, not, ◌&&◌, ◌||◌, ◌==◌, if◌then◌else◌, [], ◌∷◌, length, Option, Some, None, is_some, option_map, unwrap_or, inl, inr, refl, sym, ap, subst, ◌∙◌, arith}
use Rattle.std.proofs.Math.Bool.{and-false}
use Rattle.std.proofs.lemmas.Bool.{and_from, and_parts, cases_Bool, cases_eq, eq-eqb, eqb-true, false_from_ne_true, ne_eqb, not-true, or_cases}
use Rattle.ace_codes.specs.declared.kind.ArKind.{ArKind}
use Rattle.ace_codes.specs.declared.kind.ArKind.TheVariants as read
use Rattle.ace_codes.specs.Responses.{low_bits}
use Rattle.ace_event.specs.declared.event.Channel.TheVariants.{Read}
use Rattle.ace_event.specs.declared.event.Event.{Event}
use Rattle.ace_event.specs.declared.event.Event.TheVariants.{G, R}
use Rattle.ace_event.specs.declared.header.Header.{Header}
use Rattle.ace_model.specs.declared.transactions.Transaction.{Transaction}
use Rattle.ace_model.specs.Accepted.{IsAccepted}
use Rattle.ace_model.specs.Exclusives.{has_failed, has_passed, passed_at_grant, store_passes, store_result}
use Rattle.ace_model.specs.Grants.{given, granted, has_grant}
use Rattle.ace_model.specs.Kinds.{is_clean_unique, is_line_read}
use Rattle.ace_model.specs.ReadRules.{has_low_bits, is_exclusive_okay, k21}
use Rattle.ace_model.specs.SnoopRules.{may_be_granted}
use Rattle.ace_model.specs.Trace.{Trace, implies, is_some_and}
use Rattle.ace_model.specs.Transactions.{first_resp, has_name, is_exclusive_store, is_line, is_named, is_transaction, issued, newest_named, outstanding, read_kind, takes_grant, transaction_of, transfers}
use Rattle.ace_model.proofs.General.Options.{Some-injective, is_none_or-at, is_some_and-is}
use Rattle.ace_model.proofs.Grants.Granted.{granted_given}
use Rattle.ace_model.proofs.Grants.Stays.{failed_stays, granted_after}
use Rattle.ace_model.proofs.Rules.Keeps.{accepted_keeps}
use Rattle.ace_model.proofs.Trace.Issued.{Earlier, issued-place, outstanding-name, outstanding-named, outstanding-origin, same_place, transaction_of-name, transaction_of-stands}
use Rattle.ace_model.proofs.Trace.Looks.{at_name, has_name-is, newest_named-older}
use Rattle.ace_model.proofs.Values.FullReads.{beat_due, issue_transfers, transfer_moves, under_way}
use Rattle.ace_runs.specs.Retiring.{was_refused}
use Rattle.ace_master_laws.proofs.Acknowledges.Acknowledging.{kind-on-line}

-- ---- the G of the store ------------------------------------------------------------------------------

-- a transaction that the event grants is the last of its name
given-named : (past : Trace) (e : Event) (y : Transaction) (p i : ℕ) → given past e ≡ Some y → has_name y p Read i ≡ true → transaction_of past p Read i ≡ Some y
given-named past (G q c j) y p i is named =
    sym (at_name (transaction_of past) y p Read i (has_name-is y p Read i named)) ∙ at_name (transaction_of past) y q c j (transaction_of-name past q c j y is) ∙ is
given-named past e y p i is named = cc

-- what issues a transaction grants none
issue-gives-none : (past : Trace) (e : Event) (p i : ℕ) → is_named (issued (length past) e) p Read i ≡ true → given past e ≡ None
issue-gives-none past (G q c j) p i new = cc
issue-gives-none past e p i new = refl

-- the last of the name is the new one, where that has the name
new-named : (o : Option Transaction) (p i : ℕ) (older : Option Transaction) (x : Transaction) → is_named o p Read i ≡ true → newest_named o p Read i older ≡ Some x → o ≡ Some x
new-named None p i older x t is = cc
new-named (Some y) p i older x t is = sym (ap (λ b. if b then Some y else older) t) ∙ is

-- what is granted has had no G
given-fresh : (h : Header) (past : Trace) (e : Event) (y : Transaction) → IsAccepted h (e ∷ past) → given past e ≡ Some y → has_grant past y.port y.chan y.id ≡ false
given-fresh h past (G q c j) y a is =
    let z = is_some_and-is (outstanding h past q c j) (may_be_granted h past) (accepted_keeps h past (G q c j) a).rule_12 in
    let same : z.0 ≡ y = Some-injective z.0 y (sym (outstanding-named h past q c j z.0 z.1) ∙ is) in
    let fresh = (and_parts (takes_grant z.0) (not (has_grant past z.0.port z.0.chan z.0.id)) (and_parts (takes_grant z.0 && not (has_grant past z.0.port z.0.chan z.0.id)) _ z.2).0).1 in
    subst (λ (v : Transaction). has_grant past v.port v.chan v.id ≡ false) same (not-true (has_grant past z.0.port z.0.chan z.0.id) fresh)
given-fresh h past e y a is = cc

-- what was refused was issued
refused-before : (past : Trace) (x : Transaction) → was_refused past x ≡ true → x.place < length past
refused-before [] x r = cc
refused-before (e ∷ past) x r =
    elim (or_cases (is_transaction (given past e) x && not (store_passes past x)) (was_refused past x) r) [
      | inr old ↦ let low = refused-before past x old in omega (arith, low)
      | inl now ↦ by e (and_parts (is_transaction (given past e) x) (not (store_passes past x)) now).0
    ]
  where
    by : (d : Event) → is_transaction (given past d) x ≡ true → x.place < length (e ∷ past)
    by (G q c j) t =
        let y = is_some_and-is (transaction_of past q c j) (λ y. y.place == x.place) t in
        let low = (transaction_of-stands past q c j y.0 y.1).before in
        let same = eqb-true y.0.place x.place y.2 in
        omega (arith, low, same)
    by d t = cc

clean-line : (k : ArKind) → is_clean_unique k ≡ true → is_line_read k ≡ true
clean-line read.CleanUnique t = refl
clean-line k t = cc

module _ (p i : ℕ) (x : Transaction) (exclusive : is_exclusive_store x ≡ true) where
  -- a G that names the store says how it comes out
  given-told : (past : Trace) (e : Event) → transaction_of past p Read i ≡ Some x → is_named (given past e) p Read i ≡ true
      → (given past e ≡ Some x) × (store_result past (given past e) p i ≡ Some (store_passes past x))
  given-told past e named g = by (given past e) refl g
    where
      by : (o : Option Transaction) → given past e ≡ o → is_named o p Read i ≡ true → (o ≡ Some x) × (store_result past o p i ≡ Some (store_passes past x))
      by None is t = cc
      by (Some y) is t =
          let same : y ≡ x = Some-injective y x (sym (given-named past e y p i is t) ∙ named) in (
            ap Some same,
            ap (λ b. option_map (store_passes past) (if b then Some y else None)) (and_from (has_name y p Read i) (is_exclusive_store y) t (ap is_exclusive_store same ∙ exclusive))
                ∙ ap (λ v. Some (store_passes past v)) same,
          )

  -- another one doesn't
  other-untold : (past : Trace) (o : Option Transaction) → is_named o p Read i ≡ false → store_result past o p i ≡ None
  other-untold past None f = refl
  other-untold past (Some y) f = ap (λ b. option_map (store_passes past) (if b && is_exclusive_store y then Some y else None)) f

  -- it was told how it comes out where it has had its G
  told-at-grant : (past : Trace) → transaction_of past p Read i ≡ Some x → has_grant past p Read i ≡ is_some (passed_at_grant past p i)
  told-at-grant [] named = cc
  told-at-grant (e ∷ past) named =
      elim (cases_Bool (is_named (issued (length past) e) p Read i)) [
        | inl new ↦ let none = issue-gives-none past e p i new in rw (none, new) refl
        | inr old ↦
            let was : transaction_of past p Read i ≡ Some x = sym (newest_named-older (issued (length past) e) p Read i (transaction_of past p Read i) old) ∙ named in
            let before = told-at-grant past was in
            elim (cases_Bool (is_named (given past e) p Read i)) [
              | inl g ↦ let told = (given-told past e was g).1 in rw (old, g, told) refl
              | inr f ↦ let told = other-untold past (given past e) f in rw (old, f, told) before
            ]
      ]

  -- the interconnect refused it where it doesn't pass at its G
  pub refused-is : (h : Header) (past : Trace) → IsAccepted h past → transaction_of past p Read i ≡ Some x → was_refused past x ≡ is_some_and (passed_at_grant past p i) not
  refused-is h [] a named = cc
  refused-is h (e ∷ past) a named =
      elim (cases_Bool (is_named (issued (length past) e) p Read i)) [
        | inl new ↦
            let none = issue-gives-none past e p i new in
            let place = issued-place (length past) e x (new-named (issued (length past) e) p i (transaction_of past p Read i) x new named) in
            let fresh : was_refused past x ≡ false = false_from_ne_true (was_refused past x) (λ r. let low = refused-before past x r in absurd (omega (arith, low, place))) in
            rw (none, new, fresh) refl
        | inr old ↦
            let was : transaction_of past p Read i ≡ Some x = sym (newest_named-older (issued (length past) e) p Read i (transaction_of past p Read i) old) ∙ named in
            let before = refused-is h past a.0 was in
            elim (cases_Bool (is_named (given past e) p Read i)) [
              | inl g ↦ now was before old (given-told past e was g)
              | inr f ↦ let told = other-untold past (given past e) f in let apart = no-other was f in rw (apart, old, told) before
            ]
      ]
    where
      now : transaction_of past p Read i ≡ Some x → was_refused past x ≡ is_some_and (passed_at_grant past p i) not → is_named (issued (length past) e) p Read i ≡ false
          → (given past e ≡ Some x) × (store_result past (given past e) p i ≡ Some (store_passes past x))
          → was_refused (e ∷ past) x ≡ is_some_and (passed_at_grant (e ∷ past) p i) not
      now was before old told =
          let name = transaction_of-name past p Read i x was in
          let ungranted : has_grant past p Read i ≡ false = sym (at_name (has_grant past) x p Read i name) ∙ given-fresh h past e x a told.0 in
          let fresh : was_refused past x ≡ false = before ∙ by (passed_at_grant past p i) (sym (told-at-grant past was) ∙ ungranted) in
          let here = eq-eqb x.place x.place refl in
          let told_one = told.1 in
          let one = told.0 in
          let result : store_result past (Some x) p i ≡ Some (store_passes past x) = sym (ap (λ o. store_result past o p i) one) ∙ told_one in
          rw (one, here, fresh, old, result) (or-none (not (store_passes past x)))
        where
          by : (o : Option Bool) → is_some o ≡ false → is_some_and o not ≡ false
          by None f = refl
          by (Some b) f = cc

          or-none : (b : Bool) → (b || false) ≡ b
          or-none true = refl
          or-none false = refl

      no-other : transaction_of past p Read i ≡ Some x → is_named (given past e) p Read i ≡ false → is_transaction (given past e) x ≡ false
      no-other was f = false_from_ne_true (is_transaction (given past e) x) (λ t. by e refl t)
        where
          by : (d : Event) → e ≡ d → is_transaction (given past d) x ≡ true → ⊥
          by (G q c j) is t =
              let y = is_some_and-is (transaction_of past q c j) (λ y. y.place == x.place) t in
              let same : y.0 ≡ x = same_place past q p c Read j i y.0 x y.1 was (eqb-true y.0.place x.place y.2) in
              let name : has_name x p Read i ≡ true = (transaction_of-stands past p Read i x was).named in
              let bad : false ≡ true = sym f ∙ ap (λ d. is_named (given past d) p Read i) is ∙ ap (λ o. is_named o p Read i) y.1 ∙ ap (λ v. has_name v p Read i) same ∙ name in cc
          by d is t = cc

  -- ---- its response ----------------------------------------------------------------------------------

  kind-is : (k : ArKind) × (read_kind x ≡ Some k) × (is_clean_unique k ≡ true)
  kind-is = is_some_and-is (read_kind x) is_clean_unique (and_parts x.lock (is_some_and (read_kind x) is_clean_unique) exclusive).1

  line : is_line x ≡ true
  line = kind-on-line x kind-is.0 kind-is.1 (clean-line kind-is.0 kind-is.2)

  -- K21 says how it came out
  low-told : (past : Trace) (resp : ℕ) → is_some (passed_at_grant past x.port x.id) ≡ true → has_low_bits past resp x ≡ true → has_failed past x ≡ (low_bits resp == 0)
  low-told past resp some told = by (passed_at_grant past x.port x.id) refl some
    where
      parts : (x.lock ≡ true) × (is_some_and (read_kind x) is_clean_unique ≡ true)
      parts = and_parts x.lock (is_some_and (read_kind x) is_clean_unique) exclusive

      low : (b : Bool) → is_exclusive_okay past x ≡ b → low_bits resp ≡ (if b then 1 else 0)
      low b is = eqb-true (low_bits resp) _ told ∙ ap (λ v. if v then 1 else 0) is

      of : (b : Bool) → low_bits resp ≡ (if b then 1 else 0) → not b ≡ (low_bits resp == 0)
      of true is = sym (ap (λ n. n == 0) is)
      of false is = sym (ap (λ n. n == 0) is)

      by : (o : Option Bool) → passed_at_grant past x.port x.id ≡ o → is_some o ≡ true → has_failed past x ≡ (low_bits resp == 0)
      by None is s = cc
      by (Some b) is s =
          let okay : is_exclusive_okay past x ≡ b =
          ap (λ v. v && implies (is_some_and (read_kind x) is_clean_unique) (has_passed past x)) parts.0 ∙ ap (λ v. implies v (has_passed past x)) parts.1
          ∙ ap (λ v. v && is_some_and (passed_at_grant past x.port x.id) (λ passed. passed)) exclusive ∙ ap (λ o. is_some_and o (λ passed. passed)) is in
          let fails : has_failed past x ≡ not b = ap (λ v. v && is_some_and (passed_at_grant past x.port x.id) not) exclusive ∙ ap (λ o. is_some_and o not) is in
          fails ∙ of b (low b okay)

  module _ (h : Header) where
    -- The first transfer of an exclusive store says whether it failed.
    pub told-by-response : (past : Trace) → IsAccepted h past → outstanding h past p Read i ≡ Some x → transfers past p i ≢ 0
        → has_failed past x ≡ (low_bits (unwrap_or (first_resp past p i) 0) == 0)
    told-by-response [] a o some = cc
    told-by-response (e ∷ past) a o some =
        elim (outstanding-origin h past e p Read i x o) [
          | inl new ↦ absurd (some (issue_transfers past e p i x new.0 new.1))
          | inr old ↦ elim (transfer_moves past e p i old.other) [
            | inl none ↦
                let before : transfers past p i ≢ 0 = λ z. some (none.count ∙ z) in
                later old before none.first (told-by-response past a.0 old.was before)
            | inr t ↦ elim (cases_eq (transfers past p i) 0) [
              | inl zero ↦ first old zero t.resp t.last t.word t.is
              | inr before ↦
                  let here : first_resp (R p i t.resp t.last t.word ∷ past) p i ≡ first_resp past p i =
                  rw (ne_eqb (transfers past p i) 0 before, and-false ((p == p) && (i == i))) refl in
                  later old before (ap (λ d. first_resp (d ∷ past) p i) t.is ∙ here) (told-by-response past a.0 old.was before)
            ]
          ]
        ]
      where
        still : Earlier h past e p Read i x → granted h past x.addr ≡ Some x → has_failed (e ∷ past) x ≡ has_failed past x
        still old g =
            elim (granted_after h past e a x.addr x g) [
              | inl stays ↦ failed_stays h past e a x.addr x stays
              | inr z ↦ absurd (old.lasts z.0 z.1 z.2)
            ]

        later : Earlier h past e p Read i x → transfers past p i ≢ 0 → first_resp (e ∷ past) p i ≡ first_resp past p i → has_failed past x ≡ (low_bits (unwrap_or (first_resp past p i) 0) == 0)
            → has_failed (e ∷ past) x ≡ (low_bits (unwrap_or (first_resp (e ∷ past) p i) 0) == 0)
        later old before same told =
            still old (under_way h past a.0 p i x old.was line before) ∙ told ∙ ap (λ v. low_bits (unwrap_or v 0) == 0) (sym same)

        first : Earlier h past e p Read i x → transfers past p i ≡ 0 → (resp : ℕ) (last : Bool) (word : ℕ) → e ≡ R p i resp last word
            → has_failed (e ∷ past) x ≡ (low_bits (unwrap_or (first_resp (e ∷ past) p i) 0) == 0)
        first old zero resp last word is =
            let g = (beat_due h past p i x e a (record { resp = resp; last = last; word = word; is = is }) old.was line).stands in
            let name = outstanding-name h past p Read i x old.was in
            let had : has_grant past p Read i ≡ true = sym (at_name (has_grant past) x p Read i name) ∙ (granted_given h past a.0 x.addr x g).had in
            let told_one : is_some (passed_at_grant past x.port x.id) ≡ true =
            ap (λ q. is_some (passed_at_grant past q x.id)) name.port ∙ ap (λ j. is_some (passed_at_grant past p j)) name.id
            ∙ sym (told-at-grant past (outstanding-named h past p Read i x old.was)) ∙ had in
            let kept : k21 h past (R p i resp last word) ≡ true = ap (k21 h past) (sym is) ∙ (accepted_keeps h past e a).rule_21 in
            let low : has_low_bits past resp x ≡ true = is_none_or-at (outstanding h past p Read i) (has_low_bits past resp) x kept old.was in
            let here : first_resp (R p i resp last word ∷ past) p i ≡ Some resp =
            rw (eq-eqb p p (refl {a = p}), eq-eqb i i (refl {a = i}), eq-eqb (transfers past p i) 0 zero) refl in
            still old g ∙ low-told past resp told_one low ∙ ap (λ v. low_bits (unwrap_or v 0) == 0) (sym (ap (λ d. first_resp (d ∷ past) p i) is ∙ here))
