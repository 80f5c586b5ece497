-- An answer to a snoop of a line: what is looked at under the grant of the line with it.
use Rattle.std.proofs.Common.{◌≡◌, ◌≢◌, ℕ, zero, suc, ◌<◌, arith, Bool, true, false, ◌&&◌, ◌||◌, nat_eq, ◌∷◌, length, Option, Some, None, option_map, refl, sym, ap, subst, ◌∙◌, inl, inr}
use Rattle.std.proofs.lemmas.Bool.{false_from_ne_true, and_from, cases_eq, eq-eqb, ne_eqb, ltb-true}
use Rattle.ace_model.proofs.Terms.{Cr, Header, LineState, Answer, Trace, at_point, newer, is_some_and, answers_line, answers_grant, answer_of, data_answers, list_any, ports_below, find}
use Rattle.ace_model.proofs.Terms.{shares, passes, has_sharer, passer, is_shared, passes_dirty, transfers_data, is_dirty, state_of, copy_of, copy_at_answer, first_sender, IsAccepted}
use Rattle.ace_model.proofs.General.Options.{is_some_and-is}
use Rattle.ace_model.proofs.Trace.Places.{at_point-last}
use Rattle.ace_model.proofs.Tables.States.{row_is}
use Rattle.ace_model.proofs.Tables.Less.{settled_clean}
use Rattle.ace_model.proofs.Grants.SnoopAnswers.{Answering, answering_cr}
use Rattle.ace_model.proofs.Grants.Answers.{others_settled}
use Rattle.ace_model.proofs.GrantLooks.Quiet.{some_port-agree, find_port-agree, copy_at_answer-old}

-- a test that agrees with another but at one port, of which the other fails
pub some_port-one : (n : ℕ) (test other : ℕ → Bool) (q : ℕ) → q < n → other q ≡ false → ((r : ℕ) → r ≢ q → test r ≡ other r)
    → list_any test (ports_below n) ≡ (test q || list_any other (ports_below n))
some_port-one zero test other q low none same = absurd (omega arith)
some_port-one (suc n) test other q low none same =
    elim (cases_eq q n) [
      | inl last ↦
          let rest : list_any test (ports_below n) ≡ list_any other (ports_below n) = some_port-agree n test other (λ r less. same r (omega arith)) in
          let fails : other n ≡ false = ap other (sym last) ∙ none in
          subst (λ v. (test n || list_any test (ports_below n)) ≡ (test v || (other n || list_any other (ports_below n)))) (sym last) (rw (rest, fails) refl)
      | inr apart ↦
          let rest = some_port-one n test other q (omega arith) none same in
          let here : test n ≡ other n = same n (λ e. apart (sym e)) in
          rw (here, rest) (swap (other n) (test q) (list_any other (ports_below n)))
    ]
  where
    swap : (a b c : Bool) → (a || (b || c)) ≡ (b || (a || c))
    swap true true c = refl
    swap true false c = refl
    swap false b c = refl

-- the one port that passes a test is found
pub find_port-one : (n : ℕ) (test : ℕ → Bool) (q : ℕ) → q < n → test q ≡ true → ((r : ℕ) → r ≢ q → test r ≡ false) → find test (ports_below n) ≡ Some q
find_port-one zero test q low found none = absurd (omega arith)
find_port-one (suc n) test q low found none =
    elim (cases_eq q n) [
      | inl last ↦ let here : test n ≡ true = ap test (sym last) ∙ found in rw here (ap (λ v. Some v) (sym last))
      | inr apart ↦ let here = none n (λ e. apart (sym e)) in rw here (find_port-one n test q (omega arith) found none)
    ]

module _ (h : Header) (past : Trace) (q resp : ℕ) (st : LineState) (l : ℕ) (a : IsAccepted h (Cr q resp st ∷ past)) (t : answers_line past q l ≡ true) where
  -- the answer
  abbrev pub the_answer : Answer
  the_answer = record { place = length past; resp = resp; bursts = data_answers past q }

  pub answering : Answering h past q resp st l
  answering = answering_cr h past q resp st a l t

  pub low_port : q < h.ports
  low_port = ltb-true q h.ports answering.pending.within

  pub answer-now : answer_of (Cr q resp st ∷ past) q l ≡ Some the_answer
  answer-now = let here : (nat_eq q q && answers_grant past q l) ≡ true = and_from _ _ (eq-eqb q q refl) answering.under in rw here refl

  pub answer-other : (p : ℕ) → p ≢ q → answer_of (Cr q resp st ∷ past) p l ≡ answer_of past p l
  answer-other p apart = rw (ne_eqb p q apart) refl

  pub copy-now : copy_at_answer (Cr q resp st ∷ past) l q ≡ Some (copy_of past q l)
  copy-now =
      ap (option_map (λ (w : Answer). copy_of (at_point w.place (Cr q resp st ∷ past)) q l)) answer-now
      ∙ ap (λ (v : Trace). Some (copy_of v q l)) (at_point-last (Cr q resp st) past (length past) refl)

  pub copy-other : (p : ℕ) → p ≢ q → copy_at_answer (Cr q resp st ∷ past) l p ≡ copy_at_answer past l p
  copy-other p apart = copy_at_answer-old past (Cr q resp st) p l (answer-other p apart)

  -- the sharers
  pub sharer-now : has_sharer h (Cr q resp st ∷ past) l ≡ (is_shared resp || has_sharer h past l)
  sharer-now =
      let none = answering.pending.unanswered in
      some_port-one h.ports (shares (Cr q resp st ∷ past) l) (shares past l) q low_port (ap (λ o. is_some_and o (λ (w : Answer). is_shared w.resp)) none)
      (λ p apart. ap (λ o. is_some_and o (λ (w : Answer). is_shared w.resp)) (answer-other p apart))
      ∙ ap (λ b. b || has_sharer h past l) (ap (λ o. is_some_and o (λ (w : Answer). is_shared w.resp)) answer-now)

  -- the port that passed on: none other did
  pub passer-same : passes_dirty resp ≡ false → passer h (Cr q resp st ∷ past) l ≡ passer h past l
  passer-same clean = find_port-agree h.ports (passes (Cr q resp st ∷ past) l) (passes past l) (λ p low. same p)
    where
      same : (p : ℕ) → passes (Cr q resp st ∷ past) l p ≡ passes past l p
      same p =
          elim (cases_eq p q) [
            | inr apart ↦ ap (λ o. is_some_and o (λ (w : Answer). passes_dirty w.resp)) (answer-other p apart)
            | inl one ↦
                subst (λ v. passes (Cr q resp st ∷ past) l v ≡ passes past l v) (sym one)
                (ap (λ o. is_some_and o (λ (w : Answer). passes_dirty w.resp)) answer-now ∙ clean
                ∙ sym (ap (λ o. is_some_and o (λ (w : Answer). passes_dirty w.resp)) answering.pending.unanswered))
          ]

  pub passer-now : passes_dirty resp ≡ true → passer h (Cr q resp st ∷ past) l ≡ Some q
  passer-now dirty =
      find_port-one h.ports (passes (Cr q resp st ∷ past) l) q low_port (ap (λ o. is_some_and o (λ (w : Answer). passes_dirty w.resp)) answer-now ∙ dirty)
      (λ p apart. ap (λ o. is_some_and o (λ (w : Answer). passes_dirty w.resp)) (answer-other p apart) ∙ none p apart)
    where
      none : (p : ℕ) → p ≢ q → passes past l p ≡ false
      none p apart =
          false_from_ne_true (passes past l p) (λ also.
          let w = is_some_and-is (answer_of past p l) (λ (v : Answer). passes_dirty v.resp) also in
          let row = row_is answering.kind (state_of h past q l) resp st answering.row in
          let held : is_dirty (state_of h past q l) ≡ true = (row.passes dirty).0 in
          let clean = settled_clean (state_of h past q l) (others_settled h past a.0 l p q answering.pending.one w.0 answering.pending.stands w.1 w.2 (λ e. apart (sym e))) in cc)

  -- the first port that sent data
  pub sender-silent : transfers_data resp ≡ false → first_sender (Cr q resp st ∷ past) l ≡ first_sender past l
  sender-silent silent = rw silent (last (first_sender past l))
    where
      last : (o : Option ℕ) → newer o None ≡ o
      last None = refl
      last (Some v) = refl

  pub sender-now : transfers_data resp ≡ true → first_sender (Cr q resp st ∷ past) l ≡ newer (first_sender past l) (Some q)
  sender-now sends = let under = answering.under in rw (sends, under) refl
