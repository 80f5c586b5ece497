-- An answer to a line snoop is under the present grant, and a row of the snoop that the granted transaction causes.
use Rattle.std.proofs.Common.{[], le_refl, ◌≡◌, ◌⊎◌, ℕ, true, false, ◌&&◌, nat_eq, nat_le, ◌∷◌, length, Some, None, refl, sym, ap, subst, ◌∙◌, inl, inr}
use Rattle.std.proofs.lemmas.Bool.{and_parts, and_from, cases_Bool, eqb-true, eq-eqb, le-leb}
use Rattle.ace_model.proofs.Terms.{SnoopKind, LineState, ac_code, ac_kind_of, Event, Cr, Header, is_snoop_row, Snoop, Answer, Transaction, Trace, is_some_and, newer, is_line_snoop, snoop_of}
use Rattle.ace_model.proofs.Terms.{has_update, snoops_a_line, answers, answered, is_snoop_on, answers_line, data_answers, gives_line, granted, grant_place, answers_grant, answer_at, answer_of}
use Rattle.ace_model.proofs.Terms.{state_of, answers_by_row, answers_beside_update, IsAccepted}
use Rattle.ace_model.proofs.Grants.Stays.{granted_before, Stays}
use Rattle.ace_model.proofs.Holders.Rises.{state_moves, Raised}
use Rattle.ace_model.proofs.Tables.States.{Lessens}
use Rattle.ace_model.proofs.Rules.Keeps.{accepted_keeps}
use Rattle.ace_model.proofs.Tables.ReadSnoops.{kind_of_code}
use Rattle.ace_model.proofs.Grants.Pending.{IsPending, Pending, snoops}
use Rattle.ace_model.proofs.Holders.Law.{accepted_holds}
use Rattle.ace_model.proofs.General.Options.{Some-injective, is_some_and-is, is_none_or-at}
use Rattle.ace_model.proofs.General.Booleans.{implies-at}

-- The answer of the port to a snoop of the line.
pub record Answering (h : Header) (past : Trace) (q resp : ℕ) (st : LineState) (l : ℕ) : Type 0 where
  pub asked : Snoop
  pub pends : IsPending past q (answers past q) l asked
  pub pending : Pending h past q l asked
  pub kind : SnoopKind
  pub causes : snoop_of pending.one ≡ Some kind
  pub of_line : is_line_snoop kind ≡ true
  pub row : is_snoop_row kind (state_of h past q l) false resp st ≡ true
  pub beside : has_update h past q l ≡ true → is_snoop_row kind (state_of h past q l) true resp st ≡ true
  pub leaves : state_of h (Cr q resp st ∷ past) q l ≡ st
  pub under : answers_grant past q l ≡ true

pub answering_cr : (h : Header) (past : Trace) (q resp : ℕ) (st : LineState) → IsAccepted h (Cr q resp st ∷ past) → (l : ℕ) → answers_line past q l ≡ true → Answering h past q resp st l
answering_cr h past q resp st a l t =
    let s = is_some_and-is (answered past q) (λ s. is_snoop_on s l) t in
    let i : IsPending past q (answers past q) l s.0 = record { late = le_refl (answers past q); there = s.1; on = s.2 } in
    let p = (snoops h past a.0).pending q (answers past q) l s.0 i in
    let code = (accepted_holds h past a.0).snoops q (answers past q) l s.0 p.one s.1 s.2 p.under p.stands in
    let k = is_some_and-is (snoop_of p.one) (λ c. nat_eq (ac_code c) s.0.snoop) code in
    let is_kind : ac_kind_of s.0.snoop ≡ Some k.0 = ap ac_kind_of (sym (eqb-true (ac_code k.0) s.0.snoop k.2)) ∙ kind_of_code k.0 in
    let on = and_parts (snoops_a_line s.0.snoop) (nat_eq s.0.addr l) s.2 in
    let addr = eqb-true s.0.addr l on.1 in
    let line : is_line_snoop k.0 ≡ true = subst (λ o. is_some_and o is_line_snoop ≡ true) is_kind on.0 in
    let by = is_none_or-at (answered past q) (answers_by_row h past q resp st) s.0 (accepted_keeps h past (Cr q resp st) a).rule_15 s.1 in
    let row = is_none_or-at (ac_kind_of s.0.snoop) (λ c. is_snoop_row c (state_of h past q s.0.addr) false resp st) k.0 by is_kind in
    let also = is_none_or-at (answered past q) (answers_beside_update h past q resp st) s.0 (accepted_keeps h past (Cr q resp st) a).rule_16 s.1 in
    let named : (nat_eq q q && answers_line past q l) ≡ true = and_from _ _ (eq-eqb q q refl) t in
    record {
      asked = s.0;
      pends = i;
      pending = p;
      kind = k.0;
      causes = k.1;
      of_line = line;
      row = subst (λ b. is_snoop_row k.0 (state_of h past q b) false resp st ≡ true) addr row;
      beside = λ u.
          let both = implies-at (has_update h past q s.0.addr) _ also (subst (λ b. has_update h past q b ≡ true) (sym addr) u) in
          let r = is_none_or-at (ac_kind_of s.0.snoop) (λ c. is_snoop_row c (state_of h past q s.0.addr) true resp st) k.0 both is_kind in
          subst (λ b. is_snoop_row k.0 (state_of h past q b) true resp st ≡ true) addr r;
      leaves = rw named refl;
      under = rw s.1 (and_from _ _ s.2 (le-leb (grant_place past l) s.0.place p.under));
    }

module _ (past : Trace) where
  -- under the grant is on the line
  under_line : (q l : ℕ) → answers_grant past q l ≡ true → answers_line past q l ≡ true
  under_line q l t =
      let s = is_some_and-is (answered past q) (λ s. is_snoop_on s l && nat_le (grant_place past l) s.place) t in
      rw s.1 (and_parts (is_snoop_on s.0 l) _ s.2).0

  -- The answer that the event is.
  pub record NewAnswer (e : Event) (r l : ℕ) (w : Answer) : Type 0 where
    pub resp : ℕ
    pub st : LineState
    pub is : e ≡ Cr r resp st
    pub line : answers_line past r l ≡ true
    pub under : answers_grant past r l ≡ true
    pub now : w ≡ record { place = length past; resp = resp; bursts = data_answers past r }

  -- an answer under the grant was there, or is the event
  pub answer_cases : (e : Event) (r l : ℕ) (w : Answer) → gives_line past e l ≡ false → answer_of (e ∷ past) r l ≡ Some w
      → (answer_of past r l ≡ Some w) ⊎ NewAnswer e r l w
  answer_cases e r l w gives is =
      let here : newer (answer_at past e r l) (answer_of past r l) ≡ Some w = rw gives at is in
      by e here
    where
      by : (d : Event) → newer (answer_at past d r l) (answer_of past r l) ≡ Some w → (answer_of past r l ≡ Some w) ⊎ NewAnswer d r l w
      by (Cr q resp st) n =
          elim (cases_Bool (nat_eq r q && answers_grant past r l)) [
            | inr f ↦ inl (rw f at n)
            | inl t ↦
                let parts = and_parts (nat_eq r q) (answers_grant past r l) t in
                let now : Some (record { place = length past; resp = resp; bursts = data_answers past r }) ≡ Some w = rw t at n in
                inr (record {
                  resp = resp;
                  st = st;
                  is = ap (λ b. Cr b resp st) (sym (eqb-true r q parts.0));
                  line = under_line r l parts.1;
                  under = parts.1;
                  now = sym (Some-injective _ w now);
                })
          ]
      by d n = inl n

-- as long as the grant stays, no port comes to hold more
pub no_rise : (h : Header) (past : Trace) (e : Event) (l p : ℕ) (x : Transaction) → Stays h past e l x → Raised h past e p l → ⊥
no_rise h past e l p x s up =
    let addr = eqb-true up.read_one.addr l (and_parts _ (nat_eq up.read_one.addr l) up.on).1 in
    let g : granted h past l ≡ Some up.read_one = subst (λ b. granted h past b ≡ Some up.read_one) addr up.arrives.stands in
    let one : up.read_one ≡ x = Some-injective up.read_one x (sym g ∙ s.was) in
    absurd (s.lasts up.read_one up.ends_it (ap (λ (v : Transaction). v.place) one))

pub stays_less : (h : Header) (past : Trace) (e : Event) → IsAccepted h (e ∷ past) → (l p : ℕ) (x : Transaction) → Stays h past e l x
    → Lessens (state_of h past p l) (state_of h (e ∷ past) p l)
stays_less h past e a l p x stays =
    elim (state_moves h past e a p l) [
      | inl less ↦ less
      | inr up ↦ absurd (no_rise h past e l p x stays up)
    ]

-- What holds at an answer under the grant, and is kept by the later events under it, holds while the grant stays.
module _ (h : Header) (l r : ℕ) (x : Transaction) (w : Answer) (P : Trace → Type 0) where
  pub since_answer : ((past : Trace) (e : Event) → IsAccepted h (e ∷ past) → Stays h past e l x → NewAnswer past e r l w → answer_of (e ∷ past) r l ≡ Some w → P (e ∷ past))
      → ((past : Trace) (e : Event) → IsAccepted h (e ∷ past) → Stays h past e l x → answer_of past r l ≡ Some w → P past → P (e ∷ past))
      → (past : Trace) → IsAccepted h past → granted h past l ≡ Some x → answer_of past r l ≡ Some w → P past
  since_answer new old [] a g is = cc
  since_answer new old (e ∷ past) a g is =
      elim (granted_before h past e l x g) [
        | inr gives ↦ let none : None ≡ Some w = rw gives at is in cc
        | inl stays ↦ elim (answer_cases past e r l w stays.gives is) [
          | inl was ↦ old past e a stays was (since_answer new old past a.0 stays.was was)
          | inr now ↦ new past e a stays now is
        ]
      ]
