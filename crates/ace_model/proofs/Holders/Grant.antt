-- G: the line is granted to a transaction. It was free, and there is no snoop and no answer under the new grant.
use Rattle.std.proofs.Common.{◌≡◌, ℕ, ◌+◌, ◌≤◌, true, false, not, ◌&&◌, ◌∷◌, length, Option, Some, None, refl, sym, ap, ◌∙◌, arith, inl, inr}
use Rattle.std.proofs.lemmas.Bool.{and_parts, and_from, cases_Bool, eq-eqb}
use Rattle.ace_model.proofs.Terms.{Header, Channel, Read, G, Transaction, Trace, newer, is_on, is_line, is_some_on, has_name, transaction_of, outstanding, takes_grant, is_exclusive_store}
use Rattle.ace_model.proofs.Terms.{granted, has_grant, has_failed, is_some_and, passed_at_grant, store_result, state_of, k12, may_be_granted}
use Rattle.ace_model.proofs.Trace.Looks.{has_name-is, at_name, newest_on-cases, newest_on-older, is_on-addr}
use Rattle.ace_model.proofs.Trace.Issued.{outstanding-name, outstanding-named, transaction_of-stands}
use Rattle.ace_model.proofs.Trace.Snoops.{snoops-before}
use Rattle.ace_model.proofs.General.Options.{Some-injective, none_is, is_some_and-is}
use Rattle.ace_model.proofs.Tables.States.{Lessens-self}
use Rattle.ace_model.proofs.Holders.Facts.{GrantsStand, SnoopsFit, AnswersFit, PassedOn, TransfersArrive, OneHolder}
use Rattle.ace_model.proofs.Holders.Kept.{arrives_kept}
use Rattle.ace_model.proofs.Trace.Outstanding.{outstanding_own}

module _ (h : Header) (past : Trace) (q : ℕ) (c : Channel) (j : ℕ) where
  -- What K12 says of the transaction that the event grants.
  pub record MayGrant : Type 0 where
    pub granted_one : Transaction
    pub out : outstanding h past q c j ≡ Some granted_one
    pub named : transaction_of past q c j ≡ Some granted_one
    pub free : granted h past granted_one.addr ≡ None

  may_grant : k12 h past (G q c j) ≡ true → MayGrant
  may_grant k =
      let o = is_some_and-is (outstanding h past q c j) (may_be_granted h past) k in
      record {
        granted_one = o.0;
        out = o.1;
        named = outstanding-named h past q c j o.0 o.1;
        free = none_is (granted h past o.0.addr) (and_parts (takes_grant o.0 && not (has_grant past o.0.port o.0.chan o.0.id)) _ o.2).1;
      }

  -- the line of the grant is none that was granted
  pub other_line : (l : ℕ) (x : Transaction) → k12 h past (G q c j) ≡ true → granted h past l ≡ Some x
      → is_some_on (transaction_of past q c j) l ≡ false
  other_line l x k g =
      let m = may_grant k in
      elim (cases_Bool (is_on m.granted_one l)) [
        | inl t ↦ let free = rw (is_on-addr m.granted_one l t) at m.free in cc
        | inr other ↦ rw m.named other
      ]

  -- and it isn't that of the exclusive store
  pub failed_g : (p i : ℕ) (x : Transaction) → outstanding h past p Read i ≡ Some x → is_line x ≡ true
      → is_some_on (transaction_of past q c j) x.addr ≡ false → has_failed (G q c j ∷ past) x ≡ has_failed past x
  failed_g p i x o line other =
      ap (λ v. is_exclusive_store x && is_some_and (newer v (passed_at_grant past x.port x.id)) not) (unmoved (transaction_of past q c j) refl)
    where
      is_x : (y : Transaction) → transaction_of past q c j ≡ Some y → has_name y x.port Read x.id ≡ true → y ≡ x
      is_x y is named =
          let mine = has_name-is y x.port Read x.id named in
          let its = has_name-is y q c j (transaction_of-stands past q c j y is).named in
          let look = transaction_of past in
          let same = sym (at_name look y q c j its) ∙ at_name look y x.port Read x.id mine ∙ at_name (λ a d. look a Read) x p Read i (outstanding-name h past p Read i x o) in
          Some-injective y x (sym is ∙ same ∙ outstanding-named h past p Read i x o)

      unmoved : (v : Option Transaction) → transaction_of past q c j ≡ v → store_result past v x.port x.id ≡ None
      unmoved None is = refl
      unmoved (Some y) is =
          elim (cases_Bool (has_name y x.port Read x.id && is_exclusive_store y)) [
            | inr f ↦ rw f refl
            | inl t ↦
                let one = is_x y is (and_parts (has_name y x.port Read x.id) _ t).0 in
                let here : is_on x x.addr ≡ true = and_from _ _ line (eq-eqb x.addr x.addr refl) in
                let there : is_on y x.addr ≡ true = rw one here in
                let isnt : is_on y x.addr ≡ false = rw is at other in
                cc
          ]

  module _ (f : OneHolder h past) where
    -- what stands on a line that isn't granted now was granted before
    before_g : (l : ℕ) (x : Transaction) → is_some_on (transaction_of past q c j) l ≡ false → granted h (G q c j ∷ past) l ≡ Some x → granted h past l ≡ Some x
    before_g l x other g = sym (newest_on-older (transaction_of past q c j) l (granted h past l) other) ∙ g

    snoops_g : SnoopsFit h (G q c j ∷ past)
    snoops_g r n l s x e on place g =
        elim (cases_Bool (is_some_on (transaction_of past q c j) l)) [
          | inl t ↦
              let before = snoops-before past r n s e in
              let after : length past + 1 ≤ s.place = rw t at place in
              absurd (omega arith)
          | inr other ↦ f.snoops r n l s x e on (rw other at place) (before_g l x other g)
        ]

    answers_g : AnswersFit h (G q c j ∷ past)
    answers_g l r x a k g w causes =
        elim (cases_Bool (is_some_on (transaction_of past q c j) l)) [
          | inl t ↦ let none : None ≡ Some a = rw t at w in cc
          | inr other ↦ f.answers l r x a k (before_g l x other g) (rw other at w) causes
        ]

    passed_g : PassedOn h (G q c j ∷ past)
    passed_g l r x a g takes w dirty =
        elim (cases_Bool (is_some_on (transaction_of past q c j) l)) [
          | inl t ↦ let none : None ≡ Some a = rw t at w in cc
          | inr other ↦ f.passed l r x a (before_g l x other g) takes (rw other at w) dirty
        ]

    module _ (k : k12 h past (G q c j) ≡ true) where
      grants_g : GrantsStand h (G q c j ∷ past)
      grants_g l x g =
          elim (newest_on-cases (transaction_of past q c j) l (granted h past l) x g) [
            | inl new ↦
                let m = may_grant k in
                (outstanding_own h past q c j x (m.out ∙ sym m.named ∙ new.0), new.1)
            | inr old ↦ f.grants l x old.0
          ]

      arrive_g : TransfersArrive h (G q c j ∷ past)
      arrive_g p i x ace o line some =
          let a = f.arrive p i x ace o line some in
          let other = other_line x.addr x k a.stands in
          arrives_kept h past (G q c j) p i x (newest_on-older (transaction_of past q c j) x.addr (granted h past x.addr) other ∙ a.stands)
          refl (failed_g p i x o line other) (λ r. Lessens-self (state_of h past r x.addr)) a

      pub keeps_g : OneHolder h (G q c j ∷ past)
      keeps_g = assumption (f, grants_g, snoops_g, answers_g, passed_g, arrive_g)
