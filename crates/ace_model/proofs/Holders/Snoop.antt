-- AC and CR: a port is snooped, and answers by a row of the snoop.
use Rattle.std.proofs.Common.{◌≡◌, ◌≢◌, ℕ, true, false, not, ◌&&◌, nat_eq, nat_le, ◌∷◌, Some, length, refl, sym, ap, subst, ◌∙◌, inl, inr}
use Rattle.std.proofs.lemmas.Bool.{and_parts, and_from, not-true, cases_Bool, cases_eq, eqb-true, leb-true}
use Rattle.ace_model.proofs.Terms.{SnoopKind, LineState, is_shared, passes_dirty, ac_code, ac_kind_of, Header, Ac, Cr, is_snoop_row, is_unique, is_dirty, Answer, Snoop}
use Rattle.ace_model.proofs.Terms.{Transaction, Trace, is_some_and, is_line_snoop, takes_passed_data, read_kind, write_kind, snoop_of, snoop_kind_of, snoop_at, snoops_of, snoops_a_line, answers, answered}
use Rattle.ace_model.proofs.Terms.{is_snoop_on, answers_line, granted, grant_place, answers_grant, was_snooped, has_failed, state_of, k13, k15, answers_by_row, has_snoop_code, may_snoop, may_snoop_for}
use Rattle.ace_model.proofs.General.Lists.{slice_get-more}
use Rattle.ace_model.proofs.Tables.States.{is_settled, Row, row_is}
use Rattle.ace_model.proofs.Holders.Facts.{SnoopsFit, AnswersFit, PassedOn, TransfersArrive, OneHolder}
use Rattle.ace_model.proofs.General.Options.{Some-injective, some_if-is, is_some_and-is, is_some_and-at, is_none_or-at}
use Rattle.ace_model.proofs.General.Booleans.{implies-at}
use Rattle.ace_model.proofs.Tables.Less.{Less, less_where, less-lessens, less-clean, leaves_kept, settled}
use Rattle.ace_model.proofs.Tables.ReadSnoops.{kind_of_code, passed_snoop, not_unique_after}
use Rattle.ace_model.proofs.Holders.Kept.{arrives_kept, held_kept, one_dirty_kept, LessenedAt}

module _ (h : Header) (past : Trace) where
  -- the new snoop is the one that the granted transaction causes
  snoops_ac : (q addr code : ℕ) → OneHolder h past → k13 h past (Ac q addr code) ≡ true → SnoopsFit h (Ac q addr code ∷ past)
  snoops_ac q addr code f k r n l s x e on place g =
      elim (slice_get-more (snoops_of past r) (snoop_at (length past) (Ac q addr code) r) n s e) [
        | inl old ↦ f.snoops r n l s x old on place g
        | inr new ↦
            let same = (some_if-is (nat_eq r q) _ s new.1).1 in
            subst (λ (t : Snoop). has_snoop_code x t.snoop ≡ true) same (causes (subst (λ (t : Snoop). is_snoop_on t l ≡ true) (sym same) on))
      ]
    where
      causes : is_snoop_on (record { place = length past; addr = addr; snoop = code }) l ≡ true → has_snoop_code x code ≡ true
      causes here =
          let parts = and_parts (snoops_a_line code) (nat_eq addr l) here in
          let may = implies-at (snoops_a_line code) (may_snoop h past q addr code) k parts.0 in
          let two = and_parts (is_some_and (granted h past addr) (λ y. may_snoop_for past y q code) && not (was_snooped past q addr)) _ may in
          let for = is_some_and-at (granted h past addr) (λ y. may_snoop_for past y q code) x (and_parts _ (not (was_snooped past q addr)) two.0).0
          (ap (granted h past) (eqb-true addr l parts.1) ∙ g) in
          let three = and_parts ((not (nat_eq x.port q) && has_snoop_code x code) && not (has_failed past x)) _ for in
          (and_parts (not (nat_eq x.port q)) (has_snoop_code x code) (and_parts (not (nat_eq x.port q) && has_snoop_code x code) _ three.0).0).1

  pub keeps_ac : (q addr code : ℕ) → OneHolder h past → k13 h past (Ac q addr code) ≡ true → OneHolder h (Ac q addr code ∷ past)
  keeps_ac q addr code f k = assumption (f, snoops_ac q addr code f k)

  -- A CR that names the port's state of the line is a row of the snoop that it answers.
  record Answers (resp : ℕ) (st : LineState) (r l : ℕ) : Type 0 where
    snooped : Snoop
    is : answered past r ≡ Some snooped
    kind : SnoopKind
    is_kind : ac_kind_of snooped.snoop ≡ Some kind
    row : Row kind (state_of h past r l) resp st

  module _ (q resp : ℕ) (st : LineState) where
    -- A CR under the grant of the line is a row of the snoop that the granted transaction causes, and names the state of its port.
    record AnswersGrant (r l : ℕ) (k : SnoopKind) : Type 0 where
      row : Row k (state_of h past r l) resp st
      named : state_of h (Cr q resp st ∷ past) r l ≡ st

    module _ (by_row : k15 h past (Cr q resp st) ≡ true) where
      answers_cr : (r l : ℕ) → (nat_eq r q && answers_line past r l) ≡ true → Answers resp st r l
      answers_cr r l t =
          let parts = and_parts (nat_eq r q) _ t in
          let port = eqb-true r q parts.0 in
          let s = is_some_and-is (answered past r) (λ s. is_snoop_on s l) parts.1 in
          let on = and_parts (snoops_a_line s.0.snoop) _ s.2 in
          let kind = is_some_and-is (ac_kind_of s.0.snoop) is_line_snoop on.0 in
          let by = is_none_or-at (answered past q) (answers_by_row h past q resp st) s.0 by_row (ap (answered past) (sym port) ∙ s.1) in
          let row = is_none_or-at (ac_kind_of s.0.snoop) (λ c. is_snoop_row c (state_of h past q s.0.addr) false resp st) kind.0 by kind.1 in
          let here : state_of h past q s.0.addr ≡ state_of h past r l =
          ap (λ a. state_of h past a s.0.addr) (sym port) ∙ ap (state_of h past r) (eqb-true s.0.addr l on.1) in
          record {
            snooped = s.0;
            is = s.1;
            kind = kind.0;
            is_kind = kind.1;
            row = subst (λ v. Row kind.0 v resp st) here (row_is kind.0 (state_of h past q s.0.addr) resp st row);
          }

      pub less_cr : (r l : ℕ) → Less (state_of h past r l) (state_of h (Cr q resp st ∷ past) r l)
      less_cr r l = less_where (nat_eq r q && answers_line past r l) (state_of h past r l) st (λ t. (answers_cr r l t).row.less)

      lessened_cr : (l : ℕ) → LessenedAt h past (Cr q resp st) l
      lessened_cr l r = less-lessens _ _ (less_cr r l)

      module _ (f : OneHolder h past) where
        answers_grant_cr : (r l : ℕ) (x : Transaction) (k : SnoopKind) → (nat_eq r q && answers_grant past r l) ≡ true → granted h past l ≡ Some x
            → snoop_of x ≡ Some k → AnswersGrant r l k
        answers_grant_cr r l x k t g causes =
            let parts = and_parts (nat_eq r q) _ t in
            let s = is_some_and-is (answered past r) (λ s. is_snoop_on s l && nat_le (grant_place past l) s.place) parts.1 in
            let under = and_parts (is_snoop_on s.0 l) _ s.2 in
            let line : answers_line past r l ≡ true = rw s.1 under.0 in
            let here : (nat_eq r q && answers_line past r l) ≡ true = and_from _ _ parts.0 line in
            let a = answers_cr r l here in
            let code = f.snoops r (answers past r) l s.0 x s.1 under.0 (leb-true (grant_place past l) s.0.place under.1) g in
            let same_code : nat_eq (ac_code k) s.0.snoop ≡ true = rw causes at code in
            let one : s.0 ≡ a.snooped = Some-injective s.0 a.snooped (sym s.1 ∙ a.is) in
            let kinds : Some k ≡ Some a.kind =
            sym (kind_of_code k) ∙ ap ac_kind_of (eqb-true (ac_code k) s.0.snoop same_code) ∙ ap (λ (v : Snoop). ac_kind_of v.snoop) one ∙ a.is_kind in
            record {
              row = subst (λ c. Row c (state_of h past r l) resp st) (sym (Some-injective k a.kind kinds)) a.row;
              named = rw here refl;
            }

        -- the answer leaves the state that the snoop and the response say
        answers_fit_cr : AnswersFit h (Cr q resp st ∷ past)
        answers_fit_cr l r x a k g w causes =
            elim (cases_Bool (nat_eq r q && answers_grant past r l)) [
              | inl t ↦
                  let now = answers_grant_cr r l x k t g causes in
                  let is : Some (record { place = length past; resp = resp; bursts = _ }) ≡ Some a = rw t at w in
                  let same : resp ≡ a.resp = ap (λ (v : Answer). v.resp) (Some-injective _ a is) in
                  rw (now.named, ← same) now.row.leaves
              | inr other ↦ leaves_kept k (is_shared a.resp) (state_of h past r l) _ (lessened_cr l r) (f.answers l r x a k g (rw other at w) causes)
            ]

        -- where the port was dirty, another one holds the line neither dirty nor alone
        settled_beside : (r z l : ℕ) → z ≢ r → is_dirty (state_of h past r l) ≡ true → is_settled (state_of h past z l) ≡ true
        settled_beside r z l apart d =
            settled (state_of h past z l)
            (elim (cases_Bool (is_unique (state_of h past z l))) [
              | inr fine ↦ fine
              | inl u ↦ let bad = rw (f.unique l z r u apart) at d in cc
            ])
            (elim (cases_Bool (is_dirty (state_of h past z l))) [
              | inr fine ↦ fine
              | inl e ↦ absurd (apart (f.one_dirty l z r e d))
            ])

        -- where the answer passes dirt on, its port was dirty and isn't any more
        passed_cr : PassedOn h (Cr q resp st ∷ past)
        passed_cr l r x a g takes w dirty z =
            elim (cases_Bool (nat_eq r q && answers_grant past r l)) [
              | inr other ↦ (lessened_cr l z).settled (f.passed l r x a g takes (rw other at w) dirty z)
              | inl t ↦
                  let kind = is_some_and-is (read_kind x) takes_passed_data takes in
                  let snooped = passed_snoop kind.0 kind.2 in
                  let causes : snoop_of x ≡ Some snooped.0 = ap (λ o. snoop_kind_of o (write_kind x)) kind.1 ∙ snooped.1 in
                  let now = answers_grant_cr r l x snooped.0 t g causes in
                  let is : Some (record { place = length past; resp = resp; bursts = _ }) ≡ Some a = rw t at w in
                  let same : resp ≡ a.resp = ap (λ (v : Answer). v.resp) (Some-injective _ a is) in
                  let handed = now.row.passes (ap passes_dirty same ∙ dirty) in
                  elim (cases_eq z r) [
                    | inl own ↦
                        rw (own, now.named) (settled st (not_unique_after snooped.0 (is_shared resp) st snooped.2 now.row.leaves) (not-true (is_dirty st) handed.1))
                    | inr apart ↦ (lessened_cr l z).settled (settled_beside r z l apart handed.0)
                  ]
            ]

        arrive_cr : TransfersArrive h (Cr q resp st ∷ past)
        arrive_cr p i x ace o line some =
            let a = f.arrive p i x ace o line some in
            arrives_kept h past (Cr q resp st) p i x a.stands refl refl (lessened_cr x.addr) a

        pub keeps_cr : OneHolder h (Cr q resp st ∷ past)
        keeps_cr = assumption (
          f,
          answers_fit_cr,
          passed_cr,
          arrive_cr,
          held_kept h past (Cr q resp st) lessened_cr f,
          one_dirty_kept h past (Cr q resp st) (λ r l. less-clean _ _ (less_cr r l)) f.one_dirty,
        )
