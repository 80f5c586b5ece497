-- A CR: what is asked of it by what is kept of the line of its snoop, and what it leaves of that.
use Rattle.std.proofs.Common.{◌≡◌, ◌<◌, ◌-◌, ◌^◌, ℕ, Bool, true, false, ◌∷◌, length, Option, Some, None, slice_get, slice_set, refl, sym, ap, ◌∙◌, inl, inr}
use Rattle.std.proofs.lemmas.Bool.{cases_Bool}
use Rattle.ace_lineck.proofs.Terms.{is_snoop_row, Snoop, least_broken, least_of, line_rules, Header, Trace, Cr, SnoopKind, LineState, answers_beside_update, answers_by_row, has_update, implies, is_line_snoop, is_none_or, is_some_and, k15, k16, snoops_a_line, state_of, IsAnswered, Recording, line_in, line_of_snoop, target_of, Target, LineCheck, Holder, LineRecord, HolderStands, HoldersStand, IsHolderStep, IsHoldersStep, IsRecordStep, MayApply, Stands, place_on, record_on, state_at}
use Rattle.ace_lineck.proofs.Asked.{asked, asked_both, ruled}
use Rattle.ace_lineck.proofs.HolderSteps.{holders-hear, holder-step}
use Rattle.ace_lineck.proofs.RuleLaws.{implies-true, row-apart}
use Rattle.ace_lineck.proofs.Heard.{may-hear}

module _ (h : Header) (past : Trace) (p resp : ℕ) (st : LineState) (x : Snoop) (k : SnoopKind) (is : IsAnswered past p x k) where
  -- K15 and K16, of the snoop that it answers
  by-row : k15 h past (Cr p resp st) ≡ is_snoop_row k (state_of h past p x.addr) false resp st
  by-row =
      ap (λ o. is_none_or o (answers_by_row h past p resp st)) is.next
      ∙ ap (λ o. is_none_or o (λ m. is_snoop_row m (state_of h past p x.addr) false resp st)) is.kind

  beside : k16 h past (Cr p resp st) ≡ implies (has_update h past p x.addr) (is_snoop_row k (state_of h past p x.addr) true resp st)
  beside =
      ap (λ o. is_none_or o (answers_beside_update h past p resp st)) is.next
      ∙ ap (λ o. implies (has_update h past p x.addr) (is_none_or o (λ m. is_snoop_row m (state_of h past p x.addr) true resp st))) is.kind

  -- the snoop is one of a line where its kind is
  line-kind : snoops_a_line x.snoop ≡ is_line_snoop k
  line-kind = ap (λ o. is_some_and o is_line_snoop) is.kind

  -- both rules, by the state and the memory update that are known of the line of a line snoop
  pub answer-law : (held : LineState) (update : Bool) → (snoops_a_line x.snoop ≡ true → held ≡ state_of h past p x.addr)
      → (snoops_a_line x.snoop ≡ true → update ≡ has_update h past p x.addr)
      → asked_both 15 16 (is_snoop_row k held false resp st) (implies update (is_snoop_row k held true resp st)) ≡ least_of line_rules h past (Cr p resp st)
  answer-law held update states updates =
      ruled (is_snoop_row k held false resp st) (k15 h past (Cr p resp st)) 15 (asked 16 (implies update (is_snoop_row k held true resp st))) (asked 16 (k16 h past (Cr p resp st))) row
      (λ kept. ap (asked 16) (goes kept))
    where
      by-state : (b : Bool) → is_snoop_row k held b resp st ≡ is_snoop_row k (state_of h past p x.addr) b resp st
      by-state b =
          elim (cases_Bool (snoops_a_line x.snoop)) [
            | inl line ↦ ap (λ v. is_snoop_row k v b resp st) (states line)
            | inr f ↦ row-apart k held (state_of h past p x.addr) b b resp st (sym line-kind ∙ f)
          ]

      row : is_snoop_row k held false resp st ≡ k15 h past (Cr p resp st)
      row = by-state false ∙ sym by-row

      goes : k15 h past (Cr p resp st) ≡ true → implies update (is_snoop_row k held true resp st) ≡ k16 h past (Cr p resp st)
      goes kept =
          elim (cases_Bool (snoops_a_line x.snoop)) [
            | inl line ↦ ap (λ b. implies b (is_snoop_row k held true resp st)) (updates line) ∙ ap (implies (has_update h past p x.addr)) (by-state true) ∙ sym beside
            | inr f ↦
                let own : is_snoop_row k held true resp st ≡ true = row-apart k held held true false resp st (sym line-kind ∙ f) ∙ row ∙ kept in
                let same : is_snoop_row k (state_of h past p x.addr) true resp st ≡ true = sym (by-state true) ∙ own in
                implies-true update (is_snoop_row k held true resp st) own
                ∙ sym (implies-true (has_update h past p x.addr) (is_snoop_row k (state_of h past p x.addr) true resp st) same) ∙ sym beside
          ]

  -- its line is that of the snoop
  pub answered-line : line_in h past (Cr p resp st) ≡ line_of_snoop (Some x)
  answered-line = ap line_of_snoop is.next

-- the state in which a port has the line of a line snoop
pub held-on : (s : LineCheck) (r : Recording) (p : ℕ) (x : Snoop) (held : LineState) → Stands s r → held ≡ state_at (record_on s (line_of_snoop (Some x))).states p
    → snoops_a_line x.snoop ≡ true → held ≡ state_of r.header r.past p x.addr
held-on s r p x held st is line =
    let on : line_of_snoop (Some x) ≡ Some x.addr = rw line refl in
    is ∙ ap (λ o. state_at (record_on s o).states p) on ∙ (st.lines x.addr).states.state p

-- a CR that breaks no rule may be heard
pub may-hear_answer : (s : LineCheck) (r : Recording) (p resp : ℕ) (st : LineState) (x : Snoop) (k : SnoopKind) (place : Option ℕ) → Stands s r → IsAnswered r.past p x k
    → place ≡ place_on s (line_of_snoop (Some x)) → least_broken r.header r.past (Cr p resp st) ≡ None → length r.past < 2 ^ 64 - 1
    → MayApply s r (Cr p resp st) (target_of r.header r.past (Cr p resp st)) place
may-hear_answer s r p resp st x k place stands is at fine few = may-hear s r (Cr p resp st) place refl stands (at ∙ ap (place_on s) (sym (answered-line r.header r.past p resp st x k is))) fine few

-- the data of the ports before the answer
pub answer-holders : (h : Header) (past : Trace) (l p resp : ℕ) (st : LineState) (t : Target) (x : LineRecord) → IsRecordStep h past l (Cr p resp st) t x
    → IsHoldersStep h past l (Cr p resp st) t None x.holders.items
answer-holders h past l p resp st t x s = record { step = s.step; room = s.room; whole = λ q port. refl; stand = s.stands.holders }

-- what its answer leaves of the data of one port, it leaves of all
pub answered-holders : (h : Header) (past : Trace) (l p resp : ℕ) (st : LineState) (t : Target) (x : LineRecord) (old new : Holder) → IsRecordStep h past l (Cr p resp st) t x
    → slice_get x.holders.items p ≡ Some old → p < length x.holders.items
    → (IsHolderStep h past p l (Cr p resp st) t None old → HolderStands (Cr p resp st ∷ past) p l new)
    → HoldersStand (Cr p resp st ∷ past) l (slice_set x.holders.items p new)
answered-holders h past l p resp st t x old new s at low hears =
    let all = answer-holders h past l p resp st t x s in
    holders-hear h past l (Cr p resp st) t None x.holders.items p new all refl low (hears (holder-step h past l (Cr p resp st) t None x.holders.items p old all refl at))
