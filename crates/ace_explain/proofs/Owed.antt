-- As long as a port owes the data of its answer under a grant, the granted transaction hasn't begun; so what is begun has its passed data whole.
use Rattle.std.proofs.Common.{◌≡◌, ℕ, ◌+◌, ◌*◌, ◌<◌, true, false, not, nat_le, [], ◌∷◌, Some, None, refl, sym, ap, subst, ◌∙◌, arith, inl, inr}
use Rattle.std.proofs.lemmas.Bool.{and_parts, cases_Bool, ltb-true, not-true, lt-leb}
use Rattle.ace_model.specs.declared.snoops.Answer.{Answer}
use Rattle.ace_model.specs.declared.transactions.Transaction.{Transaction}
use Rattle.ace_model.specs.Grants.{is_short}
use Rattle.ace_model.specs.Snoops.{data_beats}
use Rattle.ace_model.proofs.Terms.{Header, Cr, Trace, IsAccepted, transfers_data, snoop_of, granted, gives_line, answer_of, owes_data, has_passed_data, are_passed_data_whole, is_begun, has_failed}
use Rattle.ace_model.proofs.General.Options.{Some-injective, is_some_and-is}
use Rattle.ace_model.proofs.General.Ports.{each_at}
use Rattle.ace_model.proofs.Grants.Granted.{has_passed, passes_of}
use Rattle.ace_model.proofs.Grants.SnoopAnswers.{answer_cases}
use Rattle.ace_model.proofs.Lines.Owing.{Owing, data_beats-grow, owing_new, owing_stays}
use Rattle.ace_clauses.specs.ReadClauses.{are_snoop_data_whole}

not_below : (n m : ℕ) → not (nat_le n m) ≡ true → m < n
not_below n m t = let f = not-true (nat_le n m) t in grind (arith, f)

below_not : (n m : ℕ) → m < n → not (nat_le n m) ≡ true
below_not n m low = ap not (lt-leb n m low)

module _ (h : Header) where
  pub owing : (past : Trace) → IsAccepted h past → (p l : ℕ) (w : Answer) → answer_of past p l ≡ Some w → is_short past p w ≡ true → Owing h past p l w
  owing [] a p l w is short = cc
  owing (e ∷ past) a p l w is short =
      let parts = and_parts (transfers_data w.resp) (not (nat_le (4 * (w.bursts + 1)) (data_beats (e ∷ past) p))) short in
      let now = not_below (4 * (w.bursts + 1)) (data_beats (e ∷ past) p) parts.1 in
      elim (cases_Bool (gives_line past e l)) [
        | inl gives ↦ let bad : None ≡ Some w = rw gives at is in cc
        | inr other ↦ elim (answer_cases past e p l w other is) [
          | inr new ↦
              let sends : transfers_data new.resp ≡ true = ap (λ (v : Answer). transfers_data v.resp) (sym new.now) ∙ parts.0 in
              let there = owing_new h past p new.resp new.st (subst (λ v. IsAccepted h (v ∷ past)) new.is a) l new.line sends in
              subst (λ v. Owing h (v ∷ past) p l w) (sym new.is) (subst (Owing h (Cr p new.resp new.st ∷ past) p l) (sym new.now) there)
          | inl old ↦
              let grows = data_beats-grow e past p in
              let before : data_beats past p < 4 * (w.bursts + 1) = omega (arith, grows, now) in
              let was : is_short past p w ≡ true = let sends = parts.0 in rw sends (below_not (4 * (w.bursts + 1)) (data_beats past p) before) in
              owing_stays h past p l w (owing past a.0 p l w old was) before e a
        ]
      ]

  module _ (past : Trace) (a : IsAccepted h past) (x : Transaction) (stands : granted h past x.addr ≡ Some x) (passed : has_passed_data h past x ≡ true) where
    -- the passed data are whole where the transaction has begun, or the data of all its snoops are whole
    pub passed_whole : (is_begun past x ≡ false → are_snoop_data_whole h past x ≡ true) → are_passed_data_whole h past x ≡ true
    passed_whole data_whole =
        let from = passes_of h past x.addr (has_passed h past x passed).some in
        let found = from.found in
        elim (cases_Bool (owes_data past from.port x.addr)) [
          | inr none ↦ rw (found, none) refl
          | inl owes ↦
              let w = is_some_and-is (answer_of past from.port x.addr) (λ v. is_short past from.port v) owes in
              let o = owing past a from.port x.addr w.0 w.1 w.2 in
              let one : o.one ≡ x = Some-injective o.one x (sym o.stands ∙ stands) in
              let unbegun : is_begun past x ≡ false = ap (is_begun past) (sym one) ∙ o.unbegun in
              let unfailed : has_failed past x ≡ false = ap (has_failed past) (sym one) ∙ o.unfailed in
              let causes : snoop_of x ≡ Some o.kind = ap snoop_of (sym one) ∙ o.causes in
              let all = data_whole unbegun in
              let each = (rw (causes, unfailed) at all) in
              let no = each_at h.ports (λ q. not (owes_data past q x.addr)) from.port each (ltb-true from.port h.ports o.within) in
              let none = not-true (owes_data past from.port x.addr) no in cc
        ]
