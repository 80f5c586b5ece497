-- An RK or WK keeps its rule exactly where its target has a transaction.
use Rattle.std.proofs.Common.{◌≡◌, ℕ, true, nat_lt, if◌then◌else◌, Option, None, option_map, is_some, sym, ap, subst, ◌∙◌}
use Rattle.std.proofs.lemmas.Bool.{and_parts}
use Rattle.ace_portck.proofs.Terms.{LineState, Channel, next_complete, Read, Write, Event, Rk, Wk, Header, Trace, IsAccepted, k1, k22, k27, is_ace, acknowledged, Progress, progress_of, transaction_in}
use Rattle.ace_portck.proofs.SnoopSteps.{is_some-map}
use Rattle.ace_portck.proofs.Found.{acknowledged_some}

module _ (h : Header) (past : Trace) (accepted : IsAccepted h past) (q : ℕ) (st : LineState) where
  found : (c : Channel) → is_ace h q ≡ true
      → is_some (option_map (progress_of h past) (if is_ace h q then acknowledged past q c else None)) ≡ is_some (next_complete past q c)
  found c ace = rw ace (is_some-map (progress_of h past) (acknowledged past q c) ∙ acknowledged_some h past q c accepted ace)

  pub rk_keeps : (e : Event) (t : Option Progress) → k1 h past e ≡ true → e ≡ Rk q st → t ≡ transaction_in h past e → is_some t ≡ k22 h past e
  rk_keeps e t k is own =
      let ace = (and_parts (nat_lt q h.ports) (is_ace h q) (subst (λ v. k1 h past v ≡ true) is k)).1 in
      ap is_some (own ∙ ap (transaction_in h past) is) ∙ found Read ace ∙ sym (ap (k22 h past) is)

  pub wk_keeps : (e : Event) (t : Option Progress) → k1 h past e ≡ true → e ≡ Wk q st → t ≡ transaction_in h past e → is_some t ≡ k27 h past e
  wk_keeps e t k is own =
      let ace = (and_parts (nat_lt q h.ports) (is_ace h q) (subst (λ v. k1 h past v ≡ true) is k)).1 in
      ap is_some (own ∙ ap (transaction_in h past) is) ∙ found Write ace ∙ sym (ap (k27 h past) is)
