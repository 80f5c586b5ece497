-- The clauses of K26 and K28 of events that aren't theirs.
use Rattle.std.proofs.Common.{◌≡◌, ℕ, refl}
use Rattle.ace_codes.specs.declared.state.LineState.{LineState}
use Rattle.ace_event.specs.declared.event.Event.{Event}
use Rattle.ace_event.specs.declared.event.Event.TheVariants.{B, Wk}
use Rattle.ace_portck.specs.Targets.{Recording}
use Rattle.ace_clauses.specs.declared.letters.Letter.TheVariants as letter
use Rattle.ace_explain.specs.Names.{Names}
use Rattle.ace_explain.proofs.Broken.{has_clause, none_broken}

module _ (r : Recording) where
  -- of an event that is no B, and of one that is no WK
  pub k26_of_others : (e : Event) → ((p i resp : ℕ) → e ≡ B p i resp → ⊥) → Names r e 26 letter.A
  k26_of_others (B p i resp) b least = absurd (b p i resp refl)
  k26_of_others e b least = none_broken (has_clause r.header r.past e 26 least)

  pub k28_of_others : (e : Event) → ((p : ℕ) (st : LineState) → e ≡ Wk p st → ⊥) → Names r e 28 letter.A
  k28_of_others (Wk p st) wk least = absurd (wk p st refl)
  k28_of_others e wk least = none_broken (has_clause r.header r.past e 28 least)
