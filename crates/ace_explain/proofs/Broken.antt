-- Where a rule is the least that an event breaks, it has a clause that is false of the event, and every smaller rule is kept.
use Rattle.std.proofs.Common.{◌≡◌, ℕ, ◌<◌, Bool, true, false, if◌then◌else◌, Option, Some, None, is_some, refl, ◌∙◌, arith}
use Rattle.std.proofs.lemmas.Bool.{false_from_ne_true}
use Rattle.ace_event.specs.declared.event.Event.{Event}
use Rattle.ace_event.specs.declared.header.Header.{Header}
use Rattle.ace_model.specs.Trace.{Trace}
use Rattle.ace_model.specs.Accepted.{rules, breaks, least_broken}
use Rattle.ace_model.proofs.Rules.Least.{least_of_is_least}
use Rattle.ace_clauses.specs.Clauses.{clause_of}
use Rattle.ace_clauses.specs.declared.letters.Letter.{Letter}
use Rattle.ace_clauses.proofs.Law.{named_where_broken}

module _ (h : Header) (past : Trace) (e : Event) (k : ℕ) (least : least_broken h past e ≡ Some k) where
  -- it has a clause
  pub has_clause : is_some (clause_of h past e k) ≡ true
  has_clause = named_where_broken h past e k ∙ (least_of_is_least h past e rules k refl least).broken

  -- no smaller rule is broken
  pub keeps_smaller : (j : ℕ) → j < k → breaks h past e j ≡ false
  keeps_smaller j less =
      false_from_ne_true (breaks h past e j) (λ t. let low = (least_of_is_least h past e rules k refl least).least j t in absurd (omega (arith, low, less)))

-- the last clause is the one, where the ones before it hold
pub last_one : (b : Bool) (letter : Letter) → is_some (if b then None else Some letter) ≡ true → (if b then None else Some letter) ≡ Some letter
last_one true letter some = cc
last_one false letter some = refl

-- an event that keeps the rule has no clause
abbrev no_letter : Option Letter
no_letter = None

pub none_broken : {A : Type 0} → is_some no_letter ≡ true → A
none_broken some = cc
