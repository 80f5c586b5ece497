-- What the burst of a step of a master is: an answer to a snoop, write data, what acknowledges, or what goes on.
use Rattle.std.proofs.Common.{◌≡◌, ◌⊎◌, ℕ, true, false, ◌&&◌, ◌||◌, List, [], ◌∷◌, ◌++◌, inl, inr, refl, nat_le, length}
use Rattle.std.specs.List.{list_any}
use Rattle.std.proofs.lemmas.Bool.{and_parts, or_cases}
use Rattle.ace_event.specs.declared.event.Event.{Event}
use Rattle.ace_model.specs.Plans.{Plan}
use Rattle.ace_model.specs.Trace.{Trace}
use Rattle.ace_runs.specs.Bursts.{are_kept, onto}
use Rattle.ace_runs.specs.MasterSteps.{acknowledges, answers_snoop, goes_on, may_acknowledge, may_answer_snoop, may_go_on, may_send, sends}
use Rattle.ace_runs.specs.Operations.{next_operation}
use Rattle.ace_runs.specs.Steps.{has_number, is_sound, is_step_by, may_give, steps_of}

-- The step answers a snoop, sends write data, acknowledges or goes on.
abbrev pub MasterTurn : Plan → Trace → ℕ → List Event → Type 0
MasterTurn plan past p burst =
    (answers_snoop plan.header past p burst ≡ true) ⊎ (sends plan.header past p burst ≡ true)
    ⊎ (acknowledges (next_operation plan past p) plan.header past p burst ≡ true)
    ⊎ (goes_on plan.ways (next_operation plan past p) plan.header past p burst ≡ true)

module _ (plan : Plan) (past : Trace) (p : ℕ) (burst : List Event) (s : is_step_by (1 ∷ 2 ∷ 4 ∷ 14 ∷ []) plan past p burst ≡ true) where
  parts : (is_sound plan.header past burst ≡ true) × (list_any (λ s. has_number (1 ∷ 2 ∷ 4 ∷ 14 ∷ []) s && may_give plan.header past p burst s) (steps_of plan past p) ≡ true)
  parts = and_parts (is_sound plan.header past burst) (list_any (λ s. has_number (1 ∷ 2 ∷ 4 ∷ 14 ∷ []) s && may_give plan.header past p burst s) (steps_of plan past p)) s

  pub turn-kept : are_kept plan.header past burst ≡ true
  turn-kept = (and_parts (nat_le 1 (length burst) && nat_le (length burst) 16) (are_kept plan.header past burst) parts.0).1

  pub master-turn : MasterTurn plan past p burst
  master-turn =
      let h = plan.header in
      let next = next_operation plan past p in
      let one = may_answer_snoop h past p && answers_snoop h past p burst in
      let two = may_send h past p && sends h past p burst in
      let four = may_acknowledge next h past p && acknowledges next h past p burst in
      let last = may_go_on plan.ways next h past p && goes_on plan.ways next h past p burst in
      let some : (one || (two || (four || (last || false)))) ≡ true = parts.1 in
      elim (or_cases one (two || (four || (last || false))) some) [
        | inl m ↦ inl (and_parts (may_answer_snoop h past p) _ m).1
        | inr later ↦ elim (or_cases two (four || (last || false)) later) [
          | inl m ↦ inr (inl (and_parts (may_send h past p) _ m).1)
          | inr rest ↦ elim (or_cases four (last || false) rest) [
            | inl m ↦ inr (inr (inl (and_parts (may_acknowledge next h past p) _ m).1))
            | inr end ↦ elim (or_cases last false end) [
              | inl m ↦ inr (inr (inr (and_parts (may_go_on plan.ways next h past p) _ m).1))
              | inr none ↦ cc
            ]
          ]
        ]
      ]

-- a burst of two parts
pub onto-append : (xs ys : List Event) (past : Trace) → onto (xs ++ ys) past ≡ onto ys (onto xs past)
onto-append [] ys past = refl
onto-append (e ∷ xs) ys past = onto-append xs ys (e ∷ past)
