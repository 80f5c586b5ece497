-- What asks only leaves the states of lines or gives a line up, so after it no line gives an access that it didn't give before.
use Rattle.std.proofs.Common.{◌≡◌, ◌⊎◌, ℕ, true, false, ◌&&◌, ◌==◌, if◌then◌else◌, List, [], ◌∷◌, Option, Some, None, unwrap_or, refl, ap, ◌∙◌, inl, inr}
use Rattle.std.specs.List.{list_all}
use Rattle.std.specs.Option.{option_map}
use Rattle.std.proofs.lemmas.Bool.{and_parts, cases_Bool}
use Rattle.ace_codes.specs.declared.state.LineState.{LineState}
use Rattle.ace_codes.specs.declared.state.LineState.TheVariants.{I}
use Rattle.ace_event.specs.declared.event.Event.{Event}
use Rattle.ace_event.specs.declared.event.Event.TheVariants as event
use Rattle.ace_event.specs.declared.header.Header.{Header}
use Rattle.ace_model.specs.declared.plans.Op.{Op}
use Rattle.ace_model.specs.declared.plans.Op.TheVariants.{Ld, Ldx}
use Rattle.ace_model.specs.Plans.{line_named}
use Rattle.ace_model.specs.States.{state_of}
use Rattle.ace_model.specs.Trace.{Trace}
use Rattle.ace_model.proofs.Tables.States.{is_invalid-is}
use Rattle.ace_runs.specs.Bursts.{onto}
use Rattle.ace_runs.specs.Closing.{gives_access, state_named}
use Rattle.ace_runs.proofs.NeverStuck.Operations.Kept.BurstsKept.{is_calm}

-- ---- what calm events leave --------------------------------------------------------------------------

-- the line is as it was, or given up
abbrev pub IsLeft : LineState → LineState → Type 0
IsLeft old new = (new ≡ old) ⊎ (new ≡ I)

left-further : (old new last : LineState) → IsLeft old new → IsLeft new last → IsLeft old last
left-further old new last (inl same) (inl again) = inl (again ∙ same)
left-further old new last (inr gone) (inl again) = inr (again ∙ gone)
left-further old new last first (inr gone) = inr gone

calm-state : (h : Header) (past : Trace) (p l : ℕ) (e : Event) → is_calm e ≡ true → IsLeft (state_of h past p l) (state_of h (e ∷ past) p l)
calm-state h past p l (event.Ar q i a s d b lock) calm = inl refl
calm-state h past p l (event.Aw q i a s d b) calm = inl refl
calm-state h past p l (event.S q a st) calm =
    elim (cases_Bool ((p == q) && (l == a))) [
      | inl t ↦ inr (ap (λ b. unwrap_or (if b then Some st else None) (state_of h past p l)) t ∙ is_invalid-is st calm)
      | inr f ↦ inl (ap (λ b. unwrap_or (if b then Some st else None) (state_of h past p l)) f)
    ]
calm-state h past p l e calm = cc

calm-states : (h : Header) (burst : List Event) (past : Trace) (p l : ℕ) → list_all is_calm burst ≡ true → IsLeft (state_of h past p l) (state_of h (onto burst past) p l)
calm-states h [] past p l calm = inl refl
calm-states h (e ∷ burst) past p l calm =
    let parts = and_parts (is_calm e) (list_all is_calm burst) calm in
    left-further (state_of h past p l) (state_of h (e ∷ past) p l) _ (calm-state h past p l e parts.0) (calm-states h burst (e ∷ past) p l parts.1)

gives-none : (op : Op) → gives_access op I ≡ false
gives-none (Ld a w) = refl
gives-none (Ldx a w) = refl
gives-none op = refl

left-gives : (op : Op) (old new : LineState) → IsLeft old new → gives_access op old ≡ false → gives_access op new ≡ false
left-gives op old new (inl same) none = ap (gives_access op) same ∙ none
left-gives op old new (inr gone) none = ap (gives_access op) gone ∙ gives-none op

-- after calm events the line of an operation gives no access that it didn't give before
pub calm-gives : (h : Header) (burst : List Event) (past : Trace) (p : ℕ) (op : Op) → list_all is_calm burst ≡ true → gives_access op (state_named h past p op) ≡ false
    → gives_access op (state_named h (onto burst past) p op) ≡ false
calm-gives h burst past p op calm none = by (line_named op) none
  where
    by : (o : Option ℕ) → gives_access op (unwrap_or (option_map (state_of h past p) o) I) ≡ false → gives_access op (unwrap_or (option_map (state_of h (onto burst past) p) o) I) ≡ false
    by None n = n
    by (Some l) n = left-gives op (state_of h past p l) (state_of h (onto burst past) p l) (calm-states h burst past p l calm) n
