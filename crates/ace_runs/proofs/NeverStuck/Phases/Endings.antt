-- A burst that ends with what ends an operation, if that can end then: afterwards the next operation of the port can't retire with `ok`.
use Rattle.std.proofs.Common.{◌≡◌, ◌⊎◌, ℕ, Bool, true, false, not, ◌&&◌, ◌==◌, if◌then◌else◌, List, [], ◌∷◌, ◌++◌, append-nil, length, Option, Some, None, inl, inr, refl, sym, ap, ◌∙◌}
use Rattle.std.specs.List.{list_all, list_any}
use Rattle.std.proofs.lemmas.Bool.{and_parts, eq-eqb, not-true}
use Rattle.ace_codes.specs.declared.kind.AwKind.TheVariants as write
use Rattle.ace_event.specs.declared.event.Event.{Event}
use Rattle.ace_event.specs.declared.event.Event.TheVariants.{Op as Retires}
use Rattle.ace_event.specs.declared.event.Outcome.{Outcome}
use Rattle.ace_event.specs.declared.event.Outcome.TheVariants.{Ok, Skip, Fail}
use Rattle.ace_event.specs.declared.header.Header.{Header}
use Rattle.ace_model.specs.declared.plans.Op.{Op}
use Rattle.ace_model.specs.declared.plans.Op.TheVariants.{Pf, Wb, Wc, Ev, We}
use Rattle.ace_model.specs.Plans.{Plan}
use Rattle.ace_model.specs.Trace.{Trace, is_some_and}
use Rattle.ace_model.specs.Transactions.{is_outstanding}
use Rattle.ace_runs.specs.Acts.{acts_of}
use Rattle.ace_runs.specs.Bursts.{onto}
use Rattle.ace_runs.specs.Closing.{access_and_retirement, access_of, and_closing, closing_of, gives_access, retirement, state_named}
use Rattle.ace_runs.specs.Counts.{is_retirement}
use Rattle.ace_runs.specs.Operations.{next_operation}
use Rattle.ace_runs.specs.Retiring.{is_met, may_retire}
use Rattle.ace_runs.specs.SameEvents.{same_burst, same_event}
use Rattle.ace_runs.specs.Segments.{acts_made, is_read_of, is_write_of, segment}
use Rattle.ace_runs.proofs.NeverStuck.Steps.Lists.{all-implied}
use Rattle.ace_runs.proofs.NeverStuck.Steps.SameBursts.{equal-burst}
use Rattle.ace_runs.proofs.NeverStuck.Steps.SameEvents.{TellsSame, is_lineless, tells-same}
use Rattle.ace_runs.proofs.NeverStuck.Phases.Calm.{may_end}
use Rattle.ace_runs.proofs.NeverStuck.Phases.NextActs.{next-stays}

-- ---- after an OP -------------------------------------------------------------------------------------

-- where a port has done nothing for an operation, that can't retire with `ok`
pub fresh-stays : (h : Header) (past : Trace) (p : ℕ) (o : Op) → acts_made past p ≡ 0 → segment past p ≡ [] → may_retire h past p o Ok ≡ false
fresh-stays h past p (Pf a k) made none = ap (λ n. (n == 0) && is_met h past p (Pf a k)) made ∙ ap (list_any (λ x. is_read_of k a x && not (is_outstanding h past x))) none
fresh-stays h past p (Wb a) made none = ap (λ n. (n == 0) && is_met h past p (Wb a)) made ∙ ap (list_any (is_write_of write.WriteBack a)) none
fresh-stays h past p (Wc a) made none = ap (λ n. (n == 0) && is_met h past p (Wc a)) made ∙ ap (list_any (is_write_of write.WriteClean a)) none
fresh-stays h past p (Ev a) made none = ap (λ n. (n == 0) && is_met h past p (Ev a)) made ∙ ap (list_any (is_write_of write.Evict a)) none
fresh-stays h past p (We a) made none = ap (λ n. (n == 0) && is_met h past p (We a)) made ∙ ap (list_any (is_write_of write.WriteEvict a)) none
fresh-stays h past p o made none = ap (λ n. (n == length (acts_of o)) && is_met h past p o) made

retired-stays : (plan : Plan) (past : Trace) (p q k : ℕ) (res : Outcome) → (p == q) ≡ true → may_end plan (Retires q k res ∷ past) p ≡ false
retired-stays plan past p q k res t = by (next_operation plan (Retires q k res ∷ past) p)
  where
    by : (n : Option Op) → is_some_and n (λ o. may_retire plan.header (Retires q k res ∷ past) p o Ok) ≡ false
    by None = refl
    by (Some o) = fresh-stays plan.header (Retires q k res ∷ past) p o (rw t refl) (rw t refl)

-- an OP of the port
abbrev pub is_retirement_at : ℕ → Event → Bool
is_retirement_at p (Retires q k res) = p == q
is_retirement_at p _ = false

-- the last event is one
abbrev pub ends_retired : ℕ → List Event → Bool
ends_retired p [] = false
ends_retired p (e ∷ []) = is_retirement_at p e
ends_retired p (e ∷ f ∷ burst) = ends_retired p (f ∷ burst)

pub retired-burst : (plan : Plan) (burst : List Event) (past : Trace) (p : ℕ) → ends_retired p burst ≡ true → may_end plan (onto burst past) p ≡ false
retired-burst plan [] past p ends = cc
retired-burst plan (Retires q k res ∷ []) past p ends = retired-stays plan past p q k res ends
retired-burst plan (e ∷ []) past p ends = cc
retired-burst plan (e ∷ f ∷ burst) past p ends = retired-burst plan (f ∷ burst) (e ∷ past) p ends

same-retirement : (p : ℕ) → TellsSame (is_retirement_at p)
same-retirement p = tells-same (is_retirement_at p) (λ p c i line. refl) (λ p a s x line. refl) (λ a line. refl)

pub same-ends : (ds es : List Event) (p : ℕ) → same_burst ds es ≡ true → ends_retired p ds ≡ true → ends_retired p es ≡ true
same-ends [] es p same ends = cc
same-ends (d ∷ []) [] p same ends = cc
same-ends (d ∷ []) (e ∷ []) p same ends = sym (same-retirement p d e (and_parts (same_event d e) true same).0) ∙ ends
same-ends (d ∷ []) (e ∷ f ∷ es) p same ends = let bad = (and_parts (same_event d e) false same).1 in cc
same-ends (d ∷ c ∷ ds) [] p same ends = cc
same-ends (d ∷ c ∷ ds) (e ∷ []) p same ends = let bad = (and_parts (same_event d e) false same).1 in cc
same-ends (d ∷ c ∷ ds) (e ∷ f ∷ es) p same ends = same-ends (c ∷ ds) (f ∷ es) p (and_parts (same_event d e) (same_burst (c ∷ ds) (f ∷ es)) same).1 ends

append-ends : (xs ys : List Event) (p : ℕ) → ends_retired p ys ≡ true → ends_retired p (xs ++ ys) ≡ true
append-ends [] ys p ends = ends
append-ends (x ∷ []) [] p ends = cc
append-ends (x ∷ []) (y ∷ ys) p ends = ends
append-ends (x ∷ z ∷ xs) ys p ends = append-ends (z ∷ xs) ys p ends

-- ---- what ends an operation --------------------------------------------------------------------------

pub retirement-ends : (past : Trace) (p : ℕ) (res : Outcome) → ends_retired p (retirement past p res) ≡ true
retirement-ends past p res = eq-eqb p p refl

access-ends : (past : Trace) (p : ℕ) (o : Option Event) → (ends_retired p (access_and_retirement past p o) ≡ true) ⊎ (access_and_retirement past p o ≡ [])
access-ends past p None = inr refl
access-ends past p (Some e) = inl (eq-eqb p p refl)

-- it ends with an OP, or nothing ends the operation, which then can't retire with `ok`
closing-ends : (h : Header) (past : Trace) (p : ℕ) (o : Op) → (ends_retired p (closing_of h past p o) ≡ true) ⊎ ((closing_of h past p o ≡ []) × (may_retire h past p o Ok ≡ false))
unfolding closing_of
closing-ends h past p o = by (may_retire h past p o Ok) (may_retire h past p o Skip) (may_retire h past p o Fail) (gives_access o (state_named h past p o))
  where
    by : (a b c d : Bool) → (ends_retired p (if a then retirement past p Ok else if b then retirement past p Skip else if c then retirement past p Fail
        else if d then access_and_retirement past p (access_of past p o) else []) ≡ true)
        ⊎ (((if a then retirement past p Ok else if b then retirement past p Skip else if c then retirement past p Fail
        else if d then access_and_retirement past p (access_of past p o) else []) ≡ []) × (a ≡ false))
    by true b c d = inl (retirement-ends past p Ok)
    by false true c d = inl (retirement-ends past p Skip)
    by false false true d = inl (retirement-ends past p Fail)
    by false false false true = elim (access-ends past p (access_of past p o)) [ inl ends ↦ inl ends | inr none ↦ inr (none, refl) ]
    by false false false false = inr (refl, refl)

-- a burst with what ends the operation then
pub closed-stays : (plan : Plan) (past : Trace) (p : ℕ) (o : Op) (burst later : List Event) → same_burst (and_closing plan.header past p o burst) later ≡ true
    → (same_burst burst later ≡ true → (next_operation plan (onto later past) p ≡ Some o) × (may_retire plan.header (onto later past) p o Ok ≡ may_retire plan.header (onto burst past) p o Ok))
    → may_end plan (onto later past) p ≡ false
closed-stays plan past p o burst later same alike =
    let h = plan.header in
    elim (closing-ends h (onto burst past) p o) [
      | inl ends ↦ retired-burst plan later past p (same-ends (and_closing h past p o burst) later p same (append-ends burst (closing_of h (onto burst past) p o) p ends))
      | inr none ↦
          let alone : same_burst burst later ≡ true = ap (λ l. same_burst l later) (sym (ap (λ l. burst ++ l) none.0 ∙ append-nil burst)) ∙ same in
          let a = alike alone in
          ap (λ n. is_some_and n (λ o. may_retire plan.header (onto later past) p o Ok)) a.0 ∙ a.1 ∙ none.1
    ]

-- the next operation stays where nothing retires
pub next-burst : (plan : Plan) (burst : List Event) (past : Trace) (p : ℕ) → list_all (λ e. not (is_retirement e)) burst ≡ true → next_operation plan (onto burst past) p ≡ next_operation plan past p
next-burst plan [] past p none = refl
next-burst plan (e ∷ burst) past p none =
    let parts = and_parts (not (is_retirement e)) (list_all (λ e. not (is_retirement e)) burst) none in
    next-burst plan burst (e ∷ past) p parts.1 ∙ next-stays plan past p e (not-true (is_retirement e) parts.0)

lineless-none : (burst : List Event) → list_all is_lineless burst ≡ true → list_all (λ e. not (is_retirement e)) burst ≡ true
lineless-none burst all = all-implied is_lineless (λ e. not (is_retirement e)) one burst all
  where
    one : (e : Event) → is_lineless e ≡ true → not (is_retirement e) ≡ true
    one (Retires q k res) m = cc
    one e m = refl

-- such a burst without lines
pub lineless-closed : (plan : Plan) (past : Trace) (p : ℕ) (o : Op) (burst later : List Event) → next_operation plan past p ≡ Some o → list_all is_lineless burst ≡ true
    → same_burst (and_closing plan.header past p o burst) later ≡ true → may_end plan (onto later past) p ≡ false
lineless-closed plan past p o burst later next none same =
    closed-stays plan past p o burst later same
    (λ alone. let one = equal-burst burst later alone none in (
      ap (λ l. next_operation plan (onto l past) p) (sym one) ∙ next-burst plan burst past p (lineless-none burst none) ∙ next,
      ap (λ l. may_retire plan.header (onto l past) p o Ok) (sym one),
    ))
