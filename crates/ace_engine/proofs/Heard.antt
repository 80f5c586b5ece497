-- What a list of events leaves, one after the other.
use Rattle.std.proofs.Common.{◌≡◌, ℕ, ◌+◌, ◌<◌, Bool, true, false, not, ◌&&◌, List, [], ◌∷◌, ◌++◌, length, take, drop, refl, sym, ap, subst, ◌∙◌, append_assoc}
use Rattle.std.proofs.Math.ListN.{get_or}
use Rattle.std.proofs.lemmas.Bool.{and_parts, not-true}
use Rattle.std.proofs.lemmas.List.{take-append-drop, take_more}
use Rattle.ace_event.specs.declared.event.Event.{Event}
use Rattle.ace_model.specs.Accepted.{rules}
use Rattle.ace_model.specs.Plans.{Plan}
use Rattle.ace_model.specs.Trace.{Trace}
use Rattle.ace_runs.specs.Bursts.{onto}
use Rattle.ace_runs.specs.Follows.{obeys}
use Rattle.ace_runs.specs.Lean.{stays_lean}
use Rattle.ace_runs.proofs.Accepting.{accepted-before}
use Rattle.ace_runs.proofs.SoFar.{before-burst}
use Rattle.ace_engine.specs.Engines.{IsLegal}
use Rattle.ace_engine.specs.Heard.{none_passes}

pub onto-append : (xs ys : List Event) (past : Trace) → onto (xs ++ ys) past ≡ onto ys (onto xs past)
onto-append [] ys past = refl
onto-append (x ∷ xs) ys past = onto-append xs ys (x ∷ past)

pub legal-before : (plan : Plan) (burst : List Event) (past : Trace) → IsLegal plan (onto burst past) → IsLegal plan past
legal-before plan burst past legal = record {
  right = legal.right;
  accepted = accepted-before rules plan.header burst past legal.accepted;
  follows = before-burst (obeys plan) burst past legal.follows;
  lean = before-burst (stays_lean plan) burst past legal.lean;
}

-- the traces at the points between
pub legal-between : (plan : Plan) (xs ys : List Event) (past : Trace) → IsLegal plan (onto (xs ++ ys) past) → IsLegal plan (onto xs past)
legal-between plan xs ys past legal = legal-before plan ys (onto xs past) (subst (IsLegal plan) (onto-append xs ys past) legal)

-- the trace with one more of the events
pub onto-next : (xs : List Event) (i : ℕ) (d : Event) (past : Trace) → i < length xs → onto (take (i + 1) xs) past ≡ get_or xs i d ∷ onto (take i xs) past
onto-next xs i d past low = ap (λ ys. onto ys past) (take_more xs i d low) ∙ onto-append (take i xs) (get_or xs i d ∷ []) past

split-at : (xs : List Event) (i : ℕ) (d : Event) → i < length xs → take i xs ++ get_or xs i d ∷ drop (i + 1) xs ≡ xs
split-at xs i d low =
    sym (append_assoc (take i xs) (get_or xs i d ∷ []) (drop (i + 1) xs)) ∙ ap (λ ys. ys ++ drop (i + 1) xs) (sym (take_more xs i d low)) ∙ take-append-drop (i + 1) xs

pub legal-next : (plan : Plan) (xs : List Event) (i : ℕ) (d : Event) (past : Trace) → i < length xs → IsLegal plan (onto xs past) → IsLegal plan (get_or xs i d ∷ onto (take i xs) past)
legal-next plan xs i d past low legal =
    subst (IsLegal plan) (onto-next xs i d past low)
    (legal-between plan (take (i + 1) xs) (drop (i + 1) xs) past (subst (λ ys. IsLegal plan (onto ys past)) (sym (take-append-drop (i + 1) xs)) legal))

none-after : (test : Trace → Event → Bool) (xs ys : List Event) (e : Event) (past : Trace) → none_passes test past (xs ++ e ∷ ys) ≡ true → test (onto xs past) e ≡ false
none-after test [] ys e past none = not-true (test past e) (and_parts (not (test past e)) (none_passes test (e ∷ past) ys) none).0
none-after test (x ∷ xs) ys e past none = none-after test xs ys e (x ∷ past) (and_parts (not (test past x)) (none_passes test (x ∷ past) (xs ++ e ∷ ys)) none).1

pub none-next : (test : Trace → Event → Bool) (xs : List Event) (i : ℕ) (d : Event) (past : Trace) → i < length xs → none_passes test past xs ≡ true
    → test (onto (take i xs) past) (get_or xs i d) ≡ false
none-next test xs i d past low none =
    none-after test (take i xs) (drop (i + 1) xs) (get_or xs i d) past (subst (λ ys. none_passes test past ys ≡ true) (sym (split-at xs i d low)) none)
