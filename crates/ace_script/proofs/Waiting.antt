-- A text that waits is given, piece by piece.
use Rattle.std.proofs.Common.{◌≡◌, ℕ, ◌+◌, ◌<◌, ◌≤◌, List, [], ◌∷◌, ◌++◌, length, take, drop, get_or, Option, Some, None, Result, Ok, Err, OnOk, OnErr, refl, sym, ap, subst, ◌∙◌, arith, append_assoc, append-nil, take-append-drop}
use Rattle.std.proofs.lemmas.Grind.{flat_map-append}
use Rattle.std.proofs.lemmas.List.{take_all, take_more, nil_from_length}
use Rattle.ace_event.specs.Text.{line_text}
use Rattle.ace_model.specs.declared.plans.PlanOp.{PlanOp}
use Rattle.ace_script.specs.Text.{operation_text, operations_text}
use Rattle.ace_script.proofs.OperationReads.{operations_text-more}
use Rattle.std.specs.Io.KnownBytes.{Appends}
use Rattle.std.proofs.KnownBytes.{Appends-trans}
use Rattle.ace_script.specs.Written.{IsWaiting, GivesFront}

-- a front of what waits was given
pub front_given : (before old new : Option (List ℕ)) (waiting text : List ℕ) (count : ℕ) → IsWaiting before old waiting text → Appends old new (take count waiting)
    → GivesFront before new text
front_given before old new waiting text count w given = (
  drop count waiting,
  (
    w.0 ++ take count waiting,
    Appends-trans before old new _ _ w.1 given,
    w.2 ∙ ap (λ (l : List ℕ). w.0 ++ l) (sym (take-append-drop count waiting)) ∙ sym (append_assoc w.0 (take count waiting) (drop count waiting)),
  ),
)

-- all of it was given
pub all_given : (before old new : Option (List ℕ)) (waiting text : List ℕ) → IsWaiting before old waiting text → Appends old new waiting → IsWaiting before new [] text
all_given before old new waiting text w given =
    (w.0 ++ waiting, Appends-trans before old new _ _ w.1 given, w.2 ∙ sym (append-nil (w.0 ++ waiting)))

pub given_whole : (before old new : Option (List ℕ)) (waiting text : List ℕ) (count : ℕ) → IsWaiting before old waiting text → Appends old new (take count waiting)
    → length waiting ≤ count → IsWaiting before new [] text
given_whole before old new waiting text count w given le =
    all_given before old new waiting text w (subst (Appends old new) (take_all count waiting le) given)

-- more waits
pub more_waits : (before held : Option (List ℕ)) (waiting more text : List ℕ) → IsWaiting before held waiting text → IsWaiting before held (waiting ++ more) (text ++ more)
more_waits before held waiting more text w = (w.0, w.1, ap (λ (l : List ℕ). l ++ more) w.2 ∙ append_assoc w.0 waiting more)

-- a front of a front
pub front_of_more : (before held : Option (List ℕ)) (text more : List ℕ) → GivesFront before held text → GivesFront before held (text ++ more)
front_of_more before held text more f = (f.0 ++ more, more_waits before held f.0 more text f.1)

-- nothing waits any more
pub nothing_waits : (before held : Option (List ℕ)) (text : List ℕ) → IsWaiting before held [] text → Appends before held text
nothing_waits before held text w = subst (Appends before held) (sym (w.2 ∙ append-nil w.0)) w.1

pub nothing_given : (held : Option (List ℕ)) (text : List ℕ) → IsWaiting held held text text
nothing_given None text = ([], tt, refl)
nothing_given (Some bytes) text = ([], sym (append-nil bytes), refl)

-- ---- operations

operations_apart : (operations : List PlanOp) (count : ℕ) → operations_text (take count operations) ++ operations_text (drop count operations) ≡ operations_text operations
operations_apart operations count =
    sym (flat_map-append (λ o. line_text (operation_text o)) (take count operations) (drop count operations)) ∙ ap operations_text (take-append-drop count operations)

-- the lines of the first operations are a front of those of all
pub part_of_all : (before held : Option (List ℕ)) (front : List ℕ) (operations : List PlanOp) (count : ℕ) → GivesFront before held (front ++ operations_text (take count operations))
    → GivesFront before held (front ++ operations_text operations)
part_of_all before held front operations count f =
    subst (GivesFront before held)
    (append_assoc front (operations_text (take count operations)) (operations_text (drop count operations)) ∙ ap (λ (l : List ℕ). front ++ l) (operations_apart operations count))
    (front_of_more before held (front ++ operations_text (take count operations)) (operations_text (drop count operations)) f)

-- the line of one operation more waits
pub one_more_waits : (before held : Option (List ℕ)) (front waiting more : List ℕ) (operations : List PlanOp) (count : ℕ) (o : PlanOp) → count < length operations → get_or operations count o ≡ o
    → more ≡ waiting ++ line_text (operation_text o) → IsWaiting before held waiting (front ++ operations_text (take count operations))
    → IsWaiting before held more (front ++ operations_text (take (count + 1) operations))
one_more_waits before held front waiting more operations count o lt is added w =
    let line = line_text (operation_text o) in
    let next : take (count + 1) operations ≡ take count operations ++ o ∷ [] = take_more operations count o lt ∙ ap (λ x. take count operations ++ x ∷ []) is in
    let text : operations_text (take (count + 1) operations) ≡ operations_text (take count operations) ++ line = ap operations_text next ∙ operations_text-more (take count operations) o in
    let whole : (front ++ operations_text (take count operations)) ++ line ≡ front ++ operations_text (take (count + 1) operations) =
    append_assoc front (operations_text (take count operations)) line ∙ ap (λ (l : List ℕ). front ++ l) (sym text) in
    subst (IsWaiting before held more) whole (subst (λ (l : List ℕ). IsWaiting before held l ((front ++ operations_text (take count operations)) ++ line)) (sym added) (more_waits before held waiting line (front ++ operations_text (take count operations)) w))

-- what a call that gives the operations of a plan says of what it was given and of what it gave
abbrev pub GivesAll : Option (List ℕ) → Option (List ℕ) → List ℕ → List PlanOp → Type 0
GivesAll old new text operations = (before : Option (List ℕ)) (front : List ℕ) → IsWaiting before old text front → Appends before new (front ++ operations_text operations)

abbrev pub GivesPart : Option (List ℕ) → Option (List ℕ) → List ℕ → List PlanOp → Type 0
GivesPart old new text operations = (before : Option (List ℕ)) (front : List ℕ) → IsWaiting before old text front → GivesFront before new (front ++ operations_text operations)

nothing_left : (text : List ℕ) → length text ≤ 0 → text ≡ []
nothing_left text h = nil_from_length text (omega (arith, h))

all_taken : (operations : List PlanOp) (count : ℕ) → length operations ≤ count → operations_text (take count operations) ≡ operations_text operations
all_taken operations count le = ap operations_text (take_all count operations le)

-- all waits, and then it is given
pub end_given : {A E : Type 0} (r : Result A E) (old mid new : Option (List ℕ)) (text waiting rest : List ℕ) (operations : List PlanOp) (count : ℕ) → length operations ≤ count
    → ((before : Option (List ℕ)) (front : List ℕ) → IsWaiting before old text front → IsWaiting before mid waiting (front ++ operations_text (take count operations)))
    → OnOk r ((before : Option (List ℕ)) (whole : List ℕ) → IsWaiting before mid waiting whole → IsWaiting before new rest whole) → OnOk r (length rest ≤ 0)
    → OnOk r (GivesAll old new text operations)
end_given (Ok x) old mid new text waiting rest operations count le all kept none =
    λ before front w.
    let here = kept before _ (all before front w) in
    subst (λ (l : List ℕ). Appends before new (front ++ l)) (all_taken operations count le)
    (nothing_waits before new (front ++ operations_text (take count operations)) (subst (λ (l : List ℕ). IsWaiting before new l (front ++ operations_text (take count operations))) (nothing_left rest none) here))
end_given (Err e) old mid new text waiting rest operations count le all kept none = tt

pub end_part : {A E : Type 0} (r : Result A E) (old mid new : Option (List ℕ)) (text waiting : List ℕ) (operations : List PlanOp) (count : ℕ) → length operations ≤ count
    → ((before : Option (List ℕ)) (front : List ℕ) → IsWaiting before old text front → IsWaiting before mid waiting (front ++ operations_text (take count operations)))
    → OnErr r ((before : Option (List ℕ)) (whole : List ℕ) → IsWaiting before mid waiting whole → GivesFront before new whole)
    → OnErr r (GivesPart old new text operations)
end_part (Ok x) old mid new text waiting operations count le all part = tt
end_part (Err e) old mid new text waiting operations count le all part =
    λ before front w.
    part_of_all before new front operations count (part before _ (all before front w))

-- the header waits first
pub plan_given : {A E : Type 0} (r : Result A E) (old new : Option (List ℕ)) (text header : List ℕ) (given operations : List PlanOp) → text ≡ header → given ≡ operations
    → OnOk r (GivesAll old new text given) → OnOk r (Appends old new (header ++ operations_text operations))
plan_given (Ok x) old new text header given operations e f all =
    subst (λ (l : List PlanOp). Appends old new (header ++ operations_text l)) f (subst (λ (l : List ℕ). Appends old new (l ++ operations_text given)) e (all old text (nothing_given old text)))
plan_given (Err x) old new text header given operations e f all = tt

pub plan_part : {A E : Type 0} (r : Result A E) (old new : Option (List ℕ)) (text header : List ℕ) (given operations : List PlanOp) → text ≡ header → given ≡ operations
    → OnErr r (GivesPart old new text given) → OnErr r (GivesFront old new (header ++ operations_text operations))
plan_part (Ok x) old new text header given operations e f part = tt
plan_part (Err x) old new text header given operations e f part =
    subst (λ (l : List PlanOp). GivesFront old new (header ++ operations_text l)) f (subst (λ (l : List ℕ). GivesFront old new (l ++ operations_text given)) e (part old text (nothing_given old text)))
