-- What `gen` answers.
use Rattle.std.proofs.Common.{◌≡◌, ℕ, List, [], Option, refl, sym, subst, ap, inl, codes, ◌++◌, ◌∙◌, append-nil}
use Rattle.std.specs.Io.KnownBytes.{Appends}
use Rattle.std.proofs.KnownBytes.{Appends-trans, Appends-nil}
use Rattle.ace_model.specs.Plans.{PlanWithRoom}
use Rattle.ace_script.specs.Generated.{generated}
use Rattle.ace_script.specs.Text.{plan_text}
use Rattle.ace_script.specs.Written.{GivesFront}
use Rattle.ace_top.specs.declared.answer.Answer.TheVariants.{Generated, NoMemory}
use Rattle.ace_top.specs.declared.words.Command.TheVariants.{Gen}
use Rattle.ace_top.specs.Answer.{Answers, BreaksOff}
use Rattle.ace_top.specs.Generate.{script_of}
use Rattle.ace_convert.specs.Output.{AppendsPart}
use Rattle.ace_call.specs.Output.{AppendsParts}
use Rattle.ace_top.specs.Texts.{status_of, out_text_of, notes_text_of}
use Rattle.ace_call.proofs.Parts.{both_nothing}

-- a front of the text was given
pub front_given : (before held : Option (List ℕ)) (text : List ℕ) → GivesFront before held text → AppendsPart before held text
front_given before held text (rest, (front, given, is)) = (front, rest, is, given)

-- the text of the plan that was made from the number is its script
pub given_of : (number : ℕ) (plan : PlanWithRoom) (out out' : Option (List ℕ)) → plan ≡ record { plan = generated number; room = 0 } → Appends out out' (plan_text plan.plan)
    → Appends out out' (script_of number)
given_of number plan out out' is given = subst (λ (p : PlanWithRoom). Appends out out' (plan_text p.plan)) is given

pub part_of : (number : ℕ) (plan : PlanWithRoom) (out out' : Option (List ℕ)) → plan ≡ record { plan = generated number; room = 0 } → AppendsPart out out' (plan_text plan.plan)
    → AppendsPart out out' (script_of number)
part_of number plan out out' is part = subst (λ (p : PlanWithRoom). AppendsPart out out' (plan_text p.plan)) is part

-- the script stands on the standard output
whole_script : (number : ℕ) (out out' out'' : Option (List ℕ)) (more : List ℕ) → more ≡ [] → Appends out out' (script_of number) → Appends out' out'' more → Appends out out'' (script_of number)
whole_script number out out' out'' more none given then =
    subst (Appends out out'') (ap (λ t. script_of number ++ t) none ∙ append-nil (script_of number)) (Appends-trans out out' out'' _ _ given then)

-- a script that was given
pub script_answers : (number : ℕ) (input left : Option (List ℕ)) (status : ℕ) (out out' out'' notes notes' : Option (List ℕ))
    → status ≡ status_of Generated → Appends out out' (script_of number) → Appends out' out'' (out_text_of Generated) → Appends notes notes' (notes_text_of Generated)
    → Answers (Gen number) input left status out out'' notes notes'
script_answers number input left status out out' out'' notes notes' is given more noted =
    (Generated, script_of number, tt, refl, is, whole_script number out out' out'' [] refl given more, noted)

-- there was no memory for the plan
pub no_script : (number : ℕ) (input left : Option (List ℕ)) (status : ℕ) (out out' notes notes' : Option (List ℕ))
    → status ≡ status_of NoMemory → Appends out out' (out_text_of NoMemory) → Appends notes notes' (notes_text_of NoMemory)
    → Answers (Gen number) input left status out out' notes notes'
no_script number input left status out out' notes notes' is given noted = (NoMemory, [], tt, refl, is, given, noted)

-- an output broke off behind the script
pub script_breaks_after : (number : ℕ) (input left out out' out'' notes notes' : Option (List ℕ))
    → Appends out out' (script_of number) → AppendsPart out' out'' (out_text_of Generated) → AppendsParts notes notes' (notes_text_of Generated) (codes "write fault\n")
    → BreaksOff (Gen number) input left out out'' notes notes'
script_breaks_after number input left out out' out'' notes notes' given (part, rest, cut, more) parts =
    inl (
      Generated,
      script_of number,
      tt,
      refl,
      (script_of number, [], sym (append-nil (script_of number)), whole_script number out out' out'' part (both_nothing part rest (sym cut)).0 given more),
      parts,
    )

-- the standard output broke off the script
pub script_breaks_off : (number : ℕ) (input left out out' notes notes' : Option (List ℕ))
    → AppendsPart out out' (script_of number) → AppendsPart notes notes' (codes "write fault\n") → BreaksOff (Gen number) input left out out' notes notes'
script_breaks_off number input left out out' notes notes' part noted =
    inl (Generated, script_of number, tt, refl, part, (notes, ([], [], refl, Appends-nil notes), noted))

-- an output failed where there was no memory for the plan
pub no_script_breaks_off : (number : ℕ) (input left out out' notes notes' : Option (List ℕ))
    → AppendsPart out out' (out_text_of NoMemory) → AppendsParts notes notes' (notes_text_of NoMemory) (codes "write fault\n") → BreaksOff (Gen number) input left out out' notes notes'
no_script_breaks_off number input left out out' notes notes' part parts = inl (NoMemory, [], tt, refl, part, parts)

pub ruleset scripts = (front_given)
