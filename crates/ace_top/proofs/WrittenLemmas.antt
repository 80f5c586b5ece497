-- What the commands that write a trace of a trace answer.
use Rattle.std.proofs.Common.{◌≡◌, ◌++◌, ℕ, List, [], Option, None, Some, Ok, Err, IfSome, refl, sym, ap, subst, ◌∙◌, append-nil, inl, inr, codes, arith}
use Rattle.std.specs.Io.KnownBytes.{Appends}
use Rattle.std.proofs.KnownBytes.{Appends-trans}
use Rattle.ace_io.specs.declared.outside.Failed.{Failed}
use Rattle.ace_grammar.specs.Errors.{LeavesNothing}
use Rattle.ace_convert.specs.declared.conversion.Conversion.{Conversion}
use Rattle.ace_convert.specs.declared.end.TraceEnd.{TraceEnd}
use Rattle.ace_convert.specs.declared.end.TraceEnd.TheVariants as ends
use Rattle.ace_convert.specs.Converted.{IsConverted, HasConverted}
use Rattle.ace_convert.specs.Ends as convert
use Rattle.ace_convert.specs.Output.{AppendsPart}
use Rattle.ace_top.specs.declared.answer.Answer.{Answer}
use Rattle.ace_top.specs.declared.words.Command.TheVariants.{Convert}
use Rattle.ace_top.specs.Answer.{IsAnswer, Answers, FitsAnswer, BreaksOff}
use Rattle.ace_top.specs.Cause.{HasReadCause}
use Rattle.ace_top.specs.Results.{end_answer}
use Rattle.ace_call.specs.Output.{AppendsParts}
use Rattle.ace_top.specs.Texts.{status_of, out_text_of, notes_text_of}
use Rattle.ace_call.proofs.Parts.{both_nothing}

-- behind the trace there is no further text for the standard output
quiet : (end : TraceEnd) → out_text_of (end_answer end) ≡ []
quiet ends.Whole = refl
quiet (ends.BadLine line reason) = refl
quiet (ends.BadRecord byte reason) = refl
quiet ends.Full = refl
quiet ends.ReadFault = refl
quiet ends.NoMemory = refl

fits : (conversion : Conversion) (end : TraceEnd) (text : List ℕ) → (end ≡ ends.NoMemory → text ≡ []) → FitsAnswer (Convert conversion) (end_answer end) text
fits conversion ends.Whole text none = tt
fits conversion (ends.BadLine line reason) text none = tt
fits conversion (ends.BadRecord byte reason) text none = tt
fits conversion ends.Full text none = tt
fits conversion ends.ReadFault text none = tt
fits conversion ends.NoMemory text none = none refl

is_written : (conversion : Conversion) (input left : Option (List ℕ)) (end : TraceEnd) (text : List ℕ) → IfSome input (λ bytes. IsConverted conversion bytes left end text)
    → IsAnswer (Convert conversion) input left (end_answer end) text
is_written conversion None left end text c = tt
is_written conversion (Some bytes) left end text c = (end, refl, c)

-- nothing more was given behind it
pub alone : (out out' out'' : Option (List ℕ)) (text more : List ℕ) → more ≡ [] → Appends out out' text → Appends out' out'' more → Appends out out'' text
alone out out' out'' text more none given then =
    subst (Appends out out'') (ap (λ t. text ++ t) none ∙ append-nil text) (Appends-trans out out' out'' _ _ given then)

-- no output failed
pub written_whole : (conversion : Conversion) (input left out out' out'' notes notes' : Option (List ℕ)) (r r' f f' : ℕ) (end : TraceEnd) (answer : Answer) (status : ℕ)
    → HasConverted conversion input left r r' out out' f f' (Ok end) → answer ≡ end_answer end
    → Appends out' out'' (out_text_of answer) → Appends notes notes' (notes_text_of answer) → status ≡ status_of answer
    → Answers (Convert conversion) input left status out out'' notes notes'
written_whole conversion input left out out' out'' notes notes' r r' f f' end answer status c is more told same =
    let g = c.given in (
      end_answer end,
      g.0,
      fits conversion end g.0 g.2,
      is_written conversion input left end g.0 g.3,
      same ∙ ap status_of is,
      alone out out' out'' g.0 (out_text_of answer) (ap out_text_of is ∙ quiet end) g.1 more,
      subst (λ (a : Answer). Appends notes notes' (notes_text_of a)) is told,
    )

-- an output failed behind the trace
pub written_broken : (conversion : Conversion) (input left out out' out'' notes notes' : Option (List ℕ)) (r r' f f' : ℕ) (end : TraceEnd) (answer : Answer)
    → HasConverted conversion input left r r' out out' f f' (Ok end) → answer ≡ end_answer end
    → AppendsPart out' out'' (out_text_of answer) → AppendsParts notes notes' (notes_text_of answer) (codes "write fault\n")
    → BreaksOff (Convert conversion) input left out out'' notes notes'
written_broken conversion input left out out' out'' notes notes' r r' f f' end answer c is (part, rest, cut, more) told =
    let g = c.given in
    let none : part ≡ [] = (both_nothing part rest (sym cut ∙ ap out_text_of is ∙ quiet end)).0 in
    inl (
      end_answer end,
      g.0,
      fits conversion end g.0 g.2,
      is_written conversion input left end g.0 g.3,
      (g.0, [], sym (append-nil g.0), alone out out' out'' g.0 part none g.1 more),
      subst (λ (a : Answer). AppendsParts notes notes' (notes_text_of a) (codes "write fault\n")) is told,
    )

-- the standard output failed in the trace
pub written_part : (conversion : Conversion) (input left out out' notes notes' : Option (List ℕ)) (r r' f f' : ℕ) (e : Failed)
    → HasConverted conversion input left r r' out out' f f' (Err e) → AppendsPart notes notes' (codes "write fault\n") → BreaksOff (Convert conversion) input left out out' notes notes'
written_part conversion input left out out' notes notes' r r' f f' e c told =
    let p = c.part in
    inr (conversion, p.0, refl, p.2, p.1, told)

-- with status 0 the input was read to its end
ends_whole : (end : TraceEnd) → status_of (end_answer end) ≡ 0 → end ≡ ends.Whole
ends_whole ends.Whole zero = refl
ends_whole (ends.BadLine line reason) zero = absurd (omega arith)
ends_whole (ends.BadRecord byte reason) zero = absurd (omega arith)
ends_whole ends.Full zero = absurd (omega arith)
ends_whole ends.ReadFault zero = absurd (omega arith)
ends_whole ends.NoMemory zero = absurd (omega arith)

pub written_ends : (conversion : Conversion) (input left out out' : Option (List ℕ)) (r r' f f' : ℕ) (end : TraceEnd) (answer : Answer) (status : ℕ)
    → HasConverted conversion input left r r' out out' f f' (Ok end) → answer ≡ end_answer end → status ≡ status_of answer → status ≡ 0 → LeavesNothing input left
written_ends conversion input left out out' r r' f f' end answer status c is same zero =
    c.whole (ap Ok (ends_whole end (ap status_of (sym is) ∙ sym same ∙ zero)))

-- a read fault is answered where the input failed
pub end_cause : (before now : ℕ) (end : TraceEnd) → convert.HasReadCause before now end → HasReadCause before now (end_answer end)
end_cause before now ends.Whole c = record { failed = λ is. absurd cc; steady = λ not. c.steady (λ is. absurd cc) }
end_cause before now (ends.BadLine line reason) c = record { failed = λ is. absurd cc; steady = λ not. c.steady (λ is. absurd cc) }
end_cause before now (ends.BadRecord byte reason) c = record { failed = λ is. absurd cc; steady = λ not. c.steady (λ is. absurd cc) }
end_cause before now ends.Full c = record { failed = λ is. absurd cc; steady = λ not. c.steady (λ is. absurd cc) }
end_cause before now ends.ReadFault c = record { failed = λ is. c.failed refl; steady = λ not. absurd (not refl) }
end_cause before now ends.NoMemory c = record { failed = λ is. absurd cc; steady = λ not. c.steady (λ is. absurd cc) }

pub ruleset written = (end_cause)
