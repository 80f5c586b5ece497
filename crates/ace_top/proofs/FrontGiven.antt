-- What was given, where it isn't what is due, is a front of that; and what was packed is unpacked to what it was.
use Rattle.std.proofs.Common.{◌≡◌, ℕ, List, [], ◌++◌, Option, Some, refl, sym, ap, ◌∙◌, append-nil, subst, inl, inr, ◌⊎◌, arith}
use Rattle.ace_grammar.specs.Lines.{BeginsWith}
use Rattle.ace_convert.specs.declared.conversion.Conversion.{Conversion}
use Rattle.ace_convert.specs.declared.conversion.Conversion.TheVariants.{Pack, Unpack}
use Rattle.ace_convert.specs.declared.end.TraceEnd.{TraceEnd}
use Rattle.ace_convert.specs.declared.end.TraceEnd.TheVariants as ends
use Rattle.ace_convert.specs.Converted.{CanBeRead, IsConverted, ConvertsFront}
use Rattle.ace_convert.specs.Spelling.{form_read}
use Rattle.ace_convert.proofs.OneConversion as convert
use Rattle.ace_top.specs.declared.answer.Answer.{Answer}
use Rattle.ace_top.specs.declared.answer.Answer.TheVariants.{ReadFault, NoMemory, Shown}
use Rattle.ace_top.specs.declared.words.Command.{Command}
use Rattle.ace_top.specs.declared.words.Command.TheVariants.{Check, Account, Convert, Run, Gen, Trial}
use Rattle.ace_top.specs.Answer.{IsAnswer, FitsAnswer, IsDue, IsSettled}
use Rattle.ace_top.specs.Results.{end_answer}
use Rattle.ace_top.specs.Texts.{status_of}
use Rattle.ace_top.specs.Written.{IsWritten}
use Rattle.ace_top.proofs.OneAnswer.{one_answer, written_due}

same_text : (text whole : List ℕ) → text ≡ whole → BeginsWith whole text
same_text text whole is = ([], sym is ∙ sym (append-nil text))

nothing_given : (text whole : List ℕ) → text ≡ [] → BeginsWith whole text
nothing_given text whole none = (whole, ap (λ t. t ++ whole) (sym none))

-- where the input failed in a trace that is written
at_fault : (end : TraceEnd) → ReadFault ≡ end_answer end → end ≡ ends.ReadFault
at_fault ends.Whole is = absurd cc
at_fault (ends.BadLine line reason) is = absurd cc
at_fault (ends.BadRecord byte reason) is = absurd cc
at_fault ends.Full is = absurd cc
at_fault ends.ReadFault is = refl
at_fault ends.NoMemory is = absurd cc

fault_written : (conversion : Conversion) (bytes : List ℕ) (left last : Option (List ℕ)) (due : Answer) (text whole : List ℕ) → CanBeRead (form_read conversion) bytes → IsDue due
    → IsWritten conversion bytes last due whole → IsWritten conversion bytes left ReadFault text → BeginsWith whole text
fault_written conversion bytes left last due text whole can d (end, is, c) (failed, was, k) =
    convert.fault_given conversion bytes left last end text whole can (written_due due end is d) c
    (subst (λ (e : TraceEnd). IsConverted conversion bytes left e text) (at_fault failed was) k)

-- where the input failed
fault_given : (command : Command) (bytes : List ℕ) (left last : Option (List ℕ)) (due : Answer) (text whole : List ℕ) → IsSettled command bytes → IsDue due → FitsAnswer command ReadFault text
    → IsAnswer command (Some bytes) left ReadFault text → IsAnswer command (Some bytes) last due whole → BeginsWith whole text
fault_given Check bytes left last due text whole settled d f a b = nothing_given text whole f
fault_given (Account account) bytes left last due text whole settled d f a b = nothing_given text whole f
fault_given (Convert conversion) bytes left last due text whole settled d f a b = fault_written conversion bytes left last due text whole settled d b a
fault_given (Gen number) bytes left last due text whole settled d f a b = absurd a
fault_given (Run snooping) bytes left last due text whole settled d f a b = nothing_given text whole f
fault_given (Trial number) bytes left last due text whole settled d f a b = nothing_given text whole f

-- where there was no memory
no_memory_given : (command : Command) (bytes : List ℕ) (left : Option (List ℕ)) (text whole : List ℕ) → FitsAnswer command NoMemory text
    → IsAnswer command (Some bytes) left NoMemory text → BeginsWith whole text
no_memory_given Check bytes left text whole f a = nothing_given text whole f
no_memory_given (Account account) bytes left text whole f a = nothing_given text whole f
no_memory_given (Convert conversion) bytes left text whole f a = nothing_given text whole f
no_memory_given (Gen number) bytes left text whole f a = nothing_given text whole a
no_memory_given (Run snooping) bytes left text whole f a = nothing_given text whole f
no_memory_given (Trial number) bytes left text whole f a = nothing_given text whole f

due_or_fault : (answer : Answer) → (answer ≡ ReadFault) ⊎ ((answer ≡ NoMemory) ⊎ IsDue answer)
due_or_fault ReadFault = inl refl
due_or_fault NoMemory = inr (inl refl)
due_or_fault answer = inr (inr tt)

pub front_given : (command : Command) (bytes : List ℕ) (left last : Option (List ℕ)) (answer due : Answer) (text whole : List ℕ) → IsSettled command bytes → IsDue due
    → FitsAnswer command answer text → FitsAnswer command due whole → IsAnswer command (Some bytes) left answer text → IsAnswer command (Some bytes) last due whole
    → BeginsWith whole text
front_given command bytes left last answer due text whole settled d f g a b =
    elim (due_or_fault answer) [
      | inl is ↦ fault_given command bytes left last due text whole settled d (subst (λ x. FitsAnswer command x text) is f) (subst (λ x. IsAnswer command (Some bytes) left x text) is a) b
      | inr (inl is) ↦ no_memory_given command bytes left text whole (subst (λ x. FitsAnswer command x text) is f) (subst (λ x. IsAnswer command (Some bytes) left x text) is a)
      | inr (inr e) ↦ same_text text whole (one_answer command bytes left last answer due text whole settled e d f g a b).1
    ]

pub trace_given : (conversion : Conversion) (bytes : List ℕ) (last : Option (List ℕ)) (due : Answer) (text whole : List ℕ) → IsSettled (Convert conversion) bytes → IsDue due
    → IsAnswer (Convert conversion) (Some bytes) last due whole → ConvertsFront conversion bytes text → BeginsWith whole text
trace_given conversion bytes last due text whole can d (end, is, c) front = convert.front_given conversion bytes last end text whole can (written_due due end is d) c front

-- ---- there and back

whole_end : (end : TraceEnd) → status_of (end_answer end) ≡ 0 → end ≡ ends.Whole
whole_end ends.Whole zero = refl
whole_end (ends.BadLine line reason) zero = absurd (omega arith)
whole_end (ends.BadRecord byte reason) zero = absurd (omega arith)
whole_end ends.Full zero = absurd (omega arith)
whole_end ends.ReadFault zero = absurd (omega arith)
whole_end ends.NoMemory zero = absurd (omega arith)

pub there_and_back : (bytes packed text : List ℕ) (left last : Option (List ℕ)) (first answer : Answer) → IsAnswer (Convert Pack) (Some bytes) left first packed → status_of first ≡ 0
    → IsDue answer → IsAnswer (Convert Unpack) (Some packed) last answer text → (answer ≡ Shown) × (text ≡ bytes)
there_and_back bytes packed text left last first answer (end, is, c) zero d (ending, was, k) =
    let whole = subst (λ (e : TraceEnd). IsConverted Pack bytes left e packed) (whole_end end (ap status_of (sym is) ∙ zero)) c in
    let back = convert.there_and_back bytes packed text left last ending (written_due answer ending was d) whole k in
    (was ∙ ap end_answer back.0, back.1)
