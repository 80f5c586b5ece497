-- What is written of the bytes of a trace.
use Rattle.std.specs.Prelude.{◌≡◌, ◌⊎◌, ⊤, ℕ, List, [], Option, Result, Ok, IfOk, IfSome, OnErr}
use Rattle.std.specs.Io.KnownBytes.{Appends}
use Rattle.ace_io.specs.Faults.{HasCause}
use Rattle.ace_io.specs.declared.outside.Failed.{Failed}
use Rattle.ace_grammar.specs.Errors.{LeavesNothing}
use Rattle.ace_event.specs.declared.header.Header.{Header}
use Rattle.ace_event.specs.declared.event.Event.{Event}
use Rattle.ace_grammar.specs.Lines.{BeginsWith}
use Rattle.ace_bin.specs.Reading.{AreBytes}
use Rattle.ace_convert.specs.declared.conversion.Conversion.{Conversion}
use Rattle.ace_convert.specs.Form.{Form, Text, Binary}
use Rattle.ace_convert.specs.declared.end.TraceEnd.{TraceEnd}
use Rattle.ace_convert.specs.declared.end.TraceEnd.TheVariants.{Whole, NoMemory}
use Rattle.ace_convert.specs.Ends.{HasReadCause}
use Rattle.ace_convert.specs.Output.{AppendsPart}
use Rattle.ace_convert.specs.Reading.{IsTrace, ReadsTo, ReadsNoHeader}
use Rattle.ace_convert.specs.Spelling.{spelt, form_read, converted}

-- The reading of these bytes, of which these are left, ends so, and the text is what is made of the
-- trace that was read: at a fault of the input of what stands whole in the bytes that were taken.
-- Nothing is made where there is no header.
abbrev pub IsConverted : Conversion → List ℕ → Option (List ℕ) → TraceEnd → List ℕ → Type 0
IsConverted conversion bytes left end text =
    (ReadsNoHeader (form_read conversion) bytes left end × (text ≡ []))
    ⊎ ((header : Header) × (events : List Event)
    × ReadsTo (form_read conversion) bytes left header events end
    × (text ≡ converted conversion header events))

-- the text is what is made of a trace with which the bytes begin
abbrev pub ConvertsFront : Conversion → List ℕ → List ℕ → Type 0
ConvertsFront conversion bytes text =
    (header : Header) × (events : List Event) × IsTrace header events
    × BeginsWith bytes (spelt (form_read conversion) header events)
    × (text ≡ converted conversion header events)

-- the numbers are such that a trace of the form may be given as them: those of a binary trace are
-- below 256
abbrev pub CanBeRead : Form → List ℕ → Type 0
CanBeRead Text bytes = ⊤
CanBeRead Binary bytes = AreBytes bytes

-- What a conversion leaves: by the bytes of the input and its count of faults, and those of the
-- output, each before and after. Where no output failed, all that is made of the trace was given,
-- and else a front of what is made of a trace with which the bytes begin. A whole trace was read to
-- the end of the input.
pub record HasConverted (conversion : Conversion) (input left : Option (List ℕ))
    (read_faults read_faults' : ℕ) (out out' : Option (List ℕ)) (faults faults' : ℕ)
    (result : Result TraceEnd Failed) : Type 0 where
  pub given : IfOk result (λ end. (text : List ℕ) × Appends out out' text
      × (end ≡ NoMemory → text ≡ [])
      × IfSome input (λ bytes. IsConverted conversion bytes left end text))
  pub part : OnErr result ((text : List ℕ) × AppendsPart out out' text
      × IfSome input (λ bytes. ConvertsFront conversion bytes text))
  pub whole : result ≡ Ok Whole → LeavesNothing input left
  pub cause : IfOk result (HasReadCause read_faults read_faults')
  pub write_cause : HasCause faults faults' result
