-- What a call of the program answers, by its words and, where it reads a trace or a script, by the
-- bytes of its input, where these are told.
use Rattle.std.specs.Prelude.{◌≡◌, ◌≢◌, ◌<◌, ◌≤◌, ◌-◌, ◌^◌, ◌⊎◌, ℕ, List, [], Option, String, IfSome, codes, ⊤}
use Rattle.std.specs.Io.KnownBytes.{Appends}
use Rattle.std.specs.declared.alloc.Global.{Global}
use Rattle.ace_io.specs.Faults.{Rose}
use Rattle.ace_account.specs.declared.listener.Account.TheVariants.{Order}
use Rattle.ace_event.specs.declared.event.Event.{Event}
use Rattle.ace_event.specs.declared.header.Header.{Header}
use Rattle.ace_convert.specs.declared.conversion.Conversion.{Conversion}
use Rattle.ace_convert.specs.Converted.{CanBeRead, ConvertsFront}
use Rattle.ace_convert.specs.Output.{AppendsPart}
use Rattle.ace_convert.specs.Spelling.{form_read}
use Rattle.ace_model.specs.Plans.{Plan}
use Rattle.ace_script.specs.Reading.{Reads, Whole}
use Rattle.ace_top.specs.declared.answer.Answer.{Answer}
use Rattle.ace_top.specs.declared.answer.Answer.TheVariants.{Accepted, NoMemory, Ran, ReadFault, Reported, Usage}
use Rattle.ace_top.specs.declared.words.Command.{Command}
use Rattle.ace_top.specs.declared.words.Command.TheVariants.{Check, Account, Convert, Run, Gen, Trial}
use Rattle.ace_top.specs.Checked.{IsChecked}
use Rattle.ace_top.specs.Command.{Names}
use Rattle.ace_top.specs.Generate.{IsGenerated}
use Rattle.ace_call.specs.Output.{AppendsParts}
use Rattle.ace_top.specs.Texts.{status_of, out_text_of, notes_text_of}
use Rattle.ace_top.specs.Report.{AreAccepted, IsReported}
use Rattle.ace_top.specs.Run.{IsRan, IsTried, WritesSomeRun}
use Rattle.ace_top.specs.Words.{IsCommand}
use Rattle.ace_top.specs.Written.{IsWritten}

-- what a command answers to this input, of which this is left, with this text on the standard
-- output
abbrev pub IsAnswer : Command → Option (List ℕ) → Option (List ℕ) → Answer → List ℕ → Type 0
IsAnswer Check input left answer text = IfSome input (λ bytes. IsChecked bytes answer)
IsAnswer (Account account) input left answer text =
    IfSome input (λ bytes. IsReported account bytes answer text)
IsAnswer (Convert conversion) input left answer text =
    IfSome input (λ bytes. IsWritten conversion bytes left answer text)
IsAnswer (Run snooping) input left answer text =
    IfSome input (λ bytes. IsRan snooping bytes answer text)
IsAnswer (Gen number) input left answer text = IsGenerated number answer text
IsAnswer (Trial number) input left answer text = IsTried number answer

-- what the answer alone says of that text: `check` writes no more than its answer, and so do
-- `report` and `order` where the trace isn't accepted; what writes a trace of a trace writes
-- nothing where there was no memory; `run` writes the trace of a run of some script, or nothing;
-- `trial` writes no more than its answer; and of `gen` it is said above
abbrev pub FitsAnswer : Command → Answer → List ℕ → Type 0
FitsAnswer Check answer text = text ≡ out_text_of answer
FitsAnswer (Account account) Reported text = ⊤
FitsAnswer (Account account) (Accepted events) text = ⊥
FitsAnswer (Account account) answer text = text ≡ out_text_of answer
FitsAnswer (Convert conversion) NoMemory text = text ≡ []
FitsAnswer (Convert conversion) answer text = ⊤
FitsAnswer (Run snooping) Ran text = WritesSomeRun snooping text
FitsAnswer (Run snooping) answer text = text ≡ out_text_of answer
FitsAnswer (Gen number) answer text = ⊤
FitsAnswer (Trial number) answer text = text ≡ out_text_of answer

-- an answer that says what is in the input, and not that it failed or that there was no memory
abbrev pub IsDue : Answer → Type 0
IsDue ReadFault = ⊥
IsDue NoMemory = ⊥
IsDue answer = ⊤

-- what can be the input of the command: numbers that are read as a binary trace are bytes
abbrev pub CanBeInput : Command → List ℕ → Type 0
CanBeInput (Convert conversion) bytes = CanBeRead (form_read conversion) bytes
CanBeInput command bytes = ⊤

-- the words and the bytes of the input alone tell what the command writes: it runs no script, or
-- the input isn't a whole one; and it writes no certificate, or the input isn't accepted
abbrev pub IsSettled : Command → List ℕ → Type 0
IsSettled (Run snooping) bytes = (plan : Plan) → Reads bytes plan Whole → ⊥
IsSettled (Trial number) bytes = ⊥
IsSettled (Account Order) bytes =
    (header : Header) (events : List Event) → AreAccepted bytes header events → ⊥
IsSettled command bytes = CanBeInput command bytes

-- The status is that of an answer of the command, and its texts were appended to the two outputs,
-- whether or not the input tells its bytes.
abbrev pub Answers : Command → Option (List ℕ) → Option (List ℕ) → ℕ
    → Option (List ℕ) → Option (List ℕ) → Option (List ℕ) → Option (List ℕ) → Type 0
Answers command input left status out out' notes notes' =
    (answer : Answer) × (text : List ℕ) × FitsAnswer command answer text
    × IsAnswer command input left answer text × (status ≡ status_of answer)
    × Appends out out' text × Appends notes notes' (notes_text_of answer)

-- the same for a list of words: where they name no command, the usage is told. Want of memory to
-- parse them may take its place.
abbrev pub AnswersWords : List (String Global) → Option (List ℕ) → Option (List ℕ) → ℕ
    → Option (List ℕ) → Option (List ℕ) → Option (List ℕ) → Option (List ℕ) → Type 0
AnswersWords words input left status out out' notes notes' =
    ((command : Command) × Names words command
    × Answers command input left status out out' notes notes')
    ⊎ (¬ IsCommand words × (status ≡ status_of Usage) × Appends out out' []
    × Appends notes notes' (notes_text_of Usage))
    ⊎ ((status ≡ status_of NoMemory) × Appends out out' []
    × Appends notes notes' (notes_text_of NoMemory))

-- An output failed where this was to be answered: of each text of an answer a front was appended,
-- and to the notes then a front of the word that an output failed.
abbrev pub AnswersInPart : Command → Option (List ℕ) → Option (List ℕ)
    → Option (List ℕ) → Option (List ℕ) → Option (List ℕ) → Option (List ℕ) → Type 0
AnswersInPart command input left out out' notes notes' =
    (answer : Answer) × (text : List ℕ) × FitsAnswer command answer text
    × IsAnswer command input left answer text
    × AppendsPart out out' text × AppendsParts notes notes' (notes_text_of answer)
    (codes "write fault\n")

-- The standard output failed while a trace was written, before its end was read: a front was
-- appended of what is written for the header and events that had been read, and to the notes a
-- front of the word that an output failed.
abbrev pub WritesInPart : Command → Option (List ℕ)
    → Option (List ℕ) → Option (List ℕ) → Option (List ℕ) → Option (List ℕ) → Type 0
WritesInPart command input out out' notes notes' =
    (conversion : Conversion) × (text : List ℕ) × (command ≡ Convert conversion)
    × IfSome input (λ bytes. ConvertsFront conversion bytes text)
    × AppendsPart out out' text × AppendsPart notes notes' (codes "write fault\n")

abbrev pub BreaksOff : Command → Option (List ℕ) → Option (List ℕ)
    → Option (List ℕ) → Option (List ℕ) → Option (List ℕ) → Option (List ℕ) → Type 0
BreaksOff command input left out out' notes notes' =
    AnswersInPart command input left out out' notes notes'
    ⊎ WritesInPart command input out out' notes notes'

-- the same for a list of words
abbrev pub BreaksOffWords : List (String Global) → Option (List ℕ) → Option (List ℕ)
    → Option (List ℕ) → Option (List ℕ) → Option (List ℕ) → Option (List ℕ) → Type 0
BreaksOffWords words input left out out' notes notes' =
    ((command : Command) × Names words command × BreaksOff command input left out out' notes notes')
    ⊎ (¬ IsCommand words × Appends out out' []
    × AppendsParts notes notes' (notes_text_of Usage) (codes "write fault\n"))
    ⊎ (Appends out out' [] × AppendsParts notes notes' (notes_text_of NoMemory)
    (codes "write fault\n"))

-- What a command leaves: where no output failed, an answer; and where one did, what had been given
-- by then, and the word that it failed, if the notes could take that.
pub record CarriesOut (command : Command) (input left : Option (List ℕ)) (status : ℕ)
    (out out' notes notes' : Option (List ℕ)) (faults faults' : ℕ) : Type 0 where
  pub answer : status ≢ 5 → Answers command input left status out out' notes notes'
  pub broken_off : status ≡ 5 → BreaksOff command input left out out' notes notes'
  pub told : status ≡ 5 → faults < 2 ^ 64 - 1 → faults' ≡ faults
      → Appends notes notes' (codes "write fault\n")

-- Why a command ends with its status, by the counts of faults of the input and of the two outputs.
pub record HasStatusCause (status input input' out out' notes notes' : ℕ) : Type 0 where
  pub read_fault : status ≡ 4 → Rose input input'
  pub input_failed : input' ≢ input → (status ≡ 4) ⊎ (status ≡ 5)
  pub write_fault : status ≡ 5 → Rose out out' ⊎ Rose notes notes'
  pub out_steady : status ≢ 5 → out' ≡ out
  pub notes_steady : status ≢ 5 → notes' ≡ notes
  pub no_usage : status ≢ 2
  pub bound : status ≤ 7
