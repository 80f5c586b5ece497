-- What a reader of lines has taken from its source.
use Rattle.std.proofs.Common.{◌≡◌, ℕ, List, [], ◌∷◌, ◌++◌, Option, None, Some, sym, ap, ◌∙◌, append_assoc}
use Rattle.std.specs.List.{AllByRecursion}
use Rattle.std.specs.Io.KnownBytes.{Consumes, IsAtEnd}
use Rattle.ace_event.specs.declared.header.Header.{Header}
use Rattle.ace_event.specs.declared.event.Event.{Event}
use Rattle.ace_event.specs.Text.{trace_text}
use Rattle.ace_io.specs.Line.{in_front, CutsLine}
use Rattle.ace_io.specs.declared.line_buf.LineEnd.{LineEnd}
use Rattle.ace_io.specs.declared.line_buf.LineEnd.TheVariants.{Whole, NoLf, End}
use Rattle.ace_grammar.specs.Errors.{TakesFront, LeavesNothing}
use Rattle.ace_grammar.specs.Reading.{ReadsWithin, Ending, EndsWithin, IsReadable, IsReadableHeader, IfTold}

-- what was given, and what it holds
pub taken_front : (old left : Option (List ℕ)) (held text : List ℕ) → Consumes old (in_front held left) text → TakesFront old left
taken_front None left held text c = record { taken = text; consumed = tt }
taken_front (Some bytes) None held text c = absurd c
taken_front (Some bytes) (Some rest) held text c = record { taken = text ++ held; consumed = c ∙ sym (append_assoc text held rest) }

-- the same, of a line that was cut
pub cut_front : (old left : Option (List ℕ)) (held line : List ℕ) (end : LineEnd) → CutsLine old line end (in_front held left) → TakesFront old left
cut_front old left held line Whole cut = taken_front old left held _ cut.1
cut_front old left held line NoLf cut = taken_front old left held _ cut.3
cut_front old left held line End cut = taken_front old left held _ cut.2

-- of bytes that make nothing together, the last are nothing
last_nothing : (held rest : List ℕ) → held ++ rest ≡ [] → rest ≡ []
last_nothing [] rest e = e
last_nothing (byte ∷ held) rest e = absurd cc

-- at the end of the input nothing was left, and nothing is, neither in hand nor in the source
pub cut_end : (old left : Option (List ℕ)) (held line : List ℕ) → CutsLine old line End (in_front held left)
    → IsAtEnd old × LeavesNothing old (in_front held left) × LeavesNothing old left
cut_end None None held line cut = (tt, tt, tt)
cut_end None (Some rest) held line cut = (tt, cut.1, last_nothing held rest cut.1)
cut_end (Some bytes) None held line cut = absurd cut.2
cut_end (Some bytes) (Some rest) held line cut =
    (cut.2 ∙ ap (λ l. l ++ (held ++ rest)) cut.0 ∙ cut.1, ap Some cut.1, ap Some (last_nothing held rest cut.1))

-- the bytes are the text that was consumed, and the rest
pub split : (bytes text : List ℕ) (left : Option (List ℕ)) (P : List ℕ → Type 0) → Consumes (Some bytes) left text → IfTold left P → (rest : List ℕ) × (bytes ≡ text ++ rest) × P rest
split bytes text None P c p = absurd c
split bytes text (Some rest) P c p = (rest, c, p)

-- the text of a trace was taken, and what is left ends so
pub reads_to : {most : ℕ} (bytes : List ℕ) (header : Header) (events : List Event) (left : Option (List ℕ)) (ending : Ending) (P : List ℕ → Type 0)
    → IsReadableHeader header → AllByRecursion (IsReadable header.version) events → Consumes (Some bytes) left (trace_text header events)
    → IfTold left P → ((rest : List ℕ) → P rest → EndsWithin most header.version ending events rest) → ReadsWithin most bytes header events ending
reads_to bytes header events left ending P readable all text p end =
    let parts = split bytes _ left P text p in
    record { header_is_readable = readable; events_are_readable = all; text = (parts.0, parts.1, end parts.0 parts.2) }

-- nothing is left
pub at_end : (left : Option (List ℕ)) → IsAtEnd left → IfTold left (λ rest. rest ≡ [])
at_end None e = tt
at_end (Some rest) e = e
