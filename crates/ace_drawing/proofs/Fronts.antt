-- What a reader has read of bytes stands at their front.
use Rattle.std.proofs.Common.{◌≡◌, ℕ, List, Option, None, Some, length}
use Rattle.std.specs.Io.KnownBytes.{Consumes}
use Rattle.ace_drawing.specs.Fronts.{IsFront}
use Rattle.ace_event.specs.declared.event.Event.{Event}
use Rattle.ace_grammar.specs.Lines.{BeginsWith}
use Rattle.ace_grammar.specs.Reader.{HasRead, header_of, unread}
use Rattle.ace_grammar.specs.declared.reader.Reader.{Reader}
use Rattle.ace_io.specs.declared.outside.Source.{Ghosts}

begins : (bytes : List ℕ) (left : Option (List ℕ)) (text : List ℕ) → Consumes (Some bytes) left text → BeginsWith bytes text
begins bytes None text taken = absurd taken
begins bytes (Some rest) text taken = (rest, taken)

pub front_read : {S : Type 0} {g : Ghosts S} (left : S → Option (List ℕ)) (bytes : List ℕ) (events : List Event) (reader : Reader S g) (count : ℕ)
    → HasRead left bytes events reader → length events ≡ count → IsFront bytes count (header_of reader) events
front_read left bytes events reader count read many = record {
  header_is_readable = read.header_is_readable;
  events_are_readable = read.events_are_readable;
  so_many = many;
  text = begins bytes (unread left reader) _ read.text;
}
