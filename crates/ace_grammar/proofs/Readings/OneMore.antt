-- A trace with one more event.
use Rattle.std.proofs.Common.{◌≡◌, ℕ, ◌++◌, List, [], ◌∷◌, sym, ap, ◌∙◌, append_assoc, append-nil}
use Rattle.std.specs.List.{AllByRecursion}
use Rattle.std.proofs.lemmas.Grind.{flat_map-append}
use Rattle.ace_event.specs.declared.event.Event.{Event}
use Rattle.ace_event.specs.declared.header.Header.{Header}
use Rattle.ace_event.specs.Text.{trace_text, events_text, header_text, event_text, line_text}
use Rattle.ace_grammar.specs.Reading.{IsReadable}
use Rattle.ace_grammar.proofs.General.Visible.{all-append}

pub readable-more : (version : ℕ) (events : List Event) (e : Event) → AllByRecursion (IsReadable version) events → IsReadable version e
    → AllByRecursion (IsReadable version) (events ++ e ∷ [])
readable-more version events e all one = all-append (IsReadable version) events (e ∷ []) all (one, tt)

-- the text of its lines
pub events_text-more : (version : ℕ) (events : List Event) (e : Event) → events_text version (events ++ e ∷ []) ≡ events_text version events ++ line_text (event_text version e)
events_text-more version events e =
    flat_map-append (λ event. line_text (event_text version event)) events (e ∷ []) ∙ ap (λ t. events_text version events ++ t) (append-nil (line_text (event_text version e)))

-- its whole text
pub trace_text-more : (h : Header) (events : List Event) (e : Event) → trace_text h (events ++ e ∷ []) ≡ trace_text h events ++ line_text (event_text h.version e)
trace_text-more h events e =
    ap (λ t. header_text h ++ t) (events_text-more h.version events e) ∙ sym (append_assoc (header_text h) (events_text h.version events) (line_text (event_text h.version e)))

-- the text of a trace and of more events
pub trace_text-append : (h : Header) (events more : List Event) → trace_text h (events ++ more) ≡ trace_text h events ++ events_text h.version more
trace_text-append h events more =
    ap (λ t. header_text h ++ t) (flat_map-append (λ event. line_text (event_text h.version event)) events more)
    ∙ sym (append_assoc (header_text h) (events_text h.version events) (events_text h.version more))
