-- An event in front that was taken is handed over.
use Rattle.std.proofs.Common.{◌≡◌, ◌+◌, ℕ, List, [], ◌∷◌, ◌++◌, Option, take, sym, ap, subst, ◌∙◌}
use Rattle.std.proofs.lemmas.List.{take_more}
use Rattle.std.specs.Io.KnownBytes.{Consumes}
use Rattle.ace_event.specs.declared.event.Event.{Event}
use Rattle.ace_event.specs.Text.{event_text, line_text}
use Rattle.ace_grammar.proofs.Texts.LineTexts.{event_takes}
use Rattle.ace_grammar.specs.Front.{IsInFront, HandsOver}
use Rattle.ace_grammar.specs.Reading.{IsReadable}
use Rattle.ace_grammar.specs.Records.{event_at}

-- the line of an event in front, with its line feed
pub line_in_front : (bytes : List ℕ) (event : Event) (count : ℕ) → IsInFront (event_at 1) bytes event count
    → IsReadable 1 event × (take (count + 1) bytes ≡ line_text (event_text 1 event))
line_in_front bytes event count front =
    let read = event_takes 1 (take count bytes) event front.is_read in (
      read.0,
      take_more bytes count 0 front.within ∙ ap (λ byte. take count bytes ++ byte ∷ []) front.lf ∙ sym (ap line_text read.1),
    )

pub handed : (version : ℕ) (took : Event → Type 0) (bytes held : List ℕ) (event : Event) (count : ℕ) (old new : Option (List ℕ)) → version ≡ 1 → bytes ≡ held
    → IsInFront (event_at 1) bytes event count → Consumes old new (take (count + 1) held) → took event → HandsOver version took old new
handed version took bytes held event count old new one same front consumed taken =
    let line = line_in_front bytes event count front in
    subst (λ v. HandsOver v took old new) (sym one)
    record {
      event = event;
      readable = line.0;
      text = subst (Consumes old new) line.1 (subst (λ (l : List ℕ). Consumes old new (take (count + 1) l)) (sym same) consumed);
      taken = taken;
    }
