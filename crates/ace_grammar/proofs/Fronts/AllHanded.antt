-- Events in front that were taken one after another.
use Rattle.std.proofs.Common.{◌≡◌, ◌+◌, ◌-◌, ◌≤◌, ℕ, List, [], ◌∷◌, ◌++◌, length, reverse, take, drop, refl, sym, ap, subst, ◌∙◌, append_assoc, arith}
use Rattle.std.specs.List.{AllByRecursion}
use Rattle.std.proofs.Math.Seq.{drop-append_seam}
use Rattle.std.proofs.lemmas.List.{length-append, length-drop, reverse-append, take_all, take-append-drop}
use Rattle.ace_event.specs.declared.event.Event.{Event}
use Rattle.ace_event.specs.Text.{event_text, events_text, line_text}
use Rattle.ace_grammar.proofs.Fronts.Handed.{line_in_front}
use Rattle.ace_grammar.proofs.Readings.OneMore.{readable-more, events_text-more}
use Rattle.ace_grammar.specs.Front.{HasTakenAll, IsInFront, StoodInFront}
use Rattle.ace_grammar.specs.Reading.{IsReadable}
use Rattle.ace_grammar.specs.Records.{event_at}

-- none was taken yet
pub none_stood : {T : Type 0} (took : T → Event → T → Type 0) (bytes : List ℕ) (taker : T) → StoodInFront took bytes bytes [] taker taker
none_stood took bytes taker = record { readable = tt; text = refl; taken = refl }

-- and one more
pub one_more_stood : {T : Type 0} (took : T → Event → T → Type 0) (bytes rest : List ℕ) (events : List Event) (first between last : T) (event : Event) (count : ℕ)
    → StoodInFront took bytes rest events first between → IsInFront (event_at 1) rest event count → took between event last
    → StoodInFront took bytes (take (length rest - (count + 1)) (drop (count + 1) rest)) (event ∷ events) first last
one_more_stood took bytes rest events first between last event count stood front taken =
    let line = line_in_front rest event count front in
    let whole : take (length rest - (count + 1)) (drop (count + 1) rest) ≡ drop (count + 1) rest = take_all _ (drop (count + 1) rest) (rw (length-drop (count + 1) rest) (omega arith)) in
    let e : reverse (event ∷ events) ≡ reverse events ++ event ∷ [] = reverse-append (event ∷ []) events in
    let parts : rest ≡ line_text (event_text 1 event) ++ drop (count + 1) rest = sym (take-append-drop (count + 1) rest) ∙ ap (λ t. t ++ drop (count + 1) rest) line.1 in
    let text : events_text 1 (reverse (event ∷ events)) ≡ events_text 1 (reverse events) ++ line_text (event_text 1 event) = ap (events_text 1) e ∙ events_text-more 1 (reverse events) event in
    subst (λ (l : List ℕ). StoodInFront took bytes l (event ∷ events) first last) (sym whole)
    record {
      readable = subst (AllByRecursion (IsReadable 1)) (sym e) (readable-more 1 (reverse events) event stood.readable line.0);
      text = stood.text ∙ ap (λ t. events_text 1 (reverse events) ++ t) parts
          ∙ sym (append_assoc (events_text 1 (reverse events)) (line_text (event_text 1 event)) (drop (count + 1) rest))
          ∙ ap (λ t. t ++ drop (count + 1) rest) (sym text);
      taken = (between, stood.taken, taken);
    }

-- what is left is no longer than all
pub rest_within : {T : Type 0} (took : T → Event → T → Type 0) (bytes rest : List ℕ) (events : List Event) (first last : T)
    → StoodInFront took bytes rest events first last → length rest ≤ length bytes
rest_within took bytes rest events first last stood =
    let l : length bytes ≡ length (events_text 1 (reverse events)) + length rest = ap length stood.text ∙ length-append (events_text 1 (reverse events)) rest in omega (arith, l)

-- what is left stands behind so many bytes
pub stood_before : {T : Type 0} (took : T → Event → T → Type 0) (bytes rest : List ℕ) (events : List Event) (first last last' : T)
    → StoodInFront took bytes rest events first last → last' ≡ last → StoodInFront took bytes (drop (length bytes - length rest) bytes) events first last'
stood_before took bytes rest events first last last' stood same =
    let text = events_text 1 (reverse events) in
    let l : length bytes ≡ length text + length rest = ap length stood.text ∙ length-append text rest in
    let n : length bytes - length rest ≡ length text = omega (arith, l) in
    let behind : drop (length bytes - length rest) bytes ≡ rest = ap (λ k. drop k bytes) n ∙ ap (drop (length text)) stood.text ∙ drop-append_seam text rest in
    record {
      readable = stood.readable;
      text = stood.text ∙ ap (λ t. text ++ t) (sym behind);
      taken = subst (HasTakenAll took events first) (sym same) stood.taken;
    }
