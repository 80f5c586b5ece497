-- Every list of bytes reads as a trace in some way.
use Rattle.std.proofs.Common.{◌≡◌, ◌≢◌, ℕ, zero, suc, ◌+◌, ◌<◌, ◌≤◌, true, false, List, [], ◌∷◌, ◌++◌, length, take, drop, refl, sym, ap, ◌∙◌, arith, append_assoc, inl, inr, ◌⊎◌}
use Rattle.std.specs.Prelude.{codes}
use Rattle.std.specs.Str.{bytes_eq}
use Rattle.std.specs.List.{AllByRecursion, count_by}
use Rattle.std.proofs.Math.Dec.{eqb}
use Rattle.std.proofs.lemmas.Bool.{cases_Bool, cases_eq, cases_lt}
use Rattle.std.proofs.lemmas.List.{take-append-drop}
use Rattle.std.proofs.lemmas.List.Elements.{All-from_recursion}
use Rattle.std.proofs.lemmas.Slice.Eq.{bytes_eq-Decides}
use Rattle.ace_event.specs.declared.event.Event.{Event}
use Rattle.ace_event.specs.declared.header.Header.{Header}
use Rattle.ace_event.specs.Ports.{most_letters}
use Rattle.ace_event.specs.Text.{event_text, events_text, line_text, version_text, header_text, trace_text}
use Rattle.ace_grammar.specs.declared.reason.Reason.{Reason}
use Rattle.ace_grammar.specs.declared.reason.Reason.TheVariants.{F1, F7}
use Rattle.ace_grammar.specs.Letters.{ArePortLetters}
use Rattle.ace_grammar.specs.Lines.{BeginsWith, IsFirstLine, HasNoLine}
use Rattle.ace_grammar.specs.Reading.{IsReadable, IsReadableHeader, HasBadLine, HasBadHeader, IsVersion, IsVersionLine, IsPortsLine, ports_text, most_events, Ending, Whole, Full, Bad, ReadsWithin}
use Rattle.ace_grammar.proofs.General.Visible.{IsClean}
use Rattle.ace_grammar.proofs.FirstLines.Letters.{header_of, made_letters, no_letters}
use Rattle.ace_grammar.proofs.FirstLines.Cut.{not_empty, clean_line}
use Rattle.ace_grammar.proofs.Reasons.LineReasons.{event_or_reason}

-- ---- first lines

-- a first line, of fewer bytes than so many
abbrev IsFirstWithin : ℕ → List ℕ → List ℕ → Type 0
IsFirstWithin count line bytes = IsClean line × (length line < count) × BeginsWith bytes (line_text line)

none_within : (count x : ℕ) (xs : List ℕ) → x ≢ 10 → ((line : List ℕ) → IsFirstWithin count line xs → ⊥) → (line : List ℕ) → IsFirstWithin (suc count) line (x ∷ xs) → ⊥
none_within count x xs other none [] first = let e : x ∷ xs ≡ 10 ∷ first.2.0 = first.2.1 in other cc
none_within count x xs other none (y ∷ line) first =
    let e : x ∷ xs ≡ y ∷ ((line ++ 10 ∷ []) ++ first.2.0) = first.2.1 in
    let tail : xs ≡ (line ++ 10 ∷ []) ++ first.2.0 = cc in
    none line (first.0.1, omega (arith, first.1), (first.2.0, tail))

first_within : (count : ℕ) (bytes : List ℕ) → ((line : List ℕ) × IsFirstWithin count line bytes) ⊎ ((line : List ℕ) → IsFirstWithin count line bytes → ⊥)
first_within zero bytes = inr (λ line first. omega (arith, first.1))
first_within (suc count) [] = inr (λ line first. not_empty line first.2.0 (sym first.2.1))
first_within (suc count) (x ∷ xs) =
    elim (cases_eq x 10) [
      | inl is ↦ inl ([], (tt, omega arith, (xs, ap (λ b. b ∷ xs) is)))
      | inr other ↦
          elim (first_within count xs) [
            | inl f ↦ inl (x ∷ f.0, ((other, f.1.0), omega (arith, f.1.1), (f.1.2.0, ap (λ (l : List ℕ). x ∷ l) f.1.2.1)))
            | inr none ↦ inr (none_within count x xs other none)
          ]
    ]

first_of : (count : ℕ) → count ≡ 256 → (bytes : List ℕ) → ((line : List ℕ) × IsFirstLine line bytes) ⊎ HasNoLine bytes
first_of count is bytes =
    elim (first_within count bytes) [
      | inl f ↦ inl (f.0, (All-from_recursion (λ b. b ≢ 10) f.0 f.1.0, omega (arith, f.1.1, is), f.1.2))
      | inr none ↦ inr (λ line first. none line (clean_line line first.0, omega (arith, first.1, is), first.2))
    ]

pub first_line : (bytes : List ℕ) → ((line : List ℕ) × IsFirstLine line bytes) ⊎ HasNoLine bytes
first_line bytes = first_of 256 refl bytes

-- ---- events

-- how the events of a trace of a version end, where there is room for so many
abbrev pub Stops : ℕ → ℕ → ℕ → List ℕ → Type 0
Stops version room count rest =
    ((count ≤ room) × (rest ≡ [])) ⊎ (((count ≡ room) × (rest ≢ [])) ⊎ ((count < room) × ((reason : Reason) × HasBadLine version rest reason)))

one_more : (version room count : ℕ) (rest : List ℕ) → Stops version room count rest → Stops version (suc room) (suc count) rest
one_more version room count rest (inl h) = inl (omega (arith, h.0), h.1)
one_more version room count rest (inr (inl h)) = inr (inl (omega (arith, h.0), h.1))
one_more version room count rest (inr (inr h)) = inr (inr (omega (arith, h.0), h.1))

abbrev pub ReadsEvents : ℕ → ℕ → List ℕ → Type 0
ReadsEvents version room bytes =
    (events : List Event) × (rest : List ℕ) × AllByRecursion (IsReadable version) events × (bytes ≡ events_text version events ++ rest) × Stops version room (length events) rest

more_events : (version room : ℕ) (bytes more : List ℕ) (event : Event) → IsReadable version event → bytes ≡ line_text (event_text version event) ++ more
    → ReadsEvents version room more → ReadsEvents version (suc room) bytes
more_events version room bytes more event is e r = (
  event ∷ r.0,
  r.1,
  (is, r.2),
  e ∙ ap (λ (l : List ℕ). line_text (event_text version event) ++ l) r.3 ∙ sym (append_assoc (line_text (event_text version event)) (events_text version r.0) r.1),
  one_more version room (length r.0) r.1 r.4,
)

stopped : (version room : ℕ) (bytes : List ℕ) → Stops version room 0 bytes → ReadsEvents version room bytes
stopped version room bytes stops = ([], bytes, tt, refl, stops)

pub events_of : (version room : ℕ) (bytes : List ℕ) → ReadsEvents version room bytes
events_of version room [] = stopped version room [] (inl (omega arith, refl))
events_of version zero (x ∷ xs) = stopped version zero (x ∷ xs) (inr (inl (refl, λ e. absurd cc)))
events_of version (suc room) (x ∷ xs) =
    elim (first_line (x ∷ xs)) [
      | inr none ↦ stopped version (suc room) (x ∷ xs) (inr (inr (omega arith, (F1, inl (refl, (λ e. absurd cc), none)))))
      | inl f ↦
          elim (event_or_reason version f.0) [
            | inr why ↦ stopped version (suc room) (x ∷ xs) (inr (inr (omega arith, (why.0, inr (f.0, f.1, why.1)))))
            | inl event ↦
                more_events version room (x ∷ xs) f.1.2.0 event.0 event.1
                (f.1.2.1 ∙ ap (λ (l : List ℕ). line_text l ++ f.1.2.0) (sym event.2)) (events_of version room f.1.2.0)
          ]
    ]

abbrev pub ReadsBehind : ℕ → List ℕ → Type 0
ReadsBehind most bytes = (header : Header) × (events : List Event) × (end : Ending) × ReadsWithin most bytes header events end

behind : (most : ℕ) (bytes rest : List ℕ) (header : Header) → IsReadableHeader header → bytes ≡ header_text header ++ rest
    → ReadsEvents header.version most rest → ReadsBehind most bytes
behind most bytes rest header readable e r =
    let text : bytes ≡ trace_text header r.0 ++ r.1 =
    e ∙ ap (λ (l : List ℕ). header_text header ++ l) r.3 ∙ sym (append_assoc (header_text header) (events_text header.version r.0) r.1) in
    elim r.4 [
      | inl h ↦ (header, r.0, Whole, record { header_is_readable = readable; events_are_readable = r.2; text = (r.1, text, h) })
      | inr q ↦
          elim q [
            | inl h ↦ (header, r.0, Full, record { header_is_readable = readable; events_are_readable = r.2; text = (r.1, text, h) })
            | inr h ↦ (
              header,
              r.0,
              Bad (length r.0 + 3) h.1.0,
              record { header_is_readable = readable; events_are_readable = r.2; text = (r.1, text, (h.0, refl, h.1.1)) },
            )
          ]
    ]

-- ---- the header

not_these : (one other : List ℕ) → bytes_eq one other ≡ false → one ≡ other → ⊥
not_these one other no_match same =
    let clash : true ≡ false = sym ((bytes_eq-Decides one other).1 same) ∙ no_match in
    absurd cc

letters_or_not : (most : ℕ) (letters : List ℕ) → ArePortLetters most letters ⊎ (ArePortLetters most letters → ⊥)
letters_or_not most letters =
    let aces = count_by (λ l. eqb l 65) letters in
    let lites = count_by (λ l. eqb l 76) letters in
    elim (cases_lt 0 (length letters)) [
      | inr none ↦ inr (λ h. omega (arith, none, h.0))
      | inl some ↦
          elim (cases_lt most aces) [
            | inl many ↦ inr (λ h. omega (arith, many, h.1))
            | inr few ↦
                elim (cases_lt most lites) [
                  | inl many ↦ inr (λ h. omega (arith, many, h.2))
                  | inr few_lite ↦
                      elim (cases_eq (aces + lites) (length letters)) [
                        | inl all ↦ inl (some, few, few_lite, all)
                        | inr other ↦ inr (λ h. other h.3)
                      ]
                ]
          ]
    ]

pub ports_or_not : (version : ℕ) (line : List ℕ) → IsVersion version → IsPortsLine version line ⊎ (IsPortsLine version line → ⊥)
ports_or_not version line is =
    let letters = drop 6 line in
    let whole = take-append-drop 6 line in
    elim (cases_Bool (bytes_eq (take 6 line) (codes "PORTS "))) [
      | inr q ↦
          inr (λ h. not_these (take 6 line) (codes "PORTS ") q (sym (ap (take 6) h.3)))
      | inl p ↦
          let front = (bytes_eq-Decides (take 6 line) (codes "PORTS ")).0 p in
          let text : codes "PORTS " ++ letters ≡ line = ap (λ (l : List ℕ). l ++ letters) (sym front) ∙ whole in
          elim (letters_or_not (most_letters version) letters) [
            | inl are ↦
                let made = made_letters version letters is are in
                inl (header_of version letters, made.0, refl, ap (λ (l : List ℕ). codes "PORTS " ++ l) made.1 ∙ text)
            | inr not ↦ inr (λ h. no_letters version letters not h.0 h.1 h.2 (ap (drop 6) h.3))
          ]
    ]

abbrev HasSomeBadHeader : List ℕ → Type 0
HasSomeBadHeader bytes = (number : ℕ) × (reason : Reason) × HasBadHeader bytes number reason

second : (version : ℕ) (bytes rest : List ℕ) → IsVersion version → bytes ≡ line_text (version_text version) ++ rest
    → HasSomeBadHeader bytes ⊎ ((header : Header) × (more : List ℕ) × IsReadableHeader header × (bytes ≡ header_text header ++ more))
second version bytes rest known e =
    elim (first_line rest) [
      | inr none ↦ inl (2, F1, inr (refl, (version, rest, known, e, inl (refl, none))))
      | inl f ↦
          elim (ports_or_not version f.0 known) [
            | inr other ↦ inl (2, F7, inr (refl, (version, rest, known, e, inr (refl, (f.0, f.1, other)))))
            | inl is ↦
                let more = f.1.2.0 in
                inr (
                  is.0,
                  more,
                  is.1,
                  e ∙ ap (λ (l : List ℕ). line_text (version_text version) ++ l) (f.1.2.1 ∙ ap (λ (l : List ℕ). line_text l ++ more) (sym is.3))
                      ∙ ap (λ v. line_text (version_text v) ++ (line_text (ports_text is.0) ++ more)) (sym is.2)
                      ∙ sym (append_assoc (line_text (version_text is.0.version)) (line_text (ports_text is.0)) more),
                )
          ]
    ]

no_version : (line : List ℕ) → bytes_eq line (codes "ACE 1") ≡ false → bytes_eq line (codes "ACE 2") ≡ false
    → (version : ℕ) → IsVersion version → version_text version ≡ line → ⊥
no_version line q r version (inl is) e = not_these line (codes "ACE 1") q (sym e ∙ ap version_text is)
no_version line q r version (inr is) e = not_these line (codes "ACE 2") r (sym e ∙ ap version_text is)

version_or_not : (line : List ℕ) → IsVersionLine line ⊎ (IsVersionLine line → ⊥)
version_or_not line =
    elim (cases_Bool (bytes_eq line (codes "ACE 1"))) [
      | inl p ↦ inl (1, inl refl, sym ((bytes_eq-Decides line (codes "ACE 1")).0 p))
      | inr q ↦
          elim (cases_Bool (bytes_eq line (codes "ACE 2"))) [
            | inl p ↦ inl (2, inr refl, sym ((bytes_eq-Decides line (codes "ACE 2")).0 p))
            | inr r ↦ inr (λ h. no_version line q r h.0 h.1 h.2)
          ]
    ]

header_or_not : (bytes : List ℕ) → HasSomeBadHeader bytes ⊎ ((header : Header) × (more : List ℕ) × IsReadableHeader header × (bytes ≡ header_text header ++ more))
header_or_not bytes =
    elim (first_line bytes) [
      | inr none ↦ inl (1, F1, inl (refl, inl (refl, none)))
      | inl f ↦
          elim (version_or_not f.0) [
            | inl v ↦ second v.0 bytes f.1.2.0 v.1 (f.1.2.1 ∙ ap (λ (l : List ℕ). line_text l ++ f.1.2.0) (sym v.2))
            | inr other ↦ inl (1, F7, inl (refl, inr (refl, (f.0, f.1, other))))
          ]
    ]

-- where a trace has at most so many events
pub some_reading_within : (most : ℕ) (bytes : List ℕ) → HasSomeBadHeader bytes ⊎ ReadsBehind most bytes
some_reading_within most bytes =
    elim (header_or_not bytes) [
      | inl bad ↦ inl bad
      | inr h ↦ inr (behind most bytes h.1 h.0 h.2 h.3 (events_of h.0.version most h.1))
    ]

pub some_reading : (bytes : List ℕ) → HasSomeBadHeader bytes ⊎ ReadsBehind most_events bytes
some_reading = some_reading_within most_events
