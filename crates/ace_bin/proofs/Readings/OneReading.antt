-- The same bytes read in one way.
use Rattle.std.proofs.Common.{◌≡◌, ◌≢◌, ℕ, suc, ◌+◌, ◌<◌, ◌≤◌, List, [], ◌∷◌, ◌++◌, length, Option, Some, None, refl, sym, ap, subst, ◌∙◌, arith, append_assoc, length-append}
use Rattle.std.specs.List.{AllByRecursion}
use Rattle.ace_event.specs.declared.event.Event.{Event}
use Rattle.ace_event.specs.declared.header.Header.{Header}
use Rattle.ace_event.specs.Ports.{IsHeader}
use Rattle.ace_event.specs.Range.{InRange}
use Rattle.ace_bin.specs.declared.reason.BinReason.{BinReason}
use Rattle.ace_bin.specs.declared.reason.BinReason.TheVariants.{Z1, Z2, Z3, Z4}
use Rattle.ace_bin.specs.Binary.{header_bytes, events_bytes, binary_of}
use Rattle.ace_bin.specs.Records.{event_bytes}
use Rattle.ace_bin.specs.Reading.{IsRightHeader, HasBadHeader, record_reason, most_events, Ending, Whole, Full, Bad, Ends, ReadsBinary}
use Rattle.ace_bin.proofs.Headers.{header_right, header_length, same_header}
use Rattle.ace_bin.proofs.RecordBytes.{record_again, same_record}

-- what stands after so many events, by the ending
abbrev EndsAt : ℕ → Ending → ℕ → List ℕ → Type 0
EndsAt version Whole count rest = (count ≤ most_events) × (rest ≡ [])
EndsAt version Full count rest = (count ≡ most_events) × (rest ≢ [])
EndsAt version (Bad byte reason) count rest = (count < most_events) × (record_reason version rest ≡ Some reason)

ends_at : (header : Header) (ending : Ending) (events : List Event) (rest : List ℕ) → Ends header ending events rest → EndsAt header.version ending (length events) rest
ends_at header Whole events rest h = h
ends_at header Full events rest h = h
ends_at header (Bad byte reason) events rest h = (h.0, h.2)

at_most : (version : ℕ) (ending : Ending) (count : ℕ) (rest : List ℕ) → EndsAt version ending count rest → count ≤ most_events
at_most version Whole count rest h = h.0
at_most version Full count rest h = omega (arith, h.0)
at_most version (Bad byte reason) count rest h = omega (arith, h.0)

-- nothing has no reason
no_reason : (version : ℕ) (rest : List ℕ) (reason : BinReason) → rest ≡ [] → record_reason version rest ≡ Some reason → ⊥
no_reason version rest reason none is =
    let e : record_reason version [] ≡ Some reason = subst (λ (l : List ℕ). record_reason version l ≡ Some reason) none is in
    absurd cc

same_reason : (found : Option BinReason) (one other : BinReason) → found ≡ Some one → found ≡ Some other → one ≡ other
same_reason found one other h k = let e : Some one ≡ Some other = sym h ∙ k in cc

same_ending : (header : Header) (one other : Ending) (events : List Event) (rest : List ℕ) → Ends header one events rest → Ends header other events rest → one ≡ other
same_ending header Whole Whole events rest h k = refl
same_ending header Whole Full events rest h k = absurd (k.1 h.1)
same_ending header Whole (Bad byte reason) events rest h k = absurd (no_reason header.version rest reason h.1 k.2)
same_ending header Full Whole events rest h k = absurd (h.1 k.1)
same_ending header Full Full events rest h k = refl
same_ending header Full (Bad byte reason) events rest h k = absurd (omega (arith, h.0, k.0))
same_ending header (Bad byte reason) Whole events rest h k = absurd (no_reason header.version rest reason k.1 h.2)
same_ending header (Bad byte reason) Full events rest h k = absurd (omega (arith, h.0, k.0))
same_ending header (Bad byte reason) (Bad byte' reason') events rest h k =
    ap (λ b. Bad b reason) (h.1 ∙ sym k.1) ∙ ap (λ r. Bad byte' r) (same_reason (record_reason header.version rest) reason reason' h.2 k.2)

not_empty : (event : Event) (more : List ℕ) → event_bytes event ++ more ≡ [] → ⊥
not_empty event more e = absurd cc

-- a record in range isn't malformed
record_isn't_bad : (version : ℕ) (event : Event) (rest more : List ℕ) (reason : BinReason) → InRange version event → rest ≡ event_bytes event ++ more
    → record_reason version rest ≡ Some reason → ⊥
record_isn't_bad version event rest more reason is e bad =
    let clash : None ≡ Some reason = sym (record_again version event more is) ∙ ap (record_reason version) (sym e) ∙ bad in
    absurd cc

-- where bytes end no event goes on, within the most of a trace
no_more : (version : ℕ) (ending : Ending) (count : ℕ) (rest more : List ℕ) (event : Event) → EndsAt version ending count rest → count < most_events → InRange version event
    → rest ≡ event_bytes event ++ more → ⊥
no_more version Whole count rest more event h lt is e = not_empty event more (sym e ∙ h.1)
no_more version Full count rest more event h lt is e = omega (arith, h.0, lt)
no_more version (Bad byte reason) count rest more event h lt is e = record_isn't_bad version event rest more reason is e h.1

regroup : (event : Event) (events : List Event) (rest : List ℕ) → events_bytes (event ∷ events) ++ rest ≡ event_bytes event ++ (events_bytes events ++ rest)
regroup event events rest = append_assoc (event_bytes event) (events_bytes events) rest

same_events : (version before : ℕ) (one other : List Event) (end end' : Ending) (rest rest' : List ℕ) → AllByRecursion (InRange version) one → AllByRecursion (InRange version) other
    → events_bytes one ++ rest ≡ events_bytes other ++ rest' → EndsAt version end (before + length one) rest → EndsAt version end' (before + length other) rest'
    → (one ≡ other) × (rest ≡ rest')
same_events version before [] [] end end' rest rest' h k e p q = (refl, e)
same_events version before [] (event ∷ other) end end' rest rest' h k e p q =
    absurd (no_more version end (before + 0) rest (events_bytes other ++ rest') event p (omega (arith, at_most version end' (before + suc (length other)) rest' q)) k.0 (e ∙ regroup event other rest'))
same_events version before (event ∷ one) [] end end' rest rest' h k e p q =
    absurd (no_more version end' (before + 0) rest' (events_bytes one ++ rest) event q (omega (arith, at_most version end (before + suc (length one)) rest p)) h.0 (sym e ∙ regroup event one rest))
same_events version before (first ∷ one) (second ∷ other) end end' rest rest' h k e p q =
    let behind : event_bytes first ++ (events_bytes one ++ rest) ≡ event_bytes second ++ (events_bytes other ++ rest') = sym (regroup first one rest) ∙ e ∙ regroup second other rest' in
    let split = same_record version first second (events_bytes one ++ rest) (events_bytes other ++ rest') h.0 k.0 behind in
    let count : before + suc (length one) ≡ suc before + length one = omega arith in
    let count' : before + suc (length other) ≡ suc before + length other = omega arith in
    let tail = same_events version (suc before) one other end end' rest rest' h.1 k.1 split.1
    (subst (λ c. EndsAt version end c rest) count p) (subst (λ c. EndsAt version end' c rest') count' q) in
    (ap (λ x. x ∷ one) split.0 ∙ ap (λ (l : List Event). second ∷ l) tail.0, tail.1)

behind_header : (bytes : List ℕ) (header : Header) (events : List Event) (rest : List ℕ) → bytes ≡ binary_of header events ++ rest
    → bytes ≡ header_bytes header ++ (events_bytes events ++ rest)
behind_header bytes header events rest e = e ∙ append_assoc (header_bytes header) (events_bytes events) rest

pub one_reading : (bytes : List ℕ) (one other : Header) (events events' : List Event) (end end' : Ending) → ReadsBinary bytes one events end → ReadsBinary bytes other events' end'
    → (one ≡ other) × (events ≡ events') × (end ≡ end')
one_reading bytes one other events events' end end' p q =
    let version = one.version in
    let rest = p.parts.0 in
    let rest' = q.parts.0 in
    let front = behind_header bytes one events rest p.parts.1 in
    let front' = behind_header bytes other events' rest' q.parts.1 in
    let header = same_header one other (events_bytes events ++ rest) (events_bytes events' ++ rest') p.header_is_right q.header_is_right (sym front ∙ front') in
    let back : other ≡ one = sym header.0 in
    let ends' : Ends one end' events' rest' = subst (λ (h : Header). Ends h end' events' rest') back q.parts.2 in
    let in_range' : AllByRecursion (InRange version) events' = subst (λ (h : Header). AllByRecursion (InRange h.version) events') back q.events_in_range in
    let zero_more : (l : List Event) → length l ≡ 0 + length l = λ l. omega arith in
    let same = same_events version 0 events events' end end' rest rest' p.events_in_range in_range' header.1
    (subst (λ c. EndsAt version end c rest) (zero_more events) (ends_at one end events rest p.parts.2))
    (subst (λ c. EndsAt version end' c rest') (zero_more events') (ends_at one end' events' rest' ends')) in
    let moved : Ends one end' events rest = rw (same.0, same.1) ends' in
    (header.0, same.0, same_ending one end end' events rest p.parts.2 moved)

right_isn't_bad : (bytes : List ℕ) (byte : ℕ) (reason : BinReason) → 10 ≤ length bytes → IsRightHeader bytes → HasBadHeader bytes byte reason → ⊥
right_isn't_bad bytes byte Z1 le right bad = omega (arith, le, bad.1)
right_isn't_bad bytes byte Z2 le right bad = bad.2 right
right_isn't_bad bytes byte Z3 le right bad = bad
right_isn't_bad bytes byte Z4 le right bad = bad

-- a header in front isn't malformed
pub header_isn't_bad : (bytes rest : List ℕ) (header : Header) (byte : ℕ) (reason : BinReason) → IsHeader header → bytes ≡ header_bytes header ++ rest
    → HasBadHeader bytes byte reason → ⊥
header_isn't_bad bytes rest header byte reason is e bad =
    let long : 10 ≤ length bytes = omega (arith, ap length e, length-append (header_bytes header) rest, header_length header) in
    right_isn't_bad bytes byte reason long (subst IsRightHeader (sym e) (header_right header rest is)) bad

pub no_bad_header : (bytes : List ℕ) (header : Header) (events : List Event) (end : Ending) (byte : ℕ) (reason : BinReason) → ReadsBinary bytes header events end → HasBadHeader bytes byte reason → ⊥
no_bad_header bytes header events end byte reason p bad =
    header_isn't_bad bytes (events_bytes events ++ p.parts.0) header byte reason p.header_is_right (behind_header bytes header events p.parts.0 p.parts.1) bad

pub one_bad_header : (bytes : List ℕ) (byte byte' : ℕ) (one other : BinReason) → HasBadHeader bytes byte one → HasBadHeader bytes byte' other → (byte ≡ byte') × (one ≡ other)
one_bad_header bytes byte byte' Z1 Z1 h k = (h.0 ∙ sym k.0, refl)
one_bad_header bytes byte byte' Z1 Z2 h k = absurd (omega (arith, h.1, k.1))
one_bad_header bytes byte byte' Z1 Z3 h k = absurd k
one_bad_header bytes byte byte' Z1 Z4 h k = absurd k
one_bad_header bytes byte byte' Z2 Z1 h k = absurd (omega (arith, h.1, k.1))
one_bad_header bytes byte byte' Z2 Z2 h k = (h.0 ∙ sym k.0, refl)
one_bad_header bytes byte byte' Z2 Z3 h k = absurd k
one_bad_header bytes byte byte' Z2 Z4 h k = absurd k
one_bad_header bytes byte byte' Z3 other h k = absurd h
one_bad_header bytes byte byte' Z4 other h k = absurd h
