-- The same bytes read in one way.
use Rattle.std.proofs.Common.{◌≡◌, ◌≢◌, ℕ, suc, ◌+◌, ◌<◌, ◌≤◌, List, [], ◌∷◌, ◌++◌, length, refl, sym, ap, subst, ◌∙◌, arith, append_assoc, inl, inr}
use Rattle.std.specs.Prelude.{codes}
use Rattle.std.specs.List.{AllByRecursion}
use Rattle.std.proofs.lemmas.List.{append_cancel_left}
use Rattle.ace_event.specs.declared.event.Event.{Event}
use Rattle.ace_event.specs.declared.header.Header.{Header}
use Rattle.ace_event.specs.Ports.{port_letters}
use Rattle.ace_event.specs.Text.{event_text, events_text, line_text, version_text, header_text, trace_text}
use Rattle.ace_grammar.specs.Reading.{IsReadable, IsReadableHeader, HasBadLine, HasBadHeaderLine, HasBadHeader, IsVersion, IsVersionLine, IsPortsLine, ports_text, Ending, Whole, Full, Bad, EndsWithin, ReadsWithin}
use Rattle.ace_io.proofs.Cutting.{first_lf}
use Rattle.ace_grammar.specs.declared.reason.Reason.{Reason}
use Rattle.ace_grammar.specs.Lines.{IsFirstLine}
use Rattle.ace_grammar.specs.Reasons.{HasReason}
use Rattle.ace_grammar.specs.Records.{event_at}
use Rattle.ace_grammar.proofs.General.Options.{some_is}
use Rattle.ace_grammar.proofs.FirstLines.Cut.{same_first, not_empty, header_lines, behind_version, version_line, version_short, same_version, ports_line, ports_short}
use Rattle.ace_grammar.proofs.FirstLines.Letters.{same_header}
use Rattle.ace_grammar.proofs.Texts.LineTexts.{event_again, event_short}
use Rattle.ace_grammar.proofs.Reasons.LineReasons.{same_reason, event_has_none, event_no_lf}

-- what stands after so many events, by the ending, where a trace has at most so many
abbrev EndsAt : ℕ → ℕ → Ending → ℕ → List ℕ → Type 0
EndsAt most version Whole count rest = (count ≤ most) × (rest ≡ [])
EndsAt most version Full count rest = (count ≡ most) × (rest ≢ [])
EndsAt most version (Bad line reason) count rest = (count < most) × (line ≡ count + 3) × HasBadLine version rest reason

ends_at : (most version : ℕ) (ending : Ending) (events : List Event) (rest : List ℕ) → EndsWithin most version ending events rest → EndsAt most version ending (length events) rest
ends_at most version Whole events rest h = h
ends_at most version Full events rest h = h
ends_at most version (Bad line reason) events rest h = h

at_most : (most version : ℕ) (ending : Ending) (count : ℕ) (rest : List ℕ) → EndsAt most version ending count rest → count ≤ most
at_most most version Whole count rest h = h.0
at_most most version Full count rest h = omega (arith, h.0)
at_most most version (Bad line reason) count rest h = omega (arith, h.0)

nothing_first : (line bytes : List ℕ) → IsFirstLine line bytes → bytes ≢ []
nothing_first line bytes first e = not_empty line first.2.0 (sym first.2.1 ∙ e)

bad_isn't_empty : (version : ℕ) (rest : List ℕ) (reason : Reason) → HasBadLine version rest reason → rest ≢ []
bad_isn't_empty version rest reason (inl h) = h.1
bad_isn't_empty version rest reason (inr h) = nothing_first h.0 rest h.1

-- of two first lines both are one
same_lines : (bytes one other : List ℕ) → IsFirstLine one bytes → IsFirstLine other bytes → one ≡ other
same_lines bytes one other h k = (same_first bytes one other k.2.0 h k.0 k.2.1).0

same_bad_line : (version : ℕ) (rest : List ℕ) (one other : Reason) → HasBadLine version rest one → HasBadLine version rest other → one ≡ other
same_bad_line version rest one other (inl h) (inl k) = h.0 ∙ sym k.0
same_bad_line version rest one other (inl h) (inr k) = absurd (h.2 k.0 k.1)
same_bad_line version rest one other (inr h) (inl k) = absurd (k.2 h.0 h.1)
same_bad_line version rest one other (inr h) (inr k) = same_reason version k.0 one other (subst (λ (l : List ℕ). HasReason version l one) (same_lines rest h.0 k.0 h.1 k.1) h.2) k.2

same_ending : (most version : ℕ) (one other : Ending) (count : ℕ) (rest : List ℕ) → EndsAt most version one count rest → EndsAt most version other count rest → one ≡ other
same_ending most version Whole Whole count rest h k = refl
same_ending most version Whole Full count rest h k = absurd (k.1 h.1)
same_ending most version Whole (Bad line reason) count rest h k = absurd (bad_isn't_empty version rest reason k.2 h.1)
same_ending most version Full Whole count rest h k = absurd (h.1 k.1)
same_ending most version Full Full count rest h k = refl
same_ending most version Full (Bad line reason) count rest h k = absurd (omega (arith, h.0, k.0))
same_ending most version (Bad line reason) Whole count rest h k = absurd (bad_isn't_empty version rest reason h.2 k.1)
same_ending most version (Bad line reason) Full count rest h k = absurd (omega (arith, h.0, k.0))
same_ending most version (Bad line reason) (Bad line' reason') count rest h k =
    ap (λ l. Bad l reason) (h.1 ∙ sym k.1) ∙ ap (λ r. Bad line' r) (same_bad_line version rest reason reason' h.2 k.2)

-- the line of an event in range is a first line
event_line : (version : ℕ) (event : Event) (rest more : List ℕ) → IsReadable version event → rest ≡ line_text (event_text version event) ++ more → IsFirstLine (event_text version event) rest
event_line version event rest more is e = (event_no_lf version event, event_short version event is, (more, e))

-- it isn't malformed
event_isn't_bad : (version : ℕ) (event : Event) (rest more : List ℕ) (reason : Reason) → IsReadable version event → rest ≡ line_text (event_text version event) ++ more → HasBadLine version rest reason → ⊥
event_isn't_bad version event rest more reason is e (inl h) = h.2 (event_text version event) (event_line version event rest more is e)
event_isn't_bad version event rest more reason is e (inr h) =
    event_has_none version h.0 reason event h.2 is (same_lines rest (event_text version event) h.0 (event_line version event rest more is e) h.1)

-- where bytes end no event goes on, within the most of a trace
no_more : (most version : ℕ) (ending : Ending) (count : ℕ) (rest more : List ℕ) (event : Event) → EndsAt most version ending count rest → count < most → IsReadable version event
    → rest ≡ line_text (event_text version event) ++ more → ⊥
no_more most version Whole count rest more event h lt is e = not_empty (event_text version event) more (sym e ∙ h.1)
no_more most version Full count rest more event h lt is e = omega (arith, h.0)
no_more most version (Bad line reason) count rest more event h lt is e = event_isn't_bad version event rest more reason is e h.2

same_event : (version : ℕ) (one other : Event) → IsReadable version one → IsReadable version other → event_text version one ≡ event_text version other → one ≡ other
same_event version one other h k same = some_is one other (sym (event_again version one h) ∙ ap (event_at version) same ∙ event_again version other k)

regroup : (version : ℕ) (event : Event) (events : List Event) (rest : List ℕ)
    → events_text version (event ∷ events) ++ rest ≡ line_text (event_text version event) ++ (events_text version events ++ rest)
regroup version event events rest = append_assoc (line_text (event_text version event)) (events_text version events) rest

same_events : (most version before : ℕ) (one other : List Event) (end end' : Ending) (rest rest' : List ℕ) → AllByRecursion (IsReadable version) one → AllByRecursion (IsReadable version) other
    → events_text version one ++ rest ≡ events_text version other ++ rest' → EndsAt most version end (before + length one) rest → EndsAt most version end' (before + length other) rest'
    → (one ≡ other) × (rest ≡ rest')
same_events most version before [] [] end end' rest rest' h k e p q = (refl, e)
same_events most version before [] (event ∷ other) end end' rest rest' h k e p q =
    absurd (no_more most version end (before + 0) rest (events_text version other ++ rest') event p (omega (arith, at_most most version end' (before + suc (length other)) rest' q)) k.0 (e ∙ regroup version event other rest'))
same_events most version before (event ∷ one) [] end end' rest rest' h k e p q =
    absurd (no_more most version end' (before + 0) rest' (events_text version one ++ rest) event q (omega (arith, at_most most version end (before + suc (length one)) rest p)) h.0 (sym e ∙ regroup version event one rest))
same_events most version before (first ∷ one) (second ∷ other) end end' rest rest' h k e p q =
    let text = event_text version in
    let lines : line_text (text first) ++ (events_text version one ++ rest) ≡ line_text (text second) ++ (events_text version other ++ rest') = sym (regroup version first one rest) ∙ e ∙ regroup version second other rest' in
    let split = first_lf (text first) (text second) (events_text version one ++ rest) (events_text version other ++ rest') (event_no_lf version first) (event_no_lf version second) lines in
    let event = same_event version first second h.0 k.0 split.0 in
    let count : before + suc (length one) ≡ suc before + length one = omega arith in
    let count' : before + suc (length other) ≡ suc before + length other = omega arith in
    let tail = same_events most version (suc before) one other end end' rest rest' h.1 k.1 split.1
    (subst (λ c. EndsAt most version end c rest) count p) (subst (λ c. EndsAt most version end' c rest') count' q) in
    (ap (λ x. x ∷ one) event ∙ ap (λ (l : List Event). second ∷ l) tail.0, tail.1)

-- the header and the bytes behind it
same_headers : (one other : Header) (rest rest' : List ℕ) → IsReadableHeader one → IsReadableHeader other → header_text one ++ rest ≡ header_text other ++ rest' → (one ≡ other) × (rest ≡ rest')
same_headers one other rest rest' h k e =
    let lines = header_lines (header_text one ++ rest) rest one refl in
    let lines' = header_lines (header_text one ++ rest) rest' other e in
    let behind = behind_version one.version other.version (line_text (ports_text one) ++ rest) (line_text (ports_text other) ++ rest') (sym lines ∙ lines') in
    let split = first_lf (ports_text one) (ports_text other) rest rest' (ports_line one) (ports_line other) behind.1 in
    let version = same_version one.version other.version h.version k.version behind.0 in
    (same_header one other version h k (append_cancel_left (codes "PORTS ") (port_letters one) (port_letters other) split.0), split.1)

behind_header : (bytes : List ℕ) (header : Header) (events : List Event) (rest : List ℕ) → bytes ≡ trace_text header events ++ rest
    → bytes ≡ header_text header ++ (events_text header.version events ++ rest)
behind_header bytes header events rest e = e ∙ append_assoc (header_text header) (events_text header.version events) rest

pub one_reading : {most : ℕ} (bytes : List ℕ) (one other : Header) (events events' : List Event) (end end' : Ending) → ReadsWithin most bytes one events end → ReadsWithin most bytes other events' end'
    → (one ≡ other) × (events ≡ events') × (end ≡ end')
one_reading {most} bytes one other events events' end end' p q =
    let version = one.version in
    let rest = p.text.0 in
    let rest' = q.text.0 in
    let front = behind_header bytes one events rest p.text.1 in
    let front' = behind_header bytes other events' rest' q.text.1 in
    let header = same_headers one other (events_text version events ++ rest) (events_text other.version events' ++ rest') p.header_is_readable q.header_is_readable (sym front ∙ front') in
    let back : other.version ≡ version = sym (ap (λ (h : Header). h.version) header.0) in
    let ends = ends_at most version end events rest p.text.2 in
    let ends' = subst (λ v. EndsAt most v end' (length events') rest') back (ends_at most other.version end' events' rest' q.text.2) in
    let readable' = subst (λ v. AllByRecursion (IsReadable v) events') back q.events_are_readable in
    let behind = subst (λ v. events_text version events ++ rest ≡ events_text v events' ++ rest') back header.1 in
    let zero_more : (l : List Event) → length l ≡ 0 + length l = λ l. omega arith in
    let same = same_events most version 0 events events' end end' rest rest' p.events_are_readable readable' behind
    (subst (λ c. EndsAt most version end c rest) (zero_more events) ends) (subst (λ c. EndsAt most version end' c rest') (zero_more events') ends') in
    let moved : EndsAt most version end' (length events) rest = rw (same.0, same.1) ends' in
    (header.0, same.0, same_ending most version end end' (length events) rest ends moved)

version_first : (version : ℕ) (bytes rest : List ℕ) → bytes ≡ line_text (version_text version) ++ rest → IsFirstLine (version_text version) bytes
version_first version bytes rest e = (version_line version, version_short version, (rest, e))

-- a first line that is right isn't malformed
right_isn't_bad : (IsRight : List ℕ → Type 0) (line bytes : List ℕ) (reason : Reason) → IsRight line → IsFirstLine line bytes → HasBadHeaderLine IsRight bytes reason → ⊥
right_isn't_bad IsRight line bytes reason is first (inl h) = h.1 line first
right_isn't_bad IsRight line bytes reason is first (inr h) = h.1.2 (subst IsRight (same_lines bytes line h.1.0 first h.1.1) is)

-- the first header line of a version isn't malformed
version_isn't_bad : (version : ℕ) (bytes rest : List ℕ) (reason : Reason) → IsVersion version → bytes ≡ line_text (version_text version) ++ rest → HasBadHeaderLine IsVersionLine bytes reason → ⊥
version_isn't_bad version bytes rest reason is e bad =
    right_isn't_bad IsVersionLine (version_text version) bytes reason (version, is, refl) (version_first version bytes rest e) bad

header_isn't_bad : (bytes rest : List ℕ) (header : Header) (number : ℕ) (reason : Reason) → IsReadableHeader header
    → bytes ≡ line_text (version_text header.version) ++ (line_text (ports_text header) ++ rest) → HasBadHeader bytes number reason → ⊥
header_isn't_bad bytes rest header number reason is e (inl h) =
    version_isn't_bad header.version bytes (line_text (ports_text header) ++ rest) reason is.version e h.1
header_isn't_bad bytes rest header number reason is e (inr h) =
    let bad = h.1 in
    let behind = behind_version bad.0 header.version bad.1 (line_text (ports_text header) ++ rest) (sym bad.3 ∙ e) in
    let version : header.version ≡ bad.0 = sym (same_version bad.0 header.version bad.2 is.version behind.0) in
    right_isn't_bad (IsPortsLine bad.0) (ports_text header) bad.1 reason (header, is, version, refl) (ports_line header, ports_short header is, (rest, behind.1)) bad.4

pub no_bad_header : {most : ℕ} (bytes : List ℕ) (header : Header) (events : List Event) (end : Ending) (number : ℕ) (reason : Reason) → ReadsWithin most bytes header events end → HasBadHeader bytes number reason → ⊥
no_bad_header bytes header events end number reason p bad =
    let rest = events_text header.version events ++ p.text.0 in
    header_isn't_bad bytes rest header number reason p.header_is_readable (header_lines bytes rest header (behind_header bytes header events p.text.0 p.text.1)) bad

same_bad_header_line : (IsRight : List ℕ → Type 0) (bytes : List ℕ) (one other : Reason) → HasBadHeaderLine IsRight bytes one → HasBadHeaderLine IsRight bytes other → one ≡ other
same_bad_header_line IsRight bytes one other (inl h) (inl k) = h.0 ∙ sym k.0
same_bad_header_line IsRight bytes one other (inl h) (inr k) = absurd (h.1 k.1.0 k.1.1)
same_bad_header_line IsRight bytes one other (inr h) (inl k) = absurd (k.1 h.1.0 h.1.1)
same_bad_header_line IsRight bytes one other (inr h) (inr k) = h.0 ∙ sym k.0

pub one_bad_header : (bytes : List ℕ) (number number' : ℕ) (one other : Reason) → HasBadHeader bytes number one → HasBadHeader bytes number' other → (number ≡ number') × (one ≡ other)
one_bad_header bytes number number' one other (inl h) (inl k) = (h.0 ∙ sym k.0, same_bad_header_line IsVersionLine bytes one other h.1 k.1)
one_bad_header bytes number number' one other (inl h) (inr k) = absurd (version_isn't_bad k.1.0 bytes k.1.1 one k.1.2 k.1.3 h.1)
one_bad_header bytes number number' one other (inr h) (inl k) = absurd (version_isn't_bad h.1.0 bytes h.1.1 other h.1.2 h.1.3 k.1)
one_bad_header bytes number number' one other (inr h) (inr k) =
    let bad = h.1 in
    let bad' = k.1 in
    let behind = behind_version bad.0 bad'.0 bad.1 bad'.1 (sym bad.3 ∙ bad'.3) in
    let version = same_version bad.0 bad'.0 bad.2 bad'.2 behind.0 in
    let moved = subst (λ v. HasBadHeaderLine (IsPortsLine v) bad'.1 one) version (subst (λ (l : List ℕ). HasBadHeaderLine (IsPortsLine bad.0) l one) behind.1 bad.4) in
    (h.0 ∙ sym k.0, same_bad_header_line (IsPortsLine bad'.0) bad'.1 one other moved bad'.4)
