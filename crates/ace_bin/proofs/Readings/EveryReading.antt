-- Every list of bytes reads as a binary trace in some way.
use Rattle.std.proofs.Common.{◌≡◌, ◌≢◌, ℕ, zero, suc, ◌+◌, ◌<◌, ◌≤◌, List, [], ◌∷◌, ◌++◌, length, drop, Option, Some, None, refl, sym, ap, subst, ◌∙◌, arith, append_assoc, inl, inr, ◌⊎◌}
use Rattle.std.specs.List.{AllByRecursion}
use Rattle.std.proofs.lemmas.Bool.{cases_lt}
use Rattle.std.proofs.lemmas.List.{take-append-drop, get_or-append-add}
use Rattle.ace_event.specs.declared.event.Event.{Event}
use Rattle.ace_event.specs.declared.header.Header.{Header}
use Rattle.ace_event.specs.Ports.{IsHeader}
use Rattle.ace_event.specs.Range.{InRange}
use Rattle.ace_bin.specs.declared.reason.BinReason.{BinReason}
use Rattle.ace_bin.specs.declared.reason.BinReason.TheVariants.{Z1, Z2}
use Rattle.ace_bin.specs.Binary.{header_bytes, events_bytes, binary_of}
use Rattle.ace_bin.specs.Records.{event_bytes}
use Rattle.ace_bin.specs.Reading.{AreBytes, header_at, HasBadHeader, record_reason, most_events, Ending, Whole, Full, Bad, ReadsBinary}
use Rattle.ace_bin.proofs.Headers.{header_is, right_or_not}
use Rattle.ace_bin.proofs.RecordBytes.{begins_with_record}

-- the bytes behind others are bytes
pub bytes_behind : (front rest : List ℕ) → AreBytes (front ++ rest) → AreBytes rest
bytes_behind front rest are i = subst (λ n. n < 256) (get_or-append-add front rest i 0) (are (length front + i))

-- how the events of a trace of a version end, where there is room for so many
abbrev pub Stops : ℕ → ℕ → ℕ → List ℕ → Type 0
Stops version room count rest =
    ((count ≤ room) × (rest ≡ [])) ⊎ (((count ≡ room) × (rest ≢ [])) ⊎ ((count < room) × ((reason : BinReason) × (record_reason version rest ≡ Some reason))))

one_more : (version room count : ℕ) (rest : List ℕ) → Stops version room count rest → Stops version (suc room) (suc count) rest
one_more version room count rest (inl h) = inl (omega (arith, h.0), h.1)
one_more version room count rest (inr (inl h)) = inr (inl (omega (arith, h.0), h.1))
one_more version room count rest (inr (inr h)) = inr (inr (omega (arith, h.0), h.1))

abbrev pub ReadsEvents : ℕ → ℕ → List ℕ → Type 0
ReadsEvents version room bytes =
    (events : List Event) × (rest : List ℕ) × AllByRecursion (InRange version) events × (bytes ≡ events_bytes events ++ rest) × Stops version room (length events) rest

more_events : (version room : ℕ) (bytes more : List ℕ) (event : Event) → InRange version event → bytes ≡ event_bytes event ++ more
    → ReadsEvents version room more → ReadsEvents version (suc room) bytes
more_events version room bytes more event is e r = (
  event ∷ r.0,
  r.1,
  (is, r.2),
  e ∙ ap (λ (l : List ℕ). event_bytes event ++ l) r.3 ∙ sym (append_assoc (event_bytes event) (events_bytes r.0) r.1),
  one_more version room (length r.0) r.1 r.4,
)

stopped : (version room : ℕ) (bytes : List ℕ) → Stops version room 0 bytes → ReadsEvents version room bytes
stopped version room bytes stops = ([], bytes, tt, refl, stops)

none_or_some : (found : Option BinReason) → (found ≡ None) ⊎ ((reason : BinReason) × (found ≡ Some reason))
none_or_some None = inl refl
none_or_some (Some reason) = inr (reason, refl)

pub events_of : (version room : ℕ) (bytes : List ℕ) → AreBytes bytes → ReadsEvents version room bytes
events_of version room [] are = stopped version room [] (inl (omega arith, refl))
events_of version zero (x ∷ xs) are = stopped version zero (x ∷ xs) (inr (inl (refl, λ e. absurd cc)))
events_of version (suc room) (x ∷ xs) are =
    elim (none_or_some (record_reason version (x ∷ xs))) [
      | inr why ↦ stopped version (suc room) (x ∷ xs) (inr (inr (omega arith, why)))
      | inl none ↦
          let begins = begins_with_record version x xs are none in
          more_events version room (x ∷ xs) begins.1 begins.0 begins.2 begins.3
          (events_of version room begins.1 (bytes_behind (event_bytes begins.0) begins.1 (subst AreBytes begins.3 are)))
    ]

abbrev ReadsBehind : List ℕ → Type 0
ReadsBehind bytes = (header : Header) × (events : List Event) × (end : Ending) × ReadsBinary bytes header events end

behind : (room : ℕ) → room ≡ most_events → (bytes rest : List ℕ) (header : Header) → IsHeader header → bytes ≡ header_bytes header ++ rest
    → ReadsEvents header.version room rest → ReadsBehind bytes
behind room is bytes rest header right e r =
    let parts : bytes ≡ binary_of header r.0 ++ r.1 =
    e ∙ ap (λ (l : List ℕ). header_bytes header ++ l) r.3 ∙ sym (append_assoc (header_bytes header) (events_bytes r.0) r.1) in
    elim r.4 [
      | inl h ↦ (header, r.0, Whole, record { header_is_right = right; events_in_range = r.2; parts = (r.1, parts, (omega (arith, h.0, is), h.1)) })
      | inr q ↦
          elim q [
            | inl h ↦ (header, r.0, Full, record { header_is_right = right; events_in_range = r.2; parts = (r.1, parts, (h.0 ∙ is, h.1)) })
            | inr h ↦ (
              header,
              r.0,
              Bad (length (binary_of header r.0)) h.1.0,
              record { header_is_right = right; events_in_range = r.2; parts = (r.1, parts, (omega (arith, h.0, is), refl, h.1.1)) },
            )
          ]
    ]

abbrev HasSomeBadHeader : List ℕ → Type 0
HasSomeBadHeader bytes = (byte : ℕ) × (reason : BinReason) × HasBadHeader bytes byte reason

header_or_not : (bytes : List ℕ) → AreBytes bytes → HasSomeBadHeader bytes ⊎ ((header : Header) × (more : List ℕ) × IsHeader header × (bytes ≡ header_bytes header ++ more))
header_or_not bytes are =
    elim (cases_lt (length bytes) 10) [
      | inl short ↦ inl (0, Z1, (refl, short))
      | inr long ↦
          elim (right_or_not bytes) [
            | inr not ↦ inl (0, Z2, (refl, long, not))
            | inl right ↦
                inr (
                  header_at bytes,
                  drop 10 bytes,
                  right.fits,
                  sym (take-append-drop 10 bytes) ∙ ap (λ (l : List ℕ). l ++ drop 10 bytes) (header_is bytes are long right),
                )
          ]
    ]

pub some_reading : (bytes : List ℕ) → AreBytes bytes → HasSomeBadHeader bytes ⊎ ReadsBehind bytes
some_reading bytes are =
    elim (header_or_not bytes are) [
      | inl bad ↦ inl bad
      | inr h ↦ inr (behind most_events refl bytes h.1 h.0 h.2 h.3 (events_of h.0.version most_events h.1 (bytes_behind (header_bytes h.0) h.1 (subst AreBytes h.3 are))))
    ]
