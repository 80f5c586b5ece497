-- The record of an event, as it is written and read.
use Rattle.std.proofs.Common.{◌≡◌, ◌≢◌, ℕ, suc, ◌+◌, ◌-◌, ◌<◌, ◌≤◌, ◌⊎◌, Bool, true, false, cond, ltb, List, [], ◌∷◌, ◌++◌, length, get_or, take, drop, Option, Some, None, Result, Ok, Err, inl, inr, refl, sym, ap, subst, ◌∙◌, arith, length-append, add-one, lt-ltb, le-ltb, le-leb, ltb-true, ltb-false}
use Rattle.std.proofs.lemmas.Bool.{and_left, and_right, cases_Bool}
use Rattle.std.proofs.lemmas.List.{append_cancel_left, take-append-drop, length-take, take_rest}
use Rattle.ace_event.specs.declared.event.Event.{Event}
use Rattle.ace_event.specs.Range.{InRange}
use Rattle.ace_bin.specs.declared.reason.BinReason.{BinReason}
use Rattle.ace_bin.specs.declared.reason.BinReason.TheVariants.{Z1, Z3, Z4}
use Rattle.ace_bin.specs.Fields.{Field, size_of_all, all_fit, fields_bytes, numbers_at}
use Rattle.ace_bin.specs.Records.{fields_of, is_tag, tag_of, numbers_of, event_bytes}
use Rattle.ace_bin.specs.Reading.{AreBytes, fields_reason, record_reason}
use Rattle.ace_bin.specs.Errors.{IsReadAs}
use Rattle.ace_bin.proofs.FieldBytes.{fit_all, fit_length, fit_of, numbers_again, numbers_stay, fields_again}
use Rattle.ace_bin.proofs.Events.{same_event, in_range_fits, in_range_tag, some_tag, made, fields_short}

-- ---- the reason of a record

abbrev pub test : Bool → Bool → Bool → Option BinReason
test known short right = cond known (cond short (Some Z1) (cond right None (Some Z4))) (Some Z3)

test_none : (known short right : Bool) → test known short right ≡ None → (known ≡ true) × (short ≡ false) × (right ≡ true)
test_none true true right e = absurd cc
test_none true false true e = (refl, refl, refl)
test_none true false false e = absurd cc
test_none false short right e = absurd cc

test_cut : (known short right : Bool) → test known short right ≡ Some Z1 → (known ≡ true) × (short ≡ true)
test_cut true true right e = (refl, refl)
test_cut true false true e = absurd cc
test_cut true false false e = absurd cc
test_cut false short right e = absurd cc

test_is : (known short right : Bool) → known ≡ true → short ≡ false → right ≡ true → test known short right ≡ None
test_is known short right k s r = rw (k, s, r) refl

-- only one of three tests can turn with more bytes
test_stays : (known short short' right right' : Bool) (reason : BinReason) → test known short right ≡ Some reason → reason ≢ Z1
    → (short ≡ false → short' ≡ false) → (short ≡ false → right' ≡ right) → test known short' right' ≡ Some reason
test_stays true true short' right right' reason e other s r =
    let is : reason ≡ Z1 = cc in
    absurd (other is)
test_stays true false short' right right' reason e other s r = rw (s refl, r refl) e
test_stays false short short' right right' reason e other s r = e

-- too few bytes
pub cut_reason : (version : ℕ) (fields : List Field) (bytes : List ℕ) → length bytes < size_of_all fields → fields_reason version fields bytes ≡ Some Z1
unfolding fields_reason
cut_reason version fields bytes short = let is : ltb (length bytes) (size_of_all fields) ≡ true = lt-ltb _ _ short in rw is refl

-- a field out of range
pub range_reason : (version : ℕ) (fields : List Field) (bytes : List ℕ) → size_of_all fields ≤ length bytes → all_fit version fields (numbers_at fields 0 bytes) ≡ false
    → fields_reason version fields bytes ≡ Some Z4
unfolding fields_reason
range_reason version fields bytes long wrong =
    let is : ltb (length bytes) (size_of_all fields) ≡ false = le-ltb _ _ long in
    rw (is, wrong) refl

-- what the code finds where it reads no record
pub ruleset reasons = (cut_reason, range_reason, and_left, and_right)

-- a record in range has no reason
pub record_again : (version : ℕ) (event : Event) (rest : List ℕ) → InRange version event → record_reason version (event_bytes event ++ rest) ≡ None
unfolding fields_reason
record_again version event rest is =
    let fields : List Field = fields_of (tag_of event) in
    let fit = in_range_fits version event is in
    let text : List ℕ = fields_bytes fields (numbers_of event) in
    let long : ltb (length (text ++ rest)) (size_of_all fields) ≡ false =
    le-ltb _ _ (omega (arith, length-append text rest, fit_length version fields (numbers_of event) fit)) in
    let right : all_fit version fields (numbers_at fields 0 (text ++ rest)) ≡ true =
    ap (all_fit version fields) (numbers_again version fields (numbers_of event) rest fit) ∙ fit_all version fields (numbers_of event) fit in
    test_is (is_tag version (tag_of event)) (ltb (length (text ++ rest)) (size_of_all fields)) (all_fit version fields (numbers_at fields 0 (text ++ rest))) (in_range_tag version event is) long right

-- two records in range before some bytes are one
pub same_record : (version : ℕ) (one other : Event) (rest rest' : List ℕ) → InRange version one → InRange version other
    → event_bytes one ++ rest ≡ event_bytes other ++ rest' → (one ≡ other) × (rest ≡ rest')
same_record version one other rest rest' h k e =
    let text : List ℕ = fields_bytes (fields_of (tag_of one)) (numbers_of one) in
    let text' : List ℕ = fields_bytes (fields_of (tag_of other)) (numbers_of other) in
    let whole : tag_of one ∷ (text ++ rest) ≡ tag_of other ∷ (text' ++ rest') = e in
    let tags : tag_of one ≡ tag_of other = cc in
    let behind : text ++ rest ≡ text' ++ rest' = cc in
    let numbers : numbers_of one ≡ numbers_of other =
    sym (numbers_again version (fields_of (tag_of one)) (numbers_of one) rest (in_range_fits version one h))
    ∙ ap (numbers_at (fields_of (tag_of one)) 0) behind
    ∙ ap (λ tag. numbers_at (fields_of tag) 0 (text' ++ rest')) tags
    ∙ numbers_again version (fields_of (tag_of other)) (numbers_of other) rest' (in_range_fits version other k) in
    let event = same_event one other tags numbers in
    let texts : text ≡ text' = ap (λ event. fields_bytes (fields_of (tag_of event)) (numbers_of event)) event in
    (event, append_cancel_left text rest rest' (behind ∙ ap (λ (l : List ℕ). l ++ rest') (sym texts)))

-- bytes without a reason begin with the record of an event in range
abbrev pub BeginsWithRecord : ℕ → List ℕ → Type 0
BeginsWithRecord version bytes = (event : Event) × (rest : List ℕ) × InRange version event × (bytes ≡ event_bytes event ++ rest)

tail_bytes : (byte : ℕ) (bytes : List ℕ) → AreBytes (byte ∷ bytes) → AreBytes bytes
tail_bytes byte bytes are i = are (suc i)

pub begins_with_record : (version tag : ℕ) (bytes : List ℕ) → AreBytes (tag ∷ bytes) → record_reason version (tag ∷ bytes) ≡ None → BeginsWithRecord version (tag ∷ bytes)
unfolding fields_reason
begins_with_record version tag bytes are none =
    let fields : List Field = fields_of tag in
    let size : ℕ = size_of_all fields in
    let tests = test_none (is_tag version tag) (ltb (length bytes) size) (all_fit version fields (numbers_at fields 0 bytes)) none in
    let long : size ≤ length bytes = ltb-false (length bytes) size tests.1 in
    let behind = tail_bytes tag bytes are in
    let fit = fit_of version fields 0 bytes behind (omega (arith, long)) tests.2 in
    let event = made version tag bytes tests.0 fit in
    let text : fields_bytes (fields_of (tag_of event.0)) (numbers_of event.0) ≡ take size bytes =
    ap (λ t. fields_bytes (fields_of t) (numbers_of event.0)) event.2 ∙ ap (fields_bytes fields) event.3 ∙ fields_again fields 0 bytes behind (omega (arith, long)) in (
      event.0,
      drop size bytes,
      event.1,
      ap (λ (l : List ℕ). tag ∷ l) (sym (take-append-drop size bytes) ∙ ap (λ (l : List ℕ). l ++ drop size bytes) (sym text))
          ∙ ap (λ t. t ∷ (fields_bytes (fields_of (tag_of event.0)) (numbers_of event.0) ++ drop size bytes)) (sym event.2),
    )

-- ---- what the code reads

-- what was read behind a tag, by whether it is one of the version
abbrev pub IsReadBehind : ℕ → ℕ → List ℕ → Event → Result ℕ BinReason → Type 0
IsReadBehind version tag bytes event r =
    ((is_tag version tag ≡ true) × IsReadAs version tag bytes event r) ⊎ ((is_tag version tag ≡ false) × (r ≡ Err Z3))

-- of tags that both versions have, and of the others
pub behind_tag : (version tag : ℕ) (bytes : List ℕ) (event : Event) (r : Result ℕ BinReason)
    → (1 ≤ tag → tag ≤ 16 → IsReadAs version tag bytes event r)
    → (17 ≤ tag → is_tag version tag ≡ true → IsReadAs version tag bytes event r)
    → (tag ≡ 0 → r ≡ Err Z3) → (17 ≤ tag → is_tag version tag ≡ false → r ≡ Err Z3)
    → IsReadBehind version tag bytes event r
behind_tag version tag bytes event r among last zero none =
    elim (cases_Bool (ltb 0 tag)) [
      | inl some ↦ elim (cases_Bool (ltb 16 tag)) [
        | inl behind ↦ elim (cases_Bool (is_tag version tag)) [
          | inl known ↦ inl (known, last (omega (arith, ltb-true 16 tag behind)) known)
          | inr other ↦ inr (other, none (omega (arith, ltb-true 16 tag behind)) other)
        ]
        | inr few ↦ inl (
          some_tag version tag (le-leb 1 tag (omega (arith, ltb-true 0 tag some))) (le-leb tag 16 (omega (arith, ltb-false 16 tag few))),
          among (omega (arith, ltb-true 0 tag some)) (omega (arith, ltb-false 16 tag few)),
        )
      ]
      | inr least ↦ let is : tag ≡ 0 = omega (arith, ltb-false 0 tag least) in
          inr (subst (λ t. is_tag version t ≡ false) (sym is) refl, zero is)
    ]

-- a record that was read
pub record_is : (version tag : ℕ) (bytes : List ℕ) (event : Event) (size : ℕ) → AreBytes bytes → IsReadAs version tag bytes event (Ok size)
    → (size + 1 ≤ length (tag ∷ bytes)) × InRange version event × (take (size + 1) (tag ∷ bytes) ≡ event_bytes event)
record_is version tag bytes event size are h =
    let fields : List Field = fields_of tag in
    let text : fields_bytes (fields_of (tag_of event)) (numbers_of event) ≡ take (size_of_all fields) bytes =
    ap (λ t. fields_bytes (fields_of t) (numbers_of event)) h.3 ∙ ap (fields_bytes fields) h.4 ∙ fields_again fields 0 bytes are (omega (arith, h.1)) in (
      omega (arith, h.0, h.1),
      h.2,
      ap (λ n. take n (tag ∷ bytes)) (add-one size)
          ∙ ap (λ n. tag ∷ take n bytes) h.0
          ∙ ap (λ (l : List ℕ). tag ∷ l) (sym text)
          ∙ ap (λ t. t ∷ fields_bytes (fields_of (tag_of event)) (numbers_of event)) (sym h.3),
    )

-- bytes that end within a record are fewer than those of the longest record
pub cut_is_short : (version : ℕ) (bytes : List ℕ) → record_reason version bytes ≡ Some Z1 → length bytes < 79
unfolding fields_reason
cut_is_short version [] cut = omega arith
cut_is_short version (tag ∷ bytes) cut =
    let tests = test_cut (is_tag version tag) (ltb (length bytes) (size_of_all (fields_of tag))) (all_fit version (fields_of tag) (numbers_at (fields_of tag) 0 bytes)) cut in
    omega (arith, ltb-true _ _ tests.1, fields_short tag)

-- a malformed record stays so, whatever comes behind it
pub malformed_stays : (version : ℕ) (bytes rest : List ℕ) (reason : BinReason) → record_reason version bytes ≡ Some reason → reason ≢ Z1 → record_reason version (bytes ++ rest) ≡ Some reason
unfolding fields_reason
malformed_stays version [] rest reason h other = absurd cc
malformed_stays version (tag ∷ bytes) rest reason h other =
    let fields : List Field = fields_of tag in
    test_stays (is_tag version tag) (ltb (length bytes) (size_of_all fields)) (ltb (length (bytes ++ rest)) (size_of_all fields))
    (all_fit version fields (numbers_at fields 0 bytes)) (all_fit version fields (numbers_at fields 0 (bytes ++ rest))) reason h other
    (λ long. le-ltb _ _ (omega (arith, ltb-false _ _ long, length-append bytes rest)))
    (λ long. ap (all_fit version fields) (numbers_stay fields 0 bytes rest (omega (arith, ltb-false _ _ long))))

-- how long the record of an event in range is
pub record_length : (version : ℕ) (event : Event) → InRange version event → length (event_bytes event) ≤ 79
record_length version event is =
    omega (arith, fit_length version (fields_of (tag_of event)) (numbers_of event) (in_range_fits version event is), fields_short (tag_of event))

-- the same of bytes that begin with the tag
pub record_in : (version : ℕ) (bytes : List ℕ) (event : Event) (size : ℕ) → AreBytes bytes → 1 ≤ length bytes
    → IsReadAs version (get_or bytes 0 0) (take (length bytes - 1) (drop 1 bytes)) event (Ok size)
    → (size + 1 ≤ length bytes) × InRange version event × (take (size + 1) bytes ≡ event_bytes event)
record_in version [] event size are some h = absurd (omega (arith, some))
record_in version (tag ∷ bytes) event size are some h =
    record_is version tag bytes event size (tail_bytes tag bytes are)
    (subst (λ (l : List ℕ). IsReadAs version tag l event (Ok size)) (take_rest (tag ∷ bytes) 1) h)

-- the same of bytes that begin with a tag that may be none of the version
pub known_in : (version : ℕ) (bytes : List ℕ) (event : Event) (size : ℕ) → AreBytes bytes → 1 ≤ length bytes
    → IsReadBehind version (get_or bytes 0 0) (take (length bytes - 1) (drop 1 bytes)) event (Ok size)
    → (size + 1 ≤ length bytes) × InRange version event × (take (size + 1) bytes ≡ event_bytes event)
known_in version bytes event size are some h =
    elim h [
      | inl known ↦ record_in version bytes event size are some known.1
      | inr other ↦ absurd (let is : Ok size ≡ Err Z3 = other.1 in cc)
    ]

-- how many bytes a record that was read has
pub record_size : (version : ℕ) (bytes : List ℕ) (event : Event) (size : ℕ) → (size ≤ length bytes) × InRange version event × (take size bytes ≡ event_bytes event)
    → (size ≡ length (event_bytes event)) × (size ≤ 79)
record_size version bytes event size h =
    let len : size ≡ length (event_bytes event) = omega (arith, ap length h.2, length-take size bytes, h.0) in
    (len, omega (arith, len, record_length version event h.1))
