-- Traces that were all accepted.
use Rattle.std.proofs.Common.{◌≡◌, ◌≢◌, ◌==◌, ◌||◌, ℕ, Bool, true, false, List, [], ◌∷◌, Option, None, Some, IfSome, inl, inr, refl, subst, sym, ◌∙◌}
use Rattle.std.proofs.lemmas.Bool.{cases_Bool, eqb-true}
use Rattle.arrayvec.specs.ArrayString.{ArrayString}
use Rattle.ace_side.specs.declared.line.SideEnd.{SideEnd}
use Rattle.ace_side.specs.declared.line.SideEnd.TheVariants.{End, Broken, Cut}
use Rattle.ace_verdict.specs.Ended.{LeavesOutstanding}
use Rattle.ace_verdict.specs.Verdict.{IsVerdictWithin, ReadsSoundWithin}
use Rattle.ace_verdict.specs.declared.limits.Limits.{Limits}
use Rattle.ace_verdict.specs.declared.verdict.Verdict.TheVariants.{Accepted, Refused, Malformed, ReadFault, LimitEvents, LimitLines, NoMemory}
use Rattle.ace_tool.specs.Asked.{Options, is_input}
use Rattle.ace_tool.specs.Checked.{AreRight, AreSound, Checked, IsJudged, IsNext, IsNextBy, IsRead, IsSoundBy, IsSoundIn, IsWhole, IsWholeBy, accepted_of, statuses_of}
use Rattle.ace_tool.specs.Gaps.{gap_at, gap_without, judged, report_by}
use Rattle.ace_tool.specs.Held.{Held, told_of}
use Rattle.ace_tool.specs.Reports.{first_of, status_of, status_of_all}
use Rattle.ace_tool.specs.Seen.{occurs}
use Rattle.ace_tool.specs.declared.check_options.EndRules.{EndRules}
use Rattle.ace_tool.specs.declared.gap.Gap.{Gap}
use Rattle.ace_tool.specs.declared.report.Accepted.{Accepted as AcceptedTrace}
use Rattle.ace_tool.specs.declared.report.Report.{Report}
use Rattle.ace_tool.specs.declared.report.Report.TheVariants.{Told, Shut, Compressed, Unfinished, BadSide}
use Rattle.ace_tool.specs.declared.side.SideFault.TheVariants as fault
use Rattle.ace_tool.specs.declared.side.SideFound.{SideFound}
use Rattle.ace_tool.specs.declared.side.SideFound.TheVariants.{Absent, Ends, Faulty}

-- what acceptance promises, of any bytes
abbrev pub Promise : Limits → Type 0
Promise limits = (bytes : List ℕ) (events : ℕ) → IsVerdictWithin limits bytes (Accepted events) → ReadsSoundWithin limits.events bytes

-- the first of some statuses doesn't occur, nor any other of them
peel : (k : ℕ) (order xs : List ℕ) → k ≢ 0 → first_of (k ∷ order) xs ≡ 0 → (occurs k xs ≡ false) × (first_of order xs ≡ 0)
peel k order xs some e = elim (cases_Bool (occurs k xs)) [
  | inl t ↦ absurd (some (rw t at e))
  | inr f ↦ (f, rw f at e)
]

-- none of those that are no acceptance occurs
pub record AreAccepted (xs : List ℕ) : Type 0 where
  pub refused : occurs 1 xs ≡ false
  pub malformed : occurs 3 xs ≡ false
  pub broken_off : occurs 8 xs ≡ false
  pub limited : occurs 6 xs ≡ false
  pub unreadable : occurs 4 xs ≡ false
  pub no_memory : occurs 7 xs ≡ false

all_accepted : (xs : List ℕ) → status_of_all xs ≡ 0 → AreAccepted xs
all_accepted [] e = absurd (cc)
all_accepted (x ∷ xs) e =
    let one = peel 1 (3 ∷ 8 ∷ 6 ∷ 4 ∷ 7 ∷ []) (x ∷ xs) (λ z. absurd (cc)) e in
    let three = peel 3 (8 ∷ 6 ∷ 4 ∷ 7 ∷ []) (x ∷ xs) (λ z. absurd (cc)) one.1 in
    let eight = peel 8 (6 ∷ 4 ∷ 7 ∷ []) (x ∷ xs) (λ z. absurd (cc)) three.1 in
    let six = peel 6 (4 ∷ 7 ∷ []) (x ∷ xs) (λ z. absurd (cc)) eight.1 in
    let four = peel 4 (7 ∷ []) (x ∷ xs) (λ z. absurd (cc)) six.1 in
    let seven = peel 7 [] (x ∷ xs) (λ z. absurd (cc)) four.1 in
    record { refused = one.0; malformed = three.0; broken_off = eight.0; limited = six.0; unreadable = four.0; no_memory = seven.0 }

or_right : (a b : Bool) → (a || b) ≡ false → b ≡ false
or_right true b e = absurd (cc)
or_right false b e = e

-- a test that holds doesn't fail
is_none : true ≡ false → ⊥
is_none e = absurd (cc)

-- the same of those before the newest
before : (x : ℕ) (xs : List ℕ) → AreAccepted (x ∷ xs) → AreAccepted xs
before x xs a = record {
  refused = or_right (x == 1) _ a.refused;
  malformed = or_right (x == 3) _ a.malformed;
  broken_off = or_right (x == 8) _ a.broken_off;
  limited = or_right (x == 6) _ a.limited;
  unreadable = or_right (x == 4) _ a.unreadable;
  no_memory = or_right (x == 7) _ a.no_memory;
}

-- what is told then is that the trace is accepted
tells_so : (report : Report) (xs : List ℕ) → AreAccepted (status_of report ∷ xs)
    → (events : ℕ) × (outstanding : ℕ) × (report ≡ Told (Accepted events) outstanding)
tells_so (Told (Accepted events) outstanding) xs a = (events, outstanding, refl)
tells_so (Told (Refused index rule) outstanding) xs a = absurd (is_none a.refused)
tells_so (Told (Malformed line reason) outstanding) xs a = absurd (is_none a.malformed)
tells_so (Told ReadFault outstanding) xs a = absurd (is_none a.unreadable)
tells_so (Told LimitEvents outstanding) xs a = absurd (is_none a.limited)
tells_so (Told LimitLines outstanding) xs a = absurd (is_none a.limited)
tells_so (Told NoMemory outstanding) xs a = absurd (is_none a.no_memory)
tells_so (Shut error) xs a = absurd (is_none a.unreadable)
tells_so (Compressed packing) xs a = absurd (is_none a.unreadable)
tells_so (Unfinished events gap) xs a = absurd (is_none a.broken_off)
tells_so (BadSide (fault.Malformed line reason)) xs a = absurd (is_none a.malformed)
tells_so (BadSide fault.ReadFault) xs a = absurd (is_none a.unreadable)
tells_so (BadSide fault.NoMemory) xs a = absurd (is_none a.no_memory)
tells_so (BadSide (fault.Shut error)) xs a = absurd (is_none a.unreadable)

-- so it has no gap, and nothing is outstanding where nothing may be
no_gap : (ends : EndRules) (one : AcceptedTrace) (gap : Option Gap) (events outstanding : ℕ)
    → report_by ends one gap ≡ Told (Accepted events) outstanding → (gap ≡ None) × (ends.drained ≡ true → one.outstanding ≡ 0)
no_gap ends one (Some gap) events outstanding e = absurd (cc)
no_gap ends one None events outstanding e = (
  refl,
  λ drained. elim (cases_Bool (one.outstanding == 0)) [
    | inl none ↦ eqb-true one.outstanding 0 none
    | inr some ↦ let bad = rw (drained, some) at e in absurd (cc)
  ],
)

-- by its side file it is whole
whole_end : (ends : EndRules) (n : ℕ) (end : Option SideEnd) (last : Option ArrayString) → gap_at ends n end last ≡ None
    → IsWholeBy ends n (Ends end last)
whole_end ends n None last e = absurd (cc)
whole_end ends n (Some (End count)) last e = elim (cases_Bool (count == n)) [
  | inl t ↦ eqb-true count n t
  | inr f ↦ let bad = rw f at e in absurd (cc)
]
whole_end ends n (Some (Broken count)) last e = absurd (cc)
whole_end ends n (Some (Cut count)) last e = elim (cases_Bool ends.allow_cut) [
  | inl allowed ↦ (
    allowed,
    elim (cases_Bool (count == n)) [
      | inl t ↦ eqb-true count n t
      | inr f ↦ let bad = rw (allowed, f) at e in absurd (cc)
    ],
  )
  | inr f ↦ let bad = rw f at e in absurd (cc)
]

whole_without : (ends : EndRules) (n : ℕ) → gap_without ends ≡ None → IsWholeBy ends n Absent
whole_without ends n e = elim (cases_Bool ends.require_end) [
  | inl t ↦ let bad = rw t at e in absurd (cc)
  | inr f ↦ f
]

whole_by : (ends : EndRules) (one : AcceptedTrace) (events outstanding : ℕ) (found : SideFound)
    → judged ends one found ≡ Told (Accepted events) outstanding → IsWholeBy ends one.events found × (ends.drained ≡ true → one.outstanding ≡ 0)
whole_by ends one events outstanding Absent e =
    let none = no_gap ends one (gap_without ends) events outstanding e in (whole_without ends one.events none.0, none.1)
whole_by ends one events outstanding (Ends end last) e =
    let none = no_gap ends one (gap_at ends one.events end last) events outstanding e in (whole_end ends one.events end last none.0, none.1)
whole_by ends one events outstanding (Faulty fault) e = absurd (cc)

-- and alone it is accepted
alone : (options : Options) (holds : List ℕ → Held) (name : List ℕ) (told report : Report) (events outstanding : ℕ)
    → IsJudged options holds name (accepted_of told) told report → report ≡ Told (Accepted events) outstanding
    → ((n : ℕ) × (left : ℕ) × (told ≡ Told (Accepted n) left) × (options.ends.drained ≡ true → left ≡ 0)) × IsWhole options holds name
alone options holds name (Told (Accepted n) left) report events outstanding (found, is, judged) e =
    let whole = whole_by options.ends (record { events = n; outstanding = left }) events outstanding found (sym judged ∙ e) in
    ((n, left, refl, whole.1), (n, found, is, whole.0))
alone options holds name (Told (Refused index rule) left) report events outstanding same e = absurd (cc)
alone options holds name (Told (Malformed line reason) left) report events outstanding same e = absurd (cc)
alone options holds name (Told ReadFault left) report events outstanding same e = absurd (cc)
alone options holds name (Told LimitEvents left) report events outstanding same e = absurd (cc)
alone options holds name (Told LimitLines left) report events outstanding same e = absurd (cc)
alone options holds name (Told NoMemory left) report events outstanding same e = absurd (cc)
alone options holds name (Shut error) report events outstanding same e = absurd (cc)
alone options holds name (Compressed packing) report events outstanding same e = absurd (cc)
alone options holds name (Unfinished n gap) report events outstanding same e = absurd (cc)
alone options holds name (BadSide fault) report events outstanding same e = absurd (cc)

-- what acceptance promises of bytes that may not be told
told_sound : (options : Options) → Promise options.limits → (told : Option (List ℕ)) (events left : ℕ) → (options.ends.drained ≡ true → left ≡ 0)
    → IfSome told (λ bytes. IsRead options.limits bytes (Told (Accepted events) left)) → IfSome told (IsSoundIn options)
told_sound options promise None events left none read = tt
told_sound options promise (Some bytes) events left none (is, leaves, due) =
    (promise bytes events is, λ drained. subst (LeavesOutstanding bytes) (none drained) leaves)

-- what was told of bytes that are accepted
reads_sound : (options : Options) → Promise options.limits → (holds : List ℕ → Held) (input between left : Option (List ℕ)) (past : List Checked)
    (name : List ℕ) (n outstanding : ℕ) (of_input : Bool) → AreRight options holds input past between → (options.ends.drained ≡ true → outstanding ≡ 0)
    → IsNextBy options.limits of_input (told_of (holds name)) between (Told (Accepted n) outstanding) left
    → IsSoundBy options of_input (told_of (holds name))
    ((b : Option (List ℕ)) × AreRight options holds input past b × IfSome b (IsSoundIn options))
reads_sound options promise holds input between left past name n outstanding true right none next =
    (between, right, told_sound options promise between n outstanding none next)
reads_sound options promise holds input between left past name n outstanding false right none next =
    told_sound options promise (told_of (holds name)) n outstanding none next.0

next_sound : (options : Options) → Promise options.limits → (holds : List ℕ → Held) (input between left : Option (List ℕ)) (past : List Checked)
    (c : Checked) (xs : List ℕ) → AreAccepted (status_of c.report ∷ xs) → AreRight options holds input past between
    → IsNext options holds c.name between c.report left
    → IsWhole options holds c.name × IsSoundBy options (is_input c.name) (told_of (holds c.name))
    ((b : Option (List ℕ)) × AreRight options holds input past b × IfSome b (IsSoundIn options))
next_sound options promise holds input between left past c xs a right next =
    let (events, outstanding, tells) = tells_so c.report xs a in
    let ((n, rest, same, none), whole) = alone options holds c.name next.told c.report events outstanding next.judged tells in (
      whole,
      reads_sound options promise holds input between left past c.name n rest (is_input c.name) right none
          (subst (λ t. IsNextBy options.limits (is_input c.name) (told_of (holds c.name)) between t left) same next.alone),
    )

pub all_sound : (options : Options) → Promise options.limits → (holds : List ℕ → Held) (input left : Option (List ℕ)) (checked : List Checked)
    → AreRight options holds input checked left → AreAccepted (statuses_of checked) → AreSound options holds input checked
all_sound options promise holds input left [] right a = tt
all_sound options promise holds input left (c ∷ past) (between, right, next) a =
    let now = next_sound options promise holds input between left past c (statuses_of past) a right next in
    (all_sound options promise holds input between past right (before _ _ a), now.0, now.1)

pub sound_where_accepted : (options : Options) → Promise options.limits → (holds : List ℕ → Held) (input left : Option (List ℕ))
    (checked : List Checked) → AreRight options holds input checked left → status_of_all (statuses_of checked) ≡ 0 → AreSound options holds input checked
sound_where_accepted options promise holds input left checked right e =
    all_sound options promise holds input left checked right (all_accepted _ e)
