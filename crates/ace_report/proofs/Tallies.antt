-- The tallies of the lines, and the loads, with one more event.
use Rattle.std.proofs.Common.{◌≡◌, ◌<◌, ◌-◌, ◌^◌, ℕ, Bool, true, false, ◌||◌, nat_eq, if◌then◌else◌, List, [], ◌∷◌, length, Option, Some, None, option_map, unwrap_or, refl, sym, ap, ◌∙◌, arith, length-append, inl, inr, Result, Ok, Err, OnOk}
use Rattle.std.proofs.lemmas.Bool.{cases_Bool, and_parts, eqb-true}
use Rattle.std.specs.BTreeMap.{BTreeMap, get}
use Rattle.std.specs.Ordering.{nat_cmp}
use Rattle.ace_event.specs.declared.event.Event.{Event}
use Rattle.ace_event.specs.declared.event.Event.TheVariants.{Ar, Aw, R, M, D}
use Rattle.ace_event.specs.declared.event.Channel.{Channel}
use Rattle.ace_event.specs.declared.event.Channel.TheVariants.{Read, Write}
use Rattle.ace_event.specs.declared.header.Header.{Header}
use Rattle.ace_event.specs.declared.line.Line.{Line}
use Rattle.ace_model.specs.declared.transactions.Transaction.{Transaction}
use Rattle.ace_model.specs.Trace.{Trace, is_some_and, more}
use Rattle.ace_model.specs.Accepted.{IsAccepted}
use Rattle.ace_model.specs.Lines.{is_known}
use Rattle.ace_model.specs.Transactions.{is_line, is_on}
use Rattle.ace_model.specs.Values.{Store, store_at, stores_of, value_of, after_store}
use Rattle.ace_model.proofs.Report.Untouched.{untouched, opened_unknown, stores_of-count}
use Rattle.ace_portck.specs.declared.target.WriteData.{WriteData}
use Rattle.ace_report.specs.declared.tally.LineTally.{LineTally}
use Rattle.ace_report.specs.Heard.{LinesStand, line_tally, bytes_of, bytes_to, stored}
use Rattle.ace_report.specs.Next.{IsNext, IsAbsent, IsNewLine, absent_line, new_line, wanted_line}

-- an AR or AW
abbrev pub is_address : Event → Bool
is_address (Ar p i addr snoop dom bar lock) = true
is_address (Aw p i addr snoop dom bar) = true
is_address _ = false

-- an event that tells of a line
abbrev pub is_told : Event → Bool
is_told (Ar p i addr snoop dom bar lock) = true
is_told (Aw p i addr snoop dom bar) = true
is_told (R p i resp last word) = true
is_told (M p c i line) = true
is_told (D p addr strobe x line) = true
is_told _ = false

-- no store leaves a tally as it is
unchanged : (o : Option LineTally) → o ≡ option_map (stored None) o
unchanged None = refl
unchanged (Some t) = refl

-- the tally of a line after the naming of a line
abbrev pub Named : Option ℕ → Line → BTreeMap ℕ LineTally → BTreeMap ℕ LineTally → Type 0
Named line before old new =
    (l : ℕ) → get nat_cmp new l ≡ (if is_some_and line (λ m. nat_eq m l) then Some (unwrap_or (get nat_cmp old l) (record { stores = 0; value = before })) else get nat_cmp old l)

-- after a store, if there is one
abbrev pub Added : Option ℕ → Option WriteData → BTreeMap ℕ LineTally → BTreeMap ℕ LineTally → Type 0
Added line bytes old new = (l : ℕ) → get nat_cmp new l ≡ option_map (stored (bytes_to line bytes l)) (get nat_cmp old l)

tested : (x : Transaction) (l : ℕ) → is_some_and (if is_line x then Some x.addr else None) (λ m. nat_eq m l) ≡ is_on x l
tested x l =
    elim (cases_Bool (is_line x)) [
      | inl t ↦ rw t refl
      | inr f ↦ rw f refl
    ]

on_line : (x : Transaction) (l : ℕ) → is_on x l ≡ true → (if is_line x then Some x.addr else None) ≡ Some l
on_line x l on =
    let parts = and_parts (is_line x) (nat_eq x.addr l) on in
    rw parts.0 (ap (λ n. Some n) (eqb-true x.addr l parts.1))

-- the tally of a line that is named
first_tally : (h : Header) (past : Trace) → IsAccepted h past → (l : ℕ) (before : Line) (o : Option LineTally)
    → o ≡ (if is_known past l then Some (line_tally past l) else None) → (value_before : is_known past l ≡ false → before ≡ value_of past l)
    → unwrap_or o (record { stores = 0; value = before }) ≡ line_tally past l
first_tally h past a l before o is value =
    elim (cases_Bool (is_known past l)) [
      | inl t ↦ rw (is, t) refl
      | inr f ↦
          let u = untouched h past a l f in
          rw (is, f, u.stores, value f) refl
    ]

-- the line is named first where it is named, and none has named it
new_tested : (past : Trace) (o : Option ℕ) (l : ℕ) → is_known past l ≡ false
    → is_some_and (new_line past o) (λ m. nat_eq m l) ≡ is_some_and o (λ m. nat_eq m l)
new_tested past None l unknown = refl
new_tested past (Some m) l unknown =
    elim (cases_Bool (nat_eq m l)) [
      | inl t ↦
          let e : m ≡ l = eqb-true m l t in
          let f : is_known past m ≡ false = rw e unknown in
          rw f refl
      | inr f ↦ elim (cases_Bool (is_known past m)) [
        | inl k ↦ rw (k, f) refl
        | inr k ↦ rw k refl
      ]
    ]

known_tested : (past : Trace) (o : Option ℕ) (l : ℕ) → is_known past l ≡ true
    → is_some_and (new_line past o) (λ m. nat_eq m l) ≡ false
known_tested past None l known = refl
known_tested past (Some m) l known =
    elim (cases_Bool (is_known past m)) [
      | inl k ↦ rw k refl
      | inr k ↦ elim (cases_Bool (nat_eq m l)) [
        | inr f ↦ rw (k, f) refl
        | inl t ↦
            let e : m ≡ l = eqb-true m l t in
            let both : true ≡ false = sym known ∙ ap (is_known past) (sym e) ∙ k in
            absurd cc
      ]
    ]

named_stand : (h : Header) (past : Trace) → IsAccepted h past → (x : Transaction) (before : Line) (old new : BTreeMap ℕ LineTally)
    → ((l : ℕ) → new_line past (if is_line x then Some x.addr else None) ≡ Some l → is_known past l ≡ false → before ≡ value_of past l)
    → LinesStand past old → Named (new_line past (if is_line x then Some x.addr else None)) before old new
    → (l : ℕ) → get nat_cmp new l ≡ (if is_on x l || is_known past l then Some (line_tally past l) else None)
named_stand h past a x before old new value stands named l =
    let o : Option ℕ = if is_line x then Some x.addr else None in
    elim (cases_Bool (is_known past l)) [
      | inl t ↦
          let test = known_tested past o l t in
          elim (cases_Bool (is_on x l)) [
            | inl on ↦ named l ∙ rw (test, on) (stands l ∙ rw t refl)
            | inr f ↦ named l ∙ rw (test, f) (stands l)
          ]
      | inr u ↦
          let test = new_tested past o l u ∙ tested x l in
          elim (cases_Bool (is_on x l)) [
            | inr f ↦ named l ∙ rw (test, f) (stands l)
            | inl on ↦
                let line : new_line past o ≡ Some l = ap (new_line past) (on_line x l on) ∙ rw u refl in
                named l ∙ rw (test, on) (ap (λ v. Some v) (first_tally h past a l before (get nat_cmp old l) (stands l) (value l line)))
          ]
    ]

-- after an AR or AW
pub heard_named : (h : Header) (past : Trace) (e : Event) (before : Line) (old new : BTreeMap ℕ LineTally) → is_address e ≡ true
    → LinesStand past old → IsNext h past e before → Named (wanted_line h past e) before old new → LinesStand (e ∷ past) new
heard_named h past (Ar p i addr snoop dom bar lock) before old new is stands n named l =
    named_stand h past n.accepted.0 (record { place = length past; port = p; chan = Read; id = i; addr = addr; snoop = snoop; dom = dom; bar = bar; lock = lock }) before old new
    (λ m line unknown. n.memory m line ∙ sym (untouched h past n.accepted.0 m unknown).value) stands named l
heard_named h past (Aw p i addr snoop dom bar) before old new is stands n named l =
    named_stand h past n.accepted.0 (record { place = length past; port = p; chan = Write; id = i; addr = addr; snoop = snoop; dom = dom; bar = bar; lock = false }) before old new
    (λ m line unknown. n.memory m line ∙ sym (untouched h past n.accepted.0 m unknown).value) stands named l
heard_named h past e before old new is stands n named l = cc

tally_step : (o : Option Store) (xs : List Store) (v : Line) → length xs < 2 ^ 64 - 1
    → stored (option_map bytes_of o) (record { stores = length xs; value = v }) ≡ record { stores = length (more xs o); value = after_store v o }
tally_step None xs v few = refl
tally_step (Some s) xs v few =
    let e = length-append xs (s ∷ []) in
    ap (λ n. record { stores = n; value = after_store v (Some s) }) (omega (arith, e, few))

stored_stand : (h : Header) (past : Trace) (e : Event) (line : Option ℕ) (bytes : Option WriteData) (old new : BTreeMap ℕ LineTally) → IsAccepted h (e ∷ past)
    → length past < 2 ^ 64 - 1 → ((l : ℕ) → bytes_to line bytes l ≡ option_map bytes_of (store_at past e l)) → LinesStand past old → Added line bytes old new
    → (l : ℕ) → get nat_cmp new l ≡ (if is_known past l then Some (line_tally (e ∷ past) l) else None)
stored_stand h past e line bytes old new a few is stands added l =
    elim (cases_Bool (is_known past l)) [
      | inr f ↦ added l ∙ rw (stands l, f) refl
      | inl k ↦
          let count = stores_of-count past l in
          let step = tally_step (store_at past e l) (stores_of past l) (value_of past l) (omega (arith, count, few)) in
          let now : line_tally (e ∷ past) l ≡ record { stores = length (more (stores_of past l) (store_at past e l)); value = after_store (value_of past l) (store_at past e l) } =
          ap (λ o. record { stores = length (more (stores_of past l) (store_at past e l)); value = after_store (unwrap_or o (value_of past l)) (store_at past e l) }) (opened_unknown h past e a l k) in
          added l ∙ rw (stands l, k, is l) (ap (λ v. Some v) (step ∙ sym now))
    ]

-- after another event
pub heard_stored : (h : Header) (past : Trace) (e : Event) (line : Option ℕ) (before : Line) (bytes : Option WriteData) (old new : BTreeMap ℕ LineTally) → is_address e ≡ false
    → LinesStand past old → IsNext h past e before → ((l : ℕ) → bytes_to line bytes l ≡ option_map bytes_of (store_at past e l)) → Added line bytes old new
    → LinesStand (e ∷ past) new
heard_stored h past (Ar p i addr snoop dom bar lock) line before bytes old new is stands n store added l = cc
heard_stored h past (Aw p i addr snoop dom bar) line before bytes old new is stands n store added l = cc
heard_stored h past e line before bytes old new is stands n store added l =
    stored_stand h past e line bytes old new n.accepted (let few = n.few in omega (arith, few)) store stands added l

-- the stores before a load, by the tally of its line
pub stores_before : (h : Header) (past : Trace) → IsAccepted h past → (l : ℕ) (o : Option LineTally) → o ≡ (if is_known past l then Some (line_tally past l) else None)
    → unwrap_or (option_map (λ (t : LineTally). t.stores) o) 0 ≡ length (stores_of past l)
stores_before h past a l o is =
    elim (cases_Bool (is_known past l)) [
      | inl t ↦ rw (is, t) refl
      | inr f ↦ rw (is, f, (untouched h past a l f).stores) refl
    ]

-- after an event that stores nothing
pub heard_nothing : (h : Header) (past : Trace) (e : Event) (before : Line) (lines : BTreeMap ℕ LineTally) → is_told e ≡ false
    → LinesStand past lines → IsNext h past e before → LinesStand (e ∷ past) lines
heard_nothing h past (Ar p i addr snoop dom bar lock) before lines is stands n = cc
heard_nothing h past (Aw p i addr snoop dom bar) before lines is stands n = cc
heard_nothing h past (R p i resp last word) before lines is stands n = cc
heard_nothing h past (M p c i line) before lines is stands n = cc
heard_nothing h past (D p addr strobe x line) before lines is stands n = cc
heard_nothing h past e before lines is stands n =
    heard_stored h past e None before None lines lines refl stands n (λ l. refl) (λ l. unchanged (get nat_cmp lines l))

-- an event that tells nothing of a line
pub not_told : (e : Event) → ((p i addr snoop dom bar : ℕ) (lock : Bool) → e ≡ Ar p i addr snoop dom bar lock → ⊥)
    → ((p i addr snoop dom bar : ℕ) → e ≡ Aw p i addr snoop dom bar → ⊥)
    → ((p i resp : ℕ) (last : Bool) (word : ℕ) → e ≡ R p i resp last word → ⊥)
    → ((p : ℕ) (c : Channel) (i : ℕ) (line : Line) → e ≡ M p c i line → ⊥)
    → ((p addr strobe : ℕ) (x : Bool) (line : Line) → e ≡ D p addr strobe x line → ⊥) → is_told e ≡ false
not_told (Ar p i addr snoop dom bar lock) reads writes r m d = absurd (reads p i addr snoop dom bar lock refl)
not_told (Aw p i addr snoop dom bar) reads writes r m d = absurd (writes p i addr snoop dom bar refl)
not_told (R p i resp last word) reads writes r m d = absurd (r p i resp last word refl)
not_told (M p c i line) reads writes r m d = absurd (m p c i line refl)
not_told (D p addr strobe x line) reads writes r m d = absurd (d p addr strobe x line refl)
not_told e reads writes r m d = refl

-- what follows where a call succeeds
pub on_ok : {T E A B : Type 0} (r : Result T E) → (A → B) → OnOk r A → OnOk r B
on_ok (Ok x) f a = f a
on_ok (Err e) f a = tt

-- a line without a tally is one that no transaction has named
pub absent-new : (past : Trace) (lines : BTreeMap ℕ LineTally) (line : Option ℕ) → LinesStand past lines → IsAbsent lines line → IsNewLine past line
absent-new past lines None stands none = none
absent-new past lines (Some l) stands none =
    elim (cases_Bool (is_known past l)) [
      | inl t ↦ let e : Some (line_tally past l) ≡ None = sym (stands l ∙ rw t refl) ∙ none in absurd cc
      | inr f ↦ f
    ]

-- a line has no tally exactly where no transaction has named it
pub absent_is_new : (past : Trace) (lines : BTreeMap ℕ LineTally) (o : Option ℕ) → LinesStand past lines → absent_line lines o ≡ new_line past o
absent_is_new past lines None stands = refl
absent_is_new past lines (Some l) stands =
    elim (cases_Bool (is_known past l)) [
      | inl t ↦ rw (stands l, t) refl
      | inr f ↦ rw (stands l, f) refl
    ]

-- what is named first is a new line
pub first_is_new : (past : Trace) (o : Option ℕ) → IsNewLine past (new_line past o) → IsNewLine past o
first_is_new past None new = new
first_is_new past (Some l) new =
    elim (cases_Bool (is_known past l)) [
      | inl t ↦ absurd (rw t at new)
      | inr f ↦ f
    ]
