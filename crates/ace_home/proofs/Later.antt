-- A transaction behind an older one that waits for its line stays behind it until the line is granted.
use Rattle.std.proofs.Common.{◌≡◌, ◌⊎◌, ℕ, zero, suc, ◌<◌, Bool, true, false, not, ◌&&◌, ◌==◌, nat_lt, if◌then◌else◌, List, [], ◌∷◌, length, Some, None, is_some, slice_get, refl, sym, ap, ◌∙◌, inl, inr, arith}
use Rattle.std.specs.List.{list_all}
use Rattle.std.proofs.Math.Nat.{le-max_left, le-max_right}
use Rattle.std.proofs.lemmas.Bool.{and_from, and_parts, cases_Bool, false_from_ne_true, ltb-true, not-true, or_cases}
use Rattle.ace_codes.specs.declared.kind.AwKind.{AwKind}
use Rattle.ace_codes.specs.declared.kind.AwKind.TheVariants as write
use Rattle.ace_event.specs.declared.event.Channel.{Channel}
use Rattle.ace_event.specs.declared.event.Channel.TheVariants.{Read, Write}
use Rattle.ace_event.specs.declared.event.Event.{Event}
use Rattle.ace_event.specs.declared.event.Event.TheVariants.{G}
use Rattle.ace_event.specs.declared.header.Header.{Header}
use Rattle.ace_model.specs.declared.transactions.Transaction.{Transaction}
use Rattle.ace_model.specs.Accepted.{IsAccepted}
use Rattle.ace_model.specs.Barriers.{Pair, barriers, is_barrier_of, is_pair_complete, paired, pairs, place_of}
use Rattle.ace_model.specs.Grants.{granted, has_grant}
use Rattle.ace_model.specs.Kinds.{is_evict, is_granted_write}
use Rattle.ace_model.specs.OrderRules.{is_past_barriers}
use Rattle.ace_model.specs.Progress.{evicts, has_had, is_completed, is_grant, is_ordered, is_write_of_memory, served_by, updates_memory}
use Rattle.ace_model.specs.Trace.{Trace, implies, is_some_and, option_filter}
use Rattle.ace_model.specs.Transactions.{is_on, is_outstanding, is_read, is_transaction, issued, takes_grant, write_kind}
use Rattle.ace_model.proofs.Barriers.OrderPoints.{completed-ordered}
use Rattle.ace_model.proofs.General.Booleans.{implies-at}
use Rattle.ace_model.proofs.General.Lists.{list_all-at, slice_get-more}
use Rattle.ace_model.proofs.General.Options.{Some-injective, option_filter-is}
use Rattle.ace_model.proofs.GrantLooks.Had.{granted_had, takes-line}
use Rattle.ace_model.proofs.Grants.Granted.{granted_write, updates_ungranted}
use Rattle.ace_model.proofs.Outstanding.Names.{grant_by_name}
use Rattle.ace_model.proofs.Trace.Growth.{IsIssued, issued-old, some_issued-found, some_issued-is}
use Rattle.ace_model.proofs.Trace.Issued.{issued-place, outstanding-named}
use Rattle.ace_model.proofs.Trace.LineOnce.{outstanding_is}
use Rattle.ace_model.proofs.Trace.Looks.{is_on-addr}
use Rattle.ace_runs.specs.LineSteps.{is_first_to_wait, waits}
use Rattle.ace_runs.proofs.NeverStuck.Barriers.BothAnswered.{undone-outstanding}
use Rattle.ace_runs.proofs.NeverStuck.Barriers.DoneBefore.{completed-grown}
use Rattle.ace_runs.proofs.NeverStuck.Barriers.OpenPairs.{paired-at}

-- ---- what waits for its line isn't complete ----------------------------------------------------------

unevicted : (k : AwKind) → is_granted_write k ≡ true → is_evict k ≡ false
unevicted write.Evict g = cc
unevicted k g = refl

none-completes : (e : Event) (past : Trace) (y : Transaction) → is_grant e ≡ true → is_completed (e ∷ past) y ≡ is_completed past y
none-completes (G p c i) past y t = refl
none-completes e past y t = cc

-- the order point of what takes a grant is its G
module _ (y : Transaction) (takes : takes_grant y ≡ true) where
  no-evict : evicts y ≡ false
  no-evict = elim (cases_Bool (is_read y.chan)) [
    | inl reads ↦ let none : write_kind y ≡ None = rw reads refl in ap (λ o. is_some_and o is_evict) none
    | inr writes ↦ let k = granted_write y takes writes in ap (λ o. is_some_and o is_evict) k.1 ∙ unevicted k.0 k.2
  ]

  no-update : updates_memory y ≡ false
  no-update = false_from_ne_true (updates_memory y) (λ t. elim (cases_Bool (is_read y.chan)) [
    | inl reads ↦ let none : updates_memory y ≡ false = rw reads refl in let bad : true ≡ false = sym t ∙ none in cc
    | inr writes ↦ updates_ungranted y takes writes t
  ])

  ordered-had : (past : Trace) → is_ordered past y ≡ true → has_had is_grant past y ≡ true
  ordered-had past ordered = elim (or_cases (evicts y) _ ordered) [
    | inl evict ↦ let bad : true ≡ false = sym evict ∙ no-evict in cc
    | inr point ↦ sym (ap (λ v. if v then has_had is_write_of_memory past y else has_had is_grant past y) no-update) ∙ point
  ]

module _ (h : Header) (past : Trace) (y : Transaction) (i : IsIssued past y) (w : waits h past y ≡ true) where
  takes : takes_grant y ≡ true
  takes = (and_parts (takes_grant y) (is_outstanding h past y) (and_parts (takes_grant y && is_outstanding h past y) _ w).0).0

  not-had : has_had is_grant past y ≡ false
  not-had =
      let both = and_parts (takes_grant y && is_outstanding h past y) (not (has_grant past y.port y.chan y.id)) w in
      let out = outstanding_is h past y i (and_parts (takes_grant y) (is_outstanding h past y) both.0).1 in
      sym (grant_by_name past y.port y.chan y.id y (outstanding-named h past y.port y.chan y.id y out)) ∙ not-true (has_grant past y.port y.chan y.id) both.1

  undone : IsAccepted h past → is_completed past y ≡ false
  undone a = false_from_ne_true (is_completed past y) (λ t.
      let had = ordered-had y takes past (completed-ordered h y past t a i.there (takes-line y takes)) in
      let bad : true ≡ false = sym had ∙ not-had in cc)

  module _ (e : Event) (a : IsAccepted h (e ∷ past)) where
    still-undone : is_completed (e ∷ past) y ≡ false
    still-undone = false_from_ne_true (is_completed (e ∷ past) y) (λ t.
        let had = ordered-had y takes (e ∷ past) (completed-ordered h y (e ∷ past) t a (issued-old e past y i).there (takes-line y takes)) in
        elim (or_cases (is_grant e && is_transaction (served_by past e) y) (has_had is_grant past y) had) [
          | inl now ↦
              let same = none-completes e past y (and_parts (is_grant e) (is_transaction (served_by past e) y) now).0 in
              let bad : true ≡ false = sym t ∙ same ∙ undone a.0 in cc
          | inr before ↦ let bad : true ≡ false = sym before ∙ not-had in cc
        ])

    -- after an event it waits still, or it was granted its line
    waits-or-granted : (waits h (e ∷ past) y ≡ true) ⊎ (granted h (e ∷ past) y.addr ≡ Some y)
    waits-or-granted =
        let now = issued-old e past y i in
        let out = undone-outstanding h (e ∷ past) y a now still-undone in
        elim (cases_Bool (has_grant (e ∷ past) y.port y.chan y.id)) [
          | inl had ↦ inr (granted_had h (e ∷ past) a y.port y.chan y.id y (outstanding_is h (e ∷ past) y now out) had)
          | inr none ↦ inl (and_from _ _ (and_from _ _ takes out) (ap not none))
        ]

-- ---- no barrier comes before it any more -------------------------------------------------------------

all-from : {A : Type 0} → (test : A → Bool) (xs : List A) → ((k : ℕ) (x : A) → slice_get xs k ≡ Some x → test x ≡ true) → list_all test xs ≡ true
all-from test [] each = refl
all-from test (x ∷ xs) each = and_from _ _ (each 0 x refl) (all-from test xs (λ k y there. each (suc k) y there))

implied : (b c : Bool) → (b ≡ true → c ≡ true) → implies b c ≡ true
implied true c t = t refl
implied false c t = refl

halves : (rs ws : List Transaction) (k : ℕ) (b : Pair) → slice_get (paired rs ws) k ≡ Some b → (slice_get rs k ≡ Some b.read) × (slice_get ws k ≡ Some b.write)
halves [] ws k b e = cc
halves (r ∷ rs) [] k b e = cc
halves (r ∷ rs) (w ∷ ws) zero b e =
    let first : Pair = record { read = r; write = w } in
    let same : first ≡ b = Some-injective first b e in (ap (λ (y : Pair). Some y.read) same, ap (λ (y : Pair). Some y.write) same)
halves (r ∷ rs) (w ∷ ws) (suc k) b e = halves rs ws k b e

-- a half that isn't new was so before
half-before : (e : Event) (past : Trace) (p : ℕ) (c : Channel) (k : ℕ) (x : Transaction) → slice_get (barriers (e ∷ past) p c) k ≡ Some x → x.place < length past
    → slice_get (barriers past p c) k ≡ Some x
half-before e past p c k x there low =
    elim (slice_get-more (barriers past p c) (option_filter (λ y. is_barrier_of y p c) (issued (length past) e)) k x there) [
      | inl old ↦ old
      | inr new ↦
          let b = option_filter-is (λ y. is_barrier_of y p c) (issued (length past) e) x new.1 in
          let place = issued-place (length past) e x b.0 in absurd (omega (arith, place, low))
    ]

past-stays : (e : Event) (past : Trace) (y : Transaction) → IsIssued past y → is_past_barriers past y ≡ true → is_past_barriers (e ∷ past) y ≡ true
past-stays e past y i before =
    let p = y.port in
    let early = i.before in
    implied (y.bar == 0) _ (λ ordered.
    let all = implies-at (y.bar == 0) _ before ordered in
    all-from (λ b. implies (nat_lt (place_of b) y.place) (is_pair_complete (e ∷ past) b)) (pairs (e ∷ past) p) (λ k b there.
    implied (nat_lt (place_of b) y.place) _ (λ less.
    let low = ltb-true (place_of b) y.place less in
    let first = le-max_left b.read.place b.write.place in
    let second = le-max_right b.read.place b.write.place in
    let two = halves (barriers (e ∷ past) p Read) (barriers (e ∷ past) p Write) k b there in
    let r = half-before e past p Read k b.read two.0 (omega (arith, low, first, early)) in
    let w = half-before e past p Write k b.write two.1 (omega (arith, low, second, early)) in
    let was = paired-at (barriers past p Read) (barriers past p Write) k b.read b.write r w in
    let done = implies-at (nat_lt (place_of b) y.place) (is_pair_complete past b) (list_all-at (λ d. implies (nat_lt (place_of d) y.place) (is_pair_complete past d)) (pairs past p) k b all was) less in
    let both = and_parts (is_completed past b.read) (is_completed past b.write) done in
    and_from _ _ (completed-grown e past b.read both.0) (completed-grown e past b.write both.1))))

-- ---- behind an older one -----------------------------------------------------------------------------

-- the older one goes before it
abbrev goes : Header → Trace → Transaction → Transaction → Bool
goes h past x y = is_on y x.addr && nat_lt y.place x.place && waits h past y && is_past_barriers past y

-- after an event an older one goes before it still, or its line is granted
pub later-stays : (h : Header) (past : Trace) (e : Event) (x : Transaction) → IsAccepted h (e ∷ past) → is_first_to_wait h past x ≡ false
    → (is_first_to_wait h (e ∷ past) x ≡ false) ⊎ (is_some (granted h (e ∷ past) x.addr) ≡ true)
later-stays h past e x a later =
    let y = older in
    let passes = not-false-twice (goes h past x y.0) y.2 in
    let three = and_parts (is_on y.0 x.addr && nat_lt y.0.place x.place && waits h past y.0) (is_past_barriers past y.0) passes in
    let two = and_parts (is_on y.0 x.addr && nat_lt y.0.place x.place) (waits h past y.0) three.0 in
    elim (waits-or-granted h past y.0 y.1 two.1 e a) [
      | inr given ↦
          let on = is_on-addr y.0 x.addr (and_parts (is_on y.0 x.addr) (nat_lt y.0.place x.place) two.0).0 in
          inr (ap (λ l. is_some (granted h (e ∷ past) l)) (sym on) ∙ ap (λ o. is_some o) given)
      | inl waiting ↦
          let now : goes h (e ∷ past) x y.0 ≡ true = and_from _ _ (and_from _ _ two.0 waiting) (past-stays e past y.0 y.1 three.1) in
          let i = issued-old e past y.0 y.1 in
          inl (ap not (some_issued-found (e ∷ past) (λ z. not (not (goes h (e ∷ past) x z))) y.0.place y.0 i.there (ap (λ b. not (not b)) now)))
    ]
  where
    not-false-twice : (b : Bool) → not (not b) ≡ true → b ≡ true
    not-false-twice true t = refl
    not-false-twice false t = t

    false-not : (b : Bool) → not b ≡ false → b ≡ true
    false-not true f = refl
    false-not false f = cc

    older : (y : Transaction) × IsIssued past y × (not (not (goes h past x y)) ≡ true)
    older = some_issued-is past (λ y. not (not (goes h past x y))) (false-not _ later)
