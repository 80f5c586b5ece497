-- What a journal keeps after one event more.
use Rattle.std.proofs.Common.{◌≡◌, ◌⊎◌, ◌<◌, ◌≤◌, ◌+◌, ◌&&◌, ℕ, Bool, true, false, if◌then◌else◌, List, ◌∷◌, [], Option, Some, None, Result, Ok, Err, OnOk, length, take, arith, refl, sym, ap, subst, ◌∙◌, inl, inr}
use Rattle.std.proofs.lemmas.Bool.{cases_Bool, eq-eqb, eqb-true}
use Rattle.ace_belongs.specs.Belongs.{event_line}
use Rattle.ace_event.specs.declared.event.Event.{Event}
use Rattle.ace_event.specs.declared.header.Header.{Header}
use Rattle.ace_journal.specs.Journals.{AreSameRows, JournalStands, heard_at, rows_at}
use Rattle.ace_journal.specs.Rows.{behind, is_kept, is_same_line, kept_on, put_row, row_of, rows_on}
use Rattle.ace_journal.specs.declared.journal.Journal.{Journal}
use Rattle.ace_journal.specs.declared.rows.Row.{Row}
use Rattle.ace_journal.specs.declared.rows.Rows.{Rows}
use Rattle.ace_model.specs.Trace.{Trace}

same_line-itself : (line : Option ℕ) → is_same_line line line ≡ true
same_line-itself None = refl
same_line-itself (Some l) = eq-eqb l l refl

same_line-is : (a b : Option ℕ) → is_same_line a b ≡ true → a ≡ b
same_line-is None None same = refl
same_line-is (Some l) (Some k) same = ap Some (eqb-true l k same)
same_line-is None (Some k) same = cc
same_line-is (Some l) None same = cc

-- no more events are kept than there are
pub kept_few : (h : Header) (past : Trace) (line : Option ℕ) → kept_on h past line ≤ length past
kept_few h [] line = omega arith
kept_few h (e ∷ past) line =
    let few = kept_few h past line in
    elim (cases_Bool (is_kept e && is_same_line (event_line h past e) line)) [
      | inl kept ↦ rw kept (omega (arith, few))
      | inr left ↦ rw left (omega (arith, few))
    ]

-- what the event of this line does to what is kept
pub record Changes (e : Event) (i j : Journal) (line : Option ℕ) (next : Row) : Type 0 where
  pub here : (all : List Row) → rows_at i line ≡ take 16 all → rows_at j line ≡ take 16 (put_row (behind (heard_at i line) next) all)
  pub heard : heard_at i line < next.first → heard_at j line ≡ heard_at i line + 1
  pub others : (q : Option ℕ) → (q ≡ line → ⊥) → AreSameRows i j q

module _ (h : Header) (past : Trace) (e : Event) (i j : Journal) (next : Row) (kept : is_kept e ≡ true) (is : next ≡ row_of h past e)
    (s : JournalStands h past i) (c : Changes e i j (event_line h past e) next) where
  line : Option ℕ
  line = event_line h past e

  counts : heard_at i (event_line h past e) < next.first
  counts =
      let few = kept_few h past (event_line h past e) in
      let first = ap (λ (r : Row). r.first) is in
      let heard = s.heard (event_line h past e) in
      omega (arith, few, first, heard)

  rows-at : (q : Option ℕ) → (is_same_line (event_line h past e) q ≡ true) ⊎ (is_same_line (event_line h past e) q ≡ false)
      → rows_at j q ≡ take 16 (rows_on h (e ∷ past) q)
  rows-at q (inl same) =
      let there = same_line-is (event_line h past e) q same in
      subst (λ v. rows_at j v ≡ take 16 (rows_on h (e ∷ past) v)) there
      (let own = same_line-itself (event_line h past e) in
      rw (kept, own) (subst (λ r. rows_at j (event_line h past e) ≡ take 16 (put_row (behind (kept_on h past (event_line h past e)) r) (rows_on h past (event_line h past e)))) is
      (subst (λ n. rows_at j (event_line h past e) ≡ take 16 (put_row (behind n next) (rows_on h past (event_line h past e)))) (s.heard (event_line h past e))
      (c.here (rows_on h past (event_line h past e)) (s.rows (event_line h past e))))))
  rows-at q (inr other) =
      rw (kept, other) ((c.others q (λ on. let own = same_line-itself q in cc)).0 ∙ s.rows q)

  heard-at : (q : Option ℕ) → (is_same_line (event_line h past e) q ≡ true) ⊎ (is_same_line (event_line h past e) q ≡ false)
      → heard_at j q ≡ kept_on h (e ∷ past) q
  heard-at q (inl same) =
      let there = same_line-is (event_line h past e) q same in
      subst (λ v. heard_at j v ≡ kept_on h (e ∷ past) v) there
      (let own = same_line-itself (event_line h past e) in
      rw (kept, own) (c.heard counts ∙ ap (λ n. n + 1) (s.heard (event_line h past e))))
  heard-at q (inr other) =
      rw (kept, other) ((c.others q (λ on. let own = same_line-itself q in cc)).1 ∙ s.heard q)

  pub stands_on : JournalStands h (e ∷ past) j
  stands_on = record {
    rows = λ q. rows-at q (cases_Bool (is_same_line (event_line h past e) q));
    heard = λ q. heard-at q (cases_Bool (is_same_line (event_line h past e) q));
  }

-- an event of the line was put to its rows, or there was no memory for it
others_of : (i j : Journal) (l : ℕ) → ((q : ℕ) → (q ≡ l → ⊥) → AreSameRows i j (Some q)) → j.lineless ≡ i.lineless
    → (q : Option ℕ) → (q ≡ Some l → ⊥) → AreSameRows i j q
others_of i j l others lineless None n = (ap (λ (r : Rows). r.kept.items) lineless, ap (λ (r : Rows). r.heard) lineless)
others_of i j l others lineless (Some q) n = others q (λ same. n (ap Some same))

pub line_heard : {T E : Type 0} (result : Result T E) (i j : Journal) (e : Event) (next : Row) (l : ℕ) → is_kept e ≡ true
    → OnOk result ((all : List Row) → rows_at i (Some l) ≡ take 16 all → rows_at j (Some l) ≡ take 16 (put_row (behind (heard_at i (Some l)) next) all))
    → OnOk result (heard_at i (Some l) < next.first → heard_at j (Some l) ≡ heard_at i (Some l) + 1)
    → OnOk result ((q : ℕ) → (q ≡ l → ⊥) → AreSameRows i j (Some q)) → OnOk result (j.lineless ≡ i.lineless)
    → OnOk result ((h : Header) (past : Trace) → JournalStands h past i → Some l ≡ event_line h past e → next ≡ row_of h past e → JournalStands h (e ∷ past) j)
line_heard (Ok value) i j e next l kept here heard others lineless = λ h past s line is.
    let changes : Changes e i j (Some l) next = record { here = here; heard = heard; others = others_of i j l others lineless } in
    stands_on h past e i j next kept is s (subst (λ v. Changes e i j v next) line changes)
line_heard (Err error) i j e next l kept here heard others lineless = tt

-- the same of an event without a line
sames_of : (i : Journal) (rows : Rows) (q : Option ℕ) → (q ≡ None → ⊥) → AreSameRows i (record i { lineless = rows }) q
sames_of i rows None n = absurd (n refl)
sames_of i rows (Some q) n = (refl, refl)

pub lineless_heard : {T E : Type 0} (result : Result T E) (i : Journal) (rows : Rows) (e : Event) (next : Row) → is_kept e ≡ true
    → OnOk result ((all : List Row) → i.lineless.kept.items ≡ take 16 all → rows.kept.items ≡ take 16 (put_row (behind i.lineless.heard next) all))
    → OnOk result (i.lineless.heard < next.first → rows.heard ≡ i.lineless.heard + 1)
    → OnOk result ((h : Header) (past : Trace) → JournalStands h past i → None ≡ event_line h past e → next ≡ row_of h past e
    → JournalStands h (e ∷ past) (record i { lineless = rows }))
lineless_heard (Ok value) i rows e next kept here heard = λ h past s line is.
    let changes : Changes e i (record i { lineless = rows }) None next = record { here = here; heard = heard; others = sames_of i rows } in
    stands_on h past e i (record i { lineless = rows }) next kept is s (subst (λ v. Changes e i (record i { lineless = rows }) v next) line changes)
lineless_heard (Err error) i rows e next kept here heard = tt
