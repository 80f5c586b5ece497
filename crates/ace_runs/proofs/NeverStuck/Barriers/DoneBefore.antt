-- A barrier of a port whose place is before that of a line transaction of the port is complete, so no barrier holds back a grant. A line
-- transaction is issued for an operation that is no barrier; then none of the port's barriers is outstanding, as one would belong to the
-- next operation.
use Rattle.std.proofs.Common.{◌≡◌, ℕ, ◌<◌, ◌≤◌, Bool, true, false, ◌&&◌, ◌==◌, List, [], ◌∷◌, length, Some, inl, inr, sym, subst, ◌∙◌, arith}
use Rattle.std.specs.List.{list_all}
use Rattle.std.proofs.lemmas.Bool.{and_parts, or_cases, or_right, eqb-true, not-true, false_from_ne_true}
use Rattle.ace_codes.specs.Places.{is_barrier}
use Rattle.ace_event.specs.declared.event.Event.{Event}
use Rattle.ace_event.specs.declared.event.Event.TheVariants.{Ar, Aw}
use Rattle.ace_model.specs.declared.transactions.Transaction.{Transaction}
use Rattle.ace_model.specs.Barriers.{is_barrier_half}
use Rattle.ace_model.specs.Progress.{is_completed, is_completion_event, has_had, served_by}
use Rattle.ace_model.specs.Trace.{Trace}
use Rattle.ace_model.specs.Transactions.{is_line, is_transaction, issued}
use Rattle.ace_model.proofs.General.Options.{Some-injective}
use Rattle.ace_model.proofs.Trace.Growth.{IsIssued, issued-cases}
use Rattle.ace_model.proofs.Trace.Issued.{issued-place}
use Rattle.ace_model.proofs.Trace.Outstanding.{read_issued, write_issued}
use Rattle.ace_runs.specs.Bursts.{onto}
use Rattle.ace_runs.proofs.NeverStuck.Barriers.Acts.{read-barrier-bar, write-barrier-bar}
use Rattle.ace_runs.proofs.NeverStuck.Barriers.Quiet.{is_ordinary, issues_no_line}

-- each half of a barrier of the port before the line transaction is complete
abbrev pub AreDoneBefore : Trace → Type 0
AreDoneBefore past =
    (x y : Transaction) → IsIssued past x → IsIssued past y → is_line x ≡ true → is_barrier_half y ≡ true → y.port ≡ x.port → y.place < x.place
    → is_completed past y ≡ true

-- each half of a barrier of the port is complete
abbrev pub AreAllDone : Trace → ℕ → Type 0
AreAllDone past p = (y : Transaction) → IsIssued past y → is_barrier_half y ≡ true → y.port ≡ p → is_completed past y ≡ true

-- ---- what an event issues ----------------------------------------------------------------------------

new-no-line : (n : ℕ) (e : Event) (x : Transaction) → issued n e ≡ Some x → issues_no_line e ≡ true → is_line x ≡ false
new-no-line n (Ar p i addr snoop dom bar lock) x new none =
    subst (λ (v : Transaction). is_line v ≡ false) (Some-injective _ x new) (not-true _ none)
new-no-line n (Aw p i addr snoop dom bar) x new none =
    subst (λ (v : Transaction). is_line v ≡ false) (Some-injective _ x new) (not-true _ none)
new-no-line n e x new none = cc

bar-zero : (bar : ℕ) → (bar == 0) ≡ true → is_barrier bar ≡ true → ⊥
bar-zero bar none b = let is = eqb-true bar 0 none in let bad : false ≡ true = rw is at b in cc

no-read-half : (past : Trace) (p i addr snoop dom bar : ℕ) (lock : Bool) → (bar == 0) ≡ true → is_barrier_half (read_issued past p i addr snoop dom bar lock) ≡ false
no-read-half past p i addr snoop dom bar lock none =
    false_from_ne_true _ (λ b.
    elim (or_cases _ false b) [
      | inl r ↦ bar-zero bar none (read-barrier-bar snoop dom bar r)
      | inr other ↦ cc
    ])

no-write-half : (past : Trace) (p i addr snoop dom bar : ℕ) → (bar == 0) ≡ true → is_barrier_half (write_issued past p i addr snoop dom bar) ≡ false
no-write-half past p i addr snoop dom bar none = false_from_ne_true _ (λ b. bar-zero bar none (write-barrier-bar snoop dom bar b))

pub new-ordinary : (past : Trace) (p : ℕ) (e : Event) (x : Transaction) → issued (length past) e ≡ Some x → is_ordinary p e ≡ true
    → (p ≡ x.port) × (is_barrier_half x ≡ false)
new-ordinary past p (Ar q i addr snoop dom bar lock) x new m =
    let parts = and_parts (p == q) (bar == 0) m in
    subst (λ (v : Transaction). (p ≡ v.port) × (is_barrier_half v ≡ false)) (Some-injective (read_issued past q i addr snoop dom bar lock) x new)
    (eqb-true p q parts.0, no-read-half past q i addr snoop dom bar lock parts.1)
new-ordinary past p (Aw q i addr snoop dom bar) x new m =
    let parts = and_parts (p == q) (bar == 0) m in
    subst (λ (v : Transaction). (p ≡ v.port) × (is_barrier_half v ≡ false)) (Some-injective (write_issued past q i addr snoop dom bar) x new)
    (eqb-true p q parts.0, no-write-half past q i addr snoop dom bar parts.1)
new-ordinary past p e x new m = cc

-- ---- a burst -----------------------------------------------------------------------------------------

pub completed-grown : (e : Event) (past : Trace) (y : Transaction) → is_completed past y ≡ true → is_completed (e ∷ past) y ≡ true
completed-grown e past y c = or_right (is_completion_event e && is_transaction (served_by past e) y) (has_had is_completion_event past y) c

-- what was issued before something of the trace was there
old-before : (e : Event) (past : Trace) (y : Transaction) (n : ℕ) → IsIssued (e ∷ past) y → y.place < n → n ≤ length past → IsIssued past y
old-before e past y n i low end =
    elim (issued-cases e past y i) [
      | inl new ↦ let place = issued-place (length past) e y new in absurd (omega (arith, place, low, end))
      | inr old ↦ old
    ]

-- an old line transaction has old barriers before it
old-done : (e : Event) (past : Trace) (x y : Transaction) → AreDoneBefore past → IsIssued past x → IsIssued (e ∷ past) y → is_line x ≡ true → is_barrier_half y ≡ true
    → y.port ≡ x.port → y.place < x.place → is_completed (e ∷ past) y ≡ true
old-done e past x y done ix iy line half same low =
    let end = ix.before in
    completed-grown e past y (done x y ix (old-before e past y x.place iy low (omega (arith, end))) line half same low)

pub no-line-keeps : (burst : List Event) (past : Trace) → AreDoneBefore past → list_all issues_no_line burst ≡ true → AreDoneBefore (onto burst past)
no-line-keeps [] past done m = done
no-line-keeps (e ∷ burst) past done m =
    let parts = and_parts (issues_no_line e) (list_all issues_no_line burst) m in
    no-line-keeps burst (e ∷ past) (λ x y ix iy line half same low.
    elim (issued-cases e past x ix) [
      | inl new ↦ let none = new-no-line (length past) e x new parts.0 in cc
      | inr old ↦ old-done e past x y done old iy line half same low
    ]) parts.1

all-done-grown : (e : Event) (past : Trace) (p : ℕ) → AreAllDone past p → is_ordinary p e ≡ true → AreAllDone (e ∷ past) p
all-done-grown e past p all m y i half port =
    elim (issued-cases e past y i) [
      | inl new ↦ let none = (new-ordinary past p e y new m).1 in cc
      | inr old ↦ completed-grown e past y (all y old half port)
    ]

pub ordinary-keeps : (burst : List Event) (past : Trace) (p : ℕ) → AreDoneBefore past → AreAllDone past p → list_all (is_ordinary p) burst ≡ true
    → AreDoneBefore (onto burst past)
ordinary-keeps [] past p done all m = done
ordinary-keeps (e ∷ burst) past p done all m =
    let parts = and_parts (is_ordinary p e) (list_all (is_ordinary p) burst) m in
    ordinary-keeps burst (e ∷ past) p (λ x y ix iy line half same low.
    elim (issued-cases e past x ix) [
      | inl new ↦
          let place = issued-place (length past) e x new in
          let before = old-before e past y x.place iy low (omega (arith, place)) in
          completed-grown e past y (all y before half (same ∙ sym (new-ordinary past p e x new parts.0).0))
      | inr old ↦ old-done e past x y done old iy line half same low
    ]) (all-done-grown e past p all parts.0) parts.1
