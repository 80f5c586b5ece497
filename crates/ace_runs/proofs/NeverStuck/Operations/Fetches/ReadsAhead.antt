-- In a run the reads that a read ahead has issued are of its kind and on its line.
use Rattle.std.proofs.Common.{◌≡◌, ℕ, Bool, true, false, not, ◌&&◌, ◌||◌, ◌==◌, if◌then◌else◌, List, [], ◌∷◌, ◌++◌, Option, Some, None, refl, sym, ap, subst, ◌∙◌, inl, inr}
use Rattle.std.specs.List.{list_all, list_any}
use Rattle.std.proofs.lemmas.Bool.{and_parts, and_from, cases_Bool, eqb-true, or_cases, or_left, or_right}
use Rattle.ace_codes.specs.declared.kind.ArKind.{ArKind}
use Rattle.ace_codes.specs.declared.kind.ArKind.TheVariants as read
use Rattle.ace_codes.specs.Places.{is_at}
use Rattle.ace_codes.specs.Reads.{ar_kind_of, read_place}
use Rattle.ace_event.specs.declared.event.Event.{Event}
use Rattle.ace_event.specs.declared.event.Event.TheVariants.{Ar, Aw, Op as Retires}
use Rattle.ace_model.specs.declared.plans.Op.{Op}
use Rattle.ace_model.specs.declared.plans.Op.TheVariants.{Pf}
use Rattle.ace_model.specs.declared.transactions.Transaction.{Transaction}
use Rattle.ace_model.specs.Kinds.{is_dvm_complete}
use Rattle.ace_model.specs.Plans.{IsRight, Plan, has_right_fields}
use Rattle.ace_model.specs.Trace.{Trace, implies, is_none_or, is_some_and, more, option_filter}
use Rattle.ace_model.specs.Transactions.{is_on, is_read}
use Rattle.ace_model.proofs.General.Options.{Some-injective, option_filter-is}
use Rattle.ace_model.proofs.Trace.Outstanding.{read_issued, write_issued}
use Rattle.ace_runs.specs.Bursts.{onto}
use Rattle.ace_runs.specs.Counts.{is_retirement}
use Rattle.ace_runs.specs.MasterSteps.{moves}
use Rattle.ace_runs.specs.Operations.{next_operation}
use Rattle.ace_runs.specs.SameEvents.{same_burst, same_event}
use Rattle.ace_runs.specs.Segments.{is_for_operation, is_read_of, segment}
use Rattle.ace_runs.specs.Steps.{AreSteps, is_step}
use Rattle.ace_runs.proofs.Turns.{of-each-run}
use Rattle.ace_runs.proofs.NeverStuck.Steps.SameBursts.{same-burst-all}
use Rattle.ace_runs.proofs.NeverStuck.Steps.SameEvents.{TellsSame, tells-same}
use Rattle.ace_runs.proofs.NeverStuck.Steps.SilentSteps.{issues_no_read, reads-by-one, same-no-read}
use Rattle.ace_runs.proofs.NeverStuck.Operations.Fits.Asking.{FetchesAsAsked}
use Rattle.ace_runs.proofs.NeverStuck.Operations.Places.{completion-there}
use Rattle.ace_runs.proofs.NeverStuck.Operations.Lines.OfPlan.{next-planned}
use Rattle.ace_runs.proofs.NeverStuck.Operations.Fetches.ReadsAsked.{asks_first, asks_for, is_asked, moves-first}

-- the transaction is no read, or one of the kind on the line
abbrev is_as_asked : ℕ → ArKind → Transaction → Bool
is_as_asked a k x = implies (is_read x.chan) (is_read_of k a x)

-- where a port's next operation is a read ahead, the reads of its segment are of the kind and on the line
abbrev pub AreAsAsked : Plan → Trace → Type 0
AreAsAsked plan past = (p a : ℕ) (k : ArKind) → next_operation plan past p ≡ Some (Pf a k) → list_all (is_as_asked a k) (segment past p) ≡ true

-- ---- one event ---------------------------------------------------------------------------------------

all-more : (test : Transaction → Bool) (xs : List Transaction) (o : Option Transaction) → list_all test xs ≡ true → ((x : Transaction) → o ≡ Some x → test x ≡ true)
    → list_all test (more xs o) ≡ true
all-more test xs None all new = all
all-more test xs (Some x) all new = by xs all
  where
    by : (ys : List Transaction) → list_all test ys ≡ true → list_all test (ys ++ x ∷ []) ≡ true
    by [] a = and_from _ _ (new x refl) refl
    by (y ∷ ys) a = let parts = and_parts (test y) (list_all test ys) a in and_from _ _ parts.0 (by ys parts.1)

-- an event that issues no read
unread-keeps : (plan : Plan) (past : Trace) (e : Event) → issues_no_read e ≡ true → AreAsAsked plan past → AreAsAsked plan (e ∷ past)
unread-keeps plan past (Ar q i b s d bar l) none before p a k next = cc
unread-keeps plan past (Aw q i b s d bar) none before p a k next =
    all-more (is_as_asked a k) (segment past p) (option_filter (is_for_operation p) (Some (write_issued past q i b s d bar))) (before p a k next)
    (λ x is. let same = Some-injective (write_issued past q i b s d bar) x (option_filter-is (is_for_operation p) (Some (write_issued past q i b s d bar)) x is).0 in
    subst (λ v. is_as_asked a k v ≡ true) same refl)
unread-keeps plan past (Retires q n res) none before p a k next =
    elim (cases_Bool (p == q)) [
      | inl t ↦ rw t refl
      | inr f ↦ rw f (before p a k (rw f at next))
    ]
unread-keeps plan past e none before p a k next = before p a k next

-- a read that the next operation of its port asks for, or a DVM Complete
asked-keeps : (plan : Plan) (past : Trace) (r q i b s d bar : ℕ) (l : Bool) → asks_for r (next_operation plan past r) (Ar q i b s d bar l) ≡ true → AreAsAsked plan past
    → AreAsAsked plan (Ar q i b s d bar l ∷ past)
asked-keeps plan past r q i b s d bar l asked before p a k next =
    let x = read_issued past q i b s d bar l in
    let parts = and_parts (r == q) (is_at (read_place read.DvmComplete) s d bar || is_none_or (next_operation plan past r) (λ op. is_asked op b s d bar)) asked in
    all-more (is_as_asked a k) (segment past p) (option_filter (is_for_operation p) (Some x)) (before p a k next)
    (λ y is. let found = option_filter-is (is_for_operation p) (Some x) y is in
    subst (λ v. is_as_asked a k v ≡ true) (Some-injective x y found.0) (of (subst (λ v. is_for_operation p v ≡ true) (sym (Some-injective x y found.0)) found.1) (eqb-true r q parts.0) parts.1))
  where
    of : ((q == p) && not (is_some_and (ar_kind_of s d bar) is_dvm_complete)) ≡ true → r ≡ q
        → (is_at (read_place read.DvmComplete) s d bar || is_none_or (next_operation plan past r) (λ op. is_asked op b s d bar)) ≡ true
        → is_read_of k a (read_issued past q i b s d bar l) ≡ true
    of mine port some =
        let for = and_parts (q == p) (not (is_some_and (ar_kind_of s d bar) is_dvm_complete)) mine in
        elim (or_cases (is_at (read_place read.DvmComplete) s d bar) (is_none_or (next_operation plan past r) (λ op. is_asked op b s d bar)) some) [
          | inl completes ↦ let bad : not true ≡ true = ap not (sym (ap (λ o. is_some_and o is_dvm_complete) (completion-there s d bar completes))) ∙ for.1 in cc
          | inr fits ↦
              let same : r ≡ p = port ∙ eqb-true q p for.0 in
              let own : next_operation plan past r ≡ Some (Pf a k) = subst (λ n. next_operation plan past n ≡ Some (Pf a k)) (sym same) next in
              ap (λ o. is_none_or o (λ op. is_asked op b s d bar)) (sym own) ∙ fits
        ]

-- ---- bursts ------------------------------------------------------------------------------------------

unread-all : (plan : Plan) (burst : List Event) (past : Trace) → list_all issues_no_read burst ≡ true → AreAsAsked plan past → AreAsAsked plan (onto burst past)
unread-all plan [] past none before = before
unread-all plan (e ∷ burst) past none before =
    let parts = and_parts (issues_no_read e) (list_all issues_no_read burst) none in
    unread-all plan burst (e ∷ past) parts.1 (unread-keeps plan past e parts.0 before)

-- an event that asks keeps the port's next operation
asking-next : (plan : Plan) (past : Trace) (p : ℕ) (next : Option Op) (e : Event) → asks_for p next e ≡ true → next_operation plan (e ∷ past) p ≡ next_operation plan past p
asking-next plan past p next (Retires q k res) asked = cc
asking-next plan past p next e asked = refl

asking-keeps : (plan : Plan) (past : Trace) (p : ℕ) (e : Event) → asks_for p (next_operation plan past p) e ≡ true → AreAsAsked plan past → AreAsAsked plan (e ∷ past)
asking-keeps plan past p (Ar q i b s d bar l) asked before = asked-keeps plan past p q i b s d bar l asked before
asking-keeps plan past p (Retires q k res) asked before = cc
asking-keeps plan past p e asked before = unread-keeps plan past e refl before

asks-first-keeps : (plan : Plan) (burst : List Event) (past : Trace) (p : ℕ) (next : Option Op) → next_operation plan past p ≡ next → asks_first p next burst ≡ true
    → AreAsAsked plan past → AreAsAsked plan (onto burst past)
asks-first-keeps plan [] past p next is m before = before
asks-first-keeps plan (e ∷ burst) past p next is m before =
    elim (cases_Bool (asks_for p next e)) [
      | inl t ↦
          let rest : asks_first p next burst ≡ true = ap (λ b. if b then asks_first p next burst else is_retirement e && list_all issues_no_read burst) (sym t) ∙ m in
          asks-first-keeps plan burst (e ∷ past) p next (asking-next plan past p next e t ∙ is) rest
          (asking-keeps plan past p e (ap (λ o. asks_for p o e) is ∙ t) before)
      | inr f ↦
          let last : (is_retirement e && list_all issues_no_read burst) ≡ true = ap (λ b. if b then asks_first p next burst else is_retirement e && list_all issues_no_read burst) (sym f) ∙ m in
          let parts = and_parts (is_retirement e) (list_all issues_no_read burst) last in
          unread-all plan burst (e ∷ past) parts.1 (unread-keeps plan past e (retires-none e parts.0) before)
    ]
  where
    retires-none : (e : Event) → is_retirement e ≡ true → issues_no_read e ≡ true
    retires-none (Ar q i b s d bar l) r = cc
    retires-none e r = refl

-- ---- the same burst ----------------------------------------------------------------------------------

same-asked : (p : ℕ) (next : Option Op) → TellsSame (asks_for p next)
same-asked p next = tells-same (asks_for p next) (λ p c i line. refl) (λ p a s x line. refl) (λ a line. refl)

same-retires : TellsSame is_retirement
same-retires = tells-same is_retirement (λ p c i line. refl) (λ p a s x line. refl) (λ a line. refl)

same-first : (p : ℕ) (next : Option Op) (ds es : List Event) → same_burst ds es ≡ true → asks_first p next ds ≡ true → asks_first p next es ≡ true
same-first p next [] [] same m = refl
same-first p next [] (e ∷ es) same m = cc
same-first p next (d ∷ ds) [] same m = cc
same-first p next (d ∷ ds) (e ∷ es) same m =
    let parts = and_parts (same_event d e) (same_burst ds es) same in
    let asked = same-asked p next d e parts.0 in
    elim (cases_Bool (asks_for p next d)) [
      | inl t ↦
          let rest : asks_first p next ds ≡ true = ap (λ b. if b then asks_first p next ds else is_retirement d && list_all issues_no_read ds) (sym t) ∙ m in
          ap (λ b. if b then asks_first p next es else is_retirement e && list_all issues_no_read es) (sym asked ∙ t) ∙ same-first p next ds es parts.1 rest
      | inr f ↦
          let last : (is_retirement d && list_all issues_no_read ds) ≡ true = ap (λ b. if b then asks_first p next ds else is_retirement d && list_all issues_no_read ds) (sym f) ∙ m in
          let both = and_parts (is_retirement d) (list_all issues_no_read ds) last in
          ap (λ b. if b then asks_first p next es else is_retirement e && list_all issues_no_read es) (sym asked ∙ f)
          ∙ and_from _ _ (sym (same-retires d e parts.0) ∙ both.0) (sym (same-burst-all issues_no_read same-no-read ds es parts.1) ∙ both.1)
    ]

any-first : (p : ℕ) (next : Option Op) (burst : List Event) (bursts : List (List Event)) → list_any (λ move. same_burst move burst) bursts ≡ true → list_all (asks_first p next) bursts ≡ true
    → asks_first p next burst ≡ true
any-first p next burst [] some all = cc
any-first p next burst (move ∷ bursts) some all =
    let of = and_parts (asks_first p next move) (list_all (asks_first p next) bursts) all in
    elim (or_cases (same_burst move burst) (list_any (λ move. same_burst move burst) bursts) some) [
      | inl same ↦ same-first p next move burst same of.0
      | inr later ↦ any-first p next burst bursts later of.1
    ]

-- ---- runs --------------------------------------------------------------------------------------------

right-next : (plan : Plan) (past : Trace) (p : ℕ) → IsRight plan → is_none_or (next_operation plan past p) has_right_fields ≡ true
right-next plan past p right = by (next_operation plan past p) refl
  where
    by : (o : Option Op) → next_operation plan past p ≡ o → is_none_or o has_right_fields ≡ true
    by None is = refl
    by (Some op) is = (next-planned plan past p op right is).fields

step-keeps : (plan : Plan) (past : Trace) (p : ℕ) (burst : List Event) → IsRight plan → AreAsAsked plan past → is_step plan past p burst ≡ true → AreAsAsked plan (onto burst past)
step-keeps plan past p burst right before step =
    elim (reads-by-one plan past p burst step) [
      | inl none ↦ unread-all plan burst past none before
      | inr g ↦
          let next = next_operation plan past p in
          asks-first-keeps plan burst past p next refl (any-first p next burst (moves plan.ways next plan.header past p) g (moves-first plan.ways plan.header past p next (right-next plan past p right))) before
    ]

pub reads-ahead : (plan : Plan) (past : Trace) → IsRight plan → AreSteps plan past → AreAsAsked plan past
reads-ahead plan past right s =
    of-each-run plan (AreAsAsked plan) (λ p a k next. refl) (λ before p burst all step. step-keeps plan before p burst right all step) past s

-- So a read ahead fetches its line by its kind alone.
pub fetches-as-asked : (plan : Plan) (past : Trace) (p : ℕ) (op : Op) → IsRight plan → AreSteps plan past → next_operation plan past p ≡ Some op → FetchesAsAsked past p op
fetches-as-asked plan past p (Pf a k) right s next = λ some. by (segment past p) (reads-ahead plan past right s p a k next) some
  where
    by : (xs : List Transaction) → list_all (is_as_asked a k) xs ≡ true → list_any (λ x. is_read x.chan && is_on x a) xs ≡ true → list_any (is_read_of k a) xs ≡ true
    by [] all some = cc
    by (x ∷ xs) all some =
        let parts = and_parts (is_as_asked a k x) (list_all (is_as_asked a k) xs) all in
        elim (or_cases (is_read x.chan && is_on x a) (list_any (λ x. is_read x.chan && is_on x a) xs) some) [
          | inl now ↦ or_left (is_read_of k a x) _ (implied (is_read x.chan) (is_read_of k a x) parts.0 (and_parts (is_read x.chan) (is_on x a) now).0)
          | inr later ↦ or_right (is_read_of k a x) _ (by xs parts.1 later)
        ]
      where
        implied : (a b : Bool) → implies a b ≡ true → a ≡ true → b ≡ true
        implied true b t f = t
        implied false b t f = cc
fetches-as-asked plan past p op right s next = tt
