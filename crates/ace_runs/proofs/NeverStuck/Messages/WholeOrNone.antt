-- Between the steps of a run each message was forwarded to a port in all its parts or in none.
use Rattle.std.proofs.Common.{◌≡◌, ◌≢◌, ◌⊎◌, ℕ, ◌-◌, ◌≤◌, Bool, true, false, not, ◌&&◌, ◌==◌, nat_lt, if◌then◌else◌, List, [], ◌∷◌, ◌++◌, length, append_assoc, Option, Some, None, inl, inr, refl, sym, ap, subst, ◌∙◌, arith}
use Rattle.std.specs.List.{list_all, list_any}
use Rattle.std.proofs.lemmas.Bool.{and_parts, and_from, cases_Bool, cases_lt, eq-eqb, false_from_ne_true, ne_eqb, or_left}
use Rattle.ace_event.specs.declared.event.Event.{Event}
use Rattle.ace_model.specs.declared.transactions.Transaction.{Transaction}
use Rattle.ace_model.specs.Messages.{first_waiting, forwarded, has_part, has_second, is_message_part, parts_among, parts_for, parts_in, parts_with}
use Rattle.ace_model.specs.Plans.{Plan}
use Rattle.ace_model.specs.Trace.{Trace, at_point}
use Rattle.ace_model.specs.Transactions.{issued}
use Rattle.ace_model.proofs.Dvm.Parts.{part-placed, parts-before, parts-placed}
use Rattle.ace_model.proofs.General.Lists.{any-left, any-right, start-any}
use Rattle.ace_model.proofs.Trace.Growth.{IsIssued, at_point-before, at_point-end, at_point-grown, issued-cases, issued_at-grown}
use Rattle.ace_model.proofs.Trace.Issued.{issued-place}
use Rattle.ace_model.proofs.Trace.Places.{at_point-last, at_point-twice}
use Rattle.ace_runs.specs.OrderSteps.{message_of}
use Rattle.ace_runs.specs.Steps.{AreSteps}
use Rattle.ace_runs.proofs.NeverStuck.Forwarding.Waiting.{waiting-apart}
use Rattle.ace_runs.proofs.NeverStuck.Forwarding.Whole.{messages-whole}

-- all of these are among the parts, none of them is
abbrev pub has_all : List Transaction → List Transaction → Bool
has_all parts xs = list_all (has_part parts) xs

abbrev pub has_some : List Transaction → List Transaction → Bool
has_some parts xs = list_any (has_part parts) xs

-- ---- all of a message --------------------------------------------------------------------------------

has-more : (parts more xs : List Transaction) → has_all parts xs ≡ true → has_all (parts ++ more) xs ≡ true
has-more parts more [] all = refl
has-more parts more (x ∷ xs) all =
    let of = and_parts (has_part parts x) (has_all parts xs) all in
    and_from _ _ (any-left (λ y. y.place == x.place) parts more of.0) (has-more parts more xs of.1)

has-itself : (parts xs : List Transaction) → has_all (parts ++ xs) xs ≡ true
has-itself parts [] = refl
has-itself parts (x ∷ xs) =
    and_from _ _
    (any-right (λ y. y.place == x.place) parts (x ∷ xs) (or_left (x.place == x.place) _ (eq-eqb x.place x.place refl)))
    (subst (λ l. has_all l xs ≡ true) (append_assoc parts (x ∷ []) xs) (has-itself (parts ++ x ∷ []) xs))

-- the parts of a message that was issued are for each other port
parts-there : (past : Trace) (x : Transaction) (q : ℕ) → IsIssued past x → is_message_part x ≡ true → x.port ≢ q → has_all (parts_for past q) (message_of past x) ≡ true
parts-there [] x q i part other = let low = i.before in absurd (omega (arith, low))
parts-there (e ∷ past) x q i part other =
    elim (issued-cases e past x i) [
      | inl new ↦
          let now = at_point-last e past x.place (issued-place (length past) e x new) in
          let both : (is_message_part x && not (x.port == q)) ≡ true = and_from _ _ part (ap not (ne_eqb x.port q other)) in
          let added : parts_in past (issued (length past) e) q ≡ parts_with (first_waiting past x.port) x =
          ap (λ o. parts_in past o q) new ∙ ap (λ b. if b then parts_with (first_waiting past x.port) x else []) both in
          ap (λ t. has_all (parts_for past q ++ parts_in past (issued (length past) e) q) (parts_with (first_waiting t x.port) x)) now
          ∙ ap (λ l. has_all (parts_for past q ++ l) (parts_with (first_waiting past x.port) x)) added
          ∙ has-itself (parts_for past q) (parts_with (first_waiting past x.port) x)
      | inr old ↦
          let low = old.before in
          let before = at_point-before e past x.place (omega (arith, low)) in
          ap (λ t. has_all (parts_for past q ++ parts_in past (issued (length past) e) q) (parts_with (first_waiting t x.port) x)) before
          ∙ has-more (parts_for past q) (parts_in past (issued (length past) e) q) (message_of past x) (parts-there past x q old part other)
    ]

-- ---- none of a message -------------------------------------------------------------------------------

none-among : (parts : List Transaction) (o : Option Transaction) (x : Transaction) → ((g : Transaction) → o ≡ Some g → has_part parts g ≡ false) → has_part parts x ≡ false
    → has_some parts (parts_with o x) ≡ false
none-among parts (Some g) x first last = rw (first g refl, last) refl
none-among parts None x first last =
    elim (cases_Bool (has_second x.addr)) [
      | inl t ↦ rw t refl
      | inr f ↦ rw (f, last) refl
    ]

-- the parts of a message that is issued later aren't among those for the port
parts-later : (past : Trace) (x : Transaction) (q n : ℕ) → x.place ≤ length past → n ≤ x.place → length (at_point n past) ≤ n → has_some (parts_for (at_point n past) q) (message_of past x) ≡ false
parts-later past x q n within late short =
    none-among (parts_for (at_point n past) q) (first_waiting (at_point x.place past) x.port) x
    (λ g waits. false_from_ne_true (has_part (parts_for (at_point n past) q) g) (λ has.
    let start = parts-before (length (at_point x.place past) - n) (at_point x.place past) q in
    let earlier : has_part (parts_for (at_point n (at_point x.place past)) q) g ≡ true = ap (λ t. has_part (parts_for t q) g) (at_point-twice past n x.place late within) ∙ has in
    waiting-apart (at_point x.place past) x.port q g waits
    (start-any (λ y. y.place == g.place) (parts_for (at_point n (at_point x.place past)) q) (parts_for (at_point x.place past) q) start earlier)))
    (false_from_ne_true (has_part (parts_for (at_point n past) q) x) (λ has.
    let low = part-placed (parts_for (at_point n past) q) (length (at_point n past)) x (parts-placed (at_point n past) q) has in
    absurd (omega (arith, low, short, late))))

-- ---- messages of a run -------------------------------------------------------------------------------

-- where what was forwarded is what was for the port at an earlier point
all-or-none : (later : List Event) (before : Trace) (x : Transaction) (q : ℕ) → IsIssued (later ++ before) x → is_message_part x ≡ true → x.port ≢ q
    → (has_all (parts_for before q) (message_of (later ++ before) x) ≡ true) ⊎ (has_some (parts_for before q) (message_of (later ++ before) x) ≡ false)
all-or-none later before x q i part other =
    elim (cases_lt x.place (length before)) [
      | inl low ↦
          let was : IsIssued before x = record { there = sym (issued_at-grown later before x.place low) ∙ i.there; before = low } in
          let same = at_point-grown later before x.place (omega (arith, low)) in
          inl (ap (λ t. has_all (parts_for before q) (parts_with (first_waiting t x.port) x)) same ∙ parts-there before x q was part other)
      | inr late ↦
          let past = later ++ before in
          let n = length before in
          let in_past = i.before in
          let here : at_point (length before) (later ++ before) ≡ before = at_point-grown later before n (omega arith) ∙ at_point-end before n refl in
          let none = parts-later past x q n (omega (arith, in_past)) late (let long = ap length here in omega (arith, long)) in
          inr (ap (λ t. has_some (parts_for t q) (message_of past x)) (sym here) ∙ none)
    ]

-- A message was forwarded to each port of the header but its own in all its parts or in none.
pub whole-or-none : (plan : Plan) (past : Trace) (x : Transaction) (q : ℕ) → AreSteps plan past → nat_lt q plan.header.ports ≡ true → IsIssued past x → is_message_part x ≡ true → x.port ≢ q
    → (has_all (parts_among (forwarded past q)) (message_of past x) ≡ true) ⊎ (has_some (parts_among (forwarded past q)) (message_of past x) ≡ false)
whole-or-none plan past x q s low i part other =
    let w = messages-whole plan past s q low in
    let either = all-or-none w.0 w.1 x q (subst (λ t. IsIssued t x) (sym w.2) i) part other in
    elim either [
      | inl all ↦ inl (ap (λ l. has_all l (message_of past x)) w.3 ∙ ap (λ t. has_all (parts_for w.1 q) (message_of t x)) (sym w.2) ∙ all)
      | inr none ↦ inr (ap (λ l. has_some l (message_of past x)) w.3 ∙ ap (λ t. has_some (parts_for w.1 q) (message_of t x)) (sym w.2) ∙ none)
    ]
