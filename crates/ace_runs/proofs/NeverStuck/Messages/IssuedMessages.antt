-- A step issues whole messages: for an operation of a right plan step 14 issues a part alone that no second part follows, or both parts.
use Rattle.std.proofs.Common.{◌≡◌, ℕ, Bool, true, false, not, ◌&&◌, ◌||◌, ◌==◌, if◌then◌else◌, List, [], ◌∷◌, ◌++◌, map, filter, Option, Some, None, is_none, slice_get, zero, suc, inl, inr, refl, sym, ap, subst}
use Rattle.std.specs.List.{list_all, list_any, flat_map}
use Rattle.std.specs.Option.{option_to_list}
use Rattle.std.proofs.lemmas.Bool.{and_parts, and_from, or_cases, cases_Bool, eqb-true, eq-eqb, not-true, or_left}
use Rattle.ace_codes.specs.declared.kind.ArKind.{ArKind}
use Rattle.ace_codes.specs.declared.kind.ArKind.TheVariants as read
use Rattle.ace_codes.specs.declared.kind.AwKind.{AwKind}
use Rattle.ace_codes.specs.declared.kind.AwKind.TheVariants as write
use Rattle.ace_codes.specs.declared.state.LineState.{LineState}
use Rattle.ace_codes.specs.Reads.{ar_code, ar_kind_of}
use Rattle.ace_codes.specs.Writes.{aw_code}
use Rattle.ace_event.specs.declared.event.Channel.TheVariants.{Read, Write}
use Rattle.ace_event.specs.declared.event.Event.{Event}
use Rattle.ace_event.specs.declared.event.Event.TheVariants.{Ar, Aw}
use Rattle.ace_event.specs.declared.header.Header.{Header}
use Rattle.ace_tables.specs.Answers.{same_test}
use Rattle.ace_tables.specs.EndStates.{is_fetch}
use Rattle.ace_tables.specs.States.{is_dirty, is_invalid}
use Rattle.ace_model.specs.declared.plans.Op.{Op}
use Rattle.ace_model.specs.declared.plans.Op.TheVariants as op
use Rattle.ace_model.specs.declared.plans.PlanOp.{PlanOp}
use Rattle.ace_model.specs.AddressRules.{has_write, is_aligned, keeps_apart}
use Rattle.ace_model.specs.Kinds.{is_dvm_message, is_no_snoop_read, is_no_snoop_write, is_unique_write}
use Rattle.ace_model.specs.Messages.{has_second, is_message_word, is_sync_word}
use Rattle.ace_model.specs.Plans.{AreRightAfter, IsRight, Plan, has_right_fields, line_named}
use Rattle.ace_model.specs.States.{state_of}
use Rattle.ace_model.specs.Trace.{Trace, implies, is_none_or}
use Rattle.ace_model.specs.Transactions.{has_outstanding_on, is_ace}
use Rattle.ace_model.specs.OrderRules.{retired}
use Rattle.ace_model.proofs.General.Booleans.{not_both}
use Rattle.ace_model.proofs.General.Options.{Some-injective}
use Rattle.ace_runs.specs.Acts.{memory_bar, synchronisation_bar}
use Rattle.ace_runs.specs.Bursts.{onto}
use Rattle.ace_runs.specs.Closing.{and_closing, closing_of, state_named}
use Rattle.ace_runs.specs.Follows.{owes_completion}
use Rattle.ace_runs.specs.HeldLines.{held_lines}
use Rattle.ace_runs.specs.MasterSteps.{completion_bursts, goes_on, moves}
use Rattle.ace_runs.specs.Operations.{next_operation}
use Rattle.ace_runs.specs.Requests.{Request, Reads, Misses, Writes, Drops, Barriers, Messages, and_part, barrier_halves, bursts_of, domain_for, drop_bursts, ends_or_asks, free_on, free_on_both, gives_up_first, has_room, is_waiting, moves_of, read_bursts, request_of, room_bursts, victim_bursts, write_bursts}
use Rattle.ace_runs.specs.SameEvents.{same_burst}
use Rattle.ace_runs.proofs.NeverStuck.Steps.SameEvents.{same_test-self}
use Rattle.ace_runs.proofs.NeverStuck.Steps.Lists.{all-append, all-flat_map, all-flat_mapped, all-if, all-map, all-mapped}
use Rattle.ace_runs.proofs.NeverStuck.Messages.WholeIssues.{closed-whole, closing-none, is_whole, issues_none, leads, leads-append, none-leads, same-leads}

-- ---- requests ----------------------------------------------------------------------------------------

-- no second part follows a message of one part, and one follows the first of two; a barrier has the bar of one
abbrev fits_message : Request → Bool
fits_message (Reads k a lock) = implies (is_dvm_message k) (not (has_second a))
fits_message (Misses k a lock) = not (is_dvm_message k)
fits_message (Barriers bar) = (bar == memory_bar) || (bar == synchronisation_bar)
fits_message (Messages word second) = has_second word
fits_message _ = true

abbrev are_whole : ℕ → List (List Event) → Bool
are_whole p bursts = list_all (is_whole p) bursts

-- the AR of a part
part-leads : (p i a : ℕ) (was later lock : Bool) → not was && has_second a ≡ later → leads p was later (Ar p i a (ar_code read.DvmMessage) 1 0 lock ∷ []) ≡ true
unfolding ar_kind_of
part-leads p i a was later lock same = and_from _ _ (eq-eqb p p refl) (subst (λ b. same_test b later ≡ true) (sym same) (same_test-self later))

read-whole : (k : ArKind) (p i a : ℕ) (lock : Bool) → implies (is_dvm_message k) (not (has_second a)) ≡ true
    → is_whole p (Ar p i a (ar_code k) (domain_for (is_no_snoop_read k)) 0 lock ∷ []) ≡ true
unfolding ar_kind_of
read-whole read.DvmMessage p i a lock fits = part-leads p i a false false lock (not-true (has_second a) fits)
read-whole k p i a lock fits = refl

barrier-whole : (p i bar : ℕ) → (bar == memory_bar) || (bar == synchronisation_bar) ≡ true → is_whole p (barrier_halves p bar i) ≡ true
unfolding ar_kind_of
barrier-whole p i bar is =
    elim (or_cases (bar == memory_bar) (bar == synchronisation_bar) is) [
      | inl t ↦ rw (eqb-true bar memory_bar t) refl
      | inr t ↦ rw (eqb-true bar synchronisation_bar t) refl
    ]

reads-whole : (h : Header) (past : Trace) (p : ℕ) (k : ArKind) (a : ℕ) (lock : Bool) → implies (is_dvm_message k) (not (has_second a)) ≡ true → are_whole p (read_bursts h past p k a lock) ≡ true
reads-whole h past p k a lock fits =
    all-map (is_whole p) (λ i. Ar p i a (ar_code k) (domain_for (is_no_snoop_read k)) 0 lock ∷ []) (option_to_list (free_on h past p Read)) (λ i. read-whole k p i a lock fits)

writes-whole : (h : Header) (past : Trace) (p : ℕ) (k : AwKind) (a : ℕ) → are_whole p (write_bursts h past p k a) ≡ true
writes-whole h past p k a =
    all-if (is_whole p) (keeps_apart h past p k) _ []
    (all-map (is_whole p) (λ i. Aw p i a (aw_code k) (domain_for (is_no_snoop_write k)) 0 ∷ []) (option_to_list (free_on h past p Write)) (λ i. refl)) refl

-- the bursts of the AR of a part, after events
parts-lead : (h : Header) (past : Trace) (p a : ℕ) (was later : Bool) → not was && has_second a ≡ later → list_all (leads p was later) (read_bursts h past p read.DvmMessage a false) ≡ true
parts-lead h past p a was later same =
    all-map (leads p was later) (λ i. Ar p i a (ar_code read.DvmMessage) 1 0 false ∷ []) (option_to_list (free_on h past p Read)) (λ i. part-leads p i a was later false same)

and-part-leads : (h : Header) (past : Trace) (p a : ℕ) (was mid later : Bool) (burst : List Event) → not mid && has_second a ≡ later → leads p was mid burst ≡ true
    → list_all (leads p was later) (and_part h past p a burst) ≡ true
and-part-leads h past p a was mid later burst same b =
    all-mapped (leads p mid later) (leads p was later) (λ part. burst ++ part) (read_bursts h (onto burst past) p read.DvmMessage a false)
    (λ part m. leads-append p was mid later burst part b m) (parts-lead h (onto burst past) p a mid later same)

requests-whole : (h : Header) (past : Trace) (p : ℕ) (r : Request) (ways : ℕ) → fits_message r ≡ true → are_whole p (bursts_of ways h past p r) ≡ true
requests-whole h past p (Reads k a lock) ways fits = reads-whole h past p k a lock fits
requests-whole h past p (Misses k a lock) ways fits =
    all-if (is_whole p) (has_room ways h past p) _ _ (reads-whole h past p k a lock (or_left (not (is_dvm_message k)) (not (has_second a)) fits)) rooms
  where
    victim : (a : ℕ) → are_whole p (victim_bursts h past p a) ≡ true
    victim a =
        all-if (is_whole p) (is_dirty (state_of h past p a)) (write_bursts h past p write.WriteBack a) (drop_bursts p a) (writes-whole h past p write.WriteBack a) refl

    rooms : are_whole p (room_bursts h past p) ≡ true
    rooms =
        all-if (is_whole p) (is_none (free_on h past p Write) || has_write h past p is_unique_write) [] (flat_map (victim_bursts h past p) (filter (λ a. not (has_outstanding_on h past p a)) (held_lines h past p))) refl
        (all-flat_map (is_whole p) (victim_bursts h past p) (filter (λ a. not (has_outstanding_on h past p a)) (held_lines h past p)) victim)
requests-whole h past p (Writes k a) ways fits = writes-whole h past p k a
requests-whole h past p (Drops a) ways fits = refl
requests-whole h past p (Barriers bar) ways fits = all-map (is_whole p) (barrier_halves p bar) (option_to_list (free_on_both h past p)) (λ i. barrier-whole p i bar fits)
requests-whole h past p (Messages word second) ways fits =
    all-flat_mapped (leads p false true) (is_whole p) (and_part h past p second) (and_part h past p word [])
    (λ burst b. and-part-leads h past p second false true false burst refl b) (and-part-leads h past p word false false true [] fits refl)

-- ---- operations --------------------------------------------------------------------------------------

fits-if : (b : Bool) (r s : Request) → fits_message r ≡ true → fits_message s ≡ true → fits_message (if b then r else s) ≡ true
fits-if true r s x y = x
fits-if false r s x y = y

gives-up-fits : (a : ℕ) (st : LineState) (r : Request) → fits_message r ≡ true → fits_message (gives_up_first a st r) ≡ true
gives-up-fits a st r fits = fits-if (is_invalid st) r _ fits (fits-if (is_dirty st) (Writes write.WriteBack a) (Drops a) refl refl)

fetch-no-message : (k : ArKind) → is_fetch k ≡ true → not (is_dvm_message k) ≡ true
fetch-no-message read.DvmMessage f = cc
fetch-no-message k f = refl

-- what an operation with right fields asks for
request-fits : (o : Op) (st : LineState) → has_right_fields o ≡ true → fits_message (request_of o st) ≡ true
request-fits (op.St a w word) st right = fits-if (is_invalid st) (Misses read.ReadUnique a false) (Reads read.CleanUnique a false) refl refl
request-fits (op.Fill a line) st right = fits-if (is_invalid st) (Misses read.MakeUnique a false) (Reads read.MakeUnique a false) refl refl
request-fits (op.Pf a k) st right = fetch-no-message k right
request-fits (op.Ro a) st right = gives-up-fits a st (Reads read.ReadOnce a false) refl
request-fits (op.Ci a) st right = gives-up-fits a st (Reads read.CleanInvalid a false) refl
request-fits (op.Mi a) st right = gives-up-fits a st (Reads read.MakeInvalid a false) refl
request-fits (op.Wu a strobe line) st right = gives-up-fits a st (Writes write.WriteUnique a) refl
request-fits (op.Wlu a line) st right = gives-up-fits a st (Writes write.WriteLineUnique a) refl
request-fits (op.Cs a) st right = fits-if (is_dirty st) (Writes write.WriteClean a) (Reads read.CleanShared a false) refl refl
request-fits (op.Dvm word) st right = (and_parts (is_message_word word && not (is_sync_word word)) (not (has_second word)) right).1
request-fits (op.Sync word) st right =
    let parts = and_parts (is_message_word word) (is_sync_word word) right in
    ap not (not_both _ (is_sync_word word) (has_second word) parts.0 parts.1)
request-fits (op.Dvm2 word second) st right = (and_parts (is_message_word word) (has_second word) right).1
request-fits o st right = refl

ends-or-asks-whole : (ways : ℕ) (h : Header) (past : Trace) (p : ℕ) (o : Op) (end : List Event) → has_right_fields o ≡ true → list_all issues_none end ≡ true
    → are_whole p (ends_or_asks ways h past p o end) ≡ true
ends-or-asks-whole ways h past p o [] right none =
    all-mapped (is_whole p) (is_whole p) (and_closing h past p o) (bursts_of ways h past p (request_of o (state_named h past p o)))
    (closed-whole h past p o) (requests-whole h past p (request_of o (state_named h past p o)) ways (request-fits o (state_named h past p o) right))
ends-or-asks-whole ways h past p o (e ∷ end) right none = and_from _ _ (none-leads p false (e ∷ end) none) refl

moves-of-whole : (ways : ℕ) (h : Header) (past : Trace) (p : ℕ) (o : Op) → has_right_fields o ≡ true → are_whole p (moves_of ways h past p o) ≡ true
moves-of-whole ways h past p o right =
    all-if (is_whole p) (is_waiting h past p o) [] _ refl (ends-or-asks-whole ways h past p o (closing_of h past p o) right (closing-none h past p o))

next-moves-whole : (ways : ℕ) (h : Header) (past : Trace) (p : ℕ) (next : Option Op) → is_none_or next has_right_fields ≡ true
    → are_whole p (flat_map (moves_of ways h past p) (option_to_list next)) ≡ true
next-moves-whole ways h past p None right = refl
next-moves-whole ways h past p (Some o) right = all-append (is_whole p) (moves_of ways h past p o) [] (moves-of-whole ways h past p o right) refl

completions-whole : (h : Header) (past : Trace) (p : ℕ) → are_whole p (completion_bursts h past p) ≡ true
unfolding ar_kind_of
completions-whole h past p =
    all-if (is_whole p) (is_ace h p && owes_completion past p) _ []
    (all-map (is_whole p) (λ i. Ar p i 0 (ar_code read.DvmComplete) 1 0 false ∷ []) (option_to_list (free_on h past p Read)) (λ i. refl)) refl

any-whole : (p : ℕ) (burst : List Event) (bursts : List (List Event)) → list_any (λ move. same_burst move burst) bursts ≡ true → are_whole p bursts ≡ true → is_whole p burst ≡ true
any-whole p burst [] s m = cc
any-whole p burst (move ∷ bursts) s m =
    let of = and_parts (is_whole p move) (are_whole p bursts) m in
    elim (or_cases (same_burst move burst) _ s) [ inl same ↦ same-leads p false false move burst same of.0 | inr later ↦ any-whole p burst bursts later of.1 ]

-- the operations of a right plan have right fields
right-fields : (h : Header) (before operations : List PlanOp) (p n : ℕ) (o : Op) → AreRightAfter h before operations
    → slice_get (map (λ (o : PlanOp). o.op) (filter (λ o. o.port == p) operations)) n ≡ Some o → has_right_fields o ≡ true
right-fields h before [] p n o right there = cc
right-fields h before (first ∷ operations) p n o right there =
    elim (cases_Bool (first.port == p)) [
      | inr f ↦ right-fields h (before ++ first ∷ []) operations p n o right.1 (rw f at there)
      | inl t ↦ by (λ m is. right-fields h (before ++ first ∷ []) operations p m o right.1 is) n (rw t at there)
    ]
  where
    by : ((m : ℕ) → slice_get (map (λ (o : PlanOp). o.op) (filter (λ o. o.port == p) operations)) m ≡ Some o → has_right_fields o ≡ true) → (n : ℕ)
        → slice_get (first.op ∷ map (λ (o : PlanOp). o.op) (filter (λ o. o.port == p) operations)) n ≡ Some o → has_right_fields o ≡ true
    by rest zero is =
        let fields = (and_parts (is_none_or (line_named first.op) is_aligned) (has_right_fields first.op) right.0.range).1 in
        subst (λ v. has_right_fields v ≡ true) (Some-injective first.op o is) fields
    by rest (suc n) is = rest n is

pub next-right : (plan : Plan) (past : Trace) (p : ℕ) → IsRight plan → is_none_or (next_operation plan past p) has_right_fields ≡ true
next-right plan past p right = by (next_operation plan past p) refl
  where
    by : (next : Option Op) → next_operation plan past p ≡ next → is_none_or next has_right_fields ≡ true
    by None is = refl
    by (Some o) is = right-fields plan.header [] plan.operations p (retired past p) o right.operations is

-- Step 14 issues whole messages of its port, for a right plan.
pub goes-on-whole : (plan : Plan) (past : Trace) (p : ℕ) (burst : List Event) → IsRight plan → goes_on plan.ways (next_operation plan past p) plan.header past p burst ≡ true
    → is_whole p burst ≡ true
goes-on-whole plan past p burst right g =
    let h = plan.header in
    let next = next_operation plan past p in
    any-whole p burst (moves plan.ways next h past p) g
    (all-append (is_whole p) (completion_bursts h past p) (flat_map (moves_of plan.ways h past p) (option_to_list next)) (completions-whole h past p)
    (next-moves-whole plan.ways h past p next (next-right plan past p right)))
