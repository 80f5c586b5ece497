-- A step reads of its plan the header, the ways and the port's next operation; a longer plan has the same, and may have a next
-- operation where the shorter one has none.
use Rattle.std.proofs.Common.{◌≡◌, ℕ, Bool, true, false, not, ◌&&◌, ◌||◌, ◌==◌, nat_le, if◌then◌else◌, List, [], ◌∷◌, ◌++◌, length, map, filter, Option, Some, None, unwrap_or, inl, inr, arith, refl, ap, ◌∙◌}
use Rattle.std.specs.Bool.{⊤}
use Rattle.std.specs.List.{list_any, flat_map}
use Rattle.std.specs.Option.{option_to_list, option_map}
use Rattle.std.proofs.lemmas.Bool.{or_cases, or_left, or_right, and_parts, and_from}
use Rattle.std.proofs.lemmas.Bool.Decides.{nat_tests}
use Rattle.std.proofs.lemmas.List.{map-append}
use Rattle.std.proofs.lemmas.List.Elements.{filter-append}
use Rattle.ace_codes.specs.declared.state.LineState.{LineState}
use Rattle.ace_model.proofs.General.Lists.{slice_get-append}
use Rattle.ace_event.specs.declared.event.Channel.TheVariants.{Read, Write}
use Rattle.ace_event.specs.declared.event.Event.{Event}
use Rattle.ace_event.specs.declared.header.Header.{Header}
use Rattle.ace_model.specs.declared.transactions.Transaction.{Transaction}
use Rattle.ace_model.specs.Trace.{Trace, is_some_and}
use Rattle.ace_model.specs.OrderRules.{retired}
use Rattle.ace_model.specs.declared.plans.Op.{Op}
use Rattle.ace_model.specs.declared.plans.PlanOp.{PlanOp}
use Rattle.ace_model.specs.Plans.{Plan}
use Rattle.ace_runs.specs.Operations.{with_more, operations_of, next_operation}
use Rattle.ace_runs.specs.Segments.{is_in_segment}
use Rattle.ace_runs.specs.SameEvents.{same_burst}
use Rattle.ace_runs.specs.MasterSteps.{end_of, acknowledge, acknowledge_in, acknowledge_for, acknowledge_of, due, has_due, is_finished, may_acknowledge, acknowledges, may_go_on, goes_on, completion_bursts}
use Rattle.ace_runs.specs.Bursts.{are_kept}
use Rattle.ace_runs.specs.Requests.{moves_of}
use Rattle.ace_runs.specs.Steps.{StepKind, step, steps, is_sound, may_give, is_enabled, is_step}

pub operations-longer : (plan : Plan) (more : List PlanOp) (p : ℕ)
    → operations_of (with_more plan more) p ≡ operations_of plan p ++ map (λ o. o.op) (filter (λ o. o.port == p) more)
operations-longer plan more p =
    ap (map (λ o. o.op)) (filter-append (λ o. o.port == p) plan.operations more)
    ∙ map-append (λ o. o.op) (filter (λ o. o.port == p) plan.operations) (filter (λ o. o.port == p) more)

-- the next operation stays
pub next-longer : (plan : Plan) (more : List PlanOp) (past : Trace) (p : ℕ) (op : Op)
    → next_operation plan past p ≡ Some op → next_operation (with_more plan more) past p ≡ Some op
next-longer plan more past p op e =
    rw (operations-longer plan more p)
    (slice_get-append (operations_of plan p) (map (λ o. o.op) (filter (λ o. o.port == p) more)) (retired past p) op e)

-- ---- a next operation where there was none -----------------------------------------------------------

or-both : {a b c d : Bool} → (a ≡ true → c ≡ true) → (b ≡ true → d ≡ true) → (a || b) ≡ true → (c || d) ≡ true
or-both {a} {b} {c} {d} f g e = elim (or_cases a b e) [ inl x ↦ or_left c d (f x) | inr y ↦ or_right c d (g y) ]

and-both : {a b c d : Bool} → (a ≡ true → c ≡ true) → (b ≡ true → d ≡ true) → (a && b) ≡ true → (c && d) ≡ true
and-both {a} {b} {c} {d} f g e = let parts = and_parts a b e in and_from c d (f parts.0) (g parts.1)

-- no burst that isn't empty is that of an acknowledge that lacks its operation
same-later : (b : Bool) (later plain burst : List Event) → nat_le 1 (length burst) ≡ true
    → same_burst (if b then [] else plain) burst ≡ true → same_burst (if b then later else plain) burst ≡ true
same-later false later plain burst some s = s
same-later true later plain [] some s = cc
same-later true later plain (e ∷ burst) some s = cc

ends-later : (op : Op) (h : Header) (past : Trace) (x : Transaction) (o : Option LineState) (burst : List Event) → nat_le 1 (length burst) ≡ true
    → same_burst (unwrap_or (option_map (acknowledge_in None h past x) o) []) burst ≡ true
    → same_burst (unwrap_or (option_map (acknowledge_in (Some op) h past x) o) []) burst ≡ true
ends-later op h past x None burst some s = s
ends-later op h past x (Some st) burst some s = same-later (is_in_segment past x) (acknowledge_for h past x (Some op) st) (acknowledge x st) burst some s

due-later : (op : Op) (h : Header) (past : Trace) (o : Option Transaction) (burst : List Event) → nat_le 1 (length burst) ≡ true
    → is_some_and o (λ x. same_burst (acknowledge_of None h past x) burst) ≡ true
    → is_some_and o (λ x. same_burst (acknowledge_of (Some op) h past x) burst) ≡ true
due-later op h past None burst some s = s
due-later op h past (Some x) burst some s = ends-later op h past x (end_of h past x) burst some s

never : (a c : Bool) → (a && false) ≡ true → c ≡ true
never true c e = cc
never false c e = cc

never-finished : (op : Op) (h : Header) (past : Trace) (p : ℕ) → is_finished None h past p ≡ true → is_finished (Some op) h past p ≡ true
never-finished op h past p e = never (not (has_due h past p)) (is_finished (Some op) h past p) e

acknowledges-later : (op : Op) (h : Header) (past : Trace) (p : ℕ) (burst : List Event) → nat_le 1 (length burst) ≡ true
    → acknowledges None h past p burst ≡ true → acknowledges (Some op) h past p burst ≡ true
acknowledges-later op h past p burst some =
    or-both (or-both (due-later op h past (due h past p Read) burst some) (due-later op h past (due h past p Write) burst some))
    (and-both (never-finished op h past p) (λ e. e))

may_acknowledge-later : (op : Op) (h : Header) (past : Trace) (p : ℕ) → may_acknowledge None h past p ≡ true → may_acknowledge (Some op) h past p ≡ true
may_acknowledge-later op h past p = or-both (λ e. e) (never-finished op h past p)

some-more : (cs ms : List (List Event)) → not (length (cs ++ []) == 0) ≡ true → not (length (cs ++ ms) == 0) ≡ true
some-more [] ms e = cc
some-more (c ∷ cs) ms e = grind (arith, nat_tests)

any-more : (test : List Event → Bool) (cs ms : List (List Event)) → list_any test (cs ++ []) ≡ true → list_any test (cs ++ ms) ≡ true
any-more test [] ms e = cc
any-more test (c ∷ cs) ms e = or-both (λ x. x) (any-more test cs ms) e

may_go_on-later : (ways : ℕ) (op : Op) (h : Header) (past : Trace) (p : ℕ) → may_go_on ways None h past p ≡ true → may_go_on ways (Some op) h past p ≡ true
may_go_on-later ways op h past p = some-more (completion_bursts h past p) (flat_map (moves_of ways h past p) (option_to_list (Some op)))

goes_on-later : (ways : ℕ) (op : Op) (h : Header) (past : Trace) (p : ℕ) (burst : List Event)
    → goes_on ways None h past p burst ≡ true → goes_on ways (Some op) h past p burst ≡ true
goes_on-later ways op h past p burst =
    any-more (λ move. same_burst move burst) (completion_bursts h past p) (flat_map (moves_of ways h past p) (option_to_list (Some op)))

-- each of the second list passes the test where the one in its place of the first does
abbrev Implied : (StepKind → Bool) → List StepKind → List StepKind → Type 0
Implied test [] ys = ⊤
Implied test (x ∷ xs) [] = ⊥
Implied test (x ∷ xs) (y ∷ ys) = (test x ≡ true → test y ≡ true) × Implied test xs ys

any-implied : (test : StepKind → Bool) (xs ys : List StepKind) → Implied test xs ys → list_any test xs ≡ true → list_any test ys ≡ true
any-implied test [] ys i e = cc
any-implied test (x ∷ xs) [] i e = absurd i
any-implied test (x ∷ xs) (y ∷ ys) i e = or-both i.0 (any-implied test xs ys i.1) e

-- the fourteen tests, where those of steps 4 and 14 go on to hold
any-of-steps : (test : StepKind → Bool) (ways : ℕ) (op : Op)
    → (test (step 4 (may_acknowledge None) (acknowledges None)) ≡ true → test (step 4 (may_acknowledge (Some op)) (acknowledges (Some op))) ≡ true)
    → (test (step 14 (may_go_on ways None) (goes_on ways None)) ≡ true → test (step 14 (may_go_on ways (Some op)) (goes_on ways (Some op))) ≡ true)
    → list_any test (steps ways None) ≡ true → list_any test (steps ways (Some op)) ≡ true
any-of-steps test ways op four last =
    any-implied test (steps ways None) (steps ways (Some op))
    ((λ e. e), ((λ e. e), ((λ e. e), (four, ((λ e. e), ((λ e. e), ((λ e. e), ((λ e. e), ((λ e. e), ((λ e. e), ((λ e. e), ((λ e. e), ((λ e. e), (last, tt))))))))))))))

enabled-later : (ways : ℕ) (op : Op) (h : Header) (past : Trace) (p : ℕ)
    → list_any (λ s. s.is_enabled h past p) (steps ways None) ≡ true → list_any (λ s. s.is_enabled h past p) (steps ways (Some op)) ≡ true
enabled-later ways op h past p = any-of-steps (λ s. s.is_enabled h past p) ways op (may_acknowledge-later op h past p) (may_go_on-later ways op h past p)

gives-later : (ways : ℕ) (op : Op) (h : Header) (past : Trace) (p : ℕ) (burst : List Event) → nat_le 1 (length burst) ≡ true
    → list_any (may_give h past p burst) (steps ways None) ≡ true
    → list_any (may_give h past p burst) (steps ways (Some op)) ≡ true
gives-later ways op h past p burst some =
    any-of-steps (may_give h past p burst) ways op
    (and-both {a = may_acknowledge None h past p} {b = acknowledges None h past p burst} {c = may_acknowledge (Some op) h past p} {d = acknowledges (Some op) h past p burst} (may_acknowledge-later op h past p) (acknowledges-later op h past p burst some))
    (and-both {a = may_go_on ways None h past p} {b = goes_on ways None h past p burst} {c = may_go_on ways (Some op) h past p} {d = goes_on ways (Some op) h past p burst} (may_go_on-later ways op h past p) (goes_on-later ways op h past p burst))

-- what is there stays there, and there may be something where nothing was
abbrev Stays : Option Op → Option Op → Type 0
Stays next later = (op : Op) → next ≡ Some op → later ≡ Some op

enabled-stays : (ways : ℕ) (next later : Option Op) (h : Header) (past : Trace) (p : ℕ) → Stays next later
    → list_any (λ s. s.is_enabled h past p) (steps ways next) ≡ true → list_any (λ s. s.is_enabled h past p) (steps ways later) ≡ true
enabled-stays ways (Some op) later h past p stays e = rw (stays op refl) e
enabled-stays ways None None h past p stays e = e
enabled-stays ways None (Some op) h past p stays e = enabled-later ways op h past p e

gives-stays : (ways : ℕ) (next later : Option Op) (h : Header) (past : Trace) (p : ℕ) (burst : List Event) → nat_le 1 (length burst) ≡ true → Stays next later
    → list_any (may_give h past p burst) (steps ways next) ≡ true
    → list_any (may_give h past p burst) (steps ways later) ≡ true
gives-stays ways (Some op) later h past p burst some stays e = rw (stays op refl) e
gives-stays ways None None h past p burst some stays e = e
gives-stays ways None (Some op) h past p burst some stays e = gives-later ways op h past p burst some e

pub enabled-longer : (plan : Plan) (more : List PlanOp) (past : Trace) (p : ℕ) → is_enabled plan past p ≡ true → is_enabled (with_more plan more) past p ≡ true
enabled-longer plan more past p =
    enabled-stays plan.ways (next_operation plan past p) (next_operation (with_more plan more) past p) plan.header past p (next-longer plan more past p)

pub step-longer : (plan : Plan) (more : List PlanOp) (past : Trace) (p : ℕ) (burst : List Event)
    → is_step plan past p burst ≡ true → is_step (with_more plan more) past p burst ≡ true
step-longer plan more past p burst s =
    let parts = and_parts (is_sound plan.header past burst) (list_any (may_give plan.header past p burst) (steps plan.ways (next_operation plan past p))) s in
    let sound = and_parts (nat_le 1 (length burst) && nat_le (length burst) 16) (are_kept plan.header past burst) parts.0 in
    let some = (and_parts (nat_le 1 (length burst)) (nat_le (length burst) 16) sound.0).0 in
    and_from (is_sound plan.header past burst)
    (list_any (may_give plan.header past p burst) (steps plan.ways (next_operation (with_more plan more) past p)))
    parts.0
    (gives-stays plan.ways (next_operation plan past p) (next_operation (with_more plan more) past p) plan.header past p burst some (next-longer plan more past p) parts.1)
