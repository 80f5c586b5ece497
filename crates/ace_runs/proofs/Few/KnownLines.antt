-- How many lines a trace names, and that each event names a port.
use Rattle.std.proofs.Common.{◌≡◌, ℕ, ◌≤◌, Bool, true, false, not, ◌&&◌, ◌||◌, ◌==◌, List, [], ◌∷◌, length, map, Option, Some, None, is_some, unwrap_or, refl, ap, subst, ◌∙◌, inl, inr, arith}
use Rattle.std.proofs.lemmas.Bool.{and_parts, cases_Bool, cases_eq, eq-eqb, eqb-true, ne_eqb, not-true, or_cases}
use Rattle.std.proofs.lemmas.List.{length-map}
use Rattle.std.specs.List.{list_any}
use Rattle.ace_event.specs.declared.event.Event.{Event}
use Rattle.ace_event.specs.declared.event.Event.TheVariants.{Mem}
use Rattle.ace_event.specs.declared.header.Header.{Header}
use Rattle.ace_tables.specs.Answers.{same_test}
use Rattle.ace_model.specs.declared.plans.PlanOp.{PlanOp}
use Rattle.ace_model.specs.declared.transactions.Transaction.{Transaction}
use Rattle.ace_model.specs.Accepted.{IsAccepted}
use Rattle.ace_model.specs.AddressRules.{is_no_snoop}
use Rattle.ace_model.specs.Lines.{add_line, is_known, known_lines, names_new_line}
use Rattle.ace_model.specs.Plans.{Plan, line_named, wants_no_snoop}
use Rattle.ace_model.specs.Trace.{Trace, is_some_and, port_of}
use Rattle.ace_model.specs.Transactions.{is_line, is_on, issued}
use Rattle.ace_model.proofs.General.Booleans.{implies-at}
use Rattle.ace_model.proofs.General.Options.{is_none_or-at, is_some_and-is}
use Rattle.ace_runs.specs.Lean.{IsLean, is_on_named_line, is_one_of_three, is_one_of_two}
use Rattle.ace_runs.specs.Operations.{names}
use Rattle.ace_runs.proofs.Few.Counting.{one, one-most}
use Rattle.ace_runs.proofs.Few.Sorts.{none-opens}
use Rattle.ace_runs.proofs.Few.Sums.{each_bounds, times}

-- a known line is one of the list, once
known-times : (past : Trace) (q : ℕ) → times q (known_lines past) ≤ one (is_known past q)
known-times [] q = omega arith
known-times (e ∷ past) q = by (issued (length past) e) (known-times past q)
  where
    wider : (b c : Bool) → one b ≤ one (c || b)
    wider b true = one-most b
    wider b false = omega arith

    by : (o : Option Transaction) → times q (known_lines past) ≤ one (is_known past q)
        → times q (add_line past o (known_lines past)) ≤ one (is_some_and o (λ x. is_on x q) || is_known past q)
    by None before = before
    by (Some x) before =
        elim (cases_Bool (names_new_line past x)) [
          | inr f ↦ rw f (let more = wider (is_known past q) (is_on x q) in omega (arith, before, more))
          | inl t ↦
              let parts = and_parts (is_line x) (not (is_known past x.addr)) t in
              elim (cases_eq x.addr q) [
                | inl same ↦
                    let new : is_known past q ≡ false = subst (λ l. is_known past l ≡ false) same (not-true (is_known past x.addr) parts.1) in
                    let none : times q (known_lines past) ≤ 0 = subst (λ b. times q (known_lines past) ≤ one b) new before in
                    rw (t, eq-eqb x.addr q same, parts.0) (omega (arith, none))
                | inr other ↦ rw (t, ne_eqb x.addr q other) (let more = wider (is_known past q) (is_line x && false) in omega (arith, before, more))
              ]
        ]

-- the line that the operation names, 0 where it names none
abbrev line_or_zero : PlanOp → ℕ
line_or_zero o = unwrap_or (line_named o.op) 0

named-times : (q : ℕ) (test : PlanOp → Bool) (os : List PlanOp) → list_any (λ o. names q o && test o) os ≡ true → 1 ≤ times q (map line_or_zero os)
named-times q test [] named = cc
named-times q test (o ∷ os) named =
    elim (or_cases (names q o && test o) _ named) [
      | inl here ↦
          let l = is_some_and-is (line_named o.op) (λ b. b == q) (and_parts (names q o) (test o) here).0 in
          let same : line_or_zero o ≡ q = ap (λ v. unwrap_or v 0) l.1 ∙ eqb-true l.0 q l.2 in
          rw (eq-eqb (line_or_zero o) q same) (omega arith)
      | inr later ↦
          let rest = named-times q test os later in
          elim (cases_Bool (line_or_zero o == q)) [ inl t ↦ rw t (omega (arith, rest)) | inr f ↦ rw f rest ]
    ]

-- a known line of a lean trace is one that an operation names
known-named : (plan : Plan) (past : Trace) (q : ℕ) → IsLean plan past → is_known past q ≡ true → 1 ≤ times q (map line_or_zero plan.operations)
known-named plan [] q lean known = cc
known-named plan (e ∷ past) q lean known = by (issued (length past) e) refl (known-named plan past q lean.0) known
  where
    by : (o : Option Transaction) → issued (length past) e ≡ o → (is_known past q ≡ true → 1 ≤ times q (map line_or_zero plan.operations))
        → (is_some_and o (λ x. is_on x q) || is_known past q) ≡ true → 1 ≤ times q (map line_or_zero plan.operations)
    by None is before old = before old
    by (Some x) is before now =
        elim (or_cases (is_on x q) (is_known past q) now) [
          | inr old ↦ before old
          | inl on ↦
              let parts = and_parts (is_line x) (x.addr == q) on in
              let both = is_none_or-at (issued (length past) e) (λ y. is_one_of_three plan past y && is_on_named_line plan y) x (and_parts _ (is_one_of_two plan past e) lean.1).0 is in
              let named = implies-at (is_line x) _ (and_parts (is_one_of_three plan past x) (is_on_named_line plan x) both).1 parts.0 in
              subst (λ l. 1 ≤ times l (map line_or_zero plan.operations)) (eqb-true x.addr q parts.1)
              (named-times x.addr (λ o. same_test (is_no_snoop x) (wants_no_snoop o.op)) plan.operations named)
        ]

-- a lean trace names at most as many lines as the plan has operations
pub one-line-for-each : (plan : Plan) (past : Trace) → IsLean plan past → length (known_lines past) ≤ length plan.operations
one-line-for-each plan past lean =
    let all = each_bounds 1 (known_lines past) (map line_or_zero plan.operations) (λ q.
    let once = known-times past q in
    elim (cases_Bool (is_known past q)) [
      | inl t ↦
          let named = known-named plan past q lean t in
          let most = one-most (is_known past q) in
          omega (arith, once, named, most)
      | inr f ↦ let none : times q (known_lines past) ≤ 0 = subst (λ b. times q (known_lines past) ≤ one b) f once in omega (arith, none)
    ]) in
    let long = length-map plan.operations line_or_zero in
    omega (arith, all, long)

-- in version 1 each event names a port
pub each-names-port : (h : Header) (past : Trace) (e : Event) → h.version ≡ 1 → IsAccepted h (e ∷ past) → is_some (port_of e) ≡ true
each-names-port h past (Mem addr line) first a = let none = none-opens h (Mem addr line ∷ past) first a in absurd (omega (arith, none))
each-names-port h past e first a = refl
