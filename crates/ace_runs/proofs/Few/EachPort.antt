-- How many snoops each port has, and how many lines are granted.
use Rattle.std.proofs.Common.{◌≡◌, ℕ, ◌+◌, ◌*◌, ◌≤◌, Bool, true, false, ◌&&◌, ◌==◌, if◌then◌else◌, List, [], ◌∷◌, ◌++◌, length, Option, Some, None, refl, sym, ◌∙◌, inl, inr, arith, length-append}
use Rattle.std.proofs.lemmas.Bool.{and_parts, cases_Bool, cases_eq, eq-eqb, eqb-true, ne_eqb}
use Rattle.std.proofs.lemmas.List.{append-nil}
use Rattle.ace_codes.specs.Snoops.{ac_kind_of}
use Rattle.ace_event.specs.declared.event.Event.{Event}
use Rattle.ace_event.specs.declared.event.Event.TheVariants.{Ac}
use Rattle.ace_event.specs.declared.header.Header.{Header}
use Rattle.ace_model.specs.declared.snoops.Snoop.{Snoop}
use Rattle.ace_model.specs.declared.transactions.Transaction.{Transaction}
use Rattle.ace_model.specs.Accepted.{IsAccepted}
use Rattle.ace_model.specs.Trace.{Trace, more}
use Rattle.ace_model.specs.Snoops.{snoops_of}
use Rattle.ace_model.specs.Grants.{granted}
use Rattle.ace_model.specs.Plans.{Plan}
use Rattle.ace_model.proofs.Rules.Keeps.{accepted_keeps}
use Rattle.ace_runs.specs.Follows.{FollowsSoFar}
use Rattle.ace_runs.specs.Lean.{IsLean}
use Rattle.ace_runs.specs.Counts.{counted, forwards_part, is_grant, is_snoop, issues_for_operation, issues_granted, issues_part, says_complete, snoops_line}
use Rattle.ace_runs.proofs.Few.Completions.{completed-few}
use Rattle.ace_runs.proofs.Few.Counting.{counted-less, counted-one, one}
use Rattle.ace_runs.proofs.Few.LineSnoops.{few-lines, given_lines, granted-there, snoops-each}
use Rattle.ace_runs.proofs.Few.Operations.{three-for-each}
use Rattle.ace_runs.proofs.Few.Parts.{forwards-each, parts-few}
use Rattle.ace_runs.proofs.Few.Ports.{at_port}
use Rattle.ace_runs.proofs.Few.Sorts.{granted-and-parts, snoop-sorts}
use Rattle.ace_runs.proofs.Few.Sums.{each_bounds, times}
use Rattle.ace_runs.proofs.Few.Transactions.{grants-few}

-- ---- snoops ------------------------------------------------------------------------------------------

one-more : (b c : Bool) (xs : List Snoop) (s : Snoop) (n : ℕ) → b ≡ c → length xs ≡ n
    → length (more xs (if b then Some s else None)) ≡ (if c then n + 1 else n)
one-more true true xs s n same long = rw (length-append xs (s ∷ [])) (omega (arith, long))
one-more false false xs s n same long = long
one-more true false xs s n same long = cc
one-more false true xs s n same long = cc

swapped : (p q : ℕ) → (p == q) ≡ (q == p)
swapped p q = elim (cases_eq p q) [
  | inl same ↦ eq-eqb p q same ∙ sym (eq-eqb q p (sym same))
  | inr apart ↦ ne_eqb p q apart ∙ sym (ne_eqb q p (λ same. apart (sym same)))
]

-- the snoops of a port are as many as its ACs
snoops-counted : (past : Trace) (p : ℕ) → length (snoops_of past p) ≡ counted (at_port is_snoop p) past
snoops-counted [] p = refl
snoops-counted (Ac q addr snoop ∷ past) p =
    one-more (p == q) (q == p) (snoops_of past p) (record { place = length past; addr = addr; snoop = snoop }) (counted (at_port is_snoop p) past)
    (swapped p q) (snoops-counted past p)
snoops-counted (_ ∷ past) p = snoops-counted past p

all-three : (here a b c : Bool) → 1 ≤ one a + one b + one c → one here ≤ one (a && here) + one (b && here) + one (c && here)
all-three false a b c some = omega arith
all-three true true b c some = omega arith
all-three true false true c some = omega arith
all-three true false false true some = omega arith
all-three true false false false some = absurd (omega (arith, some))

-- of each sort
port-split : (h : Header) (past : Trace) (p : ℕ) → IsAccepted h past
    → counted (at_port is_snoop p) past ≤ counted (at_port snoops_line p) past + counted (at_port forwards_part p) past + counted (at_port says_complete p) past
port-split h [] p a = omega arith
port-split h (Ac q addr snoop ∷ past) p a =
    let e = Ac q addr snoop in
    let rest = port-split h past p a.0 in
    let some = snoop-sorts (ac_kind_of snoop) (accepted_keeps h past e a).rule_2 in
    let here = all-three (q == p) _ _ _ some in
    let all = counted-one (at_port is_snoop p) e past in
    let line = counted-one (at_port snoops_line p) e past in
    let part = counted-one (at_port forwards_part p) e past in
    let complete = counted-one (at_port says_complete p) e past in
    omega (arith, rest, here, all, line, part, complete)
port-split h (_ ∷ past) p a = port-split h past p a.0

-- Each port is snooped at most twice for each transaction that an operation takes.
port-snoops-few : (h : Header) (past : Trace) (p : ℕ) → IsAccepted h past → length (snoops_of past p) ≤ counted issues_for_operation past * 2
port-snoops-few h past p a =
    let same = snoops-counted past p in
    let split = port-split h past p a in
    let lines = snoops-each h past p a in
    let grants = grants-few h past a in
    let forwards = forwards-each h past p a in
    let some = forwards.some in
    let within = forwards.within in
    let parts = parts-few past p in
    let of_all = counted-less (at_port says_complete p) says_complete past (λ e t. (and_parts (says_complete e) _ t).0) in
    let complete = completed-few h past a in
    let both = granted-and-parts past in
    omega (arith, same, split, lines, grants, some, within, parts, of_all, complete, both)

pub six-snoops-for-each : (plan : Plan) (past : Trace) (p : ℕ) → IsAccepted plan.header past → FollowsSoFar plan past → IsLean plan past
    → length (snoops_of past p) ≤ length plan.operations * 6
six-snoops-for-each plan past p a f l =
    let few = port-snoops-few plan.header past p a in
    let three = three-for-each plan past f l in
    omega (arith, few, three)

-- ---- granted lines -----------------------------------------------------------------------------------

-- Distinct lines that are granted are at most three for each operation.
pub three-lines-for-each : (plan : Plan) (past : Trace) (ls : List ℕ) → IsAccepted plan.header past → FollowsSoFar plan past → IsLean plan past
    → ((l : ℕ) → times l ls ≤ 1) → ((l : ℕ) → 1 ≤ times l ls → (x : Transaction) × (granted plan.header past l ≡ Some x))
    → length ls ≤ length plan.operations * 3
three-lines-for-each plan past ls a f l once grants =
    let within = each_bounds 1 ls (given_lines past) (λ k. elim (cases_eq (times k ls) 0) [
      | inl none ↦ omega (arith, none)
      | inr some ↦
          let x = grants k (omega (arith, some)) in
          let there = granted-there plan.header past k x.0 x.1 in
          let one_at_most = once k in
          omega (arith, there, one_at_most)
    ]) in
    let lines = few-lines past in
    let few = grants-few plan.header past a in
    let both = granted-and-parts past in
    let three = three-for-each plan past f l in
    omega (arith, within, lines, few, both, three)
