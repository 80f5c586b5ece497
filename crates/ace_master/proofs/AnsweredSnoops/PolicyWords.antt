-- The policies pick the rows that the words of plans allow.
use Rattle.std.proofs.Common.{◌≡◌, ℕ, zero, suc, Bool, true, ◌&&◌, ◌==◌, List, Contains, Option, None, Some, option_to_list, refl, ap, ◌∙◌, arith}
use Rattle.std.proofs.lemmas.Bool.{and_from, eq-eqb}
use Rattle.ace_codes.specs.declared.kind.SnoopKind.{SnoopKind}
use Rattle.ace_codes.specs.declared.state.LineState.{LineState}
use Rattle.ace_codes.specs.declared.state.LineState.TheVariants.{I, UC, UD, SC, SD}
use Rattle.ace_tables.specs.declared.rows.Row.{Row}
use Rattle.ace_tables.specs.Picks.{eager_row, keep_row}
use Rattle.ace_tables.specs.States.{same_state}
use Rattle.ace_model.specs.declared.plans.PolicyWord.TheVariants.{Keep, Eager, Mixed}
use Rattle.ace_runs.specs.Follows.{is_row}
use Rattle.ace_policy.specs.Policies.{eager_rows, keep_rows}
use Rattle.ace_master.specs.Answering.{IsByWord}

state-self : (st : LineState) → same_state st st ≡ true
state-self I = refl
state-self UC = refl
state-self UD = refl
state-self SC = refl
state-self SD = refl

only-row : (o : Option Row) (r : Row) → Contains (option_to_list o) r → is_row o r.resp r.next ≡ true
only-row None r (i, low, is) = absurd (omega (arith, low))
only-row (Some s) r (zero, low, is) = ap (λ (v : Row). (v.resp == r.resp) && same_state v.next r.next) is ∙ and_from _ _ (eq-eqb r.resp r.resp refl) (state-self r.next)
only-row (Some s) r (suc i, low, is) = absurd (omega (arith, low))

pub keep-by-word : IsByWord Keep keep_rows
keep-by-word k st u r there = only-row (keep_row k st u) r there

pub eager-by-word : IsByWord Eager eager_rows
eager-by-word k st u r there = only-row (eager_row k st u) r there

pub mixed-by-word : (n : ℕ) (rows : SnoopKind → LineState → Bool → List Row) → IsByWord (Mixed n) rows
mixed-by-word n rows k st u r there = refl
