-- Where no step is enabled for an ACE-Lite port because a transaction on the line of its next operation is outstanding; and each of its operations asks
-- for something.
use Rattle.std.proofs.Common.{◌≡◌, ℕ, Bool, true, false, not, ◌==◌, List, length, Some, None, refl, sym, ap, ◌∙◌}
use Rattle.ace_model.specs.declared.plans.Op.{Op}
use Rattle.ace_model.specs.declared.plans.Op.TheVariants.{Ro, Cs, Ci, Mi, Rn, Wu, Wlu, Wn, Mb, Sb}
use Rattle.ace_model.specs.Plans.{Plan, is_lite_operation}
use Rattle.ace_model.specs.Trace.{Trace, implies}
use Rattle.ace_model.specs.Transactions.{is_ace}
use Rattle.ace_runs.specs.Acts.{acts_of}
use Rattle.ace_runs.specs.Operations.{next_operation}
use Rattle.ace_runs.specs.Steps.{is_enabled_by}
use Rattle.ace_runs.proofs.NeverStuck.Operations.Lines.OfPlan.{next-planned}
use Rattle.ace_engine.specs.Engines.{IsLegal}
use Rattle.ace_master.specs.Lite.{LiteTells, is_line_busy, own_steps}
use Rattle.ace_master.specs.LiteRequests.{lite_request}
use Rattle.ace_master.proofs.LiteMoves.{moves-waiting, waits-for-line}
use Rattle.ace_master.proofs.LiteNext.{unasked}

pub for-lite : (plan : Plan) (past : Trace) (p : ℕ) (op : Op) → IsLegal plan past → is_ace plan.header p ≡ false → next_operation plan past p ≡ Some op → is_lite_operation op ≡ true
for-lite plan past p op legal lite next =
    by (is_lite_operation op) (ap (λ b. implies (not b) (is_lite_operation op)) (sym lite) ∙ (next-planned plan past p op legal.right next).lite)
  where
    by : (b : Bool) → implies true b ≡ true → b ≡ true
    by true e = refl
    by false e = cc

some-act : (op : Op) → is_lite_operation op ≡ true → (0 == length (acts_of op)) ≡ false
some-act (Ro a) lite = refl
some-act (Cs a) lite = refl
some-act (Ci a) lite = refl
some-act (Mi a) lite = refl
some-act (Rn a) lite = refl
some-act (Wu a strobe line) lite = refl
some-act (Wlu a line) lite = refl
some-act (Wn a strobe line) lite = refl
some-act Mb lite = refl
some-act Sb lite = refl
some-act op lite = cc

pub asks-something : (op : Op) → is_lite_operation op ≡ true → lite_request op ≡ None → ⊥
asks-something (Ro a) lite none = cc
asks-something (Cs a) lite none = cc
asks-something (Ci a) lite none = cc
asks-something (Mi a) lite none = cc
asks-something (Rn a) lite none = cc
asks-something (Wu a strobe line) lite none = cc
asks-something (Wlu a line) lite none = cc
asks-something (Wn a strobe line) lite none = cc
asks-something Mb lite none = cc
asks-something Sb lite none = cc
asks-something op lite none = cc

pub line-waits : (plan : Plan) (past : Trace) (p : ℕ) (legal : IsLegal plan past) (operations : List Op) (op : Op) → LiteTells plan past p operations None None None
    → next_operation plan past p ≡ Some op → is_line_busy plan.header past p op ≡ true → is_enabled_by own_steps plan past p ≡ false
line-waits plan past p legal operations op t next busy =
    unasked plan past p legal operations op t next (some-act op (for-lite plan past p op legal t.lite next))
    (moves-waiting plan past p legal t.lite plan.ways op (waits-for-line plan past p legal t.lite op busy))
