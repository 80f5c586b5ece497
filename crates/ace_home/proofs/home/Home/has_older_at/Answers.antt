use Rattle.std.proofs.Common.{◌≡◌, ℕ, true, false, Some, slice_get, sym, ap, ◌∙◌}
use Rattle.std.proofs.lemmas.Bool.{and_parts, false_from_ne_true}
use Rattle.ace_event.specs.declared.event.Channel.{Channel}
use Rattle.ace_model.specs.Transactions.{is_on}
use Rattle.ace_model.proofs.Trace.Looks.{is_on-addr}
use Rattle.ace_portck.specs.Pending.{pending_of}
use Rattle.ace_runs.specs.Bursts.{is_kept}
use Rattle.ace_home.specs.Home.{goes_before, grant_of}
use Rattle.ace_home.specs.Resting.{may_name}
use Rattle.ace_home.proofs.Kept.{of-each-channel}
use Rattle.ace_home.proofs.home.Home.has_older_at.Goals as goal

-- no user of the line has a transaction of it
pub returns-then-not-has-clause-none : goal.returns-then-not-has-clause-none
returns-then-not-has-clause-none c = λ _ plan past y s o.
    let h = plan.header in
    let x = c.args.x.now in
    false_from_ne_true (goes_before h past y x) (λ goes.
    let on = is_on-addr y x.addr (and_parts (is_on y x.addr) _ (and_parts _ (is_kept h past (grant_of y)) goes).0).0 in
    let named = ap (λ l. may_name c.args.self.now.users l c.args.port) (sym on) ∙ s.users c.args.port y o in
    let bad : true ≡ false = sym named ∙ sym (c.of.ensures c.args.port) ∙ sym c.has.ensures ∙ c.if-not-has.true in cc)

pub returns-then-has_older-clause-found : goal.returns-then-has_older-clause-found
returns-then-has_older-clause-found c = λ _ plan past s. c.has_older.ensures.found c.if-has_older.true plan past s

pub returns-clause-none : goal.returns-clause-none
returns-clause-none c = λ none plan past y s o.
    let h = plan.header in
    of-each-channel (λ (d : Channel). (k : ℕ) → slice_get (pending_of h past c.args.port d) k ≡ Some y → goes_before h past y c.args.x.now ≡ false)
    (λ k at. c.has_older.ensures.none c.if-has_older.false plan past k y s at) (λ k at. c.has_older-2.ensures.none none plan past k y s at) y.chan o.0 o.1
