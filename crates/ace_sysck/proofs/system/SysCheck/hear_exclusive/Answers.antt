use Rattle.std.proofs.Common.{◌<◌, sym, arith, ◌∙◌}
use Rattle.ace_sysck.proofs.Terms.{G, after, target_of, RegistrationsStand}
use Rattle.ace_sysck.proofs.ResultSteps.{results_other_grant, results_store}
use Rattle.ace_sysck.proofs.ByKind.Grants.{after_grant, grant_step, grants_one, locked_one}
use Rattle.ace_sysck.proofs.system.SysCheck.hear_exclusive.Goals as goal

pub returns-then-is_exclusive_store-clause-stands : goal.returns-then-is_exclusive_store-clause-stands
returns-then-is_exclusive_store-clause-stands c = λ r p ch i s out lock fine few yes.
    let self = c.args.self.now in
    let x = c.args.x.now in
    let e = G p ch i in
    let g = grants_one self r p ch i x s out fine few in
    let low : x.id < 256 = omega arith in
    let registered : RegistrationsStand (after r e) c.register.new.self =
    c.register.ensures.stands r e (target_of r.header r.past e) (grant_step self r p ch i s fine few) (locked_one self r p ch i x s out fine lock) s.registrations c.if-not-register.false in
    let result =
    results_store r self.results c.set.new.self e x c.is_registered-passes.result s.results g.port low g.issues_none g.grants
    (sym c.is_exclusive_store.ensures ∙ c.if-is_exclusive_store.true) (c.is_registered-passes.ensures r s.registrations) c.set.ensures in
    after_grant self r p ch i c.set.new.self c.register.new.self s fine few result registered

pub returns-else-is_exclusive_store-clause-stands : goal.returns-else-is_exclusive_store-clause-stands
returns-else-is_exclusive_store-clause-stands c = λ r p ch i s out lock fine few yes.
    let self = c.args.self.now in
    let x = c.args.x.now in
    let e = G p ch i in
    let g = grants_one self r p ch i x s out fine few in
    let registered : RegistrationsStand (after r e) c.register.new.self =
    c.register.ensures.stands r e (target_of r.header r.past e) (grant_step self r p ch i s fine few) (locked_one self r p ch i x s out fine lock) s.registrations c.if-not-register.false in
    let result = results_other_grant r self.results e x g.issues_none g.grants (sym c.is_exclusive_store.ensures ∙ c.if-is_exclusive_store.false) s.results in
    after_grant self r p ch i self.results c.register.new.self s fine few result registered
