use Rattle.std.proofs.Common.{rules, ◌==◌, not, sym}
use Rattle.std.proofs.lemmas.Fn.{filter_same}
use Rattle.ace_model.proofs.Outstanding.Lists.{kept_all}
use Rattle.ace_portck.proofs.pending.take_out.Goals as goal

pub returns-in-Some-clause-items : goal.returns-in-Some-clause-items
returns-in-Some-clause-items c =
    rw c.in-Some.is (filter_same _ (λ x. not (x.transaction.id == c.in-Some.id)) _ (λ x b f' k. search rules) _ _ c.retain.ensures.filtered)

pub returns-in-None-clause-items : goal.returns-in-None-clause-items
returns-in-None-clause-items c = rw c.in-None.is (sym (kept_all c.args.list.now.items))
