use Rattle.std.proofs.Common.{◌||◌, sym, ap, ◌∙◌}
use Rattle.ace_model.specs.States.{are_snoops_done}
use Rattle.ace_model.proofs.Grants.Granted.{granted_at}
use Rattle.ace_explain.proofs.Written.{granted_other, write_unfailed}
use Rattle.ace_explain.proofs.memory_clauses.has_its_snoops.Goals as goal

pub returns-else-updates_memory : goal.returns-else-updates_memory
returns-else-updates_memory c = λ r p chan i q l out writes given.
    let x = c.args.x.now in
    let other = sym c.updates_memory.ensures ∙ c.if-updates_memory.false in
    c.are_snoops_done.ensures r l (c.header.ensures r q) (granted_at r.header r.past l.accepted p chan i x out (granted_other _ _ other given)) (write_unfailed r.past x writes)
    ∙ ap (λ b. b || are_snoops_done r.header r.past x) (sym other)
