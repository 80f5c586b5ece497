use Rattle.std.proofs.Common.{◌≡◌, Some, None, sym, ap, ◌∙◌}
use Rattle.ace_check.proofs.Terms.{has_update, Recording}
use Rattle.ace_model.proofs.General.Options.{Some-injective}
use Rattle.ace_check.proofs.shares.Shares.has_update.Goals as goal

pub returns-in-None : goal.returns-in-None
returns-in-None c = λ h past l s on. let bad : None ≡ Some l = sym c.in-None.is ∙ on in cc

pub returns-in-Some : goal.returns-in-Some
returns-in-Some c = λ h past l s on.
    let r : Recording = record { header = h; past = past } in
    c.has_update.ensures r s.ports ∙ ap (has_update h past c.args.port) (Some-injective c.in-Some.line l (sym c.in-Some.is ∙ on))
