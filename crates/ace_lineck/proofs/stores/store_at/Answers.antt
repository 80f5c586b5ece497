use Rattle.std.proofs.Common.{◌≡◌, ◌<◌, ◌∷◌, length, None, Some, slice_get, slice_set, arith, refl, sym, ap, subst, ◌∙◌}
use Rattle.std.proofs.lemmas.Grind.{common_steps}
use Rattle.std.proofs.lemmas.Option.{slice_get-get_or}
use Rattle.ace_lineck.proofs.Terms.{D, HoldersStand}
use Rattle.ace_lineck.proofs.HolderSteps.{has-holder}
use Rattle.ace_lineck.proofs.StoreLaws.{stored-holders}
use Rattle.ace_lineck.proofs.stores.store_at.Goals as goal

pub returns-then-port-len-clause-stand : goal.returns-then-port-len-clause-stand
returns-then-port-len-clause-stand c h past l addr b t s =
    let a = c.args in
    let p = a.port in
    let xs = a.holders.now.items in
    let e = D p addr a.strobe b a.line.now in
    let low : p < length xs = has-holder h past l e t None xs p s refl in
    let x = c.index_mut.result.now in
    let at : slice_get xs p ≡ Some x = slice_get-get_or xs p x low ∙ ap Some (sym c.index_mut.ensures.value) in
    subst (λ v. HoldersStand (e ∷ past) l (slice_set xs p v)) (sym c.store_into.ensures)
    (stored-holders h past l p addr a.strobe b a.line.now t xs x s at low)

pub returns-else-port-len-clause-stand : goal.returns-else-port-len-clause-stand
returns-else-port-len-clause-stand c h past l addr b t s =
    let a = c.args in
    let xs = a.holders.now.items in
    let low : a.port < length xs = has-holder h past l (D a.port addr a.strobe b a.line.now) t None xs a.port s refl in
    grind (arith, common_steps)
