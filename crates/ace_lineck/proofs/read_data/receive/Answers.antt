use Rattle.std.proofs.Common.{◌≡◌, ◌<◌, length, Some, option_copied, slice_get, arith, refl, sym, ap, subst, ◌∙◌}
use Rattle.std.proofs.lemmas.Grind.{common_steps}
use Rattle.std.proofs.lemmas.Option.{slice_get-get_or}
use Rattle.ace_lineck.proofs.Terms.{R, IsHoldersStep}
use Rattle.ace_lineck.proofs.HolderSteps.{has-holder}
use Rattle.ace_lineck.proofs.BeatSteps.{received-whole, unreceived}
use Rattle.ace_lineck.proofs.read_data.receive.Goals as goal

pub returns-then-port-len-clause-stand : goal.returns-then-port-len-clause-stand
returns-then-port-len-clause-stand c h past l i resp word last t s =
    let p = c.args.port in
    let xs = c.args.holders.now.items in
    let here = subst (λ w. IsHoldersStep h past l (R p i resp last word) t (option_copied w) xs) c.in-Some.is s in
    let low : p < length xs = has-holder h past l (R p i resp last word) t (option_copied c.args.whole) xs p s refl in
    let x = c.index_mut.result.now in
    let at : slice_get xs p ≡ Some x = slice_get-get_or xs p x low ∙ ap Some (sym c.index_mut.ensures.value) in
    received-whole h past l p i resp last word t xs c.in-Some.line.now x here at low

pub returns-else-port-len-clause-stand : goal.returns-else-port-len-clause-stand
returns-else-port-len-clause-stand c h past l i resp word last t s =
    let low : c.args.port < length c.args.holders.now.items = has-holder h past l (R c.args.port i resp last word) t (option_copied c.args.whole) c.args.holders.now.items c.args.port s refl in
    grind (arith, common_steps)

pub returns-in_default-clause-stand : goal.returns-in_default-clause-stand
returns-in_default-clause-stand c h past l i resp word last t s =
    let xs = c.args.holders.now.items in
    unreceived h past l c.args.port i resp last word t xs (subst (λ w. IsHoldersStep h past l (R c.args.port i resp last word) t (option_copied w) xs) c.in_default.is s)
