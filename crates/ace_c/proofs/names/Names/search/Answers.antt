use Rattle.std.proofs.Common.{◌≡◌, true, Some, is_some, refl, sym, ◌∙◌, arith}
use Rattle.ace_c.specs.Names.{name_in}
use Rattle.ace_c.proofs.Naming.{name-below}
use Rattle.ace_c.proofs.names.Names.search.Goals as goal

pub returns-clause-named : goal.returns-clause-named
returns-clause-named c = λ lines s.
    let line = c.args.line in
    let k = c.in-Some.name in
    let found : name_in lines line ≡ Some k = sym (s.places line) ∙ sym c.get.ensures.value ∙ sym c.copied.ensures ∙ c.in-Some.is in
    let some : is_some (name_in lines line) ≡ true = rw found refl in
    let below = name-below line lines k found in
    let few = s.few in
    rw some (found, omega (arith, below, few), c.remember.ensures lines s found)
