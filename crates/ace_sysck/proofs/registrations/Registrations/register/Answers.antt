use Rattle.std.proofs.Common.{◌≡◌, ℕ, Some, nat_eq, arith}
use Rattle.std.proofs.lemmas.Grind.{common_steps}
use Rattle.ace_sysck.proofs.Terms.{get, registered_bits, kept_bits}
use Rattle.ace_sysck.proofs.RegistrationSteps.{registrations_lock}
use Rattle.ace_sysck.proofs.registrations.Registrations.register.Goals as goal

pub returns-in-Some-clause-stands : goal.returns-in-Some-clause-stands
returns-in-Some-clause-stands c = λ r e t step is stands taken.
    let s = c.args.self.now in
    let x = c.args.x.now in
    let m = c.get_mut.follows.lender c.with_port.result in
    let here : get nat_eq m x.addr ≡ Some c.with_port.result = grind (arith, common_steps) in
    let there : (l : ℕ) → (l ≡ x.addr → ⊥) → get nat_eq m l ≡ get nat_eq s.lines l = λ l n. grind (arith, common_steps) in
    let kept : c.kept_bits-kept.result ≡ kept_bits x (registered_bits s x.addr) = grind (arith, common_steps) in
    registrations_lock r s (record { lines = m }) e t x c.kept_bits-kept.result c.with_port.result step.accepted step.header.most_ports
    step.target is stands kept c.with_port.ensures here there
