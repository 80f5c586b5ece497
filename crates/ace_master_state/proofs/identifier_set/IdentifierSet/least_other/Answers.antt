use Rattle.std.proofs.Common.{nat_eq, not, Some, sym, ap, ◌∙◌, arith, w16}
use Rattle.std.proofs.lemmas.Nat.Bits.{bit_at-trailing_ones}
use Rattle.ace_master_state.specs.Identifiers.{has}
use Rattle.ace_master_state.proofs.LeastIdentifiers.{least-at}
use Rattle.ace_master_state.proofs.identifier_set.IdentifierSet.least_other.Goals as goal

pub returns-else-self-eq65535 : goal.returns-else-self-eq65535
returns-else-self-eq65535 c =
    let n = c.args.self.word in
    let fits = c.well_formed in
    let all = c.if-self-eq65535.false in
    let h = bit_at-trailing_ones w16 n (omega (arith, fits, all)) in
    ap Some c.trailing_ones.ensures
    ∙ sym (least-at _ 16 (λ i. not (has c.args.self i)) (λ i low. ap (λ b. not (nat_eq b 1)) (h.2 i low)) (ap (λ b. not (nat_eq b 1)) h.1) h.0)
