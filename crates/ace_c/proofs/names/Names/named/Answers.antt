use Rattle.std.proofs.Common.{◌≡◌, ◌<◌, ◌/◌, ◌%◌, true, false, Some, is_some, sym, ◌∙◌, arith}
use Rattle.ace_model.specs.AddressRules.{line_address}
use Rattle.ace_c.specs.Names.{with_line}
use Rattle.ace_c.proofs.Readdressed.{line-none, named-given, place-of, short-enough, used-some}
use Rattle.ace_c.proofs.names.Names.named.Goals as goal

pub returns-then-not-uses_line-clause-named : goal.returns-then-not-uses_line-clause-named
returns-then-not-uses_line-clause-named c = λ version lines s range.
    let a = c.args in
    let none : is_some (line_address a.event) ≡ false = sym c.uses_line.ensures ∙ c.if-not-uses_line.true in
    let off = line-none a.event a.addr none in
    let same = c.with_address.ensures ∙ short-enough version a.event a.addr c.short.result none range c.short.ensures in
    rw off (same, s)

pub returns-clause-named : goal.returns-clause-named
returns-clause-named c = λ version lines s range.
    let a = c.args in
    let some : is_some (line_address a.event) ≡ true = sym c.uses_line.ensures ∙ c.if-not-uses_line.false in
    let used = used-some a.event a.addr some in
    let n = c.in_ok-name.ensures.named lines s in
    let k = c.in_ok-name.name in
    let little : a.addr % 64 < 64 = omega arith in
    let place = place-of k (a.addr % 64) n.1 little in
    rw used (c.with_address-2.ensures ∙ named-given a.event a.addr k _ (with_line (Some (a.addr / 64)) lines) some n.0 place, n.2)
