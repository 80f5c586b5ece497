use Rattle.std.proofs.Common.{◌≡◌, arith, sym, subst}
use Rattle.std.specs.Prelude.{IsTrue}
use Rattle.ace_bin.specs.Errors.{IsReadAs}
use Rattle.ace_bin.proofs.record.read_last.Goals as goal

pub returns-then-is_tag-clause-known : goal.returns-then-is_tag-clause-known
returns-then-is_tag-clause-known c known =
    let told : IsTrue c.is_tag.result = subst IsTrue (sym c.is_tag.ensures.value) known in
    let few = c.is_tag.ensures.few told in
    let is : c.args.tag ≡ 0x11 = omega (arith, c.requires, few) in
    subst (λ t. IsReadAs c.args.version t c.args.bytes.now c.read_mem.new.event c.read_mem.result) (sym is)
    (c.read_mem.ensures.event c.args.version (c.is_tag.ensures.mem told is))
