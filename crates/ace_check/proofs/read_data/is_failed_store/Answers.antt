use Rattle.std.proofs.Common.{◌≡◌, Some, sym, subst}
use Rattle.ace_check.proofs.Terms.{Read, outstanding}
use Rattle.ace_model.proofs.Trace.Issued.{outstanding-name}
use Rattle.ace_check.proofs.read_data.is_failed_store.Goals as goal

pub returns-then-read : goal.returns-then-read
returns-then-read c = λ r port id s out.
    let x = c.args.read.now in
    let name = outstanding-name r.header r.past port Read id x out in
    let own : outstanding r.header r.past x.port Read x.id ≡ Some x =
    subst (λ q. outstanding r.header r.past q Read x.id ≡ Some x) (sym name.port) (subst (λ i. outstanding r.header r.past port Read i ≡ Some x) (sym name.id) out) in
    c.failed.ensures r x s own
