use Rattle.std.proofs.Common.{refl, ◌∙◌, ◌≡◌, ◌+◌, length, arith}
use Rattle.std.specs.BTreeMap.{get}
use Rattle.std.specs.Ordering.{nat_cmp}
use Rattle.ace_report.proofs.Tallies.{on_ok, stores_before}
use Rattle.ace_report.proofs.loads.hear_load.Goals as goal

pub returns-in-L-clause-stands : goal.returns-in-L-clause-stands
returns-in-L-clause-stands c = λ h past s items place a few.
    let stores = stores_before h past a.0 c.in-L.addr (get nat_cmp c.args.lines.now c.in-L.addr) (s c.in-L.addr) in
    let number : c.saturating_add.result ≡ length past + 1 = omega (arith, c.saturating_add.ensures, place, few) in
    rw c.in-L.is (on_ok c.keep_load.result (λ kept. kept ∙ rw (items, number, stores) refl) c.keep_load.ensures)
