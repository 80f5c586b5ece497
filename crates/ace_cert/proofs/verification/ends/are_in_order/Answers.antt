use Rattle.std.proofs.Common.{◌≡◌, ◌≤◌, ℕ, nat_eq, if◌then◌else◌, Some, sym, ap, subst, ◌∙◌}
use Rattle.std.specs.Ordering.{nat_cmp}
use Rattle.std.specs.BTreeMap.{get}
use Rattle.ace_cert.specs.Checks.{reader_at}
use Rattle.ace_cert.specs.Walk.{reader_key}
use Rattle.ace_cert.proofs.WalkEnds.{back-is, last-more, not-back, order-broken, order-more}
use Rattle.ace_cert.proofs.WalkHear.{denied}
use Rattle.ace_cert.proofs.verification.ends.are_in_order.Goals as goal

pub returns-then-goes_back : goal.returns-then-goes_back
returns-then-goes_back c =
    let v = c.loop-i.invariant in
    let r = c.get.result.now in
    let key = c.reader_of-reader.ensures.key in
    let back = back-is (get nat_cmp c.loop-i.last c.reader_of-reader.result) r.place (sym c.goes_back.ensures ∙ c.if-goes_back.true) in
    denied (order-broken c.args.trace.now c.args.reads.now c.loop-i.i r c.loop-i.last back.0 c.get.ensures c.reader_of-reader.ensures.fits v.last
    (ap (get nat_cmp c.loop-i.last) (sym key) ∙ back.1.0) back.1.1)

pub loop-i-preserved : goal.loop-i-preserved
loop-i-preserved c =
    let v = c.loop-i.invariant in
    let r = c.get.result.now in
    let key = c.reader_of-reader.ensures.key in
    let fits = c.reader_of-reader.ensures.fits in
    let least : (place : ℕ) → get nat_cmp c.loop-i.last (reader_key (reader_at c.args.trace.now r)) ≡ Some place → place ≤ r.place =
    λ place is. not-back (get nat_cmp c.loop-i.last c.reader_of-reader.result) r.place (sym c.goes_back.ensures ∙ c.if-goes_back.false) place (ap (get nat_cmp c.loop-i.last) key ∙ is) in
    record {
      in_order = order-more c.args.trace.now c.args.reads.now c.loop-i.i r c.loop-i.last c.get.ensures fits v.in_order v.last least;
      last = last-more c.args.trace.now c.args.reads.now c.loop-i.i r c.loop-i.last c.put.new.table c.get.ensures fits v.last least
          (subst (λ n. (k : ℕ) → get nat_cmp c.put.new.table k ≡ (if nat_eq n k then Some r.place else get nat_cmp c.loop-i.last k)) key c.in-Ok.ensures);
    }
