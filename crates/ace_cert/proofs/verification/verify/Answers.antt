use Rattle.std.proofs.Common.{[], reverse, sym, subst, ◌∙◌, arith}
use Rattle.std.proofs.lemmas.List.{length-reverse}
use Rattle.ace_cert.specs.Walk.{ArePlacesKept}
use Rattle.ace_cert.proofs.Exact.{checks-from_certificate}
use Rattle.ace_cert.proofs.WalkHear.{exact-order, refused, refused-pass}
use Rattle.ace_cert.proofs.verification.verify.Goals as goal

pub returns-in-Ok-false : goal.returns-in-Ok-false
returns-in-Ok-false c =
    let cert = c.args.cert.now in
    let placed = subst (ArePlacesKept cert.reads []) (sym c.nothing-kept.ensures.places) c.in-Ok-places_of.ensures in
    let passes = c.in-Ok-false.ensures.passes cert.lines cert.reads c.nothing-kept.ensures.kept placed c.in-Ok.ensures in
    refused-pass c.args.trace.now cert (sym c.in-Ok-false.field-0-test ∙ passes)

pub returns-then-not-are_orders : goal.returns-then-not-are_orders
returns-then-not-are_orders c =
    let cert = c.args.cert.now in
    let t = c.args.trace.now in
    let turned = length-reverse t in
    let placed = subst (ArePlacesKept cert.reads []) (sym c.nothing-kept.ensures.places) c.in-Ok-places_of.ensures in
    let k = c.in-Ok-true.ensures.kept cert.reads c.nothing-kept.ensures.kept placed c.in-Ok-true.field-0-test in
    refused t cert c.are_orders.result (c.are_orders.ensures (reverse t) k.0.lines (omega (arith, turned)))
    (λ is. (checks-from_certificate (reverse t) cert is).orders) c.if-not-are_orders.true

pub returns-then-not-are_seen : goal.returns-then-not-are_seen
returns-then-not-are_seen c =
    let cert = c.args.cert.now in
    let t = c.args.trace.now in
    let placed = subst (ArePlacesKept cert.reads []) (sym c.nothing-kept.ensures.places) c.in-Ok-places_of.ensures in
    let k = c.in-Ok-true.ensures.kept cert.reads c.nothing-kept.ensures.kept placed c.in-Ok-true.field-0-test in
    refused t cert c.are_seen.result (c.are_seen.ensures (reverse t) k.1) (λ is. (checks-from_certificate (reverse t) cert is).reads) c.if-not-are_seen.true

pub returns : goal.returns
returns c =
    let cert = c.args.cert.now in
    let t = c.args.trace.now in
    let turned = length-reverse t in
    let placed = subst (ArePlacesKept cert.reads []) (sym c.nothing-kept.ensures.places) c.in-Ok-places_of.ensures in
    let k = c.in-Ok-true.ensures.kept cert.reads c.nothing-kept.ensures.kept placed c.in-Ok-true.field-0-test in
    let passes = c.in-Ok-true.ensures.passes cert.lines cert.reads c.nothing-kept.ensures.kept placed c.in-Ok.ensures in
    exact-order t cert c.are_in_order.result c.are_in_order.ensures (c.lines_rise.ensures.0 c.if-not-lines_rise.false) (c.reads_rise.ensures.0 c.if-not-reads_rise.false)
    (sym passes ∙ c.in-Ok-true.field-0-test) ((c.are_orders.ensures (reverse t) k.0.lines (omega (arith, turned))).0 c.if-not-are_orders.false)
    ((c.are_seen.ensures (reverse t) k.1).0 c.if-not-are_seen.false)
