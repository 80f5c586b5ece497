use Rattle.std.proofs.Common.{◌<◌, ◌+◌, ap, arith, ◌∙◌}
use Rattle.ace_portck.specs.Targets.{Recording}
use Rattle.ace_cert_make.proofs.Heard.{on_ok}
use Rattle.ace_cert_make.proofs.maker.Maker.hear.Goals as goal

pub returns-in-Ok : goal.returns-in-Ok
returns-in-Ok c = λ h past t s n.
    let r : Recording = record { header = h; past = past } in
    let place = c.place.ensures r t in
    let few = n.few in
    let low : c.place.result < 1048576 = omega (arith, place, few) in
    let number = c.number_of-number.ensures low ∙ ap (λ k. k + 1) place in
    on_ok c.hear_line.result (λ lines. record { lines = lines; reads = c.in-Ok.ensures h past t s.lines s.reads n number })
    (c.hear_line.ensures h past t s.lines n number)
