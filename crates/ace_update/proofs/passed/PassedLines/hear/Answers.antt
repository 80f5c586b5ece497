use Rattle.std.proofs.Common.{length, ap, refl, ◌∙◌, arith}
use Rattle.ace_portck.specs.Targets.{target_of}
use Rattle.ace_update.specs.Passed.{adds, removes, with_line, without_line}
use Rattle.ace_update.proofs.LineLists.{shorter-without}
use Rattle.ace_update.proofs.PassedLists.{stands-after}
use Rattle.ace_update.proofs.passed.PassedLines.hear.Goals as goal

pub returns : goal.returns
returns c = λ h past a ports low s.
    let e = c.args.event.now in
    let t = target_of h past e in
    let was = c.args.self.now in
    let short = shorter-without (removes e t) was.lines.items in
    let gone = c.remove.ensures.items ∙ ap (λ o. without_line o was.lines.items) (c.removes.ensures h past ports) in
    let room = s.room in
    let more = c.remove.ensures.room in
    let size = ap length gone in
    let items = c.add.ensures.items (omega (arith, low, short, room, more, size)) ∙ ap (λ o. with_line o c.remove.new.self.lines.items) (c.adds.ensures h past ports)
    ∙ ap (with_line (adds e t)) gone in
    stands-after h past e a was c.add.new.self t refl s items (let last = c.add.ensures.room in omega (arith, room, more, last))
