use Rattle.std.proofs.Common.{◌-◌, ◌≤◌, length, take, arith, ap, ltb-true, length-append}
use Rattle.std.proofs.lemmas.Grind.{common_steps}
use Rattle.std.proofs.lemmas.List.{length-take}
use Rattle.ace_bin.specs.Window.{held}
use Rattle.ace_bin.specs.declared.window.TheConstants.{BUFFER_SIZE}
use Rattle.ace_bin.proofs.Windows.{more_held, same_held, more_kept, same_kept}
use Rattle.ace_bin.proofs.window.Window.more.Goals as goal

pub returns-in-Ok-clause-kept : goal.returns-in-Ok-clause-kept
returns-in-Ok-clause-kept g c =
    let m = c.make_room.new.self in
    let within : m.end ≤ length m.buffer = grind (arith, common_steps) in
    more_kept _ _ _ _ (held m) _ (take c.in-Ok.count c.take.new.into) (ap g.S.Source.left c.make_room.ensures.source) c.make_room.ensures.held
    (more_held m.buffer c.take.new.into m.start m.end c.in-Ok.count _ c.make_room.ensures.start within c.in-Ok.ensures.bytes.fits)
    c.in-Ok.ensures.bytes.moved

pub returns-in-Ok-clause-more : goal.returns-in-Ok-clause-more
returns-in-Ok-clause-more g c = λ is.
    let m = c.make_room.new.self in
    let within : m.end ≤ length m.buffer = grind (arith, common_steps) in
    omega (
      arith,
      ap length (more_held m.buffer c.take.new.into m.start m.end c.in-Ok.count (BUFFER_SIZE - m.end) c.make_room.ensures.start within c.in-Ok.ensures.bytes.fits),
      length-append (held m) (take c.in-Ok.count c.take.new.into),
      length-take c.in-Ok.count c.take.new.into,
      ap length c.make_room.ensures.held,
      c.in-Ok.ensures.bytes.fits,
      ltb-true 0 c.in-Ok.count is,
    )

pub returns-in-Err-clause-kept : goal.returns-in-Err-clause-kept
returns-in-Err-clause-kept g c =
    let m = c.make_room.new.self in
    let within : m.end ≤ length m.buffer = grind (arith, common_steps) in
    same_kept _ _ _ _ (held m) _ (ap g.S.Source.left c.make_room.ensures.source) c.make_room.ensures.held
    (same_held m.buffer c.take.new.into m.start m.end _ c.make_room.ensures.start within)
    c.in-Err.ensures.bytes.err
