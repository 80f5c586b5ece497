use Rattle.std.proofs.Common.{arith}
use Rattle.std.proofs.lemmas.Grind.{common_steps}
use Rattle.ace_io.proofs.Held.{held-drop, passed}
use Rattle.ace_bin.proofs.window.Window.pass.Goals as goal

pub returns-clause-passed : goal.returns-clause-passed
returns-clause-passed g c =
    let r = c.args.self.now in
    passed _ _ c.args.count _ (held-drop r.buffer r.start r.end c.args.count (grind (arith, common_steps)))
