use Rattle.std.proofs.Common.{true, sym, ◌∙◌, arith}
use Rattle.ace_cert.proofs.WalkEnds.{seen-all, unseen-one}
use Rattle.ace_cert.proofs.WalkHear.{denied, granted}
use Rattle.ace_cert.proofs.verification.ends.are_seen.Goals as goal

pub returns-then-not-is_seen : goal.returns-then-not-is_seen
returns-then-not-is_seen c = λ past kept.
    denied (unseen-one c.args.reads.now past c.args.places.now kept c.loop-i.i c.get.result.now c.get.ensures (sym c.is_seen.ensures ∙ c.if-not-is_seen.true))

pub returns : goal.returns
returns c = λ past kept.
    granted (seen-all c.args.reads.now past (λ k r low there. c.loop-i.invariant past kept k r (omega arith) there))
