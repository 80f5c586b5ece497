use Rattle.std.proofs.Common.{refl, subst}
use Rattle.ace_lineck.proofs.Terms.{M, IsGrantStep}
use Rattle.ace_lineck.proofs.MemoryWrites.{stays-granted}
use Rattle.ace_lineck.proofs.GrantHear.{still-none}
use Rattle.ace_lineck.proofs.memory_writes.hear.Goals as goal

pub returns-in-None : goal.returns-in-None
returns-in-None c h past l p ch i line t xs memory s at =
    still-none h past l (M p ch i line) _ refl c.in-None.is s.grant

pub returns-in-Some : goal.returns-in-Some
returns-in-Some c h past l p ch i line t xs memory s at =
    stays-granted h past l p ch i line t xs memory c.args.x.now at c.in-Some.g c.hear_write.new.self c.is_own-own.result
    (subst (λ v. IsGrantStep h past l (M p ch i line) t v xs memory) c.in-Some.is s) c.is_own-own.ensures c.hear_write.ensures
