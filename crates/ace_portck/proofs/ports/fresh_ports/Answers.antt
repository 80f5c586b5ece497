use Rattle.std.proofs.Common.{◌≡◌, ◌+◌, ◌++◌, [], ◌∷◌, length, sym, ap, subst, ◌∙◌, arith, length-append}
use Rattle.std.proofs.lemmas.Grind.{common_steps}
use Rattle.std.proofs.lemmas.List.Elements.{All-push}
use Rattle.ace_portck.proofs.Terms.{All, AreRoomy, IsFresh}
use Rattle.ace_portck.specs.Snoops as snoops
use Rattle.ace_portck.proofs.ports.fresh_ports.Goals as goal

pub loop-port-preserved : goal.loop-port-preserved
loop-port-preserved c =
    let items : c.push.new.self.items ≡ c.loop-port.ports.items ++ c.in_ok-kept.kept ∷ [] = grind (arith, common_steps) in
    let new : IsFresh c.in_ok-kept.kept = λ h p. c.in_ok-kept.ensures.stands h p in
    let len = c.loop-port.invariant.len in
    let more : length (c.loop-port.ports.items ++ c.in_ok-kept.kept ∷ []) ≡ length c.loop-port.ports.items + 1 = length-append c.loop-port.ports.items (c.in_ok-kept.kept ∷ []) in
    record {
      len = ap length items ∙ omega (arith, more, len);
      fresh = subst (All IsFresh) (sym items) (All-push IsFresh c.loop-port.ports.items c.in_ok-kept.kept c.loop-port.invariant.fresh new);
      room =
          subst (AreRoomy c.args.snoops) (sym items)
          (All-push (λ k. snoops.IsRoomy c.args.snoops k.snoops) c.loop-port.ports.items c.in_ok-kept.kept c.loop-port.invariant.room c.in_ok-kept.ensures.room);
    }
