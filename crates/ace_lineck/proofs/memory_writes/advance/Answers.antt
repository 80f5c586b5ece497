use Rattle.std.proofs.Common.{◌≡◌, Some, ap, sym, ◌∙◌}
use Rattle.ace_lineck.proofs.Terms.{M, line_in, Target}
use Rattle.ace_lineck.proofs.HolderSteps.{m-hears}
use Rattle.ace_lineck.proofs.memory_writes.advance.Goals as goal

pub returns-clause-stands : goal.returns-clause-stands
returns-clause-stands c h past l p ch i t s at =
    let line = c.args.line.now in
    let on : line_in h past (M p ch i line) ≡ Some l = ap (λ (v : Target). v.line) (sym s.step.target) ∙ s.step.line in
    record {
      used = s.stands.used;
      memory = m-hears h past p ch i line l s.step.accepted on;
      grant = c.hear.ensures h past l p ch i line t c.args.kept.now.holders.items c.args.kept.now.memory
          (record { step = s.step; grant = s.stands.grant; holders = s.stands.holders; memory = s.stands.memory }) at;
      states = record { state = s.stands.states.state };
      holders = record { copy = s.stands.holders.copy; sent = s.stands.holders.sent };
    }
