use Rattle.std.proofs.Common.{◌≡◌, ◌<◌, length, None, Some, slice_get, unwrap_or, arith, refl, sym, ap, ◌∙◌}
use Rattle.std.proofs.lemmas.Grind.{common_steps}
use Rattle.std.proofs.lemmas.Option.{slice_get-get_or}
use Rattle.ace_lineck.proofs.Terms.{Cr, empty_holder}
use Rattle.ace_lineck.proofs.HolderSteps.{has-holder}
use Rattle.ace_lineck.proofs.StateSteps.{answered-states}
use Rattle.ace_lineck.proofs.SnoopAnswers.{answer-holders, answered-holders}
use Rattle.ace_lineck.proofs.snoop_answers.hear_in_record.Goals as goal

pub returns-then-own-len-clause-stands : goal.returns-then-own-len-clause-stands
returns-then-own-len-clause-stands c = λ h past l t s.
    let a = c.args in
    let k = c.args.kept.now in
    let xs = k.holders.items in
    let low : a.port < length xs = has-holder h past l (Cr a.port a.resp a.st) t None xs a.port (answer-holders h past l a.port a.resp a.st t k s) refl in
    let x = c.index_mut.result.now in
    let here : slice_get xs a.port ≡ Some x = slice_get-get_or xs a.port x low ∙ ap Some (sym c.index_mut.ensures.value) in
    let y = c.index.result.now in
    let there : slice_get xs a.port ≡ Some y = slice_get-get_or xs a.port y low ∙ ap Some (sym c.index.ensures) in
    record {
      used = s.stands.used;
      memory = record { memory = s.stands.memory.memory };
      states = answered-states h past l t k.states c.set_state.new.states a.port a.resp a.st c.set_state.ensures (record { step = s.step; stand = s.stands.states });
      grant = c.hear_in_grant.ensures h past l a.st t xs k.memory (record { step = s.step; grant = s.stands.grant; holders = s.stands.holders; memory = s.stands.memory })
          (ap (λ o. (unwrap_or o empty_holder).copy) (sym there));
      holders = answered-holders h past l a.port a.resp a.st t k x c.hear_in_holder.new.holder s here low (λ step. c.hear_in_holder.ensures h past a.port a.port l a.st t None step);
    }

pub returns-else-own-len-clause-stands : goal.returns-else-own-len-clause-stands
returns-else-own-len-clause-stands c = λ h past l t s.
    let a = c.args in
    let k = c.args.kept.now in
    let low : a.port < length k.holders.items = has-holder h past l (Cr a.port a.resp a.st) t None k.holders.items a.port (answer-holders h past l a.port a.resp a.st t k s) refl in
    grind (arith, common_steps)
