use Rattle.std.proofs.Common.{◌≡◌, false, Option, None, Some, refl, sym, ap, ◌∙◌}
use Rattle.std.specs.Option.{option_map}
use Rattle.ace_event.specs.declared.header.Header.{Header}
use Rattle.ace_model.specs.declared.transactions.Transaction.{Transaction}
use Rattle.ace_model.specs.Progress.{updates_memory}
use Rattle.ace_model.specs.Trace.{Trace, is_some_and}
use Rattle.ace_model.proofs.General.Options.{Some-injective}
use Rattle.ace_portck.specs.declared.target.Progress.{Progress}
use Rattle.ace_portck.specs.Targets.{own_of, progress_of}
use Rattle.ace_portck.proofs.Own.{has_update-own}
use Rattle.ace_master.proofs.answering.has_update.Goals as goal

told : (h : Header) (past : Trace) (o : Option Transaction) (y : Progress) → Some y ≡ option_map (progress_of h past) o → updates_memory y.transaction ≡ is_some_and o updates_memory
told h past None y is = cc
told h past (Some x) y is = ap (λ (v : Progress). updates_memory v.transaction) (Some-injective y (progress_of h past x) is)

untold : (h : Header) (past : Trace) (o : Option Transaction) → None ≡ option_map (progress_of h past) o → false ≡ is_some_and o updates_memory
untold h past None is = refl
untold h past (Some x) is = cc

pub returns-in-Some : goal.returns-in-Some
returns-in-Some c = λ h past p s.
    let l = c.args.line in
    c.updates_memory.ensures ∙ told h past (own_of h past p l) c.in-Some.own (sym c.in-Some.is ∙ c.own.ensures h past p s) ∙ sym (has_update-own h past s.accepted p l)

pub returns-in-None : goal.returns-in-None
returns-in-None c = λ h past p s.
    let l = c.args.line in
    untold h past (own_of h past p l) (sym c.in-None.is ∙ c.own.ensures h past p s) ∙ sym (has_update-own h past s.accepted p l)
