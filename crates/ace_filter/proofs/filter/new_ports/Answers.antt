use Rattle.std.proofs.Common.{◌≡◌, ◌++◌, ◌∷◌, [], length, Some, inl, inr, slice_get, subst, ap, ◌∙◌, arith, length-append}
use Rattle.std.proofs.lemmas.Grind.{common_steps}
use Rattle.ace_filter.proofs.Terms.{IsWatched}
use Rattle.ace_model.proofs.General.Lists.{slice_get-more}
use Rattle.ace_model.proofs.General.Options.{Some-injective}
use Rattle.ace_filter.proofs.filter.new_ports.Goals as goal

pub loop-port-preserved : goal.loop-port-preserved
loop-port-preserved c =
    let was = c.loop-port.ports.items in
    let port = c.in-Ok.port in
    let items : c.push.new.self.items ≡ was ++ port ∷ [] = grind (arith, common_steps) in
    let len = c.loop-port.invariant.len in
    let more = length-append was (port ∷ []) in
    record {
      len = ap length items ∙ omega (arith, more, len);
      each = λ p s at. elim (slice_get-more was (Some port) p s (subst (λ v. slice_get v p ≡ Some s) items at)) [
        | inl old ↦ c.loop-port.invariant.each p s old
        | inr new ↦
            subst (λ v. IsWatched c.args.lines [] p v) (Some-injective port s new.1) (record { stands = c.in-Ok.ensures.stands p; room = c.in-Ok.ensures.room })
      ];
    }
