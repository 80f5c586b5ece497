use Rattle.std.proofs.Common.{◌∷◌, ◌++◌, [], List, None, refl, sym, ap, subst, ◌∙◌}
use Rattle.ace_event.specs.declared.event.Event.{Event}
use Rattle.ace_event.specs.declared.event.Outcome.TheVariants.{Ok}
use Rattle.ace_runs.specs.Closing.{retirement}
use Rattle.ace_master.specs.Lite.{LiteTells, port_of}
use Rattle.ace_master.proofs.LiteNext.{next-as, put-turn}
use Rattle.ace_master.proofs.LiteRetires.{retire-next}
use Rattle.ace_master.proofs.lite.LiteMaster.retire.Goals as goal

pub returns-clause-turn : goal.returns-clause-turn
returns-clause-turn c = λ plan past op stands sent next may.
    let s = c.args.self.now in
    let p = port_of s in
    put-turn s _ plan past (c.op-op.result ∷ []) (retirement past p Ok) c.put.new.out stands (sym (c.op-op.ensures plan past stands))
    (c.put.ensures.burst ∙ ap (λ (es : List Event). es ++ c.op-op.result ∷ []) c.requires) c.put.ensures.port (c.put.ensures.kept plan past) (c.put.ensures.identifiers plan past)
    (next-as plan past p (retirement past p Ok) s.operations.items None None None None None s.unsent refl refl sent
    (retire-next plan past p stands.port.legal stands.tells.low op next may s.operations.items s.read s.write (subst (LiteTells plan past p s.operations.items s.read s.write) sent stands.tells)))
