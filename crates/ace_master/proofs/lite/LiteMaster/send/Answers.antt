use Rattle.std.proofs.Common.{◌≡◌, ◌++◌, List, ap, subst, ◌∙◌}
use Rattle.ace_event.specs.declared.event.Event.{Event}
use Rattle.ace_master.specs.Lite.{LiteTells, port_of}
use Rattle.ace_master.specs.Operations.{beats_of_data}
use Rattle.ace_master.proofs.LiteNext.{put-turn}
use Rattle.ace_master.proofs.LiteSends.{send-next}
use Rattle.ace_master.proofs.lite.LiteMaster.send.Goals as goal

pub returns-clause-turn : goal.returns-clause-turn
returns-clause-turn c = λ plan past stands unsent.
    let s = c.args.self.now in
    let p = port_of s in
    let d = c.args.carried.now in
    let burst : c.beats-burst.result ≡ beats_of_data p d = c.beats-burst.ensures ∙ ap (λ q. beats_of_data q d) c.port.ensures in
    put-turn s _ plan past c.beats-burst.result (beats_of_data p d) c.put.new.out stands burst
    (c.put.ensures.burst ∙ ap (λ (es : List Event). es ++ c.beats-burst.result) c.requires) c.put.ensures.port (c.put.ensures.kept plan past) (c.put.ensures.identifiers plan past)
    (send-next plan past p stands.port.legal s.operations.items s.read s.write d (subst (LiteTells plan past p s.operations.items s.read s.write) unsent stands.tells))
