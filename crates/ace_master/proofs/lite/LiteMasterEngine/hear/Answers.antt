use Rattle.std.proofs.Common.{◌∷◌, refl, sym, subst}
use Rattle.std.proofs.lemmas.Bool.{eq-eqb}
use Rattle.ace_master_state.specs.Identifiers.{IdentifiersStand}
use Rattle.ace_master.specs.Lite.{LiteTells, port_of}
use Rattle.ace_master.proofs.LiteHeard.{tells-left}
use Rattle.ace_master.proofs.OtherEvents.{other-leaves}
use Rattle.ace_master.proofs.lite.LiteMasterEngine.hear.Goals as goal

pub returns-clause-stands : goal.returns-clause-stands
returns-clause-stands c = λ plan past s legal other.
    let e = c.args.event.now in
    let m = c.args.self.now in
    let p = port_of m in
    let l = other-leaves past p e (other p (eq-eqb p p refl)) in
    record {
      port = c.note.ensures.kept plan past s.port legal;
      identifiers = subst (λ q. IdentifiersStand plan.header (e ∷ past) q c.note.new.identifiers) (sym c.note.ensures.port) (c.note.ensures.identifiers plan past legal s.tells.lite s.identifiers);
      tells = subst (λ q. LiteTells plan (e ∷ past) q m.operations.items m.read m.write m.unsent) (sym c.note.ensures.port)
          (tells-left plan past p e m.operations.items m.read m.write m.unsent l s.tells);
    }
