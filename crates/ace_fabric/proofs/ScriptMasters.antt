-- The masters of the ports of a script, as engines.
use Rattle.std.proofs.Common.{◌≡◌, ◌∷◌, ◌++◌, ℕ, List, [], Some, length, slice_get, subst, sym, inl, inr, ◌∙◌}
use Rattle.std.proofs.lemmas.Bool.{cases_eq}
use Rattle.ace_model.specs.Plans.{Plan}
use Rattle.ace_model.specs.Trace.{Trace}
use Rattle.ace_model.proofs.General.Lists.{slice_get-at_end, slice_get-not_at_end}
use Rattle.ace_policy.specs.contracts.chosen.Chosen as chosen
use Rattle.ace_policy.specs.contracts.chosen.ChosenPolicy.TheImpl as picks
use Rattle.ace_master.specs.contracts.ace.AceMaster as ace
use Rattle.ace_master.specs.contracts.ace.AceMasterEngine.TheImpl as ace_engine
use Rattle.ace_master.specs.declared.ace.AceMaster.{AceMaster}
use Rattle.ace_master.specs.contracts.lite.LiteMaster as lite
use Rattle.ace_master.specs.contracts.lite.LiteMasterEngine.TheImpl as lite_engine
use Rattle.ace_master.specs.declared.lite.LiteMaster.{LiteMaster}
use Rattle.ace_policy.specs.declared.chosen.Chosen.{Chosen}
use Rattle.ace_engine.specs.Engines.{Master}
use Rattle.ace_engine.specs.declared.engine.Engine.{Ghosts}
use Rattle.ace_fabric.specs.contracts.port_master.PortMasterEngine.TheImpl as either
use Rattle.ace_fabric.specs.declared.port_master.PortMaster.{PortMaster}
use Rattle.ace_fabric.specs.Parts.{AreMasters}
use Rattle.ace_fabric.specs.System.{IsMasterOf}

-- what the masters of a script are as engines
abbrev pub of_script : Ghosts (PortMaster (AceMaster Chosen) LiteMaster)
of_script = either.ghosts (ace.the_row chosen.the_row) lite.the_row
    (ace_engine.ghosts chosen.the_row picks.ghosts picks.dict) (ace_engine.dict chosen.the_row picks.ghosts picks.dict)
    lite_engine.ghosts lite_engine.dict

-- each of the masters is that of the port of its place
pub record ArePlaced {E : Type 0} (g : Ghosts E) (plan : Plan) (past : Trace) (masters : List E) : Type 0 where
  pub each : (k : ℕ) (m : E) → slice_get masters k ≡ Some m → IsMasterOf g plan past k m

module _ {E : Type 0} (g : Ghosts E) (plan : Plan) (past : Trace) where
  pub none-placed : ArePlaced g plan past []
  none-placed = record { each = λ k m at. absurd (cc) }

  pub one-more-placed : (masters : List E) (m : E) → ArePlaced g plan past masters → IsMasterOf g plan past (length masters) m → ArePlaced g plan past (masters ++ m ∷ [])
  one-more-placed masters m placed last = record {
    each = λ k x at. elim (cases_eq k (length masters)) [
      | inl here ↦
          let end = slice_get-at_end masters k m here in
          let same : m ≡ x = cc in
          subst (λ n. IsMasterOf g plan past n x) (sym here) (subst (IsMasterOf g plan past (length masters)) same last)
      | inr off ↦ placed.each k x (sym (slice_get-not_at_end masters k m off) ∙ at)
    ];
  }

  pub all-placed : (masters : List E) → g.kind ≡ Master → length masters ≡ plan.header.ports → ArePlaced g plan past masters → AreMasters g plan past masters
  all-placed masters kind count placed = record {
    kind_is = kind;
    count = count;
    serve = λ k m at. (placed.each k m at).serves;
    stand = λ k m at. (placed.each k m at).stands;
  }
