-- The DVM Complete that a port owes breaks no rule.
use Rattle.std.proofs.Common.{◌≡◌, ℕ, true, false, ◌&&◌, if◌then◌else◌, List, [], ◌∷◌, refl, ap, ◌∙◌, inl, inr}
use Rattle.std.specs.List.{list_all}
use Rattle.std.proofs.lemmas.Bool.{and_parts, and_from, cases_Bool}
use Rattle.ace_codes.specs.declared.kind.ArKind.TheVariants as read
use Rattle.ace_codes.specs.Reads.{ar_code}
use Rattle.ace_event.specs.declared.event.Channel.TheVariants.{Read}
use Rattle.ace_event.specs.declared.event.Event.{Event}
use Rattle.ace_event.specs.declared.event.Event.TheVariants.{Ar}
use Rattle.ace_event.specs.declared.header.Header.{Header}
use Rattle.ace_model.specs.Trace.{Trace}
use Rattle.ace_model.specs.Transactions.{is_ace}
use Rattle.ace_runs.specs.Follows.{owes_completion}
use Rattle.ace_runs.specs.MasterSteps.{completion_bursts}
use Rattle.ace_runs.specs.Requests.{free_on, identifiers, is_free, with_identifier}
use Rattle.ace_runs.specs.Steps.{is_sound}
use Rattle.ace_runs.proofs.NeverStuck.Messages.CompletionsIssued.{completion-kept}
use Rattle.ace_runs.proofs.NeverStuck.Operations.Kept.BurstsKept.{with-good}

-- Each burst by which a port gives one is sound.
pub completions-sound : (h : Header) (past : Trace) (p : ℕ) → list_all (is_sound h past) (completion_bursts h past p) ≡ true
completions-sound h past p =
    let burst : ℕ → List Event = λ i. Ar p i 0 (ar_code read.DvmComplete) 1 0 false ∷ [] in
    let bursts = with_identifier (free_on h past p Read) burst in
    elim (cases_Bool (is_ace h p && owes_completion past p)) [
      | inr f ↦ ap (λ b. list_all (is_sound h past) (if b then bursts else [])) f
      | inl t ↦
          let both = and_parts (is_ace h p) (owes_completion past p) t in
          ap (λ b. list_all (is_sound h past) (if b then bursts else [])) t
          ∙ with-good identifiers (is_free h past p Read) (is_sound h past) burst (λ i free. and_from _ _ refl (and_from _ _ (completion-kept h past p i both.0 both.1 free) refl))
    ]
