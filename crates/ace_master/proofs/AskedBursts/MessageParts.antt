-- Both parts of a DVM message, under the least two identifiers that are free.
use Rattle.std.proofs.Common.{◌≡◌, ℕ, Bool, true, false, not, ◌&&◌, ◌==◌, if◌then◌else◌, List, [], ◌∷◌, ◌++◌, map, Option, Some, is_none, refl, ap, ◌∙◌}
use Rattle.std.specs.List.{flat_map}
use Rattle.std.proofs.lemmas.Bool.{eq-eqb}
use Rattle.ace_codes.specs.Reads.{ar_code}
use Rattle.ace_codes.specs.declared.kind.ArKind.TheVariants as read
use Rattle.ace_event.specs.declared.event.Channel.TheVariants.{Read}
use Rattle.ace_event.specs.declared.event.Event.{Event}
use Rattle.ace_event.specs.declared.header.Header.{Header}
use Rattle.ace_model.specs.declared.transactions.Transaction.{Transaction}
use Rattle.ace_model.specs.Kinds.{is_no_snoop_read}
use Rattle.ace_model.specs.Trace.{Trace}
use Rattle.ace_model.specs.Transactions.{outstanding}
use Rattle.ace_model.proofs.Trace.Outstanding.{read_issued}
use Rattle.ace_runs.specs.Requests.{and_part, domain_for, free_on, is_free, least_below, message_bursts, with_identifier}
use Rattle.ace_master_state.proofs.LeastIdentifiers.{least-same}
use Rattle.ace_master.specs.Issues.{ar_of}

module _ (h : Header) (past : Trace) (p word second : ℕ) where
  abbrev part : ℕ → ℕ → Event
  part i w = ar_of p i read.DvmMessage w false

  module _ (i : ℕ) where
    -- those that are free beside the first part's
    free-beside : free_on h (part i word ∷ past) p Read ≡ least_below 16 (λ j. not (i == j) && is_free h past p Read j)
    free-beside = least-same 16 (is_free h (part i word ∷ past) p Read) (λ j. not (i == j) && is_free h past p Read j) (λ j low. one j)
      where
        by : (x : Transaction) (b : Bool) (o : Option Transaction) → is_none (if b then Some x else o) ≡ (not b && is_none o)
        by x true o = refl
        by x false o = refl

        one : (j : ℕ) → is_free h (part i word ∷ past) p Read j ≡ (not (i == j) && is_free h past p Read j)
        one j =
            let x = read_issued past p i word (ar_code read.DvmMessage) (domain_for (is_no_snoop_read read.DvmMessage)) 0 false in
            ap (λ b. is_none (if b && true && (i == j) then Some x else outstanding h past p Read j)) (eq-eqb p p refl) ∙ by x (i == j) (outstanding h past p Read j)

    pub parts-are : (o : Option ℕ) → free_on h past p Read ≡ Some i → least_below 16 (λ j. not (i == j) && is_free h past p Read j) ≡ o
        → message_bursts h past p word second ≡ (map (λ (later : List Event). (part i word ∷ []) ++ later) (with_identifier o (λ j. part j second ∷ [])) ++ [])
    parts-are o first next =
        ap (λ u. flat_map (and_part h past p second) (map (λ (later : List Event). [] ++ later) (with_identifier u (λ i. part i word ∷ [])))) first
        ∙ ap (λ u. map (λ (later : List Event). (part i word ∷ []) ++ later) (with_identifier u (λ j. part j second ∷ [])) ++ []) (free-beside ∙ next)
