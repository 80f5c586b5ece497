-- The events of a burst of an ACE port, one after the other.
use Rattle.std.proofs.Common.{◌≡◌, ℕ, zero, suc, ◌+◌, Bool, true, false, refl, List, [], ◌∷◌, take, slice_get, Option, Some, subst, ap, ◌∙◌}
use Rattle.std.specs.List.{list_all}
use Rattle.std.proofs.lemmas.Bool.{and_parts}
use Rattle.std.proofs.lemmas.Option.{get_or_from_slice_get, slice_get_within}
use Rattle.ace_event.specs.declared.event.Event.{Event}
use Rattle.ace_event.specs.declared.event.Event.TheVariants.{Ar, Aw, W}
use Rattle.ace_model.specs.Plans.{Plan}
use Rattle.ace_model.specs.Trace.{Trace}
use Rattle.ace_model.proofs.General.Options.{Some-injective}
use Rattle.ace_runs.specs.Bursts.{onto}
use Rattle.ace_runs.specs.MasterSteps.{is_beat}
use Rattle.ace_engine.specs.Engines.{IsLegal}
use Rattle.ace_engine.proofs.Heard.{legal-next, onto-next}
use Rattle.ace_portck.specs.declared.target.WriteData.{WriteData}
use Rattle.ace_master_state.specs.Cached.{HasLowId}
use Rattle.ace_master.specs.AceEvents.{HaveLowIds}
use Rattle.ace_master.specs.Answering.{AreDataSent}
use Rattle.ace_master.specs.Sending.{UnsentStands}
use Rattle.ace_master.proofs.AnsweredSnoops.AnnouncedData.{data-sent-left}
use Rattle.ace_master.proofs.WriteData.UnsentData.{unsent-left}

-- ---- the next of them --------------------------------------------------------------------------------

pub onto-at : (es : List Event) (i : ℕ) (e : Event) (past : Trace) → slice_get es i ≡ Some e → onto (take (i + 1) es) past ≡ e ∷ onto (take i es) past
onto-at es i e past at =
    onto-next es i e past (slice_get_within es i e at) ∙ ap (λ (f : Event). f ∷ onto (take i es) past) (get_or_from_slice_get es i e e at)

pub legal-at : (plan : Plan) (es : List Event) (i : ℕ) (e : Event) (past : Trace) → slice_get es i ≡ Some e → IsLegal plan (onto es past) → IsLegal plan (e ∷ onto (take i es) past)
legal-at plan es i e past at legal =
    subst (λ (f : Event). IsLegal plan (f ∷ onto (take i es) past)) (get_or_from_slice_get es i e e at) (legal-next plan es i e past (slice_get_within es i e at) legal)

pub low-at : (es : List Event) (i : ℕ) (e : Event) → HaveLowIds es → slice_get es i ≡ Some e → HasLowId e
low-at [] i e low at = cc
low-at (f ∷ es) zero e low at = subst HasLowId (Some-injective f e at) low.0
low-at (f ∷ es) (suc i) e low at = low-at es i e low.1 at

-- ---- bursts of some kinds ----------------------------------------------------------------------------

-- it issues nothing, and is no write data
abbrev pub is_quiet : Event → Bool
is_quiet (Ar p i addr snoop dom bar lock) = false
is_quiet (Aw p i addr snoop dom bar) = false
is_quiet (W p strb last word) = false
is_quiet _ = true

pub quiet-low : (burst : List Event) → list_all is_quiet burst ≡ true → HaveLowIds burst
quiet-low [] q = tt
quiet-low (Ar p i addr snoop dom bar lock ∷ burst) q = cc
quiet-low (e ∷ burst) q = (tt, quiet-low burst (and_parts (is_quiet e) (list_all is_quiet burst) q).1)

pub quiet-unsent : (plan : Plan) (p : ℕ) (unsent : Option WriteData) (burst : List Event) (past : Trace) → list_all is_quiet burst ≡ true → UnsentStands plan past p unsent
    → UnsentStands plan (onto burst past) p unsent
quiet-unsent plan p unsent [] past q u = u
quiet-unsent plan p unsent (Ar r i addr snoop dom bar lock ∷ burst) past q u = cc
quiet-unsent plan p unsent (Aw r i addr snoop dom bar ∷ burst) past q u = cc
quiet-unsent plan p unsent (W r strb last word ∷ burst) past q u = cc
quiet-unsent plan p unsent (e ∷ burst) past q u =
    quiet-unsent plan p unsent burst (e ∷ past) (and_parts (is_quiet e) (list_all is_quiet burst) q).1 (unsent-left plan past p e unsent refl refl u)

pub beats-low : (p : ℕ) (burst : List Event) → list_all (is_beat p) burst ≡ true → HaveLowIds burst
beats-low p [] b = tt
beats-low p (W q strb last word ∷ burst) b = (tt, beats-low p burst (and_parts (is_beat p (W q strb last word)) (list_all (is_beat p) burst) b).1)
beats-low p (e ∷ burst) b = cc

pub beats-answered : (p : ℕ) (burst : List Event) (past : Trace) → list_all (is_beat p) burst ≡ true → AreDataSent past p → AreDataSent (onto burst past) p
beats-answered p [] past b s = s
beats-answered p (W q strb last word ∷ burst) past b s =
    beats-answered p burst (W q strb last word ∷ past) (and_parts (is_beat p (W q strb last word)) (list_all (is_beat p) burst) b).1 (data-sent-left past p (W q strb last word) refl s)
beats-answered p (e ∷ burst) past b s = cc
