-- Bursts that issue whole messages: to each first part that a second part follows they have both.
use Rattle.std.proofs.Common.{◌≡◌, ℕ, Bool, true, false, not, ◌&&◌, if◌then◌else◌, List, [], ◌∷◌, ◌++◌, inl, inr, refl, sym, subst, ◌∙◌}
use Rattle.std.specs.List.{list_all}
use Rattle.std.proofs.lemmas.Bool.{and_parts, and_from, cases_Bool, not-true}
use Rattle.ace_event.specs.declared.event.Event.{Event}
use Rattle.ace_event.specs.declared.event.Event.TheVariants.{Ar}
use Rattle.ace_event.specs.declared.header.Header.{Header}
use Rattle.ace_tables.specs.Answers.{same_test}
use Rattle.ace_model.specs.declared.plans.Op.{Op}
use Rattle.ace_model.specs.Messages.{has_second}
use Rattle.ace_model.specs.Trace.{Trace}
use Rattle.ace_model.proofs.General.Booleans.{same_test-at}
use Rattle.ace_runs.specs.Bursts.{onto}
use Rattle.ace_runs.specs.Counts.{issues_part}
use Rattle.ace_runs.specs.Closing.{and_closing, closing_of}
use Rattle.ace_runs.specs.SameEvents.{same_burst, same_event}
use Rattle.ace_runs.specs.Segments.{is_at_port}
use Rattle.ace_runs.proofs.NeverStuck.Steps.SameEvents.{TellsSame, equal-event, same_test-self, tells-same}
use Rattle.ace_runs.proofs.NeverStuck.Steps.Lists.{all-implied}
use Rattle.ace_runs.proofs.NeverStuck.Steps.SilentSteps.{closing-no-read, issues_no_read}

-- the word of the part that the event issues
abbrev pub word_issued : Event → ℕ
word_issued (Ar p i addr code dom bar lock) = addr
word_issued _ = 0

-- the parts that the events issue are the port's; a first part waits for its second before them, and after them, as the two tests say
abbrev pub leads : ℕ → Bool → Bool → List Event → Bool
leads p was later [] = same_test was later
leads p was later (e ∷ burst) = if issues_part e then is_at_port p e && leads p (not was && has_second (word_issued e)) later burst else leads p was later burst

-- they issue whole messages
abbrev pub is_whole : ℕ → List Event → Bool
is_whole p burst = leads p false false burst

-- ---- bursts ------------------------------------------------------------------------------------------

-- events that issue no part
abbrev pub issues_none : Event → Bool
issues_none e = not (issues_part e)

pub none-leads : (p : ℕ) (was : Bool) (burst : List Event) → list_all issues_none burst ≡ true → leads p was was burst ≡ true
none-leads p was [] m = same_test-self was
none-leads p was (e ∷ burst) m =
    let parts = and_parts (issues_none e) (list_all issues_none burst) m in
    rw (not-true (issues_part e) parts.0) (none-leads p was burst parts.1)

pub leads-append : (p : ℕ) (was mid later : Bool) (xs ys : List Event) → leads p was mid xs ≡ true → leads p mid later ys ≡ true → leads p was later (xs ++ ys) ≡ true
leads-append p was mid later [] ys x y = subst (λ b. leads p b later ys ≡ true) (sym (same_test-at was mid x)) y
leads-append p was mid later (e ∷ xs) ys x y =
    elim (cases_Bool (issues_part e)) [
      | inl t ↦
          let parts = and_parts (is_at_port p e) (leads p (not was && has_second (word_issued e)) mid xs) (rw t at x) in
          rw t (and_from _ _ parts.0 (leads-append p (not was && has_second (word_issued e)) mid later xs ys parts.1 y))
      | inr f ↦ rw f (leads-append p was mid later xs ys (rw f at x) y)
    ]

pub silent-none : (e : Event) → issues_no_read e ≡ true → issues_none e ≡ true
silent-none (Ar p i addr code dom bar lock) m = cc
silent-none e m = refl

pub closing-none : (h : Header) (past : Trace) (p : ℕ) (o : Op) → list_all issues_none (closing_of h past p o) ≡ true
closing-none h past p o = all-implied issues_no_read issues_none silent-none (closing_of h past p o) (closing-no-read h past p o)

pub closed-whole : (h : Header) (past : Trace) (p : ℕ) (o : Op) (burst : List Event) → is_whole p burst ≡ true → is_whole p (and_closing h past p o burst) ≡ true
closed-whole h past p o burst w =
    leads-append p false false false burst (closing_of h (onto burst past) p o) w (none-leads p false (closing_of h (onto burst past) p o) (closing-none h (onto burst past) p o))

-- ---- the same events ---------------------------------------------------------------------------------

same-issued : (d e : Event) → same_event d e ≡ true → issues_part d ≡ true → d ≡ e
same-issued (Ar p i a s d b l) e same part = equal-event (Ar p i a s d b l) e same refl
same-issued d e same part = cc

same-part : TellsSame issues_part
same-part = tells-same issues_part (λ p c i line. refl) (λ p a s x line. refl) (λ a line. refl)

pub same-leads : (p : ℕ) (was later : Bool) (ds es : List Event) → same_burst ds es ≡ true → leads p was later ds ≡ true → leads p was later es ≡ true
same-leads p was later [] [] s m = m
same-leads p was later [] (e ∷ es) s m = cc
same-leads p was later (d ∷ ds) [] s m = cc
same-leads p was later (d ∷ ds) (e ∷ es) s m =
    let same = and_parts (same_event d e) (same_burst ds es) s in
    elim (cases_Bool (issues_part d)) [
      | inl t ↦
          let one = same-issued d e same.0 t in
          let parts = and_parts (is_at_port p d) (leads p (not was && has_second (word_issued d)) later ds) (rw t at m) in
          let rest = same-leads p (not was && has_second (word_issued d)) later ds es same.1 parts.1 in
          let here : leads p was later (d ∷ es) ≡ true = rw t (and_from _ _ parts.0 rest) in
          subst (λ (v : Event). leads p was later (v ∷ es) ≡ true) one here
      | inr f ↦ rw (sym (same-part d e same.0) ∙ f) (same-leads p was later ds es same.1 (rw f at m))
    ]
