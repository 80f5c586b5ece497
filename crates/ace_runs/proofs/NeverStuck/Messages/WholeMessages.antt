-- Between the steps of a run no first part of a DVM message waits for its second: for a right plan step 14 issues whole messages.
use Rattle.std.proofs.Common.{◌≡◌, ◌≢◌, ℕ, Bool, true, false, not, ◌&&◌, List, [], ◌∷◌, Option, Some, None, is_some, inl, inr, refl, sym, ap, subst, ◌∙◌}
use Rattle.std.proofs.Math.Bool.{and-false}
use Rattle.std.specs.List.{list_all}
use Rattle.std.proofs.lemmas.Bool.{and_parts, cases_Bool, cases_eq, eqb-true, ne_eqb, not-true}
use Rattle.ace_event.specs.declared.event.Event.{Event}
use Rattle.ace_event.specs.declared.event.Event.TheVariants.{Ar}
use Rattle.ace_model.specs.declared.transactions.Transaction.{Transaction}
use Rattle.ace_model.specs.Messages.{first_waiting, has_second, waits_after}
use Rattle.ace_model.specs.Plans.{IsRight, Plan}
use Rattle.ace_model.specs.Trace.{Trace}
use Rattle.ace_model.proofs.General.Booleans.{same_test-at}
use Rattle.ace_runs.specs.Bursts.{onto}
use Rattle.ace_runs.specs.Counts.{issues_part}
use Rattle.ace_runs.specs.Segments.{is_at_port}
use Rattle.ace_runs.specs.Steps.{AreSteps, is_step}
use Rattle.ace_runs.proofs.Turns.{of-each-run}
use Rattle.ace_runs.proofs.NeverStuck.Messages.IssuedMessages.{goes-on-whole}
use Rattle.ace_runs.proofs.NeverStuck.Messages.MessageSteps.{issues-by-one}
use Rattle.ace_runs.proofs.NeverStuck.Messages.WholeIssues.{is_whole, issues_none, leads, word_issued}

-- no port's last part is a first part that a second is to follow
abbrev pub AreMessagesWhole : Trace → Type 0
AreMessagesWhole past = (p : ℕ) → first_waiting past p ≡ None

-- ---- one event ---------------------------------------------------------------------------------------

unissued-waits : (e : Event) (past : Trace) (p : ℕ) → issues_part e ≡ false → first_waiting (e ∷ past) p ≡ first_waiting past p
unissued-waits (Ar q i addr code dom bar lock) past p none = rw none refl
unissued-waits e past p none = refl

other-waits : (e : Event) (past : Trace) (p : ℕ) → is_at_port p e ≡ false → first_waiting (e ∷ past) p ≡ first_waiting past p
other-waits (Ar q i addr code dom bar lock) past p other = rw (other, and-false (issues_part (Ar q i addr code dom bar lock))) refl
other-waits e past p other = refl

pub after-part : (waiting : Option Transaction) (x : Transaction) → is_some (waits_after waiting (Some x)) ≡ (not (is_some waiting) && has_second x.addr)
after-part (Some f) x = refl
after-part None x =
    elim (cases_Bool (has_second x.addr)) [ inl t ↦ rw t refl | inr f ↦ rw f refl ]

part-waits : (e : Event) (past : Trace) (p : ℕ) → issues_part e ≡ true → is_at_port p e ≡ true
    → is_some (first_waiting (e ∷ past) p) ≡ (not (is_some (first_waiting past p)) && has_second (word_issued e))
part-waits (Ar q i addr code dom bar lock) past p part here = rw (part, here) (after-part (first_waiting past p) _)
part-waits e past p part here = cc

-- ---- bursts ------------------------------------------------------------------------------------------

unissued-all : (burst : List Event) (past : Trace) (p : ℕ) → list_all issues_none burst ≡ true → first_waiting (onto burst past) p ≡ first_waiting past p
unissued-all [] past p none = refl
unissued-all (e ∷ burst) past p none =
    let parts = and_parts (issues_none e) (list_all issues_none burst) none in
    unissued-all burst (e ∷ past) p parts.1 ∙ unissued-waits e past p (not-true (issues_part e) parts.0)

led : (burst : List Event) (past : Trace) (p : ℕ) (was later : Bool) → is_some (first_waiting past p) ≡ was → leads p was later burst ≡ true
    → is_some (first_waiting (onto burst past) p) ≡ later
led [] past p was later now w = now ∙ same_test-at was later w
led (e ∷ burst) past p was later now w =
    elim (cases_Bool (issues_part e)) [
      | inl t ↦
          let parts = and_parts (is_at_port p e) (leads p (not was && has_second (word_issued e)) later burst) (rw t at w) in
          led burst (e ∷ past) p (not was && has_second (word_issued e)) later (part-waits e past p t parts.0 ∙ ap (λ b. not b && has_second (word_issued e)) now) parts.1
      | inr f ↦ led burst (e ∷ past) p was later (ap is_some (unissued-waits e past p f) ∙ now) (rw f at w)
    ]

-- the event is at one port
one-port : (e : Event) (p q : ℕ) → issues_part e ≡ true → is_at_port p e ≡ true → p ≢ q → is_at_port q e ≡ false
one-port (Ar r i addr code dom bar lock) p q part at apart = ne_eqb r q (λ same. apart (sym (eqb-true r p at) ∙ same))
one-port e p q part at apart = cc

led-others : (burst : List Event) (past : Trace) (p q : ℕ) (was later : Bool) → p ≢ q → leads p was later burst ≡ true → first_waiting (onto burst past) q ≡ first_waiting past q
led-others [] past p q was later apart w = refl
led-others (e ∷ burst) past p q was later apart w =
    elim (cases_Bool (issues_part e)) [
      | inl t ↦
          let parts = and_parts (is_at_port p e) (leads p (not was && has_second (word_issued e)) later burst) (rw t at w) in
          led-others burst (e ∷ past) p q (not was && has_second (word_issued e)) later apart parts.1 ∙ other-waits e past q (one-port e p q t parts.0 apart)
      | inr f ↦ led-others burst (e ∷ past) p q was later apart (rw f at w) ∙ unissued-waits e past q f
    ]

none-of : (o : Option Transaction) → is_some o ≡ false → o ≡ None
none-of None f = refl
none-of (Some x) f = cc

-- ---- all steps ---------------------------------------------------------------------------------------

whole-kept : (burst : List Event) (past : Trace) (p : ℕ) → AreMessagesWhole past → is_whole p burst ≡ true → AreMessagesWhole (onto burst past)
whole-kept burst past p whole w q =
    elim (cases_eq p q) [
      | inl same ↦
          let now : is_some (first_waiting past p) ≡ false = ap is_some (whole p) in
          subst (λ r. first_waiting (onto burst past) r ≡ None) same (none-of (first_waiting (onto burst past) p) (led burst past p false false now w))
      | inr apart ↦ led-others burst past p q false false apart w ∙ whole q
    ]

pub messages-kept : (plan : Plan) (past : Trace) (p : ℕ) (burst : List Event) → IsRight plan → AreMessagesWhole past → is_step plan past p burst ≡ true
    → AreMessagesWhole (onto burst past)
messages-kept plan past p burst right whole s =
    elim (issues-by-one plan past p burst s) [
      | inl none ↦ λ q. unissued-all burst past q none ∙ whole q
      | inr g ↦ whole-kept burst past p whole (goes-on-whole plan past p burst right g)
    ]

-- In each run of a right plan the DVM messages are whole.
pub issues-whole : (plan : Plan) (past : Trace) → IsRight plan → AreSteps plan past → AreMessagesWhole past
issues-whole plan past right s =
    of-each-run plan AreMessagesWhole (λ p. refl) (λ before p burst whole step. messages-kept plan before p burst right whole step) past s
