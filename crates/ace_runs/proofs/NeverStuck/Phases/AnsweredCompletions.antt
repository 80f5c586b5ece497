-- That a port has answered the AC DVM Complete of its last Sync: this stays so until it issues a Sync or has another AC DVM Complete, and comes by
-- a CR alone.
use Rattle.std.proofs.Common.{◌≡◌, ℕ, ◌+◌, Bool, true, false, not, ◌&&◌, ◌||◌, ◌==◌, List, [], ◌∷◌, ◌++◌, length, length-append, drop, is_some, inl, inr, refl, sym, ap, ◌∙◌, arith}
use Rattle.std.specs.List.{list_any}
use Rattle.std.proofs.lemmas.Bool.{and_parts, and_from, cases_Bool, cases_lt, not-true}
use Rattle.std.proofs.lemmas.List.{drop-append-le, drop-drop, drop_all}
use Rattle.std.proofs.lemmas.List.Folds.{list_any-append}
use Rattle.ace_event.specs.declared.event.Event.{Event}
use Rattle.ace_event.specs.declared.event.Event.TheVariants.{Ac, Cr}
use Rattle.ace_model.specs.declared.snoops.Snoop.{Snoop}
use Rattle.ace_model.specs.Messages.{completes_sync, is_sync_completed, sync_in}
use Rattle.ace_model.specs.Snoops.{answers, snoops_of}
use Rattle.ace_model.specs.Trace.{Trace}
use Rattle.ace_model.specs.Transactions.{issued}
use Rattle.ace_runs.specs.Retiring.{has_answered_completion, tells_completion, unanswered}

-- ---- the snoops that are left ------------------------------------------------------------------------

or-none : (a b : Bool) → (a || b) ≡ false → (a ≡ false) × (b ≡ false)
or-none true b f = cc
or-none false b f = (refl, f)

tail-none : {A : Type 0} → (test : A → Bool) (xs : List A) → list_any test xs ≡ false → list_any test (drop 1 xs) ≡ false
tail-none test [] f = refl
tail-none test (x ∷ xs) f = (or-none (test x) (list_any test xs) f).1

-- with one more answered
pub later-none : {A : Type 0} → (test : A → Bool) (xs : List A) (n : ℕ) → list_any test (drop n xs) ≡ false → list_any test (drop (n + 1) xs) ≡ false
later-none test xs n f = ap (list_any test) (sym (drop-drop 1 n xs)) ∙ tail-none test (drop n xs) f

-- with one more that fails the test
pub pushed-none : {A : Type 0} → (test : A → Bool) (xs : List A) (n : ℕ) (s : A) → list_any test (drop n xs) ≡ false → test s ≡ false → list_any test (drop n (xs ++ s ∷ [])) ≡ false
pushed-none test xs n s f t =
    let long = length-append xs (s ∷ []) in
    elim (cases_lt (length xs) n) [
      | inl low ↦ ap (list_any test) (drop_all n (xs ++ s ∷ []) (omega (arith, long, low)))
      | inr high ↦ ap (list_any test) (drop-append-le n xs (s ∷ []) high) ∙ list_any-append test (drop n xs) (s ∷ []) ∙ ap (λ b. b || (test s || false)) f ∙ ap (λ b. b || false) t
    ]

-- ---- it stays so -------------------------------------------------------------------------------------

-- the event issues no Sync of the port
abbrev pub issues_sync : Trace → ℕ → Event → Bool
issues_sync past p e = is_some (sync_in past (issued (length past) e) p)

snoops-stay : (e : Event) (past : Trace) (p : ℕ) → completes_sync e p ≡ false → list_any tells_completion (unanswered past p) ≡ false → list_any tells_completion (unanswered (e ∷ past) p) ≡ false
snoops-stay (Ac q addr code) past p other f =
    elim (cases_Bool (p == q)) [
      | inr n ↦ rw n f
      | inl t ↦
          let s : Snoop = record { place = length past; addr = addr; snoop = code } in
          let none : tells_completion s ≡ false = rw t at other in
          rw t (pushed-none tells_completion (snoops_of past p) (answers past p) s f none)
    ]
snoops-stay (Cr q resp st) past p other f =
    elim (cases_Bool (p == q)) [
      | inr n ↦ rw n f
      | inl t ↦ rw t (later-none tells_completion (snoops_of past p) (answers past p) f)
    ]
snoops-stay e past p other f = f

pub answered-stays : (e : Event) (past : Trace) (p : ℕ) → has_answered_completion past p ≡ true → issues_sync past p e ≡ false → completes_sync e p ≡ false → has_answered_completion (e ∷ past) p ≡ true
answered-stays e past p answered none other =
    let parts = and_parts (is_sync_completed past p) (not (list_any tells_completion (unanswered past p))) answered in
    let told : is_sync_completed (e ∷ past) p ≡ true = ap (λ b. b || (not (issues_sync past p e) && is_sync_completed past p)) other ∙ ap (λ b. not b && is_sync_completed past p) none ∙ parts.0 in
    and_from _ _ told (ap not (snoops-stay e past p other (not-true (list_any tells_completion (unanswered past p)) parts.1)))

pub untold-unanswered : (past : Trace) (p : ℕ) → is_sync_completed past p ≡ false → has_answered_completion past p ≡ false
untold-unanswered past p untold = ap (λ b. b && not (list_any tells_completion (unanswered past p))) untold
