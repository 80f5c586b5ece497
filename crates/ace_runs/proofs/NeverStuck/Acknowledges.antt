-- A complete transaction of an ACE port that is outstanding waits for its RK or WK, so an acknowledge of the port is due.
use Rattle.std.proofs.Common.{◌≡◌, ◌≢◌, ℕ, zero, suc, ◌+◌, ◌<◌, ◌≤◌, Bool, true, false, not, ◌&&◌, ◌==◌, if◌then◌else◌, List, [], ◌∷◌, length, Some, None, is_some, slice_get, le_refl, refl, sym, ap, subst, ◌∙◌, inl, inr, arith}
use Rattle.std.proofs.lemmas.Bool.{and_parts, or_cases, or_left, or_right, cases_Bool, cases_eq, eqb-true}
use Rattle.std.proofs.lemmas.Option.{slice_get_within}
use Rattle.ace_event.specs.declared.event.Channel.{Channel}
use Rattle.ace_event.specs.declared.event.Channel.TheVariants.{Read, Write}
use Rattle.ace_event.specs.declared.event.Event.{Event}
use Rattle.ace_event.specs.declared.event.Event.TheVariants.{B, R, Rk, Wk}
use Rattle.ace_event.specs.declared.header.Header.{Header}
use Rattle.ace_model.specs.declared.transactions.Transaction.{Transaction}
use Rattle.ace_model.specs.Accepted.{IsAccepted}
use Rattle.ace_model.specs.Trace.{Trace, is_some_and, more}
use Rattle.ace_model.specs.Transactions.{acknowledged, acknowledgements, completed, completes, ended, is_ace, is_complete, is_completion, is_named, is_read, issued, next_complete, outstanding, transaction_of, transaction_under}
use Rattle.ace_model.proofs.General.Lists.{slice_get-at_end, slice_get-grown}
use Rattle.ace_model.proofs.Trace.Issued.{outstanding-named, outstanding-origin}
use Rattle.ace_model.proofs.Trace.WriteQueue.{issue_completes}
use Rattle.ace_model.proofs.Outstanding.Waiting.{waits_is}
use Rattle.ace_runs.specs.MasterSteps.{due, has_due}
use Rattle.ace_runs.proofs.Few.Queues.{read-acknowledges-within, write-acknowledges-within}

-- a place among the complete transactions of the port on the channel that wait
abbrev Waits : Trace → ℕ → Channel → ℕ → Type 0
Waits past p c i = (n : ℕ) × (acknowledgements past p c ≤ n) × (slice_get (completed past p c) n ≡ Some i)

-- what completes it puts it behind the others
added : (b : Bool) (ids : List ℕ) (i j : ℕ) → is_some_and (if b then Some j else None) (λ j. i == j) ≡ true → slice_get (more ids (if b then Some j else None)) (length ids) ≡ Some i
added false ids i j c = cc
added true ids i j c = slice_get-at_end ids (length ids) j refl ∙ ap (λ v. Some v) (sym (eqb-true i j c))

newly : (e : Event) (past : Trace) (p : ℕ) (c : Channel) (i : ℕ) → acknowledgements past p c ≤ length (completed past p c) → is_completion e p c i ≡ true → Waits (e ∷ past) p c i
newly (R q j resp last word) past p c i within now =
    (length (completed past p c), within, added (is_read c && (p == q) && last) (completed past p c) i j now)
newly (B q j resp) past p c i within now = (length (completed past p c), within, added (not (is_read c) && (p == q)) (completed past p c) i j now)
newly e past p c i within now = cc

-- one that waits isn't acknowledged by an event that leaves it outstanding
unless-next : (past : Trace) (p q : ℕ) (c : Channel) (i n : ℕ) (x : Transaction) → transaction_of past p c i ≡ Some x → (acknowledged past q c ≡ Some x → ⊥)
    → slice_get (completed past p c) n ≡ Some i → acknowledgements past p c ≤ n → (if p == q then acknowledgements past p c + 1 else acknowledgements past p c) ≤ n
unless-next past p q c i n x named lasts there low =
    elim (cases_Bool (p == q)) [
      | inr other ↦ rw other low
      | inl same ↦ elim (cases_eq (acknowledgements past p c) n) [
        | inr apart ↦ rw same (omega (arith, low, apart))
        | inl next ↦
            let here : next_complete past p c ≡ Some i = ap (slice_get (completed past p c)) next ∙ there in
            let now : acknowledged past p c ≡ Some x = ap (transaction_under past p c) here ∙ named in
            absurd (lasts (subst (λ r. acknowledged past r c ≡ Some x) (eqb-true p q same) now))
      ]
    ]

still-low : (h : Header) (e : Event) (past : Trace) (p : ℕ) (c : Channel) (i n : ℕ) (x : Transaction) → transaction_of past p c i ≡ Some x
    → ((z : Transaction) → ended h past e ≡ Some z → z.place ≢ x.place) → slice_get (completed past p c) n ≡ Some i
    → acknowledgements past p c ≤ n → acknowledgements (e ∷ past) p c ≤ n
still-low h (Rk q st) past p Read i n x named lasts there low = unless-next past p q Read i n x named (λ ends. lasts x ends refl) there low
still-low h (Rk q st) past p Write i n x named lasts there low = low
still-low h (Wk q st) past p Write i n x named lasts there low = unless-next past p q Write i n x named (λ ends. lasts x ends refl) there low
still-low h (Wk q st) past p Read i n x named lasts there low = low
still-low h e past p c i n x named lasts there low = low

acknowledges-within : (h : Header) (past : Trace) (p : ℕ) (c : Channel) → IsAccepted h past → acknowledgements past p c ≤ length (completed past p c)
acknowledges-within h past p Read a = read-acknowledges-within h past p a
acknowledges-within h past p Write a = write-acknowledges-within h past p a

waits : (h : Header) (past : Trace) (p : ℕ) (c : Channel) (i : ℕ) (x : Transaction) → IsAccepted h past → outstanding h past p c i ≡ Some x → is_complete past p c i ≡ true → Waits past p c i
waits h [] p c i x a o done = cc
waits h (e ∷ past) p c i x a o done =
    elim (outstanding-origin h past e p c i x o) [
      | inl new ↦
          let none = issue_completes (length past) e x p c i new.0 in
          let bad : false ≡ true = rw (new.0, new.1, none) at done in cc
      | inr old ↦ elim (or_cases (is_completion e p c i) _ done) [
        | inl now ↦ newly e past p c i (acknowledges-within h past p c a.0) now
        | inr earlier ↦
            let w = waits h past p c i x a.0 old.was (and_parts (not (is_named (issued (length past) e) p c i)) _ earlier).1 in (
              w.0,
              still-low h e past p c i w.0 x (outstanding-named h past p c i x old.was) old.lasts w.2 w.1,
              slice_get-grown (completed past p c) (completes e p c) w.0 i w.2,
            )
      ]
    ]

due-on : (h : Header) (past : Trace) (p : ℕ) (c : Channel) → is_some (due h past p c) ≡ true → has_due h past p ≡ true
due-on h past p Read d = or_left (is_some (due h past p Read)) (is_some (due h past p Write)) d
due-on h past p Write d = or_right (is_some (due h past p Read)) (is_some (due h past p Write)) d

-- The port has an acknowledge to give.
pub complete-due : (h : Header) (past : Trace) (p : ℕ) (c : Channel) (i : ℕ) (x : Transaction) → IsAccepted h past → is_ace h p ≡ true
    → outstanding h past p c i ≡ Some x → is_complete past p c i ≡ true → has_due h past p ≡ true
complete-due h past p c i x a ace o done =
    let w = waits h past p c i x a o done in
    let within = slice_get_within (completed past p c) w.0 i w.2 in
    let low = w.1 in
    let next = slice_get-some (completed past p c) (acknowledgements past p c) (omega (arith, within, low)) in
    let y = waits_is h past p c (acknowledgements past p c) next.0 a ace (le_refl (acknowledgements past p c)) next.1 in
    let is : acknowledged past p c ≡ Some y.0 = ap (transaction_under past p c) next.1 ∙ outstanding-named h past p c next.0 y.0 y.1 in
    due-on h past p c (rw (ace, is) refl)
  where
    slice_get-some : (xs : List ℕ) (n : ℕ) → n < length xs → (y : ℕ) × (slice_get xs n ≡ Some y)
    slice_get-some [] n low = absurd (omega (arith, low))
    slice_get-some (y ∷ xs) zero low = (y, refl)
    slice_get-some (y ∷ xs) (suc n) low = slice_get-some xs n (omega (arith, low))
