-- A port that was snooped under the grant of a line and has no answer under it has an unanswered AC.
use Rattle.std.proofs.Common.{◌≡◌, ℕ, zero, suc, ◌<◌, ◌≤◌, Bool, true, false, ◌&&◌, ◌||◌, ◌==◌, if◌then◌else◌, List, [], ◌∷◌, length, Option, Some, None, is_none, slice_get, refl, sym, ap, ◌∙◌, inl, inr, arith}
use Rattle.std.proofs.lemmas.Bool.{and_parts, and_from, cases_Bool, cases_eq, eqb-true, eq-eqb, le-leb, or_cases}
use Rattle.std.proofs.lemmas.Option.{slice_get_within}
use Rattle.ace_event.specs.declared.event.Event.{Event}
use Rattle.ace_event.specs.declared.event.Event.TheVariants.{Ac, Cr}
use Rattle.ace_event.specs.declared.header.Header.{Header}
use Rattle.ace_model.specs.declared.snoops.Answer.{Answer}
use Rattle.ace_model.specs.declared.snoops.Snoop.{Snoop}
use Rattle.ace_model.specs.Accepted.{IsAccepted}
use Rattle.ace_model.specs.Grants.{answer_at, answer_of, answers_grant, gives_line, grant_place, is_snoop_to, owes_answer, was_snooped}
use Rattle.ace_model.specs.Snoops.{answered, answers, snoop_at, snoops_a_line, snoops_of}
use Rattle.ace_model.specs.Trace.{Trace, newer}
use Rattle.ace_model.proofs.General.Lists.{slice_get-at_end, slice_get-grown}
use Rattle.ace_model.proofs.General.Options.{none_is}
use Rattle.ace_model.proofs.Grants.Pending.{IsPending, snoops}
use Rattle.ace_runs.proofs.Few.Queues.{answers-within}

-- a snoop of the port on the line that it hasn't answered
abbrev HasPending : Trace → ℕ → ℕ → Type 0
HasPending past q l = (n : ℕ) × (s : Snoop) × IsPending past q n l s

new-pending : (e : Event) (past : Trace) (q l : ℕ) → answers past q ≤ length (snoops_of past q) → is_snoop_to e q l ≡ true → HasPending (e ∷ past) q l
new-pending (Ac p addr code) past q l within to =
    let parts = and_parts ((q == p) && snoops_a_line code) (l == addr) to in
    let two = and_parts (q == p) (snoops_a_line code) parts.0 in
    let s : Snoop = record { place = length past; addr = addr; snoop = code } in (
      length (snoops_of past q),
      s,
      record {
        late = within;
        there = rw two.0 (slice_get-at_end (snoops_of past q) (length (snoops_of past q)) s refl);
        on = and_from _ _ two.1 (eq-eqb addr l (sym (eqb-true l addr parts.1)));
      },
    )
new-pending e past q l within to = cc

none-if : {A : Type 0} → (b : Bool) (x : A) → (if b then Some x else None) ≡ None → b ≡ false
none-if true x e = cc
none-if false x e = refl

-- what isn't answered by the event stays so
still-late : (e : Event) (past : Trace) (q n l : ℕ) (s : Snoop) → IsPending past q n l s → grant_place past l ≤ s.place → answer_at past e q l ≡ None → answers (e ∷ past) q ≤ n
still-late (Cr r resp st) past q n l s p under none =
    elim (cases_Bool (q == r)) [
      | inr other ↦ rw other p.late
      | inl here ↦ elim (cases_eq (answers past q) n) [
        | inr apart ↦ let late = p.late in rw here (omega (arith, late, apart))
        | inl next ↦
            let is : answered past q ≡ Some s = ap (slice_get (snoops_of past q)) next ∙ p.there in
            let grants : answers_grant past q l ≡ true = rw is (and_from _ _ p.on (le-leb (grant_place past l) s.place under)) in
            let not_both = none-if ((q == r) && answers_grant past q l) _ none in
            let both : ((q == r) && answers_grant past q l) ≡ true = and_from _ _ here grants in cc
      ]
    ]
still-late e past q n l s p under none = p.late

newer-nones : (new older : Option Answer) → newer new older ≡ None → (new ≡ None) × (older ≡ None)
newer-nones None older e = (refl, e)
newer-nones (Some a) older e = cc

unanswered-there : (h : Header) (past : Trace) (q l : ℕ) → IsAccepted h past → was_snooped past q l ≡ true → answer_of past q l ≡ None → HasPending past q l
unanswered-there h [] q l a was none = cc
unanswered-there h (e ∷ past) q l a was none =
    elim (cases_Bool (gives_line past e l)) [
      | inl t ↦ let bad : false ≡ true = rw t at was in cc
      | inr f ↦
          let either : (is_snoop_to e q l || was_snooped past q l) ≡ true = rw f at was in
          let neither : newer (answer_at past e q l) (answer_of past q l) ≡ None = rw f at none in
          let nones = newer-nones (answer_at past e q l) (answer_of past q l) neither in
          elim (or_cases (is_snoop_to e q l) (was_snooped past q l) either) [
            | inl now ↦ new-pending e past q l (answers-within h past q a.0) now
            | inr before ↦
                let old = unanswered-there h past q l a.0 before nones.1 in
                let under = ((snoops h past a.0).pending q old.0 l old.1 old.2).under in (
                  old.0,
                  old.1,
                  record {
                    late = still-late e past q old.0 l old.1 old.2 under nones.0;
                    there = slice_get-grown (snoops_of past q) (snoop_at (length past) e q) old.0 old.1 old.2.there;
                    on = old.2.on;
                  },
                )
          ]
    ]

some-before : (xs : List Snoop) (n : ℕ) → n < length xs → slice_get xs n ≡ None → ⊥
some-before [] n low none = absurd (omega (arith, low))
some-before (x ∷ xs) zero low none = cc
some-before (x ∷ xs) (suc n) low none = some-before xs n (omega (arith, low)) none

-- where no AC of the port is unanswered, it owes no answer
pub answered-all : (h : Header) (past : Trace) (q l : ℕ) → IsAccepted h past → answered past q ≡ None → owes_answer past q l ≡ false
answered-all h past q l a none =
    elim (cases_Bool (owes_answer past q l)) [
      | inr f ↦ f
      | inl owes ↦
          let parts = and_parts (was_snooped past q l) (is_none (answer_of past q l)) owes in
          let p = unanswered-there h past q l a parts.0 (none_is (answer_of past q l) parts.1) in
          let within = slice_get_within (snoops_of past q) p.0 p.1 p.2.there in
          let late = p.2.late in
          absurd (some-before (snoops_of past q) (answers past q) (omega (arith, within, late)) none)
    ]
