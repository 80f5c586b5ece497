-- Between the steps of a run no port owes snoop data: the data of each of its answers are whole.
use Rattle.std.proofs.Common.{◌≡◌, ℕ, ◌+◌, ◌*◌, ◌≤◌, true, false, not, ◌&&◌, ◌==◌, nat_le, [], ◌∷◌, Some, None, inl, inr, refl, sym, ap, subst, arith}
use Rattle.std.proofs.lemmas.Bool.{and_parts, cases_Bool, false_from_ne_true, leb-false}
use Rattle.ace_codes.specs.Responses.{transfers_data}
use Rattle.ace_event.specs.declared.event.Event.{Event}
use Rattle.ace_event.specs.declared.event.Event.TheVariants.{Cr}
use Rattle.ace_model.specs.declared.snoops.Answer.{Answer}
use Rattle.ace_model.specs.Grants.{answer_at, answer_of, answers_grant, gives_line, is_short, owes_data}
use Rattle.ace_model.specs.Plans.{Plan}
use Rattle.ace_model.specs.Snoops.{data_answers, data_beats}
use Rattle.ace_model.specs.Trace.{Trace}
use Rattle.ace_model.proofs.General.Options.{is_some_and-is, newer-cases, some_if-is}
use Rattle.ace_runs.specs.Steps.{AreSteps}
use Rattle.ace_runs.proofs.NeverStuck.Data.WholeAnswers.{answers-whole}

data-answers-grow : (e : Event) (past : Trace) (p : ℕ) → data_answers past p ≤ data_answers (e ∷ past) p
data-answers-grow (Cr q resp st) past p =
    elim (cases_Bool ((p == q) && transfers_data resp)) [
      | inl t ↦ rw t (omega arith)
      | inr f ↦ rw f (omega arith)
    ]
data-answers-grow e past p = omega arith

new-counted : (e : Event) (past : Trace) (p l : ℕ) (a : Answer) → answer_at past e p l ≡ Some a → transfers_data a.resp ≡ true → a.bursts + 1 ≤ data_answers (e ∷ past) p
new-counted (Cr q resp st) past p l a is sends =
    let both = some_if-is ((p == q) && answers_grant past p l) (record { place = _; resp = resp; bursts = data_answers past p }) a is in
    let port = (and_parts (p == q) (answers_grant past p l) both.0).0 in
    let code : transfers_data resp ≡ true = subst (λ n. transfers_data n ≡ true) (ap (λ (v : Answer). v.resp) (sym both.1)) sends in
    let bursts : data_answers past p ≡ a.bursts = ap (λ (v : Answer). v.bursts) both.1 in
    let more : data_answers (Cr q resp st ∷ past) p ≡ data_answers past p + 1 = rw (port, code) refl in
    omega (arith, bursts, more)
new-counted e past p l a is sends = cc

-- an answer with data is one of those that are counted
answer-counted : (past : Trace) (p l : ℕ) (a : Answer) → answer_of past p l ≡ Some a → transfers_data a.resp ≡ true → a.bursts + 1 ≤ data_answers past p
answer-counted [] p l a is sends = cc
answer-counted (e ∷ past) p l a is sends =
    elim (cases_Bool (gives_line past e l)) [
      | inl t ↦ let bad : None ≡ Some a = rw t at is in cc
      | inr f ↦ elim (newer-cases (answer_at past e p l) (answer_of past p l) a (rw f at is)) [
        | inl new ↦ new-counted e past p l a new sends
        | inr old ↦
            let before = answer-counted past p l a old sends in
            let grow = data-answers-grow e past p in
            omega (arith, before, grow)
      ]
    ]

-- Between steps no port owes data for an answer under the grant of a line.
pub no-data-owed : (plan : Plan) (past : Trace) (p l : ℕ) → AreSteps plan past → owes_data past p l ≡ false
no-data-owed plan past p l s =
    false_from_ne_true (owes_data past p l) (λ owes.
    let a = is_some_and-is (answer_of past p l) (λ a. is_short past p a) owes in
    let parts = and_parts (transfers_data a.0.resp) (not (nat_le (4 * (a.0.bursts + 1)) (data_beats past p))) a.2 in
    let counted = answer-counted past p l a.0 a.1 parts.0 in
    let whole = answers-whole plan past s p in
    elim (cases_Bool (nat_le (4 * (a.0.bursts + 1)) (data_beats past p))) [
      | inl t ↦ let bad : false ≡ true = rw t at parts.1 in cc
      | inr f ↦ let few = leb-false (4 * (a.0.bursts + 1)) (data_beats past p) f in absurd (omega (arith, counted, whole, few))
    ])
