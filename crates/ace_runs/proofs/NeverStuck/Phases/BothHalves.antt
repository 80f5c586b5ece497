-- A port that has made one act of a barrier has issued one half more on the read channel than on the write channel, and else as many. So in a
-- run, where both halves are issued together, it has made both acts or none.
use Rattle.std.proofs.Common.{◌≡◌, ℕ, ◌+◌, Bool, true, false, ◌&&◌, ◌==◌, if◌then◌else◌, [], ◌∷◌, ◌++◌, length, length-append, Option, Some, None, inl, inr, refl, sym, ap, subst, ◌∙◌, arith}
use Rattle.std.proofs.Math.Bool.{and-false}
use Rattle.std.proofs.lemmas.Bool.{and_from, cases_Bool, eqb-true}
use Rattle.ace_event.specs.declared.event.Channel.{Channel}
use Rattle.ace_event.specs.declared.event.Channel.TheVariants.{Read, Write}
use Rattle.ace_event.specs.declared.event.Event.{Event}
use Rattle.ace_event.specs.declared.event.Event.TheVariants.{Op as Retires}
use Rattle.ace_model.specs.declared.transactions.Transaction.{Transaction}
use Rattle.ace_model.specs.Barriers.{barriers, is_barrier_half, is_barrier_of}
use Rattle.ace_model.specs.Plans.{Plan}
use Rattle.ace_model.specs.Trace.{Trace, is_some_and, more, option_filter}
use Rattle.ace_model.specs.Transactions.{issued, same_channel}
use Rattle.ace_runs.specs.Counts.{is_retirement}
use Rattle.ace_runs.specs.Follows.{FollowsSoFar, obeys}
use Rattle.ace_runs.specs.Operations.{next_operation}
use Rattle.ace_runs.specs.Segments.{acts_made}
use Rattle.ace_runs.specs.Steps.{AreSteps}
use Rattle.ace_runs.proofs.NeverStuck.Phases.IssuedActs.{issued-turn, issues_of, none-issued}
use Rattle.ace_runs.proofs.NeverStuck.Barriers.Acts.{is_barrier_operation}
use Rattle.ace_runs.proofs.NeverStuck.Barriers.BothAnswered.{halves-together}
use Rattle.ace_runs.proofs.NeverStuck.Barriers.Halves.{half-acts}
use Rattle.ace_runs.proofs.NeverStuck.Phases.Halves.{barrier-half, half-of-barrier, half-turn, two-halves}
use Rattle.ace_runs.proofs.NeverStuck.Phases.OneOfTwo.{none-made, one-if, one-then, one_made, other-retires, retires-none}

-- the port has made one act of a barrier
abbrev pub one_half : Plan → Trace → ℕ → Bool
one_half plan past p = one_made is_barrier_operation plan past p

-- The port has issued one half more on the read channel where it has made one act of a barrier, else as many.
abbrev pub IsPaced : Plan → Trace → ℕ → Type 0
IsPaced plan past p = length (barriers past p Read) ≡ length (barriers past p Write) + (if one_half plan past p then 1 else 0)

paced-as : (plan : Plan) (past later : Trace) (p : ℕ) → barriers later p Read ≡ barriers past p Read → barriers later p Write ≡ barriers past p Write
    → one_half plan later p ≡ one_half plan past p → IsPaced plan past p → IsPaced plan later p
paced-as plan past later p reads writes one paced =
    ap length reads ∙ paced ∙ sym (ap (λ n. n + (if one_half plan later p then 1 else 0)) (ap length writes) ∙ ap (λ b. length (barriers past p Write) + (if b then 1 else 0)) one)

-- ---- the halves that are there -----------------------------------------------------------------------

one-more : (past : Trace) (e : Event) (p : ℕ) (c : Channel) (x : Transaction) → issued (length past) e ≡ Some x → is_barrier_of x p c ≡ true
    → length (barriers (e ∷ past) p c) ≡ length (barriers past p c) + 1
one-more past e p c x new of =
    let added : barriers (e ∷ past) p c ≡ barriers past p c ++ x ∷ [] = rw (new, of) refl in
    ap length added ∙ length-append (barriers past p c) (x ∷ [])

no-more : (past : Trace) (e : Event) (p : ℕ) (c : Channel) → is_some_and (issued (length past) e) (λ x. is_barrier_of x p c) ≡ false → barriers (e ∷ past) p c ≡ barriers past p c
no-more past e p c none = by (issued (length past) e) none
  where
    by : (o : Option Transaction) → is_some_and o (λ x. is_barrier_of x p c) ≡ false → more (barriers past p c) (option_filter (λ x. is_barrier_of x p c) o) ≡ barriers past p c
    by None f = refl
    by (Some x) f = rw f refl

-- ---- an event other than an OP -----------------------------------------------------------------------

no-half : (o : Option Transaction) (p : ℕ) (c : Channel) → is_some_and o (λ x. is_barrier_half x && (x.port == p)) ≡ false → is_some_and o (λ x. is_barrier_of x p c) ≡ false
no-half None p c f = refl
no-half (Some x) p c f = rw f refl

none-paced : (plan : Plan) (past : Trace) (p : ℕ) (e : Event) → obeys plan past e ≡ true → is_retirement e ≡ false → issues_of is_barrier_half past p e ≡ false → IsPaced plan past p
    → IsPaced plan (e ∷ past) p
none-paced plan past p e o other none paced =
    paced-as plan past (e ∷ past) p (no-more past e p Read (no-half (issued (length past) e) p Read none)) (no-more past e p Write (no-half (issued (length past) e) p Write none))
    (none-issued is_barrier_operation is_barrier_half plan past p e (λ t barrier. barrier-half t.of (acts_made past p) t.fits e (length past) barrier t.turn t.passes) o other none) paced

only-on : (past : Trace) (e : Event) (p : ℕ) (c : Channel) (x : Transaction) → issued (length past) e ≡ Some x → same_channel x.chan c ≡ false → barriers (e ∷ past) p c ≡ barriers past p c
only-on past e p c x new other = no-more past e p c (rw (new, other) (and-false (is_barrier_half x && (x.port == p))))

-- the first half, and the second
first-paced : (plan : Plan) (past later : Trace) (p : ℕ) → one_half plan past p ≡ false → one_half plan later p ≡ true → length (barriers later p Read) ≡ length (barriers past p Read) + 1
    → barriers later p Write ≡ barriers past p Write → IsPaced plan past p → IsPaced plan later p
first-paced plan past later p was now reads writes paced =
    let before : length (barriers past p Read) ≡ length (barriers past p Write) + 0 = paced ∙ ap (λ b. length (barriers past p Write) + (if b then 1 else 0)) was in
    let same = ap length writes in
    let count : length (barriers later p Read) ≡ length (barriers later p Write) + 1 = omega (arith, before, reads, same) in
    count ∙ sym (ap (λ b. length (barriers later p Write) + (if b then 1 else 0)) now)

second-paced : (plan : Plan) (past later : Trace) (p : ℕ) → one_half plan past p ≡ true → one_half plan later p ≡ false → barriers later p Read ≡ barriers past p Read
    → length (barriers later p Write) ≡ length (barriers past p Write) + 1 → IsPaced plan past p → IsPaced plan later p
second-paced plan past later p was now reads writes paced =
    let before : length (barriers past p Read) ≡ length (barriers past p Write) + 1 = paced ∙ ap (λ b. length (barriers past p Write) + (if b then 1 else 0)) was in
    let same = ap length reads in
    let count : length (barriers later p Read) ≡ length (barriers later p Write) + 0 = omega (arith, before, writes, same) in
    count ∙ sym (ap (λ b. length (barriers later p Write) + (if b then 1 else 0)) now)

half-paced : (plan : Plan) (past : Trace) (p : ℕ) (e : Event) → obeys plan past e ≡ true → is_retirement e ≡ false → issues_of is_barrier_half past p e ≡ true → IsPaced plan past p
    → IsPaced plan (e ∷ past) p
half-paced plan past p e o other some paced =
    let x = issued-turn is_barrier_half half-acts plan past p e o some in
    let t = x.turn in
    let barrier = half-of-barrier t.of (acts_made past p) t.fits e (length past) x.of x.is x.such t.turn t.passes in
    let sorted : is_some_and (next_operation plan past p) is_barrier_operation ≡ true = ap (λ next. is_some_and next is_barrier_operation) t.next ∙ barrier in
    let before : (made : ℕ) → acts_made past p ≡ made → one_half plan past p ≡ (made == 1) = λ made is. one-if is_barrier_operation plan past p made true sorted is in
    let after : (made : ℕ) → acts_made past p ≡ made → one_half plan (e ∷ past) p ≡ (made + 1 == 1) = λ made is. one-then is_barrier_operation plan past p e made true other x.act sorted is in
    elim (half-turn t.of (acts_made past p) t.fits e (length past) x.of x.is barrier t.turn t.passes) [
      | inl first ↦
          first-paced plan past (e ∷ past) p (before 0 first.1) (after 0 first.1)
          (one-more past e p Read x.of x.is (and_from _ _ x.passes (ap (λ c. same_channel c Read) first.0)))
          (only-on past e p Write x.of x.is (ap (λ c. same_channel c Write) first.0)) paced
      | inr second ↦
          second-paced plan past (e ∷ past) p (before 1 second.1) (after 1 second.1)
          (only-on past e p Read x.of x.is (ap (λ c. same_channel c Read) second.0))
          (one-more past e p Write x.of x.is (and_from _ _ x.passes (ap (λ c. same_channel c Write) second.0))) paced
    ]

event-paced : (plan : Plan) (past : Trace) (p : ℕ) (e : Event) → obeys plan past e ≡ true → is_retirement e ≡ false → IsPaced plan past p → IsPaced plan (e ∷ past) p
event-paced plan past p e o other paced =
    elim (cases_Bool (issues_of is_barrier_half past p e)) [
      | inl some ↦ half-paced plan past p e o other some paced
      | inr none ↦ none-paced plan past p e o other none paced
    ]

-- ---- traces ------------------------------------------------------------------------------------------

pub paced : (plan : Plan) (past : Trace) (p : ℕ) → FollowsSoFar plan past → IsPaced plan past p
paced plan [] p f = sym (ap (λ (b : Bool). 0 + (if b then 1 else 0)) (and-false (is_some_and (next_operation plan [] p) is_barrier_operation)))
paced plan (Retires q k res ∷ past) p f =
    elim (cases_Bool (p == q)) [
      | inr n ↦ paced-as plan past (Retires q k res ∷ past) p refl refl (other-retires is_barrier_operation plan past p q k res n) (paced plan past p f.0)
      | inl t ↦
          let own : obeys plan past (Retires p k res) ≡ true = subst (λ r. obeys plan past (Retires r k res) ≡ true) (sym (eqb-true p q t)) f.1 in
          paced-as plan past (Retires q k res ∷ past) p refl refl
          (none-made is_barrier_operation plan past p q k res t ∙ sym (retires-none is_barrier_operation two-halves plan past p k res own)) (paced plan past p f.0)
    ]
paced plan (e ∷ past) p f = event-paced plan past p e f.1 refl (paced plan past p f.0)

-- In a run that follows its plan no port has made one act of a barrier alone.
pub both-halves : (plan : Plan) (past : Trace) (p : ℕ) → AreSteps plan past → FollowsSoFar plan past → one_half plan past p ≡ false
both-halves plan past p s f =
    elim (cases_Bool (one_half plan past p)) [
      | inr none ↦ none
      | inl one ↦
          let many = (halves-together plan past s).as_many p in
          let more : length (barriers past p Read) ≡ length (barriers past p Write) + 1 = paced plan past p f ∙ ap (λ b. length (barriers past p Write) + (if b then 1 else 0)) one in
          absurd (omega (arith, many, more))
    ]
