-- What follows what at a port: acknowledges the ends of its transactions, answers its snoops, their data its answers, and write
-- data its writes.
use Rattle.std.proofs.Common.{◌≡◌, ℕ, ◌+◌, ◌≤◌, Bool, true, false, ◌==◌, if◌then◌else◌, List, ◌∷◌, [], length, Option, Some, None, is_some, slice_get, refl, sym, ap, subst, inl, inr, arith, length-append}
use Rattle.std.proofs.lemmas.Bool.{cases_Bool, eqb-true, eq-eqb, ne_eqb}
use Rattle.std.proofs.lemmas.Option.{slice_get_within}
use Rattle.ace_event.specs.declared.event.Channel.TheVariants.{Read, Write}
use Rattle.ace_event.specs.declared.event.Event.TheVariants.{R, B, Rk, Wk, Ac, Cr}
use Rattle.ace_event.specs.declared.header.Header.{Header}
use Rattle.ace_model.specs.Accepted.{IsAccepted}
use Rattle.ace_model.specs.Trace.{Trace, more}
use Rattle.ace_model.specs.Transactions.{completed, completes, acknowledgements, next_complete}
use Rattle.ace_model.specs.Snoops.{snoop_at, answers, snoops_of, answered}
use Rattle.ace_model.proofs.General.Options.{some_is}
use Rattle.ace_model.proofs.Rules.Keeps.{accepted_keeps}
use Rattle.ace_runs.specs.Counts.{counted, is_snoop, is_answer, is_last_transfer, is_response, acknowledges_read, acknowledges_write}
use Rattle.ace_runs.proofs.Few.Ports.{port_or_zero, at_port}
use Rattle.ace_runs.proofs.Few.Keys.{for-each-key}

-- the other way round
pub eqb-swap : (p q : ℕ) → (p == q) ≡ (q == p)
eqb-swap p q =
    elim (cases_Bool (p == q)) [
      | inl t ↦ rw (t, eq-eqb q p (sym (eqb-true p q t))) refl
      | inr n ↦ rw (n, ne_eqb q p (λ same. let back = eq-eqb p q (sym same) in cc)) refl
    ]

pub counted-next : (b : Bool) (count n : ℕ) → count ≡ n → (if b then count + 1 else count) ≡ (if b then n + 1 else n)
counted-next true count n same = ap (λ n. n + 1) same
counted-next false count n same = same

-- a list with one more, where there is one
length-if : {A : Type 0} → (b : Bool) (count : ℕ) (xs : List A) (x : A) → count ≡ length xs → (if b then count + 1 else count) ≡ length (more xs (if b then Some x else None))
length-if true count xs x same = rw (length-append xs (x ∷ []), same) refl
length-if false count xs x same = same

-- the next one of a list that is longer
next-within : {A : Type 0} → (b : Bool) (n : ℕ) (xs : List A) → n ≤ length xs → (b ≡ true → is_some (slice_get xs n) ≡ true) → (if b then n + 1 else n) ≤ length xs
next-within true n xs within next =
    let s = some_is (slice_get xs n) (next refl) in
    let there = slice_get_within xs n s.0 s.1 in
    omega (arith, there)
next-within false n xs within next = within

-- ---- answers -----------------------------------------------------------------------------------------

snoops-counted : (past : Trace) (p : ℕ) → counted (at_port is_snoop p) past ≡ length (snoops_of past p)
snoops-counted [] p = refl
snoops-counted (Ac q addr snoop ∷ past) p = rw (eqb-swap q p) (length-if (p == q) (counted (at_port is_snoop p) past) (snoops_of past p) _ (snoops-counted past p))
snoops-counted (_ ∷ past) p = snoops-counted past p

pub answers-counted : (past : Trace) (p : ℕ) → counted (at_port is_answer p) past ≡ answers past p
answers-counted [] p = refl
answers-counted (Cr q resp st ∷ past) p = rw (eqb-swap q p) (counted-next (p == q) (counted (at_port is_answer p) past) (answers past p) (answers-counted past p))
answers-counted (_ ∷ past) p = answers-counted past p

more-within : {A : Type 0} → (n : ℕ) (xs : List A) (o : Option A) → n ≤ length xs → n ≤ length (more xs o)
more-within n xs None within = within
more-within n xs (Some x) within = rw (length-append xs (x ∷ [])) (omega (arith, within))

-- an answer has its snoop
pub answers-within : (h : Header) (past : Trace) (p : ℕ) → IsAccepted h past → answers past p ≤ length (snoops_of past p)
answers-within h [] p a = omega arith
answers-within h (Cr q resp st ∷ past) p a =
    next-within (p == q) (answers past p) (snoops_of past p) (answers-within h past p a.0)
    (λ same. subst (λ r. is_some (answered past r) ≡ true) (sym (eqb-true p q same)) (accepted_keeps h past (Cr q resp st) a).rule_14)
answers-within h (e ∷ past) p a = more-within (answers past p) (snoops_of past p) (snoop_at (length past) e p) (answers-within h past p a.0)

pub answers-few : (h : Header) (past : Trace) → IsAccepted h past → counted is_answer past ≤ counted is_snoop past
answers-few h past a =
    let all = for-each-key 1 port_or_zero is_answer is_snoop past
    (λ p. rw (answers-counted past p, snoops-counted past p) (let within = answers-within h past p a in omega (arith, within))) in
    omega (arith, all)

-- ---- acknowledges ------------------------------------------------------------------------------------

ends-counted : (past : Trace) (p : ℕ) → counted (at_port is_last_transfer p) past ≡ length (completed past p Read)
ends-counted [] p = refl
ends-counted (R q j resp true word ∷ past) p =
    let rest = ends-counted past p in
    rw (eqb-swap q p) (elim (cases_Bool (p == q)) [
      | inl t ↦ rw t (length-if true (counted (at_port is_last_transfer p) past) (completed past p Read) j rest)
      | inr n ↦ rw n rest
    ])
ends-counted (R q j resp false word ∷ past) p =
    let rest = ends-counted past p in elim (cases_Bool (p == q)) [ inl t ↦ rw t rest | inr n ↦ rw n rest ]
ends-counted (_ ∷ past) p = ends-counted past p

responses-counted : (past : Trace) (p : ℕ) → counted (at_port is_response p) past ≡ length (completed past p Write)
responses-counted [] p = refl
responses-counted (B q j resp ∷ past) p = rw (eqb-swap q p) (length-if (p == q) (counted (at_port is_response p) past) (completed past p Write) j (responses-counted past p))
responses-counted (_ ∷ past) p = responses-counted past p

read-acknowledges-counted : (past : Trace) (p : ℕ) → counted (at_port acknowledges_read p) past ≡ acknowledgements past p Read
read-acknowledges-counted [] p = refl
read-acknowledges-counted (Rk q st ∷ past) p =
    rw (eqb-swap q p) (counted-next (p == q) (counted (at_port acknowledges_read p) past) (acknowledgements past p Read) (read-acknowledges-counted past p))
read-acknowledges-counted (_ ∷ past) p = read-acknowledges-counted past p

write-acknowledges-counted : (past : Trace) (p : ℕ) → counted (at_port acknowledges_write p) past ≡ acknowledgements past p Write
write-acknowledges-counted [] p = refl
write-acknowledges-counted (Wk q st ∷ past) p =
    rw (eqb-swap q p) (counted-next (p == q) (counted (at_port acknowledges_write p) past) (acknowledgements past p Write) (write-acknowledges-counted past p))
write-acknowledges-counted (_ ∷ past) p = write-acknowledges-counted past p

pub read-acknowledges-within : (h : Header) (past : Trace) (p : ℕ) → IsAccepted h past → acknowledgements past p Read ≤ length (completed past p Read)
read-acknowledges-within h [] p a = omega arith
read-acknowledges-within h (Rk q st ∷ past) p a =
    next-within (p == q) (acknowledgements past p Read) (completed past p Read) (read-acknowledges-within h past p a.0)
    (λ same. subst (λ r. is_some (next_complete past r Read) ≡ true) (sym (eqb-true p q same)) (accepted_keeps h past (Rk q st) a).rule_22)
read-acknowledges-within h (e ∷ past) p a = more-within (acknowledgements past p Read) (completed past p Read) (completes e p Read) (read-acknowledges-within h past p a.0)

pub write-acknowledges-within : (h : Header) (past : Trace) (p : ℕ) → IsAccepted h past → acknowledgements past p Write ≤ length (completed past p Write)
write-acknowledges-within h [] p a = omega arith
write-acknowledges-within h (Wk q st ∷ past) p a =
    next-within (p == q) (acknowledgements past p Write) (completed past p Write) (write-acknowledges-within h past p a.0)
    (λ same. subst (λ r. is_some (next_complete past r Write) ≡ true) (sym (eqb-true p q same)) (accepted_keeps h past (Wk q st) a).rule_27)
write-acknowledges-within h (e ∷ past) p a = more-within (acknowledgements past p Write) (completed past p Write) (completes e p Write) (write-acknowledges-within h past p a.0)

pub read-acknowledges-few : (h : Header) (past : Trace) → IsAccepted h past → counted acknowledges_read past ≤ counted is_last_transfer past
read-acknowledges-few h past a =
    let all = for-each-key 1 port_or_zero acknowledges_read is_last_transfer past
    (λ p. rw (read-acknowledges-counted past p, ends-counted past p) (let within = read-acknowledges-within h past p a in omega (arith, within))) in
    omega (arith, all)

pub write-acknowledges-few : (h : Header) (past : Trace) → IsAccepted h past → counted acknowledges_write past ≤ counted is_response past
write-acknowledges-few h past a =
    let all = for-each-key 1 port_or_zero acknowledges_write is_response past
    (λ p. rw (write-acknowledges-counted past p, responses-counted past p) (let within = write-acknowledges-within h past p a in omega (arith, within))) in
    omega (arith, all)
