-- Where a port answers an AC DVM Complete its next operation is the Sync that this completes, and may retire.
use Rattle.std.proofs.Common.{◌≡◌, ◌≤◌, ℕ, ◌+◌, Bool, true, false, not, ◌&&◌, ◌||◌, ◌==◌, if◌then◌else◌, List, [], ◌∷◌, ◌++◌, drop, length, filter, slice_get, zero, suc, Option, Some, None, is_some, inl, inr, refl, sym, ap, subst, ◌∙◌, arith, append-nil}
use Rattle.std.specs.List.{list_any}
use Rattle.std.proofs.lemmas.Bool.{and_parts, and_from, cases_Bool, eq-eqb, eqb-true, not-true, or_cases, or_left, or_right}
use Rattle.std.proofs.lemmas.List.{drop-append-le, drop-drop}
use Rattle.std.proofs.lemmas.List.Folds.{list_any-append}
use Rattle.ace_codes.specs.Snoops.{ac_kind_of}
use Rattle.ace_codes.specs.declared.state.LineState.{LineState}
use Rattle.ace_event.specs.declared.event.Event.{Event}
use Rattle.ace_event.specs.declared.event.Event.TheVariants.{Ac, Cr}
use Rattle.ace_event.specs.declared.event.Outcome.TheVariants.{Ok}
use Rattle.ace_event.specs.declared.header.Header.{Header}
use Rattle.ace_model.specs.declared.plans.Op.{Op}
use Rattle.ace_model.specs.declared.plans.Op.TheVariants as op
use Rattle.ace_model.specs.declared.snoops.Snoop.{Snoop}
use Rattle.ace_model.specs.declared.transactions.Transaction.{Transaction}
use Rattle.ace_model.specs.Accepted.{IsAccepted}
use Rattle.ace_model.specs.Kinds.{is_complete_snoop}
use Rattle.ace_model.specs.Messages.{completes_sync, is_message_part, is_second_part, is_sync, is_sync_completed, is_sync_word, last_sync, sync_in}
use Rattle.ace_model.specs.OrderRules.{completes_next, has_every_completion, may_complete}
use Rattle.ace_model.specs.Plans.{IsRight, Plan}
use Rattle.ace_model.specs.Progress.{is_completed}
use Rattle.ace_model.specs.Snoops.{answered, answers, snoops_of}
use Rattle.ace_model.specs.Trace.{Trace, is_some_and, newer}
use Rattle.ace_model.specs.Transactions.{issued}
use Rattle.ace_model.proofs.General.Booleans.{implies-at}
use Rattle.ace_model.proofs.General.Options.{Some-injective, is_none_or-at, is_some_and-is, option_filter-is, some_is}
use Rattle.ace_model.proofs.Rules.Keeps.{accepted_keeps}
use Rattle.ace_runs.specs.Acts.{acts_of}
use Rattle.ace_runs.specs.Follows.{FollowsSoFar, obeys}
use Rattle.ace_runs.specs.Operations.{next_operation}
use Rattle.ace_runs.specs.Retiring.{has_answered_completion, may_retire, tells_completion, unanswered}
use Rattle.ace_runs.specs.Segments.{acts_made}
use Rattle.ace_runs.proofs.Few.Queues.{answers-within}
use Rattle.ace_runs.proofs.NeverStuck.Phases.AnsweredCompletions.{issues_sync}
use Rattle.ace_runs.proofs.NeverStuck.Phases.BothParts.{part-acts}
use Rattle.ace_runs.proofs.NeverStuck.Phases.Finished.{asks_sync}
use Rattle.ace_runs.proofs.NeverStuck.Phases.IssuedActs.{issued-act, issued-port}
use Rattle.ace_runs.proofs.NeverStuck.Phases.NextActs.{next-turn}
use Rattle.ace_runs.proofs.NeverStuck.Phases.SyncsOfNext.{sync-of-next}
use Rattle.std.proofs.lemmas.List.Elements.{filter-append}
use Rattle.std.proofs.Math.Bool.{and-false}

-- ---- what an AC DVM Complete says --------------------------------------------------------------------

-- it comes for the last Sync, which had none
record CompletesLast (past : Trace) (p : ℕ) : Type 0 where
  some : is_some (last_sync past p) ≡ true
  untold : is_sync_completed past p ≡ false

completes-last : (h : Header) (past : Trace) (e : Event) (p : ℕ) → IsAccepted h (e ∷ past) → completes_sync e p ≡ true → CompletesLast past p
completes-last h past (Ac q addr code) p a c =
    let parts = and_parts (p == q) (is_some_and (ac_kind_of code) is_complete_snoop) c in
    let k = is_some_and-is (ac_kind_of code) is_complete_snoop parts.1 in
    let due : completes_next h past q addr k.0 ≡ true = is_none_or-at (ac_kind_of code) (completes_next h past q addr) k.0 (accepted_keeps h past (Ac q addr code) a).rule_39 k.1 in
    let may = (and_parts (addr == 0) (is_some_and (last_sync past q) (may_complete h past q)) (implies-at (is_complete_snoop k.0) _ due k.2)).1 in
    let x = is_some_and-is (last_sync past q) (may_complete h past q) may in
    let untold = (and_parts (is_completed past x.0) (not (is_sync_completed past q)) (and_parts (is_completed past x.0 && not (is_sync_completed past q)) (has_every_completion h past x.0) x.2).0).1 in
    subst (CompletesLast past) (sym (eqb-true p q parts.0)) (record { some = ap is_some x.1; untold = not-true (is_sync_completed past q) untold })
completes-last h past e p a c = cc

newer-some : (new older : Option Transaction) → is_some older ≡ true → is_some (newer new older) ≡ true
newer-some None older s = s
newer-some (Some x) older s = refl

-- a completed Sync was issued
completed-issued : (h : Header) (past : Trace) (p : ℕ) → IsAccepted h past → is_sync_completed past p ≡ true → is_some (last_sync past p) ≡ true
completed-issued h [] p a c = cc
completed-issued h (e ∷ past) p a c =
    newer-some (sync_in past (issued (length past) e) p) (last_sync past p)
    (elim (or_cases (completes_sync e p) _ c) [
      | inl now ↦ (completes-last h past e p a now).some
      | inr old ↦ completed-issued h past p a.0 (and_parts (not (issues_sync past p e)) (is_sync_completed past p) old).1
    ])

-- ---- the unanswered snoops ---------------------------------------------------------------------------

-- At most one of them tells completion, and then the last Sync is completed.
record IsTold (past : Trace) (p : ℕ) : Type 0 where
  one : length (filter tells_completion (unanswered past p)) ≤ 1
  done : list_any tells_completion (unanswered past p) ≡ true → is_sync_completed past p ≡ true

none-filtered : (xs : List Snoop) → list_any tells_completion xs ≡ false → filter tells_completion xs ≡ []
none-filtered [] f = refl
none-filtered (x ∷ xs) f =
    elim (cases_Bool (tells_completion x)) [
      | inl t ↦ let bad : true ≡ false = sym (or_left (tells_completion x) _ t) ∙ f in cc
      | inr n ↦ rw n (none-filtered xs (rw n at f))
    ]

filtered-none : (xs : List Snoop) → length (filter tells_completion xs) ≤ 0 → list_any tells_completion xs ≡ false
filtered-none [] few = refl
filtered-none (x ∷ xs) few =
    elim (cases_Bool (tells_completion x)) [
      | inl t ↦ absurd (let more : length (x ∷ filter tells_completion xs) ≤ 0 = rw t at few in omega (arith, more))
      | inr n ↦ rw n (filtered-none xs (rw n at few))
    ]

tail-few : (xs : List Snoop) → length (filter tells_completion (drop 1 xs)) ≤ length (filter tells_completion xs)
tail-few [] = omega arith
tail-few (x ∷ xs) =
    elim (cases_Bool (tells_completion x)) [
      | inl t ↦ rw t (omega arith)
      | inr n ↦ rw n (omega arith)
    ]

tail-any : (xs : List Snoop) → list_any tells_completion (drop 1 xs) ≡ true → list_any tells_completion xs ≡ true
tail-any [] t = t
tail-any (x ∷ xs) t = or_right (tells_completion x) _ t

-- with one that doesn't tell completion, or the first that does
module _ (xs : List Snoop) (s : Snoop) where
  pushed-quiet : tells_completion s ≡ false → filter tells_completion (xs ++ s ∷ []) ≡ filter tells_completion xs
  pushed-quiet f = filter-append tells_completion xs (s ∷ []) ∙ ap (λ b. filter tells_completion xs ++ (if b then s ∷ [] else [])) f ∙ append-nil (filter tells_completion xs)

  pushed-any : tells_completion s ≡ false → list_any tells_completion (xs ++ s ∷ []) ≡ list_any tells_completion xs
  pushed-any f = list_any-append tells_completion xs (s ∷ []) ∙ ap (λ b. list_any tells_completion xs || (b || false)) f ∙ or-false (list_any tells_completion xs)
    where
      or-false : (b : Bool) → (b || (false || false)) ≡ b
      or-false true = refl
      or-false false = refl

  pushed-first : tells_completion s ≡ true → list_any tells_completion xs ≡ false → length (filter tells_completion (xs ++ s ∷ [])) ≤ 1
  pushed-first t f =
      let e = ap length (filter-append tells_completion xs (s ∷ []) ∙ ap (λ l. l ++ filter tells_completion (s ∷ [])) (none-filtered xs f) ∙ ap (λ b. if b then s ∷ [] else []) t) in
      omega (arith, e)

told-snoop : (h : Header) (past : Trace) (p q addr code : ℕ) → IsAccepted h (Ac q addr code ∷ past) → IsTold past p → IsTold (Ac q addr code ∷ past) p
told-snoop h past p q addr code a told =
    elim (cases_Bool (p == q)) [
      | inr f ↦ record { one = rw f told.one; done = λ any. rw f (told.done (rw f at any)) }
      | inl t ↦
          let s : Snoop = record { place = length past; addr = addr; snoop = code } in
          let low = answers-within h past p a.0 in
          let grown : drop (answers past p) (snoops_of past p ++ s ∷ []) ≡ unanswered past p ++ s ∷ [] = drop-append-le (answers past p) (snoops_of past p) (s ∷ []) low in
          elim (cases_Bool (tells_completion s)) [
            | inl tells ↦
                let completes : completes_sync (Ac q addr code) p ≡ true = and_from _ _ t tells in
                let before = completes-last h past (Ac q addr code) p a completes in
                let none = was-none (list_any tells_completion (unanswered past p)) (is_sync_completed past p) told.done before.untold in
                record {
                  one = rw t (subst (λ l. length (filter tells_completion l) ≤ 1) (sym grown) (pushed-first (unanswered past p) s tells none));
                  done = λ any. or_left (completes_sync (Ac q addr code) p) _ completes;
                }
            | inr quiet ↦
                record {
                  one = rw t (subst (λ l. length (filter tells_completion l) ≤ 1) (sym grown) (subst (λ l. length l ≤ 1) (sym (pushed-quiet (unanswered past p) s quiet)) told.one));
                  done = λ any. or_right (completes_sync (Ac q addr code) p) _ (told.done (sym (pushed-any (unanswered past p) s quiet) ∙ ap (list_any tells_completion) (sym grown) ∙ (rw t at any)));
                }
          ]
    ]
  where
    was-none : (a b : Bool) → (a ≡ true → b ≡ true) → b ≡ false → a ≡ false
    was-none true b up f = let bad : false ≡ true = sym f ∙ up refl in cc
    was-none false b up f = refl

told-answer : (past : Trace) (p q resp : ℕ) (st : LineState) → IsTold past p → IsTold (Cr q resp st ∷ past) p
told-answer past p q resp st told =
    elim (cases_Bool (p == q)) [
      | inr f ↦ record { one = rw f told.one; done = λ any. told.done (rw f at any) }
      | inl t ↦
          let tail : drop 1 (unanswered past p) ≡ drop (answers past p + 1) (snoops_of past p) = drop-drop 1 (answers past p) (snoops_of past p) in
          let few = tail-few (unanswered past p) in
          let low = told.one in
          record {
            one = rw t (subst (λ l. length (filter tells_completion l) ≤ 1) tail (omega (arith, few, low)));
            done = λ any. told.done (tail-any (unanswered past p) (ap (list_any tells_completion) tail ∙ (rw t at any)));
          }
    ]

-- a Sync has one act
one-act : (o : Op) (fits : Event → Bool) → asks_sync o ≡ true → slice_get (acts_of o) 1 ≡ Some fits → ⊥
one-act (op.Sync word) fits sync turn = cc
one-act o fits sync turn = cc

-- where a Sync is issued, none waits for an answer
issues-after : (plan : Plan) (past : Trace) (p : ℕ) (e : Event) → IsRight plan → IsAccepted plan.header past → FollowsSoFar plan past → obeys plan past e ≡ true → issues_sync past p e ≡ true
    → IsTold past p → list_any tells_completion (unanswered past p) ≡ false
issues-after plan past p e right a f o sync told =
    elim (cases_Bool (list_any tells_completion (unanswered past p))) [
      | inr none ↦ none
      | inl any ↦
          let some = completed-issued plan.header past p a (told.done any) in
          let later : has_answered_completion past p ≡ false = ap (λ b. is_sync_completed past p && not b) any ∙ and-false (is_sync_completed past p) in
          let s = sync-of-next plan past p right a f some later in
          let x = some_is (sync_in past (issued (length past) e) p) sync in
          let of = option_filter-is (λ x. is_sync past x && (x.port == p)) (issued (length past) e) x.0 x.1 in
          let own = and_parts (is_sync past x.0) (x.0.port == p) of.1 in
          let part = (and_parts (is_message_part x.0) (is_sync_word x.0.addr) (and_parts (is_message_part x.0 && is_sync_word x.0.addr) (not (is_second_part past x.0)) own.0).0).0 in
          let both = and_from _ _ (issued-port e (length past) p x.0 of.0 ∙ own.1) (issued-act e (length past) x.0 of.0 (part-acts x.0 part)) in
          let t = next-turn plan past p e o both in
          let asks : asks_sync t.of ≡ true = ap (λ n. is_some_and n asks_sync) (sym t.next) ∙ s.next in
          let turn : slice_get (acts_of t.of) 1 ≡ Some t.fits = ap (slice_get (acts_of t.of)) (sym s.made) ∙ t.turn in
          absurd (one-act t.of t.fits asks turn)
    ]

still-done : (past : Trace) (p : ℕ) (e : Event) → completes_sync e p ≡ false → issues_sync past p e ≡ false → is_sync_completed past p ≡ true → is_sync_completed (e ∷ past) p ≡ true
still-done past p e other none done = or_right (completes_sync e p) _ (and_from (not (issues_sync past p e)) _ (ap not none) done)

told-event : (plan : Plan) (past : Trace) (p : ℕ) (e : Event) → IsRight plan → IsAccepted plan.header (e ∷ past) → FollowsSoFar plan past → obeys plan past e ≡ true
    → completes_sync e p ≡ false → unanswered (e ∷ past) p ≡ unanswered past p → IsTold past p → IsTold (e ∷ past) p
told-event plan past p e right a f o other same told =
    record {
      one = subst (λ l. length (filter tells_completion l) ≤ 1) (sym same) told.one;
      done = λ any. let before = ap (list_any tells_completion) (sym same) ∙ any in elim (cases_Bool (issues_sync past p e)) [
        | inl sync ↦ let none = issues-after plan past p e right a.0 f o sync told in let bad : false ≡ true = sym none ∙ before in cc
        | inr none ↦ still-done past p e other none (told.done before)
      ];
    }

told : (plan : Plan) (past : Trace) (p : ℕ) → IsRight plan → IsAccepted plan.header past → FollowsSoFar plan past → IsTold past p
told plan [] p right a f = record { one = omega arith; done = λ any. cc }
told plan (Ac q addr code ∷ past) p right a f = told-snoop plan.header past p q addr code a (told plan past p right a.0 f.0)
told plan (Cr q resp st ∷ past) p right a f = told-answer past p q resp st (told plan past p right a.0 f.0)
told plan (e ∷ past) p right a f = told-event plan past p e right a f.0 f.1 refl refl (told plan past p right a.0 f.0)

-- ---- the answer --------------------------------------------------------------------------------------

head-is : (xs : List Snoop) (n : ℕ) (s : Snoop) → slice_get xs n ≡ Some s → drop n xs ≡ s ∷ drop 1 (drop n xs)
head-is [] n s there = cc
head-is (x ∷ xs) zero s there = ap (λ v. v ∷ xs) (Some-injective x s there)
head-is (x ∷ xs) (suc n) s there = head-is xs n s there

-- The port's next operation, which the answer lets retire.
pub record EndsSync (plan : Plan) (past : Trace) (p resp : ℕ) (st : LineState) : Type 0 where
  pub of : Op
  pub next : next_operation plan past p ≡ Some of
  pub sync : asks_sync of ≡ true
  pub may : may_retire plan.header (Cr p resp st ∷ past) p of Ok ≡ true

retires-sync : (h : Header) (past : Trace) (p : ℕ) (o : Op) → asks_sync o ≡ true → acts_made past p ≡ 1 → has_answered_completion past p ≡ true → may_retire h past p o Ok ≡ true
retires-sync h past p (op.Sync word) s made done = and_from _ _ (ap (λ n. n == 1) made) done
retires-sync h past p o s made done = cc

pub answer-ends-sync : (plan : Plan) (past : Trace) (p resp : ℕ) (st : LineState) (s : Snoop) → IsRight plan → IsAccepted plan.header past → FollowsSoFar plan past
    → answered past p ≡ Some s → tells_completion s ≡ true → EndsSync plan past p resp st
answer-ends-sync plan past p resp st s right a f is tells =
    let xs = unanswered past p in
    let t = told plan past p right a f in
    let head : xs ≡ s ∷ drop 1 xs = head-is (snoops_of past p) (answers past p) s is in
    let any : list_any tells_completion xs ≡ true = ap (list_any tells_completion) head ∙ or_left (tells_completion s) _ tells in
    let done = t.done any in
    let some = completed-issued plan.header past p a done in
    let later : has_answered_completion past p ≡ false = ap (λ b. is_sync_completed past p && not b) any ∙ and-false (is_sync_completed past p) in
    let n = sync-of-next plan past p right a f some later in
    let next = is_some_and-is (next_operation plan past p) asks_sync n.next in
    let few : length (filter tells_completion (s ∷ drop 1 xs)) ≤ 1 = subst (λ l. length (filter tells_completion l) ≤ 1) head t.one in
    let fewer : length (s ∷ filter tells_completion (drop 1 xs)) ≤ 1 = rw tells at few in
    let none = filtered-none (drop 1 xs) (omega (arith, fewer)) in
    let tail : drop 1 xs ≡ drop (answers past p + 1) (snoops_of past p) = drop-drop 1 (answers past p) (snoops_of past p) in
    let left : unanswered (Cr p resp st ∷ past) p ≡ drop (answers past p + 1) (snoops_of past p) =
    ap (λ b. drop (if b then answers past p + 1 else answers past p) (snoops_of past p)) (eq-eqb p p refl) in
    let answered_now : has_answered_completion (Cr p resp st ∷ past) p ≡ true =
    and_from _ _ done (ap not (ap (list_any tells_completion) (left ∙ sym tail) ∙ none)) in
    let made : acts_made (Cr p resp st ∷ past) p ≡ 1 = ap (λ b. if b then acts_made past p + 1 else acts_made past p) (and-false (p == p)) ∙ n.made in
    record { of = next.0; next = next.1; sync = next.2; may = retires-sync plan.header (Cr p resp st ∷ past) p next.0 next.2 made answered_now }
