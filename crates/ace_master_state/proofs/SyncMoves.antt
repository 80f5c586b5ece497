-- What an event leaves of the Syncs of a port.
use Rattle.std.specs.List.{count_by, slice_get}
use Rattle.std.proofs.Common.{◌≡◌, ℕ, zero, suc, ◌+◌, ◌-◌, ◌^◌, ◌≤◌, ◌<◌, Bool, true, false, not, ◌&&◌, ◌||◌, ◌==◌, cond, if◌then◌else◌, List, [], ◌∷◌, ◌++◌, length, length-drop, drop, Option, Some, None, is_some, option_map, refl, sym, ap, ◌∙◌, arith}
use Rattle.std.proofs.lemmas.Bool.{and_right, eq-eqb, eqb-true, ne_eqb}
use Rattle.std.proofs.lemmas.List.{drop-append-le}
use Rattle.std.proofs.lemmas.List.Sums.{count_by-le-length, sum_by-cons, sum_by_push}
use Rattle.ace_codes.specs.declared.state.LineState.{LineState}
use Rattle.ace_event.specs.declared.event.Event.{Event}
use Rattle.ace_event.specs.declared.event.Event.TheVariants.{Ac, Ar, Aw, Cr}
use Rattle.ace_event.specs.declared.header.Header.{Header}
use Rattle.ace_model.specs.declared.snoops.Snoop.{Snoop}
use Rattle.ace_model.specs.declared.transactions.Transaction.{Transaction}
use Rattle.ace_model.specs.Messages.{completes_sync, first_waiting, has_second, is_message_part, is_second_part, is_sync, is_sync_completed, is_sync_word, sync_in, waits_after}
use Rattle.ace_model.specs.Accepted.{IsAccepted}
use Rattle.ace_model.specs.Plans.{Plan}
use Rattle.ace_model.specs.Snoops.{answered, answers, snoops_of}
use Rattle.ace_model.specs.Trace.{Trace, option_filter}
use Rattle.ace_model.specs.Transactions.{issued}
use Rattle.ace_model.proofs.General.Options.{Some-injective}
use Rattle.ace_model.proofs.Trace.Growth.{at_point-end}
use Rattle.ace_model.proofs.Trace.Issued.{issued-place}
use Rattle.ace_runs.specs.Retiring.{tells_completion, unanswered}
use Rattle.ace_runs.specs.Segments.{is_at_port}
use Rattle.ace_runs.proofs.Few.EachPort.{six-snoops-for-each}
use Rattle.ace_runs.proofs.Few.Queues.{answers-within}
use Rattle.ace_engine.specs.Engines.{IsLegal}
use Rattle.ace_master_state.specs.Syncs.{is_completion, stays_complete, waits_with}

-- ---- what is issued ----------------------------------------------------------------------------------

abbrev pub is_of_port : ℕ → Transaction → Bool
is_of_port p x = x.port == p

issued-elsewhere : (n : ℕ) (e : Event) (p : ℕ) (x : Transaction) → is_at_port p e ≡ false → issued n e ≡ Some x → is_of_port p x ≡ false
issued-elsewhere n (Ar q i a s d b l) p x f is = ap (is_of_port p) (sym (Some-injective _ x is)) ∙ f
issued-elsewhere n (Aw q i a s d b) p x f is = ap (is_of_port p) (sym (Some-injective _ x is)) ∙ f
issued-elsewhere n e p x f is = cc

issued-here : (n : ℕ) (e : Event) (p : ℕ) (x : Transaction) → is_at_port p e ≡ true → issued n e ≡ Some x → is_of_port p x ≡ true
issued-here n (Ar q i a s d b l) p x t is = ap (is_of_port p) (sym (Some-injective _ x is)) ∙ t
issued-here n (Aw q i a s d b) p x t is = ap (is_of_port p) (sym (Some-injective _ x is)) ∙ t
issued-here n e p x t is = cc

-- one of another port is none of this port
none-of : (test : Transaction → Bool) (p : ℕ) (o : Option Transaction) → ((x : Transaction) → o ≡ Some x → is_of_port p x ≡ false)
    → option_filter (λ x. test x && (x.port == p)) o ≡ None
none-of test p None f = refl
none-of test p (Some x) f = ap (λ b. if b then Some x else None) (and_right (test x) (is_of_port p x) (f x refl))

one-of : (test : Transaction → Bool) (p : ℕ) (o : Option Transaction) → ((x : Transaction) → o ≡ Some x → is_of_port p x ≡ true)
    → option_filter (λ x. test x && (x.port == p)) o ≡ option_filter test o
one-of test p None t = refl
one-of test p (Some x) t = ap (λ b. if b then Some x else None) (by (test x) (is_of_port p x) (t x refl))
  where
    by : (a b : Bool) → b ≡ true → (a && b) ≡ a
    by true b t = t
    by false b t = refl

-- ---- at another port ---------------------------------------------------------------------------------

pub waits-elsewhere : (past : Trace) (e : Event) (p : ℕ) → is_at_port p e ≡ false → first_waiting (e ∷ past) p ≡ first_waiting past p
waits-elsewhere past e p f = ap (waits_after (first_waiting past p)) (none-of is_message_part p (issued (length past) e) (λ x is. issued-elsewhere (length past) e p x f is))

other : (q p : ℕ) → (q == p) ≡ false → (p == q) ≡ false
other q p f = ne_eqb p q (λ same. let t = eq-eqb q p (sym same) in cc)

completes-elsewhere : (e : Event) (p : ℕ) → is_at_port p e ≡ false → completes_sync e p ≡ false
completes-elsewhere (Ac q addr snoop) p f = ap (λ b. b && is_completion snoop) (other q p f)
completes-elsewhere e p f = refl

pub completed-elsewhere : (past : Trace) (e : Event) (p : ℕ) → is_at_port p e ≡ false → is_sync_completed (e ∷ past) p ≡ is_sync_completed past p
completed-elsewhere past e p f =
    ap (λ b. b || (not (is_some (sync_in past (issued (length past) e) p)) && is_sync_completed past p)) (completes-elsewhere e p f)
    ∙ ap (λ o. not (is_some o) && is_sync_completed past p) (none-of (is_sync past) p (issued (length past) e) (λ x is. issued-elsewhere (length past) e p x f is))

pub unanswered-elsewhere : (past : Trace) (e : Event) (p : ℕ) → is_at_port p e ≡ false → unanswered (e ∷ past) p ≡ unanswered past p
unanswered-elsewhere past (Ac q addr snoop) p f = rw (other q p f) refl
unanswered-elsewhere past (Cr q resp st) p f = rw (other q p f) refl
unanswered-elsewhere past e p f = refl

-- ---- an event of the port that is no snoop and no answer ---------------------------------------------

-- the word of the part that is issued
abbrev pub word_in : Option Transaction → Option ℕ
word_in o = option_map (λ (x : Transaction). x.addr) (option_filter is_message_part o)

pub waits-here : (past : Trace) (e : Event) (p : ℕ) → is_at_port p e ≡ true → is_some (first_waiting (e ∷ past) p) ≡ waits_with (is_some (first_waiting past p)) (word_in (issued (length past) e))
waits-here past e p t =
    ap (λ o. is_some (waits_after (first_waiting past p) o)) (one-of is_message_part p (issued (length past) e) (λ x is. issued-here (length past) e p x t is))
    ∙ by (first_waiting past p) (option_filter is_message_part (issued (length past) e))
  where
    some-if : (b : Bool) (x : Transaction) → is_some (if b then Some x else None) ≡ b
    some-if true x = refl
    some-if false x = refl

    by : (w o : Option Transaction) → is_some (waits_after w o) ≡ waits_with (is_some w) (option_map (λ (x : Transaction). x.addr) o)
    by w None = refl
    by None (Some x) = some-if (has_second x.addr) x
    by (Some first) (Some x) = refl

pub completed-here : (past : Trace) (e : Event) (p : ℕ) → is_at_port p e ≡ true → completes_sync e p ≡ false
    → is_sync_completed (e ∷ past) p ≡ stays_complete (is_some (first_waiting past p)) (is_sync_completed past p) (word_in (issued (length past) e))
completed-here past e p t none =
    ap (λ b. b || (not (is_some (sync_in past (issued (length past) e) p)) && is_sync_completed past p)) none
    ∙ ap (λ o. not (is_some o) && is_sync_completed past p) (one-of (is_sync past) p (issued (length past) e) (λ x is. issued-here (length past) e p x t is))
    ∙ by (issued (length past) e) refl
  where
    by : (o : Option Transaction) → issued (length past) e ≡ o
        → (not (is_some (option_filter (is_sync past) o)) && is_sync_completed past p) ≡ stays_complete (is_some (first_waiting past p)) (is_sync_completed past p) (word_in o)
    by None is = refl
    by (Some x) is =
        let port = eqb-true x.port p (issued-here (length past) e p x t is) in
        let second : is_some (first_waiting past p) ≡ is_second_part past x = ap (λ q. is_some (first_waiting past q)) (sym port) ∙ ap (λ (v : Trace). is_some (first_waiting v x.port)) (sym (at_point-end past x.place (issued-place (length past) e x is))) in
        ap (λ b. not b && is_sync_completed past p) (some-if (is_sync past x))
        ∙ ap (λ b. not (is_message_part x && is_sync_word x.addr && not b) && is_sync_completed past p) (sym second)
        ∙ cases (is_message_part x) (is_some (first_waiting past p))
      where
        some-if : (b : Bool) → is_some (if b then Some x else None) ≡ b
        some-if true = refl
        some-if false = refl

        swap : (a b : Bool) → (a && b) ≡ (b && a)
        swap true true = refl
        swap true false = refl
        swap false true = refl
        swap false false = refl

        cases : (part waited : Bool) → (not (part && is_sync_word x.addr && not waited) && is_sync_completed past p)
            ≡ stays_complete waited (is_sync_completed past p) (option_map (λ (y : Transaction). y.addr) (if part then Some x else None))
        cases true waited = ap (λ b. not b && is_sync_completed past p) (swap (is_sync_word x.addr) (not waited))
        cases false waited = refl

-- ---- snoops and answers ------------------------------------------------------------------------------

-- how many pass the test from place n on, with one more at the end
pub count-pushed : {A : Type 0} → (test : A → Bool) (xs : List A) (n : ℕ) (s : A) → n ≤ length xs → count_by test (drop n (xs ++ s ∷ [])) ≡ count_by test (drop n xs) + cond {A = ℕ} (test s) 1 0
count-pushed test xs n s low = ap (count_by test) (drop-append-le n xs (s ∷ []) low) ∙ sum_by_push (λ z. cond {A = ℕ} (test z) 1 0) (drop n xs) s

-- from the next place on
pub count-passed : {A : Type 0} → (test : A → Bool) (xs : List A) (n : ℕ) (s : A) → slice_get xs n ≡ Some s → count_by test (drop n xs) ≡ cond {A = ℕ} (test s) 1 0 + count_by test (drop (suc n) xs)
count-passed test [] n s at = cc
count-passed test (x ∷ xs) zero s at = sum_by-cons (λ z. cond {A = ℕ} (test z) 1 0) x xs ∙ ap (λ v. cond {A = ℕ} (test v) 1 0 + count_by test xs) (Some-injective x s at)
count-passed test (x ∷ xs) (suc n) s at = count-passed test xs n s at

pub completed-more : (past : Trace) (p addr snoop : ℕ) → is_sync_completed (Ac p addr snoop ∷ past) p ≡ (is_completion snoop || is_sync_completed past p)
completed-more past p addr snoop = ap (λ b. (b && is_completion snoop) || is_sync_completed past p) (eq-eqb p p refl)

pub unanswered-more : (h : Header) (past : Trace) (p addr snoop : ℕ) → IsAccepted h past
    → count_by tells_completion (unanswered (Ac p addr snoop ∷ past) p) ≡ count_by tells_completion (unanswered past p) + (if is_completion snoop then 1 else 0)
unanswered-more h past p addr snoop a =
    let s : Snoop = record { place = length past; addr = addr; snoop = snoop } in
    let here : (p == p) ≡ true = eq-eqb p p refl in
    rw here (count-pushed tells_completion (snoops_of past p) (answers past p) s (answers-within h past p a))

pub unanswered-fewer : (past : Trace) (p resp : ℕ) (st : LineState) (s : Snoop) → answered past p ≡ Some s
    → count_by tells_completion (unanswered past p) ≡ (if tells_completion s then 1 else 0) + count_by tells_completion (unanswered (Cr p resp st ∷ past) p)
unanswered-fewer past p resp st s at =
    let here : (p == p) ≡ true = eq-eqb p p refl in
    let next : suc (answers past p) ≡ answers past p + 1 = omega arith in
    count-passed tells_completion (snoops_of past p) (answers past p) s at
    ∙ ap (λ n. (if tells_completion s then 1 else 0) + count_by tells_completion (drop n (snoops_of past p))) (next ∙ sym (ap (λ b. if b then answers past p + 1 else answers past p) here))

-- there are fewer than a program can count
pub few-unanswered : (plan : Plan) (past : Trace) (p : ℕ) → IsLegal plan past → count_by tells_completion (unanswered past p) < 2 ^ 64 - 1
few-unanswered plan past p legal =
    let six = six-snoops-for-each plan past p legal.accepted legal.follows legal.lean in
    let operations = legal.right.few in
    let passing = count_by-le-length tells_completion (unanswered past p) in
    let left = length-drop (answers past p) (snoops_of past p) in
    omega (arith, six, operations, passing, left)

-- an event that is neither an AC nor a CR
pub no-completion : (e : Event) (p : ℕ) → ((q addr snoop : ℕ) → e ≡ Ac q addr snoop → ⊥) → completes_sync e p ≡ false
no-completion (Ac q addr snoop) p none = absurd (none q addr snoop refl)
no-completion e p none = refl

pub unanswered-stay : (past : Trace) (e : Event) (p : ℕ) → ((q addr snoop : ℕ) → e ≡ Ac q addr snoop → ⊥) → ((q resp : ℕ) (st : LineState) → e ≡ Cr q resp st → ⊥)
    → unanswered (e ∷ past) p ≡ unanswered past p
unanswered-stay past (Ac q addr snoop) p ac cr = absurd (ac q addr snoop refl)
unanswered-stay past (Cr q resp st) p ac cr = absurd (cr q resp st refl)
unanswered-stay past e p ac cr = refl
