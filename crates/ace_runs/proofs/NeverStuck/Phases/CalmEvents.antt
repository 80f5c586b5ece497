-- At an ACE port all events but ARs, AWs, acknowledges, answers to snoops, loads, stores and OPs of the port leave what it needs to retire its next
-- operation.
use Rattle.std.proofs.Common.{◌≡◌, ◌≢◌, ℕ, ◌+◌, ◌≤◌, Bool, true, false, not, ◌&&◌, ◌||◌, ◌==◌, if◌then◌else◌, List, [], ◌∷◌, ◌++◌, length, drop, Option, Some, None, is_some, slice_get, inl, inr, refl, sym, ap, ◌∙◌}
use Rattle.std.proofs.Math.Bool.{and-false}
use Rattle.std.specs.List.{list_all, list_any}
use Rattle.std.proofs.lemmas.Bool.{and_parts, and_from, cases_Bool, eq-eqb, eqb-true, ne_eqb, not-true}
use Rattle.std.proofs.lemmas.List.{drop-append-le}
use Rattle.std.proofs.lemmas.List.Folds.{list_any-append}
use Rattle.ace_event.specs.declared.event.Channel.{Channel}
use Rattle.ace_event.specs.declared.event.Channel.TheVariants.{Read, Write}
use Rattle.ace_event.specs.declared.event.Event.{Event}
use Rattle.ace_event.specs.declared.event.Event.TheVariants.{Ar, R, Rk, Aw, B, Wk, Ac, Cr, L, D, Op as Retires}
use Rattle.ace_event.specs.declared.header.Header.{Header}
use Rattle.ace_model.specs.declared.snoops.Snoop.{Snoop}
use Rattle.ace_model.specs.declared.transactions.Transaction.{Transaction}
use Rattle.ace_model.specs.Accepted.{IsAccepted}
use Rattle.ace_model.specs.Messages.{is_sync, is_sync_completed}
use Rattle.ace_model.specs.Plans.{Plan}
use Rattle.ace_model.specs.Snoops.{answers, snoops_of}
use Rattle.ace_model.specs.Trace.{Trace, more, option_filter}
use Rattle.ace_model.specs.Transactions.{acknowledged, ended, is_ace, is_outstanding, is_transaction, issued, transaction_of}
use Rattle.ace_model.proofs.General.Lists.{slice_get-more}
use Rattle.ace_model.proofs.General.Options.{Some-injective, option_filter-is}
use Rattle.ace_model.proofs.Outstanding.Steps.{outstanding_after}
use Rattle.ace_model.proofs.Trace.Growth.{IsIssued, issued-new, issued-old}
use Rattle.ace_model.proofs.Trace.Issued.{issued_at}
use Rattle.ace_model.proofs.Trace.Outstanding.{read_issued}
use Rattle.ace_runs.specs.Acts.{is_act}
use Rattle.ace_runs.specs.Bursts.{are_kept, is_kept, onto}
use Rattle.ace_runs.specs.Retiring.{has_answered_completion, tells_completion, unanswered}
use Rattle.ace_runs.specs.Segments.{acts_made, is_at_port, is_for_operation, segment}
use Rattle.ace_runs.proofs.Accepting.{kept-breaks-none}
use Rattle.ace_runs.proofs.Few.Queues.{answers-within, eqb-swap}
use Rattle.ace_model.proofs.Trace.IssuedTransactions.{acknowledged-of, named-of}
use Rattle.ace_runs.proofs.NeverStuck.Phases.Calm.{IsCalm, calm-keeps, may_end}
use Rattle.ace_runs.proofs.NeverStuck.Phases.NextActs.{acts-more, segment-more}

-- ---- the transactions of a segment -------------------------------------------------------------------

-- A transaction of the port that was issued.
pub record IsOfPort (past : Trace) (p : ℕ) (x : Transaction) : Type 0 where
  pub there : IsIssued past x
  pub port : x.port ≡ p

later-of-port : (e : Event) (past : Trace) (p : ℕ) (x : Transaction) → IsOfPort past p x → IsOfPort (e ∷ past) p x
later-of-port e past p x i = record { there = issued-old e past x i.there; port = i.port }

pub segment-of-port : (past : Trace) (p k : ℕ) (x : Transaction) → slice_get (segment past p) k ≡ Some x → IsOfPort past p x
segment-of-port [] p k x there = cc
segment-of-port (Retires q n res ∷ past) p k x there =
    elim (cases_Bool (p == q)) [
      | inl t ↦ let none : None ≡ Some x = rw t at there in cc
      | inr f ↦ later-of-port (Retires q n res) past p x (segment-of-port past p k x (rw f at there))
    ]
segment-of-port (e ∷ past) p k x there =
    elim (slice_get-more (segment past p) (option_filter (is_for_operation p) (issued (length past) e)) k x there) [
      | inl old ↦ later-of-port e past p x (segment-of-port past p k x old)
      | inr new ↦
          let of = option_filter-is (is_for_operation p) (issued (length past) e) x new.1 in
          record { there = issued-new e past x of.0; port = eqb-true x.port p (and_parts (x.port == p) _ of.1).0 }
    ]

-- ---- what an event ends ------------------------------------------------------------------------------

-- what ends is of another port
other-ends : (past : Trace) (p : ℕ) (o : Option Transaction) (x : Transaction) → ((z : Transaction) → o ≡ Some z → IsIssued past z × (z.port ≢ p)) → IsOfPort past p x → is_transaction o x ≡ false
other-ends past p None x others i = refl
other-ends past p (Some z) x others i =
    let of = others z refl in
    ne_eqb z.place x.place (λ same.
    let one : z ≡ x = Some-injective z x (sym of.0.there ∙ ap (issued_at past) same ∙ i.there.there) in
    of.1 (ap (λ (v : Transaction). v.port) one ∙ i.port))

-- an event at the port that is calm
abbrev pub is_calm_here : Event → Bool
is_calm_here (Ar q i addr snoop dom bar lock) = false
is_calm_here (Aw q i addr snoop dom bar) = false
is_calm_here (Rk q st) = false
is_calm_here (Wk q st) = false
is_calm_here (Cr q resp st) = false
is_calm_here (L q addr w x word) = false
is_calm_here (D q addr strobe x line) = false
is_calm_here (Retires q k res) = false
is_calm_here _ = true

-- it is of another port, or such an event
abbrev pub is_calm : ℕ → Event → Bool
is_calm p e = not (is_at_port p e) || is_calm_here e

apart : (q p : ℕ) → (not (q == p) || false) ≡ true → (q == p) ≡ false
apart q p c = by (q == p) c
  where
    by : (b : Bool) → (not b || false) ≡ true → b ≡ false
    by true c = cc
    by false c = refl

not-equal : (q p : ℕ) → (q == p) ≡ false → q ≢ p
not-equal q p f same = let t = eq-eqb q p same in let bad : false ≡ true = sym f ∙ t in cc

acknowledged-ends : (past : Trace) (p q : ℕ) (c : Channel) (x : Transaction) → (q == p) ≡ false → IsOfPort past p x → is_transaction (acknowledged past q c) x ≡ false
acknowledged-ends past p q c x f i =
    other-ends past p (acknowledged past q c) x
    (λ z next. let of = acknowledged-of past q c z next in (of.0, λ port. not-equal q p f (sym of.1 ∙ port))) i

responded-ends : (h : Header) (past : Trace) (p q : ℕ) (c : Channel) (i : ℕ) (x : Transaction) → is_ace h p ≡ true → is_ace h q ≡ false → IsOfPort past p x
    → is_transaction (transaction_of past q c i) x ≡ false
responded-ends h past p q c j x ace lite i =
    other-ends past p (transaction_of past q c j) x
    (λ z named. let of = named-of past q c j z named in
    (of.0, λ port. let bad : true ≡ false = sym ace ∙ ap (is_ace h) (sym port ∙ of.1) ∙ lite in cc)) i

ends-none : (h : Header) (past : Trace) (p : ℕ) (e : Event) (x : Transaction) → is_ace h p ≡ true → is_calm p e ≡ true → IsOfPort past p x → is_transaction (ended h past e) x ≡ false
ends-none h past p (Rk q st) x ace calm i = acknowledged-ends past p q Read x (apart q p calm) i
ends-none h past p (Wk q st) x ace calm i = acknowledged-ends past p q Write x (apart q p calm) i
ends-none h past p (R q j resp last word) x ace calm i =
    elim (cases_Bool (last && not (is_ace h q))) [
      | inr f ↦ rw f refl
      | inl t ↦ rw t (responded-ends h past p q Read j x ace (not-true (is_ace h q) (and_parts last (not (is_ace h q)) t).1) i)
    ]
ends-none h past p (B q j resp) x ace calm i =
    elim (cases_Bool (is_ace h q)) [
      | inl t ↦ rw t refl
      | inr f ↦ rw f (responded-ends h past p q Write j x ace f i)
    ]
ends-none h past p e x ace calm i = refl

-- so what was outstanding of the segment is so
pub outs-stay : (h : Header) (past : Trace) (p : ℕ) (e : Event) → IsAccepted h (e ∷ past)
    → ((k : ℕ) (x : Transaction) → slice_get (segment past p) k ≡ Some x → is_transaction (ended h past e) x ≡ false)
    → (k : ℕ) (x : Transaction) → slice_get (segment past p) k ≡ Some x → is_outstanding h (e ∷ past) x ≡ is_outstanding h past x
outs-stay h past p e a none k x there =
    let i = segment-of-port past p k x there in
    outstanding_after h past e x a i.there ∙ ap (λ b. is_outstanding h past x && not b) (none k x there) ∙ and-true (is_outstanding h past x)
  where
    and-true : (b : Bool) → (b && true) ≡ b
    and-true true = refl
    and-true false = refl

-- ---- the answer of an AC DVM Complete ----------------------------------------------------------------

or-parts : (a b : Bool) → (a || b) ≡ false → (a ≡ false) × (b ≡ false)
or-parts true b f = cc
or-parts false b f = (refl, f)

-- where one more snoop is left, and none of them tells completion
left-none : (xs : List Snoop) (n : ℕ) (s : Snoop) → n ≤ length xs → list_any tells_completion (drop n (xs ++ s ∷ [])) ≡ false
    → (list_any tells_completion (drop n xs) ≡ false) × (tells_completion s ≡ false)
left-none xs n s low f =
    let all : (list_any tells_completion (drop n xs) || (tells_completion s || false)) ≡ false =
    sym (ap (list_any tells_completion) (drop-append-le n xs (s ∷ []) low) ∙ list_any-append tells_completion (drop n xs) (s ∷ [])) ∙ f in
    let parts = or-parts (list_any tells_completion (drop n xs)) (tells_completion s || false) all in
    (parts.0, (or-parts (tells_completion s) false parts.1).0)

snoop-told : (h : Header) (past : Trace) (p q addr code : ℕ) → IsAccepted h past → has_answered_completion (Ac q addr code ∷ past) p ≡ true → has_answered_completion past p ≡ true
snoop-told h past p q addr code a m =
    elim (cases_Bool (p == q)) [
      | inr f ↦ rw f at m
      | inl t ↦
          let s : Snoop = record { place = length past; addr = addr; snoop = code } in
          let here : ((tells_completion s || is_sync_completed past p) && not (list_any tells_completion (drop (answers past p) (snoops_of past p ++ s ∷ [])))) ≡ true = rw t at m in
          let parts = and_parts (tells_completion s || is_sync_completed past p) (not (list_any tells_completion (drop (answers past p) (snoops_of past p ++ s ∷ [])))) here in
          let left = left-none (snoops_of past p) (answers past p) s (answers-within h past p a) (not-true (list_any tells_completion (drop (answers past p) (snoops_of past p ++ s ∷ []))) parts.1) in
          and_from _ _ (ap (λ b. b || is_sync_completed past p) (sym left.1) ∙ parts.0) (ap not left.0)
    ]

told-before : (h : Header) (past : Trace) (p : ℕ) (e : Event) → IsAccepted h past → is_calm p e ≡ true → has_answered_completion (e ∷ past) p ≡ true → has_answered_completion past p ≡ true
told-before h past p (Ac q addr code) a calm m = snoop-told h past p q addr code a m
told-before h past p (Cr q resp st) a calm m = rw (eqb-swap p q, apart q p calm) at m
told-before h past p (Ar q j addr snoop dom bar lock) a calm m =
    let x = read_issued past q j addr snoop dom bar lock in
    let none : (is_sync past x && (q == p)) ≡ false = ap (λ b. is_sync past x && b) (apart q p calm) ∙ and-false (is_sync past x) in
    sym (ap (λ b. (not (is_some (if b then Some x else None)) && is_sync_completed past p) && not (list_any tells_completion (unanswered past p))) none) ∙ m
told-before h past p e a calm m = m

-- ---- calm events -------------------------------------------------------------------------------------

calm-acts : (p : ℕ) (e : Event) → is_calm p e ≡ true → (is_at_port p e && is_act e) ≡ false
calm-acts p (Ar q j addr snoop dom bar lock) calm = rw (apart q p calm) refl
calm-acts p (Aw q j addr snoop dom bar) calm = rw (apart q p calm) refl
calm-acts p (L q addr w x word) calm = rw (apart q p calm) refl
calm-acts p (D q addr strobe x line) calm = rw (apart q p calm) refl
calm-acts p e calm = and-false (is_at_port p e)

calm-issues : (n p : ℕ) (e : Event) → is_calm p e ≡ true → option_filter (is_for_operation p) (issued n e) ≡ None
calm-issues n p (Ar q j addr snoop dom bar lock) calm = rw (apart q p calm) refl
calm-issues n p (Aw q j addr snoop dom bar) calm = rw (apart q p calm) refl
calm-issues n p e calm = refl

-- Such an event leaves what the ACE port needs.
pub calm-event : (plan : Plan) (past : Trace) (p : ℕ) (e : Event) → is_ace plan.header p ≡ true → IsAccepted plan.header (e ∷ past) → is_calm p e ≡ true → IsCalm plan past p e
calm-event plan past p (Retires q k res) ace a calm =
    let other : (p == q) ≡ false = eqb-swap p q ∙ apart q p calm in
    record {
      next = rw other refl;
      made = rw other refl;
      same = rw other refl;
      outs = outs-stay plan.header past p (Retires q k res) a (λ n x there. refl);
      told = λ m. m;
    }
calm-event plan past p e ace a calm =
    record {
      next = refl;
      made = acts-more past p e refl ∙ ap (λ b. if b then acts_made past p + 1 else acts_made past p) (calm-acts p e calm);
      same = segment-more past p e refl ∙ ap (more (segment past p)) (calm-issues (length past) p e calm);
      outs = outs-stay plan.header past p e a (λ k x there. ends-none plan.header past p e x ace calm (segment-of-port past p k x there));
      told = told-before plan.header past p e a.0 calm;
    }

-- after calm events the operation can't end where it couldn't before
pub calm-burst : (plan : Plan) (burst : List Event) (past : Trace) (p : ℕ) → is_ace plan.header p ≡ true → IsAccepted plan.header past → are_kept plan.header past burst ≡ true
    → list_all (is_calm p) burst ≡ true → may_end plan past p ≡ false → may_end plan (onto burst past) p ≡ false
calm-burst plan [] past p ace a k calm none = none
calm-burst plan (e ∷ burst) past p ace a k calm none =
    let kept = and_parts (is_kept plan.header past e) (are_kept plan.header (e ∷ past) burst) k in
    let parts = and_parts (is_calm p e) (list_all (is_calm p) burst) calm in
    let now : IsAccepted plan.header (e ∷ past) = (a, kept-breaks-none plan.header past e kept.0) in
    calm-burst plan burst (e ∷ past) p ace now kept.1 parts.1 (calm-keeps plan past p e (calm-event plan past p e ace now parts.0) none)
