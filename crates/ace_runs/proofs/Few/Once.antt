-- What a transaction has at most once: its grant, its write of memory, its response.
use Rattle.std.proofs.Common.{◌≡◌, ℕ, ◌≤◌, Bool, true, false, not, ◌&&◌, ◌||◌, ◌∷◌, length, Option, Some, None, refl, inl, inr, arith}
use Rattle.std.proofs.lemmas.Bool.{cases_Bool, and_from}
use Rattle.ace_event.specs.declared.event.Channel.{Channel}
use Rattle.ace_event.specs.declared.event.Event.{Event}
use Rattle.ace_event.specs.declared.header.Header.{Header}
use Rattle.ace_model.specs.declared.transactions.Transaction.{Transaction}
use Rattle.ace_model.specs.Accepted.{IsAccepted}
use Rattle.ace_model.specs.Trace.{Trace, is_some_and}
use Rattle.ace_model.specs.Transactions.{issued, is_named, newest_named, transaction_of, has_since}
use Rattle.ace_model.proofs.Trace.Looks.{newest_named-older}
use Rattle.ace_runs.specs.Counts.{counted}
use Rattle.ace_runs.proofs.Few.Keys.{of_name, for-each-name}
use Rattle.ace_runs.proofs.Few.Counting.{one, one-most}
use Rattle.ace_runs.proofs.Few.Charges.{Leaves, charged}

-- a test of an event that came since the transaction was issued
abbrev pub Since : Type 0
Since = Trace → Event → ℕ → Channel → ℕ → Bool

-- there is a transaction of the name and of this sort, and no such event has come for it
abbrev pub is_awaited : (Transaction → Bool) → Since → Channel → ℕ → ℕ → Trace → Bool
is_awaited sort test c p i past = is_some_and (transaction_of past p c i) sort && not (has_since test past p c i)

abbrev pub left_once : (Transaction → Bool) → Since → Channel → ℕ → ℕ → Trace → ℕ
left_once sort test c p i past = one (is_awaited sort test c p i past)

-- what an event of the sort is: the first for its transaction
pub record IsFirst (sort : Transaction → Bool) (test : Since) (c : Channel) (p i : ℕ) (past : Trace) (e : Event) : Type 0 where
  pub there : is_some_and (transaction_of past p c i) sort ≡ true
  pub none : has_since test past p c i ≡ false
  pub now : test past e p c i ≡ true

-- these events issue the transactions of the sort
abbrev pub AreIssues : (Transaction → Bool) → (Event → Bool) → Channel → Type 0
AreIssues sort those c =
    (n p i : ℕ) (e : Event) → is_named (issued n e) p c i ≡ true → is_some_and (issued n e) sort ≡ true → of_name those p i e ≡ true

-- the newest of a name that it has
named-now : (new : Option Transaction) (p : ℕ) (c : Channel) (i : ℕ) (older : Option Transaction) → is_named new p c i ≡ true → newest_named new p c i older ≡ new
named-now None p c i older name = cc
named-now (Some x) p c i older name = rw name refl

one-less : (a b k : Bool) → one (a && not (b || k)) ≤ one (a && not k)
one-less true true true = omega arith
one-less true true false = omega arith
one-less true false true = omega arith
one-less true false false = omega arith
one-less false b k = omega arith

-- after such an event there is no room for one more
used : (a : Bool) (b k : Bool) → b ≡ true → one (a && not (b || k)) ≡ 0
used true true k t = refl
used false b k t = refl
used true false k t = cc

leaves-once : (sort : Transaction → Bool) (test : Since) (these those : Event → Bool) (c : Channel) (h : Header) (p i : ℕ) → AreIssues sort those c
    → ((e : Event) (past : Trace) → IsAccepted h (e ∷ past) → of_name these p i e ≡ true → IsFirst sort test c p i past e)
    → Leaves 1 (of_name these p i) (of_name those p i) (left_once sort test c p i) h
leaves-once sort test these those c h p i issue first e past a =
    elim (cases_Bool (of_name these p i e)) [
      | inl t ↦
          let f = first e past a t in
          let before : is_awaited sort test c p i past ≡ true = and_from _ _ f.there (rw f.none refl) in
          let after : left_once sort test c p i (e ∷ past) ≡ 0 = used (is_some_and (transaction_of (e ∷ past) p c i) sort) (test past e p c i) _ f.now in
          rw (t, before, after) (omega arith)
      | inr f ↦
          elim (cases_Bool (is_named (issued (length past) e) p c i)) [
            | inl new ↦
                elim (cases_Bool (is_some_and (issued (length past) e) sort)) [
                  | inl of ↦
                      let most = one-most (is_awaited sort test c p i (e ∷ past)) in
                      rw (f, issue (length past) p i e new of) (omega (arith, most))
                  | inr other ↦
                      let now = named-now (issued (length past) e) p c i (transaction_of past p c i) new in
                      let none : left_once sort test c p i (e ∷ past) ≡ 0 = rw now (rw other refl) in
                      rw f (omega (arith, none))
                ]
            | inr old ↦
                let same : transaction_of (e ∷ past) p c i ≡ transaction_of past p c i = newest_named-older (issued (length past) e) p c i (transaction_of past p c i) old in
                let less : left_once sort test c p i (e ∷ past) ≤ left_once sort test c p i past =
                rw (same, old) (one-less (is_some_and (transaction_of past p c i) sort) (test past e p c i) (has_since test past p c i)) in
                rw f (omega (arith, less))
          ]
    ]

-- there are at most as many as transactions of the sort
pub once-each : (sort : Transaction → Bool) (test : Since) (these those : Event → Bool) (c : Channel) (h : Header) (past : Trace) → AreIssues sort those c
    → ((p i : ℕ) (e : Event) (past : Trace) → IsAccepted h (e ∷ past) → of_name these p i e ≡ true → IsFirst sort test c p i past e)
    → IsAccepted h past → counted these past ≤ counted those past
once-each sort test these those c h past issue first a =
    let each = for-each-name 1 these those past
    (λ p i.
    let all = charged 1 (of_name these p i) (of_name those p i) (left_once sort test c p i) h past refl (leaves-once sort test these those c h p i issue (first p i)) a in
    omega (arith, all)) in
    omega (arith, each)
