-- A port of which no DVM transaction is outstanding: after an event by which it issues none it has none either, and there is no step for its messages.
use Rattle.std.proofs.Common.{◌≡◌, ℕ, zero, suc, Bool, true, false, not, ◌&&◌, ◌||◌, ◌==◌, List, [], ◌∷◌, length, map, Option, Some, slice_get, slice_index_or, slice_set, sym, ap, ◌∙◌, refl, inl, inr}
use Rattle.std.specs.List.{list_any}
use Rattle.std.proofs.lemmas.Bool.{and_from, and_parts, eq-eqb, false_from_ne_true, or_cases, or_left, or_right}
use Rattle.ace_event.specs.declared.event.Channel.TheVariants.{Read}
use Rattle.ace_event.specs.declared.event.Event.{Event}
use Rattle.ace_event.specs.declared.header.Header.{Header}
use Rattle.ace_model.specs.declared.transactions.Transaction.{Transaction}
use Rattle.ace_model.specs.Accepted.{IsAccepted}
use Rattle.ace_model.specs.Messages.{is_message_part}
use Rattle.ace_model.specs.Progress.{transactions}
use Rattle.ace_model.specs.Trace.{Trace, is_some_and}
use Rattle.ace_model.specs.Transactions.{ended, is_outstanding, is_transaction, issued, same_channel}
use Rattle.ace_model.proofs.General.Options.{Some-injective}
use Rattle.ace_model.proofs.Outstanding.Issued.{issued-place_in}
use Rattle.ace_model.proofs.Outstanding.Steps.{outstanding_after}
use Rattle.ace_model.proofs.Trace.Growth.{issued-cases}
use Rattle.ace_engine.proofs.Pending.{pending-at}
use Rattle.ace_portck.specs.declared.target.Progress.{Progress}
use Rattle.ace_portck.specs.Pending.{is_pending, pending_of}
use Rattle.ace_portck.specs.Targets.{progress_of}
use Rattle.ace_order.specs.declared.quiet.QuietPorts.{QuietPorts}
use Rattle.ace_order.specs.Quiet.{has_dvm, is_dvm, is_quiet}
use Rattle.ace_order.proofs.StillOut.{found-in}
use Rattle.ace_order.proofs.Waits.{set-cases}

-- ---- lists -------------------------------------------------------------------------------------------

-- an element that passes
any-is : (test : Transaction → Bool) (xs : List Transaction) → list_any test xs ≡ true → (k : ℕ) × (x : Transaction) × (slice_get xs k ≡ Some x) × (test x ≡ true)
any-is test [] t = cc
any-is test (y ∷ xs) t = elim (or_cases (test y) (list_any test xs) t) [
  | inl here ↦ (0, y, refl, here)
  | inr later ↦ let r = any-is test xs later in (suc r.0, r.1, r.2, r.3)
]

any-at : (test : Transaction → Bool) (xs : List Transaction) (k : ℕ) (x : Transaction) → slice_get xs k ≡ Some x → test x ≡ true → list_any test xs ≡ true
any-at test [] k x at t = cc
any-at test (y ∷ xs) zero x at t = let same : y ≡ x = cc in or_left (test y) (list_any test xs) (ap test same ∙ t)
any-at test (y ∷ xs) (suc k) x at t = or_right (test y) (list_any test xs) (any-at test xs k x at t)

-- what is told of transactions names them
told : (h : Header) (past : Trace) (xs : List Transaction) → list_any (λ (x : Progress). is_dvm x.transaction) (map (progress_of h past) xs) ≡ list_any is_dvm xs
told h past [] = refl
told h past (x ∷ xs) = ap (λ b. is_dvm x || b) (told h past xs)

pub dvm-told : (h : Header) (past : Trace) (p : ℕ) (reads : List Progress) → reads ≡ map (progress_of h past) (pending_of h past p Read)
    → list_any (λ (x : Progress). is_dvm x.transaction) reads ≡ has_dvm h past p
dvm-told h past p reads is = ap (list_any (λ (x : Progress). is_dvm x.transaction)) is ∙ told h past (pending_of h past p Read)

-- ---- none of them ------------------------------------------------------------------------------------

module _ (h : Header) (past : Trace) (p : ℕ) (none : has_dvm h past p ≡ false) where
  pub no-message : list_any is_message_part (pending_of h past p Read) ≡ false
  no-message =
      false_from_ne_true (list_any is_message_part (pending_of h past p Read)) (λ t.
      let r = any-is is_message_part (pending_of h past p Read) t in
      let yes = any-at is_dvm (pending_of h past p Read) r.0 r.1 r.2 (or_left (is_message_part r.1) _ r.3) in
      let bad : true ≡ false = sym yes ∙ none in cc)

  pub no-dvm : (k : ℕ) (x : Transaction) → slice_get (pending_of h past p Read) k ≡ Some x → is_dvm x ≡ false
  no-dvm k x at = false_from_ne_true (is_dvm x) (λ t. let yes = any-at is_dvm (pending_of h past p Read) k x at t in let bad : true ≡ false = sym yes ∙ none in cc)

-- ---- the next event ----------------------------------------------------------------------------------

pub none-on : (h : Header) (past : Trace) (e : Event) (p : ℕ) → IsAccepted h (e ∷ past) → is_some_and (issued (length past) e) (λ x. (x.port == p) && is_dvm x) ≡ false
    → has_dvm h past p ≡ false → has_dvm h (e ∷ past) p ≡ false
none-on h past e p a other none =
    false_from_ne_true (has_dvm h (e ∷ past) p) (λ t.
    let r = any-is is_dvm (pending_of h (e ∷ past) p Read) t in
    let x = r.1 in
    let w = pending-at h (e ∷ past) p Read r.0 x r.2 in
    let own = eq-eqb x.port p w.port in
    elim (issued-cases e past x w.issued) [
      | inl new ↦
          let yes = ap (λ o. is_some_and o (λ y. (y.port == p) && is_dvm y)) new ∙ and_from _ _ own r.3 in
          let bad : true ≡ false = sym yes ∙ other in cc
      | inr old ↦
          let both = and_parts (is_outstanding h past x) (not (is_transaction (ended h past e) x)) (sym (outstanding_after h past e x a old) ∙ w.is_out) in
          let at = issued-place_in past x old in
          let is : is_pending h past p Read x ≡ true = and_from _ _ (and_from _ _ own (ap (λ c. same_channel c Read) w.chan)) both.0 in
          let was = found-in (is_pending h past p Read) is_dvm (transactions past) at.0 x at.1 is r.3 in
          let bad : true ≡ false = sym was ∙ none in cc
    ])

-- ---- the list of the ports ---------------------------------------------------------------------------

-- after an event by which the port q may issue one, and which is taken from the list
module _ (h : Header) (past : Trace) (e : Event) (a : IsAccepted h (e ∷ past)) (s : QuietPorts) (was : (p : ℕ) → is_quiet s p ≡ true → has_dvm h past p ≡ false)
    (o : Option ℕ) (sends : (n p : ℕ) → is_some_and (issued n e) (λ x. (x.port == p) && is_dvm x) ≡ true → o ≡ Some p) where
  pub quiet-but : (t : QuietPorts) (q : ℕ) → o ≡ Some q → t.ports ≡ slice_set s.ports q false → (p : ℕ) → is_quiet t p ≡ true → has_dvm h (e ∷ past) p ≡ false
  quiet-but t q is set p now =
      elim (set-cases s.ports q p false (ap (λ xs. slice_index_or xs p false) (sym set) ∙ now)) [
        | inl own ↦ let bad = own.1 in cc
        | inr old ↦
            none-on h past e p a (false_from_ne_true (is_some_and (issued (length past) e) (λ x. (x.port == p) && is_dvm x)) (λ t. old.0 (Some-injective q p (sym is ∙ sends (length past) p t))))
            (was p old.1)
      ]

  pub quiet-still : ((q : ℕ) → o ≡ Some q → ⊥) → (p : ℕ) → is_quiet s p ≡ true → has_dvm h (e ∷ past) p ≡ false
  quiet-still none p now =
      none-on h past e p a (false_from_ne_true (is_some_and (issued (length past) e) (λ x. (x.port == p) && is_dvm x)) (λ t. none p (sends (length past) p t))) (was p now)
