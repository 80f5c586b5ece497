-- Which of the port's outstanding transactions on the channel an event of the port ends.
use Rattle.std.proofs.Common.{◌≡◌, ℕ, ◌+◌, ◌≤◌, Bool, true, false, not, ◌&&◌, nat_eq, nat_lt, if◌then◌else◌, cond, List, [], ◌∷◌, ◌++◌, length, drop, Option, Some, None, slice_get, refl, sym, ap, ◌∙◌, inl, inr, arith}
use Rattle.std.proofs.lemmas.Bool.{and_parts, cases_Bool, eq-eqb, eqb-true}
use Rattle.std.proofs.lemmas.List.{drop-append-le, drop-drop, length-append}
use Rattle.std.proofs.lemmas.Option.{slice_get_within}
use Rattle.ace_portck.proofs.Terms.{Channel, Read, Write, Event, R, Rk, B, Wk, Header, Transaction, Trace, port_of, is_some_and, more, IsAccepted, is_ace, is_read, same_channel, is_transaction, transaction_of, transaction_under, outstanding, ended, acknowledgements, completed, completes, next_complete, Progress, completed_by, ending_of, waiting_after, without_id}
use Rattle.ace_model.proofs.General.Lists.{slice_get-drop}
use Rattle.ace_model.proofs.General.Options.{some_is, Some-injective}
use Rattle.ace_model.proofs.Rules.Keeps.{accepted_keeps}
use Rattle.ace_model.proofs.Trace.Issued.{outstanding-named, outstanding-name}
use Rattle.ace_model.proofs.Outstanding.Names.{named_is}
use Rattle.ace_model.proofs.Outstanding.Lists.{kept_all}

-- one more acknowledge of the port on the channel, where one was left, is no more than what is complete
one_left : (past : Trace) (p q : ℕ) (c d : Channel) (here : Bool) (i : ℕ) → (here ≡ true → c ≡ d) → next_complete past q d ≡ Some i
    → acknowledgements past p c ≤ length (completed past p c)
    → (if here && nat_eq p q then acknowledgements past p c + 1 else acknowledgements past p c) ≤ length (completed past p c)
one_left past p q c d false i chan next before = before
one_left past p q c d true i chan next before =
    elim (cases_Bool (nat_eq p q)) [
      | inr f ↦ rw f before
      | inl t ↦
          let there : next_complete past p c ≡ Some i = ap (λ v. next_complete past v c) (eqb-true p q t) ∙ ap (next_complete past q) (chan refl) ∙ next in
          let low = slice_get_within (completed past p c) (acknowledgements past p c) i there in
          rw t (omega (arith, low))
    ]

chan_is : (c : Channel) → is_read c ≡ true → c ≡ Read
chan_is Read t = refl
chan_is Write t = cc

chan_write : (c : Channel) → not (is_read c) ≡ true → c ≡ Write
chan_write Read t = cc
chan_write Write t = refl

-- the acknowledges of an accepted trace are no more than what is complete
acknowledgements-within : (h : Header) (past : Trace) (p : ℕ) (c : Channel) → IsAccepted h past → acknowledgements past p c ≤ length (completed past p c)
acknowledgements-within h [] p c a = omega arith
acknowledgements-within h (Rk q st ∷ past) p c a =
    let next = some_is (next_complete past q Read) (accepted_keeps h past (Rk q st) a).rule_22 in
    one_left past p q c Read (is_read c) next.0 (chan_is c) next.1 (acknowledgements-within h past p c a.0)
acknowledgements-within h (Wk q st ∷ past) p c a =
    let next = some_is (next_complete past q Write) (accepted_keeps h past (Wk q st) a).rule_27 in
    one_left past p q c Write (not (is_read c)) next.0 (chan_write c) next.1 (acknowledgements-within h past p c a.0)
acknowledgements-within h (e ∷ past) p c a = others (acknowledgements-within h past p c a.0) (completes e p c)
  where
    others : acknowledgements past p c ≤ length (completed past p c) → (o : Option ℕ) → acknowledgements past p c ≤ length (more (completed past p c) o)
    others before None = before
    others before (Some y) = let n = length-append (completed past p c) (y ∷ []) in omega (arith, before, n)

-- what an event of the port completes
completes-own : (e : Event) (p : ℕ) (c : Channel) → port_of e ≡ Some p → completes e p c ≡ completed_by e c
completes-own (R q j resp last word) p c own = let t = eq-eqb p q (sym (Some-injective q p own)) in rw t (tests (is_read c) last)
  where
    tests : (r l : Bool) → cond ((r && true) && l) (Some j) None ≡ cond (r && l) (Some j) None
    tests true l = refl
    tests false l = refl
completes-own (B q j resp) p c own = let t = eq-eqb p q (sym (Some-injective q p own)) in rw t (tests (is_read c))
  where
    tests : (r : Bool) → cond (not r && true) (Some j) None ≡ cond r None (Some j)
    tests true = refl
    tests false = refl
completes-own _ p c own = refl

-- the complete ones of an ACE port that wait
pub waiting-after : (h : Header) (past : Trace) (e : Event) (p : ℕ) (c : Channel) (waiting : List ℕ) → IsAccepted h (e ∷ past) → port_of e ≡ Some p
    → waiting ≡ drop (acknowledgements past p c) (completed past p c)
    → waiting_after waiting true c e ≡ drop (acknowledgements (e ∷ past) p c) (completed (e ∷ past) p c)
waiting-after h past e p c waiting a own is = by e (acknowledgements-within h past p c a.0) (completes-own e p c own) own
  where
    grown : (o : Option ℕ) → acknowledgements past p c ≤ length (completed past p c)
        → more waiting o ≡ drop (acknowledgements past p c) (more (completed past p c) o)
    grown None within = is
    grown (Some i) within = ap (λ l. l ++ i ∷ []) is ∙ sym (drop-append-le (acknowledgements past p c) (completed past p c) (i ∷ []) within)

    shorter : drop 1 waiting ≡ drop (acknowledgements past p c + 1) (completed past p c)
    shorter = ap (drop 1) is ∙ drop-drop 1 (acknowledgements past p c) (completed past p c)

    by : (e : Event) → acknowledgements past p c ≤ length (completed past p c) → completes e p c ≡ completed_by e c → port_of e ≡ Some p
        → waiting_after waiting true c e ≡ drop (acknowledgements (e ∷ past) p c) (completed (e ∷ past) p c)
    by (Rk q st) within same own =
        let t = eq-eqb p q (sym (Some-injective q p own)) in
        elim (cases_Bool (is_read c)) [ inl r ↦ rw (r, t) shorter | inr r ↦ rw r is ]
    by (Wk q st) within same own =
        let t = eq-eqb p q (sym (Some-injective q p own)) in
        elim (cases_Bool (is_read c)) [ inl r ↦ rw r is | inr r ↦ rw (r, t) shorter ]
    by (R q j resp last word) within same own = rw same (grown (completed_by (R q j resp last word) c) within)
    by (B q j resp) within same own = rw same (grown (completed_by (B q j resp) c) within)
    by _ within same own = is

-- what ends is this one exactly where it is under the identifier
pub ends_is : (h : Header) (past : Trace) (e : Event) (p : ℕ) (c : Channel) (waiting : List ℕ) (x : Transaction) → IsAccepted h (e ∷ past) → port_of e ≡ Some p
    → (is_ace h p ≡ true → waiting ≡ drop (acknowledgements past p c) (completed past p c)) → outstanding h past p c x.id ≡ Some x
    → is_some_and (ending_of waiting (is_ace h p) c e) (λ i. nat_eq x.id i) ≡ is_transaction (ended h past e) x
ends_is h past e p c waiting x a own is out = by e a own
  where
    name : (d : Channel) (j : ℕ) → is_transaction (transaction_of past p d j) x ≡ (same_channel c d && nat_eq x.id j)
    name d j =
        let n = outstanding-name h past p c x.id x out in
        named_is past p p c d x.id j x (outstanding-named h past p c x.id x out) ∙ rw (n.port, n.chan, eq-eqb p p refl) refl

    front : (d : Channel) → c ≡ d → is_ace h p ≡ true → slice_get waiting 0 ≡ next_complete past p d
    front d same ace =
        ap (λ l. slice_get l 0) (is ace) ∙ slice_get-drop (completed past p c) (acknowledgements past p c) 0 (acknowledgements past p c) (omega arith)
        ∙ ap (next_complete past p) same

    under : (d : Channel) (o : Option ℕ) → same_channel c d ≡ true → is_some_and o (λ i. nat_eq x.id i) ≡ is_transaction (transaction_under past p d o) x
    under d None same = refl
    under d (Some j) same = let n = name d j in rw (n, same) refl

    apart : (d : Channel) (o : Option ℕ) → same_channel c d ≡ false → false ≡ is_transaction (transaction_under past p d o) x
    apart d None same = refl
    apart d (Some j) same = let n = name d j in rw (n, same) refl

    by : (e : Event) → IsAccepted h (e ∷ past) → port_of e ≡ Some p → is_some_and (ending_of waiting (is_ace h p) c e) (λ i. nat_eq x.id i) ≡ is_transaction (ended h past e) x
    by (Rk q st) a own =
        let same : q ≡ p = Some-injective q p own in
        let ace : is_ace h p ≡ true = ap (is_ace h) (sym same) ∙ (and_parts (nat_lt q h.ports) (is_ace h q) (accepted_keeps h past (Rk q st) a).rule_1).1 in
        elim (cases_Bool (is_read c)) [
          | inl r ↦ let f = front Read (chan_is c r) ace in let u = under Read (next_complete past p Read) (rw (chan_is c r) refl) in rw (same, r, f) u
          | inr r ↦ let u = apart Read (next_complete past p Read) (rw (chan_write c (ap not r)) refl) in rw (same, r, ace) u
        ]
    by (Wk q st) a own =
        let same : q ≡ p = Some-injective q p own in
        let ace : is_ace h p ≡ true = ap (is_ace h) (sym same) ∙ (and_parts (nat_lt q h.ports) (is_ace h q) (accepted_keeps h past (Wk q st) a).rule_1).1 in
        elim (cases_Bool (is_read c)) [
          | inr r ↦ let f = front Write (chan_write c (ap not r)) ace in let u = under Write (next_complete past p Write) (rw (chan_write c (ap not r)) refl) in rw (same, r, f) u
          | inl r ↦ let u = apart Write (next_complete past p Write) (rw (chan_is c r) refl) in rw (same, r, ace) u
        ]
    by (R q j resp last word) a own = rw (Some-injective q p own) (last_read (is_ace h p) last c refl (name Read j))
      where
        last_read : (ace last : Bool) (d : Channel) → d ≡ c → is_transaction (transaction_of past p Read j) x ≡ (same_channel c Read && nat_eq x.id j)
            → is_some_and (if ace then None else completed_by (R p j resp last word) d) (λ i. nat_eq x.id i)
            ≡ is_transaction (if last && not ace then transaction_of past p Read j else None) x
        last_read true true d same n = refl
        last_read true false d same n = refl
        last_read false true Read same n = sym (n ∙ rw (← same) refl)
        last_read false true Write same n = sym (n ∙ rw (← same) refl)
        last_read false false Read same n = refl
        last_read false false Write same n = refl
    by (B q j resp) a own = rw (Some-injective q p own) (response (is_ace h p) c refl (name Write j))
      where
        response : (ace : Bool) (d : Channel) → d ≡ c → is_transaction (transaction_of past p Write j) x ≡ (same_channel c Write && nat_eq x.id j)
            → is_some_and (if ace then None else completed_by (B p j resp) d) (λ i. nat_eq x.id i)
            ≡ is_transaction (if ace then None else transaction_of past p Write j) x
        response true d same n = refl
        response false Read same n = sym (n ∙ rw (← same) refl)
        response false Write same n = sym (n ∙ rw (← same) refl)
    by _ a own = elim (cases_Bool (is_ace h p)) [ inl ace ↦ rw ace refl | inr lite ↦ rw lite refl ]

-- where nothing ends, all stay
pub all_stay : (list : List Progress) (ended : Option ℕ) → ended ≡ None → list ≡ without_id ended list
all_stay list ended none = rw none (sym (kept_all list))
