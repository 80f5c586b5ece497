-- Which parts were forwarded to a port, where the inboxes stand.
use Rattle.std.proofs.Common.{◌≡◌, ◌≢◌, ◌⊎◌, ℕ, true, not, ◌&&◌, ◌||◌, nat_eq, [], ◌∷◌, length, map, drop, List, Option, Some, None, refl, sym, ap, subst, ◌∙◌, inl, inr}
use Rattle.std.specs.Option.{option_to_list}
use Rattle.std.proofs.lemmas.Bool.{cases_Bool, and_parts, eq-eqb}
use Rattle.std.proofs.lemmas.List.{append-nil, drop-drop}
use Rattle.std.proofs.lemmas.List.Concat.{flat_map-append}
use Rattle.ace_sysck.proofs.Terms.{Snoop, Transaction, Trace, is_some_and, is_ace, ac_kind_of, is_message_part, is_message_snoop, issued, answered_parts, first_waiting, forwarded, forwards, add_forwarded, next_after, has_part, is_other_ace, parts_in, parts_for, parts_among, snoop_at, Recording, Inbox, Inboxes, is_at, InboxesStand, part_of, awaits_snoop, has_place, was_forwarded}
use Rattle.ace_model.proofs.General.Lists.{IsStart, start-self, start-trans, start-append, start-next}
use Rattle.ace_model.proofs.Trace.Growth.{IsIssued}
use Rattle.ace_sysck.proofs.Forwarding.InboxRules.{inbox_of, behind, drop-map, among-is, place-in}

-- a snoop forwards nothing, or the next part
forwards-cases : (next : Option Transaction) (s : Snoop) → (forwards next s ≡ None) ⊎ ((x : Transaction) × (next ≡ Some x) × (forwards next s ≡ Some x))
forwards-cases None s = inl refl
forwards-cases (Some x) s =
    elim (cases_Bool (is_some_and (ac_kind_of s.snoop) is_message_snoop && nat_eq x.addr s.addr)) [
      | inl t ↦ inr (x, refl, rw t refl)
      | inr f ↦ inl (rw f refl)
    ]

add-forwards : (past : Trace) (q : ℕ) (done : List (Option Transaction)) (new : Option Snoop) → IsStart (parts_among done) (parts_for past q)
    → IsStart (parts_among (add_forwarded past q done new)) (parts_for past q)
add-forwards past q done None start = start
add-forwards past q done (Some s) start =
    let next = next_after past q done in
    subst (λ l. IsStart l (parts_for past q)) (sym (flat_map-append option_to_list done (forwards next s ∷ []))) (elim (forwards-cases next s) [
      | inl none ↦ rw (none, append-nil (parts_among done)) start
      | inr some ↦ rw some.2 (start-next (parts_among done) (parts_for past q) some.0 start some.1)
    ])

-- the forwarded parts are the first of those for the port
forwarded-first : (past : Trace) (q : ℕ) → IsStart (parts_among (forwarded past q)) (parts_for past q)
forwarded-first [] q = start-self []
forwarded-first (e ∷ past) q =
    start-trans (parts_among (forwarded (e ∷ past) q)) (parts_for past q) (parts_for (e ∷ past) q)
    (add-forwards past q (forwarded past q) (snoop_at (length past) e q) (forwarded-first past q))
    (start-append (parts_for past q) (parts_in past (issued (length past) e) q))

-- those behind them are the parts of the inbox that were not forwarded
awaits-snoop-is : (r : Recording) (s : Inboxes) (q : ℕ) (x : Transaction) → InboxesStand r s → is_ace r.header q ≡ true
    → awaits_snoop s q x.place ≡ has_part (behind (parts_among (forwarded r.past q)) r.past q) x
awaits-snoop-is r s q x stands ace =
    let b = inbox_of r s q stands ace in
    let k = stands.ports q b.0 b.1 ace in
    let a = length (answered_parts r.past q) in
    ap (λ o. is_some_and o (λ (v : Inbox). has_place (drop v.forwarded v.parts.items) x.place)) b.1
    ∙ ap (λ l. has_place (drop b.0.forwarded l) x.place) k.parts_are
    ∙ ap (λ l. has_place l x.place) (drop-map r.past b.0.forwarded (drop a (parts_for r.past q)) ∙ ap (map (part_of r.past)) (drop-drop b.0.forwarded a (parts_for r.past q)))
    ∙ ap (λ n. has_place (map (part_of r.past) (drop n (parts_for r.past q))) x.place) k.count_is
    ∙ place-in r.past (behind (parts_among (forwarded r.past q)) r.past q) x

-- a part of another port was forwarded, unless it waits for its second, or for its snoop
pub forwarded-is : (r : Recording) (s : Inboxes) (q : ℕ) (x : Transaction) → InboxesStand r s → IsIssued r.past x → is_message_part x ≡ true → is_other_ace r.header x.port q ≡ true
    → was_forwarded r.past x q ≡ not (is_at (first_waiting r.past x.port) x.place || awaits_snoop s q x.place)
forwarded-is r s q x stands i part other =
    let parts = and_parts (is_ace r.header q) (not (nat_eq q x.port)) other in
    let apart : x.port ≢ q = λ same. let bad : not true ≡ true = rw (eq-eqb q x.port (sym same)) at parts.1 in cc in
    rw (awaits-snoop-is r s q x stands parts.0) (among-is r.past x q (parts_among (forwarded r.past q)) (forwarded-first r.past q) i part apart)
