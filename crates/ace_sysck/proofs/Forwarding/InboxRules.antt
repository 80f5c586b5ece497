-- What the rules on the parts of messages say where the inboxes stand.
use Rattle.std.proofs.Common.{◌≡◌, ◌≢◌, ◌⊎◌, ℕ, zero, suc, ◌+◌, ◌<◌, Bool, true, false, not, ◌&&◌, ◌||◌, nat_eq, nat_lt, List, [], ◌∷◌, ◌++◌, length, map, drop, slice_get, get_or, Option, Some, None, refl, sym, ap, subst, ◌∙◌, arith, inl, inr, length-append}
use Rattle.ace_sysck.proofs.Terms.{AllPairs, option_map, SnoopKind, Transaction, Ac, Trace, implies, is_some_and, is_none_or, is_ace, is_message_part, is_message_snoop, ac_kind_of, first_waiting, parts_for, parts_among, forwarded, answered_parts, has_answered, has_part, list_all, ports_below, is_other_ace, is_answered_by_all, k36, next_part, is_second_part, forwards_next, Target, Recording, Inbox, Inboxes, is_at, InboxStands, InboxesStand, MayAskInboxes, part_of, own_transaction, message_with, next_message_in, next_message, next_in, forwards_in, awaits, has_place}
use Rattle.std.proofs.lemmas.Bool.{cases_Bool, and_parts, eqb-true, eq-eqb, ne_eqb, ltb-true, or_left}
use Rattle.std.proofs.lemmas.List.{take-append-drop, get_or_append_left, get_or-append-add, get_or_default}
use Rattle.std.proofs.lemmas.Option.{slice_get-map}
use Rattle.std.proofs.lemmas.List.Folds.{list_any-append, list_any_none}
use Rattle.ace_model.proofs.Dvm.Parts.{parts-cases}
use Rattle.ace_model.proofs.Dvm.Forwarding.{answered-first}
use Rattle.ace_model.proofs.Trace.Growth.{IsIssued}
use Rattle.ace_model.proofs.General.Lists.{IsStart, start-is, slice_get-drop}
use Rattle.ace_sysck.proofs.PartLaws.{parts-apart, waiting-apart, AreOthers}

-- a port of the header has an inbox
pub inbox_at : (xs : List Inbox) (k : ℕ) → k < length xs → (b : Inbox) × (slice_get xs k ≡ Some b)
inbox_at [] k low = absurd (omega arith)
inbox_at (b ∷ xs) zero low = (b, refl)
inbox_at (b ∷ xs) (suc k) low = inbox_at xs k (omega arith)

pub inbox_of : (r : Recording) (s : Inboxes) (p : ℕ) → InboxesStand r s → is_ace r.header p ≡ true → (b : Inbox) × (slice_get s.ports.items p ≡ Some b)
inbox_of r s p stands ace = inbox_at s.ports.items p (let n = stands.size in let low = ltb-true p r.header.ports (and_parts (nat_lt p r.header.ports) _ ace).0 in omega arith)

-- the next part is the first that was not forwarded
pub next-is : (r : Recording) (s : Inboxes) (p : ℕ) → InboxesStand r s → is_ace r.header p ≡ true → next_in (slice_get s.ports.items p) ≡ option_map (part_of r.past) (next_part r.past p)
next-is r s p stands ace =
    let within : p < length s.ports.items = let n = stands.size in let low = ltb-true p r.header.ports (and_parts (nat_lt p r.header.ports) _ ace).0 in omega arith in
    let b = inbox_at s.ports.items p within in
    let k = stands.ports p b.0 b.1 ace in
    let count = k.count_is in
    let a = length (answered_parts r.past p) in
    ap next_in b.1 ∙ ap (λ l. slice_get l b.0.forwarded) k.parts_are ∙ slice_get-map (part_of r.past) (drop a (parts_for r.past p)) b.0.forwarded
    ∙ ap (option_map (part_of r.past)) (slice_get-drop (parts_for r.past p) a b.0.forwarded (length (parts_among (forwarded r.past p))) (sym count))

forwards-same : (past : Trace) (next : Option Transaction) (addr : ℕ) (k : SnoopKind)
    → implies (is_message_snoop k || is_some_and next (is_second_part past)) (is_message_snoop k && is_some_and next (λ x. nat_eq x.addr addr)) ≡ forwards_in (option_map (part_of past) next) addr k
forwards-same past None addr k = refl
forwards-same past (Some x) addr k = refl

-- K36
pub k36-is : (r : Recording) (s : Inboxes) (p addr snoop : ℕ) (t : Target) (k : SnoopKind) → MayAskInboxes r s (Ac p addr snoop) t → ac_kind_of snoop ≡ Some k
    → k36 r.header r.past (Ac p addr snoop) ≡ forwards_in (next_in (slice_get s.ports.items p)) addr k
k36-is r s p addr snoop t k asked kind =
    let ace = (and_parts (nat_lt p r.header.ports) (is_ace r.header p) asked.asked.first).1 in
    ap (λ o. is_none_or o (forwards_next r.past p addr)) kind ∙ forwards-same r.past (next_part r.past p) addr k
    ∙ ap (λ o. forwards_in o addr k) (sym (next-is r s p asked.stands ace))

-- parts that are others than one don't have it
without-part : (xs : List Transaction) (f x : Transaction) → AreOthers f xs → f.place ≡ x.place → has_part xs x ≡ false
without-part xs f x others same =
    list_any_none (λ y. nat_eq y.place x.place) xs (λ k d low. ne_eqb (get_or xs k d).place x.place (λ e. others k d low (e ∙ sym same)))

-- a part that a list has stands at some place
at_some : (xs : List Transaction) (x : Transaction) → has_part xs x ≡ true → (k : ℕ) × (k < length xs) × ((get_or xs k x).place ≡ x.place)
at_some [] x has = cc
at_some (y ∷ xs) x has =
    elim (cases_Bool (nat_eq y.place x.place)) [
      | inl t ↦ (0, omega arith, eqb-true y.place x.place t)
      | inr f ↦ let r = at_some xs x (rw f at has) in let low = r.1 in (suc r.0, omega (arith, low), r.2)
    ]

-- a part in the first of two lists of others is not in the second
pub apart_parts : (xs ys : List Transaction) (x : Transaction) → AllPairs (λ (y : Transaction) (z : Transaction). y.place ≢ z.place) (xs ++ ys) → has_part xs x ≡ true → has_part ys x ≡ false
apart_parts xs ys x apart has =
    let a = at_some xs x has in
    let low_a = a.1 in
    let long = length-append xs ys in
    list_any_none (λ y. nat_eq y.place x.place) ys (λ k d low. ne_eqb (get_or ys k d).place x.place (λ e.
    let first : get_or (xs ++ ys) a.0 d ≡ get_or xs a.0 x = get_or_append_left xs ys d a.0 low_a ∙ get_or_default xs a.0 d x low_a in
    let second : get_or (xs ++ ys) (length xs + k) d ≡ get_or ys k d = get_or-append-add xs ys k d in
    apart a.0 (length xs + k) d (omega (arith, low_a)) (omega (arith, low, long))
    (ap (λ (z : Transaction). z.place) first ∙ a.2 ∙ sym e ∙ ap (λ (z : Transaction). z.place) (sym second))))

-- the parts for a port behind the first of them
abbrev pub behind : List Transaction → Trace → ℕ → List Transaction
behind first past q = drop (length first) (parts_for past q)

abbrev pub unanswered : Trace → ℕ → List Transaction
unanswered past q = behind (answered_parts past q) past q

both-parts : (past : Trace) (q : ℕ) (first : List Transaction) → IsStart first (parts_for past q) → first ++ behind first past q ≡ parts_for past q
both-parts past q first start =
    ap (λ l. l ++ behind first past q) (sym (start-is first (parts_for past q) start)) ∙ take-append-drop (length first) (parts_for past q)

both-apart : (past : Trace) (q : ℕ) (first : List Transaction) → IsStart first (parts_for past q)
    → AllPairs (λ (y : Transaction) (z : Transaction). y.place ≢ z.place) (first ++ behind first past q)
both-apart past q first start =
    subst (λ l. AllPairs (λ (y : Transaction) (z : Transaction). y.place ≢ z.place) l) (sym (both-parts past q first start)) (parts-apart past q)

has-both : (past : Trace) (q : ℕ) (first : List Transaction) (x : Transaction) → IsStart first (parts_for past q)
    → has_part (parts_for past q) x ≡ (has_part first x || has_part (behind first past q) x)
has-both past q first x start =
    ap (λ l. has_part l x) (sym (both-parts past q first start)) ∙ list_any-append (λ y. nat_eq y.place x.place) first (behind first past q)

-- a part that waits to be answered has not been
pub not_answered : (past : Trace) (q : ℕ) (x : Transaction) → has_part (unanswered past q) x ≡ true → has_answered past x q ≡ false
not_answered past q x waits =
    elim (cases_Bool (has_answered past x q)) [
      | inl t ↦
          let apart = both-apart past q (answered_parts past q) (answered-first past q) in
          let bad : false ≡ true = sym (apart_parts (answered_parts past q) (unanswered past q) x apart t) ∙ waits in cc
      | inr f ↦ f
    ]

-- a part of another port is among the first, unless it waits for its second, or is behind them
pub among-is : (past : Trace) (x : Transaction) (q : ℕ) (first : List Transaction) → IsStart first (parts_for past q) → IsIssued past x → is_message_part x ≡ true → x.port ≢ q
    → has_part first x ≡ not (is_at (first_waiting past x.port) x.place || has_part (behind first past q) x)
among-is past x q first start i part other =
    elim (parts-cases x q part other past i) [
      | inl has ↦ rw (unwaited has (first_waiting past x.port) refl) (one (has_part first x) (has_part (behind first past q) x) (sym (has-both past q first x start) ∙ has)
          (λ t. apart_parts first (behind first past q) x (both-apart past q first start) t))
      | inr waits ↦ rw (waits, eq-eqb x.place x.place refl) (none waits (cases_Bool (has_part first x)))
    ]
  where
    unwaited : has_part (parts_for past q) x ≡ true → (o : Option Transaction) → first_waiting past x.port ≡ o → is_at o x.place ≡ false
    unwaited has None is = refl
    unwaited has (Some f) is =
        ne_eqb x.place f.place (λ e.
        let bad : false ≡ true = sym (without-part (parts_for past q) f x (waiting-apart past x.port q f is) (sym e)) ∙ has in cc)

    one : (a d : Bool) → (a || d) ≡ true → (a ≡ true → d ≡ false) → a ≡ not (false || d)
    one true d some apart = rw (apart refl) refl
    one false d some apart = let t : d ≡ true = some in rw t refl

    none : first_waiting past x.port ≡ Some x → (has_part first x ≡ true) ⊎ (has_part first x ≡ false) → has_part first x ≡ false
    none waits (inl t) =
        let bad : false ≡ true =
        sym (without-part (parts_for past q) x x (waiting-apart past x.port q x waits) refl) ∙ has-both past q first x start ∙ or_left (has_part first x) _ t in cc
    none waits (inr f) = f

-- a part of another port was answered, unless it waits for its second, or waits to be answered
answered-is : (past : Trace) (x : Transaction) (q : ℕ) → IsIssued past x → is_message_part x ≡ true → x.port ≢ q
    → has_answered past x q ≡ not (is_at (first_waiting past x.port) x.place || has_part (unanswered past q) x)
answered-is past x q i part other = among-is past x q (answered_parts past q) (answered-first past q) i part other

-- a part at the place is among those of the inbox
pub place-in : (past : Trace) (ys : List Transaction) (x : Transaction) → has_place (map (part_of past) ys) x.place ≡ has_part ys x
place-in past [] x = refl
place-in past (y ∷ ys) x = ap (λ b. nat_eq y.place x.place || b) (place-in past ys x)

-- the parts of the transactions without the first are those of the parts without them
pub drop-map : (past : Trace) (n : ℕ) (xs : List Transaction) → drop n (map (part_of past) xs) ≡ map (part_of past) (drop n xs)
drop-map past zero xs = refl
drop-map past (suc n) [] = refl
drop-map past (suc n) (x ∷ xs) = drop-map past n xs

pub awaits-is : (r : Recording) (s : Inboxes) (q : ℕ) (x : Transaction) → InboxesStand r s → is_ace r.header q ≡ true → awaits s q x.place ≡ has_part (unanswered r.past q) x
awaits-is r s q x stands ace =
    let within : q < length s.ports.items = let n = stands.size in let low = ltb-true q r.header.ports (and_parts (nat_lt q r.header.ports) _ ace).0 in omega arith in
    let b = inbox_at s.ports.items q within in
    let k = stands.ports q b.0 b.1 ace in
    ap (λ o. is_some_and o (λ (v : Inbox). has_place v.parts.items x.place)) b.1 ∙ ap (λ l. has_place l x.place) k.parts_are ∙ place-in r.past (unanswered r.past q) x

-- two tests that agree on each port below a number
pub all_ports-same : (n : ℕ) (test other : ℕ → Bool) → ((q : ℕ) → q < n → test q ≡ other q) → list_all test (ports_below n) ≡ list_all other (ports_below n)
all_ports-same zero test other same = refl
all_ports-same (suc n) test other same = rw (same n (omega arith), all_ports-same n test other (λ q low. same q (omega arith))) refl

-- every other ACE port has answered the part
pub answered_by_all-is : (r : Recording) (s : Inboxes) (x : Transaction) → InboxesStand r s → IsIssued r.past x → is_message_part x ≡ true
    → is_answered_by_all r.header r.past x
    ≡ list_all (λ q. implies (is_other_ace r.header x.port q) (not (is_at (first_waiting r.past x.port) x.place || awaits s q x.place))) (ports_below r.header.ports)
answered_by_all-is r s x stands i part =
    all_ports-same r.header.ports (λ q. implies (is_other_ace r.header x.port q) (has_answered r.past x q))
    (λ q. implies (is_other_ace r.header x.port q) (not (is_at (first_waiting r.past x.port) x.place || awaits s q x.place)))
    (λ q low. elim (cases_Bool (is_other_ace r.header x.port q)) [
      | inl t ↦
          let parts = and_parts (is_ace r.header q) (not (nat_eq q x.port)) t in
          let other : x.port ≢ q = λ same. let bad : not true ≡ true = rw (eq-eqb q x.port (sym same)) at parts.1 in cc in
          rw (t, awaits-is r s q x stands parts.0) (answered-is r.past x q i part other)
      | inr f ↦ rw f refl
    ])

-- a part of an inbox is one that the port hasn't answered
own-part : (past : Trace) (o : Option Transaction) → option_map own_transaction (option_map (part_of past) o) ≡ o
own-part past None = refl
own-part past (Some x) = refl

part-after : (past : Trace) (q : ℕ) (b : Inbox) → InboxStands past q b.parts.items b.forwarded
    → option_map own_transaction (slice_get b.parts.items (b.forwarded + 1)) ≡ slice_get (parts_for past q) (length (parts_among (forwarded past q)) + 1)
part-after past q b k =
    let a = length (answered_parts past q) in
    let count = k.count_is in
    ap (λ l. option_map own_transaction (slice_get l (b.forwarded + 1))) k.parts_are
    ∙ ap (option_map own_transaction) (slice_get-map (part_of past) (drop a (parts_for past q)) (b.forwarded + 1))
    ∙ own-part past (slice_get (drop a (parts_for past q)) (b.forwarded + 1))
    ∙ slice_get-drop (parts_for past q) a (b.forwarded + 1) (length (parts_among (forwarded past q)) + 1) (omega (arith, count))

-- the next message
pub next_message_is : (r : Recording) (s : Inboxes) (q : ℕ) (b : Inbox) → InboxesStand r s → is_ace r.header q ≡ true → slice_get s.ports.items q ≡ Some b
    → next_message_in b.parts.items b.forwarded ≡ next_message r.past q
next_message_is r s q b stands ace at =
    let k = stands.ports q b at ace in
    let first : option_map own_transaction (slice_get b.parts.items b.forwarded) ≡ next_part r.past q =
    ap (λ o. option_map own_transaction (next_in o)) (sym at) ∙ ap (option_map own_transaction) (next-is r s q stands ace) ∙ own-part r.past (next_part r.past q) in
    ap (λ o. message_with o (option_map own_transaction (slice_get b.parts.items (b.forwarded + 1)))) first ∙ ap (message_with (next_part r.past q)) (part-after r.past q b k)

-- the next message of an inbox
pub ruleset next_messages = (inbox_of, next_message_is)
