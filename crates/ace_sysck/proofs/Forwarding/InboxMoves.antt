-- The parts for a port, and how many of them it has answered, event by event.
use Rattle.std.proofs.Common.{◌≡◌, ◌≢◌, ℕ, zero, suc, ◌+◌, ◌*◌, ◌<◌, ◌≤◌, Bool, true, false, not, ◌&&◌, ◌||◌, nat_eq, List, [], ◌∷◌, length, map, get_or, Option, Some, None, is_some, refl, sym, ap, ◌∙◌, arith, inl, inr, length-drop}
use Rattle.ace_sysck.proofs.Terms.{All, AllPairs, Read, Transaction, Header, Event, Trace, at_point, is_ace, is_read, issued, outstanding, is_completed, is_message_part, is_sync_word, has_second, first_waiting, parts_with, parts_in, parts_for, answered_parts, has_part, IsAccepted, slot_of, PortMessages, Part, PortMessagesStand, part_of, parts_sent}
use Rattle.std.proofs.lemmas.Bool.{cases_Bool, and_parts, and_right, eq-eqb}
use Rattle.std.proofs.lemmas.List.{get_or-drop}
use Rattle.std.proofs.lemmas.List.Elements.{All-nil, All-cons, All-append, All-weaker, All-head, All-tail, All-drop, All-get_or}
use Rattle.ace_model.proofs.Dvm.Parts.{IsBelow}
use Rattle.ace_model.proofs.Dvm.Answered.{complete_part-answered}
use Rattle.ace_model.proofs.Trace.Growth.{IsIssued, issued-new, issued-old, issued-cases, at_point-before}
use Rattle.ace_model.proofs.Trace.Places.{at_point-last}
use Rattle.ace_model.proofs.Trace.Issued.{issued-place}
use Rattle.ace_model.proofs.Trace.LineOnce.{outstanding_is}
use Rattle.ace_model.proofs.Trace.Looks.{is_read-is}
use Rattle.ace_model.proofs.General.Options.{Some-injective}
use Rattle.ace_model.proofs.General.Pigeonhole.{few_apart}
use Rattle.ace_sysck.proofs.Steps.{port_within}
use Rattle.ace_sysck.proofs.BarrierSteps.{issuing-port}
use Rattle.ace_sysck.proofs.Unanswered.{still-outstanding}
use Rattle.ace_sysck.proofs.PartLaws.{Waits, waits-is, waits-old, parts-apart}
use Rattle.ace_sysck.proofs.Forwarding.InboxRules.{unanswered, not_answered}

-- A part for a port was issued by another port.
pub record IsPartFor (past : Trace) (q : ℕ) (z : Transaction) : Type 0 where
  pub there : IsIssued past z
  pub part : is_message_part z ≡ true
  pub other : z.port ≢ q

part-grown : (e : Event) (past : Trace) (q : ℕ) (z : Transaction) → IsPartFor past q z → IsPartFor (e ∷ past) q z
part-grown e past q z i = record { there = issued-old e past z i.there; part = i.part; other = i.other }

pub parts-are : (past : Trace) (q : ℕ) → All (IsPartFor past q) (parts_for past q)
parts-are [] q = All-nil (IsPartFor [] q)
parts-are (e ∷ past) q = All-append (IsPartFor (e ∷ past) q) (parts_for past q) (parts_in past (issued (length past) e) q)
    (All-weaker (IsPartFor past q) (IsPartFor (e ∷ past) q) (part-grown e past q) (parts_for past q) (parts-are past q))
    (new (issued (length past) e) refl)
  where
    new : (n : Option Transaction) → issued (length past) e ≡ n → All (IsPartFor (e ∷ past) q) (parts_in past n q)
    new None is = All-nil (IsPartFor (e ∷ past) q)
    new (Some x) is = elim (cases_Bool (is_message_part x && not (nat_eq x.port q))) [
      | inl t ↦ rw t (message t (first_waiting past x.port) refl)
      | inr f ↦ rw f (All-nil (IsPartFor (e ∷ past) q))
    ]
      where
        apart : (is_message_part x && not (nat_eq x.port q)) ≡ true → x.port ≢ q
        apart t same = let bad : not true ≡ true = rw (eq-eqb x.port q same) at (and_parts (is_message_part x) (not (nat_eq x.port q)) t).1 in cc

        own : (is_message_part x && not (nat_eq x.port q)) ≡ true → IsPartFor (e ∷ past) q x
        own t = record { there = issued-new e past x is; part = (and_parts (is_message_part x) (not (nat_eq x.port q)) t).0; other = apart t }

        message : (is_message_part x && not (nat_eq x.port q)) ≡ true → (o : Option Transaction) → first_waiting past x.port ≡ o → All (IsPartFor (e ∷ past) q) (parts_with o x)
        message t (Some f) was =
            let w = waits-is past x.port f was in
            All-cons (IsPartFor (e ∷ past) q) f (x ∷ []) (record { there = issued-old e past f w.there; part = w.part; other = λ same. apart t (sym w.port ∙ same) })
            (All-cons (IsPartFor (e ∷ past) q) x [] (own t) (All-nil (IsPartFor (e ∷ past) q)))
        message t None was = elim (cases_Bool (has_second x.addr)) [
          | inl y ↦ rw y (All-nil (IsPartFor (e ∷ past) q))
          | inr n ↦ rw n (All-cons (IsPartFor (e ∷ past) q) x [] (own t) (All-nil (IsPartFor (e ∷ past) q)))
        ]

-- a part is a read
part-reads : (x : Transaction) → is_message_part x ≡ true → x.chan ≡ Read
part-reads x part =
    elim (cases_Bool (is_read x.chan)) [
      | inl t ↦ is_read-is x.chan t
      | inr f ↦ let bad : false ≡ true = rw f at part in cc
    ]

-- the port of a transaction of an accepted trace is one of the header
pub issued-within : (h : Header) (past : Trace) (x : Transaction) → IsAccepted h past → IsIssued past x → x.port < h.ports
issued-within h [] x accepted i = let low = i.before in absurd (omega arith)
issued-within h (e ∷ past) x accepted i =
    elim (issued-cases e past x i) [
      | inl new ↦ port_within h past e x.port accepted (issuing-port past e x new)
      | inr old ↦ issued-within h past x accepted.0 old
    ]

member : (xs : List Transaction) (k : ℕ) (d : Transaction) → k < length xs → has_part xs (get_or xs k d) ≡ true
member [] k d low = absurd (omega arith)
member (x ∷ xs) zero d low = rw (eq-eqb x.place x.place refl) refl
member (x ∷ xs) (suc k) d low = by (nat_eq x.place (get_or xs k d).place) (member xs k d (omega arith))
  where
    by : (b : Bool) {c : Bool} → c ≡ true → (b || c) ≡ true
    by true t = refl
    by false t = t

-- A part that an ACE port has not answered is outstanding.
unanswered-out : (h : Header) (past : Trace) (q k : ℕ) (d : Transaction) → IsAccepted h past → is_ace h q ≡ true → k < length (unanswered past q)
    → outstanding h past (get_or (unanswered past q) k d).port Read (get_or (unanswered past q) k d).id ≡ Some (get_or (unanswered past q) k d)
unanswered-out h past q k d accepted ace low =
    let z = get_or (unanswered past q) k d in
    let i : IsPartFor past q z = All-get_or (IsPartFor past q) (unanswered past q) k d low (All-drop (IsPartFor past q) (length (answered_parts past q)) (parts_for past q) (parts-are past q)) in
    let waits = not_answered past q z (member (unanswered past q) k d low) in
    let incomplete : is_completed past z ≡ false = elim (cases_Bool (is_completed past z)) [
      | inl t ↦
          let answered = complete_part-answered h z q i.part ace (λ same. i.other (sym same)) past t accepted i.there.there in
          let bad : false ≡ true = sym waits ∙ answered in cc
      | inr f ↦ f
    ] in
    let read = part-reads z i.part in
    ap (λ c. outstanding h past z.port c z.id) (sym read) ∙ outstanding_is h past z i.there (still-outstanding h past z accepted i.there read incomplete)

-- so there are no more of them than names
pub few-unanswered : (h : Header) (past : Trace) (q : ℕ) → IsAccepted h past → is_ace h q ≡ true → ((x : Transaction) → IsIssued past x → x.id < 256)
    → length (unanswered past q) ≤ h.ports * 256
few-unanswered h past q accepted ace ids = few_apart (λ (x : Transaction). slot_of x.port x.id) (h.ports * 256) (unanswered past q) apart below
  where
    xs : List Transaction
    xs = unanswered past q

    a : ℕ
    a = length (answered_parts past q)

    is : (k : ℕ) (d : Transaction) → k < length xs → IsPartFor past q (get_or xs k d)
    is k d low = All-get_or (IsPartFor past q) xs k d low (All-drop (IsPartFor past q) a (parts_for past q) (parts-are past q))

    below : All (λ (x : Transaction). slot_of x.port x.id < h.ports * 256) xs
    below k d low =
        let i = is k d low in
        let port = issued-within h past (get_or xs k d) accepted i.there in
        let id = ids (get_or xs k d) i.there in
        omega arith

    apart : AllPairs (λ (x : Transaction) (y : Transaction). slot_of x.port x.id ≢ slot_of y.port y.id) xs
    apart i j d low within same =
        let x = get_or xs i d in
        let y = get_or xs j d in
        let low_i : i < length xs = omega arith in
        let id_x = ids x (is i d low_i).there in
        let id_y = ids y (is j d within).there in
        let port : x.port ≡ y.port = omega (arith, same, id_x, id_y) in
        let id : x.id ≡ y.id = omega (arith, same, id_x, id_y) in
        let out_x = unanswered-out h past q i d accepted ace low_i in
        let out_y = unanswered-out h past q j d accepted ace within in
        let one : x ≡ y = Some-injective x y (sym out_x ∙ ap (λ p. outstanding h past p Read x.id) port ∙ ap (outstanding h past y.port Read) id ∙ out_y) in
        let long = length-drop a (parts_for past q) in
        parts-apart past q (a + i) (a + j) d (omega (arith, low)) (omega (arith, within, long))
        (ap (λ (z : Transaction). z.place) (sym (get_or-drop a (parts_for past q) i d)) ∙ ap (λ (z : Transaction). z.place) one ∙ ap (λ (z : Transaction). z.place) (get_or-drop a (parts_for past q) j d))

-- what is known of a part stays
part_of-old : (e : Event) (past : Trace) (z : Transaction) → z.place < length past → part_of (e ∷ past) z ≡ part_of past z
part_of-old e past z low =
    let same = at_point-before e past z.place (omega arith) in
    ap (λ (t : Trace). record { transaction = z; second = is_some (first_waiting t z.port); sync = is_message_part z && is_sync_word z.addr && not (is_some (first_waiting t z.port)) }) same

pub map-old : (e : Event) (past : Trace) (zs : List Transaction) → All (IsBelow (length past)) zs → map (part_of (e ∷ past)) zs ≡ map (part_of past) zs
map-old e past [] all = refl
map-old e past (z ∷ zs) all =
    ap (λ v. v ∷ map (part_of (e ∷ past)) zs) (part_of-old e past z (All-head (IsBelow (length past)) z zs all))
    ∙ ap (λ l. part_of past z ∷ l) (map-old e past zs (All-tail (IsBelow (length past)) z zs all))

-- what a port sends is what is known of the parts of its message
pub sent-is : (e : Event) (past : Trace) (x : Transaction) (m : PortMessages) → issued (length past) e ≡ Some x → is_message_part x ≡ true → PortMessagesStand past x.port m
    → map (part_of (e ∷ past)) (parts_with (first_waiting past x.port) x) ≡ parts_sent m x
sent-is e past x m new part s = go (first_waiting past x.port) refl (m.first) s.first
  where
    now : at_point x.place (e ∷ past) ≡ past
    now = at_point-last e past x.place (issued-place (length past) e x new)

    whole : Trace → Part
    whole t = record { transaction = x; second = is_some (first_waiting t x.port); sync = is_message_part x && is_sync_word x.addr && not (is_some (first_waiting t x.port)) }

    last-second : (f : Transaction) → first_waiting past x.port ≡ Some f → part_of (e ∷ past) x ≡ record { transaction = x; second = true; sync = false }
    last-second f was = ap whole now ∙ rw was (ap (λ b. record { transaction = x; second = true; sync = b }) (and_right (is_message_part x && is_sync_word x.addr) false refl))

    last-only : first_waiting past x.port ≡ None → part_of (e ∷ past) x ≡ record { transaction = x; second = false; sync = is_sync_word x.addr }
    last-only was = ap whole now ∙ rw (was, part) (ap (λ b. record { transaction = x; second = false; sync = b }) (true-right (is_sync_word x.addr)))
      where
        true-right : (b : Bool) → (b && true) ≡ b
        true-right true = refl
        true-right false = refl

    first-is : (f : Transaction) → Waits (e ∷ past) x.port f → part_of (e ∷ past) f ≡ record { transaction = f; second = false; sync = is_sync_word f.addr }
    first-is f w = rw (w.part, w.first) (ap (λ b. record { transaction = f; second = false; sync = b }) (true-right (is_sync_word f.addr)))
      where
        true-right : (b : Bool) → (b && true) ≡ b
        true-right true = refl
        true-right false = refl

    go : (o : Option Transaction) → first_waiting past x.port ≡ o → (n : Option Transaction) → n ≡ first_waiting past x.port → map (part_of (e ∷ past)) (parts_with o x) ≡ parts_sent m x
    go (Some f) was n is =
        rw (s.first, was) (ap (λ v. v ∷ part_of (e ∷ past) x ∷ []) (first-is f (waits-old e past x.port f (waits-is past x.port f was)))
        ∙ ap (λ v. record { transaction = f; second = false; sync = is_sync_word f.addr } ∷ v ∷ []) (last-second f was))
    go None was n is = elim (cases_Bool (has_second x.addr)) [
      | inl t ↦ rw (s.first, was, t) refl
      | inr f ↦ rw (s.first, was, f) (ap (λ v. v ∷ []) (last-only was))
    ]
