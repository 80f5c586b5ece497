-- The inboxes, event by event.
use Rattle.std.proofs.Common.{◌≡◌, ℕ, zero, suc, ◌+◌, ◌-◌, ◌*◌, ◌<◌, ◌≤◌, true, false, nat_eq, if◌then◌else◌, List, [], ◌∷◌, ◌++◌, length, map, take, drop, slice_get, Option, Some, None, is_some, refl, sym, ap, subst, ◌∙◌, arith, inl, inr, length-append, length-drop}
use Rattle.ace_sysck.proofs.Terms.{option_to_list, deque_capacity, Snoop, Transaction, Header, Event, Ar, Aw, Ac, Cr, Trace, is_some_and, is_ace, issued, transactions, IsTransaction, LineState, is_message_part, is_message_snoop, ac_kind_of, parts_in, parts_for, parts_among, forwarded, forwards, next_after, add_forwarded, answered_parts, snoops_of, snoop_at, answers, answered, IsAccepted, Target, Recording, after, target_of, PortMessages, Part, Inbox, Inboxes, begun_in, PortMessagesStand, InboxesStand, InboxStands, Receives, SendsAll, ForwardsTo, AnswersFirst, sent_to, part_of, parts_sent, answers_message}
use Rattle.std.proofs.lemmas.Bool.{cases_Bool, cases_eq, eq-eqb, ne_eqb}
use Rattle.std.proofs.lemmas.List.{append-nil, map-append, length-map, drop-append-le, drop-drop, take-append-le, take_more}
use Rattle.std.proofs.lemmas.List.Concat.{flat_map-append}
use Rattle.std.proofs.lemmas.List.Elements.{All-drop}
use Rattle.std.proofs.lemmas.Option.{slice_get_within, get_or_from_slice_get}
use Rattle.ace_model.proofs.Rules.Keeps.{accepted_keeps}
use Rattle.ace_model.proofs.Dvm.Parts.{IsBelow, parts-placed}
use Rattle.ace_model.proofs.Dvm.Forwarding.{answered-first}
use Rattle.ace_model.proofs.Trace.Growth.{IsIssued}
use Rattle.ace_model.proofs.Outstanding.Issued.{issued-place_in}
use Rattle.ace_model.proofs.General.Options.{Some-injective, some_is}
use Rattle.ace_model.proofs.General.Lists.{start-length, slice_get-more}
use Rattle.ace_sysck.proofs.EventLaws.{begun-is}
use Rattle.ace_sysck.proofs.PartLaws.{Forwards, forwards-at, forwards-kind, forwarded-length}
use Rattle.ace_sysck.proofs.Forwarding.InboxRules.{unanswered, inbox_at, drop-map}
use Rattle.ace_sysck.proofs.Forwarding.InboxMoves.{map-old, sent-is, few-unanswered}

-- the parts that are not answered are not known otherwise after one more event
unanswered-old : (e : Event) (past : Trace) (q : ℕ) → map (part_of (e ∷ past)) (unanswered past q) ≡ map (part_of past) (unanswered past q)
unanswered-old e past q =
    map-old e past (unanswered past q) (All-drop (IsBelow (length past)) (length (answered_parts past q)) (parts_for past q) (parts-placed past q))

-- What an event changes of what is forwarded to a port and of what it has answered: nothing.
pub record Idle (past : Trace) (e : Event) (q : ℕ) : Type 0 where
  pub same_answers : answers (e ∷ past) q ≡ answers past q
  pub no_snoop : snoop_at (length past) e q ≡ None

pub idle-answered : (past : Trace) (e : Event) (q : ℕ) → Idle past e q → answered_parts (e ∷ past) q ≡ answered_parts past q
idle-answered past e q i =
    ap (λ o. parts_among (take (answers (e ∷ past) q) (add_forwarded past q (forwarded past q) o))) i.no_snoop ∙ ap (λ n. parts_among (take n (forwarded past q))) i.same_answers

idle-forwarded : (past : Trace) (e : Event) (q : ℕ) → Idle past e q → forwarded (e ∷ past) q ≡ forwarded past q
idle-forwarded past e q i = ap (add_forwarded past q (forwarded past q)) i.no_snoop

-- where the event changes nothing of these, and adds parts to those for the port, they are added to its inbox
pub inbox_receives : (past : Trace) (e : Event) (q : ℕ) (parts sent : List Part) (count : ℕ) → Idle past e q → map (part_of (e ∷ past)) (parts_in past (issued (length past) e) q) ≡ sent
    → InboxStands past q parts count → InboxStands (e ∷ past) q (parts ++ sent) count
inbox_receives past e q parts sent count i new s =
    let a = length (answered_parts past q) in
    let n : length (answered_parts (e ∷ past) q) ≡ a = ap length (idle-answered past e q i) in
    let within = start-length (answered_parts past q) (parts_for past q) (answered-first past q) in
    let added = parts_in past (issued (length past) e) q in
    record {
      parts_are =
          ap (λ l. l ++ sent) (s.parts_are ∙ sym (unanswered-old e past q)) ∙ ap (λ l. map (part_of (e ∷ past)) (unanswered past q) ++ l) (sym new)
          ∙ sym (map-append (part_of (e ∷ past)) (unanswered past q) added)
          ∙ ap (map (part_of (e ∷ past))) (sym (drop-append-le a (parts_for past q) added within))
          ∙ ap (λ k. map (part_of (e ∷ past)) (drop k (parts_for past q ++ added))) (sym n);
      count_is = ap (λ k. k + count) n ∙ s.count_is ∙ ap (λ l. length (parts_among l)) (sym (idle-forwarded past e q i));
    }

pub inbox_stays : (past : Trace) (e : Event) (q : ℕ) (parts : List Part) (count : ℕ) → Idle past e q → parts_in past (issued (length past) e) q ≡ []
    → InboxStands past q parts count → InboxStands (e ∷ past) q parts count
inbox_stays past e q parts count i none s =
    subst (λ l. InboxStands (e ∷ past) q l count) (append-nil parts)
    (inbox_receives past e q parts [] count i (ap (map (part_of (e ∷ past))) none) s)

-- a port has answered no more snoops than it has had
pub answers-within : (h : Header) (past : Trace) (q : ℕ) → IsAccepted h past → answers past q ≤ length (snoops_of past q)
answers-within h [] q accepted = omega arith
answers-within h (Cr p resp st ∷ past) q accepted =
    let before = answers-within h past q accepted.0 in
    elim (cases_eq q p) [
      | inl same ↦
          let s = some_is (answered past p) (accepted_keeps h past (Cr p resp st) accepted).rule_14 in
          let low = slice_get_within (snoops_of past p) (answers past p) s.0 s.1 in
          let mine : answers past q < length (snoops_of past q) = subst (λ n. answers past n < length (snoops_of past n)) (sym same) low in
          rw (eq-eqb q p same) (omega arith)
      | inr off ↦ rw (ne_eqb q p off) before
    ]
answers-within h (Ac p addr snoop ∷ past) q accepted =
    let before = answers-within h past q accepted.0 in
    elim (cases_Bool (nat_eq q p)) [
      | inl t ↦ rw t (let more_by = length-append (snoops_of past q) (record { place = length past; addr = addr; snoop = snoop } ∷ []) in omega arith)
      | inr f ↦ rw f before
    ]
answers-within h (e ∷ past) q accepted = answers-within h past q accepted.0

-- what is forwarded after a snoop of the port
among-more : (xs : List (Option Transaction)) (o : Option Transaction) → parts_among (xs ++ o ∷ []) ≡ parts_among xs ++ option_to_list o
among-more xs o = flat_map-append option_to_list xs (o ∷ []) ∙ ap (λ l. parts_among xs ++ l) (append-nil (option_to_list o))

pub one_more : (xs : List Transaction) (o : Option Transaction) → is_some o ≡ true → length (xs ++ option_to_list o) ≡ length xs + 1
one_more xs None s = cc
one_more xs (Some x) s = length-append xs (x ∷ [])

pub no_more : (xs : List Transaction) (o : Option Transaction) → is_some o ≡ false → xs ++ option_to_list o ≡ xs
no_more xs None s = append-nil xs
no_more xs (Some x) s = cc

module _ (h : Header) (past : Trace) (q addr snoop : ℕ) (accepted : IsAccepted h (Ac q addr snoop ∷ past)) where
  abbrev pub e : Event
  e = Ac q addr snoop

  abbrev pub snooped : Snoop
  snooped = record { place = length past; addr = addr; snoop = snoop }

  here : snoop_at (length past) e q ≡ Some snooped
  here = rw (eq-eqb q q refl) refl

  abbrev pub new : Option Transaction
  new = forwards (next_after past q (forwarded past q)) snooped

  forwarded-now : forwarded (e ∷ past) q ≡ forwarded past q ++ new ∷ []
  forwarded-now = ap (add_forwarded past q (forwarded past q)) here

  kind : is_some new ≡ is_some_and (ac_kind_of snoop) is_message_snoop
  kind = forwards-kind h past e q snooped accepted here

  pub answered-now : answered_parts (e ∷ past) q ≡ answered_parts past q
  answered-now =
      let within = answers-within h past q accepted.0 in
      let long = forwarded-length past q in
      ap (λ l. parts_among (take (answers past q) l)) forwarded-now ∙ ap parts_among (take-append-le (answers past q) (forwarded past q) (new ∷ []) (omega arith))

  parts-now : (parts : List Part) → parts ≡ map (part_of past) (unanswered past q) → parts ≡ map (part_of (e ∷ past)) (drop (length (answered_parts (e ∷ past) q)) (parts_for (e ∷ past) q))
  parts-now parts is =
      is ∙ sym (unanswered-old e past q) ∙ ap (λ l. map (part_of (e ∷ past)) (drop (length (answered_parts past q)) l)) (sym (append-nil (parts_for past q)))
      ∙ ap (λ l. map (part_of (e ∷ past)) (drop (length l) (parts_for past q ++ []))) (sym answered-now)

  -- an AC DVM Message forwards one more
  pub inbox_forwards : (parts : List Part) (count : ℕ) → is_some_and (ac_kind_of snoop) is_message_snoop ≡ true → InboxStands past q parts count → InboxStands (e ∷ past) q parts (count + 1)
  inbox_forwards parts count message s =
      let n = ap length answered-now in
      let was = s.count_is in
      let more_by : length (parts_among (forwarded (e ∷ past) q)) ≡ length (parts_among (forwarded past q)) + 1 =
      ap (λ l. length (parts_among l)) forwarded-now ∙ ap length (among-more (forwarded past q) new) ∙ one_more (parts_among (forwarded past q)) new (kind ∙ message) in
      record { parts_are = parts-now parts s.parts_are; count_is = omega (arith, n, was, more_by) }

  -- there is a part that was not forwarded
  pub part_left : (parts : List Part) (count : ℕ) → is_some_and (ac_kind_of snoop) is_message_snoop ≡ true → InboxStands past q parts count → count < length parts
  part_left parts count message s =
      let low = next-there (next_after past q (forwarded past q)) refl in
      let was = s.count_is in
      let m = length-map (unanswered past q) (part_of past) in
      let d = length-drop (length (answered_parts past q)) (parts_for past q) in
      let long : length parts ≡ length (map (part_of past) (unanswered past q)) = ap length s.parts_are in
      omega (arith, low, was, m, d, long)
    where
      next-there : (o : Option Transaction) → next_after past q (forwarded past q) ≡ o → length (parts_among (forwarded past q)) < length (parts_for past q)
      next-there None is = let bad : false ≡ true = sym (ap (λ v. is_some (forwards v snooped)) is) ∙ kind ∙ message in cc
      next-there (Some x) is = slice_get_within (parts_for past q) (length (parts_among (forwarded past q))) x is

  -- any other AC forwards none
  pub inbox_other_ac : (parts : List Part) (count : ℕ) → is_some_and (ac_kind_of snoop) is_message_snoop ≡ false → InboxStands past q parts count → InboxStands (e ∷ past) q parts count
  inbox_other_ac parts count message s = record {
    parts_are = parts-now parts s.parts_are;
    count_is = ap (λ l. length l + count) answered-now ∙ s.count_is
        ∙ ap length (sym (ap parts_among forwarded-now ∙ among-more (forwarded past q) new ∙ no_more (parts_among (forwarded past q)) new (kind ∙ message)));
  }

-- a CR of the port answers what its snoop forwards
module _ (h : Header) (past : Trace) (q resp : ℕ) (st : LineState) (accepted : IsAccepted h (Cr q resp st ∷ past)) where
  abbrev pub cr : Event
  cr = Cr q resp st

  pub snoop_there : (s : Snoop) × (answered past q ≡ Some s)
  snoop_there = some_is (answered past q) (accepted_keeps h past cr accepted).rule_14

  -- what it answers: a part where its snoop is an AC DVM Message
  pub forwards-part : Forwards past q (answers past q) snoop_there.0
  forwards-part = forwards-at h past q (answers past q) snoop_there.0 accepted.0 snoop_there.1

  pub is-message : (t : Target) → t ≡ target_of h past cr → is_some forwards-part.part ≡ answers_message t
  is-message t own =
      forwards-part.kind ∙ sym (ap (λ o. is_some_and o (λ (v : Snoop). is_some_and (ac_kind_of v.snoop) is_message_snoop)) snoop_there.1)
      ∙ sym (ap answers_message own)

  pub answered-more : (o : Option Transaction) → slice_get (forwarded past q) (answers past q) ≡ Some o → answered_parts (cr ∷ past) q ≡ answered_parts past q ++ option_to_list o
  answered-more o there =
      let low = slice_get_within (forwarded past q) (answers past q) o there in
      ap (λ b. parts_among (take (if b then answers past q + 1 else answers past q) (forwarded past q))) (eq-eqb q q refl)
      ∙ ap parts_among (take_more (forwarded past q) (answers past q) o low)
      ∙ ap (λ v. parts_among (take (answers past q) (forwarded past q) ++ v ∷ [])) (get_or_from_slice_get (forwarded past q) (answers past q) o o there)
      ∙ among-more (take (answers past q) (forwarded past q)) o

  parts-same : map (part_of (cr ∷ past)) (drop (length (answered_parts (cr ∷ past) q)) (parts_for (cr ∷ past) q)) ≡ map (part_of (cr ∷ past)) (drop (length (answered_parts (cr ∷ past) q)) (parts_for past q))
  parts-same = ap (λ l. map (part_of (cr ∷ past)) (drop (length (answered_parts (cr ∷ past) q)) l)) (append-nil (parts_for past q))

  pub inbox_answers : (t : Target) (parts : List Part) (count : ℕ) → t ≡ target_of h past cr → answers_message t ≡ true → InboxStands past q parts count
      → InboxStands (cr ∷ past) q (drop 1 parts) (count - 1)
  inbox_answers t parts count own message s =
      let k = forwards-part in
      let some = is-message t own ∙ message in
      let more_by : length (answered_parts (cr ∷ past) q) ≡ length (answered_parts past q) + 1 = ap length (answered-more k.part k.there) ∙ one_more (answered_parts past q) k.part some in
      let was = s.count_is in
      let inside : length (answered_parts (cr ∷ past) q) ≤ length (parts_among (forwarded past q)) = among-take (forwarded past q) (answers (cr ∷ past) q) in
      record {
        parts_are = ap (drop 1) s.parts_are ∙ drop-map past 1 (unanswered past q)
            ∙ ap (map (part_of past)) (drop-drop 1 (length (answered_parts past q)) (parts_for past q))
            ∙ sym (map-old cr past (drop (length (answered_parts past q) + 1) (parts_for past q)) (All-drop (IsBelow (length past)) (length (answered_parts past q) + 1) (parts_for past q) (parts-placed past q)))
            ∙ ap (λ n. map (part_of (cr ∷ past)) (drop n (parts_for past q))) (sym more_by) ∙ sym parts-same;
        count_is = omega (arith, more_by, was, inside);
      }
    where
      among-take : (xs : List (Option Transaction)) (n : ℕ) → length (parts_among (take n xs)) ≤ length (parts_among xs)
      among-take xs zero = omega arith
      among-take [] (suc n) = omega arith
      among-take (None ∷ xs) (suc n) = among-take xs n
      among-take (Some x ∷ xs) (suc n) = let low = among-take xs n in omega arith

  pub inbox_other_cr : (t : Target) (parts : List Part) (count : ℕ) → t ≡ target_of h past cr → answers_message t ≡ false → InboxStands past q parts count → InboxStands (cr ∷ past) q parts count
  inbox_other_cr t parts count own message s =
      let k = forwards-part in
      let none = is-message t own ∙ message in
      let same : answered_parts (cr ∷ past) q ≡ answered_parts past q = answered-more k.part k.there ∙ no_more (answered_parts past q) k.part none in
      record {
        parts_are = s.parts_are ∙ sym (unanswered-old cr past q) ∙ ap (λ l. map (part_of (cr ∷ past)) (drop (length l) (parts_for past q))) (sym same) ∙ sym parts-same;
        count_is = ap (λ l. length l + count) same ∙ s.count_is;
      }

-- each list of inboxes that has what one port's is known to be, and the others', stands
inboxes_from : (r : Recording) (s n : Inboxes) (e : Event) → InboxesStand r s → length n.ports.items ≡ length s.ports.items
    → ((q : ℕ) (c : Inbox) → slice_get n.ports.items q ≡ Some c → (b : Inbox) × (slice_get s.ports.items q ≡ Some b) × (deque_capacity b.parts ≤ deque_capacity c.parts)
    × (is_ace r.header q ≡ true → InboxStands r.past q b.parts.items b.forwarded → InboxStands (e ∷ r.past) q c.parts.items c.forwarded))
    → ((x : Transaction) → IsTransaction (e ∷ r.past) x → x.id < 256) → InboxesStand (after r e) n
inboxes_from r s n e stands size each ids = record {
  size = size ∙ stands.size;
  room = λ q c at ace. let k = each q c at in let was = stands.room q k.0 k.1 ace in let more_by = k.2 in omega (arith, was, more_by);
  ports = λ q c at ace. let k = each q c at in k.3 ace (stands.ports q k.0 k.1 ace);
  ids = ids;
}

-- the same queue has no less room
same_room : (b c : Inbox) → c.parts ≡ b.parts → deque_capacity b.parts ≤ deque_capacity c.parts
same_room b c same = let n = ap deque_capacity same in omega (arith, n)

-- a port has an inbox before where it has one after
before-there : (xs ys : List Inbox) (q : ℕ) (c : Inbox) → length ys ≡ length xs → slice_get ys q ≡ Some c → (b : Inbox) × (slice_get xs q ≡ Some b)
before-there xs ys q c size at = inbox_at xs q (let low = slice_get_within ys q c at in omega (arith, low, size))

-- the identifiers, where the event issues one below 256, or none
pub ids-new : (r : Recording) (e : Event) → ((x : Transaction) → IsTransaction r.past x → x.id < 256) → ((x : Transaction) → issued (length r.past) e ≡ Some x → x.id < 256)
    → (x : Transaction) → IsTransaction (e ∷ r.past) x → x.id < 256
ids-new r e old new x i =
    elim (slice_get-more (transactions r.past) (issued (length r.past) e) i.0 x i.1) [
      | inl was ↦ old x (i.0, was)
      | inr now ↦ new x now.1
    ]

-- an event that issues a transaction forwards and answers nothing
issue-idle : (past : Trace) (e : Event) (x : Transaction) (q : ℕ) → issued (length past) e ≡ Some x → Idle past e q
issue-idle past (Ar p i addr snoop dom bar lock) x q new = record { same_answers = refl; no_snoop = refl }
issue-idle past (Aw p i addr snoop dom bar) x q new = record { same_answers = refl; no_snoop = refl }
issue-idle past e x q new = cc

-- all inboxes stay as they are
pub inboxes_stay : (r : Recording) (s : Inboxes) (e : Event) → ((x : Transaction) → IsTransaction (e ∷ r.past) x → x.id < 256)
    → ((q : ℕ) (parts : List Part) (count : ℕ) → is_ace r.header q ≡ true → InboxStands r.past q parts count → InboxStands (e ∷ r.past) q parts count) → InboxesStand r s → InboxesStand (after r e) s
inboxes_stay r s e ids each stands = record { size = stands.size; room = stands.room; ports = λ q b at ace. each q b.parts.items b.forwarded ace (stands.ports q b at ace); ids = ids }

-- a part that a port issues
pub inboxes_sent : (r : Recording) (s n : Inboxes) (e : Event) (t : Target) (x : Transaction) (m : PortMessages) → IsAccepted r.header (e ∷ r.past) → t ≡ target_of r.header r.past e
    → begun_in e t ≡ Some x → x.id < 256 → is_message_part x ≡ true → PortMessagesStand r.past x.port m → InboxesStand r s → length n.ports.items ≡ length s.ports.items
    → SendsAll x.port (parts_sent m x) s n → InboxesStand (after r e) n
inboxes_sent r s n e t x m accepted own begun low part kept stands size sends =
    inboxes_from r s n e stands size each ids
  where
    new : issued (length r.past) e ≡ Some x
    new = sym (begun-is r.header r.past e t own) ∙ begun

    ids : (y : Transaction) → IsTransaction (e ∷ r.past) y → y.id < 256
    ids = ids-new r e stands.ids (λ y is. let same : x.id ≡ y.id = ap (λ (z : Transaction). z.id) (Some-injective x y (sym new ∙ is)) in omega (arith, same, low))

    issued-ids : (y : Transaction) → IsIssued (e ∷ r.past) y → y.id < 256
    issued-ids y i = let k = issued-place_in (e ∷ r.past) y i in ids y k

    added : (q : ℕ) → (q ≡ x.port → ⊥) → map (part_of (e ∷ r.past)) (parts_in r.past (issued (length r.past) e) q) ≡ parts_sent m x
    added q off = rw (new, part, ne_eqb x.port q (λ i. off (sym i))) (sent-is e r.past x m new part kept)

    own-none : parts_in r.past (issued (length r.past) e) x.port ≡ []
    own-none = rw (new, part, eq-eqb x.port x.port refl) refl

    step : (q : ℕ) (b c : Inbox) → (is_ace r.header q ≡ true → r.header.ports * 256 ≤ deque_capacity b.parts) → Receives (sent_to q x.port (parts_sent m x)) b c
        → is_ace r.header q ≡ true → InboxStands r.past q b.parts.items b.forwarded → InboxStands (e ∷ r.past) q c.parts.items c.forwarded
    step q b c roomy k ace s = elim (cases_eq q x.port) [
      | inl same ↦
          let items : c.parts.items ≡ b.parts.items = k.items (rw (eq-eqb q x.port same) (grown b)) ∙ rw (eq-eqb q x.port same) (append-nil b.parts.items) in
          let none : parts_in r.past (issued (length r.past) e) q ≡ [] = ap (parts_in r.past (issued (length r.past) e)) same ∙ own-none in
          rw (items, k.count) (inbox_stays r.past e q b.parts.items b.forwarded (issue-idle r.past e x q new) none s)
      | inr off ↦
          let wide = inbox_receives r.past e q b.parts.items (parts_sent m x) b.forwarded (issue-idle r.past e x q new) (added q off) s in
          let few = few-unanswered r.header (e ∷ r.past) q accepted ace issued-ids in
          let long : length (b.parts.items ++ parts_sent m x) ≡ length (unanswered (e ∷ r.past) q) = ap length wide.parts_are ∙ length-map (unanswered (e ∷ r.past) q) (part_of (e ∷ r.past)) in
          let both = length-append b.parts.items (parts_sent m x) in
          let room = roomy ace in
          let items : c.parts.items ≡ b.parts.items ++ parts_sent m x = k.items (rw (ne_eqb q x.port off) (omega (arith, few, long, both, room))) ∙ rw (ne_eqb q x.port off) refl in
          rw (items, k.count) wide
    ]
      where
        grown : (b : Inbox) → length b.parts.items + 0 ≤ deque_capacity b.parts
        grown b = let len = b.parts.ok.0 in let cap = b.parts.small.1 in omega (arith, len, cap)

    each : (q : ℕ) (c : Inbox) → slice_get n.ports.items q ≡ Some c → (b : Inbox) × (slice_get s.ports.items q ≡ Some b) × (deque_capacity b.parts ≤ deque_capacity c.parts)
        × (is_ace r.header q ≡ true → InboxStands r.past q b.parts.items b.forwarded → InboxStands (e ∷ r.past) q c.parts.items c.forwarded)
    each q c at =
        let b = before-there s.ports.items n.ports.items q c size at in
        let k = sends q b.0 b.1 in
        let one : k.0 ≡ c = Some-injective k.0 c (sym k.1 ∙ at) in
        let receives : Receives (sent_to q x.port (parts_sent m x)) b.0 c = subst (Receives (sent_to q x.port (parts_sent m x)) b.0) one k.2 in
        let kept_room = receives.room in
        (b.0, b.1, omega (arith, kept_room), step q b.0 c (stands.room q b.0 b.1) receives)

-- a transaction that is no part
pub inboxes_other_issue : (r : Recording) (s : Inboxes) (e : Event) (t : Target) (x : Transaction) → t ≡ target_of r.header r.past e
    → begun_in e t ≡ Some x → x.id < 256 → is_message_part x ≡ false → InboxesStand r s → InboxesStand (after r e) s
inboxes_other_issue r s e t x own begun low plain stands =
    let new : issued (length r.past) e ≡ Some x = sym (begun-is r.header r.past e t own) ∙ begun in
    inboxes_stay r s e (ids-new r e stands.ids (λ y is. let same : x.id ≡ y.id = ap (λ (z : Transaction). z.id) (Some-injective x y (sym new ∙ is)) in omega (arith, same, low)))
    (λ q parts count ace. inbox_stays r.past e q parts count (issue-idle r.past e x q new) (rw (new, plain) refl)) stands

-- the inboxes after an event that issues nothing, and is nothing to other ports than this one
inboxes_one : (r : Recording) (s n : Inboxes) (e : Event) (p : ℕ) → InboxesStand r s → issued (length r.past) e ≡ None → ((q : ℕ) → (q ≡ p → ⊥) → Idle r.past e q)
    → length n.ports.items ≡ length s.ports.items → ((q : ℕ) → (q ≡ p → ⊥) → slice_get n.ports.items q ≡ slice_get s.ports.items q)
    → ((b : Inbox) → slice_get s.ports.items p ≡ Some b → (c : Inbox) × (slice_get n.ports.items p ≡ Some c) × (deque_capacity b.parts ≤ deque_capacity c.parts)
    × (InboxStands r.past p b.parts.items b.forwarded → InboxStands (e ∷ r.past) p c.parts.items c.forwarded)) → InboxesStand (after r e) n
inboxes_one r s n e p stands none idle size others one = inboxes_from r s n e stands size each (ids-new r e stands.ids (λ x is. let bad : None ≡ Some x = sym none ∙ is in cc))
  where
    each : (q : ℕ) (c : Inbox) → slice_get n.ports.items q ≡ Some c → (b : Inbox) × (slice_get s.ports.items q ≡ Some b) × (deque_capacity b.parts ≤ deque_capacity c.parts)
        × (is_ace r.header q ≡ true → InboxStands r.past q b.parts.items b.forwarded → InboxStands (e ∷ r.past) q c.parts.items c.forwarded)
    each q c at =
        let b = before-there s.ports.items n.ports.items q c size at in
        elim (cases_eq q p) [
          | inl same ↦
              let k = one b.0 (ap (slice_get s.ports.items) (sym same) ∙ b.1) in
              let is : k.0 ≡ c = Some-injective k.0 c (sym k.1 ∙ ap (slice_get n.ports.items) (sym same) ∙ at) in (
                b.0,
                b.1,
                subst (λ (v : Inbox). deque_capacity b.0.parts ≤ deque_capacity v.parts) is k.2,
                λ ace st. subst (λ m. InboxStands (e ∷ r.past) m c.parts.items c.forwarded) (sym same)
                    (subst (λ (v : Inbox). InboxStands (e ∷ r.past) p v.parts.items v.forwarded) is (k.3 (subst (λ m. InboxStands r.past m b.0.parts.items b.0.forwarded) same st))),
              )
          | inr off ↦
              let is : b.0 ≡ c = Some-injective b.0 c (sym b.1 ∙ sym (others q off) ∙ at) in (
                b.0,
                b.1,
                same_room b.0 c (ap (λ (v : Inbox). v.parts) (sym is)),
                λ ace st. subst (λ (v : Inbox). InboxStands (e ∷ r.past) q v.parts.items v.forwarded) is
                    (inbox_stays r.past e q b.0.parts.items b.0.forwarded (idle q off) (ap (λ o. parts_in r.past o q) none) st),
              )
        ]

ac-idle : (past : Trace) (p addr snoop q : ℕ) → (q ≡ p → ⊥) → Idle past (Ac p addr snoop) q
ac-idle past p addr snoop q off = record { same_answers = refl; no_snoop = rw (ne_eqb q p off) refl }

cr-idle : (past : Trace) (p resp : ℕ) (st : LineState) (q : ℕ) → (q ≡ p → ⊥) → Idle past (Cr p resp st) q
cr-idle past p resp st q off = record { same_answers = rw (ne_eqb q p off) refl; no_snoop = refl }

pub inboxes_forward : (r : Recording) (s n : Inboxes) (p addr snoop : ℕ) → IsAccepted r.header (Ac p addr snoop ∷ r.past) → is_some_and (ac_kind_of snoop) is_message_snoop ≡ true
    → InboxesStand r s → ForwardsTo p s n → InboxesStand (after r (Ac p addr snoop)) n
inboxes_forward r s n p addr snoop accepted message stands f =
    inboxes_one r s n (Ac p addr snoop) p stands refl (ac-idle r.past p addr snoop) f.size f.others (λ b at.
    let k = f.one b at in (
      k.0,
      k.1,
      same_room b k.0 k.2.parts,
      λ st. rw (ap (λ v. v.items) k.2.parts, k.2.count (part_left r.header r.past p addr snoop accepted b.parts.items b.forwarded message st))
          (inbox_forwards r.header r.past p addr snoop accepted b.parts.items b.forwarded message st),
    ))

pub inboxes_other_ac : (r : Recording) (s : Inboxes) (p addr snoop : ℕ) → IsAccepted r.header (Ac p addr snoop ∷ r.past) → is_some_and (ac_kind_of snoop) is_message_snoop ≡ false
    → InboxesStand r s → InboxesStand (after r (Ac p addr snoop)) s
inboxes_other_ac r s p addr snoop accepted message stands =
    inboxes_one r s s (Ac p addr snoop) p stands refl (ac-idle r.past p addr snoop) refl (λ q off. refl)
    (λ b at. (b, at, omega arith, inbox_other_ac r.header r.past p addr snoop accepted b.parts.items b.forwarded message))

pub inboxes_answer : (r : Recording) (s n : Inboxes) (p resp : ℕ) (st : LineState) (t : Target) → IsAccepted r.header (Cr p resp st ∷ r.past) → t ≡ target_of r.header r.past (Cr p resp st)
    → answers_message t ≡ true → InboxesStand r s → AnswersFirst p s n → InboxesStand (after r (Cr p resp st)) n
inboxes_answer r s n p resp st t accepted own message stands f =
    inboxes_one r s n (Cr p resp st) p stands refl (cr-idle r.past p resp st) f.size f.others (λ b at.
    let k = f.one b at in
    let room = k.2.room in
    (k.0, k.1, omega (arith, room), λ z. rw (k.2.parts, k.2.count) (inbox_answers r.header r.past p resp st accepted t b.parts.items b.forwarded own message z)))

pub inboxes_other_cr : (r : Recording) (s : Inboxes) (p resp : ℕ) (st : LineState) (t : Target) → IsAccepted r.header (Cr p resp st ∷ r.past) → t ≡ target_of r.header r.past (Cr p resp st)
    → answers_message t ≡ false → InboxesStand r s → InboxesStand (after r (Cr p resp st)) s
inboxes_other_cr r s p resp st t accepted own message stands =
    inboxes_one r s s (Cr p resp st) p stands refl (cr-idle r.past p resp st) refl (λ q off. refl)
    (λ b at. (b, at, omega arith, inbox_other_cr r.header r.past p resp st accepted t b.parts.items b.forwarded own message))
