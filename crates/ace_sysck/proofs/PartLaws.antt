-- The parts of messages for a port: no two are the same, and the snoops that forward them are the AC DVM Messages.
use Rattle.std.proofs.Common.{◌≡◌, ◌≢◌, ◌⊎◌, ℕ, ◌+◌, ◌≤◌, true, false, not, ◌&&◌, ◌||◌, nat_eq, List, [], ◌∷◌, ◌++◌, length, slice_get, Option, Some, None, is_some, refl, sym, ap, subst, ◌∙◌, arith, inl, inr, append_assoc, length-append}
use Rattle.ace_sysck.proofs.Terms.{All, SnoopKind, Snoop, Transaction, Header, Event, Ac, Trace, implies, is_some_and, is_none_or, more, issued, is_message_part, has_second, part_in, waits_after, first_waiting, parts_with, parts_in, parts_for, forwarded, forwards, next_after, add_forwarded, snoops_of, snoop_at, ac_kind_of, is_message_snoop, IsAccepted, is_second_part, forwards_next}
use Rattle.std.proofs.lemmas.Bool.{cases_Bool, and_parts, eqb-true, eq-eqb}
use Rattle.std.proofs.lemmas.List.{append-nil}
use Rattle.std.proofs.lemmas.List.Elements.{All-nil, All-cons, All-append, All-weaker, All-push}
use Rattle.std.proofs.lemmas.List.Quantifiers.{all_pairs_push}
use Rattle.ace_model.proofs.Rules.Keeps.{accepted_keeps}
use Rattle.ace_model.proofs.Dvm.Parts.{IsBelow, parts-placed}
use Rattle.ace_model.proofs.Trace.Growth.{IsIssued, issued-new, issued-old, at_point-before}
use Rattle.ace_model.proofs.Trace.Places.{at_point-last}
use Rattle.ace_model.proofs.Trace.Issued.{issued_at, issued-place}
use Rattle.ace_model.proofs.General.Options.{Some-injective, some_if-is, some_where-is}
use Rattle.ace_model.proofs.General.Lists.{slice_get-more, slice_get-at_end, slice_get-append}
use Rattle.ace_model.proofs.General.Pigeonhole.{AreApart}

-- A first part that waits was issued by its port, as a first part.
pub record Waits (past : Trace) (p : ℕ) (f : Transaction) : Type 0 where
  pub there : IsIssued past f
  pub port : f.port ≡ p
  pub part : is_message_part f ≡ true
  pub first : is_second_part past f ≡ false

pub waits-old : (e : Event) (past : Trace) (p : ℕ) (f : Transaction) → Waits past p f → Waits (e ∷ past) p f
waits-old e past p f w = record {
  there = issued-old e past f w.there;
  port = w.port;
  part = w.part;
  first = let low = w.there.before in rw (at_point-before e past f.place (omega arith)) w.first;
}

-- What an event issues that waits for its second from then on.
pub record NewlyWaits (past : Trace) (e : Event) (p : ℕ) (f : Transaction) : Type 0 where
  pub was : first_waiting past p ≡ None
  pub new : issued (length past) e ≡ Some f
  pub part : is_message_part f ≡ true
  pub port : f.port ≡ p
  pub second : has_second f.addr ≡ true

-- a first part that waits after an event did before it, and its port issues no part, or it is what the event issues
pub waits-cases : (past : Trace) (e : Event) (p : ℕ) (f : Transaction) → first_waiting (e ∷ past) p ≡ Some f
    → ((first_waiting past p ≡ Some f) × (part_in (issued (length past) e) p ≡ None)) ⊎ NewlyWaits past e p f
waits-cases past e p f w = go (first_waiting past p) refl (part_in (issued (length past) e) p) refl w
  where
    part-is : (o : Option Transaction) (x : Transaction) → part_in o p ≡ Some x → (o ≡ Some x) × (is_message_part x ≡ true) × (x.port ≡ p)
    part-is None x e = cc
    part-is (Some y) x e =
        let s = some_where-is (λ z. is_message_part z && nat_eq z.port p) y x e in
        let parts = and_parts (is_message_part x) (nat_eq x.port p) s.1 in
        (ap Some s.0, parts.0, eqb-true x.port p parts.1)

    go : (o : Option Transaction) → first_waiting past p ≡ o → (n : Option Transaction) → part_in (issued (length past) e) p ≡ n → waits_after o n ≡ Some f
        → ((first_waiting past p ≡ Some f) × (part_in (issued (length past) e) p ≡ None)) ⊎ NewlyWaits past e p f
    go o was None none w = inl (was ∙ w, none)
    go (Some g) was (Some x) new w = cc
    go None was (Some x) new w =
        let s = some_where-is (λ z. has_second z.addr) x f w in
        let k = part-is (issued (length past) e) x new in
        inr (subst (NewlyWaits past e p) s.0 (record { was = was; new = k.0; part = k.1; port = k.2; second = ap (λ (z : Transaction). has_second z.addr) s.0 ∙ s.1 }))

pub waits-is : (past : Trace) (p : ℕ) (f : Transaction) → first_waiting past p ≡ Some f → Waits past p f
waits-is [] p f w = cc
waits-is (e ∷ past) p f w = elim (waits-cases past e p f w) [
  | inl old ↦ waits-old e past p f (waits-is past p f old.0)
  | inr k ↦ record {
    there = issued-new e past f k.new;
    port = k.port;
    part = k.part;
    first = rw (at_point-last e past f.place (issued-place (length past) e f k.new), k.port, k.was) refl;
  }
]

-- it is another one than each that was issued by another port
other_waiting : (past : Trace) (p q : ℕ) (f g : Transaction) → Waits past p f → Waits past q g → p ≢ q → f.place ≢ g.place
other_waiting past p q f g wf wg apart same =
    let one : f ≡ g = Some-injective f g (sym wf.there.there ∙ ap (issued_at past) same ∙ wg.there.there) in
    apart (sym wf.port ∙ ap (λ (z : Transaction). z.port) one ∙ wg.port)

-- the transactions of a list are others than this one
abbrev pub AreOthers : Transaction → List Transaction → Type 0
AreOthers f xs = All (λ z. z.place ≢ f.place) xs

others-below : (xs : List Transaction) (f : Transaction) (n : ℕ) → All (IsBelow n) xs → n ≤ f.place → AreOthers f xs
others-below xs f n below low = All-weaker (IsBelow n) (λ z. z.place ≢ f.place) (λ z b same. absurd (omega (arith, b, low, same))) xs below

-- what a message has, where none is a transaction that is another than its parts
with-others : (f : Transaction) (waiting : Option Transaction) (x : Transaction) → ((g : Transaction) → waiting ≡ Some g → g.place ≢ f.place) → x.place ≢ f.place → AreOthers f (parts_with waiting x)
with-others f (Some g) x first here = All-cons (λ z. z.place ≢ f.place) g (x ∷ []) (first g refl) (All-cons (λ z. z.place ≢ f.place) x [] here (All-nil (λ z. z.place ≢ f.place)))
with-others f None x first here =
    elim (cases_Bool (has_second x.addr)) [
      | inl t ↦ rw t (All-nil (λ z. z.place ≢ f.place))
      | inr n ↦ rw n (All-cons (λ z. z.place ≢ f.place) x [] here (All-nil (λ z. z.place ≢ f.place)))
    ]

-- a first part that waits is none of the parts for a port
pub waiting-apart : (past : Trace) (p q : ℕ) (f : Transaction) → first_waiting past p ≡ Some f → AreOthers f (parts_for past q)
waiting-apart [] p q f w = cc
waiting-apart (e ∷ past) p q f w = elim (waits-cases past e p f w) [
  | inl k ↦ old (waiting-apart past p q f) (issued (length past) e) refl k.1 k.0
  | inr k ↦
      let at = issued-place (length past) e f k.new in
      All-append (λ z. z.place ≢ f.place) (parts_for past q) (parts_in past (issued (length past) e) q)
      (others-below (parts_for past q) f (length past) (parts-placed past q) (omega (arith, at)))
      (subst (λ n. AreOthers f (parts_in past n q)) (sym k.new) (elim (cases_Bool (is_message_part f && not (nat_eq f.port q))) [
        | inl y ↦ rw (y, k.port, k.was, k.second) (All-nil (λ z. z.place ≢ f.place))
        | inr n ↦ rw n (All-nil (λ z. z.place ≢ f.place))
      ]))
]
  where
    old : (first_waiting past p ≡ Some f → AreOthers f (parts_for past q)) → (n : Option Transaction) → issued (length past) e ≡ n → part_in n p ≡ None
        → first_waiting past p ≡ Some f → AreOthers f (parts_for past q ++ parts_in past n q)
    old before None new none was = subst (AreOthers f) (sym (append-nil (parts_for past q))) (before was)
    old before (Some x) new none was =
        All-append (λ z. z.place ≢ f.place) (parts_for past q) (parts_in past (Some x) q) (before was)
        (elim (cases_Bool (is_message_part x && not (nat_eq x.port q))) [
          | inl t ↦
              let part = (and_parts (is_message_part x) (not (nat_eq x.port q)) t).0 in
              let wf = waits-is past p f was in
              let at = issued-place (length past) e x new in
              let apart : x.port ≢ p = λ same. let bad : Some x ≡ None = sym (rw (part, eq-eqb x.port p same) refl) ∙ none in cc in
              rw t (with-others f (first_waiting past x.port) x (λ g is. other_waiting past x.port p g f (waits-is past x.port g is) wf apart)
              (λ same. let low = wf.there.before in absurd (omega (arith, same, at, low))))
          | inr n ↦ rw n (All-nil (λ z. z.place ≢ f.place))
        ])

-- no two of the parts for a port are the same
pub parts-apart : (past : Trace) (q : ℕ) → AreApart (λ x. x.place) (parts_for past q)
parts-apart [] q = λ i j d low within. absurd (omega arith)
parts-apart (e ∷ past) q = go (parts-apart past q) (issued (length past) e) refl
  where
    xs : List Transaction
    xs = parts_for past q

    go : AreApart (λ (x : Transaction). x.place) xs → (n : Option Transaction) → issued (length past) e ≡ n → AreApart (λ x. x.place) (parts_for past q ++ parts_in past n q)
    go before None new = subst (AreApart (λ (x : Transaction). x.place)) (sym (append-nil xs)) before
    go before (Some x) new = elim (cases_Bool (is_message_part x && not (nat_eq x.port q))) [
      | inl t ↦ rw t (message (first_waiting past x.port) refl)
      | inr n ↦ rw n (subst (AreApart (λ (x : Transaction). x.place)) (sym (append-nil xs)) before)
    ]
      where
        at : x.place ≡ length past
        at = issued-place (length past) e x new

        message : (o : Option Transaction) → first_waiting past x.port ≡ o → AreApart (λ (x : Transaction). x.place) (parts_for past q ++ parts_with o x)
        message None was = elim (cases_Bool (has_second x.addr)) [
          | inl t ↦ rw t (subst (AreApart (λ (x : Transaction). x.place)) (sym (append-nil xs)) before)
          | inr n ↦ rw n (all_pairs_push (λ x z. x.place ≢ z.place) xs x before (others-below xs x (length past) (parts-placed past q) (omega (arith, at))))
        ]
        message (Some g) was =
            let w = waits-is past x.port g was in
            let low = w.there.before in
            let both : AreApart (λ (x : Transaction). x.place) (xs ++ g ∷ []) = all_pairs_push (λ x z. x.place ≢ z.place) xs g before (waiting-apart past x.port q g was) in
            let below : All (IsBelow (length past)) (xs ++ g ∷ []) = All-push (IsBelow (length past)) xs g (parts-placed past q) low in
            subst (AreApart (λ (x : Transaction). x.place)) (append_assoc xs (g ∷ []) (x ∷ []))
            (all_pairs_push (λ x z. x.place ≢ z.place) (xs ++ g ∷ []) x both (others-below (xs ++ g ∷ []) x (length past) below (omega (arith, at))))

-- What the snoop at a number forwards, if anything: it forwards a part exactly if it is an AC DVM Message.
pub record Forwards (past : Trace) (q k : ℕ) (s : Snoop) : Type 0 where
  pub part : Option Transaction
  pub there : slice_get (forwarded past q) k ≡ Some part
  pub kind : is_some part ≡ is_some_and (ac_kind_of s.snoop) is_message_snoop

pub forwarded-length : (past : Trace) (q : ℕ) → length (forwarded past q) ≡ length (snoops_of past q)
forwarded-length [] q = refl
forwarded-length (e ∷ past) q = go (forwarded-length past q) (snoop_at (length past) e q)
  where
    go : length (forwarded past q) ≡ length (snoops_of past q) → (o : Option Snoop) → length (add_forwarded past q (forwarded past q) o) ≡ length (more (snoops_of past q) o)
    go same None = same
    go same (Some s) =
        length-append (forwarded past q) (forwards (next_after past q (forwarded past q)) s ∷ []) ∙ ap (λ n. n + 1) same
        ∙ sym (length-append (snoops_of past q) (s ∷ []))

-- an accepted AC to the port
pub forwards-kind : (h : Header) (past : Trace) (e : Event) (q : ℕ) (s : Snoop) → IsAccepted h (e ∷ past) → snoop_at (length past) e q ≡ Some s
    → is_some (forwards (next_after past q (forwarded past q)) s) ≡ is_some_and (ac_kind_of s.snoop) is_message_snoop
forwards-kind h past (Ac p addr snoop) q s accepted is = by (cases_Bool (is_some_and (ac_kind_of s.snoop) is_message_snoop))
  where
    here : (nat_eq q p ≡ true) × (record { place = length past; addr = addr; snoop = snoop } ≡ s)
    here = some_if-is (nat_eq q p) _ s is

    rule : is_none_or (ac_kind_of s.snoop) (forwards_next past q s.addr) ≡ true
    rule = subst (λ (z : Snoop). is_none_or (ac_kind_of z.snoop) (forwards_next past q z.addr) ≡ true) here.1
        (subst (λ n. is_none_or (ac_kind_of snoop) (forwards_next past n addr) ≡ true) (sym (eqb-true q p here.0)) (accepted_keeps h past (Ac p addr snoop) accepted).rule_36)

    found : (o : Option SnoopKind) (next : Option Transaction) → is_some_and o is_message_snoop ≡ true
        → is_none_or o (λ k. implies (is_message_snoop k || is_some_and next (is_second_part past)) (is_message_snoop k && is_some_and next (λ x. nat_eq x.addr s.addr))) ≡ true
        → is_some_and next (λ x. nat_eq x.addr s.addr) ≡ true
    found None next m r = cc
    found (Some k) next m r = (and_parts true _ (rw m at r)).1

    forwards-some : (next : Option Transaction) → is_some_and (ac_kind_of s.snoop) is_message_snoop ≡ true → is_some_and next (λ x. nat_eq x.addr s.addr) ≡ true → is_some (forwards next s) ≡ true
    forwards-some None m a = cc
    forwards-some (Some x) m a = rw (m, a) refl

    forwards-none : (next : Option Transaction) → is_some_and (ac_kind_of s.snoop) is_message_snoop ≡ false → is_some (forwards next s) ≡ false
    forwards-none None m = refl
    forwards-none (Some x) m = rw m refl

    by : (is_some_and (ac_kind_of s.snoop) is_message_snoop ≡ true) ⊎ (is_some_and (ac_kind_of s.snoop) is_message_snoop ≡ false)
        → is_some (forwards (next_after past q (forwarded past q)) s) ≡ is_some_and (ac_kind_of s.snoop) is_message_snoop
    by (inl t) = forwards-some (next_after past q (forwarded past q)) t (found (ac_kind_of s.snoop) (next_after past q (forwarded past q)) t rule) ∙ sym t
    by (inr f) = forwards-none (next_after past q (forwarded past q)) f ∙ sym f
forwards-kind h past e q s accepted is = cc

pub forwards-at : (h : Header) (past : Trace) (q k : ℕ) (s : Snoop) → IsAccepted h past → slice_get (snoops_of past q) k ≡ Some s → Forwards past q k s
forwards-at h [] q k s accepted at = cc
forwards-at h (e ∷ past) q k s accepted at =
    elim (slice_get-more (snoops_of past q) (snoop_at (length past) e q) k s at) [
      | inl old ↦
          let f = forwards-at h past q k s accepted.0 old in
          record { part = f.part; there = kept f (snoop_at (length past) e q); kind = f.kind }
      | inr new ↦
          let next = forwards (next_after past q (forwarded past q)) s in
          let count = forwarded-length past q in
          record {
            part = next;
            there = ap (λ o. slice_get (add_forwarded past q (forwarded past q) o) k) new.1 ∙ slice_get-at_end (forwarded past q) k next (new.0 ∙ sym count);
            kind = forwards-kind h past e q s accepted new.1;
          }
    ]
  where
    kept : (f : Forwards past q k s) (o : Option Snoop) → slice_get (add_forwarded past q (forwarded past q) o) k ≡ Some f.part
    kept f None = f.there
    kept f (Some z) = slice_get-append (forwarded past q) (forwards (next_after past q (forwarded past q)) z ∷ []) k f.part f.there
