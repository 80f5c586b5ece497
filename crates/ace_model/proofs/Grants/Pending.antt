-- A line snoop that isn't answered yet is of the present grant, whose transaction hasn't begun, and its port has no other.
use Rattle.std.proofs.Common.{le_refl, ◌≡◌, ◌⊎◌, ℕ, ◌+◌, ◌≤◌, true, false, not, ◌&&◌, ◌||◌, nat_eq, nat_le, nat_lt, [], ◌∷◌, length, Option, Some, None, is_none, slice_get, refl, sym, ap, subst, ◌∙◌, arith, inl, inr}
use Rattle.std.proofs.lemmas.Bool.{false_from_ne_true, or_parts, and_parts, and_from, or_left, or_right, not-true, cases_Bool, eqb-true, eq-eqb, ltb-true, ne_eqb}
use Rattle.ace_model.proofs.Terms.{AwKind, SnoopKind, Read, Write, Event, R, Rk, B, Wk, Ac, Cr, Header, snoop_of_write, Snoop, Transaction, Trace, is_some_and, newer, is_update}
use Rattle.ace_model.proofs.Terms.{has_write_data, is_read, is_line, read_kind, write_kind, snoop_of, snoop_kind_of, ended, transfers, updates_memory}
use Rattle.ace_model.proofs.Terms.{has_memory_write, snoop_at, snoops_of, snoops_a_line, answers, answered, is_snoop_on, gives_line, granted, grant_place, is_begun, is_snoop_to, was_snooped}
use Rattle.ace_model.proofs.Terms.{answers_grant, answer_at, answer_of, owes_answer, owes_data, has_failed, is_port_done, has_snoop_code, may_snoop, may_snoop_for, IsAccepted}
use Rattle.ace_model.proofs.Tables.Kinds.{granted_apart, granted_data, snooping_granted}
use Rattle.ace_model.proofs.Trace.Looks.{snoops_done-ports, has_name-is, is_on-addr}
use Rattle.ace_model.proofs.Grants.Begins.{MayBegin, begins, may_of, line_due}
use Rattle.ace_model.proofs.Holders.Acknowledge.{ends}
use Rattle.ace_model.proofs.Trace.Issued.{same_place, outstanding-named, transaction_of-stands}
use Rattle.ace_model.proofs.General.Lists.{slice_get-more}
use Rattle.ace_model.proofs.Trace.Growth.{answers-grow}
use Rattle.ace_model.proofs.Rules.Keeps.{accepted_keeps}
use Rattle.ace_model.proofs.Trace.Outstanding.{ends_lite}
use Rattle.ace_model.proofs.Holders.Rises.{ends_of}
use Rattle.ace_model.proofs.Trace.WriteQueue.{EndsWrite, ends_write_of, ends_lite_written}
use Rattle.ace_model.proofs.Grants.Stays.{granted_after, failed_stays, grant_place-low}
use Rattle.ace_model.proofs.Holders.Law.{accepted_holds}
use Rattle.ace_model.proofs.General.Options.{Some-injective, is_some_and-is}
use Rattle.ace_model.proofs.General.Booleans.{implies-at, then_of}
use Rattle.ace_model.proofs.General.Ports.{each_at}
use Rattle.ace_model.proofs.Trace.Transfers.{full_some}

-- An unanswered snoop of the line.
pub record IsPending (past : Trace) (r n l : ℕ) (s : Snoop) : Type 0 where
  pub late : answers past r ≤ n
  pub there : slice_get (snoops_of past r) n ≡ Some s
  pub on : is_snoop_on s l ≡ true

pub record Pending (h : Header) (past : Trace) (r l : ℕ) (s : Snoop) : Type 0 where
  pub one : Transaction
  pub stands : granted h past l ≡ Some one
  pub under : grant_place past l ≤ s.place
  pub unfailed : has_failed past one ≡ false
  pub unbegun : is_begun past one ≡ false
  pub snooped : was_snooped past r l ≡ true
  pub unanswered : answer_of past r l ≡ None
  pub within : nat_lt r h.ports ≡ true
  pub other : nat_eq one.port r ≡ false

pub record SnoopsStand (h : Header) (past : Trace) : Type 0 where
  pub pending : (r n l : ℕ) (s : Snoop) → IsPending past r n l s → Pending h past r l s
  pub once : (r m n l : ℕ) (s t : Snoop) → IsPending past r m l s → IsPending past r n l t → m ≡ n
  pub first : (r l : ℕ) → was_snooped past r l ≡ false → answer_of past r l ≡ None

-- the snoop that a write causes is that of its kind
write_causes : (x : Transaction) (s : SnoopKind) → is_read x.chan ≡ false → snoop_of x ≡ Some s → (k : AwKind) × (write_kind x ≡ Some k) × (snoop_of_write k ≡ Some s)
write_causes x s f e =
    let none : read_kind x ≡ None = rw f refl in
    by (write_kind x) refl (subst (λ o. snoop_kind_of o (write_kind x) ≡ Some s) none e)
  where
    by : (o : Option AwKind) → write_kind x ≡ o → snoop_kind_of None o ≡ Some s → (k : AwKind) × (write_kind x ≡ Some k) × (snoop_of_write k ≡ Some s)
    by None is c = cc
    by (Some k) is c = (k, is, c)

-- an update is a write
updates_write : (x : Transaction) → updates_memory x ≡ true → is_read x.chan ≡ false
updates_write x u =
    false_from_ne_true (is_read x.chan) (λ t. let bad : false ≡ true = rw t at u in cc)

module _ (h : Header) (past : Trace) where
  written_begun : IsAccepted h past → (l q : ℕ) (x z : Transaction) (k : SnoopKind) → granted h past l ≡ Some x → snoop_of x ≡ Some k
      → z.place ≡ x.place → EndsWrite h past q z → (is_begun past x ≡ true) ⊎ MayBegin h past x
  written_begun a l q x z k g c same w =
      let o = (accepted_holds h past a).grants l x g in
      let one : z ≡ x = same_place past q x.port Write x.chan w.id x.id z x (outstanding-named h past q Write w.id z w.out) (outstanding-named h past x.port x.chan x.id x o.0) same in
      let writes : is_read x.chan ≡ false = ap (λ (y : Transaction). is_read y.chan) (sym one) ∙ ap is_read w.chan in
      let kind = write_causes x k writes c in
      let sends : is_some_and (write_kind z) has_write_data ≡ true = ap (λ (y : Transaction). is_some_and (write_kind y) has_write_data) one ∙ ap (λ o. is_some_and o has_write_data) kind.1 ∙ granted_data kind.0 (snooping_granted kind.0 k kind.2) in
      let written : has_memory_write past x.port x.chan x.id ≡ true = ap (λ (y : Transaction). has_memory_write past y.port y.chan y.id) (sym one) ∙ w.written sends in
      inl (rw writes written)

  -- what ends has begun, or may begin
  pub ends_begun : (e : Event) → IsAccepted h (e ∷ past) → (l : ℕ) (x z : Transaction) (k : SnoopKind) → granted h past l ≡ Some x → snoop_of x ≡ Some k
      → ended h past e ≡ Some z → z.place ≡ x.place → (is_begun past x ≡ true) ⊎ MayBegin h past x
  ends_begun (R q j resp last word) a l x z k g c is same =
      let f = accepted_holds h past a.0 in
      let m = may_of h past q j resp last word a in
      let o = f.grants l x g in
      let lite = ends_lite h past q j resp last word z is in
      let one : z ≡ x = same_place past q x.port Read x.chan j x.id z x lite.1 (outstanding-named h past x.port x.chan x.id x o.0) same in
      let one' : m.one ≡ x = Some-injective m.one z (sym m.named ∙ lite.1) ∙ one in
      let t = line_due h past q j resp last word a x (m.out ∙ ap Some one') (and_parts (is_line x) _ o.1).0 in
      let name = has_name-is m.one q Read j (transaction_of-stands past q Read j m.one m.named).named in
      let reads : is_read x.chan ≡ true = ap (λ (y : Transaction). is_read y.chan) (sym one') ∙ ap is_read name.chan in
      elim (cases_Bool (nat_eq (transfers past x.port x.id) 0)) [
        | inl zero ↦ inr (inl (t.first zero))
        | inr some ↦ inl (then_of (is_read x.chan) _ _ reads ∙ ap not some)
      ]
  ends_begun (Rk q st) a l x z k g c is same =
      let f = accepted_holds h past a.0 in
      let e = ends_of h past q st a in
      let o = f.grants l x g in
      let zd : e.ended_one ≡ z = Some-injective e.ended_one z (sym e.is ∙ is) in
      let one : e.ended_one ≡ x = same_place past q x.port Read x.chan e.id x.id e.ended_one x e.named (outstanding-named h past x.port x.chan x.id x o.0) (ap (λ (y : Transaction). y.place) zd ∙ same) in
      let some : nat_eq (transfers past q e.id) 0 ≡ false = ne_eqb (transfers past q e.id) 0 (full_some past q e.id e.ended_one e.full) in
      let name = has_name-is e.ended_one q Read e.id (transaction_of-stands past q Read e.id e.ended_one e.named).named in
      let reads : is_read x.chan ≡ true = ap (λ (y : Transaction). is_read y.chan) (sym one) ∙ ap is_read name.chan in
      let here : transfers past x.port x.id ≡ transfers past q e.id =
      ap (λ (y : Transaction). transfers past y.port y.id) (sym one) ∙ ap (λ b. transfers past b e.ended_one.id) e.port ∙ ap (transfers past q) e.is_id in
      inl (then_of (is_read x.chan) _ _ reads ∙ ap (λ n. not (nat_eq n 0)) here ∙ ap not some)
  ends_begun (B q j resp) a l x z k g c is same = written_begun a.0 l q x z k g c same (ends_lite_written h past q j resp a z is)
  ends_begun (Wk q st) a l x z k g c is same = written_begun a.0 l q x z k g c same (ends_write_of h past q st a z is)
  ends_begun e a l x z k g c is same = cc

  module _ (r n l : ℕ) (s : Snoop) (i : IsPending past r n l s) (p : Pending h past r l s) where
    -- the granted transaction causes a snoop
    causes_some : IsAccepted h past → (k : SnoopKind) × (snoop_of p.one ≡ Some k)
    causes_some a =
        let code = (accepted_holds h past a).snoops r n l s p.one i.there i.on p.under p.stands in
        let k = is_some_and-is (snoop_of p.one) _ code in
        (k.0, k.1)

    -- with the snoop pending, it can't begin
    undone : IsAccepted h past → MayBegin h past p.one → ⊥
    undone a may =
        let c = causes_some a in
        elim may [
          | inr updates ↦
              let k = write_causes p.one c.0 (updates_write p.one updates) c.1 in
              let u : is_update k.0 ≡ true = subst (λ o. is_some_and o is_update ≡ true) k.1 updates in
              let none = granted_apart k.0 (snooping_granted k.0 c.0 k.2) in cc
          | inl done ↦
              let here = each_at h.ports (is_port_done h past p.one) r (snoops_done-ports h past p.one c.0 c.1 p.unfailed done) (ltb-true r h.ports p.within) in
              let parts = and_parts (not (owes_answer past r p.one.addr) && not (owes_data past r p.one.addr)) _ here in
              let owes_none = not-true (owes_answer past r p.one.addr) (and_parts (not (owes_answer past r p.one.addr)) _ parts.0).0 in
              let addr = is_on-addr p.one l ((accepted_holds h past a).grants l p.one p.stands).1 in
              let owes : owes_answer past r l ≡ true = and_from _ _ p.snooped (ap is_none p.unanswered) in
              let owes_there : owes_answer past r l ≡ false = subst (λ b. owes_answer past r b ≡ false) addr owes_none in
              cc
        ]

    -- the snoop stays pending as long as it isn't answered
    pending_stays : (e : Event) → IsAccepted h (e ∷ past) → answer_at past e r l ≡ None → Pending h (e ∷ past) r l s
    pending_stays e a none_now =
        elim (granted_after h past e a l p.one p.stands) [
          | inr ends ↦
              let c = causes_some a.0 in
              elim (ends_begun e a l p.one ends.0 c.0 p.stands c.1 ends.1 ends.2) [
                | inl begun ↦ let unbegun = p.unbegun in cc
                | inr may ↦ absurd (undone a.0 may)
              ]
          | inl stays ↦ elim (begins h past e a l p.one stays p.unbegun) [
            | inr may ↦ absurd (undone a.0 may)
            | inl unbegun ↦ record {
              one = p.one;
              stands = stays.is;
              under = rw stays.gives p.under;
              unfailed = failed_stays h past e a l p.one stays ∙ p.unfailed;
              unbegun = unbegun;
              snooped = rw stays.gives (or_right (is_snoop_to e r l) (was_snooped past r l) p.snooped);
              unanswered = let none = p.unanswered in rw (stays.gives, none_now, none) refl;
              within = p.within;
              other = p.other;
            }
          ]
        ]

-- an answer under the grant is to a pending snoop
pub answering : (past : Trace) (q r l : ℕ) → (nat_eq r q && answers_grant past r l) ≡ true → (s : Snoop) × IsPending past r (answers past r) l s
answering past q r l t =
    let s = is_some_and-is (answered past r) (λ s. is_snoop_on s l && nat_le (grant_place past l) s.place) (and_parts (nat_eq r q) _ t).1 in
    (s.0, record { late = le_refl (answers past r); there = s.1; on = (and_parts (is_snoop_on s.0 l) _ s.2).0 })

-- What the rule on snoops says of a line snoop.
record MaySnoop (h : Header) (past : Trace) (q addr code : ℕ) : Type 0 where
  one : Transaction
  stands : granted h past addr ≡ Some one
  other : nat_eq one.port q ≡ false
  unfailed : has_failed past one ≡ false
  unbegun : is_begun past one ≡ false
  unsnooped : was_snooped past q addr ≡ false

may_snoop-parts : (h : Header) (past : Trace) (q addr code : ℕ) → may_snoop h past q addr code ≡ true → MaySnoop h past q addr code
may_snoop-parts h past q addr code may =
    let two = and_parts (is_some_and (granted h past addr) (λ y. may_snoop_for past y q code) && not (was_snooped past q addr)) _ may in
    let three = and_parts (is_some_and (granted h past addr) (λ y. may_snoop_for past y q code)) (not (was_snooped past q addr)) two.0 in
    let x = is_some_and-is (granted h past addr) (λ y. may_snoop_for past y q code) three.0 in
    let four = and_parts ((not (nat_eq x.0.port q) && has_snoop_code x.0 code) && not (has_failed past x.0)) (not (is_begun past x.0)) x.2 in
    let five = and_parts (not (nat_eq x.0.port q) && has_snoop_code x.0 code) (not (has_failed past x.0)) four.0 in
    record {
      one = x.0;
      stands = x.1;
      other = not-true (nat_eq x.0.port q) (and_parts (not (nat_eq x.0.port q)) (has_snoop_code x.0 code) five.0).0;
      unfailed = not-true (has_failed past x.0) five.1;
      unbegun = not-true (is_begun past x.0) four.1;
      unsnooped = not-true (was_snooped past q addr) three.1;
    }

-- a new snoop of the line is pending, and its port wasn't snooped before
new_pending : (h : Header) (past : Trace) (e : Event) → IsAccepted h (e ∷ past) → (r l : ℕ) (s : Snoop)
    → ((b m : ℕ) → was_snooped past b m ≡ false → answer_of past b m ≡ None) → snoop_at (length past) e r ≡ Some s → is_snoop_on s l ≡ true
    → Pending h (e ∷ past) r l s × (was_snooped past r l ≡ false)
new_pending h past (Ac q addr code) a r l s first is on =
    elim (cases_Bool (nat_eq r q)) [
      | inr f ↦ let bad : None ≡ Some s = rw f at is in cc
      | inl t ↦
          let new : Some (record { place = length past; addr = addr; snoop = code }) ≡ Some s = rw t at is in
          let same = Some-injective _ s new in
          let port = eqb-true r q t in
          let here : is_snoop_on (record { place = length past; addr = addr; snoop = code }) l ≡ true = subst (λ (v : Snoop). is_snoop_on v l ≡ true) (sym same) on in
          let parts = and_parts (snoops_a_line code) (nat_eq addr l) here in
          let line = eqb-true addr l parts.1 in
          let m = may_snoop-parts h past q addr code (implies-at (snoops_a_line code) _ (accepted_keeps h past (Ac q addr code) a).rule_13 parts.0) in
          let before : was_snooped past r l ≡ false = ap (λ b. was_snooped past b l) port ∙ ap (was_snooped past q) (sym line) ∙ m.unsnooped in (
            record {
              one = m.one;
              stands = ap (granted h past) (sym line) ∙ m.stands;
              under = rw (← same) (grant_place-low past l);
              unfailed = m.unfailed;
              unbegun = m.unbegun;
              snooped = or_left ((nat_eq r q && snoops_a_line code) && nat_eq l addr) (was_snooped past r l) (and_from _ _ (and_from _ _ t parts.0) (eq-eqb l addr (sym line)));
              unanswered = first r l before;
              within = ap (λ b. nat_lt b h.ports) port ∙ (and_parts (nat_lt q h.ports) _ (accepted_keeps h past (Ac q addr code) a).rule_1).0;
              other = ap (nat_eq m.one.port) port ∙ m.other;
            },
            before,
          )
    ]
new_pending h past e a r l s first is on = cc

snoops_step : (h : Header) (past : Trace) (e : Event) → IsAccepted h (e ∷ past) → SnoopsStand h past → SnoopsStand h (e ∷ past)
snoops_step h past e a f = record {
  pending = λ r n l s i. elim (was r n l s i) [
    | inl old ↦ pending_stays h past r n l s old (f.pending r n l s old) e a (unanswered r n l s i old)
    | inr new ↦ (new_pending h past e a r l s f.first new.1 i.on).0
  ];
  once = λ r m n l s t i j. elim (was r m l s i) [
    | inl old ↦ elim (was r n l t j) [
      | inl older ↦ f.once r m n l s t old older
      | inr new ↦
          let yes = (f.pending r m l s old).snooped in
          let no = (new_pending h past e a r l t f.first new.1 j.on).1 in cc
    ]
    | inr new ↦ elim (was r n l t j) [
      | inl old ↦
          let yes = (f.pending r n l t old).snooped in
          let no = (new_pending h past e a r l s f.first new.1 i.on).1 in cc
      | inr newer ↦ new.0 ∙ sym newer.0
    ]
  ];
  first = λ r l unsnooped. elim (cases_Bool (gives_line past e l)) [
    | inl t ↦ rw t refl
    | inr g ↦
        let either : (is_snoop_to e r l || was_snooped past r l) ≡ false = rw g at unsnooped in
        let before = (or_parts (is_snoop_to e r l) (was_snooped past r l) either).1 in
        let none = f.first r l before in
        let now = no_answer e r l before in
        rw (g, now, none) refl
  ];
}
  where
    was : (r n l : ℕ) (s : Snoop) → IsPending (e ∷ past) r n l s
        → IsPending past r n l s ⊎ ((n ≡ length (snoops_of past r)) × (snoop_at (length past) e r ≡ Some s))
    was r n l s i =
        elim (slice_get-more (snoops_of past r) (snoop_at (length past) e r) n s i.there) [
          | inl old ↦ inl (record { late = let le = answers-grow e past r in let late = i.late in omega arith; there = old; on = i.on })
          | inr new ↦ inr new
        ]

    no_answer : (d : Event) (r l : ℕ) → was_snooped past r l ≡ false → answer_at past d r l ≡ None
    no_answer (Cr q resp st) r l before =
        elim (cases_Bool (nat_eq r q && answers_grant past r l)) [
          | inr g ↦ rw g refl
          | inl t ↦
              let s = answering past q r l t in
              let yes = (f.pending r (answers past r) l s.0 s.1).snooped in cc
        ]
    no_answer d r l before = refl

    unanswered : (r n l : ℕ) (s : Snoop) → IsPending (e ∷ past) r n l s → IsPending past r n l s → answer_at past e r l ≡ None
    unanswered r n l s i old = by e i.late
      where
        by : (d : Event) → answers (d ∷ past) r ≤ n → answer_at past d r l ≡ None
        by (Cr q resp st) late =
            elim (cases_Bool (nat_eq r q && answers_grant past r l)) [
              | inr g ↦ rw g refl
              | inl t ↦
                  let now = answering past q r l t in
                  let one = f.once r (answers past r) n l now.0 s now.1 old in
                  let above : answers past r + 1 ≤ n = rw (and_parts (nat_eq r q) _ t).0 at late in
                  absurd (omega arith)
            ]
        by d late = refl

-- at each point of an accepted trace
pub snoops : (h : Header) (past : Trace) → IsAccepted h past → SnoopsStand h past
snoops h [] a = record {
  pending = λ r n l s i. let there = i.there in cc;
  once = λ r m n l s t i j. let there = i.there in cc;
  first = λ r l f. refl;
}
snoops h (e ∷ past) a = snoops_step h past e a (snoops h past a.0)
