-- A granted transaction has had its G, which comes before its M.
use Rattle.std.proofs.Common.{◌≡◌, ◌⊎◌, ℕ, true, false, not, ◌&&◌, ◌||◌, nat_eq, [], ◌∷◌, length, Option, Some, None, is_some, refl, sym, ap, subst, ◌∙◌, inl, inr}
use Rattle.std.proofs.lemmas.Bool.{false_from_ne_true, and_parts, or_cases, or_left, or_right, not-true, cases_Bool, eqb-true, eq-eqb}
use Rattle.ace_model.proofs.Terms.{AwKind, passes_dirty, Channel, Event, Ar, Aw, G, M, Header, Line, Answer, Transaction, Trace, is_some_and, is_update, is_granted_write, is_line_read, is_read}
use Rattle.ace_model.proofs.Terms.{is_named, read_kind, write_kind, same_channel, issued, ended, outstanding, without, takes_grant, updates_memory, is_memory_write, has_memory_write, is_burst_whole}
use Rattle.ace_model.proofs.Terms.{given, granted, is_granted, has_grant, answer_of, passes, passer, has_passed_data, gives_line, may_be_granted, may_write_memory, may_write_passed, may_write_data}
use Rattle.ace_model.proofs.Terms.{is_write_due, is_update_due, IsAccepted}
use Rattle.ace_model.proofs.Trace.Issued.{outstanding-name, same_place, outstanding-named}
use Rattle.ace_model.proofs.Tables.Kinds.{granted_apart}
use Rattle.ace_model.proofs.Trace.Outstanding.{outstanding_own}
use Rattle.ace_model.proofs.Trace.Looks.{same_channel-is, has_name-self, newest_named-cases, newest_on-cases, without-some}
use Rattle.ace_model.proofs.Rules.Keeps.{accepted_keeps}
use Rattle.ace_model.proofs.Grants.Stays.{issued_apart}
use Rattle.ace_model.proofs.Holders.Law.{accepted_holds}
use Rattle.ace_model.proofs.General.Options.{Some-injective, some_is, is_some_and-is, is_some_and-at}
use Rattle.ace_model.proofs.General.Ports.{found_passes}
use Rattle.ace_model.proofs.General.Booleans.{then_of, else_of}

-- A granted transaction is of a kind that is granted, and has had its G.
pub record Given (past : Trace) (x : Transaction) : Type 0 where
  pub kind : takes_grant x ≡ true
  pub had : has_grant past x.port x.chan x.id ≡ true

-- What the rule on grants says of the transaction that an event grants.
record GivenNow (h : Header) (past : Trace) (x : Transaction) : Type 0 where
  out : outstanding h past x.port x.chan x.id ≡ Some x
  kind : takes_grant x ≡ true
  first : has_grant past x.port x.chan x.id ≡ false

-- a write that is granted
pub granted_write : (x : Transaction) → takes_grant x ≡ true → is_read x.chan ≡ false → (k : AwKind) × (write_kind x ≡ Some k) × (is_granted_write k ≡ true)
granted_write x t writes =
    let none : read_kind x ≡ None = rw writes refl in
    elim (or_cases (is_some_and (read_kind x) is_line_read) (is_some_and (write_kind x) is_granted_write) t) [
      | inl reads ↦ let bad : false ≡ true = rw none at reads in cc
      | inr granted ↦ is_some_and-is (write_kind x) is_granted_write granted
    ]

-- an update is not granted
pub updates_ungranted : (x : Transaction) → takes_grant x ≡ true → is_read x.chan ≡ false → updates_memory x ≡ true → ⊥
updates_ungranted x t writes u =
    let k = granted_write x t writes in
    let updates : is_update k.0 ≡ true = subst (λ o. is_some_and o is_update ≡ true) k.1 u in let none = granted_apart k.0 k.2 in cc

module _ (h : Header) (past : Trace) where
  -- the granted transaction at its place is the outstanding one itself
  pub granted_at : IsAccepted h past → (p : ℕ) (c : Channel) (i : ℕ) (x : Transaction) → outstanding h past p c i ≡ Some x
      → is_granted h past x ≡ true → granted h past x.addr ≡ Some x
  granted_at a p c i x o g =
      let y = is_some_and-is (granted h past x.addr) (λ z. nat_eq z.place x.place) g in
      let s = (accepted_holds h past a).grants x.addr y.0 y.1 in
      let one : y.0 ≡ x = same_place past y.0.port p y.0.chan c y.0.id i y.0 x (outstanding-named h past y.0.port y.0.chan y.0.id y.0 s.0)
      (outstanding-named h past p c i x o) (eqb-true y.0.place x.place y.2) in
      y.1 ∙ ap Some one

  pub granted_is : (l : ℕ) (x : Transaction) → granted h past l ≡ Some x → x.addr ≡ l → is_granted h past x ≡ true
  granted_is l x g addr =
      let here : granted h past x.addr ≡ Some x = ap (granted h past) addr ∙ g in
      rw here (eq-eqb x.place x.place refl)

  -- The M of the outstanding transaction.
  pub record WritesNow (e : Event) (p : ℕ) (c : Channel) (i : ℕ) (x : Transaction) : Type 0 where
    pub line : Line
    pub is : e ≡ M p c i line
    pub may : may_write_memory h past x ≡ true

  pub writes_now : (e : Event) → IsAccepted h (e ∷ past) → (p : ℕ) (c : Channel) (i : ℕ) (x : Transaction)
      → outstanding h past p c i ≡ Some x → is_memory_write e p c i ≡ true → WritesNow e p c i x
  writes_now (M q d j line) a p c i x o t =
      let all = and_parts (nat_eq p q && same_channel c d) (nat_eq i j) t in
      let two = and_parts (nat_eq p q) (same_channel c d) all.0 in
      let is : M q d j line ≡ M p c i line =
      ap (λ v. M v d j line) (sym (eqb-true p q two.0)) ∙ ap (λ (v : Channel). M p v j line) (sym (same_channel-is c d two.1)) ∙ ap (λ v. M p c v line) (sym (eqb-true i j all.1)) in
      record {
        line = line;
        is = is;
        may = is_some_and-at (outstanding h past p c i) (may_write_memory h past) x
            (accepted_keeps h past (M p c i line) (subst (λ v. IsAccepted h (v ∷ past)) is a)).rule_24 o;
      }
  writes_now e a p c i x o t = cc

  -- what the rule on memory says of a read
  pub passed_may : (x : Transaction) → may_write_memory h past x ≡ true → is_read x.chan ≡ true → has_passed_data h past x ≡ true
  passed_may x m reads =
      let by : may_write_passed h past x ≡ true = sym (then_of (is_read x.chan) (may_write_passed h past x) (may_write_data h past x) reads) ∙ m in
      (and_parts (has_passed_data h past x) _ (and_parts (has_passed_data h past x && _) _ by).0).0

  -- what it says of a write
  pub record MayWriteData (x : Transaction) : Type 0 where
    pub whole : is_burst_whole past x ≡ true
    pub first : has_memory_write past x.port x.chan x.id ≡ false
    pub how : (is_write_due h past x ≡ true) ⊎ (is_update_due h past x ≡ true)

  pub data_may : (x : Transaction) → may_write_memory h past x ≡ true → is_read x.chan ≡ false → MayWriteData x
  data_may x m writes =
      let by = else_of (is_read x.chan) (may_write_passed h past x) (may_write_data h past x) writes m in
      let all = and_parts (is_burst_whole past x && not (has_memory_write past x.port x.chan x.id)) (is_write_due h past x || is_update_due h past x) by in
      let two = and_parts (is_burst_whole past x) (not (has_memory_write past x.port x.chan x.id)) all.0 in
      record {
        whole = two.0;
        first = not-true (has_memory_write past x.port x.chan x.id) two.1;
        how = or_cases (is_write_due h past x) (is_update_due h past x) all.1;
      }

  -- The parts of passed data.
  pub record HasPassed (x : Transaction) : Type 0 where
    pub stands : is_granted h past x ≡ true
    pub some : is_some (passer h past x.addr) ≡ true
    pub unwritten : has_memory_write past x.port x.chan x.id ≡ false

  pub has_passed : (x : Transaction) → has_passed_data h past x ≡ true → HasPassed x
  has_passed x t =
      let all = and_parts (is_granted h past x && is_some (passer h past x.addr)) (not (has_memory_write past x.port x.chan x.id)) t in
      let two = and_parts (is_granted h past x) (is_some (passer h past x.addr)) all.0 in
      record { stands = two.0; some = two.1; unwritten = not-true (has_memory_write past x.port x.chan x.id) all.1 }

  -- The port that passed on the line.
  pub record Passes (l : ℕ) : Type 0 where
    pub port : ℕ
    pub found : passer h past l ≡ Some port
    pub answer : Answer
    pub is : answer_of past port l ≡ Some answer
    pub dirty : passes_dirty answer.resp ≡ true

  pub passes_of : (l : ℕ) → is_some (passer h past l) ≡ true → Passes l
  passes_of l t =
      let r = some_is (passer h past l) t in
      let w = is_some_and-is (answer_of past r.0 l) (λ v. passes_dirty v.resp) (found_passes h.ports (passes past l) r.0 r.1) in
      record { port = r.0; found = r.1; answer = w.0; is = w.1; dirty = w.2 }

  -- what may write memory is granted, if it is of a kind that is
  writer_granted : (x : Transaction) → may_write_memory h past x ≡ true → takes_grant x ≡ true → is_granted h past x ≡ true
  writer_granted x m kind =
      elim (cases_Bool (is_read x.chan)) [
        | inl reads ↦ (has_passed x (passed_may x m reads)).stands
        | inr writes ↦ elim (data_may x m writes).how [
          | inl due ↦ (and_parts (is_granted h past x) _ due).0
          | inr update ↦ absurd (updates_ungranted x kind writes (and_parts (updates_memory x) _ update).0)
        ]
      ]

  module _ (e : Event) (a : IsAccepted h (e ∷ past)) where
    given_now : (x : Transaction) → given past e ≡ Some x → GivenNow h past x
    given_now x n = by e a n
      where
        by : (d : Event) → IsAccepted h (d ∷ past) → given past d ≡ Some x → GivenNow h past x
        by (G q c j) a n =
            let z = is_some_and-is (outstanding h past q c j) (may_be_granted h past) (accepted_keeps h past (G q c j) a).rule_12 in
            let one : z.0 ≡ x = Some-injective z.0 x (sym (outstanding-named h past q c j z.0 z.1) ∙ n) in
            let may = and_parts (takes_grant x && not (has_grant past x.port x.chan x.id)) _ (subst (λ y. may_be_granted h past y ≡ true) one z.2) in
            let two = and_parts (takes_grant x) (not (has_grant past x.port x.chan x.id)) may.0 in
            record { out = outstanding_own h past q c j x (z.1 ∙ ap Some one); kind = two.0; first = not-true (has_grant past x.port x.chan x.id) two.1 }
        by d a n = cc

    module _ (p : ℕ) (c : Channel) (i : ℕ) (x : Transaction) (o : outstanding h past p c i ≡ Some x) where
      -- an event gives no other transaction the name of an outstanding one
      pub not_named : is_named (issued (length past) e) p c i ≡ false
      not_named = by (issued (length past) e) refl
        where
          by : (n : Option Transaction) → issued (length past) e ≡ n → is_named n p c i ≡ false
          by None s = refl
          by (Some y) s = issued_apart h past e a p c i x y o s

      -- where a transaction has had no M, it had none before
      pub unwritten_before : has_memory_write (e ∷ past) p c i ≡ false → has_memory_write past p c i ≡ false
      unwritten_before m =
          false_from_ne_true (has_memory_write past p c i) (λ t.
          let more : has_memory_write (e ∷ past) p c i ≡ true =
          or_right (is_memory_write e p c i) (not (is_named (issued (length past) e) p c i) && has_memory_write past p c i) (rw not_named t) in cc)

      -- a G that it has had stays
      grant_stays : has_grant past p c i ≡ true → has_grant (e ∷ past) p c i ≡ true
      grant_stays had = or_right (is_named (given past e) p c i) (not (is_named (issued (length past) e) p c i) && has_grant past p c i) (rw not_named had)

      -- its M is the event, or came before
      pub written_cases : has_memory_write (e ∷ past) p c i ≡ true → WritesNow e p c i x ⊎ (has_memory_write past p c i ≡ true)
      written_cases m =
          elim (or_cases (is_memory_write e p c i) (not (is_named (issued (length past) e) p c i) && has_memory_write past p c i) m) [
            | inl now ↦ inl (writes_now e a p c i x o now)
            | inr earlier ↦ inr (and_parts (not (is_named (issued (length past) e) p c i)) _ earlier).1
          ]

pub granted_given : (h : Header) (past : Trace) → IsAccepted h past → (l : ℕ) (x : Transaction) → granted h past l ≡ Some x → Given past x
granted_given h [] a l x g = cc
granted_given h (e ∷ past) a l x g =
    elim (newest_on-cases (given past e) l (without (ended h past e) (granted h past l)) x g) [
      | inl new ↦
          let n = new.0 in record {
            kind = (given_now h past e a x n).kind;
            had = or_left (is_named (given past e) x.port x.chan x.id) (not (is_named (issued (length past) e) x.port x.chan x.id) && has_grant past x.port x.chan x.id)
                (rw n (has_name-self x));
          }
      | inr old ↦
          let was = (without-some (ended h past e) (granted h past l) x old.0).0 in
          let r = granted_given h past a.0 l x was in
          let o = ((accepted_holds h past a.0).grants l x was).0 in
          record { kind = r.kind; had = grant_stays h past e a x.port x.chan x.id x o r.had }
    ]

issue_writes : (n : ℕ) (e : Event) (x : Transaction) (p : ℕ) (c : Channel) (i : ℕ) → issued n e ≡ Some x → is_memory_write e p c i ≡ false
issue_writes n (Ar q j addr snoop dom bar lock) x p c i s = refl
issue_writes n (Aw q j addr snoop dom bar) x p c i s = refl
issue_writes n e x p c i s = cc

-- a new transaction has had no M
pub new_unwritten : (past : Trace) (e : Event) (x : Transaction) (p : ℕ) (c : Channel) (i : ℕ) → issued (length past) e ≡ Some x → is_named (Some x) p c i ≡ true
    → has_memory_write (e ∷ past) p c i ≡ true → ⊥
new_unwritten past e x p c i new named m =
    let none = issue_writes (length past) e x p c i new in
    let bad : false ≡ true = rw (new, named, none) at m in cc

-- a transaction of a kind that is granted has had its G before its M
written_given : (h : Header) (past : Trace) → IsAccepted h past → (p : ℕ) (c : Channel) (i : ℕ) (x : Transaction) → outstanding h past p c i ≡ Some x
    → takes_grant x ≡ true → has_memory_write past p c i ≡ true → has_grant past p c i ≡ true
written_given h [] a p c i x o kind m = cc
written_given h (e ∷ past) a p c i x o kind m =
    elim (newest_named-cases (issued (length past) e) p c i _ x o) [
      | inl new ↦ absurd (new_unwritten past e x p c i new.0 new.1 m)
      | inr old ↦
          let was = (without-some (ended h past e) (outstanding h past p c i) x old.0).0 in
          let before : has_grant past p c i ≡ true = elim (written_cases h past e a p c i x was m) [
            | inl now ↦
                let stands = granted_at h past a.0 p c i x was (writer_granted h past x now.may kind) in
                let name = outstanding-name h past p c i x was in
                sym (ap (λ v. has_grant past v x.chan x.id) name.port ∙ ap (λ (v : Channel). has_grant past p v x.id) name.chan ∙ ap (has_grant past p c) name.id)
                ∙ (granted_given h past a.0 x.addr x stands).had
            | inr earlier ↦ written_given h past a.0 p c i x was kind earlier
          ] in
          grant_stays h past e a p c i x was before
    ]

-- a transaction has had no M at its G
pub given_unwritten : (h : Header) (past : Trace) (e : Event) → IsAccepted h (e ∷ past) → (l : ℕ) (x : Transaction) → granted h (e ∷ past) l ≡ Some x
    → gives_line past e l ≡ true → has_memory_write (e ∷ past) x.port x.chan x.id ≡ true → ⊥
given_unwritten h past e a l x g gives m =
    elim (newest_on-cases (given past e) l (without (ended h past e) (granted h past l)) x g) [
      | inl new ↦
          let n = given_now h past e a x new.0 in
          let before : has_memory_write past x.port x.chan x.id ≡ true = elim (written_cases h past e a x.port x.chan x.id x n.out m) [
            | inl now ↦ let is = now.is in let bad : None ≡ Some x = ap (given past) (sym is) ∙ new.0 in cc
            | inr earlier ↦ earlier
          ] in
          let had = written_given h past a.0 x.port x.chan x.id x n.out n.kind before in
          let none = n.first in cc
      | inr old ↦ let bad = sym gives ∙ old.1 in cc
    ]
