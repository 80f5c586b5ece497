-- In every accepted trace the set of a line contains each port whose state of the line isn't I.
--
-- Two facts hold at each point and make it inductive (Keeps): a port that holds the line is kept, and so is the port of a
-- granted read that takes the line, from its G on.
--
-- * The port of such a read drops nothing of the line while the read is granted. A CR of it to a snoop of the line would answer a
--   snoop under the present grant, which is of another port (K13). A WK of its WriteBack, WriteEvict or Evict of the line would
--   end a second outstanding transaction of the port on the line (K5).
-- * A port comes to hold the line by the RK of its own read alone. Where it held I, that read takes the line (K23), and it is
--   granted until this RK (K18).
-- * A CR with new state I leaves its port with I, and so does a WK of a WriteBack, WriteEvict or Evict (K28).
--
-- A port that holds a line is an ACE port: by K1 no other has an RK, WK, CR, S or D.
use Rattle.std.proofs.Common.{◌≡◌, ℕ, true, false, not, ◌&&◌, nat_eq, [], ◌∷◌, Some, le_refl, refl, sym, ap, subst, ◌∙◌, inl, inr}
use Rattle.std.proofs.lemmas.Bool.{and_from, and_parts, cases_Bool, eq-eqb, eqb-true, false_from_ne_true, or_left, or_right}
use Rattle.ace_codes.specs.declared.kind.AwKind.TheVariants as write
use Rattle.ace_model.proofs.Terms.{AwKind, LineState, I, Read, Write, Event, Cr, Wk, Header, Transaction, Trace, IsAccepted, is_some_and, is_invalid, is_fetch, is_make_unique, is_line_write, ends_write, ends_write_well}
use Rattle.ace_model.proofs.Terms.{is_ace, is_line, is_on, is_some_on, read_kind, write_kind, ended, without, acknowledged, given, granted, outstanding, answered, answers, answers_line, is_snoop_on, state_of}
use Rattle.ace_model.proofs.Terms.{HoldersAreKept, KeepsHolders, drops_at, drops_line, is_drop_of, is_take_of, may_hold, takes_at, takes_line}
use Rattle.ace_model.proofs.General.Options.{Some-injective, is_none_or-at, is_some_and-is}
use Rattle.ace_model.proofs.Grants.Pending.{snoops}
use Rattle.ace_model.proofs.Holders.Law.{accepted_holds}
use Rattle.ace_model.proofs.Holders.Acknowledge.{line_granted}
use Rattle.ace_model.proofs.Holders.Rises.{Raised, state_moves}
use Rattle.ace_model.proofs.Trace.Issued.{outstanding-name}
use Rattle.ace_model.proofs.Rules.Keeps.{accepted_keeps}
use Rattle.ace_model.proofs.Tables.States.{is_invalid-is, valid_not}
use Rattle.ace_model.proofs.Trace.Looks.{newest_on-cases, read_writes_none, without-some}
use Rattle.ace_model.proofs.Trace.LineOnce.{one_on_line}
use Rattle.ace_model.proofs.Trace.WriteQueue.{ends_write_of}

record Keeps (h : Header) (past : Trace) : Type 0 where
  held : (p l : ℕ) → is_invalid (state_of h past p l) ≡ false → may_hold past p l ≡ true
  taking : (l : ℕ) (x : Transaction) → granted h past l ≡ Some x → is_some_and (read_kind x) takes_line ≡ true → may_hold past x.port l ≡ true

-- a write that gives its line up is a line transaction, and leaves I
drop_kind : (k : AwKind) → drops_line k ≡ true → is_line_write k ≡ true
drop_kind write.WriteBack d = refl
drop_kind write.WriteEvict d = refl
drop_kind write.Evict d = refl
drop_kind k d = cc

drop_ends : (k : AwKind) (held st : LineState) → drops_line k ≡ true → ends_write k held st ≡ true → is_invalid st ≡ true
drop_ends write.WriteBack held I d e = refl
drop_ends write.WriteEvict held I d e = refl
drop_ends write.Evict held I d e = refl
drop_ends k held st d e = cc

-- The write that gives up the line.
pub record Dropping (x : Transaction) (l : ℕ) : Type 0 where
  pub kind : AwKind
  pub is_kind : write_kind x ≡ Some kind
  pub drops_it : drops_line kind ≡ true
  pub addr : x.addr ≡ l
  pub on : is_on x l ≡ true

pub dropping : (x : Transaction) (l : ℕ) → is_drop_of x l ≡ true → Dropping x l
dropping x l d =
    let parts = and_parts (is_some_and (write_kind x) drops_line) (nat_eq x.addr l) d in
    let k = is_some_and-is (write_kind x) drops_line parts.0 in
    let line : is_some_and (write_kind x) is_line_write ≡ true = rw k.1 (drop_kind k.0 k.2) in
    record {
      kind = k.0;
      is_kind = k.1;
      drops_it = k.2;
      addr = eqb-true x.addr l parts.1;
      on = and_from (is_line x) (nat_eq x.addr l) (or_right (is_some_and (read_kind x) _) (is_some_and (write_kind x) is_line_write) line) parts.1;
    }

module _ (past : Trace) (e : Event) (p l : ℕ) where
  taken : takes_at past e p l ≡ true → may_hold (e ∷ past) p l ≡ true
  taken t = or_left (takes_at past e p l) (not (drops_at past e p l) && may_hold past p l) t

  stays : drops_at past e p l ≡ false → may_hold past p l ≡ true → may_hold (e ∷ past) p l ≡ true
  stays f was = or_right (takes_at past e p l) (not (drops_at past e p l) && may_hold past p l) (rw f was)

module _ (h : Header) (past : Trace) where
  -- the port of a granted read that takes the line doesn't drop it
  takes_still : (e : Event) → IsAccepted h (e ∷ past) → (l : ℕ) (x : Transaction) → granted h past l ≡ Some x
      → is_some_and (read_kind x) takes_line ≡ true → drops_at past e x.port l ≡ true → ⊥
  takes_still (Cr q resp st) a l x g t d =
      let two = and_parts (nat_eq x.port q && answers_line past x.port l) (is_invalid st) d in
      let one = and_parts (nat_eq x.port q) (answers_line past x.port l) two.0 in
      let s = is_some_and-is (answered past x.port) (λ s. is_snoop_on s l) one.1 in
      let pending = (snoops h past a.0).pending x.port (answers past x.port) l s.0 (record { late = le_refl (answers past x.port); there = s.1; on = s.2 }) in
      let same : pending.one ≡ x = Some-injective pending.one x (sym pending.stands ∙ g) in
      let other : nat_eq x.port x.port ≡ false = subst (λ (v : Transaction). nat_eq v.port x.port ≡ false) same pending.other in
      let own : nat_eq x.port x.port ≡ true = eq-eqb x.port x.port refl in cc
  takes_still (Wk q st) a l x g t d =
      let parts = and_parts (nat_eq x.port q) _ d in
      let port : x.port ≡ q = eqb-true x.port q parts.0 in
      let z = is_some_and-is (acknowledged past x.port Write) (λ z. is_drop_of z l) parts.1 in
      let w = ends_write_of h past q st a z.0 (ap (λ v. acknowledged past v Write) (sym port) ∙ z.1) in
      let dropped = dropping z.0 l z.2 in
      let o = (accepted_holds h past a.0).grants l x g in
      let one : x ≡ z.0 = one_on_line h past a.0 x.port x.chan Write x.id w.id l x z.0 o.0
      (ap (λ v. outstanding h past v Write w.id) port ∙ w.out) o.1 dropped.on in
      let k = is_some_and-is (read_kind x) takes_line t in
      let none = (read_writes_none x k.0 k.1).0 in
      let some : write_kind x ≡ Some dropped.kind = ap write_kind one ∙ dropped.is_kind in cc
  takes_still e a l x g t d = cc

  -- what an event drops its port doesn't hold afterwards
  dropped_invalid : (e : Event) → IsAccepted h (e ∷ past) → (p l : ℕ) → drops_at past e p l ≡ true → is_invalid (state_of h (e ∷ past) p l) ≡ true
  dropped_invalid (Cr q resp st) a p l d =
      let two = and_parts (nat_eq p q && answers_line past p l) (is_invalid st) d in
      rw two.0 two.1
  dropped_invalid (Wk q st) a p l d =
      let parts = and_parts (nat_eq p q) _ d in
      let port : p ≡ q = eqb-true p q parts.0 in
      let z = is_some_and-is (acknowledged past p Write) (λ z. is_drop_of z l) parts.1 in
      let dropped = dropping z.0 l z.2 in
      let well = is_none_or-at (acknowledged past q Write) (ends_write_well h past st) z.0 (accepted_keeps h past (Wk q st) a).rule_28
      (ap (λ v. acknowledged past v Write) (sym port) ∙ z.1) in
      let ends = is_none_or-at (write_kind z.0) _ dropped.kind well dropped.is_kind in
      let named : (nat_eq p q && is_some_on (acknowledged past p Write) l) ≡ true = and_from (nat_eq p q) _ parts.0 (rw z.1 dropped.on) in
      rw named (drop_ends dropped.kind _ st dropped.drops_it ends)
  dropped_invalid e a p l d = cc

  module _ (e : Event) (a : IsAccepted h (e ∷ past)) (k : Keeps h past) where
    taking_step : (l : ℕ) (x : Transaction) → granted h (e ∷ past) l ≡ Some x → is_some_and (read_kind x) takes_line ≡ true
        → may_hold (e ∷ past) x.port l ≡ true
    taking_step l x g t =
        elim (newest_on-cases (given past e) l (without (ended h past e) (granted h past l)) x g) [
          | inl new ↦
              let addr = (and_parts (is_line x) (nat_eq x.addr l) new.1).1 in
              let it : takes_at past e x.port l ≡ true = rw new.0
              (and_from (nat_eq x.port x.port) (is_take_of x l) (eq-eqb x.port x.port refl) (and_from _ (nat_eq x.addr l) t addr)) in
              taken past e x.port l it
          | inr old ↦
              let was = (without-some (ended h past e) (granted h past l) x old.0).0 in
              stays past e x.port l (false_from_ne_true _ (λ d. takes_still e a l x was t d)) (k.taking l x was t)
        ]

    held_step : (p l : ℕ) → is_invalid (state_of h (e ∷ past) p l) ≡ false → may_hold (e ∷ past) p l ≡ true
    held_step p l held =
        let kept : may_hold past p l ≡ true → may_hold (e ∷ past) p l ≡ true = stays past e p l
        (false_from_ne_true _ (λ d. let gone = dropped_invalid e a p l d in cc)) in
        elim (cases_Bool (is_invalid (state_of h past p l))) [
          | inr was ↦ kept (k.held p l was)
          | inl none ↦ elim (state_moves h past e a p l) [
            | inl less ↦ let gone : is_invalid (state_of h (e ∷ past) p l) ≡ true = rw (less.gone (is_invalid-is _ none)) refl in cc
            | inr up ↦ kept (risen up none)
          ]
        ]
      where
        -- the port held nothing before the RK of its read, so the read takes the line
        risen : Raised h past e p l → is_invalid (state_of h past p l) ≡ true → may_hold past p l ≡ true
        risen up none =
            let d = up.line in
            let after : state_of h (e ∷ past) p l ≡ up.st = ap (λ v. state_of h (v ∷ past) p l) up.is ∙ rw up.named refl in
            let valid : is_invalid up.st ≡ false = ap is_invalid (sym after) ∙ held in
            let kind : takes_line d.kind ≡ true = elim (d.state.gains none valid) [
              | inl fetches ↦ or_left (is_fetch d.kind) (is_make_unique d.kind) fetches
              | inr makes ↦ or_right (is_fetch d.kind) (is_make_unique d.kind) makes
            ] in
            let takes_it : is_some_and (read_kind d.one) takes_line ≡ true = rw d.is_kind kind in
            let port : d.one.port ≡ p = (outstanding-name h past p Read d.id d.one d.out).port in
            subst (λ v. may_hold past v l ≡ true) port (k.taking l d.one (line_granted h past up.port up.st p l d) takes_it)

-- at each point of an accepted trace
keeps : (h : Header) (past : Trace) → IsAccepted h past → Keeps h past
keeps h [] a = record { held = λ p l held. cc; taking = λ l x g t. cc }
keeps h (e ∷ past) a =
    let k = keeps h past a.0 in
    record { held = held_step h past e a k; taking = taking_step h past e a k }

holders_kept : (h : Header) (past : Trace) → IsAccepted h past → HoldersAreKept h past
holders_kept h past a l p held =
    and_from (is_ace h p) (may_hold past p l) ace ((keeps h past a).held p l (valid_not (state_of h past p l) held))
  where
    ace : is_ace h p ≡ true
    ace = elim (cases_Bool (is_ace h p)) [
      | inl t ↦ t
      | inr f ↦ absurd (held ((accepted_holds h past a).outside p l f))
    ]

pub accepted_keeps_holders : (h : Header) (past : Trace) → IsAccepted h past → KeepsHolders h past
accepted_keeps_holders h [] a = holders_kept h [] a
accepted_keeps_holders h (e ∷ past) a = (accepted_keeps_holders h past a.0, holders_kept h (e ∷ past) a)
