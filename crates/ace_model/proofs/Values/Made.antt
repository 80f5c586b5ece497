-- A MakeUnique that has had its store leaves its port with the value.
use Rattle.std.proofs.Common.{◌≡◌, ℕ, Bool, true, false, not, ◌&&◌, nat_eq, nat_lt, [], ◌∷◌, length, Some, refl, sym, ap, subst, ◌∙◌, inl, inr, ◌⊎◌}
use Rattle.std.proofs.lemmas.Bool.{and_parts, or_cases, or_right, eqb-true, eq-eqb}
use Rattle.ace_codes.specs.declared.kind.ArKind.TheVariants as read
use Rattle.ace_model.proofs.Terms.{I, Read, Event, Ar, Aw, D, Header, Line, Transaction, Trace, is_some_and, reads_a_line, is_ace, is_line, is_named, issued, read_kind, outstanding}
use Rattle.ace_model.proofs.Terms.{is_completion, is_complete, granted, state_of, awaits_store, is_store_of, has_store, copy_of, value_of, IsAccepted}
use Rattle.ace_model.proofs.Trace.Looks.{is_on-addr}
use Rattle.ace_model.proofs.Trace.Issued.{outstanding-name, outstanding-origin, Earlier}
use Rattle.ace_model.proofs.Rules.Keeps.{accepted_keeps}
use Rattle.ace_model.proofs.Trace.LineOnce.{one_on_line}
use Rattle.ace_model.proofs.Values.MergedLines.{merged-same}
use Rattle.ace_model.proofs.Values.Stores.{Made, stores_d, Awaits, awaits_store-is}
use Rattle.ace_model.proofs.Values.FullReads.{done_read}
use Rattle.ace_model.proofs.Trace.Transfers.{full_some}
use Rattle.ace_model.proofs.Values.Copies.{copy_moves}
use Rattle.ace_model.proofs.Tables.States.{unique_valid}
use Rattle.ace_model.proofs.Values.Stays.{value_stays, busy, none_may_store, read_no_store}
use Rattle.ace_model.proofs.Values.Facts.{MadeTrue, DirtyPlaced}
use Rattle.ace_model.proofs.Holders.Law.{accepted_holds}
use Rattle.ace_model.proofs.General.Options.{is_some_and-at}

module _ (h : Header) (past : Trace) where
  -- The store of a MakeUnique.
  pub record StoresNow (e : Event) (p i : ℕ) (x : Transaction) : Type 0 where
    pub addr : ℕ
    pub strobe : ℕ
    pub ex : Bool
    pub line : Line
    pub is : e ≡ D p addr strobe ex line
    pub awaits : Awaits h past p addr x

  stores_now : (e : Event) (p i : ℕ) (x : Transaction) → outstanding h past p Read i ≡ Some x → is_store_of h past e p i ≡ true → StoresNow e p i x
  stores_now (D q addr strobe b line) p i x o s =
      let parts = and_parts (nat_eq p q) (is_some_and (outstanding h past p Read i) (awaits_store h past p addr)) s in
      record {
        addr = addr;
        strobe = strobe;
        ex = b;
        line = line;
        is = ap (λ v. D v addr strobe b line) (sym (eqb-true p q parts.0));
        awaits = awaits_store-is h past p addr x (is_some_and-at (outstanding h past p Read i) (awaits_store h past p addr) x parts.1 o);
      }
  stores_now e p i x o s = cc

  issue_stores : (e : Event) (x : Transaction) (p i : ℕ) → issued (length past) e ≡ Some x → is_store_of h past e p i ≡ false
  issue_stores (Ar q j addr snoop dom bar lock) x p i s = refl
  issue_stores (Aw q j addr snoop dom bar) x p i s = refl
  issue_stores e x p i s = cc

-- a MakeUnique that has had its store was outstanding before the event, which is the store, or comes after it
pub record StoreOrigin (h : Header) (past : Trace) (e : Event) (p i : ℕ) (x : Transaction) : Type 0 where
  pub old : Earlier h past e p Read i x
  pub how : StoresNow h past e p i x ⊎ (has_store h past p i ≡ true)

store_origin : (h : Header) (past : Trace) (e : Event) (p i : ℕ) (x : Transaction) → outstanding h (e ∷ past) p Read i ≡ Some x → has_store h (e ∷ past) p i ≡ true → StoreOrigin h past e p i x
store_origin h past e p i x o s =
    elim (outstanding-origin h past e p Read i x o) [
      | inl new ↦
          let none = issue_stores h past e x p i new.0 in
          let bad : false ≡ true = rw (new.0, new.1, none) at s in cc
      | inr old ↦ record {
        old = old;
        how = elim (or_cases (is_store_of h past e p i) (not (is_named (issued (length past) e) p Read i) && has_store h past p i) s) [
          | inl now ↦ inl (stores_now h past e p i x old.was now)
          | inr earlier ↦ inr (and_parts (not (is_named (issued (length past) e) p Read i)) _ earlier).1
        ];
      }
    ]

-- it is complete, and of an ACE port
pub stored_complete : (h : Header) (past : Trace) → IsAccepted h past → (p i : ℕ) (x : Transaction) → outstanding h past p Read i ≡ Some x → has_store h past p i ≡ true
    → (is_complete past p Read i ≡ true) × (is_ace h p ≡ true)
stored_complete h [] a p i x o s = cc
stored_complete h (e ∷ past) a p i x o s =
    let from = store_origin h past e p i x o s in
    let before : (is_complete past p Read i ≡ true) × (is_ace h p ≡ true) = elim from.how [
      | inr earlier ↦ stored_complete h past a.0 p i x from.old.was earlier
      | inl n ↦
          let name = outstanding-name h past p Read i x from.old.was in
          let known = (accepted_keeps h past (D p n.addr n.strobe n.ex n.line) (subst (λ d. IsAccepted h (d ∷ past)) n.is a)).rule_1 in (
            rw (← name.port, ← name.chan, ← name.id) n.awaits.complete,
            (and_parts (nat_lt p h.ports) (is_ace h p) known).1,
          )
    ] in
    (or_right (is_completion e p Read i) (not (is_named (issued (length past) e) p Read i) && is_complete past p Read i) (rw from.old.other before.0), before.1)

-- the whole line is stored into the copy and into the value
made_d : (h : Header) (past : Trace) (p l strobe : ℕ) (b : Bool) (line : Line) → Made h past p l strobe → copy_of (D p l strobe b line ∷ past) p l ≡ value_of (D p l strobe b line ∷ past) l
made_d h past p l strobe b line m =
    rw (eq-eqb p p refl, eq-eqb l l refl) (merged-same (copy_of past p l) (value_of past l) line strobe m.whole)

pub made_step : (h : Header) (past : Trace) (e : Event) → IsAccepted h (e ∷ past) → DirtyPlaced h past → MadeTrue h (e ∷ past)
made_step h past e a f p i l x o on kind s =
    let from = store_origin h past e p i x o s in
    elim from.how [
      | inl now ↦ by_store from.old.was now
      | inr earlier ↦ after_store from.old.was earlier
    ]
  where
    by_store : outstanding h past p Read i ≡ Some x → StoresNow h past e p i x → copy_of (e ∷ past) p l ≡ value_of (e ∷ past) l
    by_store was n =
        let addr : n.addr ≡ l = sym (is_on-addr x n.addr n.awaits.on) ∙ is_on-addr x l on in
        let is : e ≡ D p l n.strobe n.ex n.line = n.is ∙ ap (λ v. D p v n.strobe n.ex n.line) addr in
        elim (stores_d h past p l n.strobe n.ex n.line (subst (λ d. IsAccepted h (d ∷ past)) is a)) [
          | inl may ↦ absurd (busy h past p Read i l x was on may)
          | inr m ↦ rw is (made_d h past p l n.strobe n.ex n.line m)
        ]

    after_store : outstanding h past p Read i ≡ Some x → has_store h past p i ≡ true → copy_of (e ∷ past) p l ≡ value_of (e ∷ past) l
    after_store was stored =
        let done = stored_complete h past a.0 p i x was stored in
        let addr = is_on-addr x l on in
        let arrives = (accepted_holds h past a.0).arrive p i x done.1 was (and_parts (is_line x) _ on).0 (full_some past p i x (done_read h past a.0 p i x was done.0)) in
        let stands : granted h past l ≡ Some x = ap (granted h past) (sym addr) ∙ arrives.stands in
        let name = outstanding-name h past p Read i x was in
        let no_port = none_may_store h past p Read i l x was on (λ q apart unique.
        unique_valid (state_of h past q l) unique (subst (λ v. state_of h past q v ≡ I) addr (arrives.alone read.MakeUnique kind refl q apart))) in
        let no_make : (q t : ℕ) (m : Made h past q l t) → m.one ≡ x → ⊥ = λ q t m one.
        let made_name = outstanding-name h past q Read m.id m.one m.out in
        let port : q ≡ p = sym made_name.port ∙ ap (λ (y : Transaction). y.port) one ∙ name.port in
        let id : m.id ≡ i = sym made_name.id ∙ ap (λ (y : Transaction). y.id) one ∙ name.id in
        let first : has_store h past p i ≡ false = rw (← port, ← id) m.first in cc in
        elim (copy_moves h past e a p l) [
          | inl same ↦ same ∙ f.made p i l x was on kind stored ∙ sym (value_stays h past e a l x stands no_port no_make (read_no_store h past x read.MakeUnique l kind refl))
          | inr (inl r) ↦
              let one = one_on_line h past a.0 p Read Read r.id i l r.one x r.out was r.on on in
              let bad : false ≡ true = sym (ap (λ o. is_some_and o reads_a_line) (ap read_kind one ∙ kind)) ∙ r.reads in cc
          | inr (inr d) ↦ elim (stores_d h past p l d.strobe d.ex d.line (subst (λ v. IsAccepted h (v ∷ past)) d.is a)) [
            | inl may ↦ absurd (no_port p may)
            | inr m ↦ absurd (no_make p d.strobe m (one_on_line h past a.0 p Read Read m.id i l m.one x m.out was m.on on))
          ]
        ]
