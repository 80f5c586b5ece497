-- Whether a transaction of the port on a line is outstanding, after an event: one that the event issues is, one that it ends isn't, and
-- else it is as before.
use Rattle.std.proofs.Common.{◌≡◌, ◌≢◌, ℕ, Bool, true, false, not, ◌&&◌, ◌==◌, if◌then◌else◌, ◌∷◌, length, Option, Some, None, inl, inr, refl, sym, ap, ◌∙◌}
use Rattle.std.proofs.lemmas.Bool.{and_parts, and_from, eq-eqb, eqb-true, false_from_ne_true}
use Rattle.ace_event.specs.declared.event.Channel.{Channel}
use Rattle.ace_event.specs.declared.event.Channel.TheVariants.{Read, Write}
use Rattle.ace_event.specs.declared.event.Event.{Event}
use Rattle.ace_event.specs.declared.header.Header.{Header}
use Rattle.ace_model.specs.declared.transactions.Transaction.{Transaction}
use Rattle.ace_model.specs.Accepted.{IsAccepted}
use Rattle.ace_model.specs.AddressRules.{has_free_name}
use Rattle.ace_model.specs.Trace.{Trace}
use Rattle.ace_model.specs.Transactions.{ended, has_name, has_outstanding_on, is_named, is_on, is_read, is_outstanding, is_outstanding_on, issued, outstanding}
use Rattle.ace_model.proofs.General.Options.{Some-injective, is_none_or-at}
use Rattle.ace_model.proofs.Rules.Keeps.{accepted_keeps}
use Rattle.ace_model.proofs.Trace.Growth.{IsIssued, named-issued, some_issued-is}
use Rattle.ace_model.proofs.Trace.Issued.{issued_at, outstanding-name, outstanding-named, outstanding-origin}
use Rattle.ace_model.proofs.Trace.LineOnce.{one_on_line, outstanding_found, outstanding_is}
use Rattle.ace_model.proofs.Trace.Looks.{has_name-is, newest_named-first, newest_named-older, without-other}

same-if : (a b : Bool) → (a ≡ true → b ≡ true) → (b ≡ true → a ≡ true) → a ≡ b
same-if true b f g = sym (f refl)
same-if false true f g = g refl
same-if false false f g = refl

-- An outstanding transaction of the port on the line.
pub record IsUnderWay (h : Header) (past : Trace) (p l : ℕ) : Type 0 where
  pub chan : Channel
  pub id : ℕ
  pub one : Transaction
  pub out : outstanding h past p chan id ≡ Some one
  pub on : is_on one l ≡ true

pub under-way : (h : Header) (past : Trace) (p l : ℕ) → has_outstanding_on h past p l ≡ true → IsUnderWay h past p l
under-way h past p l t =
    let x = some_issued-is past (is_outstanding_on h past p l) t in
    let parts = and_parts ((x.0.port == p) && is_on x.0 l) (is_outstanding h past x.0) x.2 in
    let own = and_parts (x.0.port == p) (is_on x.0 l) parts.0 in
    record {
      chan = x.0.chan;
      id = x.0.id;
      one = x.0;
      out = ap (λ q. outstanding h past q x.0.chan x.0.id) (sym (eqb-true x.0.port p own.0)) ∙ outstanding_is h past x.0 x.1 parts.1;
      on = own.1;
    }

module _ (h : Header) (past : Trace) (e : Event) (a : IsAccepted h (e ∷ past)) (p l : ℕ) where
  -- the event issues one
  pub begins-under-way : (x : Transaction) → issued (length past) e ≡ Some x → x.port ≡ p → is_on x l ≡ true → has_outstanding_on h (e ∷ past) p l ≡ true
  begins-under-way x new port on =
      let named : has_name x p x.chan x.id ≡ true = and_from _ _ (and_from _ _ (eq-eqb x.port p port) (self x.chan)) (eq-eqb x.id x.id refl) in
      outstanding_found h (e ∷ past) p x.chan x.id l x (newest_named-first (issued (length past) e) p x.chan x.id _ x new named) on
    where
      self : (c : Channel) → (if is_read c then is_read c else not (is_read c)) ≡ true
      self Read = refl
      self Write = refl

  -- it issues none
  abbrev pub IssuesNone : Type 0
  IssuesNone = (x : Transaction) → issued (length past) e ≡ Some x → x.port ≡ p → is_on x l ≡ false

  earlier : IssuesNone → has_outstanding_on h (e ∷ past) p l ≡ true → has_outstanding_on h past p l ≡ true
  earlier none t =
      let w = under-way h (e ∷ past) p l t in
      elim (outstanding-origin h past e p w.chan w.id w.one w.out) [
        | inl new ↦
            let off = none w.one new.0 (has_name-is w.one p w.chan w.id new.1).port in
            let on = w.on in cc
        | inr old ↦ outstanding_found h past p w.chan w.id l w.one old.was w.on
      ]

  -- it ends none
  abbrev pub EndsNone : Type 0
  EndsNone = (z : Transaction) → ended h past e ≡ Some z → IsIssued past z × (z.port ≡ p → is_on z l ≡ false)

  later : EndsNone → has_outstanding_on h past p l ≡ true → has_outstanding_on h (e ∷ past) p l ≡ true
  later none t =
      let w = under-way h past p l t in
      let out = w.out in
      let on = w.on in
      let other : is_named (issued (length past) e) p w.chan w.id ≡ false = free (issued (length past) e) refl w in
      let lasts : (z : Transaction) → ended h past e ≡ Some z → z.place ≢ w.one.place = λ z is same.
      let off = none z is in
      let i = named-issued past p w.chan w.id w.one (outstanding-named h past p w.chan w.id w.one out) in
      let one : z ≡ w.one = Some-injective z w.one (sym off.0.there ∙ ap (issued_at past) same ∙ i.there) in
      let port = ap (λ (v : Transaction). v.port) one ∙ (outstanding-name h past p w.chan w.id w.one out).port in
      let bad : true ≡ false = sym on ∙ ap (λ v. is_on v l) (sym one) ∙ off.1 port in cc in
      outstanding_found h (e ∷ past) p w.chan w.id l w.one
      (newest_named-older (issued (length past) e) p w.chan w.id _ other ∙ without-other (ended h past e) (outstanding h past p w.chan w.id) w.one out lasts) on
    where
      free : (o : Option Transaction) → issued (length past) e ≡ o → (w : IsUnderWay h past p l) → is_named o p w.chan w.id ≡ false
      free None is w = refl
      free (Some y) is w =
          false_from_ne_true (has_name y p w.chan w.id) (λ named.
          let name = has_name-is y p w.chan w.id named in
          let none = is_none_or-at (issued (length past) e) (has_free_name h past) y (accepted_keeps h past e a).rule_4 is in
          let there : outstanding h past y.port y.chan y.id ≡ Some w.one =
          ap (λ q. outstanding h past q y.chan y.id) name.port ∙ ap (λ c. outstanding h past p c y.id) name.chan ∙ ap (outstanding h past p w.chan) name.id ∙ w.out in
          let bad : false ≡ true = rw there at none in cc)

  pub as-before : IssuesNone → EndsNone → has_outstanding_on h (e ∷ past) p l ≡ has_outstanding_on h past p l
  as-before new gone = same-if _ _ (earlier new) (later gone)

  -- it ends one, and issues nothing
  pub ends-under-way : (c : Channel) (i : ℕ) (x : Transaction) → issued (length past) e ≡ None → ended h past e ≡ Some x → outstanding h past p c i ≡ Some x → is_on x l ≡ true
      → has_outstanding_on h (e ∷ past) p l ≡ false
  ends-under-way c i x none gone out on =
      false_from_ne_true (has_outstanding_on h (e ∷ past) p l) (λ t.
      let w = under-way h (e ∷ past) p l t in
      elim (outstanding-origin h past e p w.chan w.id w.one w.out) [
        | inl new ↦ let bad : None ≡ Some w.one = sym none ∙ new.0 in cc
        | inr old ↦
            let one = one_on_line h past a.0 p c w.chan i w.id l x w.one out old.was on w.on in
            absurd (old.lasts x gone (ap (λ (v : Transaction). v.place) one))
      ])
