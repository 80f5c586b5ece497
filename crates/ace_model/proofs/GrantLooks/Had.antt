-- An outstanding transaction that has had its G is granted: a G lasts until the transaction is no longer outstanding.
use Rattle.std.proofs.Common.{◌≡◌, ℕ, true, false, Bool, not, ◌&&◌, nat_eq, [], ◌∷◌, length, Option, Some, None, is_none, refl, sym, subst, ◌∙◌, inl, inr}
use Rattle.std.proofs.lemmas.Bool.{and_parts, and_from, or_cases, or_left, or_right, not-true, cases_Bool, eq-eqb}
use Rattle.ace_codes.specs.declared.kind.AwKind.TheVariants as write
use Rattle.ace_model.proofs.Terms.{AwKind, Channel, Event, G, Header, Transaction, Trace, is_some_and, is_granted_write, is_line_read, is_line_write, is_on, is_line, is_named, has_name, issued, ended, without}
use Rattle.ace_model.proofs.Terms.{outstanding, transaction_of, takes_grant, read_kind, write_kind, given, granted, has_grant, k12, may_be_granted, IsAccepted}
use Rattle.ace_model.proofs.General.Options.{Some-injective, is_some_and-is}
use Rattle.ace_model.proofs.Trace.Looks.{at_name, has_name-is, newest_named-cases, newest_on-older, without-some, without-other}
use Rattle.ace_model.proofs.Trace.Issued.{outstanding-named}
use Rattle.ace_model.proofs.Trace.Outstanding.{outstanding_own}
use Rattle.ace_model.proofs.Rules.Keeps.{accepted_keeps}
use Rattle.ace_model.proofs.Grants.Stays.{gives_none}

-- a transaction that has just been issued has had no G
fresh : (past : Trace) (e : Event) (x : Transaction) (p : ℕ) (c : Channel) (i : ℕ) → issued (length past) e ≡ Some x → has_name x p c i ≡ true
    → has_grant (e ∷ past) p c i ≡ true → ⊥
fresh past e x p c i new named had = by e new had
  where
    none : (d : Event) → issued (length past) d ≡ Some x → is_named (given past d) p c i ≡ true → ⊥
    none (G q d j) s g = cc
    none _ s g = cc

    by : (d : Event) → issued (length past) d ≡ Some x → has_grant (d ∷ past) p c i ≡ true → ⊥
    by d s had =
        let n : is_named (issued (length past) d) p c i ≡ true = subst (λ o. is_named o p c i ≡ true) (sym s) named in
        elim (or_cases (is_named (given past d) p c i) (not (is_named (issued (length past) d) p c i) && has_grant past p c i) had) [
          | inl g ↦ none d s g
          | inr o ↦ let f = not-true (is_named (issued (length past) d) p c i) (and_parts (not (is_named (issued (length past) d) p c i)) (has_grant past p c i) o).0 in cc
        ]

line-write : (k : AwKind) → is_granted_write k ≡ true → is_line_write k ≡ true
line-write write.WriteNoSnoop e = refl
line-write write.WriteUnique e = refl
line-write write.WriteLineUnique e = refl
line-write k e = cc

-- what takes a grant is a line transaction
pub takes-line : (x : Transaction) → takes_grant x ≡ true → is_line x ≡ true
takes-line x t =
    elim (or_cases (is_some_and (read_kind x) is_line_read) (is_some_and (write_kind x) is_granted_write) t) [
      | inl r ↦ or_left (is_some_and (read_kind x) is_line_read) (is_some_and (write_kind x) is_line_write) r
      | inr w ↦
          let k = is_some_and-is (write_kind x) is_granted_write w in
          or_right (is_some_and (read_kind x) is_line_read) (is_some_and (write_kind x) is_line_write)
          (subst (λ o. is_some_and o is_line_write ≡ true) (sym k.1) (line-write k.0 k.2))
    ]

-- and on its line
pub takes-on : (x : Transaction) → takes_grant x ≡ true → is_on x x.addr ≡ true
takes-on x t = and_from (is_line x) (nat_eq x.addr x.addr) (takes-line x t) (eq-eqb x.addr x.addr refl)

pub granted_had : (h : Header) (past : Trace) → IsAccepted h past → (p : ℕ) (c : Channel) (i : ℕ) (x : Transaction) → outstanding h past p c i ≡ Some x
    → has_grant past p c i ≡ true → granted h past x.addr ≡ Some x
granted_had h [] a p c i x o had = cc
granted_had h (e ∷ past) a p c i x o had =
    elim (newest_named-cases (issued (length past) e) p c i (without (ended h past e) (outstanding h past p c i)) x o) [
      | inl new ↦ absurd (fresh past e x p c i new.0 new.1 had)
      | inr old ↦
          let w = without-some (ended h past e) (outstanding h past p c i) x old.0 in
          elim (or_cases (is_named (given past e) p c i) (not (is_named (issued (length past) e) p c i) && has_grant past p c i) had) [
            | inl now ↦ by e a now w.0
            | inr before ↦
                let r = granted_had h past a.0 p c i x w.0 (and_parts (not (is_named (issued (length past) e) p c i)) (has_grant past p c i) before).1 in
                newest_on-older (given past e) x.addr (without (ended h past e) (granted h past x.addr)) (gives_none h past e a x.addr x r)
                ∙ without-other (ended h past e) (granted h past x.addr) x r w.1
          ]
    ]
  where
    by : (d : Event) → IsAccepted h (d ∷ past) → is_named (given past d) p c i ≡ true → outstanding h past p c i ≡ Some x → granted h (d ∷ past) x.addr ≡ Some x
    by (G q d j) a n was =
        let z = is_some_and-is (outstanding h past q d j) (may_be_granted h past) (accepted_keeps h past (G q d j) a).rule_12 in
        let t : transaction_of past q d j ≡ Some z.0 = outstanding-named h past q d j z.0 z.1 in
        let m = has_name-is z.0 p c i (subst (λ o. is_named o p c i ≡ true) t n) in
        let one : z.0 ≡ x = Some-injective z.0 x (sym (outstanding_own h past q d j z.0 z.1) ∙ at_name (outstanding h past) z.0 p c i m ∙ was) in
        let kind = (and_parts (takes_grant z.0) _ (and_parts (takes_grant z.0 && not (has_grant past z.0.port z.0.chan z.0.id)) _ z.2).0).0 in
        let on : is_on x x.addr ≡ true = takes-on x (subst (λ (v : Transaction). takes_grant v ≡ true) one kind) in
        rw t (rw one (rw on refl))
    by d a n was = cc

-- K12 without the look for a G: the transaction is of a kind that is granted, and nothing is granted on its line.
abbrev pub may_grant : Header → Trace → Transaction → Bool
may_grant h past x = takes_grant x && is_none (granted h past x.addr)

pub grants_by_line : (h : Header) (past : Trace) (p : ℕ) (c : Channel) (i : ℕ) → IsAccepted h past
    → k12 h past (G p c i) ≡ is_some_and (outstanding h past p c i) (may_grant h past)
grants_by_line h past p c i a = by (outstanding h past p c i) refl
  where
    had : (x : Transaction) → outstanding h past x.port x.chan x.id ≡ Some x → (b : Bool) → has_grant past x.port x.chan x.id ≡ b
        → (takes_grant x && not b && is_none (granted h past x.addr)) ≡ may_grant h past x
    had x own false t = elim (cases_Bool (takes_grant x)) [ inl k ↦ rw k refl | inr k ↦ rw k refl ]
    had x own true t =
        let g = granted_had h past a x.port x.chan x.id x own t in
        elim (cases_Bool (takes_grant x)) [ inl k ↦ rw k (rw g refl) | inr k ↦ rw k refl ]

    by : (o : Option Transaction) → outstanding h past p c i ≡ o → is_some_and o (may_be_granted h past) ≡ is_some_and o (may_grant h past)
    by None e = refl
    by (Some x) e = had x (outstanding_own h past p c i x e) (has_grant past x.port x.chan x.id) refl
