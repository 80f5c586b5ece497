-- The snoops of an accepted trace, and which rules an AC or CR breaks.
use Rattle.std.proofs.Common.{◌≡◌, [], ◌∷◌, ℕ, Bool, true, false, Some, None, length, slice_get, is_some, if◌then◌else◌, ap, sym, subst, ◌∙◌, nat_eq, inl, inr}
use Rattle.ace_check.proofs.Terms.{ac_kind_of, SnoopKind, Snoop, least_broken, least_of, k1, k2, k3, is_line_snoop, port_rules, system_rules, k13, Header, Trace, Event, Ac, IsAccepted, answered, answers, is_some_and, snoop_at, snoops_of, snoops_a_line}
use Rattle.ace_model.proofs.General.Lists.{slice_get-more}
use Rattle.ace_model.proofs.General.Options.{some_if-is}
use Rattle.ace_model.proofs.Rules.Keeps.{accepted_keeps, kept}
use Rattle.ace_check.proofs.WhatComes.{first-3}

-- a snoop of the kind is of a line where the kind is
pub line-by-kind : (code : ℕ) (k : SnoopKind) (b : Bool) → ac_kind_of code ≡ Some k → is_line_snoop k ≡ b → snoops_a_line code ≡ b
line-by-kind code k b kind is = ap (λ o. is_some_and o is_line_snoop) kind ∙ is

-- a snoop of the trace has a kind
snoop-kind : (h : Header) (past : Trace) → IsAccepted h past → (p n : ℕ) (s : Snoop) → slice_get (snoops_of past p) n ≡ Some s
    → is_some (ac_kind_of s.snoop) ≡ true
snoop-kind h [] a p n s there = cc
snoop-kind h (e ∷ past) a p n s there =
    elim (slice_get-more (snoops_of past p) (snoop_at (length past) e p) n s there) [
      | inl old ↦ snoop-kind h past a.0 p n s old
      | inr new ↦ by e a new.1
    ]
  where
    by : (d : Event) → IsAccepted h (d ∷ past) → snoop_at (length past) d p ≡ Some s → is_some (ac_kind_of s.snoop) ≡ true
    by (Ac q addr code) b is =
        let same = (some_if-is (nat_eq p q) (record { place = length past; addr = addr; snoop = code }) s is).1 in
        subst (λ (v : Snoop). is_some (ac_kind_of v.snoop) ≡ true) same (accepted_keeps h past (Ac q addr code) b).rule_2
    by d b is = cc

-- so has the one that a CR answers
pub answered-kind : (h : Header) (past : Trace) (p : ℕ) (s : Snoop) → IsAccepted h past → answered past p ≡ Some s → is_some (ac_kind_of s.snoop) ≡ true
answered-kind h past p s a there = snoop-kind h past a p (answers past p) s there

-- a rule about its port that an AC breaks is the least
pub ac-port-first : (h : Header) (past : Trace) (p addr code k : ℕ) → Some k ≡ least_of port_rules h past (Ac p addr code)
    → Some k ≡ least_broken h past (Ac p addr code)
ac-port-first h past p addr code k ports =
    let e = Ac p addr code in
    first-3 1 2 3 k (k1 h past e) (k2 h past e) (k3 h past e) (if k13 h past e then least_of system_rules h past e else Some 13) ports

-- one that keeps those has a kind
pub ac-has-kind : (h : Header) (past : Trace) (p addr code : ℕ) → None ≡ least_of port_rules h past (Ac p addr code) → ac_kind_of code ≡ None → ⊥
ac-has-kind h past p addr code ports none =
    let there : is_some (ac_kind_of code) ≡ true = kept port_rules 2 h past (Ac p addr code) (sym ports) in
    let bad : false ≡ true = sym (ap is_some none) ∙ there in cc
