-- The M of an outstanding transaction: only the rules of its line are left.
use Rattle.std.proofs.Common.{◌≡◌, ◌<◌, ℕ, true, Option, Some, is_none, refl, sym}
use Rattle.std.proofs.lemmas.Bool.{lt-ltb}
use Rattle.ace_check.proofs.Terms.{Line, IsAccepted, least_broken, least_of, k1, line_rules, port_rules, Transaction, Channel, M, Header, Trace, outstanding}
use Rattle.ace_model.proofs.General.Options.{none_is}
use Rattle.ace_check.proofs.WhatComes.{lines-decide}
use Rattle.ace_check.proofs.OutstandingLaws.{outstanding_within}

module _ (h : Header) (past : Trace) (p : ℕ) (c : Channel) (i : ℕ) (line : Line) (x : Transaction) (a : IsAccepted h past) (out : outstanding h past p c i ≡ Some x) where
  within : p < h.ports
  within = outstanding_within h past p c i x a out

  -- the port is one of the header
  pub port-keeps : k1 h past (M p c i line) ≡ true
  port-keeps = let low = lt-ltb p h.ports within in rw low refl

  pub ports-keep : is_none (least_of port_rules h past (M p c i line)) ≡ true
  ports-keep = let low = lt-ltb p h.ports within in rw low refl

  -- its line decides
  pub line-decides : (a : Option ℕ) → (k1 h past (M p c i line) ≡ true → a ≡ least_of line_rules h past (M p c i line)) → a ≡ least_broken h past (M p c i line)
  line-decides a rule = lines-decide h past (M p c i line) a (sym (none_is _ ports-keep)) (rule port-keeps) refl
