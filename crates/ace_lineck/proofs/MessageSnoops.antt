-- An AC of DVM has no line: no rule of the share looks at it, and all lines stay as they are.
use Rattle.std.proofs.Common.{◌≡◌, ℕ, false, None, refl}
use Rattle.std.proofs.lemmas.Bool.{eq-eqb}
use Rattle.ace_lineck.proofs.Terms.{least_broken, least_of, line_rules, Ac, Header, Trace, snoops_a_line, Recording, after, line_in, LineCheck, Stands}
use Rattle.ace_lineck.proofs.AllLines.{unchanged}

module _ (h : Header) (past : Trace) (p addr code : ℕ) (off : snoops_a_line code ≡ false) where
  pub message_snoop-off : line_in h past (Ac p addr code) ≡ None
  message_snoop-off = rw (eq-eqb p p refl, off) refl

  pub message_snoop-keeps : least_of line_rules h past (Ac p addr code) ≡ None
  message_snoop-keeps = rw off refl

pub lines-unmoved : (s : LineCheck) (r : Recording) (p addr code : ℕ) → Stands s r → snoops_a_line code ≡ false
    → least_broken r.header r.past (Ac p addr code) ≡ None → Stands s (after r (Ac p addr code))
lines-unmoved s r p addr code st off fine = unchanged s r (Ac p addr code) st fine (message_snoop-off r.header r.past p addr code off)
