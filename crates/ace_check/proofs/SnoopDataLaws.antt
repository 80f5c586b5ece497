-- A CD that sends data for no snoop.
use Rattle.std.proofs.Common.{◌≡◌, ℕ, false, Option, Some, None, is_some, refl, ap, ◌∙◌}
use Rattle.ace_check.proofs.Terms.{Trace, next_sent, sending}
use Rattle.ace_portck.proofs.SnoopSteps.{sent-sending}

not-some : {A : Type 0} → (o : Option A) → is_some o ≡ false → o ≡ None
not-some None f = refl
not-some (Some x) f = cc

-- the port has no answer whose burst isn't whole
pub unsent : (past : Trace) (p : ℕ) → sending past p ≡ None → next_sent past p ≡ None
unsent past p none = not-some (next_sent past p) (sent-sending past p ∙ ap is_some none)
