-- The fourth header line of a script.
use Rattle.std.proofs.Common.{◌≡◌, ◌≢◌, ℕ, ◌<◌, ◌^◌, List, Ok, Err, sym, ap, ◌∙◌, arith}
use Rattle.std.specs.Prelude.{codes}
use Rattle.ace_event.specs.Text.{hex_text}
use Rattle.ace_model.specs.declared.plans.PolicyWord.TheVariants.{Keep, Eager, Mixed}
use Rattle.ace_script.specs.declared.reason.Reason.{Reason}
use Rattle.ace_script.specs.Text.{policy_text}
use Rattle.ace_script.specs.Fields.{number_of}
use Rattle.ace_script.specs.Reading.{IsPolicyLine}
use Rattle.ace_script.proofs.Results.{err_isn't}
use Rattle.ace_script.proofs.FieldsExact.{number_takes, number_reads}

pub sixteen_read : (field : List ℕ) (n : ℕ) → Ok n ≡ number_of 16 field → hex_text 16 n ≡ field
sixteen_read field n e = sym (number_takes 16 field n (sym e)).1

pub sixteen_none : (field : List ℕ) (why : Reason) → Err why ≡ number_of 16 field → (n : ℕ) → n < 2 ^ 64 → hex_text 16 n ≢ field
sixteen_none field why e n h same = err_isn't why n _ (e ∙ ap (number_of 16) (sym same) ∙ number_reads 16 n (omega (arith, h)))

pub ruleset sixteen_digits = (sixteen_read, sixteen_none)

pub no_policy_line : (line : List ℕ) → line ≢ codes "POLICY keep" → line ≢ codes "POLICY eager" → ((n : ℕ) → n < 2 ^ 64 → policy_text (Mixed n) ≢ line) → ¬ IsPolicyLine line
no_policy_line line keep eager mixed (Keep, fits, e) = keep (sym e)
no_policy_line line keep eager mixed (Eager, fits, e) = eager (sym e)
no_policy_line line keep eager mixed (Mixed n, fits, e) = mixed n fits e
