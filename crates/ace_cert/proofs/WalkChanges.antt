-- What an M does to a line.
use Rattle.std.proofs.Common.{◌≡◌, inl, inr, ℕ, true, nat_eq, Some, refl}
use Rattle.std.proofs.lemmas.Bool.{cases_Bool}
use Rattle.ace_event.specs.declared.line.Line.{Line}
use Rattle.ace_event.specs.Bytes.{merged}
use Rattle.ace_model.specs.declared.transactions.Transaction.{Transaction}
use Rattle.ace_model.proofs.Terms.{M, Channel, Trace, burst_line, burst_of, burst_strobe, is_line, opened, stores_data, transaction_of, written}
use Rattle.ace_cert.specs.declared.verification.bursts.Bytes.{Bytes}
use Rattle.ace_cert.specs.Walk.{IsChangeOf, by_memory_write}

-- an M
pub m-changes : (past : Trace) (p : ℕ) (c : Channel) (i : ℕ) (line : Line) (x : Transaction) (burst : Bytes) (l : ℕ) → transaction_of past p c i ≡ Some x
    → (stores_data x ≡ true → (v : Line) → merged v (burst_strobe (burst_of past x)) (burst_line (burst_of past x)) ≡ merged v burst.strobe burst.line)
    → IsChangeOf past (M p c i line) (by_memory_write x line burst) l
m-changes past p c i line x burst l is same =
    elim (cases_Bool (is_line x)) [
      | inr f ↦ elim (cases_Bool (stores_data x)) [
        | inr g ↦ record { named = rw f refl; written = rw (is, f) refl; opened = rw f refl; store = rw (is, f, g) refl; value = λ v. rw (is, f, g) refl }
        | inl g ↦ record { named = rw f refl; written = rw (is, f) refl; opened = rw f refl; store = rw (is, f, g) refl; value = λ v. rw (is, f, g) refl }
      ]
      | inl t ↦ elim (cases_Bool (nat_eq x.addr l)) [
        | inr f ↦ elim (cases_Bool (stores_data x)) [
          | inr g ↦ record { named = rw (t, f) refl; written = rw (is, t, f) refl; opened = rw (t, f) refl; store = rw (is, t, f, g) refl; value = λ v. rw (is, t, f, g) refl }
          | inl g ↦ record { named = rw (t, f) refl; written = rw (is, t, f) refl; opened = rw (t, f) refl; store = rw (is, t, f, g) refl; value = λ v. rw (is, t, f, g) refl }
        ]
        | inl u ↦ elim (cases_Bool (stores_data x)) [
          | inr g ↦ record { named = rw (t, u) refl; written = rw (is, t, u) refl; opened = rw (t, u) refl; store = rw (is, t, u, g) refl; value = λ v. rw (is, t, u, g) refl }
          | inl g ↦ record { named = rw (t, u) refl; written = rw (is, t, u) refl; opened = rw (t, u) refl; store = rw (is, t, u, g) refl; value = λ v. rw (is, t, u, g) (same g v) }
        ]
      ]
    ]
