-- Neither a memory update nor an Evict has an AWSNOOP below 2.
use Rattle.std.proofs.Common.{◌≡◌, ◌<◌, ℕ, Bool, true, false, nat_eq, if◌then◌else◌, Option, None, Some, refl, subst, arith}
use Rattle.std.proofs.lemmas.Bool.{and_parts, eqb-true}
use Rattle.ace_codes.specs.declared.kind.AwKind.{AwKind}
use Rattle.ace_codes.specs.declared.kind.AwKind.TheVariants as write
use Rattle.ace_codes.specs.Places.{is_at, is_in}
use Rattle.ace_codes.specs.Writes.{aw_code, aw_kind_of, write_place, writes}
use Rattle.ace_model.specs.Kinds.{is_evict, is_update}
use Rattle.ace_model.specs.Progress.{evicts, updates_memory}
use Rattle.ace_model.specs.Trace.{is_some_and}
use Rattle.ace_model.specs.Transactions.{is_read, write_kind}
use Rattle.ace_model.specs.declared.transactions.Transaction.{Transaction}
use Rattle.ace_model.proofs.Outstanding.Issued.{find-some}

-- a kind stands at its code
code-at : (s d b : ℕ) (k : AwKind) → aw_kind_of s d b ≡ Some k → s ≡ aw_code k
unfolding aw_kind_of
code-at s d b k e = eqb-true s (aw_code k) (and_parts (is_in (write_place k) d b) (nat_eq s (aw_code k)) (find-some (λ kind. is_at (write_place kind) s d b) writes k e).1).1

else-some : {A : Type 0} → (b : Bool) (o : Option A) (k : A) → (if b then None else o) ≡ Some k → o ≡ Some k
else-some true o k e = cc
else-some false o k e = e

low-none : (test : AwKind → Bool) → ((k : AwKind) → aw_code k < 2 → test k ≡ false) → (x : Transaction) → x.snoop < 2 → is_some_and (write_kind x) test ≡ false
low-none test none x low = by (write_kind x) refl
  where
    by : (o : Option AwKind) → write_kind x ≡ o → is_some_and o test ≡ false
    by None e = refl
    by (Some k) e = none k (subst (λ n. n < 2) (code-at x.snoop x.dom x.bar k (else-some (is_read x.chan) (aw_kind_of x.snoop x.dom x.bar) k e)) low)

no-update-code : (k : AwKind) → aw_code k < 2 → is_update k ≡ false
no-update-code write.WriteClean low = absurd (omega (arith, low))
no-update-code write.WriteBack low = absurd (omega (arith, low))
no-update-code write.WriteEvict low = absurd (omega (arith, low))
no-update-code k low = refl

no-evict-code : (k : AwKind) → aw_code k < 2 → is_evict k ≡ false
no-evict-code write.Evict low = absurd (omega (arith, low))
no-evict-code k low = refl

pub low-no-update : (x : Transaction) → x.snoop < 2 → updates_memory x ≡ false
low-no-update = low-none is_update no-update-code

pub low-no-evict : (x : Transaction) → x.snoop < 2 → evicts x ≡ false
low-no-evict = low-none is_evict no-evict-code
