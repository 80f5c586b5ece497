-- What a DVM read is.
use Rattle.std.proofs.Common.{◌≡◌, ℕ, Bool, true, false, not, ◌&&◌, Some, refl, subst}
use Rattle.std.proofs.lemmas.Bool.{and_parts, not-true}
use Rattle.ace_portck.proofs.Terms.{ArKind, ar_kind_of, is_dvm_complete, is_some_and}
use Rattle.ace_codes.specs.declared.kind.ArKind.TheVariants as read
use Rattle.ace_model.proofs.General.Options.{is_some_and-is}
use Rattle.ace_portck.specs.DvmReads.{is_completion}

-- What the fields of the AR of a read of the kind with lock 0 say.
pub record AreFields (snoop dom bar : ℕ) (lock : Bool) (k : ArKind) : Type 0 where
  pub kind : ar_kind_of snoop dom bar ≡ Some k
  pub unlocked : lock ≡ false

fields-where : (snoop dom bar : ℕ) (lock : Bool) (test : ArKind → Bool) → (is_some_and (ar_kind_of snoop dom bar) test && not lock) ≡ true
    → (k : ArKind) × AreFields snoop dom bar lock k × (test k ≡ true)
fields-where snoop dom bar lock test t =
    let parts = and_parts (is_some_and (ar_kind_of snoop dom bar) test) (not lock) t in
    let k = is_some_and-is (ar_kind_of snoop dom bar) test parts.0 in
    (k.0, record { kind = k.1; unlocked = not-true lock parts.1 }, k.2)

one-completion : (k : ArKind) → is_dvm_complete k ≡ true → k ≡ read.DvmComplete
one-completion read.DvmComplete t = refl
one-completion k t = cc

pub completion-is : (snoop dom bar : ℕ) (lock : Bool) → is_completion snoop dom bar lock ≡ true → AreFields snoop dom bar lock read.DvmComplete
completion-is snoop dom bar lock t =
    let f = fields-where snoop dom bar lock is_dvm_complete t in
    subst (AreFields snoop dom bar lock) (one-completion f.0 f.2) f.1
