-- The kind of a read with the codes of a fetch or of a DVM Complete.
use Rattle.std.proofs.Common.{◌≡◌, ℕ, true, ◌&&◌, ◌==◌, Some, refl, sym, subst, inl, inr}
use Rattle.std.proofs.lemmas.Bool.{and_parts, eqb-true, or_cases}
use Rattle.ace_codes.specs.declared.kind.ArKind.{ArKind}
use Rattle.ace_codes.specs.declared.kind.ArKind.TheVariants as read
use Rattle.ace_codes.specs.Places.{is_at, is_normal, is_shareable}
use Rattle.ace_codes.specs.Reads.{ar_kind_of, read_place}
use Rattle.ace_tables.specs.EndStates.{is_fetch}

-- a fact of the two bars and the two domains of a shareable access
shareable : (P : ℕ → ℕ → ℕ → Type 0) (n code dom bar : ℕ) → (is_normal bar && is_shareable dom && (code == n)) ≡ true → P n 1 0 → P n 1 2 → P n 2 0 → P n 2 2 → P code dom bar
shareable P n code dom bar at a b c d =
    let parts = and_parts (is_normal bar && is_shareable dom) (code == n) at in
    let both = and_parts (is_normal bar) (is_shareable dom) parts.0 in
    subst (λ m. P m dom bar) (sym (eqb-true code n parts.1))
    (elim (or_cases (dom == 1) (dom == 2) both.1) [
      | inl one ↦ subst (λ m. P n m bar) (sym (eqb-true dom 1 one)) (elim (or_cases (bar == 0) (bar == 2) both.0) [
        | inl zero ↦ subst (P n 1) (sym (eqb-true bar 0 zero)) a
        | inr two ↦ subst (P n 1) (sym (eqb-true bar 2 two)) b
      ])
      | inr second ↦ subst (λ m. P n m bar) (sym (eqb-true dom 2 second)) (elim (or_cases (bar == 0) (bar == 2) both.0) [
        | inl zero ↦ subst (P n 2) (sym (eqb-true bar 0 zero)) c
        | inr two ↦ subst (P n 2) (sym (eqb-true bar 2 two)) d
      ])
    ])

pub fetch-there : (k : ArKind) (code dom bar : ℕ) → is_fetch k ≡ true → is_at (read_place k) code dom bar ≡ true → ar_kind_of code dom bar ≡ Some k
unfolding ar_kind_of
fetch-there read.ReadShared code dom bar f at = shareable (λ c d b. ar_kind_of c d b ≡ Some read.ReadShared) 1 code dom bar at refl refl refl refl
fetch-there read.ReadClean code dom bar f at = shareable (λ c d b. ar_kind_of c d b ≡ Some read.ReadClean) 2 code dom bar at refl refl refl refl
fetch-there read.ReadNotSharedDirty code dom bar f at = shareable (λ c d b. ar_kind_of c d b ≡ Some read.ReadNotSharedDirty) 3 code dom bar at refl refl refl refl
fetch-there read.ReadUnique code dom bar f at = shareable (λ c d b. ar_kind_of c d b ≡ Some read.ReadUnique) 7 code dom bar at refl refl refl refl
fetch-there k code dom bar f at = cc

pub completion-there : (code dom bar : ℕ) → is_at (read_place read.DvmComplete) code dom bar ≡ true → ar_kind_of code dom bar ≡ Some read.DvmComplete
unfolding ar_kind_of
completion-there code dom bar at = shareable (λ c d b. ar_kind_of c d b ≡ Some read.DvmComplete) 14 code dom bar at refl refl refl refl
