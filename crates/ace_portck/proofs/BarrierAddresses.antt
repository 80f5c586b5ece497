-- What half of a barrier is, by the AR or AW that issues it.
use Rattle.std.proofs.Common.{◌≡◌, ℕ, Bool, true, false, Some, None, length, refl, sym, ap, subst, ◌∙◌, inl, inr}
use Rattle.std.proofs.lemmas.Bool.{or_cases}
use Rattle.ace_portck.proofs.Terms.{ArKind, AwKind, ar_kind_of, aw_kind_of, Event, Ar, Aw, is_barrier_half, is_read_barrier, is_write_barrier, Trace, is_some_and, Transaction, IssuesHalf}
use Rattle.ace_codes.specs.declared.kind.ArKind.TheVariants as read
use Rattle.ace_codes.specs.declared.kind.AwKind.TheVariants as write
use Rattle.ace_model.proofs.General.Options.{Some-injective, is_some_and-is}
use Rattle.ace_model.proofs.Trace.Outstanding.{write_issued}
use Rattle.ace_portck.proofs.ReadAddresses.{read_of}

one-read : (k : ArKind) → is_read_barrier k ≡ true → k ≡ read.Barrier
one-read read.Barrier t = refl
one-read k t = cc

one-write : (k : AwKind) → is_write_barrier k ≡ true → k ≡ write.Barrier
one-write write.Barrier t = refl
one-write k t = cc

-- the kind of a half, by its channel
pub read_half-kind : (place p i addr snoop dom bar : ℕ) (lock : Bool) → is_barrier_half (read_of place p i addr snoop dom bar lock) ≡ true → ar_kind_of snoop dom bar ≡ Some read.Barrier
read_half-kind place p i addr snoop dom bar lock half =
    elim (or_cases (is_some_and (ar_kind_of snoop dom bar) is_read_barrier) false half) [
      | inl t ↦ let k = is_some_and-is (ar_kind_of snoop dom bar) is_read_barrier t in k.1 ∙ ap Some (one-read k.0 k.2)
      | inr f ↦ cc
    ]

pub write_half-kind : (past : Trace) (p i addr snoop dom bar : ℕ) → is_barrier_half (write_issued past p i addr snoop dom bar) ≡ true → aw_kind_of snoop dom bar ≡ Some write.Barrier
write_half-kind past p i addr snoop dom bar half =
    let k = is_some_and-is (aw_kind_of snoop dom bar) is_write_barrier half in k.1 ∙ ap Some (one-write k.0 k.2)

-- what is so of the halves that an AR and an AW issue is so of each that is issued
pub each-half : (P : Event → Transaction → Type 0) (past : Trace)
    → ((p i addr snoop dom bar : ℕ) (lock : Bool) → ar_kind_of snoop dom bar ≡ Some read.Barrier → lock ≡ false
    → P (Ar p i addr snoop dom bar lock) (read_of (length past) p i addr snoop dom bar lock))
    → ((p i addr snoop dom bar : ℕ) → aw_kind_of snoop dom bar ≡ Some write.Barrier → P (Aw p i addr snoop dom bar) (write_issued past p i addr snoop dom bar))
    → (e : Event) (x : Transaction) → IssuesHalf past e x → P e x
each-half P past reads writes (Ar p i addr snoop dom bar lock) x is =
    let same : read_of (length past) p i addr snoop dom bar lock ≡ x = Some-injective (read_of (length past) p i addr snoop dom bar lock) x is.issues in
    subst (P (Ar p i addr snoop dom bar lock)) same
    (reads p i addr snoop dom bar lock
    (read_half-kind (length past) p i addr snoop dom bar lock (subst (λ z. is_barrier_half z ≡ true) (sym same) is.half))
    (subst (λ (z : Transaction). z.lock ≡ false) (sym same) is.unlocked))
each-half P past reads writes (Aw p i addr snoop dom bar) x is =
    let same : write_issued past p i addr snoop dom bar ≡ x = Some-injective (write_issued past p i addr snoop dom bar) x is.issues in
    subst (P (Aw p i addr snoop dom bar)) same
    (writes p i addr snoop dom bar (write_half-kind past p i addr snoop dom bar (subst (λ z. is_barrier_half z ≡ true) (sym same) is.half)))
each-half P past reads writes e x is = let bad : None ≡ Some x = is.issues in cc
