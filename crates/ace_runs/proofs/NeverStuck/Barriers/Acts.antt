-- Which acts are halves of barriers: those of mb and sb alone.
use Rattle.std.proofs.Common.{◌≡◌, ◌⊎◌, ℕ, Bool, true, false, ◌&&◌, ◌||◌, ◌==◌, Some, inl, inr, refl}
use Rattle.std.specs.List.{list_any}
use Rattle.std.proofs.lemmas.Bool.{and_parts, or_cases, or_left, eqb-true}
use Rattle.ace_codes.specs.declared.kind.ArKind.{ArKind}
use Rattle.ace_codes.specs.declared.kind.ArKind.TheVariants as read
use Rattle.ace_codes.specs.declared.kind.AwKind.{AwKind}
use Rattle.ace_codes.specs.declared.kind.AwKind.TheVariants as write
use Rattle.ace_codes.specs.Places.{is_at, is_barrier, is_normal}
use Rattle.ace_codes.specs.Reads.{ar_kind_of, read_place, reads}
use Rattle.ace_codes.specs.Writes.{aw_kind_of, write_place, writes}
use Rattle.ace_event.specs.declared.event.Event.TheVariants.{Ar, Aw}
use Rattle.ace_model.specs.declared.plans.Op.{Op}
use Rattle.ace_model.specs.declared.plans.Op.TheVariants.{Ro, Cs, Ci, Mi, Rn, Wu, Wlu, Wn, Mb, Sb, Dvm, Sync, Dvm2}
use Rattle.ace_model.specs.Kinds.{is_read_barrier, is_write_barrier}
use Rattle.ace_model.specs.Trace.{is_some_and}
use Rattle.ace_model.proofs.General.Options.{is_some_and-is}
use Rattle.ace_model.proofs.Outstanding.Issued.{find-some}
use Rattle.ace_runs.specs.Acts.{acts_of, issues_read, issues_write}

-- the operation is a barrier
abbrev pub is_barrier_operation : Op → Bool
is_barrier_operation Mb = true
is_barrier_operation Sb = true
is_barrier_operation _ = false

pub place-of-read : (code domain bar : ℕ) (k : ArKind) → ar_kind_of code domain bar ≡ Some k → is_at (read_place k) code domain bar ≡ true
unfolding ar_kind_of
place-of-read code domain bar k is = (find-some (λ kind. is_at (read_place kind) code domain bar) reads k is).1

pub place-of-write : (code domain bar : ℕ) (k : AwKind) → aw_kind_of code domain bar ≡ Some k → is_at (write_place k) code domain bar ≡ true
unfolding aw_kind_of
place-of-write code domain bar k is = (find-some (λ kind. is_at (write_place kind) code domain bar) writes k is).1

bar-first : (a b c : Bool) → ((a && b) && c) ≡ true → a ≡ true
bar-first true b c e = refl
bar-first false b c e = cc

-- a barrier has the bar of one
pub read-barrier-bar : (code domain bar : ℕ) → is_some_and (ar_kind_of code domain bar) is_read_barrier ≡ true → is_barrier bar ≡ true
read-barrier-bar code domain bar b = of (is_some_and-is (ar_kind_of code domain bar) is_read_barrier b)
  where
    of : (k : ArKind) × (ar_kind_of code domain bar ≡ Some k) × (is_read_barrier k ≡ true) → is_barrier bar ≡ true
    of (read.Barrier, is, b) = bar-first (is_barrier bar) _ _ (place-of-read code domain bar read.Barrier is)
    of (k, is, b) = cc

pub write-barrier-bar : (code domain bar : ℕ) → is_some_and (aw_kind_of code domain bar) is_write_barrier ≡ true → is_barrier bar ≡ true
write-barrier-bar code domain bar b = of (is_some_and-is (aw_kind_of code domain bar) is_write_barrier b)
  where
    of : (k : AwKind) × (aw_kind_of code domain bar ≡ Some k) × (is_write_barrier k ≡ true) → is_barrier bar ≡ true
    of (write.Barrier, is, b) = bar-first (is_barrier bar) _ _ (place-of-write code domain bar write.Barrier is)
    of (k, is, b) = cc

-- which no normal access has
pub not-both : (bar : ℕ) → is_barrier bar ≡ true → is_normal bar ≡ true → ⊥
not-both bar b n =
    elim (or_cases (bar == 1) (bar == 3) b) [
      | inl one ↦ let is = eqb-true bar 1 one in let bad : false ≡ true = rw is at n in cc
      | inr three ↦ let is = eqb-true bar 3 three in let bad : false ≡ true = rw is at n in cc
    ]

-- a read of a kind that is no barrier, as an act, is a normal access
read-normal : (k : ArKind) (a p i addr snoop dom bar : ℕ) (lock : Bool) → is_read_barrier k ≡ false → (issues_read k a (Ar p i addr snoop dom bar lock) || false) ≡ true
    → is_normal bar ≡ true
read-normal read.Barrier a p i addr snoop dom bar lock none e = cc
read-normal k a p i addr snoop dom bar lock none e =
    elim (or_cases (issues_read k a (Ar p i addr snoop dom bar lock)) false e) [
      | inl t ↦ bar-first (is_normal bar) _ _ (and_parts (is_at (read_place k) snoop dom bar) (addr == a) t).0
      | inr f ↦ cc
    ]

write-normal : (k : AwKind) (a p i addr snoop dom bar : ℕ) → is_write_barrier k ≡ false → (issues_write k a (Aw p i addr snoop dom bar) || false) ≡ true
    → is_normal bar ≡ true
write-normal write.Barrier a p i addr snoop dom bar none e = cc
write-normal k a p i addr snoop dom bar none e =
    elim (or_cases (issues_write k a (Aw p i addr snoop dom bar)) false e) [
      | inl t ↦ bar-first (is_normal bar) _ _ (and_parts (is_at (write_place k) snoop dom bar) (addr == a) t).0
      | inr f ↦ cc
    ]

-- the AR is an act of the operation, so the operation is a barrier, or the AR is a normal access
pub read-act : (op : Op) (p i addr snoop dom bar : ℕ) (lock : Bool) → list_any (λ fits. fits (Ar p i addr snoop dom bar lock)) (acts_of op) ≡ true
    → (is_barrier_operation op ≡ true) ⊎ (is_normal bar ≡ true)
read-act Mb p i addr snoop dom bar lock e = inl refl
read-act Sb p i addr snoop dom bar lock e = inl refl
read-act (Ro a) p i addr snoop dom bar lock e = inr (read-normal read.ReadOnce a p i addr snoop dom bar lock refl e)
read-act (Cs a) p i addr snoop dom bar lock e = inr (read-normal read.CleanShared a p i addr snoop dom bar lock refl e)
read-act (Ci a) p i addr snoop dom bar lock e = inr (read-normal read.CleanInvalid a p i addr snoop dom bar lock refl e)
read-act (Mi a) p i addr snoop dom bar lock e = inr (read-normal read.MakeInvalid a p i addr snoop dom bar lock refl e)
read-act (Rn a) p i addr snoop dom bar lock e = inr (read-normal read.ReadNoSnoop a p i addr snoop dom bar lock refl e)
read-act (Dvm word) p i addr snoop dom bar lock e = inr (read-normal read.DvmMessage word p i addr snoop dom bar lock refl e)
read-act (Sync word) p i addr snoop dom bar lock e = inr (read-normal read.DvmMessage word p i addr snoop dom bar lock refl e)
read-act (Dvm2 word second) p i addr snoop dom bar lock e =
    elim (or_cases (issues_read read.DvmMessage word (Ar p i addr snoop dom bar lock)) _ e) [
      | inl t ↦ inr (read-normal read.DvmMessage word p i addr snoop dom bar lock refl (or_left _ false t))
      | inr t ↦ inr (read-normal read.DvmMessage second p i addr snoop dom bar lock refl t)
    ]
read-act op p i addr snoop dom bar lock e = cc

pub write-act : (op : Op) (p i addr snoop dom bar : ℕ) → list_any (λ fits. fits (Aw p i addr snoop dom bar)) (acts_of op) ≡ true
    → (is_barrier_operation op ≡ true) ⊎ (is_normal bar ≡ true)
write-act Mb p i addr snoop dom bar e = inl refl
write-act Sb p i addr snoop dom bar e = inl refl
write-act (Wu a strobe line) p i addr snoop dom bar e = inr (write-normal write.WriteUnique a p i addr snoop dom bar refl e)
write-act (Wlu a line) p i addr snoop dom bar e = inr (write-normal write.WriteLineUnique a p i addr snoop dom bar refl e)
write-act (Wn a strobe line) p i addr snoop dom bar e = inr (write-normal write.WriteNoSnoop a p i addr snoop dom bar refl e)
write-act op p i addr snoop dom bar e = cc
