-- The AW of a line write: it breaks no rule of the share, and moves nothing of it.
use Rattle.std.proofs.Common.{◌≡◌, ◌<◌, ◌-◌, ◌^◌, ℕ, true, length, Some, None, refl}
use Rattle.ace_sysck.proofs.Terms.{AwKind, Aw, least_broken, least_of, k9, is_barrier_half, k38, system_rules, Header, Trace, line_write_kind, Recording, after, SysCheck, Stands}
use Rattle.ace_model.proofs.Trace.Outstanding.{write_issued}
use Rattle.ace_portck.proofs.WriteAddresses.{write-no_half}
use Rattle.ace_sysck.proofs.ByKind.ReadAddresses.{all-three, idle, issue-stands, two-rules}
use Rattle.ace_sysck.proofs.Unmoved.{results_still}

module _ (h : Header) (past : Trace) (p i addr snoop dom bar : ℕ) (k : AwKind) (is : line_write_kind snoop dom bar ≡ Some k) where
  k9-kept : k9 h past (Aw p i addr snoop dom bar) ≡ true
  k9-kept =
      all-three _ true true (idle (is_barrier_half (write_issued past p i addr snoop dom bar)) _ (write-no_half past p i addr snoop dom bar k is)) refl refl

  -- it breaks no rule of the share
  pub system-keeps : least_of system_rules h past (Aw p i addr snoop dom bar) ≡ None
  system-keeps = two-rules (k9 h past (Aw p i addr snoop dom bar)) (k38 h past (Aw p i addr snoop dom bar)) k9-kept refl

-- what is kept stands after it as it is
pub system-begun : (s : SysCheck) (r : Recording) (p i addr snoop dom bar : ℕ) (k : AwKind) → Stands s r → line_write_kind snoop dom bar ≡ Some k
    → least_broken r.header r.past (Aw p i addr snoop dom bar) ≡ None → length r.past < 2 ^ 64 - 1 → i < 256 → Stands s (after r (Aw p i addr snoop dom bar))
system-begun s r p i addr snoop dom bar k st is fine few low =
    issue-stands s s.results r (Aw p i addr snoop dom bar) (write_issued r.past p i addr snoop dom bar) st refl refl (write-no_half r.past p i addr snoop dom bar k is) refl refl low fine few
    (results_still r s.results (Aw p i addr snoop dom bar) refl st.results)
