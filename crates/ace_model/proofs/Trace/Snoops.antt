-- A snoop knows its place.
use Rattle.std.proofs.Common.{◌≡◌, ℕ, ◌<◌, nat_eq, [], ◌∷◌, length, Some, slice_get, sym, ap, arith, inl, inr}
use Rattle.ace_model.proofs.Terms.{Event, Ac, Snoop, Trace, snoop_at, snoops_of}
use Rattle.ace_model.proofs.General.Lists.{slice_get-more}
use Rattle.ace_model.proofs.General.Options.{some_if-is}

-- a snoop knows how many events came before it
snoop_at-place : (n : ℕ) (e : Event) (r : ℕ) (s : Snoop) → snoop_at n e r ≡ Some s → s.place ≡ n
snoop_at-place n (Ac q addr code) r s is = ap (λ (v : Snoop). v.place) (sym (some_if-is (nat_eq r q) _ s is).1)
snoop_at-place n e r s is = cc

pub snoops-before : (past : Trace) (r n : ℕ) (s : Snoop) → slice_get (snoops_of past r) n ≡ Some s → s.place < length past
snoops-before [] r n s e = cc
snoops-before (e ∷ past) r n s is =
    elim (slice_get-more (snoops_of past r) (snoop_at (length past) e r) n s is) [
      | inl old ↦ let b = snoops-before past r n s old in omega arith
      | inr new ↦ let at = snoop_at-place (length past) e r s new.1 in omega (arith, at)
    ]
