-- Every event but an RK lessens the states that the ports hold, and but an RK or a D makes no line dirty.
use Rattle.std.proofs.Common.{◌≡◌, ℕ, Bool, true, false, ◌∷◌, refl}
use Rattle.ace_model.proofs.Terms.{Header, Event, Rk, Wk, Cr, S, D, Trace, state_of}
use Rattle.ace_model.proofs.Tables.Less.{Less, less_self, less-lessens}
use Rattle.ace_model.proofs.Holders.Kept.{LessenedAt}
use Rattle.ace_model.proofs.Holders.RestsOn.{KeepsEach}
use Rattle.ace_model.proofs.Holders.Stores.{less_s, lessened_d}
use Rattle.ace_model.proofs.Holders.Snoop.{less_cr}
use Rattle.ace_model.proofs.Holders.Write.{less_wk}

abbrev pub ends_a_read : Event → Bool
ends_a_read (Rk q st) = true
ends_a_read _ = false

abbrev pub may_dirty : Event → Bool
may_dirty (Rk q st) = true
may_dirty (D q addr strobe x line) = true
may_dirty _ = false

pub less_by : (h : Header) (past : Trace) (e : Event) → KeepsEach h past e → may_dirty e ≡ false → (r l : ℕ)
    → Less (state_of h past r l) (state_of h (e ∷ past) r l)
less_by h past (Rk q st) k t r l = cc
less_by h past (D q addr strobe x line) k t r l = cc
less_by h past (Wk q st) k t r l = less_wk h past q st (k 28) r l
less_by h past (Cr q resp st) k t r l = less_cr h past q resp st (k 15) r l
less_by h past (S q addr st) k t r l = less_s h past q addr st (k 29) r l
less_by h past e k t r l = less_self (state_of h past r l)

pub lessened_by : (h : Header) (past : Trace) (e : Event) → KeepsEach h past e → ends_a_read e ≡ false → (l : ℕ) → LessenedAt h past e l
lessened_by h past (Rk q st) k t l r = cc
lessened_by h past (D q addr strobe x line) k t l r = lessened_d h past q addr strobe x line (k 32) l r
lessened_by h past e k t l r = less-lessens _ _ (less_by h past e k refl r l)
