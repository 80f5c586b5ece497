-- The line of an event is that of what it belongs to.
use Rattle.std.proofs.Common.{◌≡◌, ℕ, true, false, Bool, ◌&&◌, if◌then◌else◌, nat_eq, Option, Some, None, option_map, sym, ap, ◌∙◌}
use Rattle.std.proofs.lemmas.Bool.{eqb-true, eq-eqb, false_from_ne_true}
use Rattle.ace_lineck.proofs.Terms.{Snoop, Transaction, Header, Trace, Event, Channel, is_line, is_some_on, is_some_and, snoops_a_line, is_snoop_on, outstanding, transaction_of, line_of, line_of_snoop, line_in, progress_of}
use Rattle.ace_model.proofs.General.Options.{Some-injective, is_some_and-is}
use Rattle.ace_model.proofs.Trace.Issued.{outstanding-named}

-- the event is not on the line
abbrev pub IsOff : Header → Trace → Event → ℕ → Type 0
IsOff h past e l = line_in h past e ≡ Some l → ⊥

address-is : (b : Bool) (addr l : ℕ) → (if b then Some addr else None) ≡ Some l → (b && nat_eq addr l) ≡ true
address-is true addr l e = eq-eqb addr l (Some-injective addr l e)
address-is false addr l e = cc

is-address : (b : Bool) (addr l : ℕ) → (b && nat_eq addr l) ≡ true → (if b then Some addr else None) ≡ Some l
is-address true addr l e = ap Some (eqb-true addr l e)
is-address false addr l e = cc

module _ (h : Header) (past : Trace) where
  -- of a transaction
  pub on-transaction : (o : Option Transaction) (l : ℕ) → line_of (option_map (progress_of h past) o) ≡ Some l → is_some_on o l ≡ true
  on-transaction None l e = cc
  on-transaction (Some x) l e = address-is (is_line x) x.addr l e

  pub line-transaction : (o : Option Transaction) (l : ℕ) → is_some_on o l ≡ true → line_of (option_map (progress_of h past) o) ≡ Some l
  line-transaction None l e = cc
  line-transaction (Some x) l e = is-address (is_line x) x.addr l e

  pub off-transaction : (o : Option Transaction) (l : ℕ) → (line_of (option_map (progress_of h past) o) ≡ Some l → ⊥) → is_some_on o l ≡ false
  off-transaction o l n = false_from_ne_true (is_some_on o l) (λ t. n (line-transaction o l t))

  -- where an outstanding transaction passes a test, its name means it
  pub outstanding-of : (p : ℕ) (c : Channel) (i : ℕ) (test : Transaction → Bool) → is_some_and (outstanding h past p c i) test ≡ true
      → transaction_of past p c i ≡ outstanding h past p c i
  outstanding-of p c i test t =
      let x = is_some_and-is (outstanding h past p c i) test t in
      outstanding-named h past p c i x.0 x.1 ∙ sym x.1

-- of a snoop
pub on-snoop : (o : Option Snoop) (l : ℕ) → line_of_snoop o ≡ Some l → is_some_and o (λ s. is_snoop_on s l) ≡ true
on-snoop None l e = cc
on-snoop (Some s) l e = address-is (snoops_a_line s.snoop) s.addr l e

pub line-snoop : (o : Option Snoop) (l : ℕ) → is_some_and o (λ s. is_snoop_on s l) ≡ true → line_of_snoop o ≡ Some l
line-snoop None l e = cc
line-snoop (Some s) l e = is-address (snoops_a_line s.snoop) s.addr l e
