-- What the AR of a line read and the AW of a line write ask of their line: K6 and K8.
use Rattle.std.proofs.Common.{◌≡◌, ℕ, Bool, true, false, ◌&&◌, ◌||◌, if◌then◌else◌, length, Some, None, refl, sym, ap, ◌∙◌}
use Rattle.ace_lineck.proofs.Terms.{ar_kind_of, ArKind, Ar, Aw, starts_read, starts_write, least_of, is_line_read, is_no_snoop_read, is_line_write, is_no_snoop_write, line_rules, Transaction, Header, Trace, IsAccepted, implies, is_none_or, is_some_and, is_line, is_no_snoop, is_used_alike, each_issued, state_of, k6, k8, use_of, goes_with, aw_kind_of, AwKind}
use Rattle.ace_portck.proofs.ReadAddresses.{read_of}
use Rattle.ace_lineck.proofs.Asked.{ruled}
use Rattle.ace_lineck.proofs.RuleLaws.{uses-law}
use Rattle.ace_model.proofs.Trace.Outstanding.{write_issued}

pub under : (b c : Bool) → b ≡ true → implies b c ≡ c
under true c t = refl
under false c t = cc

and-true : (b : Bool) → (b && true) ≡ b
and-true true = refl
and-true false = refl

or-false : (b : Bool) → (b || false) ≡ b
or-false true = refl
or-false false = refl

module _ (h : Header) (past : Trace) (p i addr snoop dom bar : ℕ) (lock : Bool) (k : ArKind) (kind : ar_kind_of snoop dom bar ≡ Some k) (on : is_line_read k ≡ true) where
  abbrev read : Transaction
  read = read_of (length past) p i addr snoop dom bar lock

  read-line : is_line read ≡ true
  read-line = rw (kind, on) refl

  -- K6 asks whether the kind starts from the state of the port
  read-starts : k6 h past (Ar p i addr snoop dom bar lock) ≡ starts_read k (state_of h past p addr)
  read-starts =
      under (is_line read) _ read-line
      ∙ ap (λ o. is_none_or o (λ j. starts_read j (state_of h past p addr)) && true) kind
      ∙ and-true (starts_read k (state_of h past p addr))

  pub read-unshared : is_no_snoop read ≡ is_no_snoop_read k
  read-unshared = ap (λ o. is_some_and o is_no_snoop_read || false) kind ∙ or-false (is_no_snoop_read k)

  -- and K8 whether it goes with the use of the line
  read-goes : IsAccepted h past → k8 h past (Ar p i addr snoop dom bar lock) ≡ goes_with (use_of past addr) (is_no_snoop_read k)
  read-goes a =
      under (is_line read) (each_issued past (is_used_alike read)) read-line
      ∙ sym (uses-law h past a read)
      ∙ ap (goes_with (use_of past addr)) read-unshared

  pub read-address-rule : IsAccepted h past
      → (if starts_read k (state_of h past p addr) then (if goes_with (use_of past addr) (is_no_snoop_read k) then None else Some 8) else Some 6)
      ≡ least_of line_rules h past (Ar p i addr snoop dom bar lock)
  read-address-rule a =
      ruled (starts_read k (state_of h past p addr)) (k6 h past (Ar p i addr snoop dom bar lock)) 6
      (if goes_with (use_of past addr) (is_no_snoop_read k) then None else Some 8) (if k8 h past (Ar p i addr snoop dom bar lock) then None else Some 8)
      (sym read-starts)
      (λ kept. ruled (goes_with (use_of past addr) (is_no_snoop_read k)) (k8 h past (Ar p i addr snoop dom bar lock)) 8 None None (sym (read-goes a)) (λ kept. refl))

-- the same of a write
module _ (h : Header) (past : Trace) (p i addr snoop dom bar : ℕ) (k : AwKind) (kind : aw_kind_of snoop dom bar ≡ Some k) (on : is_line_write k ≡ true) where
  write-line : is_line (write_issued past p i addr snoop dom bar) ≡ true
  write-line = rw (kind, on) refl

  -- K6 asks whether the kind starts from the state of the port
  write-starts : k6 h past (Aw p i addr snoop dom bar) ≡ starts_write k (state_of h past p addr)
  write-starts = under (is_line (write_issued past p i addr snoop dom bar)) _ write-line ∙ ap (λ o. is_none_or o (λ j. starts_write j (state_of h past p addr))) kind

  write-unshared : is_no_snoop (write_issued past p i addr snoop dom bar) ≡ is_no_snoop_write k
  write-unshared = ap (λ o. is_some_and o is_no_snoop_write) kind

  -- and K8 whether it goes with the use of the line
  write-goes : IsAccepted h past → k8 h past (Aw p i addr snoop dom bar) ≡ goes_with (use_of past addr) (is_no_snoop_write k)
  write-goes a =
      under (is_line (write_issued past p i addr snoop dom bar)) (each_issued past (is_used_alike (write_issued past p i addr snoop dom bar))) write-line
      ∙ sym (uses-law h past a (write_issued past p i addr snoop dom bar))
      ∙ ap (goes_with (use_of past addr)) write-unshared

  pub write-address-rule : IsAccepted h past
      → (if starts_write k (state_of h past p addr) then (if goes_with (use_of past addr) (is_no_snoop_write k) then None else Some 8) else Some 6)
      ≡ least_of line_rules h past (Aw p i addr snoop dom bar)
  write-address-rule a =
      ruled (starts_write k (state_of h past p addr)) (k6 h past (Aw p i addr snoop dom bar)) 6
      (if goes_with (use_of past addr) (is_no_snoop_write k) then None else Some 8) (if k8 h past (Aw p i addr snoop dom bar) then None else Some 8)
      (sym write-starts)
      (λ kept. ruled (goes_with (use_of past addr) (is_no_snoop_write k)) (k8 h past (Aw p i addr snoop dom bar)) 8 None None (sym (write-goes a)) (λ kept. refl))
