-- Which rules an R may break, and what the next transfer of an outstanding read is and leaves.
use Rattle.std.proofs.Common.{◌≡◌, ◌<◌, ◌≤◌, ◌-◌, ◌^◌, ◌+◌, ◌==◌, ◌||◌, ◌∷◌, ℕ, Bool, true, false, nat_lt, Option, Some, None, is_none, length, arith, refl, sym, ap, subst, ◌∙◌}
use Rattle.std.proofs.lemmas.Bool.{and_parts, ltb-true}
use Rattle.ace_check.proofs.Terms.{ar_kind_of, ArKind, Read, R, Header, same_test, Transaction, least_broken, least_of, k1, k2, is_barrier_half, beats_of, is_line_read, is_message_part, k34, k37, k19, k20, k21, k18_line, k18_transfer, line_rules, port_rules, system_rules, Trace, is_line, is_read, outstanding, read_kind, write_kind, Progress, SysCheck, IsNextTransfer}
use Rattle.ace_codes.specs.declared.kind.ArKind.TheVariants as read
use Rattle.ace_portck.specs.Reads.{is_next_beat}
use Rattle.ace_portck.proofs.LineReads.{beat_rules, on_reads}
use Rattle.ace_sysck.specs.Stands as system
use Rattle.ace_sysck.proofs.ByKind.LineResponses.{system_unanswered}
use Rattle.ace_sysck.proofs.ByKind.Responses.{other-read}
use Rattle.ace_sysck.proofs.Steps.{progress_from}
use Rattle.ace_check.proofs.Steps.{k1_kept, least_with}
use Rattle.ace_check.proofs.WhatComes.{lines-next, of-three, ports-first}

module _ (h : Header) (past : Trace) (p id resp : ℕ) (last : Bool) (word : ℕ) where
  -- a rule about the system is none before K21
  late : (m : ℕ) → least_of system_rules h past (R p id resp last word) ≡ Some m → 21 ≤ m
  late m is =
      let e = R p id resp last word in
      (of-three 21 34 37 (k21 h past e) (k34 h past e) (k37 h past e) m (omega arith) (omega arith) (sym is)).0

  -- the rule that the ports name is the least
  pub transfer-ports-first : (k : ℕ) → Some k ≡ least_of port_rules h past (R p id resp last word) → least_broken h past (R p id resp last word) ≡ Some k
  transfer-ports-first k is =
      let e = R p id resp last word in
      let most = (of-three 1 2 18 (k1 h past e) (k2 h past e) (k18_transfer h past e) k (omega arith) (omega arith) is).1 in
      ports-first h past e k is
      (λ m of. let least = (of-three 18 19 20 (k18_line h past e) (k19 h past e) (k20 h past e) m (omega arith) (omega arith) (sym of)).0 in omega (arith, most, least))
      (λ m of. let least = late m of in omega (arith, most, least))

  -- else the one that the lines name
  pub transfer-lines-next : (k : ℕ) → least_of port_rules h past (R p id resp last word) ≡ None → Some k ≡ least_of line_rules h past (R p id resp last word)
      → Some k ≡ least_broken h past (R p id resp last word)
  transfer-lines-next k kept is =
      let e = R p id resp last word in
      let most = (of-three 18 19 20 (k18_line h past e) (k19 h past e) (k20 h past e) k (omega arith) (omega arith) is).1 in
      sym (lines-next h past e k (sym kept) is (λ m of. let least = late m of in omega (arith, most, least)))

  -- else the one that the system names, if any
  pub transfer-system-last : (o : Option ℕ) → least_of port_rules h past (R p id resp last word) ≡ None → None ≡ least_of line_rules h past (R p id resp last word)
      → o ≡ least_of system_rules h past (R p id resp last word) → o ≡ least_broken h past (R p id resp last word)
  transfer-system-last o ports lines is = least_with h past (R p id resp last word) None None o (sym ports) lines is

or-none : (b : Bool) → (b || false) ≡ b
or-none true = refl
or-none false = refl

-- a read has a line where its kind has one
pub line-by-kind : (x : Transaction) (k : ArKind) → read_kind x ≡ Some k → is_line x ≡ is_line_read k
line-by-kind x k kind =
    let reads = on_reads (is_read x.chan) (ar_kind_of x.snoop x.dom x.bar) k kind in
    let writes : write_kind x ≡ None = rw reads refl in
    rw (kind, writes) (or-none (is_line_read k))

-- and then it is neither half of a barrier nor part of a DVM message
pub line-read-other : (x : Transaction) (k : ArKind) → read_kind x ≡ Some k → is_line_read k ≡ true → (is_barrier_half x ≡ false) × (is_message_part x ≡ false)
line-read-other x k kind line =
    other-read x k kind
    (λ is. let bad : false ≡ true = subst (λ j. is_line_read j ≡ true) is line in cc)
    (λ is. let bad : false ≡ true = subst (λ j. is_line_read j ≡ true) is line in cc)

-- a read without a line has one transfer
one-transfer : (k : ArKind) → is_line_read k ≡ false → beats_of k ≡ 1
one-transfer read.Barrier lineless = refl
one-transfer read.DvmMessage lineless = refl
one-transfer read.DvmComplete lineless = refl
one-transfer k lineless = cc

only-transfer : (n : ℕ) (last : Bool) (k : ArKind) → is_line_read k ≡ false → is_next_beat n last k ≡ true → (n ≡ 0) × (last ≡ true)
only-transfer n last k lineless t =
    let one = one-transfer k lineless in
    let parts = and_parts (nat_lt n (beats_of k)) (same_test last (n + 1 == beats_of k)) t in
    let low : n < 1 = ltb-true n 1 (subst (λ b. nat_lt n b ≡ true) one parts.0) in
    let first : n ≡ 0 = omega (arith, low) in
    let ends : same_test last (n + 1 == 1) ≡ true = subst (λ b. same_test last (n + 1 == b) ≡ true) one parts.1 in
    (first, by last (subst (λ m. same_test last (m + 1 == 1) ≡ true) first ends))
  where
    by : (b : Bool) → same_test b (0 + 1 == 1) ≡ true → b ≡ true
    by true s = refl
    by false s = cc

module _ (h : Header) (past : Trace) (p id resp : ℕ) (last : Bool) (word : ℕ) (x : Progress) (k : ArKind) (t : IsNextTransfer h past p id resp last word x k) where
  -- it is an R of that read
  pub transfer-of : outstanding h past p Read id ≡ Some x.transaction
  transfer-of = progress_from h past (outstanding h past p Read id) x t.served

  -- at a port of the header
  pub transfer-keeps-1 : k1 h past (R p id resp last word) ≡ true
  transfer-keeps-1 = k1_kept h past (R p id resp last word) None (sym t.kept) refl

  -- and the first and last of a read without a line
  pub transfer-only : is_line_read k ≡ false → (x.transfers ≡ 0) × (last ≡ true)
  transfer-only lineless =
      only-transfer x.transfers last k lineless (and_parts _ (is_next_beat x.transfers last k) (sym (beat_rules h past p id resp last word x k t.served t.kind) ∙ ap is_none t.kept)).1

-- the system stays as it is with one of a line read
pub system-served : (s : SysCheck) (h : Header) (past : Trace) (p id resp : ℕ) (last : Bool) (word : ℕ) (x : Progress) (k : ArKind)
    → IsNextTransfer h past p id resp last word x k → is_line_read k ≡ true → system.Stands s (record { header = h; past = past })
    → least_broken h past (R p id resp last word) ≡ None → length past < 2 ^ 64 - 1
    → system.Stands s (record { header = h; past = R p id resp last word ∷ past })
system-served s h past p id resp last word x k t line stands fine few =
    let other = line-read-other x.transaction k t.kind line in
    system_unanswered s (record { header = h; past = past }) (R p id resp last word) x.transaction stands fine few (transfer-of h past p id resp last word x k t) other.0 other.1
