-- The outstanding reads of a port: what was outstanding before, and that a port holds nothing of a line that it reads.
use Rattle.std.proofs.Common.{ap, false, nat_eq, ◌≡◌, ℕ, zero, suc, ◌<◌, true, [], ◌∷◌, length, drop, Some, refl, arith, inl, inr}
use Rattle.std.proofs.lemmas.Bool.{and_from, or_left, eq-eqb}
use Rattle.std.proofs.lemmas.List.{length-drop}
use Rattle.ace_model.proofs.Terms.{is_on, is_read, I, Header, Channel, Read, Write, Transaction, Trace, is_some_and, is_line_read, is_line_write, reads_a_line, is_line, read_kind, write_kind}
use Rattle.ace_model.proofs.Terms.{outstanding, state_of, is_line_read_transaction, IsAccepted}
use Rattle.ace_model.proofs.Tables.Kinds.{reads_line}
use Rattle.ace_model.proofs.Trace.Issued.{outstanding-origin, issued-place}
use Rattle.ace_model.proofs.Holders.Rises.{stays_empty}
use Rattle.ace_model.proofs.General.Options.{is_some_and-is}

-- what is outstanding was outstanding at each point since it was issued
pub outstanding-before : (h : Header) (k : ℕ) (past : Trace) (p : ℕ) (c : Channel) (i : ℕ) (x : Transaction) → outstanding h past p c i ≡ Some x
    → x.place < length (drop k past) → outstanding h (drop k past) p c i ≡ Some x
outstanding-before h zero past p c i x o low = o
outstanding-before h (suc k) [] p c i x o low = o
outstanding-before h (suc k) (e ∷ past) p c i x o low =
    elim (outstanding-origin h past e p c i x o) [
      | inl new ↦
          let at = issued-place (length past) e x new.0 in
          let most = length-drop k past in
          absurd (omega arith)
      | inr old ↦ outstanding-before h k past p c i x old.was low
    ]

-- a read of a line is on the read channel
pub line_read-chan : (x : Transaction) → is_line_read_transaction x ≡ true → x.chan ≡ Read
line_read-chan x reads = cases x.chan refl
  where
    cases : (c : Channel) → x.chan ≡ c → c ≡ Read
    cases Read is = refl
    cases Write is = let bad : false ≡ true = rw (ap is_read is) at reads in cc

-- it has a kind, and names a line
pub line_read-line : (x : Transaction) → is_line_read_transaction x ≡ true → is_line x ≡ true
line_read-line x reads =
    let k = is_some_and-is (read_kind x) reads_a_line reads in
    rw k.1 (or_left (is_line_read k.0) (is_some_and (write_kind x) is_line_write) (reads_line k.0 k.2))

pub line_read-on : (x : Transaction) → is_line_read_transaction x ≡ true → is_on x x.addr ≡ true
line_read-on x reads = and_from (is_line x) (nat_eq x.addr x.addr) (line_read-line x reads) (eq-eqb x.addr x.addr refl)

-- while a read of a line is outstanding, its port holds nothing of the line
pub empty_while_read : (h : Header) (past : Trace) → IsAccepted h past → (p i : ℕ) (x : Transaction) → outstanding h past p Read i ≡ Some x
    → is_line_read_transaction x ≡ true → state_of h past p x.addr ≡ I
empty_while_read h past a p i x o reads =
    stays_empty h past a p Read i x.addr x o (line_read-on x reads) (inl reads)
