-- What a B asks of each share.
use Rattle.std.proofs.Common.{◌≡◌, ℕ, true, if◌then◌else◌, Option, Some, None, is_some, arith, refl, sym}
use Rattle.ace_check.proofs.Terms.{AwKind, Write, B, Header, Transaction, IsAccepted, least_broken, least_of, k1, k2, is_barrier_half, is_line_write, is_write_barrier, k34, k26_memory, k26_response, port_rules, Trace, outstanding, write_kind, line_write}
use Rattle.ace_codes.specs.declared.kind.AwKind.TheVariants as write
use Rattle.ace_model.proofs.Trace.Issued.{outstanding-name}
use Rattle.ace_model.proofs.Trace.IssuedTransactions.{outstanding-write}
use Rattle.ace_check.proofs.WhatComes.{of-one, of-three, ports-first}

-- a rule about its port that a B breaks is the least
pub ports-break : (h : Header) (past : Trace) (p i resp : ℕ) (k : ℕ) → Some k ≡ least_of port_rules h past (B p i resp) → least_broken h past (B p i resp) ≡ Some k
ports-break h past p i resp k ports =
    let e = B p i resp in
    let most = (of-three 1 2 26 (k1 h past e) (k2 h past e) (k26_response h past e) k (omega arith) (omega arith) ports).1 in
    ports-first h past e k ports
    (λ m is. let same = of-one 26 (k26_memory h past e) m (sym is) in omega (arith, most, same))
    (λ m is. let same = of-one 34 (k34 h past e) m (sym is) in omega (arith, most, same))

barrier-is : (k : AwKind) → (if is_line_write k then Some k else None) ≡ None → is_write_barrier k ≡ true
barrier-is write.Barrier none = refl
barrier-is k none = cc

half-from : (x : Transaction) (o : Option AwKind) → x.chan ≡ Write → write_kind x ≡ o → is_some o ≡ true → line_write x ≡ None → is_barrier_half x ≡ true
half-from x None chan kind known none = cc
half-from x (Some k) chan kind known none =
    let barrier = barrier-is k (rw kind at none) in
    rw (kind, chan, barrier) refl

-- an outstanding write that is no line write is half of a barrier
pub no_line-half : (h : Header) (past : Trace) (p i : ℕ) (x : Transaction) → IsAccepted h past → outstanding h past p Write i ≡ Some x → line_write x ≡ None
    → is_barrier_half x ≡ true
no_line-half h past p i x accepted out none =
    half-from x (write_kind x) (outstanding-name h past p Write i x out).chan refl (outstanding-write h past p i x accepted out) none
