-- The codes of an event that keeps the rules have the digits of their fields.
use Rattle.std.proofs.Common.{◌≡◌, ◌<◌, ◌≤◌, ℕ, Bool, true, false, not, ◌&&◌, ◌||◌, ◌==◌, nat_lt, ◌∷◌, is_some, inl, inr, arith}
use Rattle.std.proofs.lemmas.Bool.{and_parts, or_cases, eqb-true, ltb-true}
use Rattle.ace_codes.specs.declared.kind.ArKind.{ArKind}
use Rattle.ace_codes.specs.declared.kind.ArKind.TheVariants as read
use Rattle.ace_codes.specs.declared.kind.AwKind.{AwKind}
use Rattle.ace_codes.specs.declared.kind.AwKind.TheVariants as write
use Rattle.ace_codes.specs.declared.kind.SnoopKind.{SnoopKind}
use Rattle.ace_codes.specs.declared.kind.SnoopKind.TheVariants as snoop
use Rattle.ace_codes.specs.declared.state.LineState.{LineState}
use Rattle.ace_codes.specs.declared.state.LineState.TheVariants.{I}
use Rattle.ace_codes.specs.Places.{is_at, is_barrier, is_domain, is_normal, is_shareable, is_unshared}
use Rattle.ace_codes.specs.Reads.{ar_kind_of, read_place, reads}
use Rattle.ace_codes.specs.Responses.{has_error, is_shared, passes_dirty, transfers_data}
use Rattle.ace_codes.specs.Snoops.{ac_code, ac_kind_of, snoops}
use Rattle.ace_codes.specs.Writes.{aw_kind_of, write_place, writes}
use Rattle.ace_tables.specs.Answers.{fits_answer, fits_transfer, is_line_row, is_plain_row, is_snoop_row, must_pass_dirty, same_test, states_after}
use Rattle.ace_tables.specs.States.{is_among, is_invalid}
use Rattle.ace_event.specs.declared.event.Event.TheVariants.{Cr}
use Rattle.ace_event.specs.declared.header.Header.{Header}
use Rattle.ace_model.specs.Accepted.{IsAccepted}
use Rattle.ace_model.specs.Snoops.{answered, answers}
use Rattle.ace_model.specs.SnoopRules.{answers_by_row}
use Rattle.ace_model.specs.States.{state_of}
use Rattle.ace_model.specs.Trace.{Trace, is_some_and}
use Rattle.ace_model.proofs.General.Options.{is_none_or-at, is_some_and-is, some_is}
use Rattle.ace_model.proofs.Outstanding.Issued.{find-some}
use Rattle.ace_model.proofs.Rules.Keeps.{accepted_keeps}
use Rattle.ace_runs.proofs.NeverStuck.Rows.{has-kind}

-- ---- addresses ---------------------------------------------------------------------------------------

one-of-two : (n a b : ℕ) → a ≤ 3 → b ≤ 3 → ((n == a) || (n == b)) ≡ true → n ≤ 3
one-of-two n a b low_a low_b is =
    elim (or_cases (n == a) (n == b) is) [ inl x ↦ let s = eqb-true n a x in omega (arith, s, low_a) | inr y ↦ let s = eqb-true n b y in omega (arith, s, low_b) ]

abbrev AllLow : (ℕ → Bool) → Type 0
AllLow test = (n : ℕ) → test n ≡ true → n ≤ 3

normal-low : AllLow is_normal
normal-low n is = one-of-two n 0 2 (omega arith) (omega arith) is

barrier-low : AllLow is_barrier
barrier-low n is = one-of-two n 1 3 (omega arith) (omega arith) is

unshared-low : AllLow is_unshared
unshared-low n is = one-of-two n 0 3 (omega arith) (omega arith) is

shareable-low : AllLow is_shareable
shareable-low n is = one-of-two n 1 2 (omega arith) (omega arith) is

domain-low : AllLow is_domain
domain-low n is = elim (or_cases (is_unshared n) (is_shareable n) is) [ inl u ↦ unshared-low n u | inr s ↦ shareable-low n s ]

-- what a place says of its numbers
pub record IsLowAt (number code dom bar : ℕ) : Type 0 where
  pub code_is : code ≡ number
  pub low_dom : dom ≤ 3
  pub low_bar : bar ≤ 3

at-place : (bars domains : ℕ → Bool) → AllLow bars → AllLow domains → (number code dom bar : ℕ) → is_at (bars, domains, number) code dom bar ≡ true → IsLowAt number code dom bar
at-place bars domains low_bars low_domains number code dom bar is =
    let parts = and_parts (bars bar && domains dom) (code == number) is in
    let in_it = and_parts (bars bar) (domains dom) parts.0 in
    record { code_is = eqb-true code number parts.1; low_dom = low_domains dom in_it.1; low_bar = low_bars bar in_it.0 }

pub record HasLowCodes (most code dom bar : ℕ) : Type 0 where
  pub low_code : code ≤ most
  pub low_dom : dom ≤ 3
  pub low_bar : bar ≤ 3

low-codes : (most number code dom bar : ℕ) → number ≤ most → IsLowAt number code dom bar → HasLowCodes most code dom bar
low-codes most number code dom bar low at = let same = at.code_is in record { low_code = omega (arith, same, low); low_dom = at.low_dom; low_bar = at.low_bar }

read-codes : (k : ArKind) (code dom bar : ℕ) → is_at (read_place k) code dom bar ≡ true → HasLowCodes 15 code dom bar
read-codes read.ReadNoSnoop code dom bar is = low-codes 15 0 code dom bar (omega arith) (at-place is_normal is_unshared normal-low unshared-low 0 code dom bar is)
read-codes read.ReadOnce code dom bar is = low-codes 15 0 code dom bar (omega arith) (at-place is_normal is_shareable normal-low shareable-low 0 code dom bar is)
read-codes read.ReadShared code dom bar is = low-codes 15 1 code dom bar (omega arith) (at-place is_normal is_shareable normal-low shareable-low 1 code dom bar is)
read-codes read.ReadClean code dom bar is = low-codes 15 2 code dom bar (omega arith) (at-place is_normal is_shareable normal-low shareable-low 2 code dom bar is)
read-codes read.ReadNotSharedDirty code dom bar is = low-codes 15 3 code dom bar (omega arith) (at-place is_normal is_shareable normal-low shareable-low 3 code dom bar is)
read-codes read.ReadUnique code dom bar is = low-codes 15 7 code dom bar (omega arith) (at-place is_normal is_shareable normal-low shareable-low 7 code dom bar is)
read-codes read.CleanShared code dom bar is = low-codes 15 8 code dom bar (omega arith) (at-place is_normal is_shareable normal-low shareable-low 8 code dom bar is)
read-codes read.CleanInvalid code dom bar is = low-codes 15 9 code dom bar (omega arith) (at-place is_normal is_shareable normal-low shareable-low 9 code dom bar is)
read-codes read.CleanUnique code dom bar is = low-codes 15 11 code dom bar (omega arith) (at-place is_normal is_shareable normal-low shareable-low 11 code dom bar is)
read-codes read.MakeUnique code dom bar is = low-codes 15 12 code dom bar (omega arith) (at-place is_normal is_shareable normal-low shareable-low 12 code dom bar is)
read-codes read.MakeInvalid code dom bar is = low-codes 15 13 code dom bar (omega arith) (at-place is_normal is_shareable normal-low shareable-low 13 code dom bar is)
read-codes read.DvmComplete code dom bar is = low-codes 15 14 code dom bar (omega arith) (at-place is_normal is_shareable normal-low shareable-low 14 code dom bar is)
read-codes read.DvmMessage code dom bar is = low-codes 15 15 code dom bar (omega arith) (at-place is_normal is_shareable normal-low shareable-low 15 code dom bar is)
read-codes read.Barrier code dom bar is = low-codes 15 0 code dom bar (omega arith) (at-place is_barrier is_domain barrier-low domain-low 0 code dom bar is)

write-codes : (k : AwKind) (code dom bar : ℕ) → is_at (write_place k) code dom bar ≡ true → HasLowCodes 7 code dom bar
write-codes write.WriteNoSnoop code dom bar is = low-codes 7 0 code dom bar (omega arith) (at-place is_normal is_unshared normal-low unshared-low 0 code dom bar is)
write-codes write.WriteUnique code dom bar is = low-codes 7 0 code dom bar (omega arith) (at-place is_normal is_shareable normal-low shareable-low 0 code dom bar is)
write-codes write.WriteLineUnique code dom bar is = low-codes 7 1 code dom bar (omega arith) (at-place is_normal is_shareable normal-low shareable-low 1 code dom bar is)
write-codes write.WriteClean code dom bar is = low-codes 7 2 code dom bar (omega arith) (at-place is_normal is_shareable normal-low shareable-low 2 code dom bar is)
write-codes write.WriteBack code dom bar is = low-codes 7 3 code dom bar (omega arith) (at-place is_normal is_shareable normal-low shareable-low 3 code dom bar is)
write-codes write.Evict code dom bar is = low-codes 7 4 code dom bar (omega arith) (at-place is_normal is_shareable normal-low shareable-low 4 code dom bar is)
write-codes write.WriteEvict code dom bar is = low-codes 7 5 code dom bar (omega arith) (at-place is_normal is_shareable normal-low shareable-low 5 code dom bar is)
write-codes write.Barrier code dom bar is = low-codes 7 0 code dom bar (omega arith) (at-place is_barrier is_domain barrier-low domain-low 0 code dom bar is)

-- the codes of a read that has a kind, and of a write
pub known-read : (code dom bar : ℕ) (test : ArKind → Bool) → is_some_and (ar_kind_of code dom bar) test ≡ true → HasLowCodes 15 code dom bar
unfolding ar_kind_of
known-read code dom bar test is =
    let k = is_some_and-is (ar_kind_of code dom bar) test is in
    read-codes k.0 code dom bar (find-some (λ kind. is_at (read_place kind) code dom bar) reads k.0 k.1).1

pub known-write : (code dom bar : ℕ) (test : AwKind → Bool) → is_some_and (aw_kind_of code dom bar) test ≡ true → HasLowCodes 7 code dom bar
unfolding aw_kind_of
known-write code dom bar test is =
    let k = is_some_and-is (aw_kind_of code dom bar) test is in
    write-codes k.0 code dom bar (find-some (λ kind. is_at (write_place kind) code dom bar) writes k.0 k.1).1

-- ---- snoops ------------------------------------------------------------------------------------------

code-low : (k : SnoopKind) → ac_code k < 16
code-low snoop.ReadOnce = omega arith
code-low snoop.ReadShared = omega arith
code-low snoop.ReadClean = omega arith
code-low snoop.ReadNotSharedDirty = omega arith
code-low snoop.ReadUnique = omega arith
code-low snoop.CleanShared = omega arith
code-low snoop.CleanInvalid = omega arith
code-low snoop.MakeInvalid = omega arith
code-low snoop.DvmComplete = omega arith
code-low snoop.DvmMessage = omega arith

-- the code of a snoop that has a kind
pub known-snoop : (code : ℕ) → is_some (ac_kind_of code) ≡ true → code < 16
unfolding ac_kind_of
known-snoop code is =
    let k = some_is (ac_kind_of code) is in
    let same = eqb-true code (ac_code k.0) (find-some (λ kind. code == ac_code kind) snoops k.0 k.1).1 in
    let low = code-low k.0 in
    omega (arith, same, low)

-- ---- answers to snoops -------------------------------------------------------------------------------

plain-low : (resp : ℕ) (next : LineState) → is_plain_row resp next ≡ true → resp ≤ 31
plain-low resp next r = let zero_resp = eqb-true resp 0 (and_parts (resp == 0) (is_invalid next) r).0 in omega (arith, zero_resp)

line-low : (k : SnoopKind) (held : LineState) (update : Bool) (resp : ℕ) (next : LineState) → is_line_row k held update resp next ≡ true → resp ≤ 31
line-low k held update resp next r =
    let fits = (and_parts (is_among next (states_after k held)) (fits_answer k held next resp) (and_parts (is_among next (states_after k held) && fits_answer k held next resp) _ r).0).1 in
    let few = nat_lt resp 32 && not (has_error resp) && fits_transfer k held (transfers_data resp) in
    let pass = same_test (passes_dirty resp) (must_pass_dirty k held next) in
    let share = same_test (is_shared resp) (not (is_invalid next)) in
    let bits = (and_parts few pass (and_parts (few && pass) share (and_parts (few && pass && share) _ fits).0).0).0 in
    let low = ltb-true resp 32 (and_parts (nat_lt resp 32) (not (has_error resp)) (and_parts (nat_lt resp 32 && not (has_error resp)) _ bits).0).0 in
    omega (arith, low)

row-low : (k : SnoopKind) (held : LineState) (update : Bool) (resp : ℕ) (next : LineState) → is_snoop_row k held update resp next ≡ true → resp ≤ 31
row-low snoop.DvmComplete held update resp next r = plain-low resp next r
row-low snoop.DvmMessage held update resp next r = plain-low resp next r
row-low k I update resp next r = plain-low resp next r
row-low k held update resp next r = line-low k held update resp next r

-- the response to a snoop of an accepted trace
pub response-low : (h : Header) (past : Trace) (p resp : ℕ) (st : LineState) → IsAccepted h (Cr p resp st ∷ past) → resp ≤ 31
response-low h past p resp st a =
    let keeps = accepted_keeps h past (Cr p resp st) a in
    let s = some_is (answered past p) keeps.rule_14 in
    let k = some_is (ac_kind_of s.0.snoop) (has-kind h past p (answers past p) s.0 a.0 s.1) in
    let row = is_none_or-at (answered past p) (answers_by_row h past p resp st) s.0 keeps.rule_15 s.1 in
    row-low k.0 (state_of h past p s.0.addr) false resp st
    (is_none_or-at (ac_kind_of s.0.snoop) (λ k. is_snoop_row k (state_of h past p s.0.addr) false resp st) k.0 row k.1)
