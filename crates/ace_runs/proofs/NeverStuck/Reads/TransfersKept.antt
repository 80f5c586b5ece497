-- The transfer that step 8 gives of a granted read breaks no rule, where it is in order and has the upper bits of the first.
use Rattle.std.proofs.Common.{◌≡◌, ℕ, ◌+◌, Bool, true, false, not, ◌&&◌, ◌||◌, ◌==◌, nat_lt, if◌then◌else◌, Some, None, is_none, refl, sym, ap, ◌∙◌, inl, inr}
use Rattle.std.proofs.lemmas.Bool.{and_parts, and_from, eq-eqb, or_cases}
use Rattle.ace_codes.specs.Responses.{is_shared, low_bits, passes_dirty}
use Rattle.ace_codes.specs.declared.kind.ArKind.{ArKind}
use Rattle.ace_codes.specs.declared.kind.ArKind.TheVariants as read
use Rattle.ace_event.specs.declared.event.Channel.TheVariants.{Read}
use Rattle.ace_event.specs.declared.event.Event.TheVariants.{R}
use Rattle.ace_event.specs.declared.header.Header.{Header}
use Rattle.ace_tables.specs.Answers.{same_test}
use Rattle.ace_model.specs.declared.transactions.Transaction.{Transaction}
use Rattle.ace_model.specs.AddressRules.{k1, k2}
use Rattle.ace_model.specs.Barriers.{is_barrier_half, may_answer, pair_of}
use Rattle.ace_model.specs.Grants.{are_passed_data_whole, has_passed_data, has_sharer, is_granted}
use Rattle.ace_model.specs.Kinds.{beats_of, is_dvm_message, is_line_read, is_read_barrier, is_read_not_shared_dirty, is_write_barrier, may_be_shared, takes_passed_data}
use Rattle.ace_model.specs.Messages.{is_message_part}
use Rattle.ace_model.specs.OrderRules.{is_answered_by_all, k34, k37, may_answer_half}
use Rattle.ace_model.specs.ReadRules.{fits_kind, has_low_bits, has_upper_bits, has_word, is_due, is_exclusive_okay, is_next_transfer, k18, k19, k20, k21, may_transfer, must_be_shared, same_upper_bits, takes_passed}
use Rattle.ace_model.specs.States.{are_snoops_done}
use Rattle.ace_model.specs.Trace.{Trace, implies, is_none_or, is_some_and}
use Rattle.ace_model.specs.Transactions.{first_resp, is_ace, is_line, outstanding, read_kind, transfers, write_kind}
use Rattle.ace_model.proofs.General.Booleans.{each_flags, same_test-at}
use Rattle.ace_model.proofs.Trace.Looks.{read_writes_none}
use Rattle.ace_runs.specs.Bursts.{is_kept}
use Rattle.ace_runs.specs.LineSteps.{bit_if, can_take, is_last_beat, next_word, response_bits}
use Rattle.ace_runs.proofs.NeverStuck.Steps.SameEvents.{same_test-self}

-- ---- booleans ----------------------------------------------------------------------------------------

pub implied_by : (a b : Bool) → (a ≡ true → b ≡ true) → implies a b ≡ true
implied_by true b t = t refl
implied_by false b t = refl

eight-kept : (a b c d e f g i : Bool) → a ≡ true → b ≡ true → c ≡ true → d ≡ true → e ≡ true → f ≡ true → g ≡ true → i ≡ true
    → is_none {T = ℕ} (if a then (if b then (if c then (if d then (if e then (if f then (if g then (if i then None else Some 37) else Some 34) else Some 21) else Some 20) else Some 19) else Some 18) else Some 2) else Some 1) ≡ true
eight-kept a b c d e f g i one two eighteen nineteen twenty twenty_one thirty_four thirty_seven =
    rw (one, two, eighteen, nineteen, twenty, twenty_one, thirty_four, thirty_seven) refl

-- of the rules eight look at a transfer
pub transfer-kept : (h : Header) (past : Trace) (p i resp : ℕ) (last : Bool) (word : ℕ) → k1 h past (R p i resp last word) ≡ true → k2 h past (R p i resp last word) ≡ true
    → k18 h past (R p i resp last word) ≡ true → k19 h past (R p i resp last word) ≡ true → k20 h past (R p i resp last word) ≡ true → k21 h past (R p i resp last word) ≡ true
    → k34 h past (R p i resp last word) ≡ true → k37 h past (R p i resp last word) ≡ true → is_kept h past (R p i resp last word) ≡ true
unfolding is_kept
transfer-kept h past p i resp last word one two eighteen nineteen twenty twenty_one thirty_four thirty_seven =
    let e = R p i resp last word in
    eight-kept (k1 h past e) (k2 h past e) (k18 h past e) (k19 h past e) (k20 h past e) (k21 h past e) (k34 h past e) (k37 h past e) one two eighteen nineteen twenty twenty_one thirty_four thirty_seven

-- ---- the response ------------------------------------------------------------------------------------

-- a response with PassDirty, IsShared and EXOKAY where these say so
abbrev bits : Bool → Bool → Bool → ℕ
bits d s e = bit_if 4 d + bit_if 8 s + bit_if 1 e

abbrev are_bits : Bool → Bool → Bool → Bool
are_bits d s e = same_test (passes_dirty (bits d s e)) d && same_test (is_shared (bits d s e)) s && (low_bits (bits d s e) == (if e then 1 else 0)) && nat_lt (low_bits (bits d s e)) 2

record Bits (d s e : Bool) : Type 0 where
  dirty : passes_dirty (bits d s e) ≡ d
  shared : is_shared (bits d s e) ≡ s
  low : (low_bits (bits d s e) == (if e then 1 else 0)) ≡ true
  known : nat_lt (low_bits (bits d s e)) 2 ≡ true

bits-are : (d s e : Bool) → Bits d s e
bits-are d s e =
    let all = and_parts (same_test (passes_dirty (bits d s e)) d && same_test (is_shared (bits d s e)) s && (low_bits (bits d s e) == (if e then 1 else 0))) (nat_lt (low_bits (bits d s e)) 2) (each_flags are_bits refl d s e) in
    let three = and_parts (same_test (passes_dirty (bits d s e)) d && same_test (is_shared (bits d s e)) s) (low_bits (bits d s e) == (if e then 1 else 0)) all.0 in
    let two = and_parts (same_test (passes_dirty (bits d s e)) d) (same_test (is_shared (bits d s e)) s) three.0 in
    record {
      dirty = same_test-at (passes_dirty (bits d s e)) d two.0;
      shared = same_test-at (is_shared (bits d s e)) s two.1;
      low = three.1;
      known = all.1;
    }

-- What the response of step 8 says.
pub record Says (h : Header) (past : Trace) (x : Transaction) : Type 0 where
  pub dirty : passes_dirty (response_bits h past x) ≡ has_passed_data h past x
  pub shared : is_shared (response_bits h past x) ≡ is_some_and (read_kind x) (must_be_shared h past x)
  pub low : has_low_bits past (response_bits h past x) x ≡ true
  pub known : nat_lt (low_bits (response_bits h past x)) 2 ≡ true

pub response-says : (h : Header) (past : Trace) (x : Transaction) → Says h past x
response-says h past x =
    let b = bits-are (has_passed_data h past x) (is_some_and (read_kind x) (must_be_shared h past x)) (is_exclusive_okay past x) in
    record { dirty = b.dirty; shared = b.shared; low = b.low; known = b.known }

-- ---- a granted read that goes on ---------------------------------------------------------------------

-- An outstanding read that is granted its line and has transfers left. At its first transfer its snoops are done; passed data are whole, and it can
-- take them; and its first response, if it had one, has the upper bits that step 8 gives.
pub record GoesOn (h : Header) (past : Trace) (x : Transaction) (k : ArKind) : Type 0 where
  pub low : nat_lt x.port h.ports ≡ true
  pub out : outstanding h past x.port Read x.id ≡ Some x
  pub kind : read_kind x ≡ Some k
  pub line : is_line_read k ≡ true
  pub is : is_granted h past x ≡ true
  pub left : nat_lt (transfers past x.port x.id) (beats_of k) ≡ true
  pub snooped : (transfers past x.port x.id == 0) ≡ true → are_snoops_done h past x ≡ true
  pub takes : has_passed_data h past x ≡ true → can_take h past x k ≡ true
  pub whole : has_passed_data h past x ≡ true → are_passed_data_whole h past x ≡ true
  pub ace : takes_passed_data k ≡ true → is_ace h x.port ≡ true
  pub first : is_none_or (first_resp past x.port x.id) (same_upper_bits (response_bits h past x)) ≡ true

line-no-barrier : (k : ArKind) → is_line_read k ≡ true → is_read_barrier k ≡ false
line-no-barrier read.Barrier line = cc
line-no-barrier k line = refl

line-no-message : (k : ArKind) → is_line_read k ≡ true → is_dvm_message k ≡ false
line-no-message read.DvmMessage line = cc
line-no-message k line = refl

taking : (h : Header) (past : Trace) (x : Transaction) (k : ArKind) → read_kind x ≡ Some k → can_take h past x k ≡ true → are_passed_data_whole h past x ≡ true
    → passes_dirty (response_bits h past x) ≡ true → takes_passed h past x (response_bits h past x) ≡ true
taking h past x k kind can whole dirty =
    let takes = (and_parts (takes_passed_data k) (not (is_read_not_shared_dirty k && has_sharer h past x.addr)) can).0 in
    and_from _ _ (and_from _ _ (ap (λ o. is_some_and o takes_passed_data) kind ∙ takes) whole) dirty

-- K18
is-due : (h : Header) (past : Trace) (x : Transaction) (k : ArKind) → GoesOn h past x k → is_due h past (response_bits h past x) (is_last_beat past x) x ≡ true
is-due h past x k g =
    let says = response-says h past x in
    let is_last : is_last_beat past x ≡ (transfers past x.port x.id + 1 == beats_of k) = ap (λ o. is_some_and o (λ k. transfers past x.port x.id + 1 == beats_of k)) g.kind in
    let last : same_test (is_last_beat past x) (transfers past x.port x.id + 1 == beats_of k) ≡ true =
    ap (λ b. same_test b (transfers past x.port x.id + 1 == beats_of k)) is_last ∙ same_test-self (transfers past x.port x.id + 1 == beats_of k) in
    let next : is_some_and (read_kind x) (is_next_transfer past x (is_last_beat past x)) ≡ true =
    ap (λ o. is_some_and o (is_next_transfer past x (is_last_beat past x))) g.kind ∙ and_from _ _ g.left last in
    let done = implied_by (transfers past x.port x.id == 0) (are_snoops_done h past x) g.snooped in
    let takes = implied_by (has_passed_data h past x) (takes_passed h past x (response_bits h past x))
    (λ has. taking h past x k g.kind (g.takes has) (g.whole has) (says.dirty ∙ has)) in
    let may : may_transfer h past x (response_bits h past x) ≡ true = and_from _ _ (and_from _ _ g.is done) takes in
    and_from _ _ next (implied_by (is_line x) (may_transfer h past x (response_bits h past x)) (λ line. may))

not-both : (a b c s : Bool) → (c ≡ true → b ≡ true → s ≡ true → not (a && b) ≡ true) → (s ≡ true → b ≡ true) → not (a && c && s) ≡ true
not-both true true true true f g = f refl refl refl
not-both true false true true f g = let bad = g refl in cc
not-both false b c s f g = refl
not-both true b false s f g = refl
not-both true b true false f g = refl

-- K19
has-upper-bits : (h : Header) (past : Trace) (x : Transaction) (k : ArKind) → GoesOn h past x k → has_upper_bits h past (response_bits h past x) x ≡ true
has-upper-bits h past x k g =
    let says = response-says h past x in
    let resp = response_bits h past x in
    let shared : is_shared resp ≡ must_be_shared h past x k = says.shared ∙ ap (λ o. is_some_and o (must_be_shared h past x)) g.kind in
    let must = λ (t : is_shared resp ≡ true). and_parts (is_ace h x.port && may_be_shared k) (has_sharer h past x.addr) (sym shared ∙ t) in
    let ace_and_may = λ (t : is_shared resp ≡ true). and_parts (is_ace h x.port) (may_be_shared k) (must t).0 in
    let can = λ (t : passes_dirty resp ≡ true). and_parts (takes_passed_data k) (not (is_read_not_shared_dirty k && has_sharer h past x.addr)) (g.takes (sym says.dirty ∙ t)) in
    let passed = implied_by (passes_dirty resp) (has_passed_data h past x) (λ t. sym says.dirty ∙ t) in
    let may = implied_by (is_shared resp) (may_be_shared k) (λ t. (ace_and_may t).1) in
    let apart = not-both (is_read_not_shared_dirty k) (has_sharer h past x.addr) (passes_dirty resp) (is_shared resp) (λ d b s. (can d).1) (λ t. (must t).1) in
    let told = implied_by (must_be_shared h past x k) (is_shared resp) (λ t. shared ∙ t) in
    let fits : is_none_or (read_kind x) (fits_kind h past x resp) ≡ true =
    ap (λ o. is_none_or o (fits_kind h past x resp)) g.kind ∙ and_from _ _ (and_from _ _ may apart) told in
    let full = implied_by (passes_dirty resp || is_shared resp) (is_ace h x.port) (λ t. elim (or_cases (passes_dirty resp) (is_shared resp) t) [
      | inl d ↦ g.ace (can d).0
      | inr s ↦ (ace_and_may s).0
    ]) in
    and_from _ _ (and_from _ _ (and_from _ _ passed fits) full) g.first

-- The next transfer that step 8 gives breaks no rule.
pub next-kept : (h : Header) (past : Trace) (x : Transaction) (k : ArKind) → GoesOn h past x k
    → is_kept h past (R x.port x.id (response_bits h past x) (is_last_beat past x) (next_word past x)) ≡ true
next-kept h past x k g =
    let says = response-says h past x in
    let resp = response_bits h past x in
    let last = is_last_beat past x in
    let word = next_word past x in
    let out = g.out in
    let writes = (read_writes_none x k g.kind).0 in
    let no_half : is_barrier_half x ≡ false =
    ap (λ o. is_some_and o is_read_barrier || is_some_and (write_kind x) is_write_barrier) g.kind
    ∙ ap (λ o. is_read_barrier k || is_some_and o is_write_barrier) writes
    ∙ ap (λ b. b || false) (line-no-barrier k g.line) in
    let no_part : is_message_part x ≡ false = ap (λ o. is_some_and o is_dvm_message) g.kind ∙ line-no-message k g.line in
    let eighteen : k18 h past (R x.port x.id resp last word) ≡ true = ap (λ o. is_some_and o (is_due h past resp last)) out ∙ is-due h past x k g in
    let nineteen : k19 h past (R x.port x.id resp last word) ≡ true = ap (λ o. is_none_or o (has_upper_bits h past resp)) out ∙ has-upper-bits h past x k g in
    let twenty : k20 h past (R x.port x.id resp last word) ≡ true = ap (λ o. is_none_or o (has_word past word)) out ∙ eq-eqb word word refl in
    let twenty_one : k21 h past (R x.port x.id resp last word) ≡ true = ap (λ o. is_none_or o (has_low_bits past resp)) out ∙ says.low in
    let thirty_four : k34 h past (R x.port x.id resp last word) ≡ true =
    ap (λ o. is_none_or o (may_answer_half past)) out ∙ ap (λ b. implies b (is_some_and (pair_of past x) (may_answer past x.port))) no_half in
    let thirty_seven : k37 h past (R x.port x.id resp last word) ≡ true =
    ap (λ o. is_none_or o (λ x. implies (is_message_part x) (is_answered_by_all h past x))) out ∙ ap (λ b. implies b (is_answered_by_all h past x)) no_part in
    transfer-kept h past x.port x.id resp last word (and_from _ _ g.low refl) says.known eighteen nineteen twenty twenty_one thirty_four thirty_seven
