-- A read has at most four transfers, of which one is the last.
use Rattle.std.proofs.Common.{◌≡◌, ℕ, ◌+◌, ◌-◌, ◌*◌, ◌≤◌, ◌<◌, Bool, true, false, ◌&&◌, ◌==◌, nat_lt, ◌∷◌, length, Option, Some, None, refl, sym, ap, subst, ◌∙◌, inl, inr, arith}
use Rattle.std.proofs.lemmas.Bool.{cases_Bool, and_parts, and_from, eqb-true, eq-eqb, ltb-true, lt-ltb}
use Rattle.ace_codes.specs.declared.kind.ArKind.{ArKind}
use Rattle.ace_event.specs.declared.event.Channel.TheVariants.{Read}
use Rattle.ace_event.specs.declared.event.Event.TheVariants.{Ar, R, Aw}
use Rattle.ace_event.specs.declared.header.Header.{Header}
use Rattle.ace_tables.specs.Answers.{same_test}
use Rattle.ace_model.specs.declared.transactions.Transaction.{Transaction}
use Rattle.ace_model.specs.Accepted.{IsAccepted}
use Rattle.ace_model.specs.Trace.{Trace, is_some_and, implies}
use Rattle.ace_model.specs.Kinds.{reads_a_line, beats_of}
use Rattle.ace_model.specs.Transactions.{read_kind, is_line, issued, is_named, outstanding, transaction_of, transfers}
use Rattle.ace_model.specs.ReadRules.{is_due, is_next_transfer, may_transfer}
use Rattle.ace_model.proofs.General.Options.{is_some_and-is}
use Rattle.ace_model.proofs.Rules.Keeps.{accepted_keeps}
use Rattle.ace_model.proofs.Trace.Issued.{outstanding-named, outstanding-name}
use Rattle.ace_model.proofs.Trace.Looks.{newest_named-older}
use Rattle.ace_runs.specs.Counts.{counted, issues_on, is_transfer, is_last_transfer}
use Rattle.ace_runs.proofs.Few.Keys.{of_name, for-each-name}
use Rattle.ace_runs.proofs.Few.Counting.{one, one-most}
use Rattle.ace_runs.proofs.Few.Charges.{Leaves, charged}

-- how many transfers a read of the kind has left after so many
abbrev pub kind_left : Option ArKind → ℕ → ℕ
kind_left None n = 0
kind_left (Some k) n = beats_of k - n

abbrev pub beats_left : Option Transaction → ℕ → ℕ
beats_left None n = 0
beats_left (Some x) n = kind_left (read_kind x) n

-- how many transfers the read of the name has left
abbrev pub left_of : ℕ → ℕ → Trace → ℕ
left_of p i past = beats_left (transaction_of past p Read i) (transfers past p i)

-- whether it has one left
abbrev last_left : ℕ → ℕ → Trace → ℕ
last_left p i past = one (nat_lt 0 (left_of p i past))

-- at most four
most-beats : (k : ArKind) → beats_of k ≤ 4
most-beats k = elim (cases_Bool (reads_a_line k)) [ inl t ↦ rw t (omega arith) | inr f ↦ rw f (omega arith) ]

kind-most : (k : Option ArKind) (n : ℕ) → kind_left k n ≤ 4
kind-most None n = omega arith
kind-most (Some k) n = let most = most-beats k in omega (arith, most)

pub most-left : (x : Option Transaction) (n : ℕ) → beats_left x n ≤ 4
most-left None n = omega arith
most-left (Some x) n = kind-most (read_kind x) n

-- a transfer of the read of the name
pub record IsNext (past : Trace) (p i : ℕ) (last : Bool) : Type 0 where
  pub read : Transaction
  pub kind : ArKind
  pub named : transaction_of past p Read i ≡ Some read
  pub of_kind : read_kind read ≡ Some kind
  pub room : transfers past p i < beats_of kind
  pub ends : same_test last (transfers past p i + 1 == beats_of kind) ≡ true

pub next-transfer : (h : Header) (past : Trace) (p i resp : ℕ) (last : Bool) (word : ℕ) → IsAccepted h (R p i resp last word ∷ past) → IsNext past p i last
next-transfer h past p i resp last word a =
    let o = is_some_and-is (outstanding h past p Read i) (is_due h past resp last) (accepted_keeps h past (R p i resp last word) a).rule_18 in
    let x = o.0 in
    let name = outstanding-name h past p Read i x o.1 in
    let due = and_parts (is_some_and (read_kind x) (is_next_transfer past x last)) (implies (is_line x) (may_transfer h past x resp)) o.2 in
    let k = is_some_and-is (read_kind x) (is_next_transfer past x last) due.0 in
    let parts = and_parts (nat_lt (transfers past x.port x.id) (beats_of k.0)) (same_test last (transfers past x.port x.id + 1 == beats_of k.0)) k.2 in
    let same : transfers past x.port x.id ≡ transfers past p i = ap (λ q. transfers past q x.id) name.port ∙ ap (transfers past p) name.id in
    record {
      read = x;
      kind = k.0;
      named = outstanding-named h past p Read i x o.1;
      of_kind = k.1;
      room = subst (λ n. n < beats_of k.0) same (ltb-true (transfers past x.port x.id) (beats_of k.0) parts.0);
      ends = subst (λ n. same_test last (n + 1 == beats_of k.0) ≡ true) same parts.1;
    }

-- where the name is another
apart : (q p j i : ℕ) → ((q == p) && (j == i)) ≡ false → ((p == q) && (i == j)) ≡ false
apart q p j i n =
    elim (cases_Bool ((p == q) && (i == j))) [
      | inr f ↦ f
      | inl t ↦
          let parts = and_parts (p == q) (i == j) t in
          let back : ((q == p) && (j == i)) ≡ true = and_from _ _ (eq-eqb q p (sym (eqb-true p q parts.0))) (eq-eqb j i (sym (eqb-true i j parts.1))) in
          cc
    ]

pub record AreSame (q p j i : ℕ) : Type 0 where
  pub port : q ≡ p
  pub id : j ≡ i
  pub back : ((p == q) && (i == j)) ≡ true

pub alike : (q p j i : ℕ) → ((q == p) && (j == i)) ≡ true → AreSame q p j i
alike q p j i t =
    let parts = and_parts (q == p) (j == i) t in
    record {
      port = eqb-true q p parts.0;
      id = eqb-true j i parts.1;
      back = and_from _ _ (eq-eqb p q (sym (eqb-true q p parts.0))) (eq-eqb i j (sym (eqb-true j i parts.1)));
    }

-- after a transfer there is one less
one-fewer : (x : Option Transaction) (y : Transaction) (kind : ArKind) (n : ℕ) → x ≡ Some y → read_kind y ≡ Some kind → n < beats_of kind
    → beats_left x (n + 1) + 1 ≡ beats_left x n
one-fewer x y kind n named of room = rw (named, of) (omega (arith, room))

-- another transaction is issued, or one of the name
left-issued : (b : Bool) (k : ℕ) (now before : ℕ) → now ≤ k → (b ≡ false → now ≡ before) → now + 0 ≤ before + one b * k
left-issued true k now before most same = omega (arith, most)
left-issued false k now before most same = let s = same refl in omega (arith, s)

not-read : (b : Bool) → (b && false) ≡ false
not-read true = refl
not-read false = refl

-- an AR of another name leaves the read of this one
pub other-read : (past : Trace) (p i q j addr snoop dom bar : ℕ) (lock : Bool) → ((q == p) && (j == i)) ≡ false
    → left_of p i (Ar q j addr snoop dom bar lock ∷ past) ≡ left_of p i past
other-read past p i q j addr snoop dom bar lock n =
    let new : is_named (issued (length past) (Ar q j addr snoop dom bar lock)) p Read i ≡ false = both (q == p) (j == i) n in
    let same = newest_named-older (issued (length past) (Ar q j addr snoop dom bar lock)) p Read i (transaction_of past p Read i) new in
    rw (same, apart q p j i n) refl
  where
    both : (a b : Bool) → (a && b) ≡ false → ((a && true) && b) ≡ false
    both true b f = f
    both false b f = refl

-- and so does an AW
pub other-write : (past : Trace) (p i q j addr snoop dom bar : ℕ) → left_of p i (Aw q j addr snoop dom bar ∷ past) ≡ left_of p i past
other-write past p i q j addr snoop dom bar =
    let new : is_named (issued (length past) (Aw q j addr snoop dom bar)) p Read i ≡ false = rw (not-read (q == p)) refl in
    rw (newest_named-older (issued (length past) (Aw q j addr snoop dom bar)) p Read i (transaction_of past p Read i) new) refl

-- a transfer of the name leaves one less
pub fewer-left : (h : Header) (past : Trace) (p i q j resp : ℕ) (last : Bool) (word : ℕ) → IsAccepted h (R q j resp last word ∷ past)
    → ((q == p) && (j == i)) ≡ true → left_of p i (R q j resp last word ∷ past) + 1 ≡ left_of p i past
fewer-left h past p i q j resp last word a t =
    let s = alike q p j i t in
    let n = next-transfer h past q j resp last word a in
    let next : IsNext past p i last = rw (← s.port, ← s.id) n in
    rw s.back (one-fewer (transaction_of past p Read i) next.read next.kind (transfers past p i) next.named next.of_kind next.room)

pub same-left : (past : Trace) (p i q j resp : ℕ) (last : Bool) (word : ℕ) → ((q == p) && (j == i)) ≡ false → left_of p i (R q j resp last word ∷ past) ≡ left_of p i past
same-left past p i q j resp last word n = rw (apart q p j i n) refl

leaves-transfers : (h : Header) (p i : ℕ) → Leaves 4 (of_name is_transfer p i) (of_name (issues_on Read) p i) (left_of p i) h
leaves-transfers h p i (Ar q j addr snoop dom bar lock) past a =
    left-issued ((q == p) && (j == i)) 4 (left_of p i (Ar q j addr snoop dom bar lock ∷ past)) (left_of p i past)
    (most-left (transaction_of (Ar q j addr snoop dom bar lock ∷ past) p Read i) (transfers (Ar q j addr snoop dom bar lock ∷ past) p i))
    (other-read past p i q j addr snoop dom bar lock)
leaves-transfers h p i (Aw q j addr snoop dom bar) past a = let same = other-write past p i q j addr snoop dom bar in omega (arith, same)
leaves-transfers h p i (R q j resp last word) past a =
    elim (cases_Bool ((q == p) && (j == i))) [
      | inl t ↦ let fewer = fewer-left h past p i q j resp last word a t in rw t (omega (arith, fewer))
      | inr n ↦ let same = same-left past p i q j resp last word n in rw n (omega (arith, same))
    ]
leaves-transfers h p i e past a = omega arith

pub transfers-few : (h : Header) (past : Trace) → IsAccepted h past → counted is_transfer past ≤ counted (issues_on Read) past * 4
transfers-few h past a =
    for-each-name 4 is_transfer (issues_on Read) past
    (λ p i. let all = charged 4 (of_name is_transfer p i) (of_name (issues_on Read) p i) (left_of p i) h past refl (leaves-transfers h p i) a in omega (arith, all))

-- ---- the last one ------------------------------------------------------------------------------------

some-left : (n : ℕ) → 1 ≤ n → one (nat_lt 0 n) ≡ 1
some-left n some = rw (lt-ltb 0 n some) refl

none-left : (h : Header) (past : Trace) (p i q j resp word : ℕ) → IsAccepted h (R q j resp true word ∷ past)
    → ((q == p) && (j == i)) ≡ true → left_of p i (R q j resp true word ∷ past) ≡ 0
none-left h past p i q j resp word a t =
    let s = alike q p j i t in
    let n = next-transfer h past q j resp true word a in
    let next : IsNext past p i true = rw (← s.port, ← s.id) n in
    let whole : transfers past p i + 1 ≡ beats_of next.kind = eqb-true (transfers past p i + 1) (beats_of next.kind) next.ends in
    rw (s.back, next.named, next.of_kind) (omega (arith, whole))

leaves-last : (h : Header) (p i : ℕ) → Leaves 1 (of_name is_last_transfer p i) (of_name (issues_on Read) p i) (last_left p i) h
leaves-last h p i (Ar q j addr snoop dom bar lock) past a =
    left-issued ((q == p) && (j == i)) 1 (last_left p i (Ar q j addr snoop dom bar lock ∷ past)) (last_left p i past)
    (one-most (nat_lt 0 (left_of p i (Ar q j addr snoop dom bar lock ∷ past))))
    (λ n. ap (λ m. one (nat_lt 0 m)) (other-read past p i q j addr snoop dom bar lock n))
leaves-last h p i (Aw q j addr snoop dom bar) past a =
    let same : last_left p i (Aw q j addr snoop dom bar ∷ past) ≡ last_left p i past =
    ap (λ m. one (nat_lt 0 m)) (other-write past p i q j addr snoop dom bar) in
    omega (arith, same)
leaves-last h p i (R q j resp last word) past a =
    elim (cases_Bool ((q == p) && (j == i))) [
      | inr n ↦
          let same : last_left p i (R q j resp last word ∷ past) ≡ last_left p i past = ap (λ m. one (nat_lt 0 m)) (same-left past p i q j resp last word n) in
          last-other last (q == p) (j == i) (last_left p i (R q j resp last word ∷ past)) (last_left p i past) n same
      | inl t ↦
          let fewer = fewer-left h past p i q j resp last word a t in
          let before : last_left p i past ≡ 1 = some-left (left_of p i past) (omega (arith, fewer)) in
          last-here last (q == p) (j == i) (last_left p i (R q j resp last word ∷ past)) (last_left p i past) before
          (one-most (nat_lt 0 (left_of p i (R q j resp last word ∷ past))))
          (λ is. ap (λ m. one (nat_lt 0 m)) (subst (λ l. IsAccepted h (R q j resp l word ∷ past) → left_of p i (R q j resp l word ∷ past) ≡ 0) (sym is) (λ b. none-left h past p i q j resp word b t) a))
    ]
  where
    last-other : (last b c : Bool) (now before : ℕ) → (b && c) ≡ false → now ≡ before → now + one ((last && b) && c) ≤ before + 0 * 1
    last-other true b c now before n same = rw n (omega (arith, same))
    last-other false b c now before n same = omega (arith, same)

    last-here : (last b c : Bool) (now before : ℕ) → before ≡ 1 → now ≤ 1 → (last ≡ true → now ≡ 0) → now + one ((last && b) && c) ≤ before + 0 * 1
    last-here true b c now before had most none = let n = none refl in let o = one-most (b && c) in omega (arith, had, n, o)
    last-here false b c now before had most none = omega (arith, had, most)
leaves-last h p i e past a = omega arith

pub last-transfers-few : (h : Header) (past : Trace) → IsAccepted h past → counted is_last_transfer past ≤ counted (issues_on Read) past
last-transfers-few h past a =
    let each = for-each-name 1 is_last_transfer (issues_on Read) past
    (λ p i. let all = charged 1 (of_name is_last_transfer p i) (of_name (issues_on Read) p i) (last_left p i) h past refl (leaves-last h p i) a in omega (arith, all)) in
    omega (arith, each)
