-- Before its last transfer a read has at most three, and a DVM Complete none.
use Rattle.std.proofs.Common.{◌≡◌, ℕ, ◌+◌, ◌-◌, ◌*◌, ◌≤◌, Bool, true, false, not, ◌&&◌, ◌==◌, ◌∷◌, length, Option, Some, None, refl, inl, inr, arith}
use Rattle.std.proofs.lemmas.Bool.{cases_Bool, and_parts, eqb-false}
use Rattle.ace_codes.specs.declared.kind.ArKind.{ArKind}
use Rattle.ace_codes.specs.declared.kind.ArKind.TheVariants as read
use Rattle.ace_event.specs.declared.event.Channel.TheVariants.{Read}
use Rattle.ace_event.specs.declared.event.Event.{Event}
use Rattle.ace_event.specs.declared.event.Event.TheVariants.{Ar, R, Aw}
use Rattle.ace_event.specs.declared.header.Header.{Header}
use Rattle.ace_tables.specs.Answers.{same_test}
use Rattle.ace_model.specs.declared.transactions.Transaction.{Transaction}
use Rattle.ace_model.specs.Accepted.{IsAccepted}
use Rattle.ace_model.specs.Trace.{Trace, is_some_and}
use Rattle.ace_model.specs.Kinds.{beats_of, is_dvm_complete}
use Rattle.ace_model.specs.Transactions.{read_kind, transaction_of, transfers}
use Rattle.ace_model.specs.Messages.{is_dvm_completion}
use Rattle.ace_runs.specs.Counts.{counted, is_transfer, is_last_transfer, is_earlier_transfer, reads_for_operation}
use Rattle.ace_runs.proofs.Few.Keys.{of_name, for-each-name}
use Rattle.ace_runs.proofs.Few.Counting.{one, counted-split}
use Rattle.ace_runs.proofs.Few.Charges.{Leaves, charged}
use Rattle.ace_runs.proofs.Few.Transfers.{kind_left, left_of, most-left, IsNext, next-transfer, alike, other-read, other-write, fewer-left, same-left}

-- how many transfers before its last the read of the name has left
abbrev earlier_left : ℕ → ℕ → Trace → ℕ
earlier_left p i past = left_of p i past - 1

completion-most : (k : Option ArKind) (n : ℕ) → is_some_and k is_dvm_complete ≡ true → kind_left k n ≤ 1
completion-most None n complete = cc
completion-most (Some read.DvmComplete) n complete = omega arith
completion-most (Some k) n complete = cc

-- after an AR of the name
issued-left : (b c : Bool) (k : Option ArKind) (n now before : ℕ) → now ≤ 4 → (b ≡ true → now ≡ kind_left k n) → (b ≡ false → now ≡ before) → (c ≡ true → kind_left k n ≤ 1)
    → (now - 1) + 0 ≤ (before - 1) + one (not c && b) * 3
issued-left true true k n now before most new same few = let a = new refl in let f = few refl in omega (arith, a, f)
issued-left true false k n now before most new same few = omega (arith, most)
issued-left false c k n now before most new same few = let s = same refl in omega (arith, s)

new-read : (past : Trace) (p i q j addr snoop dom bar : ℕ) (lock : Bool) → ((q == p) && (j == i)) ≡ true
    → left_of p i (Ar q j addr snoop dom bar lock ∷ past)
    ≡ kind_left (read_kind (record { place = length past; port = q; chan = Read; id = j; addr = addr; snoop = snoop; dom = dom; bar = bar; lock = lock }))
    (transfers (Ar q j addr snoop dom bar lock ∷ past) p i)
new-read past p i q j addr snoop dom bar lock t =
    let parts = and_parts (q == p) (j == i) t in rw (parts.0, parts.1) refl

-- an earlier transfer leaves one fewer, as one more is to come
more-come : (h : Header) (past : Trace) (p i q j resp word : ℕ) → IsAccepted h (R q j resp false word ∷ past) → ((q == p) && (j == i)) ≡ true
    → 1 ≤ left_of p i (R q j resp false word ∷ past)
more-come h past p i q j resp word a t =
    let s = alike q p j i t in
    let n = next-transfer h past q j resp false word a in
    let next : IsNext past p i false = rw (← s.port, ← s.id) n in
    let room = next.room in
    let other : (transfers past p i + 1 == beats_of next.kind) ≡ false = is-not (transfers past p i + 1 == beats_of next.kind) next.ends in
    let apart = eqb-false (transfers past p i + 1) (beats_of next.kind) other in
    rw (s.back, next.named, next.of_kind) (omega (arith, room, apart))
  where
    is-not : (b : Bool) → same_test false b ≡ true → b ≡ false
    is-not true t = cc
    is-not false t = refl

leaves-earlier : (h : Header) (p i : ℕ) → Leaves 3 (of_name is_earlier_transfer p i) (of_name reads_for_operation p i) (earlier_left p i) h
leaves-earlier h p i (Ar q j addr snoop dom bar lock) past a =
    let e = Ar q j addr snoop dom bar lock in
    let x : Transaction = record { place = length past; port = q; chan = Read; id = j; addr = addr; snoop = snoop; dom = dom; bar = bar; lock = lock } in
    let step = issued-left ((q == p) && (j == i)) (is_dvm_completion x) (read_kind x) (transfers (e ∷ past) p i) (left_of p i (e ∷ past)) (left_of p i past)
    (most-left (transaction_of (e ∷ past) p Read i) (transfers (e ∷ past) p i))
    (new-read past p i q j addr snoop dom bar lock) (other-read past p i q j addr snoop dom bar lock)
    (completion-most (read_kind x) (transfers (e ∷ past) p i)) in
    grouped (not (is_dvm_completion x)) (q == p) (j == i) (earlier_left p i (e ∷ past)) (earlier_left p i past) step
  where
    grouped : (c a b : Bool) (n m : ℕ) → n + 0 ≤ m + one (c && (a && b)) * 3 → n + 0 ≤ m + one ((c && a) && b) * 3
    grouped true a b n m le = le
    grouped false a b n m le = le
leaves-earlier h p i (Aw q j addr snoop dom bar) past a = let same = other-write past p i q j addr snoop dom bar in omega (arith, same)
leaves-earlier h p i (R q j resp true word) past a =
    elim (cases_Bool ((q == p) && (j == i))) [
      | inl t ↦ let fewer = fewer-left h past p i q j resp true word a t in omega (arith, fewer)
      | inr n ↦ let same = same-left past p i q j resp true word n in omega (arith, same)
    ]
leaves-earlier h p i (R q j resp false word) past a =
    elim (cases_Bool ((q == p) && (j == i))) [
      | inl t ↦
          let fewer = fewer-left h past p i q j resp false word a t in
          let come = more-come h past p i q j resp word a t in
          rw t (omega (arith, fewer, come))
      | inr n ↦ let same = same-left past p i q j resp false word n in rw n (omega (arith, same))
    ]
leaves-earlier h p i e past a = omega arith

pub earlier-transfers-few : (h : Header) (past : Trace) → IsAccepted h past → counted is_earlier_transfer past ≤ counted reads_for_operation past * 3
earlier-transfers-few h past a =
    for-each-name 3 is_earlier_transfer reads_for_operation past
    (λ p i. let all = charged 3 (of_name is_earlier_transfer p i) (of_name reads_for_operation p i) (earlier_left p i) h past refl (leaves-earlier h p i) a in omega (arith, all))

two-transfers : (e : Event) → one (is_transfer e) ≡ one (is_last_transfer e) + one (is_earlier_transfer e)
two-transfers (R p i resp true word) = refl
two-transfers (R p i resp false word) = refl
two-transfers _ = refl

pub transfers-split : (past : Trace) → counted is_transfer past ≡ counted is_last_transfer past + counted is_earlier_transfer past
transfers-split past = counted-split is_transfer is_last_transfer is_earlier_transfer past two-transfers
