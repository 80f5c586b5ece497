-- The outstanding transactions are those of the ports of the header, on both channels.
use Rattle.std.proofs.Common.{◌≡◌, ◌+◌, IfSome, ◌≤◌, ◌&&◌, ◌==◌, nat_lt, ℕ, Bool, true, false, List, [], ◌∷◌, Option, None, Some, filter, length, if◌then◌else◌, refl, arith, inl, inr}
use Rattle.std.proofs.lemmas.Bool.{and_parts, cases_Bool}
use Rattle.std.proofs.lemmas.Bool.Decides.{nat_tests}
use Rattle.std.specs.List.{AllByRecursion}
use Rattle.ace_event.specs.declared.event.Channel.TheVariants.{Read, Write}
use Rattle.ace_event.specs.declared.event.Channel.{Channel}
use Rattle.ace_event.specs.declared.event.Event.{Event}
use Rattle.ace_event.specs.declared.event.Event.TheVariants.{Ar, Aw}
use Rattle.ace_event.specs.declared.header.Header.{Header}
use Rattle.ace_model.proofs.Rules.Keeps.{accepted_keeps}
use Rattle.ace_model.specs.Accepted.{IsAccepted}
use Rattle.ace_model.specs.Progress.{transactions}
use Rattle.ace_model.specs.Trace.{Trace, more}
use Rattle.ace_model.specs.Transactions.{is_outstanding, issued, same_channel}
use Rattle.ace_model.specs.declared.transactions.Transaction.{Transaction}
use Rattle.ace_portck.specs.Pending.{pending_of}

-- the test holds of it, and its port comes before this one
abbrev pub is_below : (Transaction → Bool) → ℕ → Transaction → Bool
is_below test p x = nat_lt x.port p && test x

-- the test holds of it, and it is the port's, on the read or on the write channel
abbrev pub is_read_at : (Transaction → Bool) → ℕ → Transaction → Bool
is_read_at test p x = (x.port == p) && same_channel x.chan Read && test x

abbrev pub is_write_at : (Transaction → Bool) → ℕ → Transaction → Bool
is_write_at test p x = (x.port == p) && same_channel x.chan Write && test x

-- the test of one more, and of the others
count_more : (b : Bool) (x : Transaction) (xs : List Transaction) → length (if b then x ∷ xs else xs) ≡ (if b then 1 else 0) + length xs
count_more true x xs = omega arith
count_more false x xs = omega arith

-- those of the ports before the next one are those before this one and those of this one, which are reads and writes
split_one : (q p : ℕ) (c : Channel) (test : Bool) (all below reads writes : ℕ) → all ≡ below + (reads + writes)
    → (if nat_lt q (p + 1) && test then 1 else 0) + all
    ≡ ((if nat_lt q p && test then 1 else 0) + below)
    + (((if (q == p) && same_channel c Read && test then 1 else 0) + reads)
    + ((if (q == p) && same_channel c Write && test then 1 else 0) + writes))
split_one q p Read true all below reads writes e = grind (arith, nat_tests, e)
split_one q p Write true all below reads writes e = grind (arith, nat_tests, e)
split_one q p c false all below reads writes e = grind (arith, nat_tests, e)

pub next_port : (test : Transaction → Bool) (p : ℕ) (xs : List Transaction)
    → length (filter (is_below test (p + 1)) xs)
    ≡ length (filter (is_below test p) xs) + (length (filter (is_read_at test p) xs) + length (filter (is_write_at test p) xs))
next_port test p [] = refl
next_port test p (x ∷ xs) =
    rw (
      count_more (is_below test (p + 1) x) x (filter (is_below test (p + 1)) xs),
      count_more (is_below test p x) x (filter (is_below test p) xs),
      count_more (is_read_at test p x) x (filter (is_read_at test p) xs),
      count_more (is_write_at test p x) x (filter (is_write_at test p) xs),
    )
    (split_one x.port p x.chan (test x) _ _ _ _ (next_port test p xs))

-- before the first port there is none
pub no_port : (test : Transaction → Bool) (xs : List Transaction) → filter (is_below test 0) xs ≡ []
no_port test [] = refl
no_port test (x ∷ xs) = let none : nat_lt x.port 0 ≡ false = grind (arith, nat_tests) in rw none (no_port test xs)

-- all are before a number that is above their ports
pub all_ports : (test : Transaction → Bool) (p : ℕ) (xs : List Transaction) → AllByRecursion (λ x. nat_lt x.port p ≡ true) xs
    → filter (is_below test p) xs ≡ filter test xs
all_ports test p [] all = refl
all_ports test p (x ∷ xs) (first, rest) = rw (first, all_ports test p xs rest) refl

-- the port of a transaction of an accepted trace is one of the header
all_more : {A : Type 0} (P : A → Type 0) (xs : List A) (o : Option A) → AllByRecursion P xs → IfSome o P → AllByRecursion P (more xs o)
all_more P xs None all new = all
all_more P [] (Some x) all new = (new, tt)
all_more P (y ∷ xs) (Some x) (first, rest) new = (first, all_more P xs (Some x) rest new)

new_port : (h : Header) (past : Trace) (e : Event) → IsAccepted h (e ∷ past)
    → IfSome (issued (length past) e) (λ x. nat_lt x.port h.ports ≡ true)
new_port h past (Ar p i addr snoop dom bar lock) a =
    (and_parts (nat_lt p h.ports) _ (accepted_keeps h past (Ar p i addr snoop dom bar lock) a).rule_1).0
new_port h past (Aw p i addr snoop dom bar) a =
    (and_parts (nat_lt p h.ports) _ (accepted_keeps h past (Aw p i addr snoop dom bar) a).rule_1).0
new_port h past e a = tt

pub known_ports : (h : Header) (past : Trace) → IsAccepted h past → AllByRecursion (λ x. nat_lt x.port h.ports ≡ true) (transactions past)
known_ports h [] a = tt
known_ports h (e ∷ past) a = all_more _ (transactions past) (issued (length past) e) (known_ports h past a.0) (new_port h past e a)

-- there are no more transactions than events
filter_few : (test : Transaction → Bool) (xs : List Transaction) → length (filter test xs) ≤ length xs
filter_few test [] = omega arith
filter_few test (x ∷ xs) = elim (cases_Bool (test x)) [
  | inl t ↦ rw t (let few = filter_few test xs in omega (arith, few))
  | inr f ↦ rw f (let few = filter_few test xs in omega (arith, few))
]

more_few : (xs : List Transaction) (o : Option Transaction) → length (more xs o) ≤ length xs + 1
more_few xs None = omega arith
more_few [] (Some x) = omega arith
more_few (y ∷ xs) (Some x) = let few = more_few xs (Some x) in omega (arith, few)

transactions_few : (past : Trace) → length (transactions past) ≤ length past
transactions_few [] = omega arith
transactions_few (e ∷ past) =
    let one = more_few (transactions past) (issued (length past) e) in let few = transactions_few past in omega (arith, one, few)

pub few_below : (h : Header) (past : Trace) (p : ℕ) → length (filter (is_below (is_outstanding h past) p) (transactions past)) ≤ length past
few_below h past p =
    let few = filter_few (is_below (is_outstanding h past) p) (transactions past) in let all = transactions_few past in omega (arith, few, all)

-- those of one port
pub port_few : (h : Header) (past : Trace) (p : ℕ) → length (pending_of h past p Read) + length (pending_of h past p Write) ≤ length past
port_few h past p =
    let next = next_port (is_outstanding h past) p (transactions past) in let few = few_below h past (p + 1) in omega (arith, next, few)
