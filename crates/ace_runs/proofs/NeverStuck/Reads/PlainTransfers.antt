-- The transfers of steps 10 and 12 are those of barriers and of DVM transactions, and no line transaction has them.
use Rattle.std.proofs.Common.{◌≡◌, ℕ, Bool, true, false, ◌||◌, if◌then◌else◌, List, [], ◌∷◌, length, Option, Some, None, slice_get, refl, sym, ap, subst, ◌∙◌, inl, inr, arith}
use Rattle.std.proofs.lemmas.Bool.{and_from, or_cases, or_left, cases_Bool, eq-eqb}
use Rattle.ace_codes.specs.declared.kind.ArKind.{ArKind}
use Rattle.ace_codes.specs.declared.kind.ArKind.TheVariants as read
use Rattle.ace_event.specs.declared.event.Channel.{Channel}
use Rattle.ace_event.specs.declared.event.Channel.TheVariants.{Read}
use Rattle.ace_event.specs.declared.event.Event.{Event}
use Rattle.ace_event.specs.declared.event.Event.TheVariants.{B}
use Rattle.ace_event.specs.declared.header.Header.{Header}
use Rattle.ace_model.specs.declared.transactions.Transaction.{Transaction}
use Rattle.ace_model.specs.Barriers.{Pair, barriers, is_barrier_half, is_barrier_of, number_of, pair_of}
use Rattle.ace_model.specs.Kinds.{is_dvm_complete, is_dvm_message, is_line_read, is_line_write, is_read_barrier, is_write_barrier}
use Rattle.ace_model.specs.Messages.{is_dvm_completion, is_message_part}
use Rattle.ace_model.specs.Trace.{Trace, at_point, is_some_and, option_filter}
use Rattle.ace_model.specs.Transactions.{is_line, is_read, issued, outstanding, read_kind, same_channel, write_kind}
use Rattle.ace_model.proofs.Barriers.Pairs.{IsHalf, pairs-halves}
use Rattle.ace_model.proofs.General.Lists.{slice_get-at_end, slice_get-grown}
use Rattle.ace_model.proofs.General.Options.{Some-injective, is_some_and-is}
use Rattle.ace_model.proofs.Trace.Growth.{IsIssued, at_point-before, issued-cases}
use Rattle.ace_model.proofs.Trace.Issued.{issued-place}
use Rattle.ace_model.proofs.Trace.Looks.{is_read-is, read_writes_none}
use Rattle.ace_model.proofs.Trace.Places.{at_point-last}
use Rattle.ace_runs.specs.OrderSteps.{barrier_burst, dvm_burst, pair_burst, plain_transfer}
use Rattle.ace_runs.specs.SameEvents.{same_burst, same_event}
use Rattle.ace_runs.proofs.NeverStuck.Steps.Serving.{IsServed}
use Rattle.ace_runs.proofs.NeverStuck.Reads.InOrder.{FirstInOrder, IsInOrder, begins-in-order, of-none, read-out, same-name, same-transfer}

-- the transfer of a read that is no line transaction
plain-in-order : (h : Header) (past : Trace) (y : Transaction) (e : Event) → outstanding h past y.port Read y.id ≡ Some y → is_line y ≡ false
    → same_event (plain_transfer y) e ≡ true → IsInOrder h past e
plain-in-order h past y e own none s p i resp last word x is o line =
    let same = same-transfer y.port y.id 0 true 0 p i resp last word (subst (λ d. same_event (plain_transfer y) d ≡ true) is s) in
    let one = same-name h past x y p i own o same.port same.id in
    let bad : false ≡ true = sym none ∙ ap is_line one ∙ line in cc

pub no-line : (x : Transaction) (k : ArKind) → read_kind x ≡ Some k → is_line_read k ≡ false → is_line x ≡ false
no-line x k kind none =
    ap (λ o. is_some_and o is_line_read || is_some_and (write_kind x) is_line_write) kind
    ∙ ap (λ o. is_line_read k || is_some_and o is_line_write) (read_writes_none x k kind).0
    ∙ ap (λ b. b || false) none

message-no-line : (k : ArKind) → is_dvm_message k ≡ true → is_line_read k ≡ false
message-no-line read.DvmMessage m = refl
message-no-line k m = cc

completion-no-line : (k : ArKind) → is_dvm_complete k ≡ true → is_line_read k ≡ false
completion-no-line read.DvmComplete m = refl
completion-no-line k m = cc

barrier-no-line : (k : ArKind) → is_read_barrier k ≡ true → is_line_read k ≡ false
barrier-no-line read.Barrier m = refl
barrier-no-line k m = cc

-- A read without a line.
record PlainRead (x : Transaction) : Type 0 where
  reads : is_read x.chan ≡ true
  none : is_line x ≡ false

plain-read : (test : ArKind → Bool) (x : Transaction) → ((k : ArKind) → test k ≡ true → is_line_read k ≡ false) → is_some_and (read_kind x) test ≡ true → PlainRead x
plain-read test x each m =
    let k = is_some_and-is (read_kind x) test m in
    record { reads = (read_writes_none x k.0 k.1).1; none = no-line x k.0 k.1 (each k.0 k.2) }

dvm-read : (x : Transaction) → (is_message_part x || is_dvm_completion x) ≡ true → PlainRead x
dvm-read x m =
    elim (or_cases (is_message_part x) (is_dvm_completion x) m) [
      | inl part ↦ plain-read is_dvm_message x message-no-line part
      | inr completion ↦ plain-read is_dvm_complete x completion-no-line completion
    ]

pub dvm-in-order : (h : Header) (past : Trace) (burst : List Event) → IsServed dvm_burst h past burst → FirstInOrder h past burst
dvm-in-order h past burst s =
    let y = s.of in
    elim (cases_Bool (is_message_part y || is_dvm_completion y)) [
      | inr f ↦ of-none h past burst (subst (λ b. same_burst (if b then plain_transfer y ∷ [] else []) burst ≡ true) f s.same)
      | inl t ↦
          let plain = dvm-read y t in
          begins-in-order h past (plain_transfer y) [] burst (subst (λ b. same_burst (if b then plain_transfer y ∷ [] else []) burst ≡ true) t s.same)
          (λ e same. plain-in-order h past y e (read-out h past y s.issued s.out plain.reads) plain.none same) refl
    ]

-- a barrier half stands among those of its port at its number
pub half-there : (past : Trace) (p : ℕ) (c : Channel) (k : ℕ) (x : Transaction) → IsHalf past p c k x → slice_get (barriers past p c) k ≡ Some x
half-there [] p c k x i = let there = i.stands.there in cc
half-there (e ∷ past) p c k x i =
    elim (issued-cases e past x i.stands) [
      | inl new ↦
          let number : length (barriers past p c) ≡ k = ap (λ t. length (barriers t p c)) (sym (at_point-last e past x.place (issued-place (length past) e x new))) ∙ i.number in
          let half = i.barrier in
          let mine : option_filter (λ y. is_barrier_of y p c) (issued (length past) e) ≡ Some x = rw (new, half) refl in
          rw mine (slice_get-at_end (barriers past p c) k x (sym number))
      | inr old ↦
          let before : IsHalf past p c k x = record {
            stands = old;
            barrier = i.barrier;
            number = ap (λ t. length (barriers t p c)) (sym (at_point-before e past x.place (let low = old.before in omega arith))) ∙ i.number;
          } in
          slice_get-grown (barriers past p c) (option_filter (λ y. is_barrier_of y p c) (issued (length past) e)) k x (half-there past p c k x before)
    ]

-- the pair of a barrier that is read has it
pub reads-half : (past : Trace) (y : Transaction) (b : Pair) → IsIssued past y → is_some_and (read_kind y) is_read_barrier ≡ true → is_read y.chan ≡ true → pair_of past y ≡ Some b → b.read ≡ y
reads-half past y b i barrier reads is =
    let half : is_barrier_half y ≡ true = or_left (is_some_and (read_kind y) is_read_barrier) (is_some_and (write_kind y) is_write_barrier) barrier in
    let same : same_channel y.chan Read ≡ true = ap (λ c. if c then true else false) reads in
    let mine : IsHalf past y.port Read (number_of past y) y = record {
      stands = i;
      barrier = and_from _ _ (and_from _ _ half (eq-eqb y.port y.port refl)) same;
      number = ap (λ c. length (barriers (at_point y.place past) y.port c)) (sym (is_read-is y.chan reads));
    } in
    let other = half-there past y.port Read (number_of past y) b.read (pairs-halves past y.port (number_of past y) b is).read in
    Some-injective b.read y (sym other ∙ half-there past y.port Read (number_of past y) y mine)

pub barrier-in-order : (h : Header) (past : Trace) (burst : List Event) → IsServed barrier_burst h past burst → FirstInOrder h past burst
barrier-in-order h past burst s =
    elim (cases_Bool (is_some_and (read_kind s.of) is_read_barrier)) [
      | inr f ↦ of-none h past burst (subst (λ b. same_burst (if b then pair_burst (pair_of past s.of) else []) burst ≡ true) f s.same)
      | inl t ↦ by (pair_of past s.of) refl t (subst (λ b. same_burst (if b then pair_burst (pair_of past s.of) else []) burst ≡ true) t s.same)
    ]
  where
    by : (o : Option Pair) → pair_of past s.of ≡ o → is_some_and (read_kind s.of) is_read_barrier ≡ true → same_burst (pair_burst (pair_of past s.of)) burst ≡ true → FirstInOrder h past burst
    by None is t gives = of-none h past burst (subst (λ o. same_burst (pair_burst o) burst ≡ true) is gives)
    by (Some b) is t gives =
        let plain = plain-read is_read_barrier s.of barrier-no-line t in
        let one = reads-half past s.of b s.issued t plain.reads is in
        begins-in-order h past (plain_transfer b.read) (B b.write.port b.write.id 0 ∷ []) burst (subst (λ o. same_burst (pair_burst o) burst ≡ true) is gives)
        (λ e same. plain-in-order h past s.of e (read-out h past s.of s.issued s.out plain.reads) plain.none (subst (λ z. same_event (plain_transfer z) e ≡ true) one same)) refl
