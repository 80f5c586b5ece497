-- The clauses of K34, K36 and K39 that are named.
use Rattle.std.proofs.Common.{◌≡◌, ◌⊎◌, ℕ, zero, suc, ◌+◌, ◌-◌, ◌<◌, Bool, true, false, not, ◌&&◌, ◌||◌, ◌==◌, if◌then◌else◌, List, [], ◌∷◌, ◌++◌, length, slice_get, Option, Some, None, is_some, refl, sym, ap, ◌∙◌, arith, inl, inr, length-append}
use Rattle.std.proofs.lemmas.Option.{slice_get_within}
use Rattle.ace_codes.specs.Snoops.{ac_kind_of}
use Rattle.ace_codes.specs.declared.kind.SnoopKind.{SnoopKind}
use Rattle.ace_codes.specs.declared.kind.SnoopKind.TheVariants.{DvmComplete}
use Rattle.ace_event.specs.declared.event.Channel.{Channel}
use Rattle.ace_event.specs.declared.event.Channel.TheVariants.{Read, Write}
use Rattle.ace_event.specs.declared.event.Event.{Event}
use Rattle.ace_event.specs.declared.event.Event.TheVariants.{Ac, B, R}
use Rattle.ace_model.specs.declared.transactions.Transaction.{Transaction}
use Rattle.ace_model.specs.Accepted.{least_broken}
use Rattle.ace_model.specs.Barriers.{Pair, barriers, is_barrier_half, is_synchronisation, may_answer, number_of, pair_of, paired}
use Rattle.ace_model.specs.Kinds.{is_complete_snoop, is_message_snoop}
use Rattle.ace_model.specs.Messages.{is_second_part, next_part}
use Rattle.ace_model.specs.Trace.{Trace, implies, is_none_or, is_some_and}
use Rattle.ace_model.proofs.General.Lists.{slice_get-all}
use Rattle.ace_model.proofs.General.Options.{Some-injective, some_is}
use Rattle.ace_model.proofs.Trace.Growth.{IsIssued, named-issued}
use Rattle.ace_model.proofs.Trace.Issued.{outstanding-named}
use Rattle.ace_portck.specs.Targets.{Recording}
use Rattle.ace_sysck.specs.declared.barriers.Barrier.{Barrier}
use Rattle.ace_sysck.specs.declared.barriers.Barrier.TheVariants.{Idle, ReadHalf, WriteHalf, Open}
use Rattle.ace_sysck.specs.declared.barriers.OpenPair.{OpenPair}
use Rattle.ace_sysck.specs.declared.inboxes.Message.{Message}
use Rattle.ace_sysck.specs.Inboxes.{next_message}
use Rattle.ace_sysck.specs.Barriers.{BarrierStands, IsDone, pair_in, reads_of, writes_of}
use Rattle.ace_sysck.proofs.BarrierAnswers.{half-there}
use Rattle.ace_sysck.proofs.BarrierRules.{pairs-of, count-reads, count-writes}
use Rattle.ace_clauses.specs.Clauses.{clause_of}
use Rattle.ace_clauses.specs.OrderClauses.{response_to}
use Rattle.ace_clauses.specs.declared.letters.Letter.{Letter}
use Rattle.ace_clauses.specs.declared.letters.Letter.TheVariants as letter
use Rattle.ace_explain.specs.Names.{Names}
use Rattle.ace_explain.proofs.Broken.{has_clause, none_broken}

-- ---- K34 ----

-- a pair is among those that are done, or is one of the rest
joined : (done rest : List Pair) (k : ℕ) (d : Pair) → slice_get (done ++ rest) k ≡ Some d → (slice_get done k ≡ Some d) ⊎ (slice_get rest (k - length done) ≡ Some d)
joined [] rest k d is = inr (ap (slice_get rest) (omega arith) ∙ is)
joined (z ∷ done) rest zero d is = inl is
joined (z ∷ done) rest (suc k) d is =
    elim (joined done rest k d is) [
      | inl old ↦ inl old
      | inr new ↦ inr (ap (slice_get rest) (omega arith) ∙ new)
    ]

only : (y : Pair) (k : ℕ) (z : Pair) → slice_get (y ∷ []) k ≡ Some z → y ≡ z
only y zero z is = Some-injective y z is
only y (suc k) z is = cc

module _ (past : Trace) (x : Transaction) where
  -- the pair of a half may be answered, or is the open one
  pair-cases : (b : Barrier) (s : BarrierStands past x.port b) (d : Pair) → pair_of past x ≡ Some d
      → (may_answer past x.port d ≡ true) ⊎ ((o : OpenPair) × (b ≡ Open o) × (pair_in o ≡ d))
  pair-cases b s d is =
      elim (joined s.done (paired (reads_of b) (writes_of b)) (number_of past x) d (sym (ap (λ l. slice_get l (number_of past x)) (pairs-of past x.port b s)) ∙ is)) [
        | inl old ↦ inl (slice_get-all (IsDone past x.port) s.done (number_of past x) d s.are_done old).answered
        | inr new ↦ inr (by b refl (number_of past x - length s.done) new)
      ]
    where
      by : (c : Barrier) → b ≡ c → (k : ℕ) → slice_get (paired (reads_of c) (writes_of c)) k ≡ Some d → (o : OpenPair) × (b ≡ Open o) × (pair_in o ≡ d)
      by Idle is k at = cc
      by (ReadHalf y) is k at = cc
      by (WriteHalf y) is k at = cc
      by (Open o) is k at = (o, is, only (pair_in o) k d at)

  -- a half has its pair where that of its port is open
  open-paired : IsIssued past x → is_barrier_half x ≡ true → (o : OpenPair) → BarrierStands past x.port (Open o) → (d : Pair) × (pair_of past x ≡ Some d)
  open-paired i half o s =
      let there = slice_get_within (barriers past x.port x.chan) (number_of past x) x (half-there past x i half) in
      let long = length-append s.done (pair_in o ∷ []) in
      let n : length (barriers past x.port x.chan) ≡ length s.done + 1 = count x.chan in
      let found = get_at (s.done ++ pair_in o ∷ []) (number_of past x) (omega (arith, there, n, long)) in
      (found.0, ap (λ l. slice_get l (number_of past x)) (pairs-of past x.port (Open o) s) ∙ found.1)
    where
      count : (c : Channel) → length (barriers past x.port c) ≡ length s.done + 1
      count Read = count-reads past x.port (Open o) s
      count Write = count-writes past x.port (Open o) s

      get_at : (xs : List Pair) (k : ℕ) → k < length xs → (z : Pair) × (slice_get xs k ≡ Some z)
      get_at [] k low = absurd (omega arith)
      get_at (z ∷ xs) zero low = (z, refl)
      get_at (z ∷ xs) (suc k) low = get_at xs k (omega arith)

-- the clause by what there is to say of a half and its pair
abbrev Told34 : (there memory sync : Bool) → Option Letter
Told34 there memory sync =
    if there
    then (if memory then (if sync then None else Some letter.C) else Some letter.B)
    else Some letter.A

module _ (r : Recording) (e : Event) where
  -- of an event that answers nothing
  pub answers_none : response_to r.header r.past e ≡ None → Names r e 34 letter.A
  answers_none none least = none_broken (rw none at (has_clause r.header r.past e 34 least))

  module _ (x : Transaction) (out : response_to r.header r.past e ≡ Some x) where
    pub answers_other : is_barrier_half x ≡ false → Names r e 34 letter.A
    answers_other other least = none_broken (rw (out, other) at (has_clause r.header r.past e 34 least))

    issued_half : IsIssued r.past x
    issued_half = by e out
      where
        by : (d : Event) → response_to r.header r.past d ≡ Some x → IsIssued r.past x
        by (R p i resp last word) is = named-issued r.past p Read i x (outstanding-named r.header r.past p Read i x is)
        by (B p i resp) is = named-issued r.past p Write i x (outstanding-named r.header r.past p Write i x is)
        by d is = cc

    module _ (half : is_barrier_half x ≡ true) where
      told : clause_of r.header r.past e 34
          ≡ Told34 (is_some (pair_of r.past x)) (is_none_or (pair_of r.past x) (λ b. implies (not (is_synchronisation b)) (may_answer r.past x.port b)))
          (is_none_or (pair_of r.past x) (λ b. implies (is_synchronisation b) (may_answer r.past x.port b)))
      told = rw (out, half) refl

      unpaired : pair_of r.past x ≡ None → Names r e 34 letter.A
      unpaired none least = told ∙ ap (λ o. Told34 (is_some o) (is_none_or o (λ b. implies (not (is_synchronisation b)) (may_answer r.past x.port b))) (is_none_or o (λ b. implies (is_synchronisation b) (may_answer r.past x.port b)))) none

      module _ (d : Pair) (is : pair_of r.past x ≡ Some d) where
        by_pair : clause_of r.header r.past e 34
            ≡ Told34 true (implies (not (is_synchronisation d)) (may_answer r.past x.port d)) (implies (is_synchronisation d) (may_answer r.past x.port d))
        by_pair = told ∙ ap (λ o. Told34 (is_some o) (is_none_or o (λ b. implies (not (is_synchronisation b)) (may_answer r.past x.port b))) (is_none_or o (λ b. implies (is_synchronisation b) (may_answer r.past x.port b)))) is

        left : least_broken r.header r.past e ≡ Some 34
            → is_some (Told34 true (implies (not (is_synchronisation d)) (may_answer r.past x.port d)) (implies (is_synchronisation d) (may_answer r.past x.port d))) ≡ true
        left least = ap is_some (sym by_pair) ∙ has_clause r.header r.past e 34 least

        kept-due : (sync may : Bool) → may ≡ true → is_some (Told34 true (implies (not sync) may) (implies sync may)) ≡ true → {A : Type 0} → A
        kept-due true may m some = none_broken (rw m at some)
        kept-due false may m some = none_broken (rw m at some)

        -- it isn't one that may be answered
        undue : may_answer r.past x.port d ≡ true → least_broken r.header r.past e ≡ Some 34 → {A : Type 0} → A
        undue may least = kept-due (is_synchronisation d) (may_answer r.past x.port d) may (left least)

        memory-told : (sync may : Bool) → sync ≡ false → is_some (Told34 true (implies (not sync) may) (implies sync may)) ≡ true
            → Told34 true (implies (not sync) may) (implies sync may) ≡ Some letter.B
        memory-told true may s some = cc
        memory-told false true s some = none_broken some
        memory-told false false s some = refl

        sync-told : (sync may : Bool) → sync ≡ true → is_some (Told34 true (implies (not sync) may) (implies sync may)) ≡ true
            → Told34 true (implies (not sync) may) (implies sync may) ≡ Some letter.C
        sync-told true true s some = none_broken some
        sync-told true false s some = refl
        sync-told false may s some = cc

        memory_barrier : is_synchronisation d ≡ false → Names r e 34 letter.B
        memory_barrier s least = by_pair ∙ memory-told (is_synchronisation d) (may_answer r.past x.port d) s (left least)

        sync_barrier : is_synchronisation d ≡ true → Names r e 34 letter.C
        sync_barrier s least = by_pair ∙ sync-told (is_synchronisation d) (may_answer r.past x.port d) s (left least)

      -- where no pair is open
      pub no_open : (b : Barrier) → BarrierStands r.past x.port b → ((o : OpenPair) → b ≡ Open o → ⊥) → Names r e 34 letter.A
      no_open b s closed = by (pair_of r.past x) refl
        where
          by : (o : Option Pair) → pair_of r.past x ≡ o → Names r e 34 letter.A
          by None is = unpaired is
          by (Some d) is = λ least. elim (pair-cases r.past x b s d is) [
            | inl may ↦ undue d is may least
            | inr here ↦ absurd (closed here.0 here.1)
          ]

      module _ (o : OpenPair) (s : BarrierStands r.past x.port (Open o)) where
        open_same : (p q : OpenPair) → Open p ≡ Open q → p ≡ q
        open_same p q is = cc

        pub early_memory : (o.read.bar == 3) ≡ false → Names r e 34 letter.B
        early_memory bar least =
            let pair = open-paired r.past x issued_half half o s in
            elim (pair-cases r.past x (Open o) s pair.0 pair.1) [
              | inl may ↦ undue pair.0 pair.1 may least
              | inr here ↦
                  let one : pair_in o ≡ pair.0 = ap pair_in (open_same o here.0 here.1) ∙ here.2 in
                  memory_barrier pair.0 pair.1 (ap is_synchronisation (sym one) ∙ bar) least
            ]

        pub early_sync_barrier : (o.read.bar == 3) ≡ true → Names r e 34 letter.C
        early_sync_barrier bar least =
            let pair = open-paired r.past x issued_half half o s in
            elim (pair-cases r.past x (Open o) s pair.0 pair.1) [
              | inl may ↦ undue pair.0 pair.1 may least
              | inr here ↦
                  let one : pair_in o ≡ pair.0 = ap pair_in (open_same o here.0 here.1) ∙ here.2 in
                  sync_barrier pair.0 pair.1 (ap is_synchronisation (sym one) ∙ bar) least
            ]

-- ---- K36 ----

-- what is asked of an AC that isn't a DVM Message
pub second-told : (next : Option Transaction) (test : Transaction → Bool) (rule : Option ℕ)
    → rule ≡ (if implies (is_some_and next test) false then None else Some 36) → is_some_and rule (λ k. k == 36) ≡ is_some_and next test
second-told next test rule is = ap (λ o. is_some_and o (λ k. k == 36)) is ∙ by (is_some_and next test)
  where
    by : (b : Bool) → is_some_and (if implies b false then None else Some 36) (λ k. k == 36) ≡ b
    by true = refl
    by false = refl

-- the clause by whether the AC is a DVM Message, and by the next part: whether it is a second one, and whether it has the address
abbrev Told36 : Bool → Option Transaction → (Transaction → Bool) → (Transaction → Bool) → Option Letter
Told36 message next second fits =
    if implies (is_some_and next second) (implies (message || is_some_and next second) (message && is_some_and next fits))
    then (if implies message (is_some next)
    then (if implies message (is_none_or next fits) then None else Some letter.C)
    else Some letter.B)
    else Some letter.A

second-is : (message : Bool) (next : Option Transaction) (second fits : Transaction → Bool) → is_some_and next second ≡ true
    → is_some (Told36 message next second fits) ≡ true → Told36 message next second fits ≡ Some letter.A
second-is message None second fits is some = cc
second-is message (Some x) second fits is some = rw is (by message (fits x) (rw is at some))
  where
    by : (message b : Bool)
        → is_some (if implies true (implies (message || true) (message && b)) then (if implies message true then (if implies message b then None else Some letter.C) else Some letter.B) else Some letter.A) ≡ true
        → (if implies true (implies (message || true) (message && b)) then (if implies message true then (if implies message b then None else Some letter.C) else Some letter.B) else Some letter.A) ≡ Some letter.A
    by true true some = none_broken some
    by true false some = refl
    by false b some = refl

none-waits : (message : Bool) (second fits : Transaction → Bool) → is_some (Told36 message None second fits) ≡ true → Told36 message None second fits ≡ Some letter.B
none-waits true second fits some = refl
none-waits false second fits some = none_broken some

other-waits : (message : Bool) (x : Transaction) (second fits : Transaction → Bool) → second x ≡ false
    → is_some (Told36 message (Some x) second fits) ≡ true → Told36 message (Some x) second fits ≡ Some letter.C
other-waits message x second fits is some = rw is (by message (fits x) (rw is at some))
  where
    by : (message b : Bool)
        → is_some (if implies false (implies (message || false) (message && b)) then (if implies message true then (if implies message b then None else Some letter.C) else Some letter.B) else Some letter.A) ≡ true
        → (if implies false (implies (message || false) (message && b)) then (if implies message true then (if implies message b then None else Some letter.C) else Some letter.B) else Some letter.A) ≡ Some letter.C
    by true true some = none_broken some
    by true false some = refl
    by false b some = none_broken some

-- where no message is next, no part is
pub message-none : (past : Trace) (q : ℕ) → next_message past q ≡ None → next_part past q ≡ None
message-none past q none = by (next_part past q) refl
  where
    by : (next : Option Transaction) → next_part past q ≡ next → next_part past q ≡ None
    by None at = at
    by (Some x) at = let bad : is_some (next_message past q) ≡ true = rw at refl in let no_message = ap is_some none in cc

pub message-some : (past : Trace) (q : ℕ) (m : Message) → next_message past q ≡ Some m → is_some (next_part past q) ≡ true
message-some past q m some = by (next_part past q) refl
  where
    by : (next : Option Transaction) → next_part past q ≡ next → is_some (next_part past q) ≡ true
    by None at = let none : next_message past q ≡ None = rw at refl in let bad : None ≡ Some m = sym none ∙ some in cc
    by (Some x) at = ap is_some at

module _ (r : Recording) where
  -- of an event that is no AC
  pub k36_of_others : (e : Event) → ((p addr snoop : ℕ) → e ≡ Ac p addr snoop → ⊥) → Names r e 36 letter.A
  k36_of_others (Ac p addr snoop) ac least = absurd (ac p addr snoop refl)
  k36_of_others e ac least = none_broken (has_clause r.header r.past e 36 least)

  pub k37_of_others : (e : Event) → ((p i resp : ℕ) (last : Bool) (word : ℕ) → e ≡ R p i resp last word → ⊥) → Names r e 37 letter.A
  k37_of_others (R p i resp last word) reads least = absurd (reads p i resp last word refl)
  k37_of_others e reads least = none_broken (has_clause r.header r.past e 37 least)

  pub k39_of_others : (e : Event) → ((p addr snoop : ℕ) → e ≡ Ac p addr snoop → ⊥) → Names r e 39 letter.A
  k39_of_others (Ac p addr snoop) ac least = absurd (ac p addr snoop refl)
  k39_of_others e ac least = none_broken (has_clause r.header r.past e 39 least)

  module _ (p addr snoop : ℕ) where
    -- the kind is known, as the rule is broken
    known : least_broken r.header r.past (Ac p addr snoop) ≡ Some 36 → (k : SnoopKind) × (ac_kind_of snoop ≡ Some k)
    known least = by (ac_kind_of snoop) refl
      where
        by : (o : Option SnoopKind) → ac_kind_of snoop ≡ o → (k : SnoopKind) × (ac_kind_of snoop ≡ Some k)
        by None is = none_broken (rw is at (has_clause r.header r.past (Ac p addr snoop) 36 least))
        by (Some k) is = (k, is)

    told36 : (k : SnoopKind) → ac_kind_of snoop ≡ Some k
        → clause_of r.header r.past (Ac p addr snoop) 36 ≡ Told36 (is_message_snoop k) (next_part r.past p) (is_second_part r.past) (λ x. x.addr == addr)
    told36 k kind = rw kind refl

    pub second_comes : is_some_and (next_part r.past p) (is_second_part r.past) ≡ true → Names r (Ac p addr snoop) 36 letter.A
    second_comes second least =
        let k = known least in
        told36 k.0 k.1
        ∙ second-is (is_message_snoop k.0) (next_part r.past p) (is_second_part r.past) (λ x. x.addr == addr) second
        (ap is_some (sym (told36 k.0 k.1)) ∙ has_clause r.header r.past (Ac p addr snoop) 36 least)

    pub none_comes : next_part r.past p ≡ None → Names r (Ac p addr snoop) 36 letter.B
    none_comes none least =
        let k = known least in
        let same : clause_of r.header r.past (Ac p addr snoop) 36 ≡ Told36 (is_message_snoop k.0) None (is_second_part r.past) (λ x. x.addr == addr) =
        told36 k.0 k.1 ∙ ap (λ o. Told36 (is_message_snoop k.0) o (is_second_part r.past) (λ x. x.addr == addr)) none in
        same ∙ none-waits (is_message_snoop k.0) (is_second_part r.past) (λ x. x.addr == addr) (ap is_some (sym same) ∙ has_clause r.header r.past (Ac p addr snoop) 36 least)

    pub other_comes : is_some_and (next_part r.past p) (is_second_part r.past) ≡ false → is_some (next_part r.past p) ≡ true → Names r (Ac p addr snoop) 36 letter.C
    other_comes first waits least =
        let k = known least in
        let x = some_is (next_part r.past p) waits in
        let same : clause_of r.header r.past (Ac p addr snoop) 36 ≡ Told36 (is_message_snoop k.0) (Some x.0) (is_second_part r.past) (λ x. x.addr == addr) =
        told36 k.0 k.1 ∙ ap (λ o. Told36 (is_message_snoop k.0) o (is_second_part r.past) (λ x. x.addr == addr)) x.1 in
        same ∙ other-waits (is_message_snoop k.0) x.0 (is_second_part r.past) (λ x. x.addr == addr) (ap (λ o. is_some_and o (is_second_part r.past)) (sym x.1) ∙ first)
        (ap is_some (sym same) ∙ has_clause r.header r.past (Ac p addr snoop) 36 least)

    -- K39, of an AC of another kind
    pub no_complete : is_some_and (ac_kind_of snoop) is_complete_snoop ≡ false → Names r (Ac p addr snoop) 39 letter.A
    no_complete other least = by (ac_kind_of snoop) refl
      where
        by : (o : Option SnoopKind) → ac_kind_of snoop ≡ o → clause_of r.header r.past (Ac p addr snoop) 39 ≡ Some letter.A
        by None is = none_broken (rw is at (has_clause r.header r.past (Ac p addr snoop) 39 least))
        by (Some k) is =
            let apart : is_complete_snoop k ≡ false = ap (λ o. is_some_and o is_complete_snoop) (sym is) ∙ other in
            none_broken (rw (is, apart) at (has_clause r.header r.past (Ac p addr snoop) 39 least))

-- the kind of a DVM Complete
pub complete-kind : (o : Option SnoopKind) → is_some_and o is_complete_snoop ≡ true → o ≡ Some DvmComplete
complete-kind None is = cc
complete-kind (Some DvmComplete) is = refl
complete-kind (Some k) is = cc
