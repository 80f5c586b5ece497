-- The events by which a port asks: each issues a transaction under one of the sixteen identifiers, or gives a line up. A write with data stands alone;
-- it carries the operation's data, or it gives the line that it writes back to memory.
use Rattle.std.proofs.Common.{◌≡◌, ◌<◌, ◌⊎◌, ℕ, zero, suc, Bool, true, false, not, ◌&&◌, ◌||◌, if◌then◌else◌, nat_lt, List, [], ◌∷◌, ◌++◌, map, filter, Option, Some, None, is_none, Contains, refl, sym, subst, arith, inl, inr}
use Rattle.std.specs.List.{AllByRecursion, flat_map, list_all}
use Rattle.std.proofs.lemmas.Bool.{and_from, lt-ltb}
use Rattle.ace_codes.specs.Writes.{aw_kind_of}
use Rattle.ace_codes.specs.declared.kind.ArKind.{ArKind}
use Rattle.ace_codes.specs.declared.kind.ArKind.TheVariants as read
use Rattle.ace_codes.specs.declared.kind.AwKind.{AwKind}
use Rattle.ace_codes.specs.declared.kind.AwKind.TheVariants as write
use Rattle.ace_codes.specs.declared.state.LineState.{LineState}
use Rattle.ace_event.specs.declared.event.Channel.TheVariants.{Read, Write}
use Rattle.ace_event.specs.declared.event.Event.{Event}
use Rattle.ace_event.specs.declared.event.Event.TheVariants.{Ar, Aw, S}
use Rattle.ace_event.specs.declared.header.Header.{Header}
use Rattle.ace_tables.specs.States.{is_dirty, is_invalid}
use Rattle.ace_model.specs.declared.plans.Op.{Op}
use Rattle.ace_model.specs.declared.plans.Op.TheVariants as op
use Rattle.ace_model.specs.AddressRules.{has_write, keeps_apart}
use Rattle.ace_model.specs.Kinds.{has_write_data, is_no_snoop_write, is_unique_write, is_write_barrier}
use Rattle.ace_model.specs.States.{state_of}
use Rattle.ace_model.specs.Trace.{Trace, is_some_and}
use Rattle.ace_model.specs.Transactions.{has_outstanding_on}
use Rattle.ace_runs.specs.HeldLines.{held_lines}
use Rattle.ace_runs.specs.Requests.{Request, Reads, Misses, Writes, Drops, and_part, barrier_bursts, barrier_halves, bursts_of, cleans_first, drop_bursts, free_on, gives_up_first, has_room, identifiers, is_free, least_below, message_bursts, owns, read_bursts, request_of, room_bursts, victim_bursts, with_identifier, write_bursts}
use Rattle.ace_runs.proofs.NeverStuck.Operations.Identifiers.{least-low}
use Rattle.ace_master.specs.Issues.{ar_of, aw_of}
use Rattle.ace_master.specs.Lite.{kind_written}

-- it issues no write with data: an AR under one of the sixteen identifiers, an AW without data, or an S
abbrev pub is_bare : Event → Bool
is_bare (Ar p i addr snoop dom bar lock) = nat_lt i 16
is_bare (Aw p i addr snoop dom bar) = not (is_some_and (aw_kind_of snoop dom bar) has_write_data)
is_bare (S p addr st) = true
is_bare _ = false

-- a write of the kind carries data of an operation
abbrev pub is_for_data : AwKind → Bool
is_for_data k = is_unique_write k || is_no_snoop_write k

-- The burst issues no write with data, or it is a write alone, which carries data of an operation only where it is the one that this asks for.
pub data AsksBy (p : ℕ) (o : Op) (burst : List Event) : Type 0 where
  bare : list_all is_bare burst ≡ true → AsksBy p o burst
  writes : (i a : ℕ) (k : AwKind) → burst ≡ aw_of p i k a ∷ [] → is_write_barrier k ≡ false → (is_for_data k ≡ true → kind_written o ≡ Some k) → AsksBy p o burst

-- ---- lists -------------------------------------------------------------------------------------------

abbrev Each : {A : Type 0} → (A → Type 0) → List A → Type 0
Each P xs = AllByRecursion P xs

each-append : {A : Type 0} → (P : A → Type 0) (xs ys : List A) → Each P xs → Each P ys → Each P (xs ++ ys)
each-append P [] ys a b = b
each-append P (x ∷ xs) ys a b = (a.0, each-append P xs ys a.1 b)

each-mapped : {A B : Type 0} → (P : B → Type 0) (f : A → List B) (xs : List A) → ((x : A) → Each P (f x)) → Each P (flat_map f xs)
each-mapped P f [] each = tt
each-mapped P f (x ∷ xs) each = each-append P (f x) (flat_map f xs) (each x) (each-mapped P f xs each)

each-contained : {A : Type 0} → (P : A → Type 0) (xs : List A) (x : A) → Each P xs → Contains xs x → P x
each-contained P [] x all there = let low = there.1 in absurd (omega (arith, low))
each-contained P (y ∷ xs) x all (zero, low, is) = subst P is all.0
each-contained P (y ∷ xs) x all (suc k, low, is) = each-contained P xs x all.1 (k, omega (arith, low), is)

each-if : {A : Type 0} → (P : A → Type 0) (b : Bool) (xs ys : List A) → Each P xs → Each P ys → Each P (if b then xs else ys)
each-if P true xs ys x y = x
each-if P false xs ys x y = y

-- the burst with the identifier that is found, if one is
each-found : (P : List Event → Type 0) (test : ℕ → Bool) (burst : ℕ → List Event) → ((i : ℕ) → i < 16 → P (burst i)) → Each P (with_identifier (least_below identifiers test) burst)
each-found P test burst each = by (least_below identifiers test) refl
  where
    by : (o : Option ℕ) → least_below identifiers test ≡ o → Each P (with_identifier o burst)
    by None is = tt
    by (Some i) is = (each i (least-low identifiers test i is).0, tt)

-- ---- bursts ------------------------------------------------------------------------------------------

module _ (h : Header) (past : Trace) (p : ℕ) (o : Op) where
  abbrev Asks : List (List Event) → Type 0
  Asks bursts = Each (AsksBy p o) bursts

  reads-ask : (k : ArKind) (a : ℕ) (lock : Bool) → Asks (read_bursts h past p k a lock)
  reads-ask k a lock = each-found (AsksBy p o) (is_free h past p Read) (λ i. ar_of p i k a lock ∷ []) (λ i low. bare (and_from _ _ (lt-ltb i 16 low) refl))

  writes-ask : (k : AwKind) (a : ℕ) → is_write_barrier k ≡ false → (is_for_data k ≡ true → kind_written o ≡ Some k) → Asks (write_bursts h past p k a)
  writes-ask k a half own =
      each-if (AsksBy p o) (keeps_apart h past p k) (with_identifier (free_on h past p Write) (λ i. aw_of p i k a ∷ [])) []
      (each-found (AsksBy p o) (is_free h past p Write) (λ i. aw_of p i k a ∷ []) (λ i low. writes i a k refl half own)) tt

  drop-asks : (a : ℕ) → Asks (drop_bursts p a)
  drop-asks a = (bare refl, tt)

  back-asks : (a : ℕ) → Asks (write_bursts h past p write.WriteBack a)
  back-asks a = writes-ask write.WriteBack a refl (λ t. cc)

  room-asks : Asks (room_bursts h past p)
  room-asks =
      let idle : ℕ → Bool = λ a. not (has_outstanding_on h past p a) in
      each-if (AsksBy p o) (is_none (free_on h past p Write) || has_write h past p is_unique_write) [] (flat_map (victim_bursts h past p) (filter idle (held_lines h past p))) tt
      (each-mapped (AsksBy p o) (victim_bursts h past p) (filter idle (held_lines h past p))
      (λ a. each-if (AsksBy p o) (is_dirty (state_of h past p a)) (write_bursts h past p write.WriteBack a) (drop_bursts p a) (back-asks a) (drop-asks a)))

  misses-ask : (ways : ℕ) (k : ArKind) (a : ℕ) (lock : Bool) → Asks (bursts_of ways h past p (Misses k a lock))
  misses-ask ways k a lock = each-if (AsksBy p o) (has_room ways h past p) (read_bursts h past p k a lock) (room_bursts h past p) (reads-ask k a lock) room-asks

  barriers-ask : (bar : ℕ) → (bar ≡ 1) ⊎ (bar ≡ 3) → Asks (barrier_bursts h past p bar)
  unfolding aw_kind_of
  barriers-ask bar (inl is) = each-found (AsksBy p o) (λ i. is_free h past p Read i && is_free h past p Write i) (barrier_halves p bar)
      (λ i low. subst (λ b. AsksBy p o (barrier_halves p b i)) (sym is) (bare (and_from _ _ (lt-ltb i 16 low) refl)))
  barriers-ask bar (inr is) = each-found (AsksBy p o) (λ i. is_free h past p Read i && is_free h past p Write i) (barrier_halves p bar)
      (λ i low. subst (λ b. AsksBy p o (barrier_halves p b i)) (sym is) (bare (and_from _ _ (lt-ltb i 16 low) refl)))

  abbrev part : ℕ → ℕ → Event
  part i word = ar_of p i read.DvmMessage word false

  seconds-ask : (i word second : ℕ) → i < 16 → Asks (and_part h past p second (part i word ∷ []))
  seconds-ask i word second low = by (free_on h (part i word ∷ past) p Read) refl
    where
      by : (later : Option ℕ) → free_on h (part i word ∷ past) p Read ≡ later → Asks (map (λ es. (part i word ∷ []) ++ es) (with_identifier later (λ j. part j second ∷ [])))
      by None is = tt
      by (Some j) is = (bare (and_from _ _ (lt-ltb i 16 low) (and_from _ _ (lt-ltb j 16 (least-low identifiers (is_free h (part i word ∷ past) p Read) j is).0) refl)), tt)

  messages-ask : (word second : ℕ) → Asks (message_bursts h past p word second)
  messages-ask word second = by (free_on h past p Read) refl
    where
      by : (first : Option ℕ) → free_on h past p Read ≡ first → Asks (flat_map (and_part h past p second) (map (λ es. [] ++ es) (with_identifier first (λ i. part i word ∷ []))))
      by None is = tt
      by (Some i) is =
          each-append (AsksBy p o) (and_part h past p second (part i word ∷ [])) [] (seconds-ask i word second (least-low identifiers (is_free h past p Read) i is).0) tt

  module _ (ways : ℕ) where
    abbrev AsksFor : Request → Type 0
    AsksFor asked = Asks (bursts_of ways h past p asked)

    owns-asks : (miss hit : ArKind) (a : ℕ) (st : LineState) → AsksFor (owns miss hit a st)
    owns-asks miss hit a st = by (is_invalid st)
      where
        by : (b : Bool) → AsksFor (if b then Misses miss a false else Reads hit a false)
        by true = misses-ask ways miss a false
        by false = reads-ask hit a false

    gives-asks : (a : ℕ) (st : LineState) (next : Request) → AsksFor next → AsksFor (gives_up_first a st next)
    gives-asks a st next asks = by (is_invalid st) (is_dirty st)
      where
        by : (b d : Bool) → AsksFor (if b then next else if d then Writes write.WriteBack a else Drops a)
        by true d = asks
        by false true = back-asks a
        by false false = drop-asks a

    cleans-asks : (a : ℕ) (st : LineState) (next : Request) → AsksFor next → AsksFor (cleans_first a st next)
    cleans-asks a st next asks = by (is_dirty st)
      where
        by : (d : Bool) → AsksFor (if d then Writes write.WriteClean a else next)
        by true = writes-ask write.WriteClean a refl (λ t. cc)
        by false = asks

-- ---- operations --------------------------------------------------------------------------------------

module _ (ways : ℕ) (h : Header) (past : Trace) (p : ℕ) where
  -- the bursts by which a port may ask for what the operation needs
  each-asks : (o : Op) (st : LineState) → Each (AsksBy p o) (bursts_of ways h past p (request_of o st))
  each-asks (op.Ld a w) st = misses-ask h past p (op.Ld a w) ways read.ReadShared a false
  each-asks (op.Ldx a w) st = misses-ask h past p (op.Ldx a w) ways read.ReadShared a true
  each-asks (op.St a w word) st = owns-asks h past p (op.St a w word) ways read.ReadUnique read.CleanUnique a st
  each-asks (op.Stx a w word) st = reads-ask h past p (op.Stx a w word) read.CleanUnique a true
  each-asks (op.Fill a line) st = owns-asks h past p (op.Fill a line) ways read.MakeUnique read.MakeUnique a st
  each-asks (op.Pf a k) st = misses-ask h past p (op.Pf a k) ways k a false
  each-asks (op.Wb a) st = back-asks h past p (op.Wb a) a
  each-asks (op.Wc a) st = writes-ask h past p (op.Wc a) write.WriteClean a refl (λ t. cc)
  each-asks (op.Ev a) st = writes-ask h past p (op.Ev a) write.Evict a refl (λ t. cc)
  each-asks (op.We a) st = writes-ask h past p (op.We a) write.WriteEvict a refl (λ t. cc)
  each-asks (op.Ro a) st = gives-asks h past p (op.Ro a) ways a st (Reads read.ReadOnce a false) (reads-ask h past p (op.Ro a) read.ReadOnce a false)
  each-asks (op.Ci a) st = gives-asks h past p (op.Ci a) ways a st (Reads read.CleanInvalid a false) (reads-ask h past p (op.Ci a) read.CleanInvalid a false)
  each-asks (op.Mi a) st = gives-asks h past p (op.Mi a) ways a st (Reads read.MakeInvalid a false) (reads-ask h past p (op.Mi a) read.MakeInvalid a false)
  each-asks (op.Wu a strobe line) st =
      gives-asks h past p (op.Wu a strobe line) ways a st (Writes write.WriteUnique a) (writes-ask h past p (op.Wu a strobe line) write.WriteUnique a refl (λ t. refl))
  each-asks (op.Wlu a line) st = gives-asks h past p (op.Wlu a line) ways a st (Writes write.WriteLineUnique a) (writes-ask h past p (op.Wlu a line) write.WriteLineUnique a refl (λ t. refl))
  each-asks (op.Cs a) st = cleans-asks h past p (op.Cs a) ways a st (Reads read.CleanShared a false) (reads-ask h past p (op.Cs a) read.CleanShared a false)
  each-asks (op.Rn a) st = reads-ask h past p (op.Rn a) read.ReadNoSnoop a false
  each-asks (op.Wn a strobe line) st = writes-ask h past p (op.Wn a strobe line) write.WriteNoSnoop a refl (λ t. refl)
  each-asks op.Mb st = barriers-ask h past p op.Mb 1 (inl refl)
  each-asks op.Sb st = barriers-ask h past p op.Sb 3 (inr refl)
  each-asks (op.Dvm word) st = reads-ask h past p (op.Dvm word) read.DvmMessage word false
  each-asks (op.Sync word) st = reads-ask h past p (op.Sync word) read.DvmMessage word false
  each-asks (op.Dvm2 word second) st = messages-ask h past p (op.Dvm2 word second) word second

  pub asks-by : (o : Op) (st : LineState) (burst : List Event) → Contains (bursts_of ways h past p (request_of o st)) burst → AsksBy p o burst
  asks-by o st burst there = each-contained (AsksBy p o) (bursts_of ways h past p (request_of o st)) burst (each-asks o st) there
