-- What step 14 gives: reads of the port, as its next operation asks, and OPs only after them.
use Rattle.std.proofs.Common.{◌≡◌, ℕ, Bool, true, false, not, ◌&&◌, ◌||◌, ◌==◌, if◌then◌else◌, List, [], ◌∷◌, ◌++◌, filter, Option, Some, None, is_none, refl, ap, ◌∙◌}
use Rattle.std.specs.List.{flat_map, list_all}
use Rattle.std.specs.Option.{option_to_list}
use Rattle.std.proofs.lemmas.Bool.{and_parts, and_from, eq-eqb, or_right}
use Rattle.ace_codes.specs.declared.kind.ArKind.{ArKind}
use Rattle.ace_codes.specs.declared.kind.ArKind.TheVariants as read
use Rattle.ace_codes.specs.declared.kind.AwKind.{AwKind}
use Rattle.ace_codes.specs.declared.kind.AwKind.TheVariants as write
use Rattle.ace_codes.specs.Places.{is_at}
use Rattle.ace_codes.specs.Reads.{ar_code, read_place}
use Rattle.ace_codes.specs.Writes.{aw_code}
use Rattle.ace_event.specs.declared.event.Channel.TheVariants.{Read, Write}
use Rattle.ace_event.specs.declared.event.Event.{Event}
use Rattle.ace_event.specs.declared.event.Event.TheVariants as event
use Rattle.ace_event.specs.declared.header.Header.{Header}
use Rattle.ace_tables.specs.EndStates.{is_fetch}
use Rattle.ace_tables.specs.States.{is_dirty}
use Rattle.ace_model.specs.declared.plans.Op.{Op}
use Rattle.ace_model.specs.declared.plans.Op.TheVariants.{Pf}
use Rattle.ace_model.specs.AddressRules.{has_write, keeps_apart}
use Rattle.ace_model.specs.Kinds.{is_no_snoop_read, is_no_snoop_write, is_unique_write}
use Rattle.ace_model.specs.Plans.{has_right_fields}
use Rattle.ace_model.specs.States.{state_of}
use Rattle.ace_model.specs.Trace.{Trace, is_none_or}
use Rattle.ace_model.specs.Transactions.{has_outstanding_on, is_ace}
use Rattle.ace_runs.specs.Bursts.{onto}
use Rattle.ace_runs.specs.Closing.{and_closing, closing_of, state_named}
use Rattle.ace_runs.specs.Counts.{is_retirement}
use Rattle.ace_runs.specs.Follows.{owes_completion}
use Rattle.ace_runs.specs.HeldLines.{held_lines}
use Rattle.ace_runs.specs.MasterSteps.{completion_bursts, moves}
use Rattle.ace_runs.specs.Requests.{Request, Reads, Misses, Writes, Drops, Barriers, Messages, and_part, barrier_halves, bursts_of, domain_for, drop_bursts, ends_or_asks, free_on, free_on_both, has_room, is_waiting, moves_of, read_bursts, request_of, room_bursts, victim_bursts, with_identifier, write_bursts}
use Rattle.ace_runs.proofs.NeverStuck.Steps.Lists.{all-append, all-flat_map, all-flat_mapped, all-if, all-map, all-mapped}
use Rattle.ace_runs.proofs.NeverStuck.Steps.SilentSteps.{closing-no-read, issues_no_read}

-- a read with these codes and this address is one that the operation asks for, if it is a read ahead
abbrev pub is_asked : Op → ℕ → ℕ → ℕ → ℕ → Bool
is_asked (Pf a k) addr code dom bar = is_at (read_place k) code dom bar && (addr == a)
is_asked _ addr code dom bar = true

-- the event is no OP, and if it issues a read, that is the port's, and a DVM Complete or one that the operation asks for
abbrev pub asks_for : ℕ → Option Op → Event → Bool
asks_for p next (event.Ar q i addr code dom bar lock) = (p == q) && (is_at (read_place read.DvmComplete) code dom bar || is_none_or next (λ op. is_asked op addr code dom bar))
asks_for p next (event.Op q k res) = false
asks_for p next _ = true

-- once an OP came no read is issued; those before are asked for
abbrev pub asks_first : ℕ → Option Op → List Event → Bool
asks_first p next [] = true
asks_first p next (e ∷ burst) = if asks_for p next e then asks_first p next burst else is_retirement e && list_all issues_no_read burst

-- ---- bursts ------------------------------------------------------------------------------------------

-- events that issue no read
none-first : (p : ℕ) (next : Option Op) (burst : List Event) → list_all issues_no_read burst ≡ true → asks_first p next burst ≡ true
none-first p next [] m = refl
none-first p next (event.Ar q i addr code dom bar lock ∷ burst) m = cc
none-first p next (event.Op q k res ∷ burst) m = m
none-first p next (e ∷ burst) m = none-first p next burst (and_parts (issues_no_read e) (list_all issues_no_read burst) m).1

-- what is asked for, and then no read
then-first : (p : ℕ) (next : Option Op) (xs ys : List Event) → list_all (asks_for p next) xs ≡ true → list_all issues_no_read ys ≡ true → asks_first p next (xs ++ ys) ≡ true
then-first p next [] ys m n = none-first p next ys n
then-first p next (e ∷ xs) ys m n =
    let parts = and_parts (asks_for p next e) (list_all (asks_for p next) xs) m in
    ap (λ b. if b then asks_first p next (xs ++ ys) else is_retirement e && list_all issues_no_read (xs ++ ys)) parts.0 ∙ then-first p next xs ys parts.1 n

-- ---- requests ----------------------------------------------------------------------------------------

own : (n : ℕ) → (n == n) ≡ true
own n = eq-eqb n n refl

-- an operation that isn't a read ahead
abbrev is_other : Op → Bool
is_other (Pf a k) = false
is_other _ = true

other-asked : (op : Op) (addr code dom bar : ℕ) → is_other op ≡ true → is_asked op addr code dom bar ≡ true
other-asked (Pf a k) addr code dom bar o = cc
other-asked op addr code dom bar o = refl

module _ (h : Header) (past : Trace) (p : ℕ) (op : Op) where
  abbrev good : Event → Bool
  good = asks_for p (Some op)

  abbrev all_good : List (List Event) → Bool
  all_good bursts = list_all (list_all good) bursts

  ar-good : (i addr code dom bar : ℕ) (lock : Bool) → is_asked op addr code dom bar ≡ true → good (event.Ar p i addr code dom bar lock) ≡ true
  ar-good i addr code dom bar lock asked = and_from _ _ (own p) (or_right (is_at (read_place read.DvmComplete) code dom bar) (is_asked op addr code dom bar) asked)

  write-good : (k : AwKind) (a : ℕ) → all_good (write_bursts h past p k a) ≡ true
  write-good k a =
      all-if (list_all good) (keeps_apart h past p k) _ []
      (all-map (list_all good) (λ i. event.Aw p i a (aw_code k) (domain_for (is_no_snoop_write k)) 0 ∷ []) (option_to_list (free_on h past p Write)) (λ i. refl)) refl

  victim-good : (a : ℕ) → all_good (victim_bursts h past p a) ≡ true
  victim-good a = all-if (list_all good) (is_dirty (state_of h past p a)) (write_bursts h past p write.WriteBack a) (drop_bursts p a) (write-good write.WriteBack a) refl

  room-good : all_good (room_bursts h past p) ≡ true
  room-good =
      all-if (list_all good) (is_none (free_on h past p Write) || has_write h past p is_unique_write) [] (flat_map (victim_bursts h past p) (filter (λ a. not (has_outstanding_on h past p a)) (held_lines h past p))) refl
      (all-flat_map (list_all good) (victim_bursts h past p) (filter (λ a. not (has_outstanding_on h past p a)) (held_lines h past p)) victim-good)

  read-good : (now : Trace) (k : ArKind) (a : ℕ) (lock : Bool) → ((code dom bar : ℕ) → is_at (read_place k) code dom bar ≡ true → is_asked op a code dom bar ≡ true)
      → is_at (read_place k) (ar_code k) (domain_for (is_no_snoop_read k)) 0 ≡ true → all_good (read_bursts h now p k a lock) ≡ true
  read-good now k a lock asked here =
      all-map (list_all good) (λ i. event.Ar p i a (ar_code k) (domain_for (is_no_snoop_read k)) 0 lock ∷ []) (option_to_list (free_on h now p Read))
      (λ i. and_from _ _ (ar-good i a (ar_code k) (domain_for (is_no_snoop_read k)) 0 lock (asked (ar_code k) (domain_for (is_no_snoop_read k)) 0 here)) refl)

  -- for an operation other than a read ahead
  module _ (other : is_other op ≡ true) where
    any-read-good : (now : Trace) (k : ArKind) (a : ℕ) (lock : Bool) → all_good (read_bursts h now p k a lock) ≡ true
    any-read-good now k a lock =
        all-map (list_all good) (λ i. event.Ar p i a (ar_code k) (domain_for (is_no_snoop_read k)) 0 lock ∷ []) (option_to_list (free_on h now p Read))
        (λ i. and_from _ _ (ar-good i a (ar_code k) (domain_for (is_no_snoop_read k)) 0 lock (other-asked op a (ar_code k) (domain_for (is_no_snoop_read k)) 0 other)) refl)

    parts-good : (word : ℕ) (burst : List Event) → list_all good burst ≡ true → all_good (and_part h past p word burst) ≡ true
    parts-good word burst m =
        all-mapped (list_all good) (list_all good) (λ part. burst ++ part) (read_bursts h (onto burst past) p read.DvmMessage word false) (λ part n. all-append good burst part m n)
        (any-read-good (onto burst past) read.DvmMessage word false)

    bursts-good : (ways : ℕ) (asked : Request) → all_good (bursts_of ways h past p asked) ≡ true
    bursts-good ways (Reads k a lock) = any-read-good past k a lock
    bursts-good ways (Misses k a lock) = all-if (list_all good) (has_room ways h past p) (read_bursts h past p k a lock) (room_bursts h past p) (any-read-good past k a lock) room-good
    bursts-good ways (Writes k a) = write-good k a
    bursts-good ways (Drops a) = refl
    bursts-good ways (Barriers bar) =
        all-map (list_all good) (barrier_halves p bar) (option_to_list (free_on_both h past p))
        (λ i. and_from _ _ (ar-good i 0 (ar_code read.Barrier) 1 bar false (other-asked op 0 (ar_code read.Barrier) 1 bar other)) refl)
    bursts-good ways (Messages word second) =
        all-flat_mapped (list_all good) (list_all good) (and_part h past p second) (and_part h past p word []) (parts-good second) (parts-good word [] refl)

fetch-here : (k : ArKind) → is_fetch k ≡ true → is_at (read_place k) (ar_code k) (domain_for (is_no_snoop_read k)) 0 ≡ true
fetch-here read.ReadShared f = refl
fetch-here read.ReadClean f = refl
fetch-here read.ReadNotSharedDirty f = refl
fetch-here read.ReadUnique f = refl
fetch-here k f = cc

-- what any operation asks for
asked-good : (ways : ℕ) (h : Header) (past : Trace) (p : ℕ) (op : Op) → has_right_fields op ≡ true
    → list_all (list_all (asks_for p (Some op))) (bursts_of ways h past p (request_of op (state_named h past p op))) ≡ true
asked-good ways h past p (Pf a k) right =
    all-if (list_all (asks_for p (Some (Pf a k)))) (has_room ways h past p) (read_bursts h past p k a false) (room_bursts h past p)
    (read-good h past p (Pf a k) past k a false (λ code dom bar at. and_from _ _ at (own a)) (fetch-here k right)) (room-good h past p (Pf a k))
asked-good ways h past p op right = bursts-good h past p op refl ways (request_of op (state_named h past p op))

-- ---- the moves of a port -----------------------------------------------------------------------------

ends-or-asks-first : (ways : ℕ) (h : Header) (past : Trace) (p : ℕ) (op : Op) → has_right_fields op ≡ true → (end : List Event) → list_all issues_no_read end ≡ true
    → list_all (asks_first p (Some op)) (ends_or_asks ways h past p op end) ≡ true
ends-or-asks-first ways h past p op right [] none =
    let asked = bursts_of ways h past p (request_of op (state_named h past p op)) in
    all-mapped (list_all (asks_for p (Some op))) (asks_first p (Some op)) (and_closing h past p op) asked
    (λ burst m. then-first p (Some op) burst (closing_of h (onto burst past) p op) m (closing-no-read h (onto burst past) p op)) (asked-good ways h past p op right)
ends-or-asks-first ways h past p op right (e ∷ end) none = and_from _ _ (none-first p (Some op) (e ∷ end) none) refl

moves-of-first : (ways : ℕ) (h : Header) (past : Trace) (p : ℕ) (op : Op) → has_right_fields op ≡ true → list_all (asks_first p (Some op)) (moves_of ways h past p op) ≡ true
moves-of-first ways h past p op right =
    all-if (asks_first p (Some op)) (is_waiting h past p op) [] (ends_or_asks ways h past p op (closing_of h past p op)) refl
    (ends-or-asks-first ways h past p op right (closing_of h past p op) (closing-no-read h past p op))

completions-first : (h : Header) (past : Trace) (p : ℕ) (next : Option Op) → list_all (asks_first p next) (completion_bursts h past p) ≡ true
completions-first h past p next =
    all-if (asks_first p next) (is_ace h p && owes_completion past p) (with_identifier (free_on h past p Read) (λ i. event.Ar p i 0 (ar_code read.DvmComplete) 1 0 false ∷ [])) []
    (all-map (asks_first p next) (λ i. event.Ar p i 0 (ar_code read.DvmComplete) 1 0 false ∷ []) (option_to_list (free_on h past p Read))
    (λ i. then-first p next (event.Ar p i 0 (ar_code read.DvmComplete) 1 0 false ∷ []) [] (and_from _ _ (and_from _ _ (own p) refl) refl) refl)) refl

next-first : (ways : ℕ) (h : Header) (past : Trace) (p : ℕ) (next : Option Op) → is_none_or next has_right_fields ≡ true
    → list_all (asks_first p next) (flat_map (moves_of ways h past p) (option_to_list next)) ≡ true
next-first ways h past p None right = refl
next-first ways h past p (Some op) right =
    all-append (asks_first p (Some op)) (moves_of ways h past p op) [] (moves-of-first ways h past p op right) refl

pub moves-first : (ways : ℕ) (h : Header) (past : Trace) (p : ℕ) (next : Option Op) → is_none_or next has_right_fields ≡ true → list_all (asks_first p next) (moves ways next h past p) ≡ true
moves-first ways h past p next right =
    all-append (asks_first p next) (completion_bursts h past p) (flat_map (moves_of ways h past p) (option_to_list next)) (completions-first h past p next) (next-first ways h past p next right)
