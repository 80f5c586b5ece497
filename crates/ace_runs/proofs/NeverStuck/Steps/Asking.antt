-- What an operation asks for by step 14: a test passes for all of it that passes for reads and writes of the port that are no barriers, for silent
-- transitions, and for the halves of a barrier where it asks for one; of reads, writes and halves it need pass only for those whose identifier is one
-- of the sixteen. So does one for all that step 14 gives that passes for what ends an operation too.
use Rattle.std.proofs.Common.{◌≡◌, ℕ, ◌<◌, Bool, true, false, not, ◌&&◌, ◌||◌, List, [], ◌∷◌, ◌++◌, map, filter, Option, Some, None, is_none, refl}
use Rattle.std.specs.List.{list_all, flat_map}
use Rattle.std.specs.Option.{option_to_list}
use Rattle.std.proofs.lemmas.Bool.{and_from}
use Rattle.ace_codes.specs.declared.kind.ArKind.{ArKind}
use Rattle.ace_codes.specs.declared.kind.ArKind.TheVariants as read
use Rattle.ace_codes.specs.declared.kind.AwKind.{AwKind}
use Rattle.ace_codes.specs.declared.kind.AwKind.TheVariants as write
use Rattle.ace_codes.specs.declared.state.LineState.{LineState}
use Rattle.ace_codes.specs.declared.state.LineState.TheVariants.{I}
use Rattle.ace_codes.specs.Reads.{ar_code}
use Rattle.ace_codes.specs.Writes.{aw_code}
use Rattle.ace_event.specs.declared.event.Channel.{Channel}
use Rattle.ace_event.specs.declared.event.Channel.TheVariants.{Read, Write}
use Rattle.ace_event.specs.declared.event.Event.{Event}
use Rattle.ace_event.specs.declared.event.Event.TheVariants.{Ar, Aw, S}
use Rattle.ace_event.specs.declared.header.Header.{Header}
use Rattle.ace_tables.specs.States.{is_dirty}
use Rattle.ace_model.specs.declared.plans.Op.{Op}
use Rattle.ace_model.specs.AddressRules.{has_write, keeps_apart}
use Rattle.ace_model.specs.Kinds.{is_no_snoop_read, is_no_snoop_write, is_unique_write}
use Rattle.ace_model.specs.States.{state_of}
use Rattle.ace_model.specs.Trace.{Trace}
use Rattle.ace_model.specs.Transactions.{has_outstanding_on, is_ace}
use Rattle.ace_runs.specs.Bursts.{onto}
use Rattle.ace_runs.specs.Closing.{and_closing, closing_of, state_named}
use Rattle.ace_runs.specs.Follows.{owes_completion}
use Rattle.ace_runs.specs.HeldLines.{held_lines}
use Rattle.ace_runs.specs.MasterSteps.{completion_bursts, goes_on, moves}
use Rattle.ace_runs.specs.Requests.{Request, Reads, Misses, Writes, Drops, Barriers, Messages, and_part, barrier_halves, bursts_of, domain_for, drop_bursts, ends_or_asks, free_on, free_on_both, has_room, is_free, is_waiting, moves_of, read_bursts, request_of, room_bursts, victim_bursts, write_bursts}
use Rattle.ace_runs.proofs.NeverStuck.Steps.SameBursts.{any-all}
use Rattle.ace_runs.proofs.NeverStuck.Steps.SameEvents.{TellsSame}
use Rattle.ace_runs.proofs.NeverStuck.Steps.Lists.{all-append, all-flat_map, all-flat_mapped, all-if, all-mapped}
use Rattle.ace_runs.proofs.NeverStuck.Operations.Identifiers.{least-low}
use Rattle.ace_runs.proofs.NeverStuck.Steps.Concluding.{Concludes, and-closing-all, closing-all}

-- A test that passes for reads and writes of the port that are no barriers and have an identifier, and for its silent transitions.
pub record NamedAsks (p : ℕ) (test : Event → Bool) : Type 0 where
  pub reads : (i a code dom : ℕ) (lock : Bool) → i < 16 → test (Ar p i a code dom 0 lock) ≡ true
  pub writes : (i a code dom : ℕ) → i < 16 → test (Aw p i a code dom 0) ≡ true
  pub drops : (a : ℕ) (st : LineState) → test (S p a st) ≡ true

-- it passes for the halves of the barrier with an identifier, if that is what is asked for
abbrev pub PassesNamedHalves : ℕ → (Event → Bool) → Request → Type 0
PassesNamedHalves p test r = (bar i : ℕ) → i < 16 → r ≡ Barriers bar → list_all test (barrier_halves p bar i) ≡ true

-- what passes for each identifier that is found passes for the one that is
all-found : {B : Type 0} → (test : B → Bool) (f : ℕ → B) (o : Option ℕ) → ((i : ℕ) → o ≡ Some i → test (f i) ≡ true) → list_all test (map f (option_to_list o)) ≡ true
all-found test f None each = refl
all-found test f (Some i) each = and_from _ _ (each i refl) refl

-- a free identifier is one of the sixteen
free-low : (h : Header) (past : Trace) (p : ℕ) (c : Channel) (i : ℕ) → free_on h past p c ≡ Some i → i < 16
free-low h past p c i is = (least-low 16 (is_free h past p c) i is).0

both-low : (h : Header) (past : Trace) (p : ℕ) (i : ℕ) → free_on_both h past p ≡ Some i → i < 16
both-low h past p i is = (least-low 16 (λ i. is_free h past p Read i && is_free h past p Write i) i is).0

module _ (p : ℕ) (test : Event → Bool) (asks : NamedAsks p test) where
  abbrev all_pass : List (List Event) → Bool
  all_pass bursts = list_all (list_all test) bursts

  reads-all : (h : Header) (past : Trace) (k : ArKind) (a : ℕ) (lock : Bool) → all_pass (read_bursts h past p k a lock) ≡ true
  reads-all h past k a lock =
      all-found (list_all test) _ (free_on h past p Read)
      (λ i is. and_from _ _ (asks.reads i a (ar_code k) (domain_for (is_no_snoop_read k)) lock (free-low h past p Read i is)) refl)

  writes-all : (h : Header) (past : Trace) (k : AwKind) (a : ℕ) → all_pass (write_bursts h past p k a) ≡ true
  writes-all h past k a =
      all-if (list_all test) (keeps_apart h past p k) _ []
      (all-found (list_all test) _ (free_on h past p Write)
      (λ i is. and_from _ _ (asks.writes i a (aw_code k) (domain_for (is_no_snoop_write k)) (free-low h past p Write i is)) refl)) refl

  drops-all : (a : ℕ) → all_pass (drop_bursts p a) ≡ true
  drops-all a = and_from _ _ (and_from _ _ (asks.drops a I) refl) refl

  pub named-requests-all : (h : Header) (past : Trace) (r : Request) (ways : ℕ) → PassesNamedHalves p test r → list_all (list_all test) (bursts_of ways h past p r) ≡ true
  named-requests-all h past (Reads k a lock) ways halves = reads-all h past k a lock
  named-requests-all h past (Misses k a lock) ways halves =
      all-if (list_all test) (has_room ways h past p) _ _ (reads-all h past k a lock) rooms
    where
      victim : (a : ℕ) → all_pass (victim_bursts h past p a) ≡ true
      victim a =
          all-if (list_all test) (is_dirty (state_of h past p a)) (write_bursts h past p write.WriteBack a) (drop_bursts p a) (writes-all h past write.WriteBack a) (drops-all a)

      rooms : all_pass (room_bursts h past p) ≡ true
      rooms =
          all-if (list_all test) (is_none (free_on h past p Write) || has_write h past p is_unique_write) [] (flat_map (victim_bursts h past p) (filter (λ a. not (has_outstanding_on h past p a)) (held_lines h past p))) refl
          (all-flat_map (list_all test) (victim_bursts h past p) (filter (λ a. not (has_outstanding_on h past p a)) (held_lines h past p)) victim)
  named-requests-all h past (Writes k a) ways halves = writes-all h past k a
  named-requests-all h past (Drops a) ways halves = drops-all a
  named-requests-all h past (Barriers bar) ways halves = all-found (list_all test) (barrier_halves p bar) (free_on_both h past p) (λ i is. halves bar i (both-low h past p i is) refl)
  named-requests-all h past (Messages word second) ways halves =
      all-flat_mapped (list_all test) (list_all test) (and_part h past p second) (and_part h past p word [])
      (λ burst m. part second burst m) (part word [] refl)
    where
      part : (word : ℕ) (burst : List Event) → list_all test burst ≡ true → all_pass (and_part h past p word burst) ≡ true
      part word burst m =
          all-mapped (list_all test) (list_all test) (λ later. burst ++ later) (read_bursts h (onto burst past) p read.DvmMessage word false)
          (λ later l. all-append test burst later m l) (reads-all h (onto burst past) read.DvmMessage word false)

  -- a DVM Complete, which is a read of the port too
  pub named-completions-all : (h : Header) (past : Trace) → list_all (list_all test) (completion_bursts h past p) ≡ true
  named-completions-all h past =
      all-if (list_all test) (is_ace h p && owes_completion past p) _ []
      (all-found (list_all test) (λ i. Ar p i 0 (ar_code read.DvmComplete) 1 0 false ∷ []) (free_on h past p Read)
      (λ i is. and_from _ _ (asks.reads i 0 (ar_code read.DvmComplete) 1 false (free-low h past p Read i is)) refl)) refl

  module _ (c : Concludes p test) where
    named-ends-or-asks-all : (ways : ℕ) (h : Header) (past : Trace) (o : Op) (end : List Event) → PassesNamedHalves p test (request_of o (state_named h past p o)) → list_all test end ≡ true
        → all_pass (ends_or_asks ways h past p o end) ≡ true
    named-ends-or-asks-all ways h past o [] halves m =
        all-mapped (list_all test) (list_all test) (and_closing h past p o) (bursts_of ways h past p (request_of o (state_named h past p o)))
        (λ burst b. and-closing-all p test c h past o burst b) (named-requests-all h past (request_of o (state_named h past p o)) ways halves)
    named-ends-or-asks-all ways h past o (e ∷ end) halves m = and_from _ _ m refl

    pub named-moves-all : (ways : ℕ) (h : Header) (past : Trace) (o : Op) → PassesNamedHalves p test (request_of o (state_named h past p o)) → list_all (list_all test) (moves_of ways h past p o) ≡ true
    named-moves-all ways h past o halves =
        all-if (list_all test) (is_waiting h past p o) [] _ refl (named-ends-or-asks-all ways h past o (closing_of h past p o) halves (closing-all p test c h past o))

    pub named-goes-on-all : TellsSame test → ((r : Request) → PassesNamedHalves p test r) → (ways : ℕ) (next : Option Op) (h : Header) (past : Trace) (burst : List Event)
        → goes_on ways next h past p burst ≡ true → list_all test burst ≡ true
    named-goes-on-all same halves ways next h past burst s =
        any-all test same burst (moves ways next h past p) s
        (all-append (list_all test) (completion_bursts h past p) (flat_map (moves_of ways h past p) (option_to_list next)) (named-completions-all h past)
        (all-flat_map (list_all test) (moves_of ways h past p) (option_to_list next) (λ o. named-moves-all ways h past o (halves (request_of o (state_named h past p o))))))

-- ---- the same, whatever the identifier ---------------------------------------------------------------

-- A test that passes for reads and writes of the port that are no barriers, and for its silent transitions.
pub record Asks (p : ℕ) (test : Event → Bool) : Type 0 where
  pub reads : (i a code dom : ℕ) (lock : Bool) → test (Ar p i a code dom 0 lock) ≡ true
  pub writes : (i a code dom : ℕ) → test (Aw p i a code dom 0) ≡ true
  pub drops : (a : ℕ) (st : LineState) → test (S p a st) ≡ true

-- it passes for the halves of the barrier, if that is what is asked for
abbrev pub PassesHalves : ℕ → (Event → Bool) → Request → Type 0
PassesHalves p test r = (bar i : ℕ) → r ≡ Barriers bar → list_all test (barrier_halves p bar i) ≡ true

named-asks : (p : ℕ) (test : Event → Bool) → Asks p test → NamedAsks p test
named-asks p test asks =
    record { reads = λ i a code dom lock low. asks.reads i a code dom lock; writes = λ i a code dom low. asks.writes i a code dom; drops = asks.drops }

named-halves : (p : ℕ) (test : Event → Bool) (r : Request) → PassesHalves p test r → PassesNamedHalves p test r
named-halves p test r halves bar i low is = halves bar i is

module _ (p : ℕ) (test : Event → Bool) (asks : Asks p test) where
  pub requests-all : (h : Header) (past : Trace) (r : Request) (ways : ℕ) → PassesHalves p test r → list_all (list_all test) (bursts_of ways h past p r) ≡ true
  requests-all h past r ways halves = named-requests-all p test (named-asks p test asks) h past r ways (named-halves p test r halves)

  pub completions-all : (h : Header) (past : Trace) → list_all (list_all test) (completion_bursts h past p) ≡ true
  completions-all h past = named-completions-all p test (named-asks p test asks) h past

  module _ (c : Concludes p test) where
    pub moves-all : (ways : ℕ) (h : Header) (past : Trace) (o : Op) → PassesHalves p test (request_of o (state_named h past p o)) → list_all (list_all test) (moves_of ways h past p o) ≡ true
    moves-all ways h past o halves =
        named-moves-all p test (named-asks p test asks) c ways h past o (named-halves p test (request_of o (state_named h past p o)) halves)

    pub goes-on-all : TellsSame test → ((r : Request) → PassesHalves p test r) → (ways : ℕ) (next : Option Op) (h : Header) (past : Trace) (burst : List Event)
        → goes_on ways next h past p burst ≡ true → list_all test burst ≡ true
    goes-on-all same halves = named-goes-on-all p test (named-asks p test asks) c same (λ r. named-halves p test r (halves r))
