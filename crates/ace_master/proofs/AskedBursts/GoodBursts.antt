-- Each burst by which a port may ask for what fits breaks no rule, where it has issued as many halves of barriers on the one channel as on the other.
use Rattle.std.proofs.Common.{◌≡◌, ℕ, Bool, true, false, not, ◌&&◌, ◌||◌, nat_lt, if◌then◌else◌, List, [], ◌∷◌, ◌++◌, length, map, filter, Option, Some, None, is_none, refl, ap, ◌∙◌, inl, inr}
use Rattle.std.specs.List.{flat_map, list_all}
use Rattle.std.proofs.lemmas.Bool.{and_parts, and_from, not-true}
use Rattle.ace_codes.specs.Places.{is_barrier}
use Rattle.ace_codes.specs.declared.kind.ArKind.{ArKind}
use Rattle.ace_codes.specs.declared.kind.ArKind.TheVariants as read
use Rattle.ace_codes.specs.declared.kind.AwKind.{AwKind}
use Rattle.ace_codes.specs.declared.kind.AwKind.TheVariants as write
use Rattle.ace_codes.specs.declared.state.LineState.{LineState}
use Rattle.ace_codes.specs.declared.state.LineState.TheVariants.{I, UC, UD, SC, SD}
use Rattle.ace_event.specs.declared.event.Channel.TheVariants.{Read, Write}
use Rattle.ace_event.specs.declared.event.Event.{Event}
use Rattle.ace_event.specs.declared.header.Header.{Header}
use Rattle.ace_tables.specs.SilentTransitions.{is_silent_move}
use Rattle.ace_tables.specs.StartStates.{starts_write}
use Rattle.ace_tables.specs.States.{is_dirty, is_invalid}
use Rattle.ace_model.specs.Accepted.{IsAccepted}
use Rattle.ace_model.specs.AddressRules.{has_write, keeps_apart}
use Rattle.ace_model.specs.Barriers.{barriers}
use Rattle.ace_model.specs.Kinds.{is_unique_write}
use Rattle.ace_model.specs.Messages.{has_second}
use Rattle.ace_model.specs.States.{state_of}
use Rattle.ace_model.specs.Trace.{Trace}
use Rattle.ace_model.specs.Transactions.{has_outstanding_on}
use Rattle.ace_runs.specs.HeldLines.{held_lines}
use Rattle.ace_runs.specs.Requests.{Request, Reads, Misses, Writes, Drops, Barriers, Messages, and_part, barrier_bursts, barrier_halves, bursts_of, drop_bursts, free_on, has_room, identifiers, is_free, message_bursts, read_bursts, room_bursts, victim_bursts, with_identifier, write_bursts}
use Rattle.ace_runs.proofs.NeverStuck.Steps.Lists.{all-append, all-flat_mapped, all-if}
use Rattle.ace_runs.proofs.NeverStuck.Operations.Fits.Asking.{IsFit, held-write}
use Rattle.ace_runs.proofs.NeverStuck.Operations.Kept.AsksKept.{DropFits, ReadFits, WriteFits, drop-kept, read-kept, write-kept}
use Rattle.ace_runs.proofs.NeverStuck.Operations.Kept.BarriersKept.{HasNoHalf, read-half-kept, write-half-kept}
use Rattle.ace_runs.proofs.NeverStuck.Operations.Kept.BurstsKept.{is_good, with-good}
use Rattle.ace_runs.proofs.NeverStuck.Operations.Kept.MessagesKept.{MessageFits, first-part-kept, second-part-kept}
use Rattle.ace_runs.proofs.NeverStuck.Operations.Identifiers.{least-low}
use Rattle.ace_runs.proofs.NeverStuck.Operations.Lines.Classes.{held-line}
use Rattle.ace_runs.proofs.NeverStuck.Operations.Lines.HeldLines.{all-filtered, each-held, holds}
use Rattle.ace_master.specs.Issues.{ar_of, aw_of}

-- a line that is held is written back or given up
dirty-starts : (st : LineState) → is_dirty st ≡ true → starts_write write.WriteBack st ≡ true
dirty-starts UD d = refl
dirty-starts SD d = refl
dirty-starts st d = cc

clean-moves : (st : LineState) → is_dirty st ≡ false → is_invalid st ≡ false → is_silent_move st I ≡ true
clean-moves UC d v = refl
clean-moves SC d v = refl
clean-moves I d v = cc
clean-moves UD d v = cc
clean-moves SD d v = cc

module _ (h : Header) (past : Trace) (p : ℕ) (accepted : IsAccepted h past) (many : length (barriers past p Read) ≡ length (barriers past p Write)) (low : nat_lt p h.ports ≡ true) (no_half : HasNoHalf h past p) where
  abbrev AreGood : List (List Event) → Type 0
  AreGood bursts = list_all (is_good h past) bursts ≡ true

  reads-good : (k : ArKind) (a : ℕ) (lock : Bool) → ReadFits h past p k a lock → AreGood (read_bursts h past p k a lock)
  reads-good k a lock f =
      with-good identifiers (is_free h past p Read) (is_good h past) (λ i. ar_of p i k a lock ∷ [])
      (λ i free. and_from _ _ (and_from _ _ refl (and_from _ _ (read-kept h past p low k i a lock f free) refl)) refl)

  writes-good : (k : AwKind) (a : ℕ) → WriteFits h past p k a → AreGood (write_bursts h past p k a)
  writes-good k a f = by (keeps_apart h past p k) refl
    where
      by : (b : Bool) → keeps_apart h past p k ≡ b → AreGood (if b then with_identifier (free_on h past p Write) (λ i. aw_of p i k a ∷ []) else [])
      by false apart = refl
      by true apart =
          with-good identifiers (is_free h past p Write) (is_good h past) (λ i. aw_of p i k a ∷ [])
          (λ i free. and_from _ _ (and_from _ _ refl (and_from _ _ (write-kept h past p low k i a f apart free) refl)) refl)

  drop-good : (a : ℕ) → DropFits h past p a → AreGood (drop_bursts p a)
  drop-good a f = and_from _ _ (and_from _ _ (and_from _ _ refl (and_from _ _ (drop-kept h past p low a f) refl)) refl) refl

  abbrev is_victim : ℕ → Bool
  is_victim a = holds h past p a && not (has_outstanding_on h past p a)

  -- a line that the port holds, and that isn't busy, can be given up
  victim-good : (a : ℕ) → is_victim a ≡ true → AreGood (victim_bursts h past p a)
  victim-good a victim = by (is_dirty st) refl
    where
      st : LineState
      st = state_of h past p a

      both : (holds h past p a ≡ true) × (not (has_outstanding_on h past p a) ≡ true)
      both = and_parts (holds h past p a) (not (has_outstanding_on h past p a)) victim

      held : is_invalid st ≡ false
      held = not-true (is_invalid st) both.0

      quiet : has_outstanding_on h past p a ≡ false
      quiet = not-true (has_outstanding_on h past p a) both.1

      by : (dirty : Bool) → is_dirty st ≡ dirty → AreGood (if dirty then write_bursts h past p write.WriteBack a else drop_bursts p a)
      by true dirty = writes-good write.WriteBack a (held-write h past p a write.WriteBack (held-line h past p a accepted held) quiet refl refl (dirty-starts st dirty))
      by false clean =
          let of = held-line h past p a accepted held in
          drop-good a (record { quiet = quiet; ace = of.ace; aligned = of.aligned; moves = clean-moves st clean held })

  room-good : AreGood (room_bursts h past p)
  room-good =
      let idle : ℕ → Bool = λ a. not (has_outstanding_on h past p a) in
      all-if (is_good h past) (is_none (free_on h past p Write) || has_write h past p is_unique_write) [] (flat_map (victim_bursts h past p) (filter idle (held_lines h past p))) refl
      (all-flat_mapped is_victim (is_good h past) (victim_bursts h past p) (filter idle (held_lines h past p)) victim-good
      (all-filtered (holds h past p) idle is_victim (λ a keep held. and_from _ _ held keep) (held_lines h past p) (each-held h past p)))

  barriers-good : (bar : ℕ) → is_barrier bar ≡ true → AreGood (barrier_bursts h past p bar)
  barriers-good bar is =
      with-good identifiers (λ i. is_free h past p Read i && is_free h past p Write i) (is_good h past) (barrier_halves p bar)
      (λ i free. let both = and_parts (is_free h past p Read i) (is_free h past p Write i) free in
      and_from _ _ (and_from _ _ refl (and_from _ _ (read-half-kept h past p accepted many low no_half bar i is both.0) (and_from _ _ (write-half-kept h past p accepted many low no_half bar i is both.1) refl))) refl)

  abbrev part : ℕ → ℕ → Event
  part i word = ar_of p i read.DvmMessage word false

  message-good : (word : ℕ) → MessageFits h past p word → AreGood (read_bursts h past p read.DvmMessage word false)
  message-good word f =
      with-good identifiers (is_free h past p Read) (is_good h past) (λ i. part i word ∷ [])
      (λ i free. and_from _ _ (and_from _ _ refl (and_from _ _ (first-part-kept h past p i word f low free) refl)) refl)

  -- the second part after a first one
  second-good : (i word second : ℕ) → MessageFits h past p word → has_second word ≡ true → is_free h past p Read i ≡ true → AreGood (and_part h past p second (part i word ∷ []))
  second-good i word second f two free = by (free_on h (part i word ∷ past) p Read) refl
    where
      by : (o : Option ℕ) → free_on h (part i word ∷ past) p Read ≡ o → AreGood (map (λ later. (part i word ∷ []) ++ later) (with_identifier o (λ j. part j second ∷ [])))
      by None is = refl
      by (Some j) is =
          let other = (least-low identifiers (is_free h (part i word ∷ past) p Read) j is).1 in
          and_from _ _ (and_from _ _ (and_from _ _ refl (and_from _ _ (first-part-kept h past p i word f low free) (and_from _ _ (second-part-kept h past p i j word second f two low other) refl))) refl) refl

  messages-good : (word second : ℕ) → MessageFits h past p word → has_second word ≡ true → AreGood (message_bursts h past p word second)
  messages-good word second f two = by (free_on h past p Read) refl
    where
      by : (o : Option ℕ) → free_on h past p Read ≡ o → AreGood (flat_map (and_part h past p second) (map (λ later. [] ++ later) (with_identifier o (λ i. part i word ∷ []))))
      by None is = refl
      by (Some i) is =
          all-append (is_good h past) (and_part h past p second (part i word ∷ [])) [] (second-good i word second f two (least-low identifiers (is_free h past p Read) i is).1) refl

  pub all-good : (ways : ℕ) (asked : Request) → IsFit h past p asked → AreGood (bursts_of ways h past p asked)
  all-good ways (Reads k a lock) (inl f) = reads-good k a lock f
  all-good ways (Reads k a lock) (inr m) =
      let at : ArKind → Bool → Bool = λ k lock. list_all (is_good h past) (read_bursts h past p k a lock) in
      ap (λ k. at k lock) m.0 ∙ ap (at read.DvmMessage) m.1 ∙ message-good a m.2
  all-good ways (Misses k a lock) f = all-if (is_good h past) (has_room ways h past p) (read_bursts h past p k a lock) (room_bursts h past p) (reads-good k a lock f) room-good
  all-good ways (Writes k a) f = writes-good k a f
  all-good ways (Drops a) f = drop-good a f
  all-good ways (Barriers bar) is = barriers-good bar is
  all-good ways (Messages word second) m = messages-good word second m.0 m.1
