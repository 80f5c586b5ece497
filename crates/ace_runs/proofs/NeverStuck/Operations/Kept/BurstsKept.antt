-- The bursts of a request that fits are short, break no rule, and leave the state of each line of the port or make it I.
use Rattle.std.proofs.Common.{◌≡◌, ℕ, Bool, true, false, not, ◌&&◌, ◌||◌, nat_le, nat_lt, if◌then◌else◌, List, [], ◌∷◌, ◌++◌, length, map, filter, Option, Some, None, is_none, refl, ap, ◌∙◌, inl, inr}
use Rattle.std.specs.List.{flat_map, list_all}
use Rattle.std.proofs.lemmas.Bool.{and_parts, and_from, cases_Bool}
use Rattle.ace_codes.specs.declared.kind.ArKind.{ArKind}
use Rattle.ace_codes.specs.declared.kind.ArKind.TheVariants as read
use Rattle.ace_codes.specs.declared.kind.AwKind.{AwKind}
use Rattle.ace_codes.specs.declared.kind.AwKind.TheVariants as write
use Rattle.ace_codes.specs.declared.state.LineState.{LineState}
use Rattle.ace_codes.specs.declared.state.LineState.TheVariants.{I, UC, UD, SC, SD}
use Rattle.ace_codes.specs.Places.{is_barrier}
use Rattle.ace_codes.specs.Reads.{ar_code}
use Rattle.ace_codes.specs.Writes.{aw_code}
use Rattle.ace_event.specs.declared.event.Channel.TheVariants.{Read, Write}
use Rattle.ace_event.specs.declared.event.Event.{Event}
use Rattle.ace_event.specs.declared.event.Event.TheVariants.{Ar, Aw, S}
use Rattle.ace_event.specs.declared.header.Header.{Header}
use Rattle.ace_tables.specs.SilentTransitions.{is_silent_move}
use Rattle.ace_tables.specs.StartStates.{starts_write}
use Rattle.ace_tables.specs.States.{is_dirty, is_invalid}
use Rattle.ace_model.specs.Accepted.{IsAccepted}
use Rattle.ace_model.specs.AddressRules.{has_write, keeps_apart}
use Rattle.ace_model.specs.Kinds.{is_no_snoop_read, is_no_snoop_write, is_unique_write}
use Rattle.ace_model.specs.Messages.{has_second}
use Rattle.ace_model.specs.States.{state_of}
use Rattle.ace_model.specs.Trace.{Trace}
use Rattle.ace_model.specs.Transactions.{has_outstanding_on}
use Rattle.ace_runs.specs.Bursts.{are_kept}
use Rattle.ace_runs.specs.HeldLines.{held_lines}
use Rattle.ace_runs.specs.Requests.{Request, Reads, Misses, Writes, Drops, Barriers, Messages, and_part, barrier_bursts, barrier_halves, bursts_of, domain_for, drop_bursts, free_on, has_room, identifiers, is_free, least_below, message_bursts, read_bursts, room_bursts, victim_bursts, with_identifier, write_bursts}
use Rattle.ace_runs.proofs.NeverStuck.Steps.Lists.{all-append, all-flat_mapped, all-if}
use Rattle.ace_runs.proofs.NeverStuck.Barriers.Together.{AreTogether}
use Rattle.ace_runs.proofs.NeverStuck.Operations.Fits.Asking.{IsFit, held-write}
use Rattle.ace_runs.proofs.NeverStuck.Operations.Kept.AsksKept.{DropFits, ReadFits, WriteFits, drop-kept, read-kept, write-kept}
use Rattle.ace_runs.proofs.NeverStuck.Operations.Kept.BarriersKept.{HasNoHalf, read-half-kept, write-half-kept}
use Rattle.ace_runs.proofs.NeverStuck.Operations.Lines.Classes.{held-line}
use Rattle.ace_runs.proofs.NeverStuck.Operations.Lines.HeldLines.{all-filtered, each-held, holds}
use Rattle.ace_runs.proofs.NeverStuck.Operations.Identifiers.{least-low}
use Rattle.ace_runs.proofs.NeverStuck.Operations.Kept.MessagesKept.{MessageFits, first-part-kept, second-part-kept}

-- the event leaves the states of lines, or gives a line up
abbrev pub is_calm : Event → Bool
is_calm (Ar p i addr snoop dom bar lock) = true
is_calm (Aw p i addr snoop dom bar) = true
is_calm (S p addr st) = is_invalid st
is_calm _ = false

-- one event or two, none of which breaks a rule
abbrev pub is_good : Header → Trace → List Event → Bool
is_good h past burst = (nat_le 1 (length burst) && nat_le (length burst) 2) && are_kept h past burst && list_all is_calm burst

one-good : (h : Header) (past : Trace) (e : Event) → is_calm e ≡ true → are_kept h past (e ∷ []) ≡ true → is_good h past (e ∷ []) ≡ true
one-good h past e calm kept = and_from _ _ (and_from _ _ refl kept) (and_from _ _ calm refl)

-- the burst with the identifier that is found, if one is
pub with-good : (n : ℕ) (test : ℕ → Bool) (good : List Event → Bool) (burst : ℕ → List Event) → ((i : ℕ) → test i ≡ true → good (burst i) ≡ true)
    → list_all good (with_identifier (least_below n test) burst) ≡ true
with-good n test good burst each = by (least_below n test) refl
  where
    by : (o : Option ℕ) → least_below n test ≡ o → list_all good (with_identifier o burst) ≡ true
    by None is = refl
    by (Some i) is = and_from _ _ (each i (least-low n test i is).1) refl

-- a line that is held is written back or given up
dirty-starts : (st : LineState) → is_dirty st ≡ true → starts_write write.WriteBack st ≡ true
dirty-starts UD d = refl
dirty-starts SD d = refl
dirty-starts st d = cc

clean-moves : (st : LineState) → is_dirty st ≡ false → is_invalid st ≡ false → is_silent_move st I ≡ true
clean-moves UC d v = refl
clean-moves SC d v = refl
clean-moves I d v = cc
clean-moves UD d v = cc
clean-moves SD d v = cc

not-held : (b : Bool) → not b ≡ true → b ≡ false
not-held true t = cc
not-held false t = refl

-- a line that the port holds, and on which none of its transactions is outstanding
abbrev is_victim : Header → Trace → ℕ → ℕ → Bool
is_victim h past p a = holds h past p a && not (has_outstanding_on h past p a)

module _ (h : Header) (past : Trace) (p : ℕ) (accepted : IsAccepted h past) (together : AreTogether past) (low : nat_lt p h.ports ≡ true) (no_half : HasNoHalf h past p) where
  read-good : (k : ArKind) (a : ℕ) (lock : Bool) → ReadFits h past p k a lock → list_all (is_good h past) (read_bursts h past p k a lock) ≡ true
  read-good k a lock f =
      with-good identifiers (is_free h past p Read) (is_good h past) (λ i. Ar p i a (ar_code k) (domain_for (is_no_snoop_read k)) 0 lock ∷ [])
      (λ i free. one-good h past (Ar p i a (ar_code k) (domain_for (is_no_snoop_read k)) 0 lock) refl (and_from _ _ (read-kept h past p low k i a lock f free) refl))

  write-good : (k : AwKind) (a : ℕ) → WriteFits h past p k a → list_all (is_good h past) (write_bursts h past p k a) ≡ true
  write-good k a f =
      let bursts = with_identifier (free_on h past p Write) (λ i. Aw p i a (aw_code k) (domain_for (is_no_snoop_write k)) 0 ∷ []) in
      elim (cases_Bool (keeps_apart h past p k)) [
        | inr not_now ↦ ap (λ b. list_all (is_good h past) (if b then bursts else [])) not_now
        | inl apart ↦
            ap (λ b. list_all (is_good h past) (if b then bursts else [])) apart
            ∙ with-good identifiers (is_free h past p Write) (is_good h past) (λ i. Aw p i a (aw_code k) (domain_for (is_no_snoop_write k)) 0 ∷ [])
            (λ i free. one-good h past (Aw p i a (aw_code k) (domain_for (is_no_snoop_write k)) 0) refl (and_from _ _ (write-kept h past p low k i a f apart free) refl))
      ]

  drop-good : (a : ℕ) → DropFits h past p a → list_all (is_good h past) (drop_bursts p a) ≡ true
  drop-good a f = and_from _ _ (one-good h past (S p a I) refl (and_from _ _ (drop-kept h past p low a f) refl)) refl

  -- each line that the port holds, and that isn't busy, can be given up
  victim-good : (a : ℕ) → is_victim h past p a ≡ true → list_all (is_good h past) (victim_bursts h past p a) ≡ true
  victim-good a victim =
      let st = state_of h past p a in
      let both = and_parts (holds h past p a) (not (has_outstanding_on h past p a)) victim in
      let valid = not-held (is_invalid st) both.0 in
      let quiet = not-held (has_outstanding_on h past p a) both.1 in
      let of = held-line h past p a accepted valid in
      elim (cases_Bool (is_dirty st)) [
        | inl dirty ↦
            ap (λ b. list_all (is_good h past) (if b then write_bursts h past p write.WriteBack a else drop_bursts p a)) dirty
            ∙ write-good write.WriteBack a (held-write h past p a write.WriteBack of quiet refl refl (dirty-starts st dirty))
        | inr clean ↦
            ap (λ b. list_all (is_good h past) (if b then write_bursts h past p write.WriteBack a else drop_bursts p a)) clean
            ∙ drop-good a (record { quiet = quiet; ace = of.ace; aligned = of.aligned; moves = clean-moves st clean valid })
      ]

  room-good : list_all (is_good h past) (room_bursts h past p) ≡ true
  room-good =
      all-if (is_good h past) (is_none (free_on h past p Write) || has_write h past p is_unique_write) [] (flat_map (victim_bursts h past p) (filter (λ a. not (has_outstanding_on h past p a)) (held_lines h past p))) refl
      (all-flat_mapped (is_victim h past p) (is_good h past) (victim_bursts h past p) (filter (λ a. not (has_outstanding_on h past p a)) (held_lines h past p)) victim-good
      (all-filtered (holds h past p) (λ a. not (has_outstanding_on h past p a)) (is_victim h past p) (λ a keep held. and_from _ _ held keep) (held_lines h past p) (each-held h past p)))

  miss-good : (ways : ℕ) (k : ArKind) (a : ℕ) (lock : Bool) → ReadFits h past p k a lock → list_all (is_good h past) (bursts_of ways h past p (Misses k a lock)) ≡ true
  miss-good ways k a lock f = all-if (is_good h past) (has_room ways h past p) (read_bursts h past p k a lock) (room_bursts h past p) (read-good k a lock f) room-good

  barriers-good : (bar : ℕ) → is_barrier bar ≡ true → list_all (is_good h past) (barrier_bursts h past p bar) ≡ true
  barriers-good bar is =
      with-good identifiers (λ i. is_free h past p Read i && is_free h past p Write i) (is_good h past) (barrier_halves p bar)
      (λ i free. let both = and_parts (is_free h past p Read i) (is_free h past p Write i) free in
      and_from _ _ (and_from _ _ refl (and_from _ _ (read-half-kept h past p accepted (together.as_many p) low no_half bar i is both.0) (and_from _ _ (write-half-kept h past p accepted (together.as_many p) low no_half bar i is both.1) refl))) refl)

  message-good : (word : ℕ) → MessageFits h past p word → list_all (is_good h past) (read_bursts h past p read.DvmMessage word false) ≡ true
  message-good word f =
      with-good identifiers (is_free h past p Read) (is_good h past) (λ i. Ar p i word (ar_code read.DvmMessage) 1 0 false ∷ [])
      (λ i free. one-good h past (Ar p i word (ar_code read.DvmMessage) 1 0 false) refl (and_from _ _ (first-part-kept h past p i word f low free) refl))

  abbrev part : ℕ → ℕ → Event
  part i word = Ar p i word (ar_code read.DvmMessage) 1 0 false

  -- the second part after a first one
  second-good : (i word second : ℕ) → MessageFits h past p word → has_second word ≡ true → is_free h past p Read i ≡ true
      → list_all (is_good h past) (and_part h past p second (part i word ∷ [])) ≡ true
  second-good i word second f two free = by (free_on h (part i word ∷ past) p Read) refl
    where
      by : (o : Option ℕ) → free_on h (part i word ∷ past) p Read ≡ o
          → list_all (is_good h past) (map (λ later. (part i word ∷ []) ++ later) (with_identifier o (λ j. part j second ∷ []))) ≡ true
      by None is = refl
      by (Some j) is =
          let free_j = (least-low identifiers (is_free h (part i word ∷ past) p Read) j is).1 in
          and_from _ _ (and_from _ _ (and_from _ _ refl (and_from _ _ (first-part-kept h past p i word f low free) (and_from _ _ (second-part-kept h past p i j word second f two low free_j) refl))) refl) refl

  messages-good : (word second : ℕ) → MessageFits h past p word → has_second word ≡ true → list_all (is_good h past) (message_bursts h past p word second) ≡ true
  messages-good word second f two = by (free_on h past p Read) refl
    where
      by : (o : Option ℕ) → free_on h past p Read ≡ o
          → list_all (is_good h past) (flat_map (and_part h past p second) (map (λ later. [] ++ later) (with_identifier o (λ i. part i word ∷ [])))) ≡ true
      by None is = refl
      by (Some i) is =
          all-append (is_good h past) (and_part h past p second (part i word ∷ [])) [] (second-good i word second f two (least-low identifiers (is_free h past p Read) i is).1) refl

  -- Each burst of a request that fits is good.
  pub bursts-good : (ways : ℕ) (asked : Request) → IsFit h past p asked → list_all (is_good h past) (bursts_of ways h past p asked) ≡ true
  bursts-good ways (Reads k a lock) (inl f) = read-good k a lock f
  bursts-good ways (Reads k a lock) (inr m) =
      let at : ArKind → Bool → Bool = λ k lock. list_all (is_good h past) (read_bursts h past p k a lock) in
      ap (λ k. at k lock) m.0 ∙ ap (at read.DvmMessage) m.1 ∙ message-good a m.2
  bursts-good ways (Misses k a lock) f = miss-good ways k a lock f
  bursts-good ways (Writes k a) f = write-good k a f
  bursts-good ways (Drops a) f = drop-good a f
  bursts-good ways (Barriers bar) is = barriers-good bar is
  bursts-good ways (Messages word second) m = messages-good word second m.0 m.1
