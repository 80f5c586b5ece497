-- The beats of a write: each was there before the event, or is the event, which then keeps the rule on write data.
use Rattle.std.proofs.Common.{◌≡◌, ◌⊎◌, ℕ, true, ◌||◌, nat_eq, ◌∷◌, Some, slice_get, subst, inl, inr}
use Rattle.std.proofs.lemmas.Bool.{and_parts, eqb-true}
use Rattle.ace_model.proofs.Terms.{AwKind, Event, W, Write, Header, Transaction, Trace, implies, is_some_and, is_none_or, is_update, is_write_line_unique, has_write_data, write_kind, outstanding}
use Rattle.ace_model.proofs.Terms.{next_write, next_write_beat, word_of, copy_of, Beat, burst_of, is_next_beat, fits_write, full_beat, IsAccepted}
use Rattle.ace_model.proofs.Trace.Issued.{outstanding-named, outstanding-origin, transaction_of-stands}
use Rattle.ace_model.proofs.Trace.WriteBursts.{IsBeat, burst_grows, burst_new}
use Rattle.ace_model.proofs.Rules.Keeps.{accepted_keeps}
use Rattle.ace_model.proofs.General.Options.{is_some_and-at, is_none_or-at}
use Rattle.ace_model.proofs.General.Booleans.{implies-at}

module _ (h : Header) (past : Trace) (e : Event) (x : Transaction) (k : ℕ) (b : Beat) where
  -- A beat of a write that is outstanding after the event.
  pub record BeatOrigin (p i : ℕ) : Type 0 where
    pub was : outstanding h past p Write i ≡ Some x
    pub comes : (slice_get (burst_of past x) k ≡ Some b) ⊎ IsBeat past e x k b

  pub beat_origin : IsAccepted h (e ∷ past) → (p i : ℕ) → outstanding h (e ∷ past) p Write i ≡ Some x → is_some_and (write_kind x) has_write_data ≡ true
      → slice_get (burst_of (e ∷ past) x) k ≡ Some b → BeatOrigin p i
  beat_origin a p i o sends is =
      elim (outstanding-origin h past e p Write i x o) [
        | inl new ↦ absurd (burst_new past e x k b new.0 is)
        | inr old ↦
            let s = transaction_of-stands past p Write i x (outstanding-named h past p Write i x old.was) in
            record { was = old.was; comes = burst_grows past e x k b (record { there = s.there; before = s.before }) sends is }
      ]

  -- What the rule says of a new beat: all bytes of an update and of a WriteLineUnique, and of an update the copy.
  pub record FitsWrite (kind : AwKind) : Type 0 where
    pub full : (is_update kind || is_write_line_unique kind) ≡ true → b.strobe ≡ full_beat
    pub copied : is_update kind ≡ true → b.word ≡ word_of (copy_of past x.port x.addr) (next_write_beat past x.port)

  pub beat_fits : IsAccepted h (e ∷ past) → IsBeat past e x k b → (kind : AwKind) → write_kind x ≡ Some kind → FitsWrite kind
  beat_fits a beat kind is =
      let keeps = (accepted_keeps h past (W x.port b.strobe beat.last b.word) (subst (λ d. IsAccepted h (d ∷ past)) beat.is a)).rule_11 in
      let next = is_some_and-at (next_write past x.port) (is_next_beat past (next_write_beat past x.port) b.strobe beat.last b.word) x keeps beat.next in
      let fits = (and_parts _ (is_none_or (write_kind x) (fits_write past x (next_write_beat past x.port) b.strobe b.word)) next).1 in
      let both = and_parts (implies (is_update kind || is_write_line_unique kind) (nat_eq b.strobe full_beat)) _
      (is_none_or-at (write_kind x) (fits_write past x (next_write_beat past x.port) b.strobe b.word) kind fits is) in
      record {
        full = λ t. eqb-true b.strobe full_beat (implies-at (is_update kind || is_write_line_unique kind) _ both.0 t);
        copied = λ t. eqb-true b.word _ (implies-at (is_update kind) _ both.1 t);
      }
