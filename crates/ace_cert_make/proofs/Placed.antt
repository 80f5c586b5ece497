-- The read that a beat places, by what is kept of its line.
use Rattle.std.proofs.Common.{◌≡◌, ◌<◌, ℕ, Bool, true, false, nat_eq, Some, None, option_map, refl, sym, ap, ◌∙◌, arith, inl, inr}
use Rattle.std.proofs.lemmas.Bool.{cases_Bool}
use Rattle.std.specs.BTreeMap.{BTreeMap, get}
use Rattle.std.specs.Ordering.{nat_cmp}
use Rattle.ace_model.specs.declared.transactions.Transaction.{Transaction}
use Rattle.ace_model.proofs.Terms.{Event, L, R, Read, Header, Trace, is_line_read_transaction, is_read, outstanding, transfers}
use Rattle.ace_model.specs.Lines.{is_known}
use Rattle.ace_model.proofs.Grants.Begins.{may_of}
use Rattle.ace_model.proofs.Lines.Known.{known-issued}
use Rattle.ace_model.proofs.ReadsFollow.Outstanding.{line_read-chan, line_read-on}
use Rattle.ace_model.proofs.Trace.Growth.{named-issued}
use Rattle.ace_model.proofs.Trace.Issued.{transaction_of-stands}
use Rattle.ace_portck.specs.Targets.{progress_of}
use Rattle.ace_cert_make.specs.declared.track.LineTrack.{LineTrack}
use Rattle.ace_cert_make.specs.Next.{IsNext}
use Rattle.ace_cert_make.specs.Places.{next_place, placed_by}
use Rattle.ace_cert_make.specs.Tracks.{IsEarly, LinesStand, place_kept, place_of_beat, track_of}

-- the place of a read of a known line
kept-place : (past : Trace) (lines : BTreeMap ℕ LineTrack) (l : ℕ) → LinesStand past lines → is_known past l ≡ true
    → place_kept (get nat_cmp lines l) ≡ next_place past l
kept-place past lines l stands known =
    let there : get nat_cmp lines l ≡ Some (track_of past l) = stands l ∙ rw known refl in
    rw there refl

module _ (h : Header) (past : Trace) (p i resp : ℕ) (last : Bool) (word : ℕ) (n : IsNext h past (R p i resp last word)) where
  -- the transaction of a beat is one of the first
  pub beat-early : IsEarly (option_map (progress_of h past) (outstanding h past p Read i))
  beat-early =
      let m = may_of h past p i resp last word n.accepted in
      let out = m.out in
      let before = (transaction_of-stands past p Read i m.one m.named).before in
      let few = n.few in
      let low : m.one.place < 1048576 = omega arith in
      rw out low

  pub beat-place : (lines : BTreeMap ℕ LineTrack) → LinesStand past lines
      → place_of_beat (option_map (progress_of h past) (outstanding h past p Read i)) lines ≡ placed_by past (R p i resp last word)
  beat-place lines stands =
      let m = may_of h past p i resp last word n.accepted in
      let out = m.out in
      let named = m.named in
      elim (cases_Bool (is_line_read_transaction m.one)) [
        | inr f ↦
            let unplaced : placed_by past (R p i resp last word) ≡ None = elim (cases_Bool (nat_eq (transfers past p i) 0)) [
              | inl t ↦ rw (t, named, f) refl
              | inr g ↦ rw g refl
            ] in
            ap (λ o. place_of_beat (option_map (progress_of h past) o) lines) out ∙ none m.one f ∙ sym unplaced
        | inl reads ↦
            let reading : is_read m.one.chan ≡ true = ap is_read (line_read-chan m.one reads) in
            let count : transfers past m.one.port m.one.id ≡ transfers past p i = ap (λ v. transfers past v m.one.id) m.port ∙ ap (transfers past p) m.id in
            let known = known-issued past m.one m.one.addr (named-issued past p Read i m.one m.named) (line_read-on m.one reads) in
            let place = kept-place past lines m.one.addr stands known in
            elim (cases_Bool (nat_eq (transfers past p i) 0)) [
              | inl t ↦ rw (out, named, reads, reading, count, t, place) refl
              | inr g ↦ rw (out, named, reads, reading, count, g) refl
            ]
      ]
    where
      none : (x : Transaction) → is_line_read_transaction x ≡ false → place_of_beat (Some (progress_of h past x)) lines ≡ None
      none x f =
          elim (cases_Bool (nat_eq (progress_of h past x).transfers 0)) [
            | inl t ↦ rw (t, f) refl
            | inr g ↦ rw g refl
          ]

-- another event places no read
pub not-placed : (past : Trace) (e : Event) → ((p addr w : ℕ) (x : Bool) (word : ℕ) → e ≡ L p addr w x word → ⊥)
    → ((p i resp : ℕ) (last : Bool) (word : ℕ) → e ≡ R p i resp last word → ⊥) → placed_by past e ≡ None
not-placed past (L p addr w x word) loads beats = absurd (loads p addr w x word refl)
not-placed past (R p i resp last word) loads beats = absurd (beats p i resp last word refl)
not-placed past e loads beats = refl
