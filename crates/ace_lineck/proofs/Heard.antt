-- What an event leaves of all lines, where its line has a record, which it replaces by another.
use Rattle.std.proofs.Common.{◌≡◌, ◌<◌, ◌-◌, ◌^◌, ◌+◌, ◌%◌, ℕ, Bool, false, not, ◌&&◌, if◌then◌else◌, ◌∷◌, length, Option, Some, None, nat_eq, slice_get, refl, sym, subst, ◌∙◌}
use Rattle.ace_lineck.proofs.Terms.{OnTrue, IsUnique, least_broken, get, values, with_value_at, Event, Recording, after, line_in, target_of, LineCheck, LineRecord, IsRecordStep, LineStands, MayApply, Stands, HasRecord, begins_line, is_unknown, place_on}
use Rattle.ace_lineck.proofs.AllLines.{applied, line-step, placed}
use Rattle.ace_lineck.proofs.Places.{get-at, place-taken, written-here, written-there}
use Rattle.ace_lineck.proofs.KnownLines.{never}

-- an event that begins no line may be heard at the place of its line
pub may-hear : (s : LineCheck) (r : Recording) (e : Event) (place : Option ℕ) → begins_line e ≡ false → Stands s r → place ≡ place_on s (line_in r.header r.past e)
    → least_broken r.header r.past e ≡ None → length r.past < 2 ^ 64 - 1 → MayApply s r e (target_of r.header r.past e) place
may-hear s r e place still st at fine few = record {
  stands = st;
  target = refl;
  room = record { made = subst (λ b. OnTrue b (HasRecord s (line_in r.header r.past e))) (sym still) tt; at = at };
  kept = fine;
  few = few;
}

module _ (s : LineCheck) (r : Recording) (e : Event) (place : Option ℕ) (m : MayApply s r e (target_of r.header r.past e) place) (n : ℕ) (is : place ≡ Some n) where
  -- there is a record at the place
  pub taken : n < length s.lines.entries
  taken = let on = placed s r e (target_of r.header r.past e) place m n is in place-taken s (Some on.0) n on.2

  module _ (x y : LineRecord) (value : Some x ≡ slice_get (values s.lines) n) (unique : IsUnique nat_eq s.lines)
      (left : (l : ℕ) → IsRecordStep r.header r.past l e (target_of r.header r.past e) x → LineStands r.header (e ∷ r.past) l y)
      (room : length y.holders.items ≡ length x.holders.items) where
    -- it counts its line where that becomes known
    pub heard-counted : (b : Bool) → (is_unknown x.used && not (is_unknown y.used)) ≡ b
        → Stands (record s { lines = with_value_at s.lines n y; known = if b then (s.known + 1) % 18446744073709551616 else s.known }) (after r e)
    heard-counted b grows =
        let on = placed s r e (target_of r.header r.past e) place m n is in
        let here : get nat_eq s.lines on.0 ≡ Some x = get-at s on.0 n on.2 ∙ sym value in
        let step = line-step s r e (target_of r.header r.past e) place m on.0 on.1 x here in
        applied s _ r e (target_of r.header r.past e) place m on.0 on.1 x y step (left on.0 step) room b grows
        (record { header = refl; empty = refl; here = written-here s on.0 n on.2 unique x y (sym value); others = written-there s on.0 n on.2 unique x y (sym value) })
        refl m.stands.spare

    -- and none does where its use stays
    pub heard : y.used ≡ x.used → Stands (record s { lines = with_value_at s.lines n y }) (after r e)
    heard same = heard-counted false (rw same (never (is_unknown x.used)))
