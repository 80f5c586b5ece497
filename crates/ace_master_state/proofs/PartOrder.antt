-- The parts of messages for a port, in order: a part is a second one exactly where the part before it is a first one that a second follows.
use Rattle.std.proofs.Common.{◌≡◌, ℕ, zero, suc, ◌+◌, ◌-◌, ◌<◌, ◌≤◌, Bool, true, false, not, ◌&&◌, ◌==◌, List, [], ◌∷◌, ◌++◌, length, slice_get, Option, Some, None, is_some, inl, inr, refl, sym, ap, subst, ◌∙◌, arith}
use Rattle.std.specs.List.{All}
use Rattle.std.proofs.lemmas.Bool.{and_parts, cases_Bool, cases_lt}
use Rattle.std.proofs.lemmas.List.Elements.{All-append, All-cons, All-head, All-nil, All-tail}
use Rattle.ace_event.specs.declared.event.Event.{Event}
use Rattle.ace_model.specs.declared.transactions.Transaction.{Transaction}
use Rattle.ace_model.specs.Messages.{first_waiting, has_second, is_message_part, is_second_part, part_in, parts_for, parts_in, parts_with, waits_after}
use Rattle.ace_model.specs.Trace.{Trace, is_some_and}
use Rattle.ace_model.specs.Transactions.{issued}
use Rattle.ace_model.proofs.Dvm.Parts.{IsBelow, parts-placed}
use Rattle.ace_model.proofs.General.Options.{Some-injective, some_where-is}
use Rattle.ace_model.proofs.Trace.Growth.{at_point-before}
use Rattle.ace_model.proofs.Trace.Issued.{issued-place}
use Rattle.ace_model.proofs.Trace.Places.{at_point-last}
use Rattle.ace_sysck.proofs.PartLaws.{waits-is}

-- ---- places in joined lists --------------------------------------------------------------------------

pub get-left : {A : Type 0} → (xs ys : List A) (k : ℕ) → k < length xs → slice_get (xs ++ ys) k ≡ slice_get xs k
get-left [] ys k low = absurd (omega arith)
get-left (x ∷ xs) ys zero low = refl
get-left (x ∷ xs) ys (suc k) low = get-left xs ys k (omega arith)

pub get-right : {A : Type 0} → (xs ys : List A) (k n : ℕ) → k ≡ length xs + n → slice_get (xs ++ ys) k ≡ slice_get ys n
get-right [] ys k n at = ap (slice_get ys) (omega arith)
get-right (x ∷ xs) ys zero n at = absurd (omega arith)
get-right (x ∷ xs) ys (suc k) n at = get-right xs ys k n (omega arith)

pub get-past : {A : Type 0} → (xs : List A) (k : ℕ) → length xs ≤ k → slice_get xs k ≡ None
get-past [] k high = refl
get-past (x ∷ xs) zero high = absurd (omega arith)
get-past (x ∷ xs) (suc k) high = get-past xs k (omega arith)

pub at-all : {A : Type 0} → (P : A → Type 0) (xs : List A) (k : ℕ) (x : A) → All P xs → slice_get xs k ≡ Some x → P x
at-all P [] k x all is = cc
at-all P (y ∷ xs) zero x all is = subst P (Some-injective y x is) (All-head P y xs all)
at-all P (y ∷ xs) (suc k) x all is = at-all P xs k x (All-tail P y xs all) is

-- ---- one message -------------------------------------------------------------------------------------

-- a first part that waits says that a second follows
pub waits-second : (past : Trace) (p : ℕ) (f : Transaction) → first_waiting past p ≡ Some f → has_second f.addr ≡ true
waits-second [] p f w = cc
waits-second (e ∷ past) p f w = by (waits-second past p f) (first_waiting past p) refl (part_in (issued (length past) e) p) w
  where
    by : (first_waiting past p ≡ Some f → has_second f.addr ≡ true) → (o : Option Transaction) → first_waiting past p ≡ o → (n : Option Transaction) → waits_after o n ≡ Some f
        → has_second f.addr ≡ true
    by before o was None w = before (was ∙ w)
    by before (Some g) was (Some x) w = cc
    by before None was (Some x) w = (some_where-is (λ z. has_second z.addr) x f w).1

pub second-old : (e : Event) (past : Trace) (z : Transaction) → z.place < length past → is_second_part (e ∷ past) z ≡ is_second_part past z
second-old e past z low = ap (λ (t : Trace). is_some (first_waiting t z.port)) (at_point-before e past z.place (omega arith))

-- what a part says of the one after it
abbrev pub leads : Trace → Transaction → Bool
leads past y = not (is_second_part past y) && has_second y.addr

-- Each part of a list says of the next one whether that is a second one.
abbrev pub AreLed : Trace → List Transaction → Type 0
AreLed past xs = (k : ℕ) (y : Transaction) → slice_get xs k ≡ Some y → is_some_and (slice_get xs (k + 1)) (is_second_part past) ≡ leads past y

-- the parts that an event adds
record IsMessage (past : Trace) (new : List Transaction) : Type 0 where
  led : AreLed past new
  first : is_some_and (slice_get new 0) (is_second_part past) ≡ false

module _ (e : Event) (past : Trace) (x : Transaction) (new : issued (length past) e ≡ Some x) where
  second-new : is_second_part (e ∷ past) x ≡ is_some (first_waiting past x.port)
  second-new = ap (λ (t : Trace). is_some (first_waiting t x.port)) (at_point-last e past x.place (issued-place (length past) e x new))

  with-first : (o : Option Transaction) → first_waiting past x.port ≡ o → IsMessage (e ∷ past) (parts_with o x)
  with-first (Some f) was =
      let w = waits-is past x.port f was in
      let low = w.there.before in
      let plain : is_second_part (e ∷ past) f ≡ false = second-old e past f low ∙ w.first in
      let second : is_second_part (e ∷ past) x ≡ true = second-new ∙ ap is_some was in
      record { led = by plain second; first = plain }
    where
      by : is_second_part (e ∷ past) f ≡ false → is_second_part (e ∷ past) x ≡ true → (k : ℕ) (y : Transaction) → slice_get (f ∷ x ∷ []) k ≡ Some y
          → is_some_and (slice_get (f ∷ x ∷ []) (k + 1)) (is_second_part (e ∷ past)) ≡ leads (e ∷ past) y
      by plain second zero y is =
          let one = Some-injective f y is in
          second ∙ sym (ap (leads (e ∷ past)) (sym one) ∙ ap (λ b. not b && has_second f.addr) plain ∙ waits-second past x.port f was)
      by plain second (suc zero) y is =
          let one = Some-injective x y is in
          sym (ap (leads (e ∷ past)) (sym one) ∙ ap (λ b. not b && has_second x.addr) second)
      by plain second (suc (suc k)) y is = cc
  with-first None was =
      let plain : is_second_part (e ∷ past) x ≡ false = second-new ∙ ap is_some was in
      elim (cases_Bool (has_second x.addr)) [
        | inl t ↦ rw t (record { led = λ k y is. cc; first = refl })
        | inr f ↦ rw f (record { led = alone plain f; first = plain })
      ]
    where
      alone : is_second_part (e ∷ past) x ≡ false → has_second x.addr ≡ false → (k : ℕ) (y : Transaction) → slice_get (x ∷ []) k ≡ Some y
          → is_some_and (slice_get (x ∷ []) (k + 1)) (is_second_part (e ∷ past)) ≡ leads (e ∷ past) y
      alone plain f zero y is =
          let one = Some-injective x y is in
          sym (ap (leads (e ∷ past)) (sym one) ∙ ap (λ b. not b && has_second x.addr) plain ∙ f)
      alone plain f (suc k) y is = cc

message-in : (e : Event) (past : Trace) (q : ℕ) (o : Option Transaction) → issued (length past) e ≡ o → IsMessage (e ∷ past) (parts_in past o q)
message-in e past q None new = record { led = λ k y is. cc; first = refl }
message-in e past q (Some x) new =
    elim (cases_Bool (is_message_part x && not (x.port == q))) [
      | inl t ↦ rw t (with-first e past x new (first_waiting past x.port) refl)
      | inr f ↦ rw f (record { led = λ k y is. cc; first = refl })
    ]

-- ---- all parts ---------------------------------------------------------------------------------------

old-led : (e : Event) (past : Trace) (xs : List Transaction) → All (IsBelow (length past)) xs → AreLed past xs → AreLed (e ∷ past) xs
old-led e past xs below led k y is =
    let low = at-all (IsBelow (length past)) xs k y below is in
    next (slice_get xs (k + 1)) refl ∙ led k y is ∙ sym (ap (λ b. not b && has_second y.addr) (second-old e past y low))
  where
    next : (o : Option Transaction) → slice_get xs (k + 1) ≡ o → is_some_and o (is_second_part (e ∷ past)) ≡ is_some_and o (is_second_part past)
    next None at = refl
    next (Some z) at = second-old e past z (at-all (IsBelow (length past)) xs (k + 1) z below at)

join-led : (past : Trace) (xs ys : List Transaction) → AreLed past xs → IsMessage past ys → AreLed past (xs ++ ys)
join-led past xs ys led m k y is =
    elim (cases_lt (k + 1) (length xs)) [
      | inl low ↦ ap (λ o. is_some_and o (is_second_part past)) (get-left xs ys (k + 1) low) ∙ led k y (sym (get-left xs ys k (omega (arith, low))) ∙ is)
      | inr high ↦ elim (cases_lt k (length xs)) [
        | inl last ↦
            let mine : slice_get xs k ≡ Some y = sym (get-left xs ys k last) ∙ is in
            let none : leads past y ≡ false = sym (led k y mine) ∙ ap (λ o. is_some_and o (is_second_part past)) (get-past xs (k + 1) high) in
            ap (λ o. is_some_and o (is_second_part past)) (get-right xs ys (k + 1) 0 (omega (arith, high, last))) ∙ m.first ∙ sym none
        | inr later ↦
            let n = k - length xs in
            ap (λ o. is_some_and o (is_second_part past)) (get-right xs ys (k + 1) (n + 1) (omega (arith, later)))
            ∙ m.led n y (sym (get-right xs ys k n (omega (arith, later))) ∙ is)
      ]
    ]

pub parts-led : (past : Trace) (q : ℕ) → AreLed past (parts_for past q)
parts-led [] q = λ k y is. cc
parts-led (e ∷ past) q =
    join-led (e ∷ past) (parts_for past q) (parts_in past (issued (length past) e) q)
    (old-led e past (parts_for past q) (parts-placed past q) (parts-led past q)) (message-in e past q (issued (length past) e) refl)

-- the first part for a port is no second one
pub first-plain : (past : Trace) (q : ℕ) → is_some_and (slice_get (parts_for past q) 0) (is_second_part past) ≡ false
first-plain [] q = refl
first-plain (e ∷ past) q = by (parts_for past q) (parts-placed past q) (first-plain past q)
  where
    m : IsMessage (e ∷ past) (parts_in past (issued (length past) e) q)
    m = message-in e past q (issued (length past) e) refl

    by : (xs : List Transaction) → All (IsBelow (length past)) xs → is_some_and (slice_get xs 0) (is_second_part past) ≡ false
        → is_some_and (slice_get (xs ++ parts_in past (issued (length past) e) q) 0) (is_second_part (e ∷ past)) ≡ false
    by [] below none = m.first
    by (x ∷ xs) below none = second-old e past x (All-head (IsBelow (length past)) x xs below) ∙ none

-- the first part that an event adds is no second one
pub message-plain : (e : Event) (past : Trace) (q : ℕ) → is_some_and (slice_get (parts_in past (issued (length past) e) q) 0) (is_second_part (e ∷ past)) ≡ false
message-plain e past q = (message-in e past q (issued (length past) e) refl).first

pub below-at : (xs : List Transaction) (k : ℕ) (x : Transaction) {n : ℕ} → All (IsBelow n) xs → slice_get xs k ≡ Some x → x.place < n
below-at xs k x {n} all is = at-all (IsBelow n) xs k x all is

-- ---- each is a part of a message ---------------------------------------------------------------------

abbrev IsPart : Transaction → Type 0
IsPart x = is_message_part x ≡ true

parts-all : (past : Trace) (q : ℕ) → All IsPart (parts_for past q)
parts-all [] q = All-nil IsPart
parts-all (e ∷ past) q = All-append IsPart (parts_for past q) (parts_in past (issued (length past) e) q) (parts-all past q) (by (issued (length past) e))
  where
    made : (x : Transaction) → is_message_part x ≡ true → (o : Option Transaction) → first_waiting past x.port ≡ o → All IsPart (parts_with o x)
    made x t (Some f) was = All-cons IsPart f (x ∷ []) (waits-is past x.port f was).part (All-cons IsPart x [] t (All-nil IsPart))
    made x t None was = elim (cases_Bool (has_second x.addr)) [
      | inl s ↦ rw s (All-nil IsPart)
      | inr n ↦ rw n (All-cons IsPart x [] t (All-nil IsPart))
    ]

    by : (o : Option Transaction) → All IsPart (parts_in past o q)
    by None = All-nil IsPart
    by (Some x) = elim (cases_Bool (is_message_part x && not (x.port == q))) [
      | inl t ↦ rw t (made x (and_parts (is_message_part x) _ t).0 (first_waiting past x.port) refl)
      | inr f ↦ rw f (All-nil IsPart)
    ]

pub parts-messages : (past : Trace) (q k : ℕ) (x : Transaction) → slice_get (parts_for past q) k ≡ Some x → is_message_part x ≡ true
parts-messages past q k x is = at-all IsPart (parts_for past q) k x (parts-all past q) is
