-- Where the parts that were forwarded to a port are those that were for it at some point, its next part begins a message, and is no second part.
use Rattle.std.proofs.Common.{◌≡◌, ◌⊎◌, ℕ, zero, suc, ◌-◌, ◌<◌, true, false, not, ◌&&◌, ◌==◌, List, [], ◌∷◌, ◌++◌, length, take, Option, Some, None, is_some, slice_get, refl, sym, ap, subst, ◌∙◌, inl, inr, arith}
use Rattle.std.proofs.Math.Seq.{take-length}
use Rattle.std.proofs.lemmas.Bool.{and_parts, cases_Bool, cases_lt, not-true}
use Rattle.std.proofs.lemmas.Option.{slice_get_within}
use Rattle.ace_event.specs.declared.event.Event.{Event}
use Rattle.ace_model.specs.declared.transactions.Transaction.{Transaction}
use Rattle.ace_model.specs.Trace.{Trace, at_point, is_some_and}
use Rattle.ace_model.specs.Transactions.{issued}
use Rattle.ace_model.specs.Messages.{first_waiting, forwarded, has_part, has_second, is_message_part, is_second_part, next_part, parts_among, parts_for, parts_in, parts_with}
use Rattle.ace_model.proofs.General.Lists.{IsStart, start-append, start-is, start-length, start-self, start-trans}
use Rattle.ace_model.proofs.General.Options.{Some-injective}
use Rattle.ace_model.proofs.Trace.Growth.{IsIssued, at_point-end, at_point-later, issued-new, issued-old}
use Rattle.ace_model.proofs.Trace.Issued.{issued-place}
use Rattle.ace_runs.specs.OrderSteps.{message_of}
use Rattle.ace_runs.proofs.NeverStuck.Forwarding.Waiting.{ends-once, issued-since, one-issued, waiting-is, with-cases}

-- ---- lists -------------------------------------------------------------------------------------------

get-left : {A : Type 0} → (xs ys : List A) (n : ℕ) → n < length xs → slice_get (xs ++ ys) n ≡ slice_get xs n
get-left [] ys n low = absurd (omega (arith, low))
get-left (x ∷ xs) ys zero low = refl
get-left (x ∷ xs) ys (suc n) low = get-left xs ys n (omega (arith, low))

pub get-right : {A : Type 0} → (xs ys : List A) → slice_get (xs ++ ys) (length xs) ≡ slice_get ys 0
get-right [] ys = refl
get-right (x ∷ xs) ys = get-right xs ys

-- a list that begins with one of its length is that one
start-same : {A : Type 0} → (xs ys : List A) → IsStart xs ys → length xs ≡ length ys → xs ≡ ys
start-same xs ys s same = sym (start-is xs ys s) ∙ ap (λ n. take n ys) same ∙ take-length ys

-- the parts for the port at an earlier point come first
pub parts-start : (later : List Event) (before : Trace) (q : ℕ) → IsStart (parts_for before q) (parts_for (later ++ before) q)
parts-start [] before q = start-self (parts_for before q)
parts-start (e ∷ later) before q =
    start-trans (parts_for before q) (parts_for (later ++ before) q) (parts_for (e ∷ later ++ before) q) (parts-start later before q)
    (start-append (parts_for (later ++ before) q) (parts_in (later ++ before) (issued (length (later ++ before)) e) q))

-- ---- the message that comes next ---------------------------------------------------------------------

-- The port's next part is the first of a message that this part ends; it is issued after the point.
pub record Begins (point : Trace) (q : ℕ) (z y : Transaction) : Type 0 where
  pub part : is_message_part z ≡ true
  pub other : (z.port == q) ≡ false
  pub first : (first_waiting point z.port ≡ Some y) ⊎ ((first_waiting point z.port ≡ None) × (z ≡ y) × (has_second z.addr ≡ false))

pub record NextMessage (past : Trace) (q : ℕ) (done : List Transaction) (y : Transaction) : Type 0 where
  pub later : List Event
  pub event : Event
  pub point : Trace
  pub is : later ++ event ∷ point ≡ past
  pub so_far : parts_for point q ≡ done
  pub last : Transaction
  pub issues : issued (length point) event ≡ Some last
  pub begins : Begins point q last y

with-first : (o : Option Transaction) (z y : Transaction) → slice_get (parts_with o z) 0 ≡ Some y → (o ≡ Some y) ⊎ ((o ≡ None) × (z ≡ y) × (has_second z.addr ≡ false))
with-first (Some g) z y e = inl e
with-first None z y e =
    elim (cases_Bool (has_second z.addr)) [
      | inl t ↦ let bad : None ≡ Some y = rw t at e in cc
      | inr f ↦ let here : Some z ≡ Some y = rw f at e in inr (refl, Some-injective z y here, f)
    ]

added-first : (point : Trace) (new : Option Transaction) (q : ℕ) (y : Transaction) → slice_get (parts_in point new q) 0 ≡ Some y → (z : Transaction) × (new ≡ Some z) × Begins point q z y
added-first point None q y e = cc
added-first point (Some z) q y e =
    elim (cases_Bool (is_message_part z && not (z.port == q))) [
      | inr f ↦ let bad : None ≡ Some y = rw f at e in cc
      | inl t ↦
          let parts = and_parts (is_message_part z) (not (z.port == q)) t in
          let here : slice_get (parts_with (first_waiting point z.port) z) 0 ≡ Some y = rw t at e in
          (z, refl, record { part = parts.0; other = not-true (z.port == q) parts.1; first = with-first (first_waiting point z.port) z y here })
    ]

pub next-message : (later : List Event) (before : Trace) (q : ℕ) (y : Transaction) → slice_get (parts_for (later ++ before) q) (length (parts_for before q)) ≡ Some y
    → NextMessage (later ++ before) q (parts_for before q) y
next-message [] before q y there =
    let within = slice_get_within (parts_for before q) (length (parts_for before q)) y there in absurd (omega (arith, within))
next-message (e ∷ later) before q y there =
    let past = later ++ before in
    let new = parts_in past (issued (length past) e) q in
    let start = parts-start later before q in
    let short = start-length (parts_for before q) (parts_for past q) start in
    elim (cases_lt (length (parts_for before q)) (length (parts_for past q))) [
      | inl low ↦
          let m = next-message later before q y (sym (get-left (parts_for past q) new (length (parts_for before q)) low) ∙ there) in
          record { later = e ∷ m.later; event = m.event; point = m.point; is = ap (λ l. e ∷ l) m.is; so_far = m.so_far; last = m.last; issues = m.issues; begins = m.begins }
      | inr high ↦
          let same = start-same (parts_for before q) (parts_for past q) start (omega (arith, short, high)) in
          let here : slice_get new 0 ≡ Some y = sym (get-right (parts_for past q) new) ∙ ap (λ l. slice_get (parts_for past q ++ new) (length l)) (sym same) ∙ there in
          let z = added-first past (issued (length past) e) q y here in
          record { later = []; event = e; point = past; is = refl; so_far = sym same; last = z.0; issues = z.1; begins = z.2 }
    ]

-- ---- its first part ----------------------------------------------------------------------------------

module _ (later : List Event) (e : Event) (point : Trace) (q : ℕ) (z y : Transaction) (issues : issued (length point) e ≡ Some z) (b : Begins point q z y) where
  pub last-issued : IsIssued (later ++ e ∷ point) z
  last-issued = grown later
    where
      grown : (more : List Event) → IsIssued (more ++ e ∷ point) z
      grown [] = issued-new e point z issues
      grown (f ∷ more) = issued-old f (more ++ e ∷ point) z (grown more)

  first-issued : IsIssued (later ++ e ∷ point) y
  first-issued = elim b.first [
    | inr one ↦ subst (IsIssued (later ++ e ∷ point)) one.1 last-issued
    | inl waits ↦ grown later (issued-old e point y (waiting-is point z.port y waits).issued)
  ]
    where
      grown : (more : List Event) → IsIssued (e ∷ point) y → IsIssued (more ++ e ∷ point) y
      grown [] i = i
      grown (f ∷ more) i = issued-old f (more ++ e ∷ point) y (grown more i)

  -- the last part stands where the message was ended
  pub point-of-last : at_point z.place (later ++ e ∷ point) ≡ point
  point-of-last =
      let at = issued-place (length point) e z issues in
      at_point-later later e point z.place (omega (arith, at)) ∙ at_point-end point z.place at

  -- the first part is no second one
  pub first-alone : first_waiting (at_point y.place (later ++ e ∷ point)) y.port ≡ None
  first-alone = elim b.first [
    | inr one ↦ subst (λ (v : Transaction). first_waiting (at_point v.place (later ++ e ∷ point)) v.port ≡ None) one.1 (ap (λ t. first_waiting t z.port) point-of-last ∙ one.0)
    | inl waits ↦
        let i = waiting-is point z.port y waits in
        let low = i.issued.before in
        ap (first_waiting (at_point y.place (later ++ e ∷ point))) i.port ∙ ap (λ t. first_waiting t z.port) (at_point-later later e point y.place (omega (arith, low))) ∙ i.alone
  ]

  -- a part whose message has the first part is the last one
  pub same-message : (x : Transaction) → IsIssued (later ++ e ∷ point) x → is_message_part x ≡ true → has_part (message_of (later ++ e ∷ point) x) y ≡ true → x ≡ z
  same-message x i m has = by (with-cases (first_waiting (at_point x.place past) x.port) x y has)
    where
      past : Trace
      past = later ++ e ∷ point

      by : ((first_waiting (at_point x.place past) x.port ≡ None) × (has_second x.addr ≡ false) × (x.place ≡ y.place))
          ⊎ ((g : Transaction) × (first_waiting (at_point x.place past) x.port ≡ Some g) × ((g.place ≡ y.place) ⊎ (x.place ≡ y.place))) → x ≡ z
      by (inl one) =
          let same = one-issued past x y i first-issued one.2 in
          elim b.first [
            | inr alone ↦ same ∙ sym alone.1
            | inl waits ↦
                let second = (waiting-is point z.port y waits).second in
                let lacks : has_second y.addr ≡ false = ap (λ (v : Transaction). has_second v.addr) (sym same) ∙ one.1 in cc
          ]
      by (inr two) =
          elim two.2 [
            | inr itself ↦
                let same = one-issued past x y i first-issued itself in
                let none : first_waiting (at_point x.place past) x.port ≡ None = ap (λ (v : Transaction). first_waiting (at_point v.place past) v.port) same ∙ first-alone in
                let some = two.1 in cc
            | inl first ↦
                let g = waiting-is (at_point x.place past) x.port two.0 two.1 in
                let same = one-issued past two.0 y (issued-since (length past - x.place) past two.0 g.issued) first-issued first in
                elim b.first [
                  | inr alone ↦
                      let second : has_second z.addr ≡ true = ap (λ (v : Transaction). has_second v.addr) alone.1 ∙ ap (λ (v : Transaction). has_second v.addr) (sym same) ∙ g.second in
                      let lacks = alone.2 in cc
                  | inl waits ↦
                      let port : x.port ≡ z.port = sym g.port ∙ ap (λ (v : Transaction). v.port) same ∙ (waiting-is point z.port y waits).port in
                      let for_x : first_waiting (at_point x.place past) x.port ≡ Some y = two.1 ∙ ap Some same in
                      let for_z : first_waiting (at_point z.place past) z.port ≡ Some y = ap (λ t. first_waiting t z.port) point-of-last ∙ waits in
                      one-issued past x z i last-issued (ends-once past y x z i last-issued m b.part for_x for_z port)
                ]
          ]

-- ---- between messages --------------------------------------------------------------------------------

-- what was forwarded to the port is all that was for it at some point
abbrev pub IsBetweenMessages : Trace → ℕ → Type 0
IsBetweenMessages past q = (later : List Event) × (before : Trace) × (later ++ before ≡ past) × (parts_among (forwarded past q) ≡ parts_for before q)

pub next-begins : (past : Trace) (q : ℕ) (y : Transaction) → IsBetweenMessages past q → next_part past q ≡ Some y → NextMessage past q (parts_among (forwarded past q)) y
next-begins past q y w next =
    let same = w.3 in
    let there : slice_get (parts_for (w.0 ++ w.1) q) (length (parts_for w.1 q)) ≡ Some y =
    ap (λ t. slice_get (parts_for t q) (length (parts_for w.1 q))) w.2 ∙ ap (λ (l : List Transaction). slice_get (parts_for past q) (length l)) (sym same) ∙ next in
    let m = next-message w.0 w.1 q y there in
    record { later = m.later; event = m.event; point = m.point; is = m.is ∙ w.2; so_far = m.so_far ∙ sym same; last = m.last; issues = m.issues; begins = m.begins }

-- the port's next part is no second one
pub no-second-next : (past : Trace) (q : ℕ) → IsBetweenMessages past q → is_some_and (next_part past q) (is_second_part past) ≡ false
no-second-next past q w = by (next_part past q) refl
  where
    by : (o : Option Transaction) → next_part past q ≡ o → is_some_and o (is_second_part past) ≡ false
    by None next = refl
    by (Some y) next =
        let m = next-begins past q y w next in
        subst (λ t. is_second_part t y ≡ false) m.is (ap is_some (first-alone m.later m.event m.point q m.last y m.issues m.begins))
