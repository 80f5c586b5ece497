-- A first part that waits for its second: it is no second part, none of the parts for a port, and one part alone ends its wait.
use Rattle.std.proofs.Common.{◌≡◌, ◌⊎◌, ℕ, zero, suc, ◌-◌, true, false, not, ◌&&◌, ◌||◌, ◌==◌, [], ◌∷◌, length, drop, Option, Some, None, refl, sym, ap, ◌∙◌, inl, inr, arith}
use Rattle.std.proofs.lemmas.Bool.{and_parts, or_cases, cases_Bool, eqb-true, eq-eqb}
use Rattle.std.proofs.lemmas.List.Folds.{list_any-append}
use Rattle.ace_event.specs.declared.event.Event.{Event}
use Rattle.ace_model.specs.declared.transactions.Transaction.{Transaction}
use Rattle.ace_model.specs.Trace.{Trace, at_point}
use Rattle.ace_model.specs.Transactions.{issued}
use Rattle.ace_model.specs.Messages.{first_waiting, has_part, has_second, is_message_part, part_in, parts_for, parts_in, parts_with, waits_after}
use Rattle.ace_model.proofs.Dvm.Parts.{part-placed, parts-placed}
use Rattle.ace_model.proofs.General.Options.{Some-injective, option_filter-is, some_where-is}
use Rattle.ace_model.proofs.Trace.Growth.{IsIssued, at_point-before, at_point-end, issued-cases, issued-new, issued-old}
use Rattle.ace_model.proofs.Trace.Issued.{issued-place, issued_at}

-- ---- transactions ------------------------------------------------------------------------------------

-- two transactions at one place are one
pub one-issued : (past : Trace) (x y : Transaction) → IsIssued past x → IsIssued past y → x.place ≡ y.place → x ≡ y
one-issued past x y i j e = Some-injective x y (sym i.there ∙ ap (issued_at past) e ∙ j.there)

-- one of an earlier point is one of the trace
pub issued-since : (k : ℕ) (past : Trace) (x : Transaction) → IsIssued (drop k past) x → IsIssued past x
issued-since zero past x i = i
issued-since (suc k) [] x i = i
issued-since (suc k) (e ∷ past) x i = issued-old e past x (issued-since k past x i)

-- ---- a part that waits -------------------------------------------------------------------------------

-- The first part of the port that waits for its second.
pub record IsFirst (past : Trace) (p : ℕ) (f : Transaction) : Type 0 where
  pub issued : IsIssued past f
  pub port : f.port ≡ p
  pub second : has_second f.addr ≡ true
  pub alone : first_waiting (at_point f.place past) p ≡ None

-- it waited before, or is new where none did
pub waiting-cases : (waiting new : Option Transaction) (f : Transaction) → waits_after waiting new ≡ Some f
    → (waiting ≡ Some f) ⊎ ((new ≡ Some f) × (waiting ≡ None) × (has_second f.addr ≡ true))
waiting-cases waiting None f e = inl e
waiting-cases (Some g) (Some x) f e = cc
waiting-cases None (Some x) f e = let s = some_where-is (λ z. has_second z.addr) x f e in inr (ap Some s.0, refl, s.1)

new-first : (e : Event) (past : Trace) (p : ℕ) (f : Transaction) → part_in (issued (length past) e) p ≡ Some f → first_waiting past p ≡ None → has_second f.addr ≡ true
    → IsFirst (e ∷ past) p f
new-first e past p f new none second =
    let is = option_filter-is (λ x. is_message_part x && (x.port == p)) (issued (length past) e) f new in
    let at = issued-place (length past) e f is.0 in
    record {
      issued = issued-new e past f is.0;
      port = eqb-true f.port p (and_parts (is_message_part f) (f.port == p) is.1).1;
      second = second;
      alone = ap (λ t. first_waiting t p) (at_point-before e past f.place (omega (arith, at)) ∙ at_point-end past f.place at) ∙ none;
    }

pub waiting-is : (past : Trace) (p : ℕ) (f : Transaction) → first_waiting past p ≡ Some f → IsFirst past p f
waiting-is [] p f w = cc
waiting-is (e ∷ past) p f w =
    elim (waiting-cases (first_waiting past p) (part_in (issued (length past) e) p) f w) [
      | inr new ↦ new-first e past p f new.0 new.1 new.2
      | inl old ↦
          let i = waiting-is past p f old in
          let low = i.issued.before in
          record {
            issued = issued-old e past f i.issued;
            port = i.port;
            second = i.second;
            alone = ap (λ t. first_waiting t p) (at_point-before e past f.place (omega (arith, low))) ∙ i.alone;
          }
    ]

-- ---- the part that ends its wait ---------------------------------------------------------------------

-- where the first part waits, no part was issued while it waited
pub waits-still : (past : Trace) (f x : Transaction) → IsIssued past x → is_message_part x ≡ true → first_waiting (at_point x.place past) x.port ≡ Some f
    → first_waiting past x.port ≡ Some f → ⊥
waits-still [] f x i m then now = cc
waits-still (e ∷ past) f x i m then now =
    let low = i.before in
    let before : first_waiting (at_point x.place past) x.port ≡ Some f = ap (λ t. first_waiting t x.port) (sym (at_point-before e past x.place (omega (arith, low)))) ∙ then in
    elim (issued-cases e past x i) [
      | inl new ↦
          let here = at_point-end past x.place (issued-place (length past) e x new) in
          let was : first_waiting past x.port ≡ Some f = ap (λ t. first_waiting t x.port) (sym here) ∙ before in
          let ended : first_waiting (e ∷ past) x.port ≡ None = rw (was, new, m, eq-eqb x.port x.port refl) refl in cc
      | inr old ↦ elim (waiting-cases (first_waiting past x.port) (part_in (issued (length past) e) x.port) f now) [
        | inl still ↦ waits-still past f x old m before still
        | inr new ↦
            let at = issued-place (length past) e f (option_filter-is (λ y. is_message_part y && (y.port == x.port)) (issued (length past) e) f new.0).0 in
            let was = (issued-since (length past - x.place) past f (waiting-is (at_point x.place past) x.port f before).issued).before in
            absurd (omega (arith, at, was))
      ]
    ]

-- so two parts that end the wait of one first part are one
pub ends-once : (past : Trace) (f x y : Transaction) → IsIssued past x → IsIssued past y → is_message_part x ≡ true → is_message_part y ≡ true
    → first_waiting (at_point x.place past) x.port ≡ Some f → first_waiting (at_point y.place past) y.port ≡ Some f → x.port ≡ y.port → x.place ≡ y.place
ends-once [] f x y i j m n v w port = let low = i.before in absurd (omega (arith, low))
ends-once (e ∷ past) f x y i j m n v w port =
    let low_x = i.before in
    let low_y = j.before in
    let was_x : first_waiting (at_point x.place past) x.port ≡ Some f = ap (λ t. first_waiting t x.port) (sym (at_point-before e past x.place (omega (arith, low_x)))) ∙ v in
    let was_y : first_waiting (at_point y.place past) y.port ≡ Some f = ap (λ t. first_waiting t y.port) (sym (at_point-before e past y.place (omega (arith, low_y)))) ∙ w in
    elim (issued-cases e past x i) [
      | inl new ↦ elim (issued-cases e past y j) [
        | inl newer ↦ issued-place (length past) e x new ∙ sym (issued-place (length past) e y newer)
        | inr old ↦
            let here = at_point-end past x.place (issued-place (length past) e x new) in
            let now : first_waiting past y.port ≡ Some f = ap (first_waiting past) (sym port) ∙ ap (λ t. first_waiting t x.port) (sym here) ∙ was_x in
            absurd (waits-still past f y old n was_y now)
      ]
      | inr old ↦ elim (issued-cases e past y j) [
        | inl new ↦
            let here = at_point-end past y.place (issued-place (length past) e y new) in
            let now : first_waiting past x.port ≡ Some f = ap (first_waiting past) port ∙ ap (λ t. first_waiting t y.port) (sym here) ∙ was_y in
            absurd (waits-still past f x old m was_x now)
        | inr older ↦ ends-once past f x y old older m n was_x was_y port
      ]
    ]

-- ---- it is for no port yet ---------------------------------------------------------------------------

-- a part that is among those of a message: the message has it alone, or as the first or second of two
pub with-cases : (o : Option Transaction) (x y : Transaction) → has_part (parts_with o x) y ≡ true
    → ((o ≡ None) × (has_second x.addr ≡ false) × (x.place ≡ y.place)) ⊎ ((g : Transaction) × (o ≡ Some g) × ((g.place ≡ y.place) ⊎ (x.place ≡ y.place)))
with-cases (Some g) x y has =
    elim (or_cases (g.place == y.place) ((x.place == y.place) || false) has) [
      | inl first ↦ inr (g, refl, inl (eqb-true g.place y.place first))
      | inr later ↦ elim (or_cases (x.place == y.place) false later) [
        | inl last ↦ inr (g, refl, inr (eqb-true x.place y.place last))
        | inr none ↦ cc
      ]
    ]
with-cases None x y has =
    elim (cases_Bool (has_second x.addr)) [
      | inl t ↦ let bad : false ≡ true = rw t at has in cc
      | inr f ↦
          let here : ((x.place == y.place) || false) ≡ true = rw f at has in
          elim (or_cases (x.place == y.place) false here) [ inl t ↦ inl (refl, f, eqb-true x.place y.place t) | inr none ↦ cc ]
    ]

not-added : (past : Trace) (new : Option Transaction) (p q : ℕ) (f : Transaction) → ((y : Transaction) → new ≡ Some y → y.place ≡ length past)
    → waits_after (first_waiting past p) (part_in new p) ≡ Some f → has_part (parts_in past new q) f ≡ true → ⊥
not-added past None p q f at w has = cc
not-added past (Some y) p q f at w has =
    elim (cases_Bool (is_message_part y && not (y.port == q))) [
      | inr none ↦ let bad : false ≡ true = rw none at has in cc
      | inl part ↦
          let m = (and_parts (is_message_part y) (not (y.port == q)) part).0 in
          let here : has_part (parts_with (first_waiting past y.port) y) f ≡ true = rw part at has in
          by m (at y refl) (with-cases (first_waiting past y.port) y f here) (waiting-cases (first_waiting past p) (part_in (Some y) p) f w)
    ]
  where
    of-new : (y f : Transaction) → part_in (Some y) p ≡ Some f → (y ≡ f) × (f.port ≡ p)
    of-new y f new =
        let is = option_filter-is (λ x. is_message_part x && (x.port == p)) (Some y) f new in
        (Some-injective y f is.0, eqb-true f.port p (and_parts (is_message_part f) (f.port == p) is.1).1)

    by : is_message_part y ≡ true → y.place ≡ length past
        → ((first_waiting past y.port ≡ None) × (has_second y.addr ≡ false) × (y.place ≡ f.place)) ⊎ ((g : Transaction) × (first_waiting past y.port ≡ Some g) × ((g.place ≡ f.place) ⊎ (y.place ≡ f.place)))
        → (first_waiting past p ≡ Some f) ⊎ ((part_in (Some y) p ≡ Some f) × (first_waiting past p ≡ None) × (has_second f.addr ≡ true)) → ⊥
    by m now (inl one) (inl old) =
        let low = (waiting-is past p f old).issued.before in
        let same = one.2 in absurd (omega (arith, now, low, same))
    by m now (inl one) (inr new) =
        let is = of-new y f new.0 in
        let second : has_second y.addr ≡ true = ap (λ (v : Transaction). has_second v.addr) is.0 ∙ new.2 in
        let lacks = one.1 in cc
    by m now (inr two) (inr new) =
        let is = of-new y f new.0 in
        let none : first_waiting past y.port ≡ None = ap (λ (v : Transaction). first_waiting past v.port) is.0 ∙ ap (first_waiting past) is.1 ∙ new.1 in
        let some = two.1 in cc
    by m now (inr two) (inl old) =
        let i = waiting-is past p f old in
        let low = i.issued.before in
        elim two.2 [
          | inr last ↦ absurd (omega (arith, now, low, last))
          | inl first ↦
              let j = waiting-is past y.port two.0 two.1 in
              let same = one-issued past two.0 f j.issued i.issued first in
              let port : y.port ≡ p = sym j.port ∙ ap (λ (v : Transaction). v.port) same ∙ i.port in
              let ended : waits_after (first_waiting past p) (part_in (Some y) p) ≡ None = rw (old, m, eq-eqb y.port p port) refl in cc
        ]

-- a first part that waits is none of the parts for a port
pub waiting-apart : (past : Trace) (p q : ℕ) (f : Transaction) → first_waiting past p ≡ Some f → has_part (parts_for past q) f ≡ true → ⊥
waiting-apart [] p q f w has = cc
waiting-apart (e ∷ past) p q f w has =
    let either = sym (list_any-append (λ y. y.place == f.place) (parts_for past q) (parts_in past (issued (length past) e) q)) ∙ has in
    elim (or_cases (has_part (parts_for past q) f) (has_part (parts_in past (issued (length past) e) q) f) either) [
      | inr now ↦ not-added past (issued (length past) e) p q f (issued-place (length past) e) w now
      | inl before ↦ elim (waiting-cases (first_waiting past p) (part_in (issued (length past) e) p) f w) [
        | inl old ↦ waiting-apart past p q f old before
        | inr new ↦
            let at = issued-place (length past) e f (option_filter-is (λ x. is_message_part x && (x.port == p)) (issued (length past) e) f new.0).0 in
            let low = part-placed (parts_for past q) (length past) f (parts-placed past q) before in
            absurd (omega (arith, at, low))
      ]
    ]
