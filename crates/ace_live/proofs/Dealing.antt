-- The first seat gives up its ports one by one.
use Rattle.std.proofs.Common.{◌≡◌, ℕ, zero, suc, ◌+◌, ◌-◌, ◌<◌, List, [], ◌∷◌, ◌++◌, map, sym, ap, ◌∙◌, subst, arith, Some, Option}
use mathlib.Core.List.{map-append}
use Rattle.atomic_table.specs.Seated.{TableId}
use Rattle.atomic_table.specs.Table.{Splits, opening}
use Rattle.ace_live.specs.declared.setting.Setting.{Setting}
use Rattle.ace_live.specs.declared.rule.Stage.TheVariants.{Idle}
use Rattle.ace_live.specs.Running.{Running}
use Rattle.ace_live.specs.Rule.{Keeps}
use Rattle.ace_live.specs.Steps.{first_left, first_right, SeatState}
use Rattle.ace_live.specs.Views.{view_of, ports_from, opening_view}
use Rattle.ace_live.specs.Seats.{LiveId, Token, fresh, IsIdleAt}
use Rattle.ace_live.proofs.Parting.{splits, opens}

ports_from-next : (p n : ℕ) → p < n → ports_from p (n - p) ≡ p ∷ ports_from (p + 1) (n - (p + 1))
ports_from-next p n l = let e : n - p ≡ suc (n - (p + 1)) = omega arith in ap (ports_from p) e
    ∙ (let s : suc p ≡ p + 1 = omega arith in λ i. p ∷ ports_from (s i) (n - (p + 1)))

ports_from-more : (a n : ℕ) → ports_from a (suc n) ≡ ports_from a n ++ (a + n) ∷ []
ports_from-more a zero = let e : a ≡ a + 0 = omega arith in λ i. e i ∷ []
ports_from-more a (suc n) = let h = ports_from-more (suc a) n in let e : suc a + n
    ≡ a + suc n = omega arith in λ i. a ∷ ((h ∙ (λ j. ports_from (suc a) n ++ e j ∷ [])) i)

pub dealt : (live : LiveId) (n : ℕ) (ts : List Token) (t : Token) → ts ≡ map (fresh live) (ports_from 0 n) → t ≡ fresh live n → ts ++ t ∷ []
    ≡ map (fresh live) (ports_from 0 (n + 1))
dealt live n ts t a b = (λ i. a i ++ b i ∷ []) ∙
    (sym (map-append (fresh live) (ports_from 0 n) (n ∷ []))
    ∙ ap (map (fresh live)) (let e : 0 + n ≡ n = omega arith in (λ i. ports_from 0 n ++ sym e i ∷ []) ∙
    (sym (ports_from-more 0 n) ∙ (let s : suc n ≡ n + 1 = omega arith in ap (ports_from 0) s))))

module _ (key : Setting) (p n : ℕ) (l : p < n) (m : SeatState) (e : IsIdleAt key (ports_from p (n - p)) [] m) where
  abbrev At : Type 0
  At = IsIdleAt key (p ∷ ports_from (p + 1) (n - (p + 1))) [] m

  at : At
  at = e ∙ (let f = ports_from-next p n l in λ i. (view_of (f i) Idle [] key, []))

  pub splits_at : (id : ℕ) → Splits (Keeps key) id m.0 (first_left m.0) (first_right m.0)
  splits_at id = subst (λ (z : SeatState). Splits (Keeps key) id z.0 (first_left z.0) (first_right z.0))
      (sym at) (splits key id [] p (ports_from (p + 1) (n - (p + 1))))

  pub left_at : (m' : SeatState) → m' ≡ (first_left m.0, m.1) → IsIdleAt key (ports_from (p + 1) (n - (p + 1))) [] m'
  left_at m' q = q ∙ ap (λ (z : SeatState). (first_left z.0, z.1)) at

  pub right_at : (r : SeatState) → r ≡ (first_right m.0, []) → IsIdleAt key (p ∷ []) [] r
  right_at r q = q ∙ ap (λ (z : SeatState). (first_right z.0, [])) at

pub dealt_token : (key : Setting) (z z' : TableId) (p : ℕ) (r : SeatState) → z' ≡ z → IsIdleAt key (p ∷ []) [] r
    → (record { live = record { table = z'; setting = r.0.setting }; port = p; seen = r.0.seen }) ≡ fresh record { table = z; setting = key } p
dealt_token key z z' p r e a = λ i. record { live = record { table = e i; setting = (a i).0.setting }; port = p; seen = (a i).0.seen }

pub opens_with : (key : Setting) (items : List (Option Running)) → key.ports < 256 → items ≡ Some record { setting = key; history = [] } ∷ []
    → Keeps key (opening (0 ∷ 0 ∷ []) items (opening_view key))
opens_with key items few e = subst (λ (xs : List (Option Running)). Keeps key (opening (0 ∷ 0 ∷ []) xs (opening_view key))) (sym e) (opens key few)
