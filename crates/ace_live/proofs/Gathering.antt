-- One view takes in the others, and the table closes.
use Rattle.std.proofs.Common.{◌≡◌, ℕ, ◌+◌, List, [], ◌∷◌, ◌++◌, length, sym, refl, ap, ◌∙◌, subst, arith, Some, None, Option, inl, inr, ⊎_elim, Bool, if◌then◌else◌}
use Rattle.std.proofs.lemmas.Bool.{lt-ltb, le-ltb}
use Rattle.std.proofs.lemmas.List.{append-nil, append_assoc}
use mathlib.Core.Logic.{dite}
use native.Mathlib.Decide.{dec_le}
use mathlib.Core.Option.{some, some-injective}
use lib.ListN.{get_elem?}
use Rattle.atomic_table.specs.Table.{Joins, Final, Seen}
use Rattle.ace_history.specs.declared.entry.Entry.{Entry}
use Rattle.ace_live.specs.declared.setting.Setting.{Setting}
use Rattle.ace_live.specs.declared.rule.View.{View}
use Rattle.ace_live.specs.declared.rule.Stage.TheVariants.{Idle}
use Rattle.ace_live.specs.Running.{Running}
use Rattle.ace_live.specs.Rule.{Keeps}
use Rattle.ace_live.specs.Steps.{longer, spent, SeatState}
use Rattle.ace_live.specs.Views.{view_of, joined_view, longer_of, count_of, one_if_same, Begins, AllBegin}
use Rattle.std.specs.List.{AllByRecursion}
use Rattle.ace_live.specs.Seats.{LiveId, Token, IsAmong, SomeSeat, HasAll, EachPort, IsIdleAt, IsJoinedAt}
use Rattle.ace_live.proofs.Parting.{joins, closes, count_of-append}

abbrev pub Gathered : List Token → List Token → View → Type 0
Gathered all left v = (done : List Token) × (all ≡ left ++ done) × HasAll done v

pub gather_first : (all left : List Token) (t : Token) (key : Setting) (m : SeatState) → all ≡ left ++ t ∷ [] → IsIdleAt key (t.port ∷ []) t.seen m
    → Gathered all left m.0 × IsJoinedAt key m
gather_first all left t key m is at = subst (λ (z : SeatState). Gathered all left z.0 × IsJoinedAt key z)
    (sym at) ((t ∷ [], is, (λ p. refl, (inl refl, tt), inl refl)), refl)

is_one : (a b : List Entry) (P : List Entry → Type 0) → P a → P b → P (longer_of a b)
is_one a b P pa pb = dite (dec_le (length b) (length a))
    (λ l. subst (λ (t : Bool). P (if t then b else a)) (sym (le-ltb (length a) (length b) l)) pa)
    (λ n. subst (λ (t : Bool). P (if t then b else a)) (sym (lt-ltb (length a) (length b) (omega arith))) pb)

all_map : (P Q : Token → Type 0) → ((t : Token) → P t → Q t) → (ts : List Token) → AllByRecursion P ts → AllByRecursion Q ts
all_map P Q f [] a = tt
all_map P Q f (t ∷ ts) a = (f t a.0, all_map P Q f ts a.1)

some_map : (P Q : Token → Type 0) → ((t : Token) → P t → Q t) → (ts : List Token) → SomeSeat P ts → SomeSeat Q ts
some_map P Q f [] a = a
some_map P Q f (t ∷ ts) a = ⊎_elim (λ p. inl (f t p)) (λ r. inr (some_map P Q f ts r)) a

takes_in : (done : List Token) (t : Token) (v w : View) → w.ports ≡ t.port ∷ [] → w.seen ≡ t.seen → HasAll done v → HasAll (t ∷ done) (longer v w)
takes_in done t v w ps seen h = (
  λ p. let a = count_of-append p v.ports w.ports in let b : count_of p w.ports ≡ one_if_same p t.port + 0 = ap (count_of p) ps in let c = h.0 p in omega arith,
  (
    inr (inr (inl (sym seen))),
    all_map _ (λ s. IsAmong s.seen (longer_of v.seen w.seen ∷ v.seen ∷ w.seen ∷ v.heard))
        (λ s. ⊎_elim (λ e. inr (inl e)) (λ r. inr (inr (inr r)))) done h.1,
  ),
  is_one v.seen w.seen (λ a. SomeSeat (λ s. a ≡ s.seen) (t ∷ done)) (inr h.2) (inl seen),
)

pub gather_more : (all left left' : List Token) (t : Token) (key key' : Setting) (m m' n : SeatState) → left ≡ left' ++ t ∷ []
    → IsIdleAt key' (t.port ∷ []) t.seen n → IsJoinedAt key m → m' ≡ (longer m.0 n.0, m.1) → Gathered all left m.0
    → IsJoinedAt key m' × Gathered all left' m'.0
gather_more all left left' t key key' m m' n is at j e g = let seen : n.0.seen ≡ t.seen = ap (λ (z : SeatState). z.0.seen) at in let ports : n.0.ports
    ≡ t.port ∷ [] = ap (λ (z : SeatState). z.0.ports) at in (
      joined_after,
      subst (λ (z : SeatState). Gathered all left' z.0)
          (sym e) (t ∷ g.0, g.1 ∙ (ap (λ l. l ++ g.0) is ∙ append_assoc left' (t ∷ []) g.0), takes_in g.0 t m.0 n.0 ports seen g.2),
    )
  where
    joined_after : IsJoinedAt key m'
    joined_after = subst (λ (z : SeatState). IsJoinedAt key z) (sym e)
        (λ i. (joined_view (m.0.ports ++ n.0.ports) (longer_of m.0.seen n.0.seen) ((j i).0.setting) (m.0.seen ∷ n.0.seen ∷ m.0.heard), (j i).1))

pub joins_at : (key : Setting) (id other : ℕ) (m n : SeatState) (ps : List ℕ) (seen : List Entry) → IsJoinedAt key m → IsIdleAt key ps seen n
    → Joins (Keeps key) id m.0 other n.0 (longer m.0 n.0) spent
joins_at key id other m n ps seen j at = subst (λ (z : SeatState). Joins (Keeps key) id m.0 other z.0 (longer m.0 z.0) spent) (sym at)
    (subst (λ (v : View). Joins (Keeps key) id v other (view_of ps Idle seen key) (longer v (view_of ps Idle seen key)) spent)
    (sym (ap (λ (z : SeatState). z.0) j)) (joins key id m.0.seen m.0.ports m.0.heard other ps seen))

pub all_left : (P : Token → Type 0) (a b : List Token) → AllByRecursion P (a ++ b) → AllByRecursion P a
all_left P [] b h = tt
all_left P (x ∷ a) b h = (h.0, all_left P a b h.1)

pub all_last : (P : Token → Type 0) (a : List Token) (t : Token) → AllByRecursion P (a ++ t ∷ []) → P t
all_last P [] t h = h.0
all_last P (x ∷ a) t h = all_last P a t h.1

begins_in : (a h : List Entry) (hs : List (List Entry)) → AllBegin hs h → IsAmong a hs → Begins a h
begins_in a h [] b i = absurd i
begins_in a h (k ∷ hs) b i = ⊎_elim (λ (e : a ≡ k). subst (λ (z : List Entry). Begins z h) (sym e) b.0) (λ r. begins_in a h hs b.1 r) i

pub closes_at : (key : Setting) (id : ℕ) (m : SeatState) (ts : List Token) (ws : List ℕ) (xs : List (Option Running)) → IsJoinedAt key m → HasAll ts m.0
    → EachPort key.ports ts → Final (Seen (Keeps key) id m.0) ws xs
    → (get_elem? xs 0 ≡ some (Some record { setting = key; history = m.0.seen })) × AllByRecursion (λ t. Begins t.seen m.0.seen) ts × (length xs ≡ 1)
closes_at key id m ts ws xs j h each f = let v = m.0 in
    let c = closes key id v.ports v.seen v.heard ws xs (λ p l. let a = h.0 p in let b = each p l in omega arith)
    (subst (λ (z : View). Final (Seen (Keeps key) id z) ws xs) (ap (λ (z : SeatState). z.0) j) f) in
    (c.0, all_map _ (λ t. Begins t.seen v.seen) (λ t. begins_in t.seen v.seen (v.seen ∷ v.heard) (([], sym (append-nil v.seen)), c.1)) ts h.1, c.2)

pub own_last : (P : Token → Type 0) (all left done left' : List Token) (t : Token) → AllByRecursion P all → all ≡ left ++ done → left ≡ left' ++ t ∷ [] → P t
own_last P all left done left' t own e f = all_last P left' t (subst (AllByRecursion P) f (all_left P left done (subst (AllByRecursion P) e own)))

pub idle_here : (live here : LiveId) (ps : List ℕ) (seen : List Entry) (n : SeatState) → live ≡ here → IsIdleAt live.setting ps seen n
    → IsIdleAt here.setting ps seen n
idle_here live here ps seen n e a = subst (λ (l : LiveId). IsIdleAt l.setting ps seen n) e a

abbrev pub End : LiveId → List Token → Option Running → Type 0
End self ts x = (h : List Entry) × (x ≡ Some record { setting = self.setting; history = h }) × AllByRecursion (λ t. Begins t.seen h) ts × SomeSeat
    (λ t. h ≡ t.seen) ts

pub ended : (self here : LiveId) (id : ℕ) (m : SeatState) (ts : List Token) (ws : List ℕ) (xs : List (Option Running)) (x : Option Running) → here ≡ self
    → IsJoinedAt here.setting m → HasAll ts m.0 → EachPort self.setting.ports ts
    → Final (Seen (Keeps here.setting) id m.0) ws xs → get_elem? xs 0 ≡ some x → End self ts x
ended self here id m ts ws xs x e j h each f at = let c = closes_at here.setting id m ts ws xs j h
    (subst (λ (l : LiveId). EachPort l.setting.ports ts) (sym e) each) f in (
      m.0.seen,
      some-injective x (Some record { setting = self.setting; history = m.0.seen })
          (sym at ∙ (c.0 ∙ ap (λ (l : LiveId). some (Some record { setting = l.setting; history = m.0.seen })) e)),
      c.1,
      h.2,
    )

inner : Running → Option Running → Running
inner d (Some x) = x
inner d None = d

some_is : (a b : Running) → Some a ≡ Some b → a ≡ b
unfolding inner
some_is a b e = ap (inner a) e

pub end_setting : (self : LiveId) (ts : List Token) (x : Option Running) (s : Running) → End self ts x → x ≡ Some s → s.setting ≡ self.setting
end_setting self ts x s n is = ap (λ (r : Running). r.setting) (some_is s record { setting = self.setting; history = n.0 } (sym is ∙ n.1))

end_history : (self : LiveId) (ts : List Token) (x : Option Running) (s : Running) (n : End self ts x) → x ≡ Some s → n.0 ≡ s.history
end_history self ts x s n is = ap (λ (r : Running). r.history) (sym (some_is s record { setting = self.setting; history = n.0 } (sym is ∙ n.1)))

pub end_longest : (self : LiveId) (ts : List Token) (x : Option Running) (s : Running) → End self ts x → x ≡ Some s → SomeSeat (λ t. s.history ≡ t.seen) ts
end_longest self ts x s n is = subst (λ (h : List Entry). SomeSeat (λ t. h ≡ t.seen) ts) (end_history self ts x s n is) n.3

pub end_begins : (self : LiveId) (ts : List Token) (x : Option Running) (s : Running) → End self ts x → x ≡ Some s → AllByRecursion
    (λ t. Begins t.seen s.history) ts
end_begins self ts x s n is = subst (λ (h : List Entry). AllByRecursion (λ t. Begins t.seen h) ts) (end_history self ts x s n is) n.2

pub end_some : (self : LiveId) (ts : List Token) (x : Option Running) → End self ts x → x ≡ None → ⊥
end_some self ts x n is = let e = n.1 in grind (arith, e, is)
