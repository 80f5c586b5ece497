-- The steps of a call, at a seat that is known by an equation.
use Rattle.std.proofs.Common.{◌≡◌, ◌≢◌, ℕ, ◌+◌, ◌%◌, ◌^◌, ◌<◌, List, [], ◌∷◌, ◌++◌, length, sym, refl, ap, ◌∙◌, subst, arith, Some, None, Option, Result, Ok, Err, MatchResult}
use Rattle.std.proofs.lemmas.List.{append-nil}
use mathlib.Core.Option.{none, some-injective}
use lib.ListN.{get_elem?}
use Rattle.atomic_table.specs.Table.{step, Allows, rest}
use Rattle.ace_history.specs.declared.entry.Entry.{Entry}
use Rattle.ace_live.specs.declared.setting.Setting.{Setting}
use Rattle.ace_model.specs.declared.plans.Op.{Op}
use Rattle.ace_live.specs.declared.seat.Full.{Full}
use Rattle.ace_live.specs.Entries.{IsEntryOf, Legal}
use Rattle.ace_live.specs.Running.{Running}
use Rattle.ace_live.specs.Rule.{Keeps}
use Rattle.ace_live.specs.Steps.{claimed, looked, served, SeatState}
use Rattle.ace_model.proofs.General.Options.{Some-injective}
use Rattle.ace_live.specs.declared.rule.Stage.TheVariants.{Holds}
use Rattle.ace_live.specs.Views.{view_of, count_of, AllBy, Behind}
use Rattle.ace_live.specs.Seats.{running, IsIdleAt, IsWaitingAt, IsHoldingAt}
use Rattle.ace_live.proofs.Keeps.{claims, looks, serves, same_self}

module _ (key : Setting) (id slots : ℕ) where
  pub claims_at : (m : SeatState) (ps : List ℕ) (seen : List Entry) → IsIdleAt key ps seen m → 0 < length ps → Allows (Keeps key) slots id m 0
      (λ n. (n + 1) % 2 ^ 64) (claimed (step slots 0 1 0 none) m)
  claims_at m ps seen e some_port = subst (λ (x : SeatState). Allows (Keeps key) slots id x 0 (λ n. (n + 1) % 2 ^ 64) (claimed (step slots 0 1 0 none) x))
      (sym e) (claims key id ps seen slots some_port)

  pub looks_at : (m : SeatState) (ps : List ℕ) (seen : List Entry) (ticket : ℕ) → IsWaitingAt key ps seen ticket m → Allows (Keeps key) slots id m 1
      (λ n. n) (looked (step slots 1 0 0 none) m)
  looks_at m ps seen ticket w = subst (λ (x : SeatState). Allows (Keeps key) slots id x 1 (λ n. n) (looked (step slots 1 0 0 none) x))
      (sym w.1) (looks key id ps seen w.0 slots)

  pub serves_at : (m : SeatState) (ps : List ℕ) (seen new : List Entry) → IsHoldingAt key ps seen (seen ++ new) m → AllBy ps new
      → Allows (Keeps key) slots id m 1 (λ n. (n + 1) % 2 ^ 64) (served (step slots 1 1 0 none) m)
  serves_at m ps seen new h by = subst (λ (x : SeatState). Allows (Keeps key) slots id x 1 (λ n. (n + 1) % 2 ^ 64) (served (step slots 1 1 0 none) x))
      (sym h.1) (serves key id ps seen new h.0 slots by)

  -- the load that finds the ticket
  pub found : (m m' : SeatState) (ps : List ℕ) (seen : List Entry) (ticket r : ℕ) → IsWaitingAt key ps seen ticket m → looked (step slots 1 0 0 none) m r m'
      → r ≡ ticket → IsHoldingAt key ps m'.0.seen m'.0.seen m' × Behind ps seen m'.0.seen
  found m m' ps seen ticket r w l e = let f = subst (λ (x : SeatState). looked (step slots 1 0 0 none) x r m') w.1 l in let g = f.0 (e ∙ w.2) in
      subst (λ (x : SeatState). IsHoldingAt key ps x.0.seen x.0.seen x × Behind ps seen x.0.seen) (sym g.1) ((w.0, refl), g.2)

  -- the load that does not
  pub missed : (m m' : SeatState) (ps : List ℕ) (seen : List Entry) (ticket r : ℕ) → IsWaitingAt key ps seen ticket m → looked (step slots 1 0 0 none) m r m'
      → r ≢ ticket → m' ≡ m
  missed m m' ps seen ticket r w l n = let f = subst (λ (x : SeatState). looked (step slots 1 0 0 none) x r m') w.1 l in f.1 (λ e. n (e ∙ sym w.2)) ∙ sym w.1

-- what stands in the slot
pub in_slot : (key : Setting) (m : SeatState) (ps : List ℕ) (h k : List Entry) (x : Option Running) → IsHoldingAt key ps h k m → m.1 ≡ (0, x) ∷ rest m.1 → x
    ≡ Some (running key k)
in_slot key m ps h k x a e = ap
    (λ (p : ℕ × Option Running). p.1) (some-injective (0, x) (0, Some (running key k)) (ap (λ (l : List (ℕ × Option Running)). get_elem? l 0)
    (sym e ∙ ap (λ (z : SeatState). z.1) a.1)))

pub is_held : (key : Setting) (m : SeatState) (ps : List ℕ) (h k : List Entry) → IsHoldingAt key ps h k m → (x : Option Running) × (m.1 ≡ (0, x) ∷ rest m.1)
is_held key m ps h k a = (Some (running key k), subst (λ (z : SeatState). z.1 ≡ (0, Some (running key k)) ∷ rest z.1) (sym a.1) refl)

-- the state in the slot is the one that was served
pub held-state : (key : Setting) (m : SeatState) (ps : List ℕ) (h k : List Entry) (x : Option Running) (s : Running) → IsHoldingAt key ps h k m
    → m.1 ≡ (0, x) ∷ rest m.1 → x ≡ Some s → s ≡ running key k
held-state key m ps h k x s a e is = Some-injective s (running key k) (sym is ∙ in_slot key m ps h k x a e)

-- the state was taken, and one with another history was put back
put-back : (key : Setting) (m n o : SeatState) (ps : List ℕ) (h k l : List Entry) (s : Running) → IsHoldingAt key ps h k m → n ≡ (m.0, (0, None) ∷ rest m.1)
    → o ≡ (n.0, (0, Some s) ∷ rest n.1) → s ≡ running key l → IsHoldingAt key ps h l o
put-back key m n o ps h k l s a taken put is =
    let out : ℕ × Option Running = (0, None) in (
      a.0,
      put ∙ ap (λ (z : SeatState). (z.0, (0, Some s) ∷ rest z.1)) taken ∙ ap (λ (z : SeatState). (z.0, (0, Some s) ∷ rest (out ∷ rest z.1))) a.1
          ∙ ap (λ (r : Running). (view_of ps (Holds a.0) h key, (0, Some r) ∷ [])) is,
    )

abbrev pub CallEnds : Running → Running → ℕ → Op → Result Entry Full → Type 0
CallEnds s s' port op answer = MatchResult answer
    (λ e. (s' ≡ record s { history = s.history ++ e ∷ [] }) × IsEntryOf port op e × Legal s'.setting s'.history)
    (λ f. (s' ≡ s) × Legal s.setting s.history × (length s.history ≡ s.setting.room) × (f.used ≡ length s.history))

-- what the work answers
pub work-answer : (key : Setting) (m n o : SeatState) (ps : List ℕ) (h : List Entry) (x : Option Running) (s s' : Running) (port : ℕ) (op : Op)
    (answer : Result Entry Full) → IsHoldingAt key ps h h m → m.1 ≡ (0, x) ∷ rest m.1 → x ≡ Some s → n ≡ (m.0, (0, None) ∷ rest m.1)
    → o ≡ (n.0, (0, Some s') ∷ rest n.1) → CallEnds s s' port op answer
    → MatchResult answer
    (λ e. IsHoldingAt key ps h (h ++ e ∷ []) o × IsEntryOf port op e × Legal key (h ++ e ∷ []))
    (λ f. IsHoldingAt key ps h h o × Legal key h × (length h ≡ key.room) × (f.used ≡ length h))
work-answer key m n o ps h x s s' port op (Ok e) a there is taken put ends =
    let own = held-state key m ps h h x s a there is in
    let new : s' ≡ running key (h ++ e ∷ []) = ends.0 ∙ ap (λ (r : Running). record r { history = r.history ++ e ∷ [] }) own in
    (put-back key m n o ps h h (h ++ e ∷ []) s' a taken put new, ends.1, subst (λ (r : Running). Legal r.setting r.history) new ends.2)
work-answer key m n o ps h x s s' port op (Err f) a there is taken put ends =
    let own = held-state key m ps h h x s a there is in (
      put-back key m n o ps h h h s' a taken put (ends.0 ∙ own),
      subst (λ (r : Running). Legal r.setting r.history) own ends.1,
      subst (λ (r : Running). length r.history ≡ r.setting.room) own ends.2,
      subst (λ (r : Running). f.used ≡ length r.history) own ends.3,
    )

-- what the holder of the turn may serve: the one entry of its call, or none
module _ (key : Setting) (m : SeatState) (port : ℕ) (ps : List ℕ) (h : List Entry) (one : ps ≡ port ∷ []) where
  may_serve : (new : List Entry) → IsHoldingAt key ps h (h ++ new) m → AllBy ps new
      → (x : List Entry) × IsHoldingAt key m.0.ports m.0.seen (m.0.seen ++ x) m × AllBy m.0.ports x
  may_serve new a b = subst (λ (z : SeatState). (x : List Entry) × IsHoldingAt key z.0.ports z.0.seen (z.0.seen ++ x) z × AllBy z.0.ports x)
      (sym a.1) (new, (a.0, refl), b)

  pub may_serve_one : (e : Entry) → IsHoldingAt key ps h (h ++ e ∷ []) m → e.port ≡ port
      → (x : List Entry) × IsHoldingAt key m.0.ports m.0.seen (m.0.seen ++ x) m × AllBy m.0.ports x
  may_serve_one e a is = may_serve (e ∷ []) a (subst (λ (qs : List ℕ). 0 < count_of e.port qs) (sym one) (let o = same_self e.port port is in omega arith), tt)

  pub may_serve_none : IsHoldingAt key ps h h m → (x : List Entry) × IsHoldingAt key m.0.ports m.0.seen (m.0.seen ++ x) m × AllBy m.0.ports x
  may_serve_none a = may_serve [] (subst (λ (k : List Entry). IsHoldingAt key ps h k m) (sym (append-nil h)) a) tt

pub may_serve_answer : (key : Setting) (m : SeatState) (port : ℕ) (op : Op) (ps : List ℕ) (h : List Entry) (P : Entry → Type 0) (Q R S : Full
    → Type 0) (answer : Result Entry Full) → ps ≡ port ∷ []
    → MatchResult answer (λ e. IsHoldingAt key ps h (h ++ e ∷ []) m × IsEntryOf port op e × P e) (λ f. IsHoldingAt key ps h h m × Q f × R f × S f)
    → (x : List Entry) × IsHoldingAt key m.0.ports m.0.seen (m.0.seen ++ x) m × AllBy m.0.ports x
may_serve_answer key m port op ps h P Q R S (Ok e) one a = may_serve_one key m port ps h one e a.0 a.1.0
may_serve_answer key m port op ps h P Q R S (Err f) one a = may_serve_none key m port ps h one a.0
