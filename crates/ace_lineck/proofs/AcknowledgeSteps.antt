-- What an RK or WK leaves of what is kept of its line.
use Rattle.std.proofs.Common.{◌≡◌, ◌<◌, ◌-◌, ◌^◌, ℕ, true, false, ◌==◌, List, ◌∷◌, length, Option, Some, None, option_map, refl, sym, ap, subst, ◌∙◌}
use Rattle.ace_lineck.proofs.Terms.{Rk, Wk, least_broken, Transaction, Channel, Header, Line, LineState, Read, Trace, Write, ended, is_transaction, acknowledge, Recording, line_in, target_of, Progress, Target, Grant, LineCheck, Holder, LineRecord, IsOf, transaction_at, GrantStands, IsGrantStep, is_of, is_over, HoldersStand, LineStands, MayApply, Stands, place_on, StatesStand}
use Rattle.ace_model.proofs.General.Options.{Some-injective}
use Rattle.ace_lineck.proofs.GrantHear.{ends_heard, is_grant, is_heard, other_heard, over_heard}
use Rattle.ace_lineck.proofs.Heard.{may-hear}

is-of : (o : Option Progress) (x y : Transaction) → option_map transaction_at o ≡ Some x → is_of o y ≡ (x.place == y.place)
is-of None x y is = cc
is-of (Some z) x y is = ap (λ (v : Transaction). v.place == y.place) (Some-injective z.transaction x is)

module _ (h : Header) (past : Trace) (l p : ℕ) (st : LineState) (t : Target) where
  pub no-grant : (c : Channel) → is_grant (acknowledge c p st) ≡ false
  no-grant Read = refl
  no-grant Write = refl

  unheard : (c : Channel) → is_heard (acknowledge c p st) ≡ false
  unheard Read = refl
  unheard Write = refl

  over-own : (c : Channel) (y : Transaction) → is_over h (acknowledge c p st) (is_of t.transaction y) ≡ is_of t.transaction y
  over-own Read y = refl
  over-own Write y = refl

  module _ (x : Transaction) (own : IsOf t x) (g : Grant) (xs : List Holder) (memory : Line) where
    -- the granted transaction ends with it where it is its own
    ends-own : (c : Channel) → IsGrantStep h past l (acknowledge c p st) t (Some g) xs memory → is_transaction (ended h past (acknowledge c p st)) g.transaction ≡ (x.place == g.transaction.place)
    ends-own c s = sym (ends_heard h past l t g xs memory (acknowledge c p st) s.step) ∙ over-own c g.transaction ∙ is-of t.transaction x g.transaction own

    pub released : (c : Channel) → IsGrantStep h past l (acknowledge c p st) t (Some g) xs memory → (x.place == g.transaction.place) ≡ true → GrantStands h (acknowledge c p st ∷ past) l None
    released c s is = over_heard h past l (acknowledge c p st) g s.grant (no-grant c) (ends-own c s ∙ is)

    pub still-granted : (c : Channel) → IsGrantStep h past l (acknowledge c p st) t (Some g) xs memory → (x.place == g.transaction.place) ≡ false
        → GrantStands h (acknowledge c p st ∷ past) l (Some g)
    still-granted c s other = other_heard h past l t g xs memory (acknowledge c p st) (unheard c) s (ends-own c s ∙ other)

  -- what it leaves of the data of the ports
  pub still-held : (c : Channel) (xs : List Holder) → HoldersStand past l xs → HoldersStand (acknowledge c p st ∷ past) l xs
  still-held Read xs s = record { copy = s.copy; sent = s.sent }
  still-held Write xs s = record { copy = s.copy; sent = s.sent }

  -- what is kept of the line, with the new grant and states
  pub acknowledged-record : (c : Channel) (x y : LineRecord) → LineStands h past l x → y.used ≡ x.used → y.memory ≡ x.memory → GrantStands h (acknowledge c p st ∷ past) l y.grant
      → StatesStand h (acknowledge c p st ∷ past) l y.states → y.holders.items ≡ x.holders.items → LineStands h (acknowledge c p st ∷ past) l y
  acknowledged-record c x y s used memory grant states holders = by c grant states
    where
      still : (c : Channel) → HoldersStand (acknowledge c p st ∷ past) l y.holders.items
      still c = subst (HoldersStand (acknowledge c p st ∷ past) l) (sym holders) (still-held c x.holders.items s.holders)

      by : (c : Channel) → GrantStands h (acknowledge c p st ∷ past) l y.grant → StatesStand h (acknowledge c p st ∷ past) l y.states → LineStands h (acknowledge c p st ∷ past) l y
      by Read grant states = record { used = used ∙ s.used; memory = record { memory = memory ∙ s.memory.memory }; states = states; grant = grant; holders = still Read }
      by Write grant states = record { used = used ∙ s.used; memory = record { memory = memory ∙ s.memory.memory }; states = states; grant = grant; holders = still Write }

-- it may be heard
pub acknowledge-may : (s : LineCheck) (r : Recording) (p : ℕ) (st : LineState) (c : Channel) (place : Option ℕ) → Stands s r → place ≡ place_on s (line_in r.header r.past (acknowledge c p st))
    → least_broken r.header r.past (acknowledge c p st) ≡ None → length r.past < 2 ^ 64 - 1
    → MayApply s r (acknowledge c p st) (target_of r.header r.past (acknowledge c p st)) place
acknowledge-may s r p st Read place stands at fine few = may-hear s r (Rk p st) place refl stands at fine few
acknowledge-may s r p st Write place stands at fine few = may-hear s r (Wk p st) place refl stands at fine few
