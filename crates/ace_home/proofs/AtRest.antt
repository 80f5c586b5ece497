-- Ports at rest: no step may be taken for what has to wait, and how long it has to.
use Rattle.std.proofs.Common.{◌≡◌, ◌⊎◌, ℕ, zero, suc, ◌<◌, ◌≤◌, true, false, not, List, [], ◌∷◌, length, map, slice_get, Option, Some, None, is_some, option_map, refl, sym, ap, subst, ◌∙◌, inl, inr, arith}
use Rattle.std.proofs.Math.Bool.{and-false}
use Rattle.std.proofs.lemmas.Bool.{and_parts, cases_Bool, false_from_ne_true, ltb-true}
use Rattle.ace_event.specs.declared.event.Channel.{Channel}
use Rattle.ace_event.specs.declared.event.Channel.TheVariants.{Write}
use Rattle.ace_event.specs.declared.event.Event.{Event}
use Rattle.ace_event.specs.declared.header.Header.{Header}
use Rattle.ace_model.specs.declared.transactions.Transaction.{Transaction}
use Rattle.ace_model.specs.Accepted.{IsAccepted}
use Rattle.ace_model.specs.Exclusives.{has_failed}
use Rattle.ace_model.specs.Grants.{granted, has_grant}
use Rattle.ace_model.specs.Trace.{Trace}
use Rattle.ace_model.specs.Transactions.{ended, is_exclusive_store, is_outstanding, is_read, is_transaction, issued, outstanding, takes_grant}
use Rattle.ace_model.proofs.General.Options.{Some-injective}
use Rattle.ace_model.proofs.Grants.Granted.{granted_given}
use Rattle.ace_model.proofs.Grants.Stays.{failed_stays, granted_after, granted_before, gives_none}
use Rattle.ace_model.proofs.Outstanding.Steps.{outstanding_after}
use Rattle.ace_model.proofs.Trace.Growth.{issued-cases}
use Rattle.ace_model.proofs.Trace.IssuedTransactions.{issuer-low}
use Rattle.ace_runs.specs.Bursts.{is_kept}
use Rattle.ace_lineck.specs.declared.grant.Grant.{Grant}
use Rattle.ace_lineck.specs.Grants.{GrantStands}
use Rattle.ace_lineck.specs.Records.{name_of}
use Rattle.ace_home.specs.Among.{PortSets}
use Rattle.ace_home.specs.declared.line_users.LineUsers.{LineUsers}
use Rattle.ace_home.specs.declared.port_set.PortSet.{PortSet}
use Rattle.ace_home.specs.HeldUp.{IsHeldUp, IsStill}
use Rattle.ace_home.specs.Home.{AreResting, AreUsers, IsOf, grant_of}
use Rattle.ace_home.specs.Resting.{GoesLater, HasToWait, IsKeptOff, IsUnbegun, may_end, moves_own}
use Rattle.ace_home.specs.Services.{TakesNoneBelow, all_steps}
use Rattle.ace_home.proofs.FirstEvents.{grant-later, grant-not-kept}
use Rattle.ace_home.proofs.Firsts.{ungranted-takes-none}
use Rattle.ace_home.proofs.HeldUp.{held-unbegun, line-or-not}
use Rattle.ace_home.proofs.Later.{later-stays}
use Rattle.ace_home.proofs.Outstanding.{granted-line, of-at, of-port, out-own}
use Rattle.ace_home.proofs.Untouched.{begins-own, none-ends, same-count-of, same-grant-of}
use Rattle.ace_home.proofs.Waiting.{kept-free, kept-takes}

-- ---- no step for it ----------------------------------------------------------------------------------

module _ (among : PortSets) (h : Header) (past : Trace) (a : IsAccepted h past) (p : ℕ) (x : Transaction) (o : IsOf h past p x) where
  idle : takes_grant x ≡ false → TakesNoneBelow among all_steps h past x
  idle f = elim (cases_Bool (has_grant past x.port x.chan x.id)) [
    | inl had ↦ let takes = (granted_given h past a x.addr x (granted-line h past a p x o had)).kind in let bad : true ≡ false = sym takes ∙ f in cc
    | inr none ↦ ungranted-takes-none among h past x a p o none
        (grant-not-kept h past a p x o (false_from_ne_true (is_kept h past (grant_of x)) (λ kept. let takes = kept-takes h past a p x o kept in let bad : true ≡ false = sym takes ∙ f in cc)))
  ]

  kept-off : IsKeptOff h past x → TakesNoneBelow among all_steps h past x
  kept-off w =
      ungranted-takes-none among h past x a p o w.waits
      (grant-not-kept h past a p x o (false_from_ne_true (is_kept h past (grant_of x)) (λ kept.
      let free = kept-free h past a p x o kept in
      let bad : false ≡ true = sym (ap (λ v. is_some v) free) ∙ w.taken in cc)))

  goes-later : GoesLater h past x → TakesNoneBelow among all_steps h past x
  goes-later w =
      ungranted-takes-none among h past x a p o w.waits (elim (cases_Bool (is_kept h past (grant_of x))) [
        | inl kept ↦ grant-later h past a p x o kept w.later
        | inr none ↦ grant-not-kept h past a p x o none
      ])

  pub waiting-takes-none : HasToWait h past x → TakesNoneBelow among all_steps h past x
  waiting-takes-none w = elim w [
    | inl f ↦ idle f
    | inr later ↦ elim later [
      | inl off ↦ kept-off off
      | inr last ↦ elim last [
        | inl behind ↦ goes-later behind
        | inr u ↦ held-unbegun among h past a p x o u.held u.had u.first u.unfailed
      ]
    ]
  ]

-- ---- exclusive stores --------------------------------------------------------------------------------

pub plain-unfailed : (past : Trace) (x : Transaction) → x.lock ≡ false → has_failed past x ≡ false
plain-unfailed past x f = rw f refl

pub write-unfailed : (past : Trace) (x : Transaction) → x.chan ≡ Write → has_failed past x ≡ false
write-unfailed past x chan =
    let writes : is_read x.chan ≡ false = ap is_read chan in
    let none : is_exclusive_store x ≡ false = rw writes (and-false x.lock) in rw none refl

-- ---- what is told of a granted line --------------------------------------------------------------------

pub some-mapped : {A B : Type 0} → (f : A → B) (o : Option A) → is_some (option_map f o) ≡ is_some o
some-mapped f None = refl
some-mapped f (Some x) = refl

pub mapped-at : {A B : Type 0} → (f : A → B) (xs : List A) (k : ℕ) (x : A) → slice_get xs k ≡ Some x → slice_get (map f xs) k ≡ Some (f x)
mapped-at f [] k x at = cc
mapped-at f (y ∷ xs) zero x at = ap (λ o. option_map f o) at
mapped-at f (y ∷ xs) (suc k) x at = mapped-at f xs k x at

pub none-taken : {A : Type 0} → (o : Option A) → is_some o ≡ false → o ≡ None
none-taken None f = refl
none-taken (Some x) f = cc

-- its port, by its name
pub no-port : (o : Option Transaction) → None ≡ option_map name_of o → None ≡ option_map (λ (y : Transaction). y.port) o
no-port None is = refl
no-port (Some y) is = cc

pub port-named : (o : Option Transaction) (n : ℕ × Channel × ℕ) → Some n ≡ option_map name_of o → Some n.0 ≡ option_map (λ (y : Transaction). y.port) o
port-named None n is = cc
port-named (Some y) n is = ap (λ (v : ℕ × Channel × ℕ). Some v.0) (Some-injective n (name_of y) is)

-- ---- how long it has to wait -------------------------------------------------------------------------

-- what is outstanding after an event begins with it, or was so before it
pub begun-or-was : (h : Header) (past : Trace) (e : Event) (p : ℕ) (x : Transaction) → IsAccepted h (e ∷ past) → IsOf h (e ∷ past) p x
    → (issued (length past) e ≡ Some x) ⊎ IsOf h past p x
begun-or-was h past e p x a o =
    let w = of-at h (e ∷ past) p x o in
    elim (issued-cases e past x w.issued) [
      | inl new ↦ inl new
      | inr old ↦
          let both = and_parts (is_outstanding h past x) (not (is_transaction (ended h past e) x)) (sym (outstanding_after h past e x a old) ∙ w.is_out) in
          inr (subst (λ q. IsOf h past q x) w.port (of-port h past x old both.0))
    ]

-- and so before it, where none of the port begins with the event
pub was-of : (h : Header) (past : Trace) (e : Event) (p : ℕ) (x : Transaction) → IsAccepted h (e ∷ past) → moves_own e p ≡ false → IsOf h (e ∷ past) p x → IsOf h past p x
was-of h past e p x a own o = elim (begun-or-was h past e p x a o) [
  | inl new ↦
      let t = begins-own _ e p x new (of-at h (e ∷ past) p x o).port in
      let bad : true ≡ false = sym t ∙ own in cc
  | inr was ↦ was
]

-- a port of an outstanding transaction is one of the first 32
pub port-low : (h : Header) (past : Trace) (p : ℕ) (x : Transaction) → IsAccepted h past → h.ports ≤ 32 → IsOf h past p x → x.port < 32
port-low h past p x a few o = let low = ltb-true x.port h.ports (issuer-low h past x a (of-at h past p x o).issued) in omega (arith, low, few)

same-granted : (h : Header) (past : Trace) (e : Event) (l : ℕ) (g : Option Grant) → GrantStands h past l g → GrantStands h (e ∷ past) l g → granted h (e ∷ past) l ≡ granted h past l
same-granted h past e l None before after = after ∙ sym before
same-granted h past e l (Some g) before after = after.granted ∙ sym before.granted

some-of : (o : Option Transaction) → is_some o ≡ true → (y : Transaction) × (o ≡ Some y)
some-of None t = cc
some-of (Some y) t = (y, refl)

-- The event moves nothing under the grants of other lines than this one, if there is one.
module _ (h : Header) (past : Trace) (e : Event) (a : IsAccepted h (e ∷ past)) (line : Option ℕ) (still : (l : ℕ) → (line ≡ Some l → ⊥) → IsStill h past e l)
    (grants : (l : ℕ) → (g : Option Grant) × GrantStands h past l g) where
  -- the grant of a line stays unless a transaction may end
  stays-granted : (l : ℕ) (y : Transaction) → (line ≡ Some l → may_end h e ≡ false) → granted h past l ≡ Some y → granted h (e ∷ past) l ≡ Some y
  stays-granted l y lasts is = elim (line-or-not line l) [
    | inr off ↦ let g = grants l in same-granted h past e l g.0 g.1 ((still l off).grant g.0 g.1) ∙ is
    | inl here ↦ elim (granted_after h past e a l y is) [
      | inl s ↦ s.is
      | inr z ↦ let none = none-ends h past e (lasts here) in let bad : None ≡ Some z.0 = sym none ∙ z.1 in cc
    ]
  ]

  module _ (p : ℕ) (x : Transaction) (o : IsOf h past p x) (own : moves_own e p ≡ false) (lasts : line ≡ Some x.addr → may_end h e ≡ false) where
    out : outstanding h past x.port x.chan x.id ≡ Some x
    out = out-own h past a.0 p x o

    own-port : moves_own e x.port ≡ false
    own-port = subst (λ q. moves_own e q ≡ false) (sym (of-at h past p x o).port) own

    still-off : IsKeptOff h past x → IsKeptOff h (e ∷ past) x
    still-off w =
        let y = some-of (granted h past x.addr) w.taken in
        record {
          waits = same-grant-of h past e a x out own-port ∙ w.waits;
          taken = ap (λ v. is_some v) (stays-granted x.addr y.0 lasts y.1);
        }

    own-grant : has_grant past x.port x.chan x.id ≡ false → has_grant (e ∷ past) x.port x.chan x.id ≡ false
    own-grant none = same-grant-of h past e a x out own-port ∙ none

    -- behind an older one it stays so, or is kept off
    still-later : GoesLater h past x → HasToWait h (e ∷ past) x
    still-later w = elim (later-stays h past e x a w.later) [
      | inl later ↦ inr (inr (inl (record { waits = own-grant w.waits; later = later })))
      | inr taken ↦ inr (inl (record { waits = own-grant w.waits; taken = taken }))
    ]

    unfailed-stays : granted h past x.addr ≡ Some x → granted h (e ∷ past) x.addr ≡ Some x → has_failed (e ∷ past) x ≡ has_failed past x
    unfailed-stays was is = elim (granted_before h past e x.addr x is) [
      | inl s ↦ failed_stays h past e a x.addr x s
      | inr gives ↦ let none = gives_none h past e a x.addr x was in let bad : true ≡ false = sym gives ∙ none in cc
    ]

    still-unbegun : (IsHeldUp h past x.addr → granted h (e ∷ past) x.addr ≡ Some x → IsHeldUp h (e ∷ past) x.addr) → IsUnbegun h past x → IsUnbegun h (e ∷ past) x
    still-unbegun held u = record {
      had = same-grant-of h past e a x out own-port ∙ u.had;
      held = held u.held (stays-granted x.addr x lasts (granted-line h past a.0 p x o u.had));
      first = λ read. same-count-of h past e a x out own-port read ∙ u.first read;
      unfailed = unfailed-stays (granted-line h past a.0 p x o u.had) (stays-granted x.addr x lasts (granted-line h past a.0 p x o u.had)) ∙ u.unfailed;
    }

    -- what has to wait has to after an event that doesn't move it, where its line stays held up
    pub still-waits : (IsHeldUp h past x.addr → granted h (e ∷ past) x.addr ≡ Some x → IsHeldUp h (e ∷ past) x.addr) → HasToWait h past x → HasToWait h (e ∷ past) x
    still-waits held w = elim w [
      | inl f ↦ inl f
      | inr later ↦ elim later [
        | inl off ↦ inr (inl (still-off off))
        | inr last ↦ elim last [
          | inl behind ↦ still-later behind
          | inr u ↦ inr (inr (inr (still-unbegun held u)))
        ]
      ]
    ]

-- at the start there is nothing to wait for
pub none_at_rest : (h : Header) (s : PortSet) → AreResting h [] s
none_at_rest h s p t x o = cc

pub no_users : (h : Header) (s : LineUsers) → AreUsers h [] s
no_users h s p x o = cc

pub ruleset at_start = (none_at_rest, no_users)
