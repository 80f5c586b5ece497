-- A cache that has what a port has of each line holds as many lines as the port, and has room for one more where the port comes to hold it.
use Rattle.std.proofs.Common.{[], nat_lt, ◌≡◌, ℕ, true, false, ◌==◌, List, ◌∷◌, length, Option, Some, None, IsSome, inl, inr, refl, sym, ap, subst, ◌∙◌, arith}
use Rattle.std.specs.List.{All}
use Rattle.std.proofs.lemmas.List.Elements.{All-head, All-tail}
use Rattle.std.proofs.lemmas.Bool.{cases_Bool, cases_eq, eq-eqb, ne_eqb}
use Rattle.ace_event.specs.declared.event.Event.{Event}
use Rattle.ace_event.specs.declared.header.Header.{Header}
use Rattle.ace_tables.specs.States.{is_invalid}
use Rattle.ace_model.specs.Plans.{Plan}
use Rattle.ace_model.specs.States.{state_of}
use Rattle.ace_model.specs.Trace.{Trace, port_of}
use Rattle.ace_model.specs.Transactions.{has_outstanding_on}
use Rattle.ace_model.proofs.General.Options.{Some-injective}
use Rattle.ace_runs.specs.HeldLines.{held_lines}
use Rattle.ace_runs.specs.Requests.{has_room}
use Rattle.ace_engine.specs.Engines.{IsLegal}
use Rattle.ace_cache.specs.declared.way.Way.{Way}
use Rattle.ace_cache.specs.LineCache.{CachedWays, IsCache, room_in, victim_of}
use Rattle.ace_cache.proofs.Victims.{no_victim-busy, victim-idle}
use Rattle.ace_cache.specs.Ways.{AreDistinct, way_of}
use Rattle.ace_master_state.specs.Cached.{LineHeld}
use Rattle.ace_master_state.specs.Change.{HasPlace, changed}
use Rattle.ace_master_state.specs.declared.change.Change.{Change}
use Rattle.ace_master_state.specs.declared.change.Change.TheVariants.{Becomes, Begins, Ends, Nothing, Stores}
use Rattle.ace_master_state.proofs.HeldCount.{held-once, held-there, no-more-held, no-more-lines, room-after, there-held}

module _ (h : Header) (past : Trace) (p l : ℕ) where
  held-valid : (o : Option Way) → LineHeld h past p l o → IsSome o → is_invalid (state_of h past p l) ≡ false
  held-valid None s some = cc
  held-valid (Some w) s some = ap is_invalid (sym s.state) ∙ s.some w refl

  valid-held : (o : Option Way) → LineHeld h past p l o → is_invalid (state_of h past p l) ≡ false → IsSome o
  valid-held None s some = (let bad : is_invalid (state_of h past p l) ≡ true = ap is_invalid (sym s.state) in cc)
  valid-held (Some w) s some = refl

pub as-many-held : (h : Header) (past : Trace) (p : ℕ) (held : List Way) → AreDistinct held → ((l : ℕ) → LineHeld h past p l (way_of held l)) → length held ≡ length (held_lines h past p)
as-many-held h past p held distinct s =
    let more = no-more-held held (held_lines h past p) distinct (λ l some. held-there h past p l (held-valid h past p l (way_of held l) (s l) some)) in
    let less = no-more-lines (held_lines h past p) held (held-once h past p) (λ l there. valid-held h past p l (way_of held l) (s l) (there-held h past p l there)) in
    omega (arith, more, less)

-- where a transaction that ends leaves a line that the port didn't hold, there is room for it
pub place-for : (plan : Plan) (past : Trace) (e : Event) (p : ℕ) (cache : CachedWays) (change : Change) → IsLegal plan (e ∷ past) → port_of e ≡ Some p → cache.ways ≡ plan.ways
    → ((l : ℕ) → LineHeld plan.header (e ∷ past) p l (changed change l (way_of cache.held l))) → HasPlace cache change
place-for plan past e p cache Nothing legal own ways s = tt
place-for plan past e p cache (Begins addr) legal own ways s = tt
place-for plan past e p cache (Becomes addr st) legal own ways s = tt
place-for plan past e p cache (Stores addr strobe bytes st) legal own ways s = tt
place-for plan past e p cache (Ends addr st bytes) legal own ways s = λ lawful some none.
    let h = plan.header in
    let way : Way = record { addr = addr; st = st; line = bytes; busy = false } in
    let most = room-after plan past e p legal own in
    let few = no-more-held (way ∷ cache.held) (held_lines h (e ∷ past) p) (none, lawful.distinct) (λ l there.
    held-there h (e ∷ past) p l (elim (cases_eq l addr) [
      | inl same ↦
          let here : (l == addr) ≡ true = eq-eqb l addr same in
          let now = s l in
          held-valid h (e ∷ past) p l (changed (Ends addr st bytes) l (way_of cache.held l)) now (rw (here, some) refl)
      | inr apart ↦
          let off : (l == addr) ≡ false = ne_eqb l addr apart in
          let back : (addr == l) ≡ false = ne_eqb addr l (λ e. apart (sym e)) in
          let still : IsSome (way_of cache.held l) = rw back at there in
          held-valid h (e ∷ past) p l (changed (Ends addr st bytes) l (way_of cache.held l)) (s l) (rw off still)
    ])) in
    omega (arith, few, most, ways)

-- ---- a line to give up -------------------------------------------------------------------------------

-- a way that is found is busy where all are
busy-found : (held : List Way) (l : ℕ) (w : Way) → All (λ (v : Way). v.busy ≡ true) held → way_of held l ≡ Some w → w.busy ≡ true
busy-found [] l w all is = cc
busy-found (v ∷ held) l w all is =
    elim (cases_Bool (v.addr == l)) [
      | inl t ↦ (let one : Some v ≡ Some w = rw t at is in ap (λ (u : Way). u.busy) (sym (Some-injective v w one)) ∙ All-head (λ (u : Way). u.busy ≡ true) v held all)
      | inr f ↦ busy-found held l w (All-tail (λ (u : Way). u.busy ≡ true) v held all) (rw f at is)
    ]

pub idle-victim : (h : Header) (past : Trace) (p : ℕ) (cache : CachedWays) (l : ℕ) → IsCache cache → ((k : ℕ) → LineHeld h past p k (way_of cache.held k)) → victim_of cache ≡ Some l
    → (is_invalid (state_of h past p l) ≡ false) × (has_outstanding_on h past p l ≡ false)
idle-victim h past p cache l lawful s is =
    let v = victim-idle cache l lawful is in
    let line = s l in
    (held-valid h past p l (way_of cache.held l) line (subst IsSome (sym v.1) refl), sym (line.busy v.0 v.1) ∙ v.2)

pub all-busy : (h : Header) (past : Trace) (p : ℕ) (cache : CachedWays) (l : ℕ) → room_in cache ≡ false → victim_of cache ≡ None → ((k : ℕ) → LineHeld h past p k (way_of cache.held k))
    → is_invalid (state_of h past p l) ≡ false → has_outstanding_on h past p l ≡ true
all-busy h past p cache l full none s some = by (way_of cache.held l) refl (s l)
  where
    by : (o : Option Way) → way_of cache.held l ≡ o → LineHeld h past p l o → has_outstanding_on h past p l ≡ true
    by None is line = (let bad : is_invalid (state_of h past p l) ≡ true = ap is_invalid (sym line.state) in cc)
    by (Some w) is line = sym (line.busy w refl) ∙ busy-found cache.held l w (no_victim-busy cache full none) is

pub room-is : (h : Header) (ways : ℕ) (past : Trace) (p : ℕ) (cache : CachedWays) → IsCache cache → cache.ways ≡ ways → ((k : ℕ) → LineHeld h past p k (way_of cache.held k)) → room_in cache ≡ has_room ways h past p
room-is h ways past p cache lawful count s =
    ap (nat_lt (length cache.held)) count ∙ ap (λ n. nat_lt n ways) (as-many-held h past p cache.held lawful.distinct s)
