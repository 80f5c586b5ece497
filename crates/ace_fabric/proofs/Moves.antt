-- The engines after a step of one of them that the others have heard.
use Rattle.std.proofs.Common.{◌≡◌, ◌≢◌, ◌==◌, ◌<◌, ◌≤◌, ℕ, List, length, slice_get, Some, inl, inr, refl, sym, ap, subst, ◌∙◌, arith}
use Rattle.std.proofs.Math.ListN.{get_or, set}
use Rattle.std.proofs.lemmas.Bool.{cases_eq, eqb-true}
use Rattle.std.proofs.lemmas.List.{length-set}
use Rattle.std.proofs.lemmas.Option.{slice_get-get_or, slice_get_within}
use Rattle.ace_event.specs.declared.event.Event.{Event}
use Rattle.ace_model.specs.Plans.{Plan}
use Rattle.ace_model.specs.Trace.{Trace}
use Rattle.ace_model.proofs.General.Options.{Some-injective}
use Rattle.ace_runs.specs.Bursts.{onto}
use Rattle.ace_engine.specs.Engines.{EngineKind, Home, IsLegal, Master, Order, Update}
use Rattle.ace_engine.specs.declared.engine.Engine.{Ghosts}
use Rattle.ace_fabric.specs.Parts.{AreEngines, AreMasters, HasHeard, HaveHeard, NoneGiven, TakesPart}
use Rattle.ace_fabric.proofs.Places.{set-off, set-own}

-- ---- one engine --------------------------------------------------------------------------------------

module _ {E : Type 0} (g : Ghosts E) (kind : EngineKind) (plan : Plan) (past : Trace) (burst : List Event) (old new : E) where
  -- it took the step
  pub moved-part : TakesPart g kind plan past old → g.stands new plan (onto burst past) → ((p : ℕ) → g.serves new p ≡ g.serves old p) → TakesPart g kind plan (onto burst past) new
  moved-part t stands serves = record { kind_is = t.kind_is; serves = λ p low. serves p ∙ t.serves p low; stands = stands }

  -- it heard of it
  pub heard-part : TakesPart g kind plan past old → IsLegal plan (onto burst past) → ((q : ℕ) → NoneGiven kind q past burst) → HasHeard g burst old new → TakesPart g kind plan (onto burst past) new
  heard-part t legal none heard = record {
    kind_is = t.kind_is;
    serves = λ p low. heard.serves p ∙ t.serves p low;
    stands = heard.stands plan past t.stands legal (λ p own. subst (λ (k : EngineKind). NoneGiven k p past burst) (sym t.kind_is) (none p));
  }

-- ---- the masters -------------------------------------------------------------------------------------

module _ {M : Type 0} (g : Ghosts M) (plan : Plan) (past : Trace) (burst : List Event) (but : ℕ) (olds mids news : List M) where
  -- one of the masters that heard
  heard-one : AreMasters g plan past olds → IsLegal plan (onto burst past) → ((q : ℕ) → q ≢ but → NoneGiven Master q past burst)
      → ((k : ℕ) → k ≢ but → slice_get mids k ≡ slice_get olds k) → HaveHeard g burst but (length mids) mids news
      → (k : ℕ) (m : M) → k ≢ but → slice_get news k ≡ Some m → ((p : ℕ) → g.serves m p ≡ (p == k)) × g.stands m plan (onto burst past)
  heard-one a legal none others heard k m off at =
      let high = slice_get_within news k m at in
      let len = heard.len in
      let low : k < length mids = omega (arith, high, len) in
      let x : M = get_or mids k m in
      let mid : slice_get mids k ≡ Some x = slice_get-get_or mids k m low in
      let old : slice_get olds k ≡ Some x = sym (others k off) ∙ mid in
      let has = heard.each k x m mid at low off in (
        (λ p. has.serves p ∙ a.serve k x old p),
        has.stands plan past (a.stand k x old) legal (λ p own.
            let here : p ≡ k = eqb-true p k (sym (a.serve k x old p) ∙ own) in
            subst (λ (q : EngineKind). NoneGiven q p past burst) (sym a.kind_is) (none p (λ e. off (sym here ∙ e)))),
      )

  pub heard-masters : AreMasters g plan past olds → IsLegal plan (onto burst past) → ((q : ℕ) → q ≢ but → NoneGiven Master q past burst)
      → ((k : ℕ) → k ≢ but → slice_get mids k ≡ slice_get olds k) → length mids ≡ length olds → HaveHeard g burst but (length mids) mids news
      → ((m : M) → slice_get news but ≡ Some m → ((p : ℕ) → g.serves m p ≡ (p == but)) × g.stands m plan (onto burst past))
      → AreMasters g plan (onto burst past) news
  heard-masters a legal none others len heard own = record {
    kind_is = a.kind_is;
    count = heard.len ∙ len ∙ a.count;
    serve = λ k m at. (each k m at).0;
    stand = λ k m at. (each k m at).1;
  }
    where
      each : (k : ℕ) (m : M) → slice_get news k ≡ Some m → ((p : ℕ) → g.serves m p ≡ (p == k)) × g.stands m plan (onto burst past)
      each k m at = elim (cases_eq k but) [
        | inl here ↦
            let o = own m (ap (slice_get news) (sym here) ∙ at) in
            ((λ p. o.0 p ∙ ap (λ (q : ℕ). p == q) (sym here)), o.1)
        | inr off ↦ heard-one a legal none others heard k m off at
      ]

-- all masters heard of a step of the interconnect
pub all-masters : {M : Type 0} → (g : Ghosts M) (plan : Plan) (past : Trace) (burst : List Event) (none : ℕ) (olds news : List M) → length olds ≤ none → AreMasters g plan past olds
    → IsLegal plan (onto burst past) → ((q : ℕ) → NoneGiven Master q past burst) → HaveHeard g burst none (length olds) olds news → AreMasters g plan (onto burst past) news
all-masters {M} g plan past burst none olds news high a legal others heard =
    heard-masters g plan past burst none olds olds news a legal (λ q off. others q) (λ k off. refl) refl heard
    (λ m at. let low = slice_get_within news none m at in let len = heard.len in absurd (omega (arith, low, len, high)))

-- one of them took the step
pub other-masters : {M : Type 0} → (g : Ghosts M) (plan : Plan) (past : Trace) (burst : List Event) (own : ℕ) (olds news : List M) (x y : M) → AreMasters g plan past olds
    → slice_get olds own ≡ Some x → ((p : ℕ) → g.serves y p ≡ g.serves x p) → g.stands y plan (onto burst past) → IsLegal plan (onto burst past)
    → ((q : ℕ) → q ≢ own → NoneGiven Master q past burst) → HaveHeard g burst own (length (set olds own y)) (set olds own y) news → AreMasters g plan (onto burst past) news
other-masters {M} g plan past burst own olds news x y a at serves stands legal none heard =
    heard-masters g plan past burst own olds (set olds own y) news a legal none (λ k off. set-off olds k own y off) (length-set olds own y) heard
    (λ m there.
    let same : y ≡ m = Some-injective y m (sym (heard.same ∙ set-own olds own x y at) ∙ there) in
    ((λ p. ap (λ (z : M). g.serves z p) (sym same) ∙ serves p ∙ a.serve own x at p), subst (λ (z : M). g.stands z plan (onto burst past)) same stands))

-- the master of a port
pub own-at : {M : Type 0} → (g : Ghosts M) (plan : Plan) (past : Trace) (masters : List M) (port own : ℕ) (d : M) → AreMasters g plan past masters → port < plan.header.ports → own ≡ port
    → slice_get masters own ≡ Some (get_or masters own d)
own-at g plan past masters port own d a low is = let count = a.count in slice_get-get_or masters own d (omega (arith, count, low, is))

-- the engines that did nothing
pub still : {H U O M : Type 0} → (h : Ghosts H) (u : Ghosts U) (o : Ghosts O) (m : Ghosts M) (plan : Plan) (past : Trace) (home home' : H) (update update' : U) (order order' : O) (masters masters' : List M)
    → home' ≡ home → update' ≡ update → order' ≡ order → masters' ≡ masters
    → AreEngines h u o m plan past home update order masters → AreEngines h u o m plan past home' update' order' masters'
still {H} {U} {O} {M} h u o m plan past home home' update update' order order' masters masters' same_home same_update same_order same_masters r =
    record {
      legal = r.legal;
      steps = r.steps;
      home_is = subst (λ (x : H). TakesPart h Home plan past x) (sym same_home) r.home_is;
      update_is = subst (λ (x : U). TakesPart u Update plan past x) (sym same_update) r.update_is;
      order_is = subst (λ (x : O). TakesPart o Order plan past x) (sym same_order) r.order_is;
      masters_are = subst (λ (xs : List M). AreMasters m plan past xs) (sym same_masters) r.masters_are;
    }
