use Rattle.std.proofs.Common.{◌≡◌, ℕ, suc, ◌<◌, List, [], ◌∷◌, length, Some, slice_get, true, false, refl, sym, ap, subst, ◌∙◌, inl, inr, arith}
use Rattle.std.proofs.lemmas.Bool.{cases_eq}
use Rattle.std.proofs.lemmas.Option.{slice_get-get_or}
use Rattle.ace_event.specs.declared.event.Event.{Event}
use Rattle.ace_event.specs.declared.event.Event.TheVariants.{Ar}
use Rattle.ace_model.proofs.General.Options.{Some-injective}
use Rattle.ace_runs.specs.Bursts.{onto}
use Rattle.ace_order.specs.Order.{OrderStands}
use Rattle.ace_engine_tests.proofs.order.puts.Goals as goal

same-events : (xs ys : List Event) → length xs ≡ length ys → ((k : ℕ) → k < length xs → slice_get xs k ≡ slice_get ys k) → xs ≡ ys
same-events [] [] long all = refl
same-events [] (y ∷ ys) long all = absurd (omega (arith, long))
same-events (x ∷ xs) [] long all = absurd (omega (arith, long))
same-events (x ∷ xs) (y ∷ ys) long all =
    let first = Some-injective x y (all 0 (omega arith)) in
    let rest = same-events xs ys (omega (arith, long)) (λ k low. all (suc k) (omega (arith, low))) in
    rw (first, rest) refl

pub returns : goal.returns
returns c = λ plan past s.
    let moved : c.turn.result ≡ true = c.if-not-turn.false in
    let same : c.turn.new.out ≡ c.args.events.now = same-events c.turn.new.out c.args.events.now (sym c.len.ensures.value ∙ sym c.from.ensures ∙ c.if-from-events.false) (λ k low. c.loop-i.invariant k (let a = c.len.ensures.value in let b = c.from.ensures in let d = c.if-from-events.false in let e = c.loop-i-test.false in omega (arith, a, b, d, e, low))) in
    subst (λ es. OrderStands c.turn.new.self plan (onto es past)) same (c.turn.ensures.stands moved plan past s)

pub loop-i-preserved : goal.loop-i-preserved
loop-i-preserved c = λ k low. elim (cases_eq k c.loop-i.i) [
  | inr earlier ↦ c.loop-i.invariant k (omega (arith, low, earlier))
  | inl here ↦
      let same = c.is_same.ensures c.if-not-is_same.false in
      ap (slice_get c.turn.new.out) here ∙ c.get-event.ensures ∙ ap Some same
      ∙ sym (slice_get-get_or c.args.events.now c.loop-i.i (Ar 0 0 0 0 0 0 false) c.loop-i-test.true) ∙ ap (slice_get c.args.events.now) (sym here)
]
