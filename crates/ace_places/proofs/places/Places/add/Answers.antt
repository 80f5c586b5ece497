use Rattle.std.proofs.Common.{rules, ◌≡◌, ◌+◌, ◌<◌, ◌∷◌, ◌++◌, [], ℕ, false, true, not, is_some, nat_eq, length, length-append, List, sym, ap, subst, ◌∙◌, arith}
use Rattle.std.specs.List.{IsDistinct}
use Rattle.ace_places.specs.Placed.{Placed, place_in}
use Rattle.ace_places.specs.Kept.{placed_of}
use Rattle.ace_places.specs.declared.places.Places.TheInside.{Inside}
use Rattle.ace_places.specs.declared.walk.End.{End}
use Rattle.ace_places.specs.Walks.{IsTree, first_digits, first_slot, link_at, steps, walk}
use Rattle.ace_places.specs.declared.walk.End.TheVariants.{IsAt, IsFree}
use Rattle.ace_places.proofs.Adding.{slot-within, tree-added}
use Rattle.ace_places.proofs.Search.{lines-distinct, place-found, place-missing, read-walk}
use Rattle.ace_places.proofs.places.Places.add.Goals as goal

-- what a walk of the lines that are kept says of those that contracts see
module _ (p : Inside) (v : Placed) (view : placed_of p ≡ v) (t : IsTree p.lines.items p.links.items) where
  seen : p.lines.items ≡ v.lines
  seen = ap (λ (q : Placed). q.lines) view

  distinct : IsDistinct nat_eq v.lines
  distinct = subst (IsDistinct nat_eq) seen (lines-distinct p.lines.items p.links.items t)

  same-distinct : (ls : List ℕ) → ls ≡ p.lines.items → IsDistinct nat_eq ls
  same-distinct ls same = subst (IsDistinct nat_eq) (sym same) (lines-distinct p.lines.items p.links.items t)

  module _ (ls ks : List ℕ) (line : ℕ) (e : End) (one : ls ≡ p.lines.items) (two : ks ≡ p.links.items)
      (walked : e ≡ walk ls (link_at ks) line steps (first_slot line) (first_digits line)) where
    ended : (f : End) → e ≡ f → walk p.lines.items (link_at p.links.items) line steps (first_slot line) (first_digits line) ≡ f
    ended f is = read-walk p.lines.items p.links.items ls ks line e f one two walked is

    there : (i : ℕ) → e ≡ IsAt i → is_some (place_in v.lines line) ≡ true
    there i is = ap is_some (ap (λ l. place_in l line) (sym seen) ∙ place-found p.lines.items p.links.items t line i (ended (IsAt i) is))

    absent : (s : ℕ) → e ≡ IsFree s → is_some (place_in v.lines line) ≡ false
    absent s is = ap is_some (ap (λ l. place_in l line) (sym seen) ∙ place-missing p.lines.items p.links.items t line s (ended (IsFree s) is))

pub returns-in_default-clause-new : goal.returns-in_default-clause-new
returns-in_default-clause-new c =
    sym (ap not (there c.self.inside c.args.self.now c.self.view_is c.self.invariant.tree _ _ c.args.line c.walk.result c.deref.ensures.value c.deref-2.ensures.value c.walk.ensures c.in_default.field-0 c.in_default.is))

pub returns-in_default-clause-distinct : goal.returns-in_default-clause-distinct
returns-in_default-clause-distinct c = distinct c.self.inside c.args.self.now c.self.view_is c.self.invariant.tree

pub returns-then-place-clause-absent : goal.returns-then-place-clause-absent
returns-then-place-clause-absent c =
    absent c.self.inside c.args.self.now c.self.view_is c.self.invariant.tree _ _ c.args.line c.walk.result c.deref.ensures.value c.deref-2.ensures.value c.walk.ensures c.in-IsFree.slot c.in-IsFree.is

pub returns-then-place-clause-distinct : goal.returns-then-place-clause-distinct
returns-then-place-clause-distinct c = distinct c.self.inside c.args.self.now c.self.view_is c.self.invariant.tree

pub returns-in_err-reserve-clause-absent : goal.returns-in_err-reserve-clause-absent
returns-in_err-reserve-clause-absent c =
    let none = absent c.self.inside c.args.self.now c.self.view_is c.self.invariant.tree _ _ c.args.line c.walk.result c.deref.ensures.value c.deref-2.ensures.value c.walk.ensures c.in-IsFree.slot c.in-IsFree.is in
    search (rules, none)

pub returns-in_err-reserve-clause-distinct : goal.returns-in_err-reserve-clause-distinct
returns-in_err-reserve-clause-distinct c = same-distinct c.self.inside c.args.self.now c.self.view_is c.self.invariant.tree _ c.reserve.ensures.items

pub returns-in_err-open_slots-clause-absent : goal.returns-in_err-open_slots-clause-absent
returns-in_err-open_slots-clause-absent c =
    let none = absent c.self.inside c.args.self.now c.self.view_is c.self.invariant.tree _ _ c.args.line c.walk.result c.deref.ensures.value c.deref-2.ensures.value c.walk.ensures c.in-IsFree.slot c.in-IsFree.is in
    search (rules, none)

pub returns-in_err-open_slots-clause-distinct : goal.returns-in_err-open_slots-clause-distinct
returns-in_err-open_slots-clause-distinct c = same-distinct c.self.inside c.args.self.now c.self.view_is c.self.invariant.tree _ c.reserve.ensures.items

pub link-requires-clause-within : goal.link-requires-clause-within
link-requires-clause-within c =
    let p = c.self.inside in
    let walked = ended p c.args.self.now c.self.view_is c.self.invariant.tree _ _ c.args.line c.walk.result c.deref.ensures.value c.deref-2.ensures.value c.walk.ensures (IsFree c.in-IsFree.slot) c.in-IsFree.is in
    slot-within p.lines.items p.links.items c.open_slots.new.links.items c.args.line c.in-IsFree.slot c.self.invariant.tree c.ranges.line.fits walked c.open_slots.ensures.kept c.in_ok-open_slots.ensures.first

pub invariant_of-self-2 : goal.invariant_of-self-2
invariant_of-self-2 c =
    let p = c.self.inside in
    let t = c.self.invariant.tree in
    let walked = ended p c.args.self.now c.self.view_is t _ _ c.args.line c.walk.result c.deref.ensures.value c.deref-2.ensures.value c.walk.ensures (IsFree c.in-IsFree.slot) c.in-IsFree.is in
    let new : c.push_reserved.new.self.items ≡ p.lines.items ++ c.args.line ∷ [] = c.push_reserved.ensures.items ∙ ap (λ l. l ++ c.args.line ∷ []) c.in_ok-reserve.ensures.items in
    let count : length c.push_reserved.new.self.items ≡ length p.lines.items + 1 = ap length new ∙ length-append p.lines.items (c.args.line ∷ []) in
    let place : c.len-place.result ≡ length p.lines.items = c.len-place.ensures ∙ p.lines.ok.0 in
    let low = c.if-place.false in
    let few : length p.lines.items < 4294967295 = omega (arith, place, low) in
    let tree = tree-added p.lines.items p.links.items c.open_slots.new.links.items c.args.line c.in-IsFree.slot t c.ranges.line.fits walked c.open_slots.ensures.kept c.in_ok-open_slots.ensures.first
    c.link.new.links.items few c.open_slots.ensures.links (c.link.ensures.leads ∙ place) c.link.ensures.others c.link.ensures.count in
    let was = c.self.invariant in
    let room = c.saturating_sub-self-inside.ensures in
    let lines-kept = c.reserve.ensures.capacity in
    let lines-room = c.in_ok-reserve.ensures.ok in
    let lines-len = c.reserve.ensures.len in
    let lines-same = c.push_reserved.ensures.capacity in
    let own = p.lines.ok.0 in
    let links-kept = c.open_slots.ensures.capacity in
    let links-same = c.link.ensures.capacity in
    let were = was.lines in
    let all = was.few in
    record {
      tree = subst (λ l. IsTree l c.link.new.links.items) (sym new) tree;
      lines = omega (arith, count, room, lines-kept, lines-room, lines-len, lines-same, own, were);
      links = λ some. let long = was.links (omega (arith, some, room)) in omega (arith, some, count, room, links-kept, links-same, long);
      few = omega (arith, count, room, all, few);
    }

pub returns-clause-new : goal.returns-clause-new
returns-clause-new c =
    sym (ap not (absent c.self.inside c.args.self.now c.self.view_is c.self.invariant.tree _ _ c.args.line c.walk.result c.deref.ensures.value c.deref-2.ensures.value c.walk.ensures c.in-IsFree.slot c.in-IsFree.is))

pub returns-clause-distinct : goal.returns-clause-distinct
returns-clause-distinct c =
    let kept = invariant_of-self-2 c in
    lines-distinct c.push_reserved.new.self.items c.link.new.links.items kept.tree
