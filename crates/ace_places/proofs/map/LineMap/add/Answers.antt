use Rattle.std.proofs.Common.{rules, ◌≡◌, ◌++◌, ◌∷◌, [], length, true, false, is_some, if◌then◌else◌, refl, sym, ap, ◌∙◌}
use Rattle.ace_places.specs.Placed.{Placed}
use Rattle.ace_places.proofs.Maps.{seen-unique}
use Rattle.ace_places.proofs.Growing.{entries-with, get-here, get-there, is-absent, is-there, one-more, still-even}
use Rattle.ace_places.proofs.map.LineMap.add.Goals as goal

pub returns-then-is_some-clause-entries : goal.returns-then-is_some-clause-entries
returns-then-is_some-clause-entries g c =
    let now = c.args.self.now in
    let there = is-there c.self.inside.places c.self.inside.values.items now c.self.view_is c.self.invariant.0 c.args.line c.place_of.result c.is_some.result c.place_of.ensures c.is_some.ensures ∙ c.if-is_some.true in
    sym (ap (λ b. if b then now.entries else now.entries ++ (c.args.line, c.args.value) ∷ []) there)

pub returns-clause-entries : goal.returns-clause-entries
returns-clause-entries g c =
    let p = c.self.inside.places in
    let vs = c.self.inside.values.items in
    let now = c.args.self.now in
    let none = is-absent p vs now c.self.view_is c.self.invariant.0 c.args.line c.place_of.result c.is_some.result c.place_of.ensures c.is_some.ensures c.if-is_some.false in
    let values = c.push_reserved.ensures.items ∙ ap (λ l. l ++ c.args.value ∷ []) c.reserve.ensures.items in
    entries-with p vs now c.self.view_is c.self.invariant.0 c.args.line c.args.value c.add.new.self c.push_reserved.new.self.items c.in_ok-_new._new c.in_ok-_new.ensures.new c.in_ok-_new.ensures.lines values none

pub returns-then-is_some-clause-here : goal.returns-then-is_some-clause-here
returns-then-is_some-clause-here g c none =
    let now = c.args.self.now in
    let there = is-there c.self.inside.places c.self.inside.values.items now c.self.view_is c.self.invariant.0 c.args.line c.place_of.result c.is_some.result c.place_of.ensures c.is_some.ensures ∙ c.if-is_some.true in
    let bad : true ≡ false = sym there ∙ ap is_some none in cc

pub returns-then-is_some-clause-len : goal.returns-then-is_some-clause-len
returns-then-is_some-clause-len g c none =
    let now = c.args.self.now in
    let there = is-there c.self.inside.places c.self.inside.values.items now c.self.view_is c.self.invariant.0 c.args.line c.place_of.result c.is_some.result c.place_of.ensures c.is_some.ensures ∙ c.if-is_some.true in
    let bad : true ≡ false = sym there ∙ ap is_some none in cc

pub returns-then-is_some-clause-unique : goal.returns-then-is_some-clause-unique
returns-then-is_some-clause-unique g c = seen-unique c.self.inside.places c.self.inside.values.items c.args.self.now c.self.view_is c.self.invariant.0 c.self.invariant.2

pub returns-in_err-reserve-clause-absent : goal.returns-in_err-reserve-clause-absent
returns-in_err-reserve-clause-absent g c =
    let p = c.self.inside.places in
    let vs = c.self.inside.values.items in
    let now = c.args.self.now in
    let none = is-absent p vs now c.self.view_is c.self.invariant.0 c.args.line c.place_of.result c.is_some.result c.place_of.ensures c.is_some.ensures c.if-is_some.false in
    search (rules, none)

pub returns-in_err-reserve-clause-unique : goal.returns-in_err-reserve-clause-unique
returns-in_err-reserve-clause-unique g c = seen-unique c.self.inside.places c.reserve.new.self.items _ refl (ap length c.reserve.ensures.items ∙ c.self.invariant.0) c.self.invariant.2

pub returns-in_err-_new-clause-absent : goal.returns-in_err-_new-clause-absent
returns-in_err-_new-clause-absent g c =
    let p = c.self.inside.places in
    let vs = c.self.inside.values.items in
    let now = c.args.self.now in
    let none = is-absent p vs now c.self.view_is c.self.invariant.0 c.args.line c.place_of.result c.is_some.result c.place_of.ensures c.is_some.ensures c.if-is_some.false in
    search (rules, none)

pub returns-in_err-_new-clause-unique : goal.returns-in_err-_new-clause-unique
returns-in_err-_new-clause-unique g c =
    let same = ap (λ (p : Placed). length p.lines) c.in_err-_new.ensures.unchanged in
    seen-unique c.add.new.self c.reserve.new.self.items _ refl (ap length c.reserve.ensures.items ∙ c.self.invariant.0 ∙ sym same) c.add.ensures.distinct

pub returns-clause-here : goal.returns-clause-here
returns-clause-here g c none =
    let p = c.self.inside.places in
    let vs = c.self.inside.values.items in
    let now = c.args.self.now in
    let values = c.push_reserved.ensures.items ∙ ap (λ l. l ++ c.args.value ∷ []) c.reserve.ensures.items in
    get-here p vs now c.self.view_is c.self.invariant.0 c.args.line c.args.value c.add.new.self c.push_reserved.new.self.items c.in_ok-_new._new c.in_ok-_new.ensures.new c.in_ok-_new.ensures.lines values none

pub returns-clause-others : goal.returns-clause-others
returns-clause-others g c q apart =
    let p = c.self.inside.places in
    let vs = c.self.inside.values.items in
    let now = c.args.self.now in
    let none = is-absent p vs now c.self.view_is c.self.invariant.0 c.args.line c.place_of.result c.is_some.result c.place_of.ensures c.is_some.ensures c.if-is_some.false in
    let values = c.push_reserved.ensures.items ∙ ap (λ l. l ++ c.args.value ∷ []) c.reserve.ensures.items in
    get-there p vs now c.self.view_is c.self.invariant.0 c.args.line c.args.value c.add.new.self c.push_reserved.new.self.items c.in_ok-_new._new c.in_ok-_new.ensures.new c.in_ok-_new.ensures.lines values none q apart

pub returns-clause-len : goal.returns-clause-len
returns-clause-len g c none =
    let p = c.self.inside.places in
    let vs = c.self.inside.values.items in
    let now = c.args.self.now in
    let values = c.push_reserved.ensures.items ∙ ap (λ l. l ++ c.args.value ∷ []) c.reserve.ensures.items in
    one-more p vs now c.self.view_is c.self.invariant.0 c.args.line c.args.value c.add.new.self c.push_reserved.new.self.items c.in_ok-_new._new c.in_ok-_new.ensures.new c.in_ok-_new.ensures.lines values none

pub returns-clause-unique : goal.returns-clause-unique
returns-clause-unique g c =
    let p = c.self.inside.places in
    let vs = c.self.inside.values.items in
    let now = c.args.self.now in
    let none = is-absent p vs now c.self.view_is c.self.invariant.0 c.args.line c.place_of.result c.is_some.result c.place_of.ensures c.is_some.ensures c.if-is_some.false in
    let values = c.push_reserved.ensures.items ∙ ap (λ l. l ++ c.args.value ∷ []) c.reserve.ensures.items in
    seen-unique c.add.new.self c.push_reserved.new.self.items _ refl (still-even p vs now c.self.view_is c.self.invariant.0 c.args.line c.args.value c.add.new.self c.push_reserved.new.self.items c.in_ok-_new._new c.in_ok-_new.ensures.new c.in_ok-_new.ensures.lines values none) c.add.ensures.distinct
