use Rattle.std.proofs.Common.{◌≡◌, false, true, length, Some, is_some, refl, sym, ap, subst, ◌∙◌, arith}
use Rattle.ace_lineck.proofs.Terms.{AreRoomFor, spare, Header}
use Rattle.std.proofs.lemmas.Bool.{ne_eqb}
use Rattle.ace_portck.proofs.LineMaps.{room-for-line, room-with}
use Rattle.ace_lineck.proofs.AllLines.{made}
use Rattle.ace_lineck.proofs.Places.{get-none, has-place, is-none}
use Rattle.ace_lineck.proofs.Rooms.{none-left, respared, spent-roomy}
use Rattle.ace_lineck.proofs.lines.LineCheck.make_record.Goals as goal

pub returns-then-is_some-clause-made : goal.returns-then-is_some-clause-made
returns-then-is_some-clause-made c q = has-place c.args.self.now (Some c.args.line) (ap is_some (sym q) ∙ sym c.is_some.ensures ∙ c.if-is_some.true)

-- no record could be taken
pub returns-in_default-clause-stands : goal.returns-in_default-clause-stands
returns-in_default-clause-stands c r s q =
    let all = subst (λ (v : Header). AreRoomFor v.ports c.args.self.now.spare.items) (sym s.header) s.spare in
    respared c.args.self.now _ r refl refl refl refl (subst (λ (v : Header). AreRoomFor v.ports c.take_record.new.spare.items) s.header (c.take_record.ensures.rest all)) s

pub returns-in_default-clause-cause : goal.returns-in_default-clause-cause
returns-in_default-clause-cause c q =
    let off = is-none c.args.place (sym c.is_some.ensures ∙ c.if-is_some.false) in
    get-none c.args.self.now c.args.line (sym q ∙ off)

pub returns-in_default-clause-roomy : goal.returns-in_default-clause-roomy
returns-in_default-clause-roomy c n past room q known =
    let none : length c.args.self.now.spare.items ≡ 0 = none-left _ c.in_default.ensures.succeeds (λ ok. let bad : false ≡ true = ok in cc) in
    let records = room.records in
    spent-roomy n past c.args.self.now _ room refl room.map.unique (omega arith) (omega (arith, none, records))

pub returns-in_default-clause-refused : goal.returns-in_default-clause-refused
returns-in_default-clause-refused c = λ n past room.
    let none : length c.args.self.now.spare.items ≡ 0 = none-left _ c.in_default.ensures.succeeds (λ ok. let bad : false ≡ true = ok in cc) in
    let records = room.records in
    spent-roomy n past c.args.self.now _ room refl room.map.unique (omega arith) (omega (arith, none, records))

pub returns-in_default-clause-succeeds : goal.returns-in_default-clause-succeeds
returns-in_default-clause-succeeds c n past room q known few =
    let self = c.args.self.now in
    let off = is-none c.args.place (sym c.is_some.ensures ∙ c.if-is_some.false) in
    let none = get-none self c.args.line (sym q ∙ off) in
    let low = room-for-line n past self.lines c.args.line room.map none known few in
    let records = room.records in
    c.in_default.ensures.succeeds (omega (arith, low, records))

-- a record was put into the map
pub returns-in-Ok-add-clause-stands : goal.returns-in-Ok-add-clause-stands
returns-in-Ok-add-clause-stands c r s q =
    let off = is-none c.args.place (sym c.is_some.ensures ∙ c.if-is_some.false) in
    let none = get-none c.args.self.now c.args.line (sym q ∙ off) in
    let all = subst (λ (v : Header). AreRoomFor v.ports c.args.self.now.spare.items) (sym s.header) s.spare in
    made c.args.self.now _ r c.args.line c.in-Ok.kept
    (record { header = refl; empty = refl; here = c.in-Ok-add.ensures.here none; others = λ k n. c.in-Ok-add.ensures.others k (ne_eqb c.args.line k (λ same. n (sym same))) })
    none refl (c.in-Ok.ensures.fresh all) (c.take_record.ensures.rest all) s

pub returns-in-Ok-add-clause-roomy : goal.returns-in-Ok-add-clause-roomy
returns-in-Ok-add-clause-roomy c n past room q known =
    let self = c.args.self.now in
    let off = is-none c.args.place (sym c.is_some.ensures ∙ c.if-is_some.false) in
    let none = get-none self c.args.line (sym q ∙ off) in
    let len = c.in-Ok-add.ensures.len none in
    let records = room.records in
    let spent = c.take_record.ensures.count in
    record {
      map = room-with n past self.lines c.add.new.self c.args.line room.map known (λ k n. c.in-Ok-add.ensures.others k (ne_eqb c.args.line k (λ same. n (sym same)))) len c.add.ensures.spare c.add.ensures.unique;
      records = omega (arith, len, records, spent);
    }

-- the map has no place left
pub returns-in-Err-clause-stands : goal.returns-in-Err-clause-stands
returns-in-Err-clause-stands c r s q =
    let all = subst (λ (v : Header). AreRoomFor v.ports c.args.self.now.spare.items) (sym s.header) s.spare in
    respared c.args.self.now _ r refl refl refl c.in-Err.ensures.unchanged (subst (λ (v : Header). AreRoomFor v.ports c.take_record.new.spare.items) s.header (c.take_record.ensures.rest all)) s

pub returns-in-Err-clause-roomy : goal.returns-in-Err-clause-roomy
returns-in-Err-clause-roomy c n past room q known =
    let none : spare c.args.self.now.lines ≡ 0 = none-left _ c.in-Err.ensures.succeeds (λ ok. let bad : false ≡ true = ok in cc) in
    let places = room.map.places in
    spent-roomy n past c.args.self.now _ room c.in-Err.ensures.unchanged c.add.ensures.unique (omega (arith, none)) (omega (arith, none, places))

pub returns-in-Err-clause-refused : goal.returns-in-Err-clause-refused
returns-in-Err-clause-refused c = λ n past room.
    let none : spare c.args.self.now.lines ≡ 0 = none-left _ c.in-Err.ensures.succeeds (λ ok. let bad : false ≡ true = ok in cc) in
    let places = room.map.places in
    spent-roomy n past c.args.self.now _ room c.in-Err.ensures.unchanged c.add.ensures.unique (omega (arith, none)) (omega (arith, none, places))

pub returns-in-Err-clause-succeeds : goal.returns-in-Err-clause-succeeds
returns-in-Err-clause-succeeds c n past room q known few =
    let self = c.args.self.now in
    let off = is-none c.args.place (sym c.is_some.ensures ∙ c.if-is_some.false) in
    let none = get-none self c.args.line (sym q ∙ off) in
    let low = room-for-line n past self.lines c.args.line room.map none known few in
    let places = room.map.places in
    c.in-Err.ensures.succeeds (omega (arith, low, places))
