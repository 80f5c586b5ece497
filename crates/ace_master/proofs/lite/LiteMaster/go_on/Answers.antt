use Rattle.std.proofs.Common.{◌≡◌, false, ◌||◌, Option, Some, None, is_some, refl, sym, subst, ◌∙◌}
use Rattle.ace_model.specs.declared.transactions.Transaction.{Transaction}
use Rattle.ace_master.specs.Lite.{LiteTells, port_of}
use Rattle.ace_master.proofs.LiteNext.{none-left}
use Rattle.ace_master.proofs.LiteRetires.{may-retire, not-done}
use Rattle.ace_master.proofs.lite.LiteMaster.go_on.Goals as goal

none-of : (r w : Option Transaction) → (is_some r || is_some w) ≡ false → (r ≡ None) × (w ≡ None)
none-of None None f = (refl, refl)
none-of (Some x) w f = cc
none-of None (Some y) f = cc

pub returns-in_default-clause-none : goal.returns-in_default-clause-none
returns-in_default-clause-none c = λ still plan past s sent.
    let m = c.args.self.now in
    let p = port_of m in
    none-left plan past p s.port.legal m.operations.items m.read m.write (subst (LiteTells plan past p m.operations.items m.read m.write) sent s.tells)
    (sym (c.next.ensures plan past s) ∙ c.in_default.is)

pub returns-then-not-has_issued-clause-turn : goal.returns-then-not-has_issued-clause-turn
returns-then-not-has_issued-clause-turn c = λ moved plan past s sent.
    let m = c.args.self.now in
    let none = none-of m.read m.write (sym c.has_issued.ensures ∙ c.if-not-has_issued.true) in
    c.ask.ensures.turn moved plan past (record { stands = s; next = sym (c.next.ensures plan past s) ∙ c.in-Some.is; sent = sent; none_read = none.0; none_written = none.1 })

pub returns-then-not-has_issued-clause-none : goal.returns-then-not-has_issued-clause-none
returns-then-not-has_issued-clause-none c = λ still plan past s sent.
    let m = c.args.self.now in
    let none = none-of m.read m.write (sym c.has_issued.ensures ∙ c.if-not-has_issued.true) in
    c.ask.ensures.none still plan past (record { stands = s; next = sym (c.next.ensures plan past s) ∙ c.in-Some.is; sent = sent; none_read = none.0; none_written = none.1 })

pub returns-then-not-is_done-clause-none : goal.returns-then-not-is_done-clause-none
returns-then-not-is_done-clause-none c = λ still plan past s sent.
    let m = c.args.self.now in
    let p = port_of m in
    not-done plan past p s.port.legal m.operations.items m.read m.write (subst (LiteTells plan past p m.operations.items m.read m.write) sent s.tells) c.in-Some.op
    (sym (c.next.ensures plan past s) ∙ c.in-Some.is) (sym c.has_issued.ensures ∙ c.if-not-has_issued.false) (sym (c.is_done.ensures plan past s) ∙ c.if-not-is_done.true)

pub returns-clause-turn : goal.returns-clause-turn
returns-clause-turn c = λ moved plan past s sent.
    let m = c.args.self.now in
    let p = port_of m in
    let op = c.in-Some.op in
    let next = sym (c.next.ensures plan past s) ∙ c.in-Some.is in
    let t = subst (LiteTells plan past p m.operations.items m.read m.write) sent s.tells in
    let may = may-retire plan past p s.port.legal m.operations.items m.read m.write t op next (sym c.has_issued.ensures ∙ c.if-not-has_issued.false) in
    c.retire.ensures.turn plan past op s sent next (may ∙ sym (c.is_done.ensures plan past s) ∙ c.if-not-is_done.false)
