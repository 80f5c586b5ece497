use Rattle.std.proofs.Common.{◌∙◌, ◌≡◌, ◌&&◌, ◌==◌, not, true, Some, None, refl, sym, ap}
use Rattle.ace_lineck.proofs.Terms.{option_copied, full_line, is_unique, record_of, state_at}
use Rattle.std.proofs.lemmas.Bool.{and_parts}
use Rattle.ace_lineck.specs.Holders.{awaits_store}
use Rattle.ace_lineck.proofs.Asked.{asked, asked-kept}
use Rattle.ace_lineck.proofs.StoreLaws.{alone-may, own-may, store-law}
use Rattle.ace_lineck.proofs.lines.LineCheck.rule_of_d.Goals as goal

pub returns-in-None-clause-least : goal.returns-in-None-clause-least
returns-in-None-clause-least c = λ r addr line s at first own.
    let a = c.args in
    let x = c.record.result.now in
    c.unless.ensures
    ∙ ap (asked 32)
    (c.is_unique.ensures ∙ ap is_unique c.state.ensures ∙ alone-may (is_unique (state_at x.states a.port)) a.strobe a.x
    ∙ store-law a.self.now r a.port addr a.strobe a.x line x None s (sym (ap option_copied c.in-None.is) ∙ own) (c.record.ensures (Some addr) at))

pub returns-in-Some-clause-least : goal.returns-in-Some-clause-least
returns-in-Some-clause-least c = λ r addr line s at first own.
    let a = c.args in
    let x = record_of a.self.now addr in
    let y = c.in-Some.begun.now in
    c.unless-in-Some.ensures
    ∙ ap (asked 32)
    (c.is_own_store.ensures ∙ own-may (is_unique (state_at x.states a.port)) a.strobe a.x y
    ∙ store-law a.self.now r a.port addr a.strobe a.x line x (Some y) s (sym (ap option_copied c.in-Some.is) ∙ own) refl)

pub returns-in-Some-clause-own : goal.returns-in-Some-clause-own
returns-in-Some-clause-own c = λ kept.
    let y = c.in-Some.begun.now in
    let a = c.args in
    let all : ((awaits_store y && not y.stored) && not a.x && (a.strobe == full_line)) ≡ true = sym c.is_own_store.ensures ∙ asked-kept 32 c.is_own_store.result (sym c.unless-in-Some.ensures ∙ kept) in
    let part = (and_parts ((awaits_store y && not y.stored) && not a.x) (a.strobe == full_line) all).0 in
    let unstored = (and_parts (awaits_store y && not y.stored) (not a.x) part).0 in
    rw c.in-Some.is (sym (and_parts (awaits_store y) (not y.stored) unstored).0)
