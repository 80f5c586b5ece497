use Rattle.std.proofs.Common.{sym, ◌∙◌}
use Rattle.ace_master_state.proofs.ArrivingHeard.{arriving-heard, quiet-brings}
use Rattle.ace_master_state.proofs.Brought.{no-store-brought, no-word-brought, read-there, store-brought, word-brought}
use Rattle.ace_master_state.proofs.cached.Cached.bring.Goals as goal

pub returns-then-fetches-clause-arriving : goal.returns-then-fetches-clause-arriving
returns-then-fetches-clause-arriving c = λ plan past p port ace legal own low s.
    word-brought plan.header past p c.args.self.now.arriving s c.args.event.now c.in-R.port c.in-R.id c.in-R.resp c.in-R.last c.in-R.word c.in-R.is own legal.accepted c.in-Some.x
    (sym c.in-Some.is ∙ c.named.ensures plan.header past p port) (sym c.fetches.ensures ∙ c.if-fetches.true) c.put_word.ensures.sixteen c.put_word.new.self c.put_word.ensures.word

pub returns-else-fetches-clause-arriving : goal.returns-else-fetches-clause-arriving
returns-else-fetches-clause-arriving c = λ plan past p port ace legal own low s.
    no-word-brought plan.header past p c.args.self.now.arriving s c.args.event.now c.in-R.port c.in-R.id c.in-R.resp c.in-R.last c.in-R.word c.in-R.is own legal.accepted c.in-Some.x
    (sym c.in-Some.is ∙ c.named.ensures plan.header past p port) (sym c.fetches.ensures ∙ c.if-fetches.false)

pub returns-in_default-named-clause-arriving : goal.returns-in_default-named-clause-arriving
returns-in_default-named-clause-arriving c = λ plan past p port ace legal own low s.
    absurd (read-there plan.header past p c.args.self.now.arriving s c.args.event.now c.in-R.port c.in-R.id c.in-R.resp c.in-R.last c.in-R.word c.in-R.is own legal.accepted
    (sym c.in_default-named.is ∙ c.named.ensures plan.header past p port))

pub returns-in-Some-own-clause-arriving : goal.returns-in-Some-own-clause-arriving
returns-in-Some-own-clause-arriving c = λ plan past p port ace legal own low s.
    store-brought plan.header past p c.args.self.now.arriving s c.args.event.now c.in-D.port c.in-D.addr c.in-D.strobe c.in-D.x c.in-D.line c.in-D.is own legal.accepted c.every_event_fits.ensures c.in-Some-own.x
    (sym c.in-Some-own.is ∙ c.own.ensures plan.header past p port) c.put.ensures.sixteen c.put.new.self c.put.ensures.line

pub returns-in_default-own-clause-arriving : goal.returns-in_default-own-clause-arriving
returns-in_default-own-clause-arriving c = λ plan past p port ace legal own low s.
    no-store-brought plan.header past p c.args.self.now.arriving s c.args.event.now c.in-D.port c.in-D.addr c.in-D.strobe c.in-D.x c.in-D.line c.in-D.is own legal.accepted c.every_event_fits.ensures
    (sym c.in_default-own.is ∙ c.own.ensures plan.header past p port)

pub returns-in_default-clause-arriving : goal.returns-in_default-clause-arriving
returns-in_default-clause-arriving c = λ plan past p port ace legal own low s.
    arriving-heard plan.header past c.args.event.now p c.args.self.now.arriving c.args.self.now.arriving s (λ o. low)
    (quiet-brings plan.header past c.args.event.now legal.accepted p c.args.self.now.arriving s (λ q i resp last word is. c.in_default.not-R q i resp last word is) (λ q addr strobe x line is. c.in_default.not-D q addr strobe x line is))
