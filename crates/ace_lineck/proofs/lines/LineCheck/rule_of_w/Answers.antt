use Rattle.std.proofs.Common.{◌∙◌, ◌==◌, ◌≡◌, Some, refl, sym, ap}
use Rattle.ace_lineck.proofs.Terms.{word_of, implies, holder_at, record_of}
use Rattle.ace_model.proofs.Lines.Known.{data_write-issued}
use Rattle.ace_lineck.proofs.Asked.{asked}
use Rattle.ace_lineck.proofs.WritesAndLoads.{word-law}
use Rattle.ace_lineck.proofs.lines.LineCheck.rule_of_w.Goals as goal

pub returns-then-not-updates_memory : goal.returns-then-not-updates_memory
returns-then-not-updates_memory c = λ r p strb last s first is beat.
    let a = c.args in
    let z = a.write.now in
    let x = record_of a.self.now z.addr in
    ap (asked 11)
    (ap (λ b. implies b (a.word == word_of (holder_at x.holders.items p).copy a.beat)) (sym (sym c.updates_memory.ensures ∙ c.if-not-updates_memory.true))
    ∙ word-law a.self.now r p strb last a.word z a.beat x s is beat refl)

pub returns : goal.returns
returns c = λ r p strb last s first is beat.
    let a = c.args in
    let z = a.write.now in
    let x = c.record-kept.result.now in
    let port : z.port ≡ p = (data_write-issued r.past p _ z is).1 in
    c.unless.ensures
    ∙ ap (asked 11)
    (c.is_word_copied.ensures ∙ ap (λ q. a.word == word_of (holder_at x.holders.items q).copy a.beat) port
    ∙ ap (λ b. implies b (a.word == word_of (holder_at x.holders.items p).copy a.beat)) (sym (sym c.updates_memory.ensures ∙ c.if-not-updates_memory.false))
    ∙ word-law a.self.now r p strb last a.word z a.beat x s is beat (c.record-kept.ensures (Some z.addr) c.place.ensures))
