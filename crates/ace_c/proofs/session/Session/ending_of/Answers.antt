use Rattle.std.proofs.Common.{◌<◌, ◌-◌, ◌^◌, ◌∷◌, ℕ, Option, IfNone, IfSome, length, sym, subst, arith}
use Rattle.ace_model.specs.declared.breaks.Break.{Break}
use Rattle.ace_check.specs.Run.{StandsWithin}
use Rattle.ace_c.specs.declared.answer.Ending.{Ending}
use Rattle.ace_c.specs.Names.{lines_used, named, with_address}
use Rattle.ace_c.specs.Range.{InRange}
use Rattle.ace_c.specs.Sessions.{Hears, EndsAt}
use Rattle.ace_c.proofs.Ends.{fed_fine, fed_ends}
use Rattle.ace_c.proofs.session.Session.ending_of.Goals as goal

pub returns-in-Ok-clause-fine : goal.returns-in-Ok-clause-fine
returns-in-Ok-clause-fine c = λ most h past s.
    let old = c.args.self.now in
    let e = with_address c.args.event c.args.addr in
    let range : InRange old.version e = c.is_in_range.ensures.0 c.if-not-is_in_range.false in
    let count = c.count.ensures most h (named past) _ s.stands in
    let few : length (named past) < 2 ^ 64 - 2 = omega (arith, count, c.if-count-ge-MOST_EVENTS.false) in
    let n = c.in-Ok.ensures.named old.version (lines_used past) s.names range in
    subst (λ (o : Option Ending). IfNone o (InRange h.version e × Hears (record { checker = c.feed.new.self; names = c.named.new.self; version = old.version; ended = old.ended }) most h (e ∷ past))) (sym c.ending_as.ensures)
    (fed_fine most h past e c.in-Ok.named old c.feed.new.self c.named.new.self c.feed.result n.0 s range n.1 (c.feed.ensures.stands most h (named past) s.stands few))

pub returns-in-Ok-clause-ends : goal.returns-in-Ok-clause-ends
returns-in-Ok-clause-ends c = λ most h past s.
    let old = c.args.self.now in
    let e = with_address c.args.event c.args.addr in
    let range : InRange old.version e = c.is_in_range.ensures.0 c.if-not-is_in_range.false in
    let count = c.count.ensures most h (named past) _ s.stands in
    let few : length (named past) < 2 ^ 64 - 2 = omega (arith, count, c.if-count-ge-MOST_EVENTS.false) in
    let n = c.in-Ok.ensures.named old.version (lines_used past) s.names range in
    let f = c.feed.ensures in
    subst (λ (o : Option Ending). IfSome o (λ ending. EndsAt most h past e ending × ((b : Option Break) × StandsWithin most c.feed.new.self h (named past) b))) (sym c.ending_as.ensures)
    (fed_ends most h past e c.in-Ok.named c.feed.new.self c.feed.result n.0 (subst (λ (v : ℕ). InRange v e) s.version range)
    (f.answer most h (named past) s.stands) (f.stands most h (named past) s.stands few) (f.stays most h (named past) s.stands) (f.too_many most h (named past) s.stands) (f.no_memory most h (named past) s.stands))
