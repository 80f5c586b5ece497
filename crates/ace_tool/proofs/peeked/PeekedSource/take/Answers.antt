use Rattle.std.proofs.Common.{rules, length, ap, ◌≡◌, ◌∙◌, sym}
use Rattle.ace_tool.specs.Peeked.{front_of}
use Rattle.ace_tool.proofs.Peeking.{from_behind, from_front}
use Rattle.ace_tool.proofs.peeked.PeekedSource.take.Goals as goal

pub returns-then-is_empty-clause-bytes : goal.returns-then-is_empty-clause-bytes
returns-then-is_empty-clause-bytes g c =
    let none : length c.rest-front.result.now ≡ 0 = search rules in
    from_behind (front_of c.args.self.now) _ _ _ _ (ap length (sym c.rest-front.ensures.value) ∙ none) c.take.ensures.bytes

pub returns-clause-bytes : goal.returns-clause-bytes
returns-clause-bytes g c =
    rw (c.copy_from_slice.ensures.after)
    (from_front c.args.self.now.front.items c.rest-front.result.now c.args.into.now c.args.self.now.given c.min-count.result _ c.rest-front.ensures.value
    (search rules) (search rules) (search rules))
