use Rattle.std.proofs.Common.{◌≤◌, ◌-◌, ◌++◌, List, ℕ, length, take, arith, ap, ◌∙◌}
use Rattle.std.proofs.lemmas.Grind.{common_steps}
use Rattle.ace_bin.specs.Records.{event_bytes}
use Rattle.ace_bin.proofs.Windows.{from_first}
use Rattle.ace_bin.proofs.byte_buf.ByteBuf.push_event.Goals as goal

pub returns : goal.returns
returns c =
    let b = c.self.inside in
    let put = c.put_event-size in
    let within : b.len ≤ length b.bytes = grind (arith, common_steps) in
    let fits : put.result ≤ length put.new.into = grind (arith, common_steps) in
    from_first b.bytes put.new.into b.len put.result (4096 - b.len) within fits
    ∙ ap (λ (l : List ℕ). take b.len b.bytes ++ l) put.ensures.record
    ∙ ap (λ (l : List ℕ). l ++ event_bytes c.args.event.now) c.self.view_is
