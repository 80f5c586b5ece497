use Rattle.std.proofs.Common.{◌≡◌, ◌&&◌, ◌==◌, ℕ, Bool, List, length, slice_get, Some, ap, sym, ◌∙◌, arith}
use Rattle.std.proofs.lemmas.List.{length-map}
use Rattle.ace_event.specs.declared.event.Channel.TheVariants.{Read, Write}
use Rattle.ace_runs.specs.Follows.{is_port_at_end}
use Rattle.ace_portck.specs.Pending.{pending_of}
use Rattle.ace_portck.specs.Targets.{Recording, progress_of}
use Rattle.ace_fabric.specs.Left.{is_empty}
use Rattle.ace_fabric.specs.declared.left.PortLeft.{PortLeft}
use Rattle.ace_fabric.proofs.WhatIsLeft.{end-test}
use Rattle.ace_fabric.proofs.left.Left.is_port_done.Goals as goal

pub returns : goal.returns
returns c = λ plan past s.
    let h = plan.header in
    let p = c.args.port in
    let r : Recording = record { header = h; past = past } in
    let low = c.requires in
    let count = s.count in
    let kept = c.kept_at-kept.result in
    let at : slice_get c.args.self.now.counts.items p ≡ Some kept = ap (λ (xs : List PortLeft). slice_get xs p) (sym c.as_slice.ensures.value) ∙ c.kept_at-kept.ensures in
    let end = c.is_at_end-at_end.ensures ∙ end-test plan past p kept c.owes.result (s.counts p kept at) (c.owes.ensures plan past s (omega (arith, low, count))) in
    let reads = ap length (c.reads-reads.ensures r s.ports) ∙ length-map (pending_of h past p Read) (progress_of h past) in
    let writes = ap length (c.writes-writes.ensures r s.ports) ∙ length-map (pending_of h past p Write) (progress_of h past) in
    c.is_done_with.ensures
    ∙ ap (λ (b : Bool). b && ((length c.reads-reads.result.now == 0) && (length c.writes-writes.result.now == 0))) end
    ∙ ap (λ (n : ℕ). is_port_at_end plan past p && ((n == 0) && (length c.writes-writes.result.now == 0))) reads
    ∙ ap (λ (n : ℕ). is_port_at_end plan past p && (is_empty (pending_of h past p Read) && (n == 0))) writes
