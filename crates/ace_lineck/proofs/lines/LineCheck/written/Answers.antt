use Rattle.std.proofs.Common.{◌≡◌, Some, sym, ap, ◌∙◌}
use Rattle.ace_lineck.proofs.Terms.{memory_of, passed_data, LineRecord, passed_kept}
use Rattle.ace_lineck.proofs.LineLooks.{whole-kind, written-look}
use Rattle.ace_lineck.proofs.WriteLaws.{passed-data-law}
use Rattle.ace_lineck.proofs.lines.LineCheck.written.Goals as goal

pub returns-in-None : goal.returns-in-None
returns-in-None c r s q whole = absurd (whole-kind r.past c.args.x.now c.args.burst.now whole (sym c.write_kind.ensures ∙ c.in-None.is))

pub returns-in-Some : goal.returns-in-Some
returns-in-Some c r s q whole =
    let x = c.args.x.now in
    let kept = c.record-kept.ensures (Some x.addr) q in
    let stands = s.lines x.addr in
    let passed : passed_kept c.record-kept.result.now.grant ≡ passed_data r.header r.past x.addr =
    ap (λ (v : LineRecord). passed_kept v.grant) kept ∙ passed-data-law r.header r.past s.accepted x.addr _ stands.grant in
    let memory : c.record-kept.result.now.memory ≡ memory_of r.past x.addr = ap (λ (v : LineRecord). v.memory) kept ∙ stands.memory.memory in
    ap Some c.written_kept.ensures
    ∙ written-look r.header r.past x c.args.burst.now (passed_kept c.record-kept.result.now.grant) c.record-kept.result.now.memory c.in-Some.kind whole passed memory (sym c.write_kind.ensures ∙ c.in-Some.is)
