use Rattle.std.proofs.Common.{◌≡◌, true, ◌&&◌, ◌==◌, sym, ap, ◌∙◌}
use Rattle.ace_codes.specs.Responses.{low_bits}
use Rattle.ace_model.specs.Transactions.{is_exclusive_store}
use Rattle.ace_master.proofs.AcePorts.Due.{due-failed}
use Rattle.ace_master.proofs.acknowledging.has_failed.Goals as goal

pub returns-then-is_exclusive_store : goal.returns-then-is_exclusive_store
returns-then-is_exclusive_store c = λ h past p a ace s.
    let d = c.args.due.now in
    let store : is_exclusive_store d.transaction ≡ true = sym c.is_exclusive_store.ensures ∙ c.if-is_exclusive_store.true in
    ap (λ n. n == 0) c.low_bits.ensures ∙ sym (ap (λ b. b && (low_bits d.response == 0)) store) ∙ due-failed h past p d a ace s
