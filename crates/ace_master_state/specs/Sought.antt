-- What is looked for among the transactions that a port has issued for its next operation.
use Rattle.std.specs.Prelude.{Bool, not, ◌&&◌}
use Rattle.ace_event.specs.declared.header.Header.{Header}
use Rattle.ace_model.specs.declared.transactions.Transaction.{Transaction}
use Rattle.ace_model.specs.Progress.{updates_memory}
use Rattle.ace_model.specs.Trace.{Trace}
use Rattle.ace_model.specs.Transactions.{is_on, is_outstanding, is_read}
use Rattle.ace_runs.specs.Acts.{is_act_transaction}
use Rattle.ace_runs.specs.Segments.{is_read_of, is_write_of}
use Rattle.ace_master_state.specs.declared.sought.Sought.{Sought}
use Rattle.ace_master_state.specs.declared.sought.Sought.TheVariants.{OpenAct, OpenUpdate, EndedRead, Read, Write}

abbrev pub is_sought : Header → Trace → Sought → Transaction → Bool
is_sought h past OpenAct x = is_act_transaction x && is_outstanding h past x
is_sought h past OpenUpdate x = updates_memory x && is_outstanding h past x
is_sought h past (EndedRead k a) x = is_read_of k a x && not (is_outstanding h past x)
is_sought h past (Read a) x = is_read x.chan && is_on x a
is_sought h past (Write k a) x = is_write_of k a x
