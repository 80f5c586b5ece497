use Rattle.std.proofs.Common.{le_trans}
use Rattle.ace_runs.proofs.Few.Transactions.{grants-few, memory-writes-few, responses-few}
use Rattle.ace_runs.proofs.Few.Transfers.{transfers-few, last-transfers-few}
use Rattle.ace_runs.proofs.Few.Queues.{read-acknowledges-few, write-acknowledges-few}
use Rattle.ace_runs.proofs.Few.Beats.{write-beats-few}
use Rattle.ace_runs.proofs.laws.few_events_for_each_transaction.Goals as goal

pub returns-clause-grants : goal.returns-clause-grants
returns-clause-grants c = grants-few

pub returns-clause-memory_writes : goal.returns-clause-memory_writes
returns-clause-memory_writes c = memory-writes-few

pub returns-clause-transfers : goal.returns-clause-transfers
returns-clause-transfers c = transfers-few

pub returns-clause-read_acknowledges : goal.returns-clause-read_acknowledges
returns-clause-read_acknowledges c h past a = le_trans (read-acknowledges-few h past a) (last-transfers-few h past a)

pub returns-clause-write_beats : goal.returns-clause-write_beats
returns-clause-write_beats c = write-beats-few

pub returns-clause-responses : goal.returns-clause-responses
returns-clause-responses c = responses-few

pub returns-clause-write_acknowledges : goal.returns-clause-write_acknowledges
returns-clause-write_acknowledges c h past a = le_trans (write-acknowledges-few h past a) (responses-few h past a)
