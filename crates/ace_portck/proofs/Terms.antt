-- The terms that the proofs speak in: each name of the definitions, passed on, so that a proof takes them from one place.
pub use Rattle.std.specs.Cmp.{nat_eq_equiv}
pub use Rattle.std.specs.HashMap.{HashMap, IsUnique, get, hash_map_len, keys, spare}
pub use Rattle.std.specs.List.{All, AllByRecursion, AllPairs, filter, find, list_any}
pub use Rattle.std.specs.Option.{option_and_then, option_copied, option_or}
pub use Rattle.std.specs.Prelude.{vec_capacity, vec_len}
pub use Rattle.std.specs.Result.{OnErr, OnOk}
pub use Rattle.std.specs.VecDeque.{deque_capacity, deque_len}
unfoldable pub use Rattle.ace_codes.specs.Reads.{ar_kind_of}
pub use Rattle.ace_codes.specs.Responses.{low_bits, transfers_data}
unfoldable pub use Rattle.ace_codes.specs.Writes.{aw_kind_of}
pub use Rattle.ace_codes.specs.declared.kind.ArKind.{ArKind}
pub use Rattle.ace_codes.specs.declared.kind.AwKind.{AwKind}
pub use Rattle.ace_codes.specs.declared.state.LineState.{LineState}
pub use Rattle.ace_event.specs.declared.event.Channel.{Channel}
pub use Rattle.ace_event.specs.declared.event.Channel.TheVariants.{Read, Write}
pub use Rattle.ace_event.specs.declared.event.Event.{Event}
pub use Rattle.ace_event.specs.declared.event.Event.TheVariants.{Ac, Ar, Aw, B, Cd, Cr, D, G, M, Op, R, Rk, W, Wk}
pub use Rattle.ace_event.specs.declared.header.Header.{Header}
pub use Rattle.ace_event.specs.declared.line.Line.{Line}
pub use Rattle.ace_tables.specs.Answers.{same_test}
pub use Rattle.ace_model.specs.Accepted.{IsAccepted, least_of}
pub use Rattle.ace_model.specs.AddressRules.{gives_up, has_write, k1, may_have}
pub use Rattle.ace_model.specs.Barriers.{is_barrier_half}
pub use Rattle.ace_model.specs.CacheRules.{wants_store}
pub use Rattle.ace_model.specs.Copies.{copy_of}
pub use Rattle.ace_model.specs.Grants.{given, has_grant}
pub use Rattle.ace_model.specs.Kinds.{beats_of, has_write_data, is_dvm_complete, is_dvm_message, is_line_read, is_line_write, is_make_unique, is_read_barrier, is_unique_write, is_write_barrier, reads_a_line}
pub use Rattle.ace_model.specs.Lines.{add_line, is_known, known_lines}
pub use Rattle.ace_model.specs.Messages.{is_message_part}
pub use Rattle.ace_model.specs.OrderRules.{retired}
pub use Rattle.ace_model.specs.Progress.{evicts, has_had, has_update, is_completed, is_grant, is_ordered, is_update_on, transactions, updates_memory}
pub use Rattle.ace_model.specs.ReadRules.{is_due, is_next_transfer, k22}
pub use Rattle.ace_model.specs.Replies.{next_sent, next_sent_beat, sent, sent_at}
pub use Rattle.ace_model.specs.Shares.{k17_burst, k18_transfer, lesser, port_rules}
pub use Rattle.ace_model.specs.Snoops.{answered, answers, data_beats, snoops_of}
pub use Rattle.ace_model.specs.States.{awaits_store, awaits_wack, has_store, is_in_make_unique, is_store_of, owes_wack}
pub use Rattle.ace_model.specs.Trace.{Trace, at_point, is_some_and, more, option_filter, port_of}
pub use Rattle.ace_model.specs.Transactions.{acknowledged, acknowledgements, completed, completes, ended, first_resp, has_name, has_outstanding_on, is_ace, is_complete, is_completion, is_exclusive_store, is_line, is_make_unique_on, is_named, is_on, is_outstanding, is_outstanding_on, is_read, is_transaction, issued, next_complete, outstanding, read_kind, same_channel, some_issued, transaction_of, transaction_under, transfers, write_kind}
pub use Rattle.ace_model.specs.WriteRules.{k27}
pub use Rattle.ace_model.specs.Writes.{Beat, beat_at, beats, burst_of, data_writes, has_memory_write, is_burst_whole, is_data_write_of, is_memory_write, next_write, next_write_beat}
pub use Rattle.ace_model.specs.declared.snoops.Snoop.{Snoop}
pub use Rattle.ace_model.specs.declared.transactions.Transaction.{Transaction}
pub use Rattle.ace_portck.specs.Acknowledges.{acknowledge}
pub use Rattle.ace_portck.specs.BarrierAddresses.{IssuesHalf}
pub use Rattle.ace_portck.specs.Heard.{IsHeard}
pub use Rattle.ace_portck.specs.LineMaps.{HasRoomForLines}
pub use Rattle.ace_portck.specs.LineWrites.{line_write, line_write_kind}
pub use Rattle.ace_portck.specs.Pending.{AreApart, HasByteId, PendingStands, advanced, change_first, completed_by, ending_of, is_pending, is_store, moved_channel, moves_channel, moves_pending, named_by, on_channel, pending_of, renewed, waiting_after, without_id}
pub use Rattle.ace_portck.specs.Port.{HasRoom, PortStands}
pub use Rattle.ace_portck.specs.Reads.{unfailing_read}
pub use Rattle.ace_portck.specs.Retired.{RetiredStand}
pub use Rattle.ace_portck.specs.Snoops.{HasRoomForOne, IsRoomy, QueuesStand, SnoopsStand}
pub use Rattle.ace_portck.specs.Stands.{AreRoomy, IsFresh, PortsStand, record_at}
pub use Rattle.ace_portck.specs.Targets.{begun, data_in, data_snoop_at, data_snoops, first_incomplete, first_issued, first_unordered, is_ordered_by_barriers, last_issued, own_of, progress_of, sending, transaction_in}
pub use Rattle.ace_portck.specs.Transactions.{is_incomplete, is_ordered_by, is_unordered}
pub use Rattle.ace_portck.specs.Unfinished.{most_unfinished, unfinished}
pub use Rattle.ace_portck.specs.WriteData.{BurstsStand, IsPart, WritesStand, burst_as, data_of_burst, filled, filled_at, four, open_burst}
pub use Rattle.ace_portck.specs.declared.pending.Pending.{Pending}
pub use Rattle.ace_portck.specs.declared.port.PortRecord.{PortRecord}
pub use Rattle.ace_portck.specs.declared.retired.RetiredCount.{RetiredCount}
pub use Rattle.ace_portck.specs.declared.snoops.SnoopQueues.{SnoopQueues}
pub use Rattle.ace_portck.specs.declared.target.Progress.{Progress}
pub use Rattle.ace_portck.specs.declared.target.WriteData.{WriteData}
pub use Rattle.ace_portck.specs.declared.write_data.Burst.{Burst}
pub use Rattle.ace_portck.specs.declared.write_data.Part.{Part}
pub use Rattle.ace_portck.specs.declared.write_data.WriteBursts.{WriteBursts}
