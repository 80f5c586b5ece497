-- The terms that the proofs speak in: each name of the definitions, passed on, so that a proof takes them from one place.
pub use Rattle.std.specs.Int.{bit_at}
pub use Rattle.std.specs.List.{All, AllPairs, list_all}
pub use Rattle.std.specs.Option.{option_copied, option_map, option_to_list}
pub use Rattle.std.specs.Vec.{with_item}
pub use Rattle.std.specs.VecDeque.{deque_capacity}
pub use Rattle.indexmap.specs.IndexMap.{get, index_map_len}
pub use Rattle.ace_codes.specs.Places.{entry, is_in}
pub use Rattle.ace_codes.specs.Reads.{read_place, reads}
unfoldable pub use Rattle.ace_codes.specs.Reads.{ar_kind_of}
pub use Rattle.ace_codes.specs.Responses.{low_bits}
unfoldable pub use Rattle.ace_codes.specs.Snoops.{ac_kind_of}
pub use Rattle.ace_codes.specs.declared.kind.ArKind.{ArKind}
pub use Rattle.ace_codes.specs.declared.kind.AwKind.{AwKind}
pub use Rattle.ace_codes.specs.declared.kind.SnoopKind.{SnoopKind}
pub use Rattle.ace_codes.specs.declared.state.LineState.{LineState}
pub use Rattle.ace_event.specs.declared.event.Channel.{Channel}
pub use Rattle.ace_event.specs.declared.event.Channel.TheVariants.{Read, Write}
pub use Rattle.ace_event.specs.declared.event.Event.{Event}
pub use Rattle.ace_event.specs.declared.event.Event.TheVariants.{Ac, Ar, Aw, B, Cd, Cr, D, G, L, M, Mem, Op, R, Rk, S, W, Wk}
pub use Rattle.ace_event.specs.declared.header.Header.{Header}
pub use Rattle.ace_event.specs.declared.line.Line.{Line}
pub use Rattle.ace_tables.specs.States.{is_invalid}
pub use Rattle.ace_model.specs.Accepted.{IsAccepted, least_broken, least_of}
pub use Rattle.ace_model.specs.AddressRules.{are_complete, begins_barrier, begins_message, begins_well, is_like_half, is_part_in_order, k1, k9, may_have, may_issue_read, may_lock}
pub use Rattle.ace_model.specs.Barriers.{Pair, barriers, is_awaited, is_barrier_half, is_barrier_of, is_before, is_pair_complete, is_synchronisation, may_answer, number_of, other_channel, pair_of, paired, pairs, place_of}
pub use Rattle.ace_model.specs.CacheRules.{k33}
pub use Rattle.ace_model.specs.Exclusives.{has_failed, is_registered, passed_at_grant, store_passes, store_result}
pub use Rattle.ace_model.specs.Grants.{given, has_grant, ports_below}
pub use Rattle.ace_model.specs.Kinds.{is_clean_unique, is_complete_snoop, is_dvm_complete, is_dvm_message, is_line_read, is_line_snoop, is_message_snoop, is_read_barrier, may_be_exclusive}
pub use Rattle.ace_model.specs.Lines.{is_known}
pub use Rattle.ace_model.specs.Messages.{add_forwarded, answered_parts, answered_syncs, completes_sync, dvm_completes, first_waiting, forwarded, forwards, has_answered, has_part, has_second, is_dvm_completion, is_message_part, is_message_word, is_other_ace, is_second_part, is_sync, is_sync_completed, is_sync_operation, is_sync_word, last_sync, next_after, next_part, operation_of, operations, part_in, parts_among, parts_for, parts_in, parts_with, sync_in, sync_number, waits_after}
pub use Rattle.ace_model.specs.Monitors.{is_monitored, is_set_by}
pub use Rattle.ace_model.specs.OrderRules.{completes_next, forwards_next, has_every_completion, is_answered_by_all, is_past_barriers, k34, k36, k38, k39, may_answer_half, may_complete, owes_completion}
pub use Rattle.ace_model.specs.Progress.{IsTransaction, each_issued, has_had, is_completed, is_completion_event, is_ordered, served_by, transactions}
pub use Rattle.ace_model.specs.ReadRules.{has_low_bits, is_due}
pub use Rattle.ace_model.specs.Shares.{system_rules}
pub use Rattle.ace_model.specs.SnoopRules.{may_be_granted}
pub use Rattle.ace_model.specs.Snoops.{answered, answers, answers_line, is_snoop_on, snoop_at, snoops_a_line, snoops_of}
pub use Rattle.ace_model.specs.States.{is_in_make_unique, left_by, state_of}
pub use Rattle.ace_model.specs.Trace.{Trace, at_point, implies, is_none_or, is_some_and, more, newer, option_filter, port_of}
pub use Rattle.ace_model.specs.Transactions.{acknowledged, acknowledgements, completed, completes, ended, has_name, is_ace, is_complete, is_completion, is_exclusive_store, is_line, is_named, is_on, is_outstanding, is_read, is_some_on, is_transaction, issued, next_complete, outstanding, read_kind, same_channel, some_issued, takes_grant, transaction_of, transaction_under, write_kind}
pub use Rattle.ace_model.specs.WriteRules.{may_respond}
pub use Rattle.ace_model.specs.declared.snoops.Snoop.{Snoop}
pub use Rattle.ace_model.specs.declared.transactions.Transaction.{Transaction}
pub use Rattle.ace_portck.specs.Acknowledges.{acknowledge}
pub use Rattle.ace_portck.specs.BarrierAddresses.{IssuesHalf}
pub use Rattle.ace_portck.specs.LineWrites.{line_write, line_write_kind}
pub use Rattle.ace_portck.specs.Reads.{unfailing_read}
pub use Rattle.ace_portck.specs.SnoopAnswers.{IsAnswered}
pub use Rattle.ace_portck.specs.Target.{Target}
pub use Rattle.ace_portck.specs.Targets.{Recording, after, begun, first_incomplete, first_issued, first_unordered, is_ordered_by_barriers, line_in, line_of, line_of_snoop, progress_of, target_of}
pub use Rattle.ace_portck.specs.declared.ports.PortCheck.{PortCheck}
pub use Rattle.ace_portck.specs.declared.target.Progress.{Progress}
pub use Rattle.ace_sysck.specs.Barriers.{BarrierStands, BarriersStand, IsDone, IsOpen, IsUnderWay, TellsOpenPair, begins_after, comes_far_enough, is_awaited_by, is_past, joined, may_answer_after, open_of, pair_in, read_half, reads_of, write_half, writes_of}
pub use Rattle.ace_sysck.specs.Events.{begun_in, carried, completed_in, is_issue, is_response, own_of, responded_in}
pub use Rattle.ace_sysck.specs.Hearing.{BeginsLine, Hears, MayHear, StandsRoomy}
pub use Rattle.ace_sysck.specs.Inboxes.{AnswersFirst, ChangesOne, IsForwarded, LosesFirst, ForwardsTo, InboxStands, InboxesStand, IsEmptyInbox, MayAskInboxes, Receives, SendsAll, SendsOne, answers_message, awaits, awaits_snoop, first_is_sync, forwards_in, has_place, is_sync_part, message_of, message_with, next_in, next_message, next_message_in, own_transaction, part_of, parts_sent, sent_list, sent_to, was_forwarded}
pub use Rattle.ace_sysck.specs.Messages.{MessagesStand, PortMessagesStand, is_at, is_in_order, is_new_sync, part_completed, part_issued, silent, told_complete}
pub use Rattle.ace_sysck.specs.Monitors.{MonitorsStand, is_line_of, kept_after, left_state}
pub use Rattle.ace_sysck.specs.Registrations.{IsNewLock, RegistrationsStand, grants_locked, kept_bits, locked_in, locked_of, registered_bits, was_locked}
pub use Rattle.ace_sysck.specs.Results.{ResultsStand, slot_of}
pub use Rattle.ace_sysck.specs.Rules.{MayAskK39, completes_now}
pub use Rattle.ace_sysck.specs.Stands.{IsRoomy, Stands}
pub use Rattle.ace_sysck.specs.Steps.{IsAsked, IsStep}
pub use Rattle.ace_sysck.specs.Syncs.{PortSyncsStand, ReachesAll, SyncsStand, completes_all, next_count, one_answered, one_completed, reached_by, syncs_for, untold}
pub use Rattle.ace_sysck.specs.declared.barriers.Barrier.{Barrier}
pub use Rattle.ace_sysck.specs.declared.barriers.Barrier.TheVariants.{Idle, Open, ReadHalf, WriteHalf}
pub use Rattle.ace_sysck.specs.declared.barriers.Barriers.{Barriers}
pub use Rattle.ace_sysck.specs.declared.barriers.OpenPair.{OpenPair}
pub use Rattle.ace_sysck.specs.declared.inboxes.Inbox.{Inbox}
pub use Rattle.ace_sysck.specs.declared.inboxes.Inboxes.{Inboxes}
pub use Rattle.ace_sysck.specs.declared.inboxes.Part.{Part}
pub use Rattle.ace_sysck.specs.declared.messages.Messages.{Messages}
pub use Rattle.ace_sysck.specs.declared.messages.PortMessages.{PortMessages}
pub use Rattle.ace_sysck.specs.declared.monitors.Monitors.{Monitors}
pub use Rattle.ace_sysck.specs.declared.registrations.Registrations.{Registrations}
pub use Rattle.ace_sysck.specs.declared.results.Results.{Results}
pub use Rattle.ace_sysck.specs.declared.syncs.PortSyncs.{PortSyncs}
pub use Rattle.ace_sysck.specs.declared.syncs.Syncs.{Syncs}
pub use Rattle.ace_sysck.specs.declared.system.SysCheck.{SysCheck}
