-- The terms that the proofs speak in: each name of the definitions, passed on, so that a proof takes them from one place.
pub use Rattle.std.specs.List.{find, list_all, list_any}
pub use Rattle.ace_codes.specs.Reads.{ar_kind_of}
pub use Rattle.ace_codes.specs.Responses.{has_error, is_shared, passes_dirty, transfers_data, was_unique}
pub use Rattle.ace_codes.specs.Snoops.{ac_code}
unfoldable pub use Rattle.ace_codes.specs.Snoops.{ac_kind_of}
pub use Rattle.ace_codes.specs.declared.kind.ArKind.{ArKind}
pub use Rattle.ace_codes.specs.declared.kind.AwKind.{AwKind}
pub use Rattle.ace_codes.specs.declared.kind.SnoopKind.{SnoopKind}
pub use Rattle.ace_codes.specs.declared.state.LineState.{LineState}
pub use Rattle.ace_codes.specs.declared.state.LineState.TheVariants.{I, SC, SD, UC, UD}
unfoldable pub use Rattle.ace_event.specs.Bytes.{merged, number_of_bytes}
pub use Rattle.ace_event.specs.Range.{FitsFields, IsDigit, IsLine, IsWord}
pub use Rattle.ace_event.specs.declared.event.Channel.{Channel}
pub use Rattle.ace_event.specs.declared.event.Channel.TheVariants.{Read, Write}
pub use Rattle.ace_event.specs.declared.event.Event.{Event}
pub use Rattle.ace_event.specs.declared.event.Event.TheVariants.{Ac, Ar, Aw, B, Cd, Cr, D, G, L, M, Mem, Op, R, Rk, S, W, Wk}
pub use Rattle.ace_event.specs.declared.header.Header.{Header}
pub use Rattle.ace_event.specs.declared.line.Line.{Line}
pub use Rattle.ace_tables.specs.Answers.{fits_answer, fits_transfer, fits_update, goes_with_update, is_line_row, is_plain_row, is_snoop_row, must_pass_dirty, same_test, states_after}
pub use Rattle.ace_tables.specs.EndStates.{end_states_of_read, end_states_of_write, ends_read, ends_write, is_fetch}
pub use Rattle.ace_tables.specs.SilentTransitions.{is_silent_move}
pub use Rattle.ace_tables.specs.SnoopKinds.{snoop_of_read, snoop_of_write}
pub use Rattle.ace_tables.specs.StartStates.{starts_read, starts_write}
pub use Rattle.ace_tables.specs.States.{is_among, is_dirty, is_invalid, is_unique, same_state}
pub use Rattle.ace_model.specs.Accepted.{AreInOrder, BreaksAt, FirstBreakBy, IsAccepted, IsAcceptedBy, Rule, break_or, breaks_of, first_break_after, first_break_by, is_accepted_by, least_of, rise_from, rule, rules}
pub use Rattle.ace_model.specs.AddressRules.{begins_message, begins_well, fits_line, has_free_line, has_free_name, has_known_codes, is_no_snoop, is_opened_below, is_part_in_order, is_used_alike, k1, k10, k2, k3, k4, k5, k6, k7, k8, k9, may_issue_read, may_open, starts_well}
pub use Rattle.ace_model.specs.BarrierHolds.{BarrierHolds, IsOrderedAt, IsOrderedBy}
pub use Rattle.ace_model.specs.Barriers.{Pair, barriers, is_awaited, is_barrier_half, is_barrier_of, is_before, is_pair_complete, is_synchronisation, may_answer, number_of, pair_of, paired, pairs, place_of}
pub use Rattle.ace_model.specs.CacheRules.{k29, k30, k31, k32, k33, may_store, wants_store}
pub use Rattle.ace_model.specs.Coherent.{Coherent}
pub use Rattle.ace_model.specs.Copies.{copy_of, is_line_read_transaction, memory_of, opened, same_line, word_of, words_read, written}
pub use Rattle.ace_model.specs.DirtyPlace.{AreCopiesTrue, DirtyPlace, HasDirtyHolder, IsValueSafe, may_lose_data}
pub use Rattle.ace_model.specs.DvmHolds.{DvmHolds, HasCompleted, IsCompletedAt, IsDoneWith}
pub use Rattle.ace_model.specs.ExclusiveHolds.{ExclusiveHolds, disturbs, is_exclusive_load, is_undisturbed}
pub use Rattle.ace_model.specs.Exclusives.{has_failed, passed_at_grant, store_result}
pub use Rattle.ace_model.specs.Grants.{answer_at, answer_of, answers_grant, are_passed_data_whole, given, gives_line, grant_place, granted, has_grant, has_passed_data, has_sharer, is_begun, is_granted, is_snoop_to, newest_on, owes_answer, owes_data, passer, passes, ports_below, shares, was_snooped}
pub use Rattle.ace_model.specs.Kinds.{beats_of, has_write_data, is_clean_unique, is_complete_snoop, is_dvm_message, is_evict, is_granted_write, is_line_read, is_line_snoop, is_line_write, is_lite_read, is_make_invalid, is_make_unique, is_message_snoop, is_no_snoop_read, is_no_snoop_write, is_read_not_shared_dirty, is_unique_write, is_update, is_write_line_unique, may_be_shared, reads_a_line, takes_passed_data}
pub use Rattle.ace_model.specs.Messages.{add_forwarded, answered_parts, answered_syncs, dvm_completes, first_waiting, forwarded, forwards, has_answered, has_part, has_second, is_dvm_completion, is_message_part, is_message_word, is_other_ace, is_sync, is_sync_completed, is_sync_word, last_sync, next_after, part_in, parts_among, parts_for, parts_in, parts_with, sync_in, sync_number, waits_after}
pub use Rattle.ace_model.specs.Monitors.{is_monitored, is_set_by}
pub use Rattle.ace_model.specs.OrderRules.{completes_next, has_every_completion, is_answered_by_all, is_past_barriers, k34, k35, k36, k37, k38, k39, k40, may_answer_half, may_complete, owes_completion}
pub use Rattle.ace_model.specs.Progress.{IsTransaction, each_issued, evicts, has_had, has_update, is_completed, is_completion_event, is_grant, is_ordered, is_update_on, is_write_of_memory, served_by, transactions, updates_memory}
pub use Rattle.ace_model.specs.ReadRules.{ends_well, fits_kind, has_upper_bits, has_word, held_of, is_due, is_end, is_next_transfer, k18, k19, k20, k21, k22, k23, may_transfer, must_be_shared, takes_passed}
pub use Rattle.ace_model.specs.ReadsFollow.{HasBeat, IsBeat, IsGrantOf, IsLoad, IsReadBy, ReadsFollow}
pub use Rattle.ace_model.specs.Replies.{copy_at_answer, first_sender, memory_at_first_beat, passed_data, reply_of, sender_at}
pub use Rattle.ace_model.specs.Shares.{fits_burst, fits_copy, fits_strobe, k11_burst, k11_data, k17_burst, k17_data, k18_line, k18_transfer, k26_memory, k26_response, lesser, line_rules, port_rules, system_rules}
pub use Rattle.ace_model.specs.Kept.{HoldersAreKept, KeepsHolders, drops_at, drops_line, is_drop_of, is_take_of, may_hold, takes_at, takes_line}
pub use Rattle.ace_model.specs.Lines.{add_line, has_failed_on, is_known, known_lines, names_new_line}
pub use Rattle.ace_model.specs.SnoopRules.{answers_beside_update, answers_by_row, fits_write, full_beat, has_snoop_code, is_next_beat, k11, k12, k13, k14, k15, k16, k17, may_be_granted, may_snoop, may_snoop_for}
pub use Rattle.ace_model.specs.Snoops.{answered, answers, answers_line, data_answers, is_snoop_on, snoop_at, snoops_a_line, snoops_of}
pub use Rattle.ace_model.specs.States.{are_snoops_done, awaits_store, has_store, is_in_make_unique, is_port_done, is_store_of, state_of}
pub use Rattle.ace_model.specs.Trace.{Trace, at_point, event_at, implies, is_none_or, is_some_and, more, newer, option_filter}
pub use Rattle.ace_model.specs.Transactions.{acknowledged, acknowledgements, completed, completes, ended, first_resp, has_name, has_outstanding_on, is_ace, is_complete, is_completion, is_exclusive_store, is_line, is_make_unique_on, is_named, is_on, is_outstanding, is_outstanding_on, is_read, is_some_on, is_transaction, issued, newest_named, next_complete, outstanding, read_kind, same_channel, snoop_kind_of, snoop_of, some_issued, takes_grant, transaction_of, transaction_under, transfers, without, write_kind, issued_where}
pub use Rattle.ace_model.specs.Unique.{OneDirty, OneDirtyNow, Unique, UniqueNow}
pub use Rattle.ace_model.specs.Values.{Store, after_store, burst_line, burst_strobe, discard_of, discards_data, full_line, store_at, store_of, stores_data, value_of}
pub use Rattle.ace_model.specs.WriteRules.{burst_into, data_of, data_of_write, ends_write_well, has_data, is_update_due, is_write_due, k24, k25, k26, k27, k28, may_respond, may_write_data, may_write_memory, may_write_passed}
pub use Rattle.ace_model.specs.Writes.{Beat, beat_at, beats, burst_of, data_writes, is_data_write_of, has_memory_write, is_burst_whole, is_memory_write, next_write, next_write_beat}
pub use Rattle.ace_model.specs.declared.breaks.Break.{Break}
pub use Rattle.ace_model.specs.declared.snoops.Answer.{Answer}
pub use Rattle.ace_model.specs.declared.snoops.Snoop.{Snoop}
pub use Rattle.ace_model.specs.declared.transactions.Transaction.{Transaction}
