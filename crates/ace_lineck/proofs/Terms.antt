-- The terms that the proofs speak in: each name of the definitions, passed on, so that a proof takes them from one place.
pub use Rattle.std.specs.Bool.{OnTrue}
pub use Rattle.std.specs.Cmp.{nat_eq_equiv}
pub use Rattle.std.specs.List.{All, IsDistinct, find, list_all, list_any, position_or_len}
pub use Rattle.std.specs.Map.{keys_of, lookup, values_of}
pub use Rattle.std.specs.Option.{option_copied, option_map}
pub use Rattle.indexmap.specs.IndexMap.{IsUnique, get, index_map_len, keys, spare, values, with_value_at}
unfoldable pub use Rattle.ace_codes.specs.Reads.{ar_kind_of}
pub use Rattle.ace_codes.specs.Responses.{is_shared, passes_dirty, transfers_data}
unfoldable pub use Rattle.ace_codes.specs.Snoops.{ac_kind_of}
unfoldable pub use Rattle.ace_codes.specs.Writes.{aw_kind_of}
pub use Rattle.ace_codes.specs.declared.kind.ArKind.{ArKind}
pub use Rattle.ace_codes.specs.declared.kind.AwKind.{AwKind}
pub use Rattle.ace_codes.specs.declared.kind.SnoopKind.{SnoopKind}
pub use Rattle.ace_codes.specs.declared.state.LineState.{LineState}
pub use Rattle.ace_codes.specs.declared.state.LineState.TheVariants.{I, UC, UD}
unfoldable pub use Rattle.ace_event.specs.Bytes.{merged}
pub use Rattle.ace_event.specs.Ports.{IsHeader}
pub use Rattle.ace_event.specs.declared.event.Channel.{Channel}
pub use Rattle.ace_event.specs.declared.event.Channel.TheVariants.{Read, Write}
pub use Rattle.ace_event.specs.declared.event.Event.{Event}
pub use Rattle.ace_event.specs.declared.event.Event.TheVariants.{Ac, Ar, Aw, B, Cd, Cr, D, G, L, M, Mem, Op, R, Rk, S, W, Wk}
pub use Rattle.ace_event.specs.declared.header.Header.{Header}
pub use Rattle.ace_event.specs.declared.line.Line.{Line}
pub use Rattle.ace_tables.specs.Answers.{is_plain_row, is_snoop_row, same_test}
pub use Rattle.ace_tables.specs.EndStates.{ends_read, ends_write}
pub use Rattle.ace_tables.specs.SilentTransitions.{is_silent_move}
pub use Rattle.ace_tables.specs.StartStates.{starts_read, starts_write}
pub use Rattle.ace_tables.specs.States.{is_invalid, is_unique}
pub use Rattle.ace_model.specs.Accepted.{IsAccepted, least_broken, least_of}
pub use Rattle.ace_model.specs.AddressRules.{is_no_snoop, is_used_alike, k1, k6, k8, may_have}
pub use Rattle.ace_model.specs.Barriers.{is_barrier_half}
pub use Rattle.ace_model.specs.CacheRules.{k29, k30, k31, k32, may_store, wants_store}
pub use Rattle.ace_model.specs.Copies.{copy_of, is_line_read_transaction, memory_of, received, same_line, word_of, words_read, zero_line}
pub use Rattle.ace_model.specs.Exclusives.{has_failed, passed_at_grant}
pub use Rattle.ace_model.specs.Grants.{answer_at, answer_of, answers_grant, are_passed_data_whole, given, gives_line, granted, has_passed_data, has_sharer, is_begun, is_granted, is_short, is_snoop_to, owes_answer, owes_data, passer, passes, ports_below, shares, was_snooped}
pub use Rattle.ace_model.specs.Kinds.{has_write_data, is_clean_unique, is_line_read, is_line_snoop, is_line_write, is_make_unique, is_no_snoop_read, is_no_snoop_write, is_read_not_shared_dirty, is_update, may_be_shared, reads_a_line, takes_passed_data}
pub use Rattle.ace_model.specs.Lines.{add_line, has_failed_on, is_known, known_lines, names_new_line}
pub use Rattle.ace_model.specs.Progress.{each_issued, has_update, updates_memory}
pub use Rattle.ace_model.specs.ReadRules.{ends_well, fits_kind, has_upper_bits, has_word, held_of, is_due, is_end, k19, k20, k23, may_transfer, must_be_shared, same_upper_bits, takes_passed}
pub use Rattle.ace_model.specs.Replies.{copy_at_answer, first_sender, memory_at_first_beat, next_sent, next_sent_beat, passed_data, reply_of, sender_at, sent, sent_at}
pub use Rattle.ace_model.specs.Shares.{fits_copy, k11_data, k17_data, k18_line, k26_memory, line_rules}
pub use Rattle.ace_model.specs.SnoopRules.{answers_beside_update, answers_by_row, has_snoop_code, k12, k13, k15, k16, may_be_granted, may_snoop, may_snoop_for}
pub use Rattle.ace_model.specs.Snoops.{answered, answers_line, data_answers, data_beats, is_snoop_on, snoop_at, snoops_a_line, snoops_of}
pub use Rattle.ace_model.specs.States.{are_snoops_done, awaits_store, has_store, is_in_make_unique, is_port_done, owes_wack, state_of}
pub use Rattle.ace_model.specs.Trace.{Trace, at_point, implies, is_none_or, is_some_and, more, newer, port_of}
pub use Rattle.ace_model.specs.Transactions.{acknowledged, ended, first_resp, has_outstanding_on, is_ace, is_exclusive_store, is_line, is_make_unique_on, is_on, is_outstanding, is_read, is_some_on, is_transaction, issued, outstanding, read_kind, same_channel, snoop_of, some_issued, takes_grant, transaction_of, transfers, without, write_kind}
pub use Rattle.ace_model.specs.Values.{burst_line, burst_strobe, full_line}
pub use Rattle.ace_model.specs.WriteRules.{data_of, has_data, is_update_due, is_write_due, k24, k25, k28, may_write_data, may_write_memory, may_write_passed}
pub use Rattle.ace_model.specs.Writes.{burst_of, has_memory_write, is_burst_whole, is_memory_write, next_write, next_write_beat}
pub use Rattle.ace_model.specs.declared.snoops.Answer.{Answer}
pub use Rattle.ace_model.specs.declared.snoops.Snoop.{Snoop}
pub use Rattle.ace_model.specs.declared.transactions.Transaction.{Transaction}
pub use Rattle.ace_portck.specs.Acknowledges.{acknowledge}
pub use Rattle.ace_portck.specs.LineMaps.{HasRoomForLines}
pub use Rattle.ace_portck.specs.LineWrites.{line_write}
pub use Rattle.ace_portck.specs.SnoopAnswers.{IsAnswered}
pub use Rattle.ace_portck.specs.Target.{Target}
pub use Rattle.ace_portck.specs.Targets.{Recording, after, data_in, data_snoop_at, data_snoops, line_in, line_of, line_of_snoop, own_of, own_on, progress_of, sending, target_of, transaction_in}
pub use Rattle.ace_portck.specs.declared.target.Progress.{Progress}
pub use Rattle.ace_portck.specs.declared.target.WriteData.{WriteData}
pub use Rattle.ace_lineck.specs.Acknowledges.{IsOf, transaction_at}
pub use Rattle.ace_lineck.specs.Beats.{IsOfPlace, rule_of_beat, rule_of_dataless}
pub use Rattle.ace_lineck.specs.Grants.{GrantFits, GrantStands, IsGrantStep, IsMoved, fetched, fresh_grant, is_of, is_over, passed_by, settled_reply, stage_at, stage_by, stage_of}
pub use Rattle.ace_lineck.specs.Holders.{HasNothing, HolderStands, HoldersStand, IsHolderStep, IsHoldersStep, IsLineStep, MemoryStands, empty_holder, holder_at, sends_line, sent_on}
pub use Rattle.ace_lineck.specs.Kept.{are_done, fits_bits, fits_data, fits_reply, fits_shared, has_passed, has_passed_for, is_done_at, is_its, is_passed_whole, is_sending, is_settled, is_shared_under, is_unsnooped, may_be_snooped, may_have_beat, passed_kept, reply_kept, takes_data, written_kept}
pub use Rattle.ace_lineck.specs.MemoryRules.{may_write, may_write_burst, rule_of_write}
pub use Rattle.ace_lineck.specs.Records.{AreRoomFor, IsFresh, IsRecordStep, LineStands, has_three, name_of}
pub use Rattle.ace_lineck.specs.Snoops.{HearsSnoop}
pub use Rattle.ace_lineck.specs.Stands.{BeginsLine, HasRecord, IsAbsent, IsEmpty, IsNewLine, IsRoomy, MayApply, Stands, begins_line, place_on, record_of, record_on}
pub use Rattle.ace_lineck.specs.States.{IsInState, IsStatesStep, StatesStand, state_at}
pub use Rattle.ace_lineck.specs.Uses.{goes_with, is_unknown, newest_use, use_by, use_for, use_of}
pub use Rattle.ace_lineck.specs.declared.grant.Grant.{Grant}
pub use Rattle.ace_lineck.specs.declared.grant.Passed.{Passed}
pub use Rattle.ace_lineck.specs.declared.lines.LineCheck.{LineCheck}
pub use Rattle.ace_lineck.specs.declared.record.Holder.{Holder}
pub use Rattle.ace_lineck.specs.declared.record.LineRecord.{LineRecord}
pub use Rattle.ace_lineck.specs.declared.record.Use.{Use}
pub use Rattle.ace_lineck.specs.declared.record.Use.TheVariants.{NoSnoop, Shareable, Unknown}
pub use Rattle.ace_lineck.specs.declared.stages.Stage.{Stage}
pub use Rattle.ace_lineck.specs.declared.stages.Stage.TheVariants.{Done, Sending, Unanswered, Unsnooped}
