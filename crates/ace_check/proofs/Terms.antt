-- The terms that the proofs speak in: each name of the definitions, passed on, so that a proof takes them from one place.
pub use Rattle.std.specs.List.{AllByRecursion}
pub use Rattle.std.specs.Option.{option_copied}
unfoldable pub use Rattle.ace_codes.specs.Reads.{ar_kind_of}
unfoldable pub use Rattle.ace_codes.specs.Snoops.{ac_kind_of}
unfoldable pub use Rattle.ace_codes.specs.Writes.{aw_kind_of}
pub use Rattle.ace_codes.specs.declared.kind.ArKind.{ArKind}
pub use Rattle.ace_codes.specs.declared.kind.AwKind.{AwKind}
pub use Rattle.ace_codes.specs.declared.kind.SnoopKind.{SnoopKind}
pub use Rattle.ace_codes.specs.declared.state.LineState.{LineState}
pub use Rattle.ace_event.specs.Range.{FitsFields}
pub use Rattle.ace_event.specs.declared.event.Channel.{Channel}
pub use Rattle.ace_event.specs.declared.event.Channel.TheVariants.{Read, Write}
pub use Rattle.ace_event.specs.declared.event.Event.{Event}
pub use Rattle.ace_event.specs.declared.event.Event.TheVariants.{Ac, Ar, Aw, B, Cd, Cr, D, G, L, M, Mem, Op, R, Rk, S, W, Wk}
pub use Rattle.ace_event.specs.declared.header.Header.{Header}
pub use Rattle.ace_event.specs.declared.line.Line.{Line}
pub use Rattle.ace_tables.specs.Answers.{same_test}
pub use Rattle.ace_model.specs.Accepted.{IsAccepted, least_broken, least_of, rules}
pub use Rattle.ace_model.specs.AddressRules.{is_no_snoop, k1, k10, k2, k3, k4, k5, k7, k9, may_issue_read, may_issue_write}
pub use Rattle.ace_model.specs.Barriers.{is_barrier_half}
pub use Rattle.ace_model.specs.CacheRules.{k29, k30, k31, k32, k33}
pub use Rattle.ace_model.specs.Exclusives.{has_failed}
pub use Rattle.ace_model.specs.Grants.{granted}
pub use Rattle.ace_model.specs.Kinds.{beats_of, is_line_read, is_line_snoop, is_line_write, is_no_snoop_read, is_no_snoop_write, is_write_barrier, may_be_exclusive}
pub use Rattle.ace_model.specs.Lines.{add_line, has_failed_on, is_known, known_lines, names_new_line}
pub use Rattle.ace_model.specs.Messages.{is_message_part}
pub use Rattle.ace_model.specs.OrderRules.{k34, k35, k36, k37, k38, k39}
pub use Rattle.ace_model.specs.Progress.{has_update}
pub use Rattle.ace_model.specs.ReadRules.{k19, k20, k21, k22, k23}
pub use Rattle.ace_model.specs.Replies.{next_sent}
pub use Rattle.ace_model.specs.Shares.{k11_burst, k11_data, k17_burst, k17_data, k18_line, k18_transfer, k26_memory, k26_response, lesser, line_rules, port_rules, system_rules}
pub use Rattle.ace_model.specs.SnoopRules.{k12, k13, k14}
pub use Rattle.ace_model.specs.Snoops.{answered, answers, snoop_at, snoops_a_line, snoops_of}
pub use Rattle.ace_model.specs.Trace.{Trace, implies, is_some_and, option_filter}
pub use Rattle.ace_model.specs.Transactions.{is_line, is_read, issued, outstanding, read_kind, write_kind}
pub use Rattle.ace_model.specs.WriteRules.{k27, k28}
pub use Rattle.ace_model.specs.Writes.{next_write}
pub use Rattle.ace_model.specs.declared.snoops.Snoop.{Snoop}
pub use Rattle.ace_model.specs.declared.transactions.Transaction.{Transaction}
pub use Rattle.ace_portck.specs.BarrierAddresses.{IssuesHalf}
pub use Rattle.ace_portck.specs.LineWrites.{line_write}
pub use Rattle.ace_portck.specs.SnoopAnswers.{IsAnswered}
pub use Rattle.ace_portck.specs.Stands.{HasRoom, IsRoomy, MayApply, PortsStand, Stands, record_at}
pub use Rattle.ace_portck.specs.Targets.{Recording, after, line_in, line_of, line_of_snoop, progress_of, sending, transaction_in}
pub use Rattle.ace_portck.specs.declared.port.PortRecord.{PortRecord}
pub use Rattle.ace_portck.specs.declared.ports.PortCheck.{PortCheck}
pub use Rattle.ace_portck.specs.declared.target.Progress.{Progress}
pub use Rattle.ace_lineck.specs.Stands.{place_on}
pub use Rattle.ace_lineck.specs.declared.lines.LineCheck.{LineCheck}
pub use Rattle.ace_sysck.specs.declared.system.SysCheck.{SysCheck}
pub use Rattle.ace_check.specs.Addresses.{ar_of}
pub use Rattle.ace_check.specs.Found.{IsAcknowledge, found_unless}
pub use Rattle.ace_check.specs.Heard.{ComesTo, IsHeard}
pub use Rattle.ace_check.specs.ReadData.{IsNextTransfer}
pub use Rattle.ace_check.specs.Run.{IsSound, goes_over_within}
pub use Rattle.ace_check.specs.Shares.{SharesTell}
pub use Rattle.ace_check.specs.declared.heard.Heard.{Heard}
pub use Rattle.ace_check.specs.declared.heard.Heard.TheVariants.{Broken, Fine, TooManyLines}
pub use Rattle.ace_check.specs.declared.shares.Shares.{Shares}
