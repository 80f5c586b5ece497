-- The terms that the proofs speak in: each name of the definitions, passed on, so that a proof takes them from one place.
pub use Rattle.std.specs.Int.{bit_at}
pub use Rattle.std.specs.List.{AllByRecursion, list_any}
pub use Rattle.std.specs.VecDeque.{deque_capacity}
pub use Rattle.indexmap.specs.IndexMap.{get, index_map_len}
pub use Rattle.ace_codes.specs.Reads.{ar_kind_of}
pub use Rattle.ace_codes.specs.Writes.{aw_kind_of}
pub use Rattle.ace_codes.specs.declared.kind.ArKind.{ArKind}
pub use Rattle.ace_codes.specs.declared.kind.AwKind.{AwKind}
pub use Rattle.ace_codes.specs.declared.state.LineState.{LineState}
pub use Rattle.ace_codes.specs.declared.state.LineState.TheVariants.{I}
pub use Rattle.ace_event.specs.Ports.{IsHeader}
pub use Rattle.ace_event.specs.declared.event.Channel.{Channel}
pub use Rattle.ace_event.specs.declared.event.Channel.TheVariants.{Read, Write}
pub use Rattle.ace_event.specs.declared.event.Event.{Event}
pub use Rattle.ace_event.specs.declared.event.Event.TheVariants.{Ac, Ar, Aw, B, Cr, G, R, Rk, Wk}
pub use Rattle.ace_event.specs.declared.header.Header.{Header}
pub use Rattle.ace_tables.specs.EndStates.{ends_write, is_fetch}
pub use Rattle.ace_tables.specs.States.{is_invalid}
pub use Rattle.ace_model.specs.declared.snoops.Snoop.{Snoop}
pub use Rattle.ace_model.specs.declared.transactions.Transaction.{Transaction}
pub use Rattle.ace_model.specs.Accepted.{IsAccepted, least_broken}
pub use Rattle.ace_model.specs.AddressRules.{may_have, may_issue_read, may_issue_write}
pub use Rattle.ace_model.specs.Grants.{given, granted, newest_on}
pub use Rattle.ace_model.specs.Kinds.{is_line_read, is_line_write, is_make_unique}
pub use Rattle.ace_model.specs.Lines.{add_line, is_known, known_lines, names_new_line}
pub use Rattle.ace_model.specs.Snoops.{answered, answers, answers_line, is_snoop_on, snoop_at, snoops_a_line, snoops_of}
pub use Rattle.ace_model.specs.States.{left_by, state_of}
pub use Rattle.ace_model.specs.Trace.{AtEveryPoint, Trace, is_none_or, is_some_and, more, port_of}
pub use Rattle.ace_model.specs.Transactions.{acknowledged, acknowledgements, completed, completes, ended, has_name, is_ace, is_line, is_on, is_some_on, issued, newest_named, next_complete, outstanding, read_kind, transaction_of, without, write_kind}
pub use Rattle.ace_model.specs.WriteRules.{ends_write_well}
pub use Rattle.ace_portck.specs.LineMaps.{HasRoomForLines}
pub use Rattle.ace_filter.specs.Change.{IsChange, drops, is_dropped, is_taken, takes}
pub use Rattle.ace_filter.specs.Filter.{AreWatched, FilterStands, IsWatched, MayHear, room_of}
pub use Rattle.ace_model.specs.Kept.{HoldersAreKept, KeepsHolders, drops_at, drops_line, is_drop_of, is_take_of, kept_ports, may_hold, takes_at, takes_line}
pub use Rattle.ace_filter.specs.Port.{HasRoom, IsHeard, PortStands, begun_line, line_under}
pub use Rattle.ace_filter.specs.Queue.{QueueStands, turn_at, turns_from}
pub use Rattle.ace_filter.specs.Sets.{LinesStand, SetsStand, set_of}
pub use Rattle.ace_filter.specs.Waiting.{completed_line, completed_lines, dropped_line, snooped_line, snooped_lines, taken_line}
pub use Rattle.ace_filter.specs.declared.filter.Filter.{Filter}
pub use Rattle.ace_filter.specs.declared.port.Change.{Change}
pub use Rattle.ace_filter.specs.declared.port.Change.TheVariants.{Drops, Takes}
pub use Rattle.ace_filter.specs.declared.port.PortWatch.{PortWatch}
pub use Rattle.ace_filter.specs.declared.queue.LineQueue.{LineQueue}
pub use Rattle.ace_filter.specs.declared.queue.LineTurn.{LineTurn}
pub use Rattle.ace_filter.specs.declared.sets.LineSets.{LineSets}
