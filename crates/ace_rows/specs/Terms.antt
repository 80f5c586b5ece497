-- Traces in which the terms of the rules are looked at.
use Rattle.std.specs.Prelude.{false, List, [], ◌∷◌, ◌++◌}
use Rattle.ace_codes.specs.declared.state.LineState.TheVariants.{I}
use Rattle.ace_event.specs.declared.event.Channel.TheVariants.{Read, Write}
use Rattle.ace_event.specs.declared.event.Event.{Event}
use Rattle.ace_event.specs.declared.event.Event.TheVariants.{B, Cr, M}
use Rattle.ace_model.specs.declared.transactions.Transaction.{Transaction}
use Rattle.ace_rows.specs.Shorthands.{line_a, read_once, read_unique, make_unique, write_back, repeated_line, one_transfer, four_writes, four_data, issue_write, ask, snoop, store, get}
use Rattle.ace_rows.specs.WorkedReads.{cleans_for_a_read}

-- port 0 gets the line and stores to it
abbrev pub stores : List Event
stores = get 0 ++ store 0 0x11 ∷ []

-- and then writes it back: AW, four W, M and B
abbrev pub writes_back : List Event
writes_back =
    stores ++ issue_write 0 write_back ∷ four_writes 0 0x11 ++ M 0 Write 0 (repeated_line 0x11)
    ∷ B 0 0 0 ∷ []

-- after the store port 1 asks for the line, and port 0 answers the snoop with its dirty data
abbrev pub passes_dirt : List Event
passes_dirt = stores ++ ask 1 read_unique ++ snoop 0 read_unique ∷ Cr 0 0x15 I ∷ []

-- and sends them
abbrev pub sends_dirt : List Event
sends_dirt = passes_dirt ++ four_data 0 0x11

-- the read of port 1, which is issued by the ninth event
abbrev pub second_read : Transaction
second_read =
    record {
      place = 8;
      port = 1;
      chan = Read;
      id = 0;
      addr = line_a;
      snoop = read_unique;
      dom = 1;
      bar = 0;
      lock = false;
    }

-- a read of port 0 whose passed data are written to memory
abbrev pub writes_dirt : List Event
writes_dirt = cleans_for_a_read 3 ++ M 0 Read 0 (repeated_line 0x11) ∷ []

-- the read once of port 1, which is issued by the eighth event
abbrev pub read_once_of_the_line : Transaction
read_once_of_the_line =
    record {
      place = 7;
      port = 1;
      chan = Read;
      id = 0;
      addr = line_a;
      snoop = read_once;
      dom = 1;
      bar = 0;
      lock = false;
    }

-- port 0 makes the line unique, and has had its one R
abbrev pub makes : List Event
makes = ask 0 make_unique ++ one_transfer 0 0 ∷ []

-- and stores the whole line, which belongs to that read until its RK
abbrev pub makes_and_stores_a_line : List Event
makes_and_stores_a_line = makes ++ store 0 0x33 ∷ []
