-- Shorthands for the traces of this crate, which have the oldest event first. Most speak of the one
-- line at 0x40 and of transactions under identifier 0.
use Rattle.std.specs.Prelude.{ℕ, ◌*◌, true, false, List, [], ◌∷◌, ◌++◌}
use Rattle.ace_codes.specs.declared.state.LineState.TheVariants.{UC, UD, SC}
use Rattle.ace_event.specs.declared.header.Header.{Header}
use Rattle.ace_event.specs.declared.line.Line.{Line}
use Rattle.ace_event.specs.declared.event.Channel.TheVariants.{Read}
use Rattle.ace_event.specs.declared.event.Event.{Event}
use Rattle.ace_event.specs.declared.event.Event.TheVariants.{Ar, R, Rk, Aw, W, Ac, Cd, G, D}
use Rattle.ace_model.specs.Values.{full_line}

-- the ports of a trace, port 0 the last bit
abbrev pub one_ace : Header
one_ace = record { version = 1; ports = 1; ace = 0b1 }

abbrev pub two_ace : Header
two_ace = record { version = 1; ports = 2; ace = 0b11 }

abbrev pub three_ace : Header
three_ace = record { version = 1; ports = 3; ace = 0b111 }

abbrev pub one_lite : Header
one_lite = record { version = 1; ports = 1; ace = 0b0 }

abbrev pub two_lite : Header
two_lite = record { version = 1; ports = 2; ace = 0b00 }

abbrev pub one_ace_one_lite : Header
one_ace_one_lite = record { version = 1; ports = 2; ace = 0b01 }

abbrev pub three_ace_one_lite : Header
three_ace_one_lite = record { version = 1; ports = 4; ace = 0b0111 }

-- codes of ARSNOOP and ACSNOOP
abbrev pub read_once : ℕ
read_once = 0

abbrev pub read_shared : ℕ
read_shared = 1

abbrev pub read_clean : ℕ
read_clean = 2

abbrev pub read_not_shared_dirty : ℕ
read_not_shared_dirty = 3

abbrev pub read_unique : ℕ
read_unique = 7

abbrev pub clean_invalid : ℕ
clean_invalid = 9

abbrev pub clean_unique : ℕ
clean_unique = 0xb

abbrev pub make_unique : ℕ
make_unique = 0xc

abbrev pub make_invalid : ℕ
make_invalid = 0xd

abbrev pub dvm_complete : ℕ
dvm_complete = 0xe

abbrev pub dvm_message : ℕ
dvm_message = 0xf

-- codes of AWSNOOP
abbrev pub write_unique : ℕ
write_unique = 0

abbrev pub write_line_unique : ℕ
write_line_unique = 1

abbrev pub write_clean : ℕ
write_clean = 2

abbrev pub write_back : ℕ
write_back = 3

abbrev pub write_evict : ℕ
write_evict = 5

-- codes of ARBAR and AWBAR
abbrev pub memory_barrier : ℕ
memory_barrier = 1

abbrev pub ignores_barriers : ℕ
ignores_barriers = 2

abbrev pub synchronisation_barrier : ℕ
synchronisation_barrier = 3

-- the line
abbrev pub line_a : ℕ
line_a = 0x40

-- the word, and the line of the cache, with this byte in every place
abbrev pub repeated_word : ℕ → ℕ
repeated_word byte = byte * 0x01010101010101010101010101010101

abbrev pub repeated_line : ℕ → Line
repeated_line byte =
    record {
      words = repeated_word byte ∷ repeated_word byte ∷ repeated_word byte
          ∷ repeated_word byte ∷ [];
    }

-- the four transfers of a read of the line, with this response and byte
abbrev pub four_transfers : ℕ → ℕ → ℕ → List Event
four_transfers p resp byte =
    R p 0 resp false (repeated_word byte) ∷ R p 0 resp false (repeated_word byte)
    ∷ R p 0 resp false (repeated_word byte)
    ∷ R p 0 resp true (repeated_word byte) ∷ []

-- the one transfer of a dataless read, with this response
abbrev pub one_transfer : ℕ → ℕ → Event
one_transfer p resp = R p 0 resp true 0

-- the four transfers of a write of the line
abbrev pub four_writes : ℕ → ℕ → List Event
four_writes p byte =
    W p 0xffff false (repeated_word byte) ∷ W p 0xffff false (repeated_word byte)
    ∷ W p 0xffff false (repeated_word byte)
    ∷ W p 0xffff true (repeated_word byte) ∷ []

-- the four transfers of snoop data
abbrev pub four_data : ℕ → ℕ → List Event
four_data p byte =
    Cd p false (repeated_word byte) ∷ Cd p false (repeated_word byte)
    ∷ Cd p false (repeated_word byte)
    ∷ Cd p true (repeated_word byte) ∷ []

-- the port issues a read, an exclusive read, a write of this kind, on the line
abbrev pub issue_read : ℕ → ℕ → Event
issue_read p kind = Ar p 0 line_a kind 1 0 false

abbrev pub issue_exclusive : ℕ → ℕ → Event
issue_exclusive p kind = Ar p 0 line_a kind 1 0 true

abbrev pub issue_write : ℕ → ℕ → Event
issue_write p kind = Aw p 0 line_a kind 1 0

-- the port issues a read of this kind on the line, and is granted it
abbrev pub ask : ℕ → ℕ → List Event
ask p kind = issue_read p kind ∷ G p Read 0 ∷ []

-- the port is snooped on the line
abbrev pub snoop : ℕ → ℕ → Event
snoop p kind = Ac p line_a kind

-- the port stores this byte to the whole line
abbrev pub store : ℕ → ℕ → Event
store p byte = D p line_a full_line false (repeated_line byte)

-- the port gets the line of zeros by a ReadUnique, in UniqueClean
abbrev pub get : ℕ → List Event
get p = ask p read_unique ++ four_transfers p 0 0 ++ Rk p UC ∷ []

-- the port gets the line of zeros by a ReadShared, in SharedClean
abbrev pub share : ℕ → List Event
share p = ask p read_shared ++ four_transfers p 0 0 ++ Rk p SC ∷ []

-- the port gets the line by a MakeUnique and a store of this byte to it, in UniqueDirty
abbrev pub make : ℕ → ℕ → List Event
make p byte = ask p make_unique ++ one_transfer p 0 ∷ store p byte ∷ Rk p UD ∷ []
