-- Rows on DVM messages.
use Rattle.std.specs.Prelude.{ℕ, true, false, List, [], ◌∷◌, ◌++◌}
use Rattle.ace_codes.specs.declared.state.LineState.TheVariants.{I}
use Rattle.ace_event.specs.declared.event.Channel.TheVariants.{Read}
use Rattle.ace_event.specs.declared.event.Event.{Event}
use Rattle.ace_event.specs.declared.event.Event.TheVariants.{Ar, R, Rk, Ac, Cr, G}
use Rattle.ace_rows.specs.Shorthands.{line_a, read_shared, dvm_complete, dvm_message, one_transfer}

-- the message of a Sync
abbrev pub sync : ℕ
sync = 0xc000

-- the port issues a DVM Complete
abbrev pub issue_complete : ℕ → Event
issue_complete p = Ar p 0 0 dvm_complete 1 0 false

-- port 0 issues a Sync, which the others get and answer; then port 1 says that it is complete there
abbrev pub syncs_with_one_port : List Event
syncs_with_one_port =
    Ar 0 0 sync dvm_message 1 0 false ∷ Ac 1 sync dvm_message ∷ Ac 2 sync dvm_message
    ∷ Cr 1 0 I ∷ Cr 2 0 I
    ∷ one_transfer 0 0 ∷ Rk 0 I ∷ issue_complete 1 ∷ one_transfer 1 0 ∷ Rk 1 I ∷ []

-- port 0 is told that the Sync is complete, before port 2 has said so
abbrev pub completes_a_sync_early : List Event
completes_a_sync_early = syncs_with_one_port ++ Ac 0 0 dvm_complete ∷ []

-- port 0 is told after it
abbrev pub completes_a_sync : List Event
completes_a_sync =
    syncs_with_one_port ++ issue_complete 2 ∷ Ac 0 0 dvm_complete
    ∷ one_transfer 2 0 ∷ Rk 2 I ∷ Cr 0 0 I ∷ []

-- the word of a first part that a second follows
abbrev pub first_of_two : ℕ
first_of_two = 0x1001

-- a word that says nothing in a first part
abbrev pub second_of_two : ℕ
second_of_two = 0x12345678

-- port 0 issues a message of two parts, the second with this word
abbrev pub issue_two_parts : ℕ → List Event
issue_two_parts word =
    Ar 0 0 first_of_two dvm_message 1 0 false ∷ Ar 0 1 word dvm_message 1 0 false ∷ []

-- port 1 gets both, and answers them
abbrev pub hears_two_parts : ℕ → List Event
hears_two_parts word =
    issue_two_parts word ++ Ac 1 first_of_two dvm_message ∷ Ac 1 word dvm_message
    ∷ Cr 1 0 I ∷ Cr 1 0 I ∷ []

-- a message of two parts
abbrev pub sends_two_parts : List Event
sends_two_parts =
    hears_two_parts second_of_two ++ one_transfer 0 0 ∷ Rk 0 I ∷ R 0 1 0 true 0 ∷ Rk 0 I ∷ []

-- its first part is forwarded before the second is issued
abbrev pub forwards_half_a_message : List Event
forwards_half_a_message =
    Ar 0 0 first_of_two dvm_message 1 0 false ∷ Ac 1 first_of_two dvm_message ∷ []

-- its second part has another domain
abbrev pub changes_the_domain : List Event
changes_the_domain =
    Ar 0 0 first_of_two dvm_message 1 0 false ∷ Ar 0 1 second_of_two dvm_message 2 0 false ∷ []

-- port 1 is snooped for a granted read between the two parts
abbrev pub snoops_between_two_parts : List Event
snoops_between_two_parts =
    Ar 0 2 line_a read_shared 1 0 false ∷ G 0 Read 2 ∷ issue_two_parts second_of_two
    ++ Ac 1 first_of_two dvm_message ∷ Ac 1 line_a read_shared ∷ []

-- a second part has the word of a Sync, and port 1 says that it is complete there
abbrev pub completes_a_second_part : List Event
completes_a_second_part = hears_two_parts sync ++ issue_complete 1 ∷ []
