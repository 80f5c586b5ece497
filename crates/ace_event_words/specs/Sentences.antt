-- The sentences that tell what events do.
use Rattle.std.specs.Prelude.{ℕ, ◌++◌, ◌==◌, Bool, false, if◌then◌else◌, List, [], Option, Some, None, codes, decimal}
use Rattle.ace_codes.specs.Reads.{ar_kind_of}
use Rattle.ace_codes.specs.declared.kind.ArKind.{ArKind}
use Rattle.ace_codes.specs.Responses.{has_error, is_shared, passes_dirty, transfers_data, was_unique}
use Rattle.ace_codes.specs.declared.state.LineState.{LineState}
use Rattle.ace_event.specs.Text.{outcome_text, state_text}
use Rattle.ace_event.specs.declared.event.Outcome.{Outcome}
use Rattle.ace_event_words.specs.KindWords.{snoop_words, words_on}
use Rattle.ace_event_words.specs.SmallWords.{resp_word}
use Rattle.ace_event_words.specs.declared.deed.Deed.{Deed}
use Rattle.ace_event_words.specs.declared.deed.Deed.TheVariants.{Ar, R, Rk, Aw, W, B, Wk, Ac, Cr, Cd, G, M, S, L, D, Op, Mem}
use Rattle.ace_event_words.specs.declared.deed.Kind.{Kind}
use Rattle.ace_event_words.specs.Phrases.{phrase_words}
use Rattle.ace_event_words.specs.declared.phrase.Phrase.{Phrase}
use Rattle.ace_event_words.specs.declared.phrase.Phrase.TheVariants.{AsksFor, Gets, GetsTheAnswerTo, Acknowledges, Sends, IsSnooped, AnswersTheSnoop, IsGrantedTheLine, HasMemoryWritten, MovesTheLine, Loads, Stores, Retires, Identifier, InState, Exclusive, Data, Error, PassDirty, IsShared, WasUnique}
use Rattle.ace_event_words.specs.declared.transfers.Transfers.{Transfers}
use Rattle.ace_event_words.specs.declared.transfers.Transfers.TheVariants.{One, Several, Nth}
use Rattle.ace_model.specs.Kinds.{beats_of}
use Rattle.ace_words.specs.Kinds.{port_words}

-- the record of the event, in three columns, with a space behind
abbrev pub record_column : Deed → List ℕ
record_column (Ar p kind id lock) = codes "AR  "
record_column (R p kind resp) = codes "R   "
record_column (Rk p kind st) = codes "RK  "
record_column (Aw p kind id) = codes "AW  "
record_column (W p kind) = codes "W   "
record_column (B p kind resp) = codes "B   "
record_column (Wk p kind st) = codes "WK  "
record_column (Ac p snoop) = codes "AC  "
record_column (Cr p resp st) = codes "CR  "
record_column (Cd p) = codes "CD  "
record_column (G p kind) = codes "G   "
record_column (M p kind) = codes "M   "
record_column (S p st) = codes "S   "
record_column (L p w x) = codes "L   "
record_column (D p x) = codes "D   "
record_column (Op p k res) = codes "OP  "
record_column Mem = codes "MEM "

-- what a transaction is called
abbrev pub kind_words : Kind → List ℕ
kind_words k = words_on k.chan k.snoop k.dom k.bar

-- the port, and what it does
unfoldable pub port_does : ℕ → Phrase → List ℕ
port_does port phrase = port_words port ++ phrase_words phrase

-- the phrase, where the bit is 1
unfoldable pub bit_words : Bool → Phrase → List ℕ
bit_words bit phrase = if bit then phrase_words phrase else []

-- the transaction of the port that the event belongs to; what stands for it where there is none
unfoldable pub its_words : List ℕ → Option Kind → List ℕ
its_words other None = other
its_words other (Some k) = codes "its " ++ kind_words k

-- the transaction that the port asks for, its identifier, and whether it is exclusive
unfoldable pub asked_words : ℕ → Kind → ℕ → List ℕ
asked_words port kind id =
    port_does port AsksFor ++ kind_words kind ++ phrase_words Identifier ++ decimal id

unfoldable pub asks_words : ℕ → Kind → ℕ → Bool → List ℕ
asks_words port kind id lock = asked_words port kind id ++ bit_words lock Exclusive

-- so many transfers
unfoldable pub nth_words : ℕ → ℕ → List ℕ
nth_words number beats =
    codes "transfer " ++ decimal number ++ codes " of " ++ decimal beats ++ codes " of "

abbrev pub transfers_words : Transfers → List ℕ
transfers_words One = codes "a transfer of "
transfers_words Several = codes "transfers of "
transfers_words (Nth number beats) = nth_words number beats

-- as many answers
abbrev pub answers_to : Transfers → List ℕ
answers_to Several = codes "answers to "
answers_to _ = codes "the answer to "

-- a read of this kind brings no line: its one transfer is the answer to it
abbrev pub is_dataless : Option ArKind → Bool
is_dataless None = false
is_dataless (Some kind) = beats_of kind == 1

abbrev pub brings_no_line : Option Kind → Bool
brings_no_line None = false
brings_no_line (Some k) = is_dataless (ar_kind_of k.snoop k.dom k.bar)

-- what the port gets of the read
abbrev pub received_words : Transfers → Option Kind → List ℕ
received_words transfers kind =
    if brings_no_line kind then answers_to transfers else transfers_words transfers

-- what a response says of the line
unfoldable pub line_bits : ℕ → List ℕ
line_bits resp =
    bit_words (passes_dirty resp) PassDirty ++ bit_words (is_shared resp) IsShared

unfoldable pub gets_words : Transfers → ℕ → Option Kind → ℕ → List ℕ
gets_words transfers port kind resp =
    port_does port Gets ++ received_words transfers kind ++ its_words (codes "a read") kind
    ++ resp_word resp ++ line_bits resp

unfoldable pub sends_words : Transfers → ℕ → Option Kind → List ℕ
sends_words transfers port kind =
    port_does port Sends ++ transfers_words transfers ++ its_words (codes "a write") kind

unfoldable pub snoop_data : List ℕ
snoop_data = codes "its snoop data"

unfoldable pub sends_snooped_words : Transfers → ℕ → List ℕ
sends_snooped_words transfers port =
    port_does port Sends ++ transfers_words transfers ++ snoop_data

unfoldable pub answered_words : ℕ → Option Kind → ℕ → List ℕ
answered_words port kind resp =
    port_does port GetsTheAnswerTo ++ its_words (codes "a write") kind ++ resp_word resp

-- the port, what it does, and a state of the line
unfoldable pub state_words : ℕ → Phrase → LineState → List ℕ
state_words port phrase st = port_does port phrase ++ state_text st

-- the acknowledge of a read or a write, which leaves the line in the state
unfoldable pub acknowledges_words : ℕ → List ℕ → Option Kind → LineState → List ℕ
acknowledges_words port other kind st =
    port_does port Acknowledges ++ its_words other kind ++ phrase_words InState ++ state_text st

unfoldable pub snooped_words : ℕ → ℕ → List ℕ
snooped_words port snoop = port_does port IsSnooped ++ snoop_words snoop

-- the answer to a snoop
unfoldable pub answers_words : ℕ → ℕ → LineState → List ℕ
answers_words port resp st =
    state_words port AnswersTheSnoop st ++ bit_words (transfers_data resp) Data
    ++ bit_words (has_error resp) Error ++ line_bits resp ++ bit_words (was_unique resp) WasUnique

-- the port, what it does, and the transaction for which it does so
unfoldable pub served_words : ℕ → Phrase → Option Kind → List ℕ
served_words port phrase kind = port_does port phrase ++ its_words (codes "a transaction") kind

unfoldable pub loads_words : ℕ → ℕ → Bool → List ℕ
loads_words port w x = port_does port Loads ++ decimal w ++ bit_words x Exclusive

unfoldable pub stores_words : ℕ → Bool → List ℕ
stores_words port x = port_does port Stores ++ bit_words x Exclusive

unfoldable pub retires_words : ℕ → ℕ → Outcome → List ℕ
retires_words port k res = port_does port Retires ++ decimal k ++ codes ": " ++ outcome_text res

-- what the event does, which has so many transfers where it has any, or several like it one after
-- another
abbrev pub deed_words : Transfers → Deed → List ℕ
deed_words transfers (Ar p kind id lock) = asks_words p kind id lock
deed_words transfers (R p kind resp) = gets_words transfers p kind resp
deed_words transfers (Rk p kind st) =
    acknowledges_words p (codes "a read") kind st
deed_words transfers (Aw p kind id) = asks_words p kind id false
deed_words transfers (W p kind) = sends_words transfers p kind
deed_words transfers (B p kind resp) = answered_words p kind resp
deed_words transfers (Wk p kind st) =
    acknowledges_words p (codes "a write") kind st
deed_words transfers (Ac p snoop) = snooped_words p snoop
deed_words transfers (Cr p resp st) = answers_words p resp st
deed_words transfers (Cd p) = sends_snooped_words transfers p
deed_words transfers (G p kind) = served_words p IsGrantedTheLine kind
deed_words transfers (M p kind) = served_words p HasMemoryWritten kind
deed_words transfers (S p st) = state_words p MovesTheLine st
deed_words transfers (L p w x) = loads_words p w x
deed_words transfers (D p x) = stores_words p x
deed_words transfers (Op p k res) = retires_words p k res
deed_words transfers Mem = codes "memory opens with the line"
