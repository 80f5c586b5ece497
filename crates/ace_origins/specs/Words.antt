-- The word that an event brings, and whether a clause asks which word it is.
use Rattle.std.specs.Prelude.{ℕ, ◌==◌, ◌&&◌, ◌||◌, if◌then◌else◌, Bool, true, false, Option, Some, None, option_map}
use Rattle.ace_clauses.specs.declared.letters.Letter.{Letter}
use Rattle.ace_clauses.specs.declared.letters.Letter.TheVariants as letter
use Rattle.ace_event.specs.declared.event.Channel.TheVariants.{Read}
use Rattle.ace_event.specs.declared.event.Event.{Event}
use Rattle.ace_event.specs.declared.event.Event.TheVariants.{R, W, Cd, L}
use Rattle.ace_event.specs.declared.header.Header.{Header}
use Rattle.ace_model.specs.Replies.{next_sent_beat}
use Rattle.ace_model.specs.Trace.{Trace}
use Rattle.ace_model.specs.Transactions.{outstanding}
use Rattle.ace_model.specs.Writes.{next_write_beat}
use Rattle.ace_origins.specs.declared.origins.SentWord.{SentWord}
use Rattle.ace_portck.specs.Targets.{progress_of}
use Rattle.ace_portck.specs.declared.target.Progress.{Progress}

-- this word comes as the word of this number of its line
abbrev pub as_number : ℕ → ℕ → SentWord
as_number word number = record { number = number; word = word }

-- the next transfer of the read, and with it this word
abbrev pub next_of : ℕ → Progress → SentWord
next_of word x = as_number word x.transfers

-- the word that the event brings, of its line
abbrev pub word_in : Header → Trace → Event → Option SentWord
word_in h past (R p i resp last word) =
    option_map (next_of word) (option_map (progress_of h past) (outstanding h past p Read i))
word_in h past (W p strb last word) = Some (as_number word (next_write_beat past p))
word_in h past (Cd p last word) = Some (as_number word (next_sent_beat past p))
word_in h past (L p addr w x word) = Some (as_number word w)
word_in h past _ = None

abbrev pub is_b : Letter → Bool
is_b letter.B = true
is_b _ = false

abbrev pub is_c : Letter → Bool
is_c letter.C = true
is_c _ = false

abbrev pub is_d : Letter → Bool
is_d letter.D = true
is_d _ = false

-- the clause of rule k is broken where another word comes than it expects: a word of a memory
-- update, of a snooped line, of a reply, or that is loaded
abbrev pub asks_word : ℕ → Letter → Bool
asks_word k c =
    ((k == 11) && is_d c) || ((k == 17) && is_c c) || ((k == 20) && is_b c) || (k == 31)

-- the word that came instead of another, where the clause asks for one
abbrev pub wrong_word : Header → Trace → Event → ℕ → Letter → Option SentWord
wrong_word h past e k c = if asks_word k c then word_in h past e else None
