-- The phrases of sentences about events.
use Rattle.std.specs.Prelude.{ℕ, List, codes}
use Rattle.ace_event_words.specs.declared.phrase.Phrase.{Phrase}
use Rattle.ace_event_words.specs.declared.phrase.Phrase.TheVariants.{AsksFor, Gets, GetsTheAnswerTo, Acknowledges, Sends, IsSnooped, AnswersTheSnoop, IsGrantedTheLine, HasMemoryWritten, MovesTheLine, Loads, Stores, Retires, Identifier, InState, Exclusive, Data, Error, PassDirty, IsShared, WasUnique}

-- what a port does, and what is added to that
unfoldable pub phrase_words : Phrase → List ℕ
phrase_words AsksFor = codes " asks for "
phrase_words Gets = codes " gets "
phrase_words GetsTheAnswerTo = codes " gets the answer to "
phrase_words Acknowledges = codes " acknowledges "
phrase_words Sends = codes " sends "
phrase_words IsSnooped = codes " is snooped: "
phrase_words AnswersTheSnoop = codes " answers the snoop, state "
phrase_words IsGrantedTheLine = codes " is granted the line for "
phrase_words HasMemoryWritten = codes " has memory written by "
phrase_words MovesTheLine = codes " moves the line by itself to "
phrase_words Loads = codes " loads word "
phrase_words Stores = codes " stores"
phrase_words Retires = codes " retires operation "
phrase_words Identifier = codes ", identifier "
phrase_words InState = codes ", state "
phrase_words Exclusive = codes ", exclusive"
phrase_words Data = codes ", data"
phrase_words Error = codes ", error"
phrase_words PassDirty = codes ", PassDirty"
phrase_words IsShared = codes ", IsShared"
phrase_words WasUnique = codes ", WasUnique"
