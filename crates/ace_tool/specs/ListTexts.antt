-- The text of a list.
use Rattle.std.specs.Prelude.{◌≡◌, ◌++◌, ℕ, Bool, true, false, List, [], Option, None, Some, IfSome}
use Rattle.ace_tool.specs.Asked.{is_input}
use Rattle.ace_tool.specs.Held.{Held, told_of}
use Rattle.std.specs.Io.KnownBytes.{Consumes, IsAtEnd}

-- These are the bytes that are left, where they are told.
abbrev pub IsWhole : Option (List ℕ) → List ℕ → Type 0
IsWhole left bytes = IfSome left (λ told. told ≡ bytes)

-- Some more bytes were taken, or there were no more.
pub record TakesSome (left left' : Option (List ℕ)) (before after : List ℕ)
    (some : Bool) : Type 0 where
  pub more : List ℕ
  pub grown : after ≡ before ++ more
  pub taken : Consumes left left' more
  pub end : some ≡ false → IsAtEnd left'

-- the text of a file, or of standard input
abbrev pub IsListText : Bool → Option (List ℕ) → Option (List ℕ) → List ℕ → Type 0
IsListText true told input text = IsWhole input text
IsListText false told input text = IsWhole told text

-- the text of the list that is asked for, or no text
abbrev pub IsTextOfList : (List ℕ → Held) → Option (List ℕ) → Option (List ℕ) → List ℕ → Type 0
IsTextOfList holds None input text = text ≡ []
IsTextOfList holds (Some name) input text =
    IsListText (is_input name) (told_of (holds name)) input text

-- Standard input stays as it is where it isn't the list.
abbrev pub KeepsInput : Option (List ℕ) → Option (List ℕ) → Option (List ℕ) → Type 0
KeepsInput None input left = left ≡ input
KeepsInput (Some name) input left = is_input name ≡ false → left ≡ input
