-- The picture of a trace, and whether it is right.
use Rattle.std.specs.Prelude.{◌≡◌, ⊤, ℕ, Bool, true, false, List, Option, None, Some, Ok, Err, IfSome}
use Rattle.ace_chart.specs.declared.rows.Chart.{Chart}
use Rattle.ace_drawing.specs.Drawings.{IsDrawn, drawn_events}
use Rattle.ace_explanation.specs.Explanations.{HasAnyLine, IsExplanationWithin, verdict_of}
use Rattle.ace_explanation.specs.declared.explanation.Explanation.{Explanation}
use Rattle.ace_tool.specs.ChartAsked.{ChartAsked}
use Rattle.ace_side_facts.specs.declared.facts.SideFacts.{SideFacts}
use Rattle.ace_tool.specs.ChartSides.{IsSideOf}
use Rattle.ace_tool.specs.ChartTexts.{picture_text}
use Rattle.ace_tool.specs.Explaining.{no_limits}
use Rattle.ace_tool.specs.Held.{Held}
use Rattle.ace_tool.specs.Packing.{packing_of}
use Rattle.ace_tool.specs.declared.picture.Picture.{Picture}
use Rattle.ace_tool.specs.declared.picture.Picture.TheVariants.{Drawn, Undrawn}
use Rattle.ace_tool.specs.declared.picture.NoPicture.{NoPicture}
use Rattle.ace_tool.specs.declared.picture.NoPicture.TheVariants.{Explained, TooManyRows, BadSide, Shut, Compressed}

-- There is no picture of the trace in these bytes for this reason: it is neither accepted nor
-- refused, or its side file tells nothing, or they are compressed.
abbrev pub IsUndrawn : (List ℕ → Held) → ChartAsked → List ℕ → NoPicture → Type 0
IsUndrawn holds asked bytes (Explained x) =
    IsExplanationWithin no_limits bytes x × (drawn_events (verdict_of x) ≡ None)
IsUndrawn holds asked bytes TooManyRows = ⊤
IsUndrawn holds asked bytes (BadSide fault) = (c : Chart) × IsSideOf holds asked c (Err fault)
IsUndrawn holds asked bytes (Compressed packing) = packing_of bytes ≡ Some packing
IsUndrawn holds asked bytes (Shut error) = ⊥

-- This is the picture of the trace in these bytes that is asked for, with what its side file tells,
-- if it has one; or there is none for a reason.
abbrev pub IsPictureIn : (List ℕ → Held) → ChartAsked → List ℕ → Picture → Type 0
IsPictureIn holds asked bytes (Drawn text) =
    (c : Chart) × (x : Explanation) × (side : Option SideFacts)
    × IsDrawn no_limits bytes asked.line asked.selection c x × IsSideOf holds asked c (Ok side)
    × (text.items ≡ picture_text asked.trace asked.title c x side)
IsPictureIn holds asked bytes (Undrawn reason) = IsUndrawn holds asked bytes reason

-- The same of a file, which can perhaps not be opened.
abbrev pub IsPictureOpen : (List ℕ → Held) → ChartAsked → Option (List ℕ) → Picture → Type 0
IsPictureOpen holds asked told (Undrawn (Shut error)) = ⊤
IsPictureOpen holds asked told picture =
    IfSome told (λ bytes. IsPictureIn holds asked bytes picture)

-- Of standard input what was left is drawn, and of a file what it holds.
abbrev pub IsPicture : (List ℕ → Held) → ChartAsked → Bool → Option (List ℕ) → Option (List ℕ)
    → Picture → Type 0
IsPicture holds asked true told input picture =
    IfSome input (λ bytes. IsPictureIn holds asked bytes picture)
IsPicture holds asked false told input picture = IsPictureOpen holds asked told picture

-- where an event is told of, it has a line
abbrev pub MayBeNoted : NoPicture → Type 0
MayBeNoted (Explained x) = HasAnyLine x
MayBeNoted reason = ⊤

abbrev pub MayBeShown : Picture → Type 0
MayBeShown (Drawn text) = ⊤
MayBeShown (Undrawn reason) = MayBeNoted reason
