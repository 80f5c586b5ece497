-- What was asked by the words behind `cover`, as the structs of the program keep it.
use Rattle.std.specs.Prelude.{Bool, if◌then◌else◌, Option, None, Some, map, option_map}
use Rattle.ace_tool.specs.CoverAsked.{CoverSoFar}
use Rattle.ace_tool.specs.CoverOptions.{CoverGiven}
use Rattle.ace_tool.specs.Covering.{CoverAsked}
use Rattle.ace_tool.specs.declared.cover_words.CoverCall.{CoverCall}

-- what is given so far, where the option was right there
abbrev pub if_cover_given : Bool → CoverGiven → Option CoverGiven
if_cover_given right given = if right then Some given else None

-- the same of whatever the words ask
abbrev pub if_cover : Bool → CoverSoFar → Option CoverSoFar
if_cover right asked = if right then Some asked else None

abbrev pub cover_of : CoverCall → CoverAsked
cover_of call = record {
  names = map (λ name. name.now) call.names.items;
  list = option_map (λ name. name.now) call.list;
  merge = call.merge;
  listing = call.listing;
  json = call.json;
  least = call.least;
}
