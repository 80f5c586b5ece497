-- What was asked by the words behind `batch`, as the structs of the program keep it.
use Rattle.std.specs.Prelude.{Bool, if◌then◌else◌, Option, None, Some, map, option_map}
use Rattle.ace_tool.specs.BatchAsked.{BatchAsked, BatchSoFar}
use Rattle.ace_tool.specs.BatchOptions.{Extras, SaidExtras}
use Rattle.ace_tool.specs.Told.{options_of}
use Rattle.ace_tool.specs.declared.batch_options.ExtraOptions.{ExtraOptions}
use Rattle.ace_tool.specs.declared.batch_words.BatchCall.{BatchCall}

-- what is given so far, where the option was right there
abbrev pub if_extra : Bool → Extras → Option Extras
if_extra right extras = if right then Some extras else None

-- the same of whatever the words ask
abbrev pub if_batch : Bool → BatchSoFar → Option BatchSoFar
if_batch right asked = if right then Some asked else None

abbrev pub said_of : ExtraOptions → SaidExtras
said_of o = record {
  list = option_map (λ name. name.now) o.list;
  jobs = o.jobs;
  part = o.shard.part;
  parts = o.shard.parts;
  junit = option_map (λ name. name.now) o.junit;
  json = option_map (λ name. name.now) o.json;
  failed = o.failed;
  fail_fast = o.fail_fast;
}

abbrev pub batch_of : BatchCall → BatchAsked
batch_of call = record {
  traces = map (λ name. name.now) call.traces.items;
  options = options_of call.options;
  extras = said_of call.extras;
}
