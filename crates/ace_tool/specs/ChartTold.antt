-- What was asked by the words behind `chart`, as the structs of the program keep it.
use Rattle.std.specs.Prelude.{option_map}
use Rattle.ace_tool.specs.ChartAsked.{ChartAsked}
use Rattle.ace_tool.specs.Told.{side_of}
use Rattle.ace_tool.specs.declared.chart_call.ChartCall.{ChartCall}

abbrev pub chart_of : ChartCall → ChartAsked
chart_of call = record {
  trace = call.trace.now;
  out = option_map (λ name. name.now) call.out;
  line = call.line;
  rows = call.rows;
  selection = call.selection;
  title = option_map (λ title. title.now) call.title;
  side = side_of call.side;
}
