-- The texts of `batch`.
use Rattle.std.specs.Prelude.{ℕ, List, codes, ◌++◌}
use Rattle.ace_tool.specs.Reports.{open_text}
use Rattle.ace_tool.specs.declared.list_file.ListErr.{ListErr}
use Rattle.ace_tool.specs.declared.list_file.ListErr.TheVariants.{Shut, ReadFault, NoText, NoMemory}

abbrev pub batch_help : List ℕ
batch_help =
    codes "usage: acetool batch [OPTION].. [--] FILE..\n       acetool batch --merge FILE..\n\nChecks each trace as `acetool check` does, tells a line for each in their order, and a summary with\nthe failures grouped by the broken clause or the reason, the most frequent first. With --merge it\nputs the JSON of all parts of a list together, and tells the summary of the whole.\n\n  --list FILE      more traces, a path a line; `-` is standard input\n  --jobs N         threads that share the work; else as many as there are processors\n  --shard K/N      of all of these the traces K, K + N, K + 2N, .. alone\n  --failed         no lines for accepted traces\n  --fail-fast      ends with the first trace, in their order, that isn't accepted\n  --junit FILE     the results as JUnit XML as well\n  --json FILE      the results as JSON, an object a line, as well\n  --most-events N  a trace may have N events at most\n  --most-lines N   a trace may name N lines at most\n  --no-side        no side files are read\n  --require-end    a trace without a side file is unfinished\n  --allow-cut      a recording that was cut on demand is whole\n  --drained        a trace that ends with transactions outstanding is unfinished\n\nstatus: 0 each trace was accepted, and none is unfinished; else the first that came of 1 refused,\n3 malformed, 8 unfinished, 6 a limit, 4 unreadable, 7 no memory; 5 an output failed; 2 these words\nare wrong, or there is no trace\n"

-- what is noted where the list of traces can't be had
abbrev pub list_note : ListErr → List ℕ
list_note (Shut error) = codes "the list of traces: " ++ (open_text error ++ codes "\n")
list_note ReadFault = codes "the list of traces: read fault\n"
list_note NoText = codes "the list of traces: not UTF-8\n"
list_note NoMemory = codes "out of memory\n"
