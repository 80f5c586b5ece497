-- The texts that say how the program is used.
use Rattle.std.specs.Prelude.{ℕ, List, codes}

abbrev pub help : List ℕ
help =
    codes "usage: acetool COMMAND [OPTION].. [FILE]..\n\nChecks traces of AMBA ACE. The verdict is always that of `ace check`.\n\n  check [FILE]..   the verdict on each trace\n  batch FILE..     the same of many traces, in threads, with a summary and files for a CI\n  cover FILE..     what accepted traces exercised, and what none of them did\n  explain [FILE]   why a trace is refused: the event, the rule, and the clause of it that is broken\n  chart [FILE]     a sequence chart of one line of a trace, as SVG\n  gen --cover N    a script that is made from N, whose run exercises much; `ace run` runs it\n  rule [NAME]..    what a rule asks: K12 with its clauses, or K12d; without a name the rules\n\nFILE is a trace; `-`, or no file, is standard input. `acetool COMMAND --help` tells more, and\n`acetool --version` the version. Before COMMAND `--color always`, `never` or `auto` says whether\ncheck, batch, explain and rule tell in colours; else they do on a terminal.\n"

abbrev pub check_help : List ℕ
check_help =
    codes "usage: acetool check [OPTION].. [--] [FILE]..\n\nSays of each trace what `ace check` says of it, in a line FILE: VERDICT, and of standard input the\nverdict alone. It has no limits but those that are asked for. Where the side file of an accepted\ntrace says that the recording is broken off, the trace is unfinished. A note tells how many\ntransactions are outstanding at the end of an accepted trace, if any are.\n\n  --most-events N  a trace may have N events at most\n  --most-lines N   a trace may name N lines at most\n  --side FILE      the side file of the one trace; that of a FILE is else FILE.side, if it is there\n  --no-side        no side file is read\n  --require-end    a trace without a side file is unfinished\n  --allow-cut      a recording that was cut on demand is whole\n  --drained        a trace that ends with transactions outstanding is unfinished\n\nstatus: 0 each trace was accepted, and none is unfinished; else the first that came of 1 refused,\n3 malformed, 8 unfinished, 6 a limit, 4 unreadable, 7 no memory; 5 an output failed; 2 these words\nare wrong\n"

abbrev pub explain_help : List ℕ
explain_help =
    codes "usage: acetool explain [OPTION].. [--] [FILE]\n\nSays of the trace what `ace check` says, after FILE:LINE:, and what is wrong there. Of a refused\ntrace it tells the event that is the first to break a rule, and the clause of the rule that is\nbroken; and by its side file when events are, what ports and lines are called in the design, and\nwhat is remarked. Of an accepted trace it tells by that whether the recording is whole.\n\n  --short          the first line alone\n  --json           all that there is to say as a JSON object in one line\n  --side FILE      the side file; that of a FILE is else FILE.side, if it is there\n  --no-side        no side file is read\n  --require-end, --allow-cut, --drained, --most-events N, --most-lines N\n                   as of check\n\nstatus: 0 accepted, 1 refused, 3 malformed, 8 unfinished, 6 a limit, 4 unreadable, 7 no memory;\n5 the output failed; 2 these words are wrong\n"

abbrev pub rule_help : List ℕ
rule_help =
    codes "usage: acetool rule [NAME]..\n\nTells each rule that is named, as K12, with its clauses, where each is kept and what is wrong where\nit is broken, and where to look first then. K12d names one clause of it. Without a name it tells\nwhat the rules are called.\n\nstatus: 0 it was told, 7 no memory; 5 the output failed; 2 these words are wrong\n"

abbrev pub version : List ℕ
version = codes "acetool 1.0.0\n"
