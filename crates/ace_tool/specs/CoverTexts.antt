-- The texts of `cover`.
use Rattle.std.specs.Prelude.{ℕ, List, codes}

abbrev pub cover_help : List ℕ
cover_help =
    codes "usage: acetool cover [OPTION].. [--] FILE..\n\nCounts what accepted traces exercised: the kinds of transactions, the states that they start from\nand end in, the answers to snoops, the rules that could have been broken, and situations. A trace\nthat is not accepted is named on the standard error and counts for nothing.\n\n  --list FILE      more files, a path a line; `-` is standard input\n  --merge          the files are JSON that `acetool cover` wrote, and their counts are added\n  --all            names every point that was never hit, not 12 of a group\n  --hits           names every point with its count, in place of those that were never hit\n  --json           the counts of the points that were hit, as JSON, in place of the table\n  --min PERCENT    status 1 where fewer of a hundred points were hit\n\nstatus: 0 each trace was accepted, and enough was hit; else the first that came of 1 refused, or too\nlittle was hit, 3 malformed, 4 unreadable, 7 no memory; 5 an output failed; 2 these words are wrong,\nor there is no file\n"
