use Rattle.ace_io.proofs.LineFeeds.{told}
use Rattle.ace_io.proofs.line_reader.lf_among.Goals as goal

pub returns : goal.returns
returns c =
    let t = told c.args.piece.now c.args.at _ c.requires c.first_set.ensures in
    record { within = t.within; no_lf = t.no_lf; lf = t.lf }
