use Rattle.ace_master_state.proofs.kept.Kept.note_own.Goals as goal

pub returns-clause-rest : goal.returns-clause-rest
returns-clause-rest c = λ plan past p k legal low at.
    let h = plan.header in
    let lines = c.hear-2.ensures plan past p k.port k.ace legal low k.lines in
    record {
      identifiers = c.hear.ensures h past p k.port k.ace at k.identifiers;
      lines = lines;
      monitor = c.hear-3.ensures h plan.ways past p lines k.monitor;
      segment = c.hear-4.ensures plan past p legal (c.count-place.ensures h past p k.port) k.segment;
      completions = c.hear-5.ensures plan past p k.port legal k.completions;
      syncs = c.hear-6.ensures plan past p k.port legal k.syncs;
    }
