use Rattle.std.proofs.Common.{◌≡◌, ℕ, List, [], None, length}
use Rattle.ace_grammar.specs.Reader.{HasRead, header_of, last_answer}
use Rattle.ace_drawing.proofs.front.read_events.Given as goal

-- the reader reads on, and has read the events so far
abbrev pub invariant-loop : goal.invariant-loop
invariant-loop g l = record {
  reads_on : last_answer l.reader ≡ None;
  header : header_of l.reader ≡ header_of l.initial.reader;
  read : (bytes : List ℕ) → HasRead g.S.Source.left bytes [] l.initial.reader → HasRead g.S.Source.left bytes l.events.items l.reader;
  many : length l.events.items ≡ l.counter;
}
