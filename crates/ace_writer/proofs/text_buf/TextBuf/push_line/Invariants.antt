use Rattle.std.proofs.Common.{◌≡◌, ◌+◌, ◌*◌, ◌++◌, ◌∷◌, length, take}
use Rattle.std.specs.List.{flat_map}
use Rattle.ace_event.specs.Text.{hex_text}
use Rattle.ace_writer.proofs.text_buf.TextBuf.push_line.Given as goal

abbrev pub invariant-loop-word : goal.invariant-loop-word
invariant-loop-word l = record {
  len : length l.self ≡ length l.fn.self + 1 + 32 * l.word-index;
  text : l.self ≡ l.fn.self ++ 32 ∷ flat_map (hex_text 32) (take l.word-index l.line.words);
}
