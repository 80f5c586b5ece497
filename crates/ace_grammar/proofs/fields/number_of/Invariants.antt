use Rattle.std.proofs.Common.{◌≡◌, ◌<◌, ◌^◌, drop}
use Rattle.ace_grammar.specs.Fields.{digits_onto}
use Rattle.ace_grammar.proofs.fields.number_of.Given as goal

abbrev pub invariant-loop-byte : goal.invariant-loop-byte
invariant-loop-byte l = record {
  below : l.number < 16 ^ l.byte-index;
  told : digits_onto l.number (drop l.byte-index l.digits) ≡ digits_onto 0 l.digits;
}
