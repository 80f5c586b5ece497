-- The records: their fields behind the record word, in order.
use Rattle.std.proofs.Common.{ℕ}
use Rattle.ace_grammar.specs.Records.{ArFields, RFields, RkFields, AwFields, WFields, BFields, WkFields, AcFields, CrFields, CdFields, GFields, MFields, SFields, LFields, DFields, OpFields, MemFields}
use Rattle.ace_grammar.proofs.Texts.Exact.{Rest, last, ◌then◌}
use Rattle.ace_grammar.proofs.Texts.FieldTexts.{digit, port, two_bits, write_snoop, response, place, address, strobe_of_word, strobe_of_line, word, flag, channel, state, outcome}
use Rattle.ace_grammar.proofs.Texts.CacheLines.{line}

abbrev pub ar : ℕ → Rest ArFields
ar version = port version then digit then address then digit then two_bits then two_bits then last flag

abbrev pub r : ℕ → Rest RFields
r version = port version then digit then digit then flag then last word

abbrev pub rk : ℕ → Rest RkFields
rk version = port version then state

abbrev pub aw : ℕ → Rest AwFields
aw version = port version then digit then address then write_snoop then two_bits then last two_bits

abbrev pub w : ℕ → Rest WFields
w version = port version then strobe_of_word then flag then last word

abbrev pub b : ℕ → Rest BFields
b version = port version then digit then last two_bits

abbrev pub wk : ℕ → Rest WkFields
wk version = port version then state

abbrev pub ac : ℕ → Rest AcFields
ac version = port version then address then last digit

abbrev pub cr : ℕ → Rest CrFields
cr version = port version then response then state

abbrev pub cd : ℕ → Rest CdFields
cd version = port version then flag then last word

abbrev pub g : ℕ → Rest GFields
g version = port version then channel then last digit

abbrev pub m : ℕ → Rest MFields
m version = port version then channel then digit then line

abbrev pub s : ℕ → Rest SFields
s version = port version then address then state

abbrev pub l : ℕ → Rest LFields
l version = port version then address then two_bits then flag then last word

abbrev pub d : ℕ → Rest DFields
d version = port version then address then strobe_of_line then flag then line

abbrev pub op : ℕ → Rest OpFields
op version = port version then place then outcome

abbrev pub mem : Rest MemFields
mem = address then line
