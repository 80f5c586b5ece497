-- What a source over a reader of std is made of.
use Rattle.std.specs.Prelude.{ℕ}
use Rattle.ace_io.specs.declared.std_source.StdSource.{StdSource}

-- the reader that it takes bytes from
abbrev pub reader_of : {R : Type 0} → StdSource R → R
reader_of source = source.inner

-- how often the reader failed, up to the last number of 64 bits
abbrev pub source_faults : {R : Type 0} → StdSource R → ℕ
source_faults source = source.faults
