-- What a sink over a writer of std is made of.
use Rattle.std.specs.Prelude.{ℕ}
use Rattle.ace_io.specs.declared.std_sink.StdSink.{StdSink}

-- the writer that it hands bytes to
abbrev pub writer_of : {W : Type 0} → StdSink W → W
writer_of sink = sink.inner

-- how often the writer failed or took nothing, up to the last number of 64 bits
abbrev pub sink_faults : {W : Type 0} → StdSink W → ℕ
sink_faults sink = sink.faults
