-- How much there can be in a plan.
use Rattle.std.specs.Prelude.{ℕ}

-- the most snoops at one port
abbrev pub most_snoops : ℕ
most_snoops = 24576

-- the most lines that transactions name
abbrev pub most_lines : ℕ
most_lines = 4096
