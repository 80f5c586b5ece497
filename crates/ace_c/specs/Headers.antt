-- The header that a call gives as numbers.
use Rattle.std.specs.Prelude.{ℕ, ◌==◌, ◌-◌, ◌^◌, if◌then◌else◌, map}
use Rattle.std.specs.List.{count_by, range_with_len}
use Rattle.ace_event.specs.Ports.{port_letter}
use Rattle.ace_event.specs.declared.header.Header.{Header}

-- the header with these numbers
abbrev pub given : ℕ → ℕ → ℕ → Header
given version ports ace = record { version = version; ports = ports; ace = ace }

-- how many of n ports, from this one on, have the letter
abbrev pub letters_from : ℕ → ℕ → ℕ → ℕ → ℕ
letters_from ace letter from n =
    count_by (λ other. other == letter) (map (port_letter ace) (range_with_len from n))

-- how many lines may be named by the number that is given: 0 stands for no limit, as a trace of
-- fewer than 2^64 - 1 events names fewer lines
abbrev pub limit_given : ℕ → ℕ
limit_given lines = if lines == 0 then 2 ^ 64 - 1 else lines
