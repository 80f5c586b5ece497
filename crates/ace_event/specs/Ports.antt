-- The ports of a header.
use Rattle.std.specs.Prelude.{◌≡◌, ℕ, ◌<◌, ◌≤◌, ◌^◌, ◌⊎◌, ◌==◌, if◌then◌else◌, nat_lt, List, map, Option, Some, None}
use Rattle.std.specs.List.{range_with_len, count_by}
use Rattle.std.specs.Int.{bit_at}
use Rattle.ace_event.specs.declared.header.Header.{Header}
use Rattle.ace_event.specs.declared.header.PortKind.{PortKind}
use Rattle.ace_event.specs.declared.header.PortKind.TheVariants.{Ace, Lite}

-- what stands behind port p, where the header has it
abbrev pub port_kind : Header → ℕ → Option PortKind
port_kind header p =
    if nat_lt p header.ports then Some (if bit_at header.ace p == 1 then Ace else Lite) else None

-- `A` for an ACE port, `L` for an ACE-Lite port
abbrev pub port_letter : ℕ → ℕ → ℕ
port_letter ace p = if bit_at ace p == 1 then 65 else 76

-- the letters of the ports, from port 0 on
abbrev pub port_letters : Header → List ℕ
port_letters header = map (port_letter header.ace) (range_with_len 0 header.ports)

-- the most letters of each kind in a trace of a version: 8 in version 1, 16 in version 2
abbrev pub most_letters : ℕ → ℕ
most_letters version = if version == 1 then 8 else 16

-- The header of two header lines: version 1 or 2, one port or more, at most 8 of each kind in
-- version 1 and at most 16 in version 2, and no bit of `ace` for a port that isn't there. So
-- version 1 has at most 16 ports, and version 2 at most 32.
pub record IsHeader (header : Header) : Type 0 where
  pub version : (header.version ≡ 1) ⊎ (header.version ≡ 2)
  pub some_port : 1 ≤ header.ports
  pub most_ports : header.ports ≤ 32
  pub most_ace : count_by (λ letter. letter == 65) (port_letters header)
      ≤ most_letters header.version
  pub most_lite : count_by (λ letter. letter == 76) (port_letters header)
      ≤ most_letters header.version
  pub no_other : header.ace < 2 ^ header.ports
