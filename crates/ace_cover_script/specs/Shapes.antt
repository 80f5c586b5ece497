-- How large the run of a plan is that is made to reach points of coverage.
use Rattle.std.specs.Prelude.{ℕ, ◌+◌, ◌-◌, ◌/◌, ◌%◌, ◌^◌, ◌==◌, ◌≤◌, if◌then◌else◌}
use Rattle.ace_event.specs.declared.header.Header.{Header}
use Rattle.ace_model.specs.declared.plans.PolicyWord.{PolicyWord}
use Rattle.ace_model.specs.declared.plans.PolicyWord.TheVariants.{Keep, Eager, Mixed}
use Rattle.ace_cover_script.specs.declared.shape.Shape.{Shape}

-- By two words: 1 to 8 ports of each kind, 1, 2, 4 or 8 lines of each class, and 1 to 32 ways, of
-- which small numbers come more often.
abbrev pub shape_of : ℕ → ℕ → Shape
shape_of x y = record {
  aces = 1 + x % 8;
  lites = 1 + x / 8 % 8;
  lines = 2 ^ (x / 64 % 4);
  ways = 1 + x / 256 % 2 ^ (y % 6);
}

-- the bounds of these numbers
pub record IsShape (shape : Shape) : Type 0 where
  pub some_ace : 1 ≤ shape.aces
  pub most_aces : shape.aces ≤ 8
  pub some_lite : 1 ≤ shape.lites
  pub most_lites : shape.lites ≤ 8
  pub some_line : 1 ≤ shape.lines
  pub most_lines : shape.lines ≤ 8
  pub some_way : 1 ≤ shape.ways
  pub most_ways : shape.ways ≤ 32

-- the ACE ports, and behind them the ACE-Lite ports
abbrev pub header_of : Shape → Header
header_of shape =
    record { version = 1; ports = shape.aces + shape.lites; ace = 2 ^ shape.aces - 1 }

-- of eight numbers one after another six draw their answers to snoops
abbrev pub policy_of : ℕ → PolicyWord
policy_of n = if n % 8 == 0 then Keep else if n % 8 == 1 then Eager else Mixed n
