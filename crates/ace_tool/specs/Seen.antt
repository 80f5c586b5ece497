-- Which statuses occurred.
use Rattle.std.specs.Prelude.{◌≡◌, ◌==◌, ℕ, Bool, List, length, nat_lt}
use Rattle.std.specs.List.{list_any}
use Rattle.ace_tool.specs.declared.seen.Seen.{Seen}

-- this status is among them
abbrev pub occurs : ℕ → List ℕ → Bool
occurs status statuses = list_any (λ s. s == status) statuses

-- It was seen which statuses occurred.
pub record HasSeen (seen : Seen) (statuses : List ℕ) : Type 0 where
  pub some : seen.some ≡ nat_lt 0 (length statuses)
  pub refused : seen.refused ≡ occurs 1 statuses
  pub malformed : seen.malformed ≡ occurs 3 statuses
  pub broken_off : seen.broken_off ≡ occurs 8 statuses
  pub limited : seen.limited ≡ occurs 6 statuses
  pub unreadable : seen.unreadable ≡ occurs 4 statuses
  pub no_memory : seen.no_memory ≡ occurs 7 statuses
