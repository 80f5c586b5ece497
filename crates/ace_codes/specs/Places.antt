-- Where a kind of transaction stands: its AxBAR, its AxDOMAIN and its AxSNOOP (Arm IHI 0022E,
-- C3.1).
use Rattle.std.specs.Prelude.{ℕ, Bool, ◌&&◌, ◌||◌, ◌==◌, if◌then◌else◌, List, [], ◌∷◌, Option, Some, None}
use Rattle.ace_codes.specs.declared.channel.Domain.{Domain}
use Rattle.ace_codes.specs.declared.channel.Domain.TheVariants.{NonShareable, Inner, Outer, System}
use Rattle.ace_codes.specs.declared.channel.Bar.{Bar}
use Rattle.ace_codes.specs.declared.channel.Bar.TheVariants.{Normal, Memory, Ignoring, Synchronisation}

-- what a table has for the code
abbrev pub entry : {K : Type 0} → ℕ → List (ℕ × K) → Option K
entry code [] = None
entry code (row ∷ rows) = if code == row.0 then Some row.1 else entry code rows

-- AxDOMAIN
abbrev pub domains : List (ℕ × Domain)
domains =
    (0, NonShareable)
    ∷ (1, Inner)
    ∷ (2, Outer)
    ∷ (3, System)
    ∷ []

abbrev pub domain_of : ℕ → Option Domain
domain_of code = entry code domains

-- AxBAR
abbrev pub bars : List (ℕ × Bar)
bars =
    (0, Normal)
    ∷ (1, Memory)
    ∷ (2, Ignoring)
    ∷ (3, Synchronisation)
    ∷ []

abbrev pub bar_of : ℕ → Option Bar
bar_of code = entry code bars

-- the bars and the domains in which a kind stands, and its code
abbrev pub Place : Type 0
Place = (ℕ → Bool) × (ℕ → Bool) × ℕ

-- a normal access, which is ordered by barriers or ignores them
abbrev pub is_normal : ℕ → Bool
is_normal bar = (bar == 0) || (bar == 2)

-- a memory or a synchronisation barrier
abbrev pub is_barrier : ℕ → Bool
is_barrier bar = (bar == 1) || (bar == 3)

-- Non-shareable and System
abbrev pub is_unshared : ℕ → Bool
is_unshared domain = (domain == 0) || (domain == 3)

-- Inner and Outer Shareable
abbrev pub is_shareable : ℕ → Bool
is_shareable domain = (domain == 1) || (domain == 2)

-- every domain
abbrev pub is_domain : ℕ → Bool
is_domain domain = is_unshared domain || is_shareable domain

-- the bar and the domain are among those of the place
abbrev pub is_in : Place → ℕ → ℕ → Bool
is_in place domain bar = place.0 bar && place.1 domain

-- the numbers are those of the place
abbrev pub is_at : Place → ℕ → ℕ → ℕ → Bool
is_at place code domain bar = is_in place domain bar && (code == place.2)
