-- The walk by which the place of a line is found.
use Rattle.std.specs.Prelude.{ℕ, zero, suc, ◌≡◌, ◌+◌, ◌*◌, ◌/◌, ◌%◌, ◌^◌, ◌<◌, ◌≤◌, ◌==◌, nat_lt, if◌then◌else◌, List, length, slice_index, slice_index_or, ⊤}
use Rattle.ace_places.specs.declared.walk.Look.{Look}
use Rattle.ace_places.specs.declared.walk.Look.TheVariants.{Ends, IsHere, LeadsTo}
use Rattle.ace_places.specs.declared.walk.End.{End}
use Rattle.ace_places.specs.declared.walk.End.TheVariants.{IsAt, IsFree}

-- the slot of the line's number, where its walk begins
abbrev pub first_slot : ℕ → ℕ
first_slot line = line / 64 % 1024

-- the digits of the line, the next one lowest: the bits above its number, then those below
abbrev pub first_digits : ℕ → ℕ
first_digits line = line / 65536 + line % 64 * 65536

-- the slot of the place for the next digit
abbrev pub slot_below : ℕ → ℕ → ℕ
slot_below place digits = 1024 + 16 * place + digits % 16

-- the link at the slot; where there is none, it leads nowhere
abbrev pub link_at : List ℕ → ℕ → ℕ
link_at links slot = slice_index_or links slot 4294967295

module _ (lines : List ℕ) (link : ℕ → ℕ) (line : ℕ) where
  -- what the slot says of the line, where these lines have places
  abbrev pub read_slot : ℕ → Look
  read_slot slot =
      if nat_lt (link slot) (length lines)
      then (if slice_index lines (link slot) == line then IsHere (link slot)
      else LeadsTo (link slot))
      else Ends

  -- where the walk ends that reads this at a slot
  abbrev pub after_look : ℕ → (ℕ → End) → Look → End
  after_look slot on Ends = IsFree slot
  after_look slot on (IsHere place) = IsAt place
  after_look slot on (LeadsTo place) = on place

  -- where the walk of the line ends from this slot, with these digits left, within so many steps
  abbrev pub walk : ℕ → ℕ → ℕ → End
  walk zero slot digits = IsFree slot
  walk (suc n) slot digits =
      after_look slot (λ place. walk n (slot_below place digits) (digits / 16)) (read_slot slot)

-- how many steps a walk takes at most: one for the number of the line, and one for each digit
abbrev pub steps : ℕ
steps = 7

-- the digits of a line from digit k on
abbrev pub digits_from : ℕ → ℕ → ℕ
digits_from zero digits = digits
digits_from (suc k) digits = digits_from k (digits / 16)

-- the first k digits are the same
abbrev pub AreAlike : ℕ → ℕ → ℕ → Type 0
AreAlike zero a b = ⊤
AreAlike (suc k) a b = (a % 16 ≡ b % 16) × AreAlike k (a / 16) (b / 16)

-- the lines have the same number and the same first k digits
abbrev pub HaveSameStart : ℕ → ℕ → ℕ → Type 0
HaveSameStart k a b = (first_slot a ≡ first_slot b) × AreAlike k (first_digits a) (first_digits b)

-- Each line that has a place is found there. A first slot leads to a line with its number, and the
-- slot of a place to a line with the digits of the place's line as far as that lies below the
-- first, and with the slot's digit next.
pub record IsTree (lines links : List ℕ) : Type 0 where
  pub found : (i : ℕ) → i < length lines
      → walk lines (link_at links) (slice_index lines i) steps
      (first_slot (slice_index lines i)) (first_digits (slice_index lines i)) ≡ IsAt i
  pub depth : ℕ → ℕ
  pub first : (s : ℕ) → s < 1024 → link_at links s < length lines
      → (depth (link_at links s) ≡ 0) × (first_slot (slice_index lines (link_at links s)) ≡ s)
  pub below : (p c : ℕ) → p < length lines → c < 16
      → link_at links (1024 + 16 * p + c) < length lines
      → (depth (link_at links (1024 + 16 * p + c)) ≡ depth p + 1)
      × HaveSameStart (depth p) (slice_index lines (link_at links (1024 + 16 * p + c)))
      (slice_index lines p)
      × (digits_from (depth p)
      (first_digits (slice_index lines (link_at links (1024 + 16 * p + c)))) % 16 ≡ c)
  pub empty : (s : ℕ) → length lines ≤ link_at links s → link_at links s ≡ 4294967295
  pub small : (i : ℕ) → slice_index lines i < 2 ^ 32
  pub slots : 0 < length links → length links ≡ 1024 + 16 * length lines
  pub none : length links ≡ 0 → length lines ≡ 0
