-- What becomes of the address of an event that a program gave.
use Rattle.std.proofs.Common.{◌≡◌, ◌<◌, ◌+◌, ◌*◌, ◌/◌, ◌%◌, ◌^◌, ℕ, Bool, true, false, if◌then◌else◌, List, Option, Some, None, is_some, option_map, refl, sym, ap, ◌∙◌, arith}
use Rattle.ace_event.specs.declared.event.Event.{Event}
use Rattle.ace_event.specs.declared.event.Event.TheVariants.{Ar, Aw, Ac, S, L, D, Mem}
use Rattle.ace_model.specs.AddressRules.{line_address}
use Rattle.ace_c.specs.Names.{line_used, name_in, named_event, with_address}
use Rattle.ace_c.specs.Range.{FitsAddress, InRange}

if-some : (c : Bool) (a b : ℕ) → (if c then Some b else None) ≡ option_map (λ _. b) (if c then Some a else None)
if-some true a b = refl
if-some false a b = refl

-- its line is that of the address
pub line-given : (e : Event) (a : ℕ) → line_address (with_address e a) ≡ option_map (λ _. a) (line_address e)
line-given (Ar port id addr snoop dom bar lock) a = if-some _ addr a
line-given (Aw port id addr snoop dom bar) a = if-some _ addr a
line-given (Ac port addr snoop) a = if-some _ addr a
line-given (S port addr st) a = refl
line-given (L port addr w x word) a = refl
line-given (D port addr strobe x line) a = refl
line-given (Mem addr line) a = refl
line-given _ a = refl

mapped-some : (o : Option ℕ) (a : ℕ) → is_some o ≡ true → option_map (λ _. a) o ≡ Some a
mapped-some None a some = let bad : false ≡ true = some in cc
mapped-some (Some x) a some = refl

mapped-none : (o : Option ℕ) (a : ℕ) → is_some o ≡ false → option_map (λ _. a) o ≡ None
mapped-none None a none = refl
mapped-none (Some x) a none = let bad : true ≡ false = none in cc

pub line-some : (e : Event) (a : ℕ) → is_some (line_address e) ≡ true → line_address (with_address e a) ≡ Some a
line-some e a some = line-given e a ∙ mapped-some (line_address e) a some

pub line-none : (e : Event) (a : ℕ) → is_some (line_address e) ≡ false → line_address (with_address e a) ≡ None
line-none e a none = line-given e a ∙ mapped-none (line_address e) a none

pub used-some : (e : Event) (a : ℕ) → is_some (line_address e) ≡ true → line_used (with_address e a) ≡ Some (a / 64)
used-some e a some = ap (option_map (λ addr. addr / 64)) (line-some e a some)

pub used-none : (e : Event) (a : ℕ) → is_some (line_address e) ≡ false → line_used (with_address e a) ≡ None
used-none e a none = ap (option_map (λ addr. addr / 64)) (line-none e a none)

-- the address that it got last stands
pub readdressed : (e : Event) (a b : ℕ) → with_address (with_address e a) b ≡ with_address e b
readdressed (Ar port id addr snoop dom bar lock) a b = refl
readdressed (Aw port id addr snoop dom bar) a b = refl
readdressed (Ac port addr snoop) a b = refl
readdressed (S port addr st) a b = refl
readdressed (L port addr w x word) a b = refl
readdressed (D port addr strobe x line) a b = refl
readdressed (Mem addr line) a b = refl
readdressed _ a b = refl

-- ---- with no line ----

short-by : (c : Bool) (own addr short : ℕ) → is_some (if c then Some own else None) ≡ false → FitsAddress c addr → (addr < 2 ^ 32 → short ≡ addr) → short ≡ addr
short-by true own addr short none fits same = let bad : true ≡ false = none in cc
short-by false own addr short none fits same = same fits

-- an address that isn't that of a line has four bytes
pub short-enough : (version : ℕ) (e : Event) (addr short : ℕ) → is_some (line_address e) ≡ false → InRange version (with_address e addr) → (addr < 2 ^ 32 → short ≡ addr)
    → with_address e short ≡ with_address e addr
short-enough version (Ar port id own snoop dom bar lock) addr short none range same =
    rw (short-by _ own addr short none range.2 same) refl
short-enough version (Aw port id own snoop dom bar) addr short none range same =
    rw (short-by _ own addr short none range.2 same) refl
short-enough version (Ac port own snoop) addr short none range same =
    rw (short-by _ own addr short none range.1 same) refl
short-enough version (S port own st) addr short none range same = let bad : true ≡ false = none in cc
short-enough version (L port own w x word) addr short none range same = let bad : true ≡ false = none in cc
short-enough version (D port own strobe x line) addr short none range same = let bad : true ≡ false = none in cc
short-enough version (Mem own line) addr short none range same = let bad : true ≡ false = none in cc
short-enough version _ addr short none range same = refl

-- ---- with one ----

-- by the name of its line
pub named-given : (e : Event) (addr k place : ℕ) (lines : List ℕ) → is_some (line_address e) ≡ true → name_in lines (addr / 64) ≡ Some k → place ≡ 64 * k + addr % 64
    → with_address e place ≡ named_event lines (with_address e addr)
named-given e addr k place lines some name is =
    let line = line-some e addr some in
    rw (line, name) (ap (with_address e) is ∙ sym (readdressed e addr (64 * k + addr % 64)))

-- the bytes of an address whose line has a name
pub place-of : (k a : ℕ) → k < 67108864 → a < 64 → (k * 64 % 2 ^ 32 + a) % 2 ^ 32 ≡ 64 * k + a
place-of k a few little = omega (arith, few, little)
