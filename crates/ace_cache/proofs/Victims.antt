-- What a victim is.
use Rattle.std.proofs.Common.{◌≡◌, ℕ, if◌then◌else◌, true, false, not, List, [], ◌∷◌, reverse, find, Option, Some, None, option_map, All, arith, refl, sym, ap, ◌∙◌}
use Rattle.std.specs.Option.{option_or}
use Rattle.std.proofs.lemmas.Bool.Decides.{nat_tests}
use Rattle.std.proofs.lemmas.Grind.{reverse_onto}
use Rattle.std.proofs.lemmas.List.Folds.{find-append}
use Rattle.std.proofs.lemmas.List.Elements.{All-cons}
use Rattle.ace_cache.specs.declared.way.Way.{Way}
use Rattle.ace_cache.specs.Ways.{way_of, AreDistinct}
use Rattle.ace_cache.specs.LineCache.{CachedWays, IsCache, room_in, last_idle_of, victim_of}

-- the address of the Way in front, if it is idle
abbrev idle_of : Way → Option ℕ
idle_of w = if w.busy then None else Some w.addr

address-or : (last : Option Way) (w : Way) → option_map (λ way. way.addr) (option_or last (if not w.busy then Some w else None)) ≡ option_or (option_map (λ way. way.addr) last) (idle_of w)
address-or None w = grind (arith, nat_tests)
address-or (Some v) w = refl

-- the last of one more Way in front
last_idle_of-cons : (w : Way) (ways : List Way) → last_idle_of (w ∷ ways) ≡ option_or (last_idle_of ways) (idle_of w)
last_idle_of-cons w ways =
    ap (λ rest. option_map (λ way. way.addr) (find (λ v. not v.busy) rest)) (reverse_onto ways w [])
    ∙ ap (option_map (λ way. way.addr)) (find-append (λ v. not v.busy) (reverse ways) (w ∷ []))
    ∙ address-or (find (λ v. not v.busy) (reverse ways)) w

abbrev IsIdleAt : List Way → ℕ → Type 0
IsIdleAt ways addr = (way : Way) × (way_of ways addr ≡ Some way) × (way.busy ≡ false)

idle-step : (w : Way) (ways : List Way) (addr : ℕ) (last : Option ℕ) → way_of ways w.addr ≡ None → ((a : ℕ) → last ≡ Some a → IsIdleAt ways a) → option_or last (idle_of w) ≡ Some addr → IsIdleAt (w ∷ ways) addr
idle-step w ways addr None absent known h = (w, grind (arith, nat_tests), grind (arith, nat_tests))
idle-step w ways addr (Some a) absent known h = let found = known addr h in (found.0, grind (arith, nat_tests, found.1), found.2)

-- the last idle Way is found at its address
last_idle-found : (ways : List Way) (addr : ℕ) → AreDistinct ways → last_idle_of ways ≡ Some addr → IsIdleAt ways addr
last_idle-found [] addr distinct h = cc
last_idle-found (w ∷ ways) addr distinct h =
    idle-step w ways addr (last_idle_of ways) distinct.0 (λ a e. last_idle-found ways a distinct.1 e) (sym (last_idle_of-cons w ways) ∙ h)

pub victim-idle : (cache : CachedWays) (addr : ℕ) → IsCache cache → victim_of cache ≡ Some addr → (way : Way) × (way_of cache.held addr ≡ Some way) × (way.busy ≡ false)
victim-idle cache addr h is = last_idle-found cache.held addr h.distinct (grind (arith, nat_tests))

abbrev AllBusy : List Way → Type 0
AllBusy ways = All (λ way. way.busy ≡ true) ways

busy-step : (w : Way) (ways : List Way) (last : Option ℕ) → (last ≡ None → AllBusy ways) → option_or last (idle_of w) ≡ None → AllBusy (w ∷ ways)
busy-step w ways None known h = All-cons (λ way. way.busy ≡ true) w ways (grind (arith, nat_tests)) (known refl)
busy-step w ways (Some a) known h = cc

-- where no Way is idle, every one is busy
none_idle-busy : (ways : List Way) → last_idle_of ways ≡ None → AllBusy ways
none_idle-busy [] h = grind (arith, nat_tests)
none_idle-busy (w ∷ ways) h = busy-step w ways (last_idle_of ways) (none_idle-busy ways) (sym (last_idle_of-cons w ways) ∙ h)

pub no_victim-busy : (cache : CachedWays) → room_in cache ≡ false → victim_of cache ≡ None → AllBusy cache.held
no_victim-busy cache full is = none_idle-busy cache.held (grind (arith, nat_tests))
