-- What may stand in a trace may stand in the trace that is written of it.
use Rattle.std.proofs.Common.{◌≡◌, ◌⊎◌, ℕ, refl, sym, inl, inr, arith}
use Rattle.ace_event.specs.declared.header.Header.{Header}
use Rattle.ace_event.specs.declared.event.Event.{Event}
use Rattle.ace_event.specs.declared.event.Event.TheVariants.{Ar, R, Rk, Aw, W, B, Wk, Ac, Cr, Cd, G, M, S, L, D, Op, Mem}
use Rattle.ace_event.specs.Ports.{IsHeader}
use Rattle.ace_event.specs.Range.{InRange, IsPort}
use Rattle.ace_convert.specs.declared.conversion.Conversion.{Conversion}
use Rattle.ace_convert.specs.declared.conversion.Conversion.TheVariants.{Show, Migrate, Pack, Unpack}
use Rattle.ace_convert.specs.Spelling.{header_written}

-- What a trace of the one version may have, one of the other may have too.
abbrev pub Allows : ℕ → ℕ → Type 0
Allows from to = (event : Event) → InRange from event → InRange to event

-- a port of one digit is one of two
wide : (port : ℕ) → IsPort 1 port → IsPort 2 port
wide port p = omega arith

later : (event : Event) → InRange 1 event → InRange 2 event
later (Ar port id addr snoop dom bar lock) (p, i, a, s, d, b) = (wide port p, i, a, s, d, b)
later (R port id resp last word) (p, i, r, w) = (wide port p, i, r, w)
later (Rk port st) p = wide port p
later (Aw port id addr snoop dom bar) (p, i, a, s, d, b) = (wide port p, i, a, s, d, b)
later (W port strb last word) (p, s, w) = (wide port p, s, w)
later (B port id resp) (p, i, r) = (wide port p, i, r)
later (Wk port st) p = wide port p
later (Ac port addr snoop) (p, a, s) = (wide port p, a, s)
later (Cr port resp st) (p, r) = (wide port p, r)
later (Cd port last word) (p, w) = (wide port p, w)
later (G port chan id) (p, i) = (wide port p, i)
later (M port chan id line) (p, i, l) = (wide port p, i, l)
later (S port addr st) (p, a) = (wide port p, a)
later (L port addr w x word) (p, a, n, v) = (wide port p, a, n, v)
later (D port addr strobe x line) (p, a, s, l) = (wide port p, a, s, l)
later (Op port k res) (p, n) = (wide port p, n)
later (Mem addr line) (other, a, l) = absurd (other refl)

allows_later : (version : ℕ) → (version ≡ 1) ⊎ (version ≡ 2) → Allows version 2
allows_later version (inl one) = rw one later
allows_later version (inr two) = rw two (λ event r. r)

-- the trace that is written may have what was read
pub written_allows : (conversion : Conversion) (header : Header) (from to : ℕ) (event : Event) → from ≡ header.version → to ≡ (header_written conversion header).version → IsHeader header
    → InRange from event → InRange to event
written_allows Show header from to event same is h r = rw is (rw (sym same) r)
written_allows Migrate header from to event same is h r = rw is (allows_later header.version h.version event (rw (sym same) r))
written_allows Pack header from to event same is h r = rw is (rw (sym same) r)
written_allows Unpack header from to event same is h r = rw is (rw (sym same) r)
