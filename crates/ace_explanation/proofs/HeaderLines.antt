-- How long the two lines of a header are.
use Rattle.std.proofs.Common.{◌≡◌, ◌+◌, ◌==◌, ◌++◌, Bool, true, false, if◌then◌else◌, ◌∷◌, [], codes, length, refl, arith}
use Rattle.std.proofs.lemmas.List.{length-append}
use Rattle.ace_event.specs.declared.header.Header.{Header}
use Rattle.ace_event.specs.Ports.{port_letter}
use Rattle.ace_event.specs.Text.{header_text}
use Rattle.std.proofs.lemmas.List.FromFn.{length-map-range_with_len}

-- the first line has as many bytes in each version
first_line : (one : Bool) → length ((if one then codes "ACE 1" else codes "ACE 2") ++ 10 ∷ []) ≡ 6
first_line true = refl
first_line false = refl

pub header_len : (h : Header) → length (header_text h) ≡ 13 + h.ports
header_len h =
    rw (length-append, first_line (h.version == 1), length-append, length-append, length-map-range_with_len (port_letter h.ace) 0 h.ports) (omega arith)
