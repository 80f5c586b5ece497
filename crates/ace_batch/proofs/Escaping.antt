-- One byte, and the others.
use Rattle.std.proofs.Common.{◌≡◌, ◌+◌, ◌<◌, ◌≤◌, ◌++◌, ℕ, Bool, List, [], flat_map, drop, get_or, length, refl}
use Rattle.std.proofs.lemmas.List.{at_drop_more, drop_all}
use Rattle.ace_batch.specs.Escapes.{json_byte, xml_byte, xml_from}

pub json_step : (text : List ℕ) (i : ℕ) (d : ℕ) → i < length text
    → flat_map json_byte (drop i text) ≡ json_byte (get_or text i d) ++ flat_map json_byte (drop (i + 1) text)
json_step text i d within = rw (at_drop_more (flat_map json_byte) text i d within) refl

pub xml_step : (lines : Bool) (second first : ℕ) (text : List ℕ) (i : ℕ) (d : ℕ) → i < length text
    → xml_from lines second first (drop i text)
    ≡ xml_byte lines second first (get_or text i d) ++ xml_from lines first (get_or text i d) (drop (i + 1) text)
xml_step lines second first text i d within = rw (at_drop_more (xml_from lines second first) text i d within) refl

pub xml_end : (lines : Bool) (second first : ℕ) (text : List ℕ) (i : ℕ) → length text ≤ i
    → xml_from lines second first (drop i text) ≡ []
xml_end lines second first text i past = rw (drop_all i text past) refl

pub ruleset xml = (xml_step, xml_end)
