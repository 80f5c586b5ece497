-- What is a certificate of a trace. It names the stores of each line in their order, and a place
-- for each read: no rule that masters and the interconnect keep is named here.
use Rattle.std.specs.Prelude.{ℕ, ◌+◌, ◌≡◌, ◌==◌, ◌↔◌, true, List, [], ◌∷◌, length, map, find, All, Contains, Option, option_map, unwrap_or}
use Rattle.std.specs.List.Sorted.{IsStrictlyIncreasing}
use Rattle.ace_model.specs.Trace.{Trace, more}
use Rattle.ace_model.specs.Lines.{is_known}
use Rattle.ace_model.specs.Values.{store_at}
use Rattle.ace_model.specs.ReadsFollow.{IsReadBy, FollowsAt}
use Rattle.ace_cert.specs.declared.cert.LineOrder.{LineOrder}
use Rattle.ace_cert.specs.declared.cert.ReadPlace.{ReadPlace}
use Rattle.ace_cert.specs.declared.cert.Cert.{Cert}

-- the numbers, from 1 on, of the events that store to the line, in order
abbrev pub store_numbers : Trace → ℕ → List ℕ
store_numbers [] l = []
store_numbers (e ∷ past) l =
    more (store_numbers past l) (option_map (λ s. length past + 1) (store_at past e l))

-- the number is that of a load, or of the AR of a read of a line with at least one beat
abbrev pub IsReadNumber : Trace → ℕ → Type 0
IsReadNumber past number =
    (n : ℕ) × ((number ≡ n + 1) × ((p : ℕ) × ((l : ℕ) × IsReadBy past p l n)))

-- the place that the list gives the read whose load or AR has so many events before it
abbrev pub place_in : List ReadPlace → ℕ → Option ℕ
place_in reads n = option_map (λ r. r.place) (find (λ (r : ReadPlace). r.event == n + 1) reads)

abbrev pub place_of : List ReadPlace → ℕ → ℕ
place_of reads n = unwrap_or (place_in reads n) 0

-- The lines are those that a line transaction names, each once, in order of address, each with the
-- numbers of its stores in order. The reads are the loads and the reads of a line with at least one
-- beat, each once, in the order of their numbers, and these places are such that all reads follow
-- the stores.
pub record IsCertificate (past : Trace) (cert : Cert) : Type 0 where
  pub lines_in_order : IsStrictlyIncreasing (map (λ (o : LineOrder). o.addr) cert.lines)
  pub lines_named : (l : ℕ) → Contains (map (λ (o : LineOrder). o.addr) cert.lines) l ↔
      (is_known past l ≡ true)
  pub stores : All (λ (o : LineOrder). o.stores ≡ store_numbers past o.addr) cert.lines
  pub reads_in_order : IsStrictlyIncreasing (map (λ (r : ReadPlace). r.event) cert.reads)
  pub reads_named : (number : ℕ) → Contains (map (λ (r : ReadPlace). r.event) cert.reads)
      number ↔ IsReadNumber past number
  pub places : FollowsAt past (place_of cert.reads)
