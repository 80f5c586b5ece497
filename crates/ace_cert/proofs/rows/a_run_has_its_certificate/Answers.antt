use Rattle.std.proofs.Common.{◌≡◌, ℕ, zero, suc, ◌+◌, ◌<◌, ◌≤◌, true, [], ◌∷◌, reverse, slice_get, slice_index, Some, refl, subst, arith}
use Rattle.ace_codes.specs.Reads.{ar_kind_of}
use Rattle.ace_event.specs.Bytes.{merged}
use Rattle.ace_model.proofs.General.Lists.{slice_get-all}
use Rattle.ace_cert.specs.declared.cert.LineOrder.{LineOrder}
use Rattle.ace_cert.specs.declared.cert.ReadPlace.{ReadPlace}
use Rattle.ace_cert.specs.Checks.{AreInOrder, IsOrderOf, all_pass, is_read_number}
use Rattle.ace_cert.specs.Worked.{loads_and_stores, one_line, placed_late, two_reads, without_load, without_store, worked_cert}
use Rattle.ace_cert.proofs.Elements.{all-from_places}
use Rattle.ace_cert.proofs.Exact.{certificate-from_checks, checks-from_certificate}
use Rattle.ace_cert.proofs.rows.a_run_has_its_certificate.Goals as goal

passes : all_pass one_line two_reads (reverse loads_and_stores) ≡ true
unfolding ar_kind_of merged
passes = refl

order : (k : ℕ) (o : LineOrder) → slice_get one_line k ≡ Some o → IsOrderOf (reverse loads_and_stores) o
unfolding ar_kind_of merged
order zero o there =
    let one : LineOrder = record { addr = 0x40; stores = 10 ∷ [] } in
    let is : one ≡ o = cc in
    subst (IsOrderOf (reverse loads_and_stores)) is (refl, refl)
order (suc k) o there = cc

read : (k : ℕ) (r : ReadPlace) → slice_get two_reads k ≡ Some r → is_read_number (reverse loads_and_stores) r.event ≡ true
unfolding ar_kind_of merged
read zero r there = let one : ReadPlace = record { event = 1; place = 2 } in let is : one ≡ r = cc in subst (λ (v : ReadPlace). is_read_number (reverse loads_and_stores) v.event ≡ true) is refl
read (suc zero) r there = let one : ReadPlace = record { event = 8; place = 7 } in let is : one ≡ r = cc in subst (λ (v : ReadPlace). is_read_number (reverse loads_and_stores) v.event ≡ true) is refl
read (suc (suc k)) r there = cc

in_order : AreInOrder (reverse (reverse loads_and_stores)) two_reads
in_order zero zero a b less at_i at_j same = absurd (omega arith)
in_order zero (suc zero) a b less at_i at_j same =
    let first : ReadPlace = record { event = 1; place = 2 } in
    let later : ReadPlace = record { event = 8; place = 7 } in
    let is_a : first ≡ a = cc in
    let is_b : later ≡ b = cc in
    subst (λ (v : ReadPlace). v.place ≤ b.place) is_a (subst (λ (v : ReadPlace). 2 ≤ v.place) is_b (omega arith))
in_order zero (suc (suc j)) a b less at_i at_j same = cc
in_order (suc i) zero a b less at_i at_j same = absurd (omega arith)
in_order (suc i) (suc zero) a b less at_i at_j same = absurd (omega arith)
in_order (suc i) (suc (suc j)) a b less at_i at_j same = cc

rises : (k : ℕ) → k + 1 < 2 → slice_index (1 ∷ 8 ∷ []) k < slice_index (1 ∷ 8 ∷ []) (k + 1)
rises zero low = omega arith
rises (suc k) low = absurd (omega arith)

pub returns-clause-certificate : goal.returns-clause-certificate
returns-clause-certificate c = certificate-from_checks (reverse loads_and_stores) worked_cert (record {
  lines_rise = λ k low. absurd (omega arith);
  reads_rise = rises;
  passes = passes;
  orders = all-from_places (IsOrderOf (reverse loads_and_stores)) one_line order;
  reads = all-from_places (λ (r : ReadPlace). is_read_number (reverse loads_and_stores) r.event ≡ true) two_reads read;
  in_order = in_order;
})

pub returns-clause-late : goal.returns-clause-late
unfolding ar_kind_of merged
returns-clause-late c = λ is. let p = (checks-from_certificate (reverse loads_and_stores) placed_late is).passes in cc

pub returns-clause-no_load : goal.returns-clause-no_load
unfolding ar_kind_of merged
returns-clause-no_load c = λ is. let p = (checks-from_certificate (reverse loads_and_stores) without_load is).passes in cc

pub returns-clause-no_store : goal.returns-clause-no_store
unfolding ar_kind_of merged
returns-clause-no_store c = λ is.
    let line : LineOrder = record { addr = 0x40; stores = [] } in
    let s = slice_get-all (IsOrderOf (reverse loads_and_stores)) (line ∷ []) 0 line (checks-from_certificate (reverse loads_and_stores) without_store is).orders refl in
    let stores = s.1 in cc
