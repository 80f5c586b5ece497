-- What each port did, with one more event.
use Rattle.std.proofs.Common.{◌≡◌, ◌<◌, ◌≤◌, ◌+◌, ◌-◌, ◌^◌, ℕ, min, Bool, true, false, nat_eq, if◌then◌else◌, List, ◌∷◌, length, count_by, cond, Some, refl, sym, ap, ◌∙◌, arith, inl, inr}
use Rattle.std.proofs.lemmas.Bool.{cases_eq}
use Rattle.std.proofs.Math.ListN.{get_or, set}
use Rattle.std.proofs.lemmas.Grind.{get_or-set_at}
use Rattle.std.proofs.lemmas.List.{get_or-set_other, length-set}
use Rattle.std.proofs.lemmas.Option.{slice_get-get_or, get_or_from_slice_get}
use Rattle.std.proofs.lemmas.List.Sums.{count_by-le-length}
use Rattle.ace_event.specs.declared.event.Event.{Event}
use Rattle.ace_event.specs.declared.event.Event.TheVariants.{Ar, Aw, L, D}
use Rattle.ace_model.specs.Trace.{Trace}
use Rattle.ace_model.proofs.General.Lists.{count_by-cons}
use Rattle.ace_model.proofs.General.Options.{Some-injective}
use Rattle.ace_report.specs.declared.tally.PortTally.{PortTally}
use Rattle.ace_report.specs.Report.{is_load, is_store, is_read, is_write}
use Rattle.ace_report.specs.Heard.{port_tally, counted, counted_port, PortsStand}

same_port : (p q : ℕ) → Some p ≡ Some q → nat_eq q p ≡ true
same_port p q is = let e = Some-injective p q is in grind (arith, e)

other_port : (p q r : ℕ) → Some p ≡ Some q → (r ≡ q → ⊥) → nat_eq r p ≡ false
other_port p q r is apart = let e = Some-injective p q is in grind (arith, e, apart)

bounded : (n m : ℕ) → n ≤ m → m < 2 ^ 64 - 2 → min (n + 1) (2 ^ 64 - 1) ≡ 1 + n
bounded n m le few = omega (arith, le, few)

-- the count with one more, where the test holds
abbrev with_one : Bool → ℕ → ℕ
with_one b n = if b then 1 + n else n

-- the tally of a port with one more event, by what the event is to the port
abbrev next_tally : Event → Trace → ℕ → PortTally
next_tally e past q = record { loads = with_one (is_load q e) (count_by (is_load q) past); stores = with_one (is_store q e) (count_by (is_store q) past); reads = with_one (is_read q e) (count_by (is_read q) past); writes = with_one (is_write q e) (count_by (is_write q) past) }

one-counted : (test : Event → Bool) (e : Event) (past : Trace) → count_by test (e ∷ past) ≡ with_one (test e) (count_by test past)
one-counted test e past = count_by-cons test e past ∙ by (test e)
  where
    by : (b : Bool) → cond b 1 0 + count_by test past ≡ with_one b (count_by test past)
    by true = refl
    by false = omega arith

tally-cons : (e : Event) (past : Trace) (q : ℕ) → next_tally e past q ≡ port_tally (e ∷ past) q
tally-cons e past q = rw (one-counted (is_load q) e past, one-counted (is_store q) e past, one-counted (is_read q) e past, one-counted (is_write q) e past) refl

-- at the port of the event
next-there : (e : Event) (past : Trace) (q : ℕ) → counted_port e ≡ Some q → length past < 2 ^ 64 - 2 → counted e (port_tally past q) ≡ next_tally e past q
next-there (L p addr w x word) past q is few =
    let b = count_by-le-length (is_load q) past in
    rw (same_port p q is) (ap (λ n. record { loads = n; stores = count_by (is_store q) past; reads = count_by (is_read q) past; writes = count_by (is_write q) past }) (bounded _ _ b few))
next-there (D p addr strobe x line) past q is few =
    let b = count_by-le-length (is_store q) past in
    rw (same_port p q is) (ap (λ n. record { loads = count_by (is_load q) past; stores = n; reads = count_by (is_read q) past; writes = count_by (is_write q) past }) (bounded _ _ b few))
next-there (Ar p i addr snoop dom bar lock) past q is few =
    let b = count_by-le-length (is_read q) past in
    rw (same_port p q is) (ap (λ n. record { loads = count_by (is_load q) past; stores = count_by (is_store q) past; reads = n; writes = count_by (is_write q) past }) (bounded _ _ b few))
next-there (Aw p i addr snoop dom bar) past q is few =
    let b = count_by-le-length (is_write q) past in
    rw (same_port p q is) (ap (λ n. record { loads = count_by (is_load q) past; stores = count_by (is_store q) past; reads = count_by (is_read q) past; writes = n }) (bounded _ _ b few))
next-there e past q is few = cc

-- at another port
next-elsewhere : (e : Event) (past : Trace) (q r : ℕ) → counted_port e ≡ Some q → (r ≡ q → ⊥) → port_tally past r ≡ next_tally e past r
next-elsewhere (L p addr w x word) past q r is apart = rw (other_port p q r is apart) refl
next-elsewhere (D p addr strobe x line) past q r is apart = rw (other_port p q r is apart) refl
next-elsewhere (Ar p i addr snoop dom bar lock) past q r is apart = rw (other_port p q r is apart) refl
next-elsewhere (Aw p i addr snoop dom bar) past q r is apart = rw (other_port p q r is apart) refl
next-elsewhere e past q r is apart = cc

-- where the tally of the event's port is replaced by the one with the event, all tallies are those with the event
pub ports_heard : (e : Event) (past : Trace) (q : ℕ) (ps : List PortTally) (v d : PortTally) → counted_port e ≡ Some q → q < length ps → v ≡ counted e (get_or ps q d)
    → length past < 2 ^ 64 - 2 → PortsStand past ps → PortsStand (e ∷ past) (set ps q v)
ports_heard e past q ps v d is within now few stands p lt =
    let len = length-set ps q v in
    let old : p < length ps = omega (arith, lt, len) in
    elim (cases_eq p q) [
      | inl same ↦
          let before = get_or_from_slice_get ps q (port_tally past q) d (stands q within) in
          let there : v ≡ port_tally (e ∷ past) q = now ∙ ap (counted e) before ∙ next-there e past q is few ∙ tally-cons e past q in
          slice_get-get_or (set ps q v) p v lt ∙ ap (λ x. Some x) (get_or-set_at ps q p v v same within ∙ there ∙ ap (port_tally (e ∷ past)) (sym same))
      | inr apart ↦
          let before = get_or_from_slice_get ps p (port_tally past p) v (stands p old) in
          slice_get-get_or (set ps q v) p v lt ∙ ap (λ x. Some x) (get_or-set_other ps q p v v apart ∙ before ∙ next-elsewhere e past q p is apart ∙ tally-cons e past p)
    ]
