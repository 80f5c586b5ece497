-- The results of the exclusive stores, event by event.
use Rattle.std.proofs.Common.{◌≡◌, ℕ, ◌<◌, ◌*◌, Bool, true, false, ◌&&◌, nat_eq, if◌then◌else◌, [], ◌∷◌, length, Option, Some, None, get_or, replicate, slice_set, refl, sym, ap, ◌∙◌, inl, inr, length-set}
use Rattle.std.proofs.lemmas.List.{length-replicate}
use Rattle.std.proofs.lemmas.Bool.{cases_Bool, and_parts}
use Rattle.ace_sysck.proofs.Terms.{Transaction, Event, Ar, Read, Header, Trace, is_read, same_channel, is_exclusive_store, given, issued, is_named, has_name, passed_at_grant, store_result, is_clean_unique, is_some_and, newer, store_passes, Recording, Results, ResultsStand, slot_of, after}
use Rattle.ace_sysck.proofs.Tables.{repeated, set_at, same_slot, slot_within}

-- an exclusive store is a read
store_reads : (x : Transaction) → is_exclusive_store x ≡ true → same_channel x.chan Read ≡ true
store_reads x store =
    elim (cases_Bool (is_read x.chan)) [
      | inl t ↦ rw t refl
      | inr f ↦ let bad : is_some_and None is_clean_unique ≡ true = rw f at (and_parts x.lock _ store).1 in cc
    ]

-- an AR ends what is known under its name
at_ar : (past : Trace) (q j addr snoop dom bar : ℕ) (lock : Bool) (p i : ℕ)
    → passed_at_grant (Ar q j addr snoop dom bar lock ∷ past) p i ≡ (if nat_eq q p && nat_eq j i then None else passed_at_grant past p i)
at_ar past q j addr snoop dom bar lock p i =
    elim (cases_Bool (nat_eq q p)) [
      | inl t ↦ rw t refl
      | inr f ↦ rw f refl
    ]

-- a G of an exclusive store says under its name whether it passes
at_store : (past : Trace) (e : Event) (x : Transaction) (passes : Bool) (p i : ℕ) → issued (length past) e ≡ None → given past e ≡ Some x
    → is_exclusive_store x ≡ true → passes ≡ store_passes past x
    → passed_at_grant (e ∷ past) p i ≡ (if nat_eq x.port p && nat_eq x.id i then Some passes else passed_at_grant past p i)
at_store past e x passes p i unissued grants store result =
    elim (cases_Bool (nat_eq x.port p)) [
      | inl t ↦ elim (cases_Bool (nat_eq x.id i)) [
        | inl u ↦ rw (unissued, grants, t, u, store_reads x store, store, result) refl
        | inr f ↦ rw (unissued, grants, t, f, store_reads x store) refl
      ]
      | inr f ↦ rw (unissued, grants, f) refl
    ]

-- a transaction that is no exclusive store has no result
no_result : (past : Trace) (o : Option Transaction) (p i : ℕ) → is_some_and o is_exclusive_store ≡ false → store_result past o p i ≡ None
no_result past None p i plain = refl
no_result past (Some x) p i plain =
    elim (cases_Bool (has_name x p Read i)) [
      | inl t ↦ rw (t, plain) refl
      | inr f ↦ rw f refl
    ]

-- any other event leaves all as it is
at_other : (past : Trace) (e : Event) (p i : ℕ) → is_named (issued (length past) e) p Read i ≡ false
    → is_some_and (given past e) is_exclusive_store ≡ false → passed_at_grant (e ∷ past) p i ≡ passed_at_grant past p i
at_other past e p i unnamed plain =
    rw unnamed (ap (λ o. newer o (passed_at_grant past p i)) (no_result past (given past e) p i plain))

-- a table in which the place of one name is set stands after an event that says so of that name
results_set : (r : Recording) (s t : Results) (e : Event) (q j : ℕ) (v : Option Bool) → ResultsStand r s → q < r.header.ports → j < 256
    → t.passed.items ≡ slice_set s.passed.items (slot_of q j) v
    → ((p i : ℕ) → passed_at_grant (e ∷ r.past) p i ≡ (if nat_eq q p && nat_eq j i then v else passed_at_grant r.past p i))
    → ResultsStand (after r e) t
results_set r s t e q j v stands within low items says = record {
  size = ap length items ∙ length-set s.passed.items (slot_of q j) v ∙ stands.size;
  passed = λ p i small.
      ap (λ l. get_or l (slot_of p i) None) items
      ∙ set_at s.passed.items (slot_of q j) (slot_of p i) v None (slot_within q j r.header.ports (length s.passed.items) low within stands.size)
      ∙ rw (same_slot q j p i low small, stands.passed p i small) (sym (says p i));
}

pub results_ar : (r : Recording) (s t : Results) (q j addr snoop dom bar : ℕ) (lock : Bool) → ResultsStand r s → q < r.header.ports → j < 256
    → t.passed.items ≡ slice_set s.passed.items (slot_of q j) None → ResultsStand (after r (Ar q j addr snoop dom bar lock)) t
results_ar r s t q j addr snoop dom bar lock stands within low items =
    results_set r s t (Ar q j addr snoop dom bar lock) q j None stands within low items (at_ar r.past q j addr snoop dom bar lock)

pub results_store : (r : Recording) (s t : Results) (e : Event) (x : Transaction) (passes : Bool) → ResultsStand r s → x.port < r.header.ports → x.id < 256
    → issued (length r.past) e ≡ None → given r.past e ≡ Some x → is_exclusive_store x ≡ true → passes ≡ store_passes r.past x
    → t.passed.items ≡ slice_set s.passed.items (slot_of x.port x.id) (Some passes) → ResultsStand (after r e) t
results_store r s t e x passes stands within low unissued grants store result items =
    results_set r s t e x.port x.id (Some passes) stands within low items (λ p i. at_store r.past e x passes p i unissued grants store result)

pub results_stay : (r : Recording) (s : Results) (e : Event) → ((p i : ℕ) → is_named (issued (length r.past) e) p Read i ≡ false)
    → is_some_and (given r.past e) is_exclusive_store ≡ false → ResultsStand r s → ResultsStand (after r e) s
results_stay r s e unnamed plain stands = record {
  size = stands.size;
  passed = λ p i small. stands.passed p i small ∙ sym (at_other r.past e p i (unnamed p i) plain);
}

-- no write is named as a read
pub write_unnamed : (x : Transaction) (p i : ℕ) → same_channel x.chan Read ≡ false → has_name x p Read i ≡ false
write_unnamed x p i write =
    elim (cases_Bool (nat_eq x.port p)) [
      | inl t ↦ rw (t, write) refl
      | inr f ↦ rw f refl
    ]

-- the results of the empty trace
pub results_fresh : (h : Header) (s : Results) → s.passed.items ≡ replicate (h.ports * 256) None → ResultsStand (record { header = h; past = [] }) s
results_fresh h s is = record {
  size = ap length is ∙ length-replicate (h.ports * 256) None;
  passed = λ p i low. ap (λ xs. get_or xs (slot_of p i) None) is ∙ repeated (h.ports * 256) (slot_of p i) None;
}

-- a G of any other transaction
pub results_other_grant : (r : Recording) (s : Results) (e : Event) (x : Transaction) → issued (length r.past) e ≡ None → given r.past e ≡ Some x → is_exclusive_store x ≡ false
    → ResultsStand r s → ResultsStand (after r e) s
results_other_grant r s e x unissued grants plain stands =
    results_stay r s e (λ p i. ap (λ o. is_named o p Read i) unissued) (ap (λ o. is_some_and o is_exclusive_store) grants ∙ plain) stands
