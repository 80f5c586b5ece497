-- The registrations, event by event.
use Rattle.std.proofs.Common.{◌≡◌, ℕ, ◌*◌, ◌%◌, ◌^◌, ◌<◌, ◌≤◌, true, false, not, ◌&&◌, ◌||◌, nat_eq, nat_lt, if◌then◌else◌, bit_or, ◌∷◌, Option, Some, None, IsSome, unwrap_or, refl, sym, ap, subst, ◌∙◌, arith, inl, inr, w32}
use Rattle.ace_sysck.proofs.Terms.{bit_at, get, Transaction, Event, G, Header, Trace, is_some_and, is_line, is_on, is_exclusive_store, outstanding, given, IsAccepted, is_registered, port_of, option_map, Target, Progress, Recording, target_of, progress_of, Registrations, RegistrationsStand, locked_in, locked_of, grants_locked, was_locked, registered_bits, kept_bits, after}
use Rattle.std.proofs.lemmas.Bool.{cases_Bool, cases_eq, and_parts, eq-eqb, ne_eqb, le-ltb}
use Rattle.std.proofs.lemmas.Nat.Bits.{bit_at_set_same, bit_at_set_other, bit_at_above, bit_at-zero}
use Rattle.ace_sysck.proofs.Steps.{granted_one, port_within}
use Rattle.ace_model.proofs.General.Options.{Some-injective, some_where-is}
use Rattle.ace_model.proofs.Trace.Issued.{outstanding-named, outstanding-name}

-- the bits with one more set
pub bit_set : (bits q p : ℕ) → q < 32 → nat_eq (bit_at (bit_or bits (1 * 2 ^ q % 4294967296)) p) 1 ≡ (nat_eq q p || nat_eq (bit_at bits p) 1)
bit_set bits q p low =
    elim (cases_eq q p) [
      | inl same ↦ rw (eq-eqb q p same) (eq-eqb _ 1 (ap (bit_at (bit_or bits (1 * 2 ^ q % 4294967296))) (sym same) ∙ bit_at_set_same w32 bits q low))
      | inr off ↦ rw (ne_eqb q p off) (ap (λ b. nat_eq b 1) (bit_at_set_other w32 bits q low p (λ s. off (sym s))))
    ]

-- no bit is set from the width on
pub bit_unset : (bits q : ℕ) → bits < 2 ^ 32 → 32 ≤ q → nat_lt q 32 ≡ nat_eq (bit_at bits q) 1
bit_unset bits q small high = rw (le-ltb q 32 high, bit_at_above bits 32 q small high) refl

-- What it says of an event that it grants a line to a transaction with lock 1.
pub record Locks (h : Header) (past : Trace) (e : Event) (x : Transaction) : Type 0 where
  pub grants : given past e ≡ Some x
  pub lock : x.lock ≡ true
  pub line : is_line x ≡ true
  pub registered : (p l : ℕ) → is_registered (e ∷ past) p l
      ≡ (if x.lock && is_on x l then nat_eq x.port p || (not (is_exclusive_store x && is_registered past x.port l) && is_registered past p l) else is_registered past p l)
  pub named : port_of e ≡ Some x.port

locked_of-is : (o : Option Transaction) (of : Transaction → Progress) → ((y : Transaction) → (of y).transaction ≡ y) → (x : Transaction)
    → locked_of (option_map of o) ≡ Some x → (o ≡ Some x) × (x.lock ≡ true) × (is_line x ≡ true)
locked_of-is None of own x is = cc
locked_of-is (Some y) of own x is =
    let there : (if y.lock && is_line y then Some y else None) ≡ Some x = subst (λ (z : Transaction). (if z.lock && is_line z then Some z else None) ≡ Some x) (own y) is in
    let s = some_where-is (λ z. z.lock && is_line z) y x there in
    let parts = and_parts x.lock (is_line x) s.1 in
    (ap Some s.0, parts.0, parts.1)

pub locked-at : (h : Header) (past : Trace) (e : Event) (t : Target) (x : Transaction) → t ≡ target_of h past e → locked_in e t ≡ Some x → Locks h past e x
locked-at h past (G q c j) t x own is =
    let o = locked_of-is (outstanding h past q c j) (progress_of h past) (λ y. refl) x (ap (λ (v : Target). locked_of v.transaction) (sym own) ∙ is) in
    let named = outstanding-named h past q c j x o.0 in
    let name = outstanding-name h past q c j x o.0 in
    record {
      grants = named;
      lock = o.1;
      line = o.2;
      registered = λ p l. elim (cases_Bool (x.lock && is_on x l)) [
        | inl t ↦ rw (named, t) refl
        | inr f ↦ rw (named, f) refl
      ];
      named = ap Some (sym name.port);
    }
locked-at h past e t x own is = cc

-- an accepted event that grants no line to a transaction with lock 1
no_lock : (x : Transaction) (l : ℕ) → (x.lock && is_line x) ≡ false → (x.lock && is_on x l) ≡ false
no_lock x l plain =
    elim (cases_Bool x.lock) [
      | inl t ↦ let f : is_line x ≡ false = rw t at plain in rw (t, f) refl
      | inr f ↦ rw f refl
    ]

record Unlocked (past : Trace) (e : Event) : Type 0 where
  pub registered : (p l : ℕ) → is_registered (e ∷ past) p l ≡ is_registered past p l
  pub locked : (l : ℕ) → grants_locked past e l ≡ false

unlocked_given : (o : Option Transaction) (of : Transaction → Progress) → ((y : Transaction) → (of y).transaction ≡ y) → (x : Transaction) → o ≡ Some x
    → locked_of (option_map of o) ≡ None → (x.lock && is_line x) ≡ false
unlocked_given None of own x is none = cc
unlocked_given (Some y) of own x is none =
    let there : (if y.lock && is_line y then Some y else None) ≡ None = subst (λ (z : Transaction). (if z.lock && is_line z then Some z else None) ≡ None) (own y) none in
    elim (cases_Bool (y.lock && is_line y)) [
      | inl t ↦ let bad : Some y ≡ None = rw t at there in cc
      | inr f ↦ subst (λ (z : Transaction). (z.lock && is_line z) ≡ false) (Some-injective y x is) f
    ]

unlocked-at : (h : Header) (past : Trace) (e : Event) (t : Target) → IsAccepted h (e ∷ past) → t ≡ target_of h past e → locked_in e t ≡ None → Unlocked past e
unlocked-at h past (G q c j) t accepted own none =
    let g = granted_one h past q c j accepted in
    let x : Transaction = g.0 in
    let plain = unlocked_given (outstanding h past q c j) (progress_of h past) (λ y. refl) x g.1 (ap (λ (v : Target). locked_of v.transaction) (sym own) ∙ none) in
    record {
      registered = λ p l. rw (g.2, no_lock x l plain) refl;
      locked = λ l. ap (λ o. is_some_and o (λ z. z.lock && is_on z l)) g.2 ∙ no_lock x l plain;
    }
unlocked-at h past e t accepted own none = record { registered = λ p l. refl; locked = λ l. refl }

pub registrations_stay : (r : Recording) (s : Registrations) (e : Event) (t : Target) → IsAccepted r.header (e ∷ r.past) → t ≡ target_of r.header r.past e
    → locked_in e t ≡ None → RegistrationsStand r s → RegistrationsStand (after r e) s
registrations_stay r s e t accepted own none stands =
    let u = unlocked-at r.header r.past e t accepted own none in
    record {
      lines = λ p l. stands.lines p l ∙ sym (u.registered p l);
      known = λ l known. stands.known l (rw (u.locked l) at known);
    }

-- the bits of the line once it is granted: `kept` are those of the ports whose registration doesn't end
bits_after : (x : Transaction) (p bits : ℕ) (kept : ℕ) → kept ≡ (if is_exclusive_store x && nat_eq (bit_at bits x.port) 1 then 0 else bits)
    → (nat_eq x.port p || nat_eq (bit_at kept p) 1)
    ≡ (nat_eq x.port p || (not (is_exclusive_store x && nat_eq (bit_at bits x.port) 1) && nat_eq (bit_at bits p) 1))
bits_after x p bits kept is =
    elim (cases_Bool (is_exclusive_store x && nat_eq (bit_at bits x.port) 1)) [
      | inl t ↦ let zero : kept ≡ 0 = rw t at is in rw (t, zero, bit_at-zero p) refl
      | inr f ↦ let all : kept ≡ bits = rw f at is in rw (f, all) refl
    ]

-- the registrations stand once the line of the transaction has the new bits, and each other line those that it had
pub registrations_lock : (r : Recording) (s n : Registrations) (e : Event) (t : Target) (x : Transaction) (kept new : ℕ) → IsAccepted r.header (e ∷ r.past) → r.header.ports ≤ 32
    → t ≡ target_of r.header r.past e → locked_in e t ≡ Some x → RegistrationsStand r s
    → kept ≡ kept_bits x (registered_bits s x.addr)
    → (x.port < 32 → (p : ℕ) → nat_eq (bit_at new p) 1 ≡ (nat_eq x.port p || nat_eq (bit_at kept p) 1))
    → get nat_eq n.lines x.addr ≡ Some new → ((l : ℕ) → (l ≡ x.addr → ⊥) → get nat_eq n.lines l ≡ get nat_eq s.lines l)
    → RegistrationsStand (after r e) n
registrations_lock r s n e t x kept new accepted few own is stands keeps sets here there = record {
  lines = λ p l. lines p l;
  known = known;
}
  where
    k : Locks r.header r.past e x
    k = locked-at r.header r.past e t x own is

    low : x.port < 32
    low = let within = port_within r.header r.past e x.port accepted k.named in omega arith

    at_line : (p : ℕ) → nat_eq (bit_at (registered_bits n x.addr) p) 1 ≡ is_registered (e ∷ r.past) p x.addr
    at_line p =
        ap (λ o. nat_eq (bit_at (unwrap_or o 0) p) 1) here ∙ sets low p ∙ bits_after x p (registered_bits s x.addr) kept keeps
        ∙ rw (stands.lines p x.addr, stands.lines x.port x.addr) (sym (k.registered p x.addr ∙ rw (k.lock, k.line, eq-eqb x.addr x.addr refl) refl))

    lines : (p l : ℕ) → nat_eq (bit_at (registered_bits n l) p) 1 ≡ is_registered (e ∷ r.past) p l
    lines p l =
        elim (cases_eq l x.addr) [
          | inl same ↦ subst (λ m. nat_eq (bit_at (registered_bits n m) p) 1 ≡ is_registered (e ∷ r.past) p m) (sym same) (at_line p)
          | inr off ↦
              ap (λ o. nat_eq (bit_at (unwrap_or o 0) p) 1) (there l off) ∙ stands.lines p l
              ∙ sym (k.registered p l ∙ rw (k.lock, k.line, ne_eqb x.addr l (λ q. off (sym q))) refl)
        ]

    known : (l : ℕ) → was_locked (e ∷ r.past) l ≡ true → IsSome (get nat_eq n.lines l)
    known l was =
        elim (cases_eq l x.addr) [
          | inl same ↦ subst (λ o. IsSome o) (sym (ap (get nat_eq n.lines) same ∙ here)) refl
          | inr off ↦
              let other : grants_locked r.past e l ≡ false = rw (k.grants, k.lock, k.line, ne_eqb x.addr l (λ q. off (sym q))) refl in
              subst (λ o. IsSome o) (sym (there l off)) (stands.known l (rw other at was))
        ]

-- a line without a place was granted to no transaction with lock 1
pub never_locked : (r : Recording) (s : Registrations) (l : ℕ) → RegistrationsStand r s → get nat_eq s.lines l ≡ None → was_locked r.past l ≡ false
never_locked r s l stands none =
    elim (cases_Bool (was_locked r.past l)) [
      | inl t ↦ let bad : false ≡ true = subst (λ o. IsSome o) none (stands.known l t) in cc
      | inr f ↦ f
    ]
