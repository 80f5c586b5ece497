-- Maps by lines that have room for the lines that the transactions of a trace name.
use Rattle.std.proofs.Common.{◌≡◌, ℕ, ◌+◌, ◌≤◌, ◌<◌, true, false, ◌||◌, nat_eq, [], ◌∷◌, length, Option, Some, None, is_some, IsSome, refl, sym, ap, subst, ◌∙◌, inl, inr, arith, List}
use Rattle.ace_portck.proofs.Terms.{nat_eq_equiv, HashMap, get, hash_map_len, keys, spare, IsUnique, list_any, AllByRecursion, Event, Transaction, add_line, is_known, known_lines, Trace, is_some_and, is_line, is_on, issued, HasRoomForLines}
use Rattle.std.proofs.lemmas.Bool.{cases_Bool, cases_eq, eqb-true, or_cases}
use Rattle.std.proofs.lemmas.Map.Entries.{length-keys_of}
use Rattle.std.proofs.lemmas.Map.Keys.{IsDistinct-cons}
use Rattle.std.proofs.lemmas.Map.Made.{is_some-lookup, length-le_from_is_member}
use Rattle.ace_model.proofs.Lines.Known.{known-grown}

-- the known lines are those of the list
pub known-listed : (past : Trace) (q : ℕ) → list_any (nat_eq q) (known_lines past) ≡ is_known past q
known-listed [] q = refl
known-listed (e ∷ past) q = by (known-listed past q) (issued (length past) e)
  where
    by : list_any (nat_eq q) (known_lines past) ≡ is_known past q → (o : Option Transaction)
        → list_any (nat_eq q) (add_line past o (known_lines past)) ≡ (is_some_and o (λ x. is_on x q) || is_known past q)
    by before None = before
    by before (Some x) =
        elim (cases_Bool (is_line x)) [
          | inr f ↦ rw f before
          | inl t ↦ elim (cases_Bool (is_known past x.addr)) [
            | inr new ↦ rw (t, new) (ap (λ b. nat_eq q x.addr || b) before ∙ ap (λ b. b || is_known past q) (turn q x.addr))
            | inl old ↦ rw (t, old) (before ∙ there q x.addr old)
          ]
        ]
      where
        turn : (a b : ℕ) → nat_eq a b ≡ nat_eq b a
        turn a b = grind arith

        there : (q l : ℕ) → is_known past l ≡ true → is_known past q ≡ (nat_eq l q || is_known past q)
        there q l old =
            elim (cases_Bool (nat_eq l q)) [
              | inr f ↦ rw f refl
              | inl t ↦ rw t (ap (is_known past) (sym (eqb-true l q t)) ∙ old)
            ]

none-is-it : (l : ℕ) (ks : List ℕ) → list_any (nat_eq l) ks ≡ false → AllByRecursion (λ k. nat_eq l k ≡ false) ks
none-is-it l [] none = tt
none-is-it l (k ∷ ks) none =
    elim (cases_Bool (nat_eq l k)) [
      | inl t ↦ let bad : true ≡ false = rw t at none in cc
      | inr f ↦ (f, none-is-it l ks (rw f at none))
    ]

module _ {X S : Type 0} where
  -- it keeps its room as the trace grows
  pub room-stays : (lines : ℕ) (e : Event) (past : Trace) (m : HashMap ℕ X S) → HasRoomForLines lines past m → HasRoomForLines lines (e ∷ past) m
  room-stays lines e past m room = record { places = room.places; known = λ l there. known-grown e past l (room.known l there); unique = room.unique }

  -- and where the lines stay that it has
  pub room-same : (lines : ℕ) (past : Trace) (m n : HashMap ℕ X S) → HasRoomForLines lines past m → ((l : ℕ) → is_some (get nat_eq n l) ≡ is_some (get nat_eq m l))
      → hash_map_len m ≤ hash_map_len n → spare m ≤ spare n → IsUnique nat_eq n → HasRoomForLines lines past n
  room-same lines past m n room same len left unique =
      let places = room.places in
      record { places = omega (arith, places, len, left); known = λ l there. room.known l (sym (same l) ∙ there); unique = unique }

  -- and with one more line, which is known
  pub room-with : (lines : ℕ) (past : Trace) (m n : HashMap ℕ X S) (line : ℕ) → HasRoomForLines lines past m → is_known past line ≡ true
      → ((l : ℕ) → (l ≡ line → ⊥) → get nat_eq n l ≡ get nat_eq m l) → hash_map_len n ≡ hash_map_len m + 1 → spare m ≤ spare n + 1
      → IsUnique nat_eq n → HasRoomForLines lines past n
  room-with lines past m n line room new others len left unique =
      let places = room.places in
      record {
        places = omega (arith, places, len, left);
        known = λ l there. elim (cases_eq l line) [
          | inl same ↦ subst (λ k. is_known past k ≡ true) (sym same) new
          | inr other ↦ room.known l (subst IsSome (others l other) there)
        ];
        unique = unique;
      }

  -- it isn't full, where a known line isn't in it and no more lines are known than there is room for
  pub room-for-line : (lines : ℕ) (past : Trace) (m : HashMap ℕ X S) (line : ℕ) → HasRoomForLines lines past m → get nat_eq m line ≡ None
      → is_known past line ≡ true → length (known_lines past) ≤ lines → hash_map_len m < lines
  room-for-line lines past m line room none new few =
      let off : list_any (nat_eq line) (keys m) ≡ false = sym (is_some-lookup (nat_eq line) m.entries) ∙ ap is_some none in
      let distinct = IsDistinct-cons nat_eq line (keys m) (none-is-it line (keys m) off) room.unique in
      let within : length (line ∷ keys m) ≤ length (known_lines past) = length-le_from_is_member nat_eq_equiv (line ∷ keys m) (known_lines past) distinct (λ q one. known-listed past q ∙ known q one) in
      let long = length-keys_of m.entries in
      omega (arith, within, long, few)
    where
      known : (q : ℕ) → (nat_eq q line || list_any (nat_eq q) (keys m)) ≡ true → is_known past q ≡ true
      known q one =
          elim (or_cases (nat_eq q line) _ one) [
            | inl here ↦ subst (λ k. is_known past k ≡ true) (sym (eqb-true q line here)) new
            | inr there ↦ room.known q (is_some-lookup (nat_eq q) m.entries ∙ there)
          ]
