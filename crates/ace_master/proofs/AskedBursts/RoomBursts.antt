-- The bursts by which a port makes room: one for each line that it holds and that isn't busy.
use Rattle.std.proofs.Common.{◌≡◌, ℕ, Bool, true, false, not, ◌&&◌, ◌||◌, ◌==◌, if◌then◌else◌, List, [], ◌∷◌, filter, Some, is_none, Contains, inl, inr, refl, sym, ap, subst, ◌∙◌}
use Rattle.std.specs.List.{flat_map}
use Rattle.std.proofs.lemmas.Bool.{cases_Bool, cases_eq, eq-eqb, ne_eqb, or_right}
use Rattle.std.proofs.lemmas.List.Elements.{Contains-append_right}
use Rattle.ace_codes.specs.declared.kind.AwKind.TheVariants as write
use Rattle.ace_event.specs.declared.event.Channel.TheVariants.{Write}
use Rattle.ace_event.specs.declared.event.Event.{Event}
use Rattle.ace_event.specs.declared.header.Header.{Header}
use Rattle.ace_tables.specs.States.{is_dirty, is_invalid}
use Rattle.ace_model.specs.AddressRules.{has_write, keeps_apart}
use Rattle.ace_model.specs.Kinds.{is_unique_write}
use Rattle.ace_model.specs.States.{state_of}
use Rattle.ace_model.specs.Trace.{Trace}
use Rattle.ace_model.specs.Transactions.{has_outstanding_on}
use Rattle.ace_runs.specs.HeldLines.{held_lines}
use Rattle.ace_runs.specs.Requests.{drop_bursts, free_on, room_bursts, victim_bursts, with_identifier, write_bursts}
use Rattle.ace_master_state.proofs.HeldCount.{held-there, is_in, there-held}
use Rattle.ace_master.specs.Issues.{aw_of}
use Rattle.ace_master.proofs.AskedBursts.OneBurst.{Contains-first}

-- ---- lists -------------------------------------------------------------------------------------------

-- the only burst for an element that passes the test is one of those for all that pass it
found : (f : ℕ → List (List Event)) (test : ℕ → Bool) (lines : List ℕ) (l : ℕ) (burst : List Event) → is_in l lines ≡ true → test l ≡ true → f l ≡ burst ∷ []
    → Contains (flat_map f (filter test lines)) burst
found f test [] l burst there passes is = cc
found f test (k ∷ lines) l burst there passes is =
    elim (cases_eq k l) [
      | inl same ↦
          let here : test k ≡ true = ap test same ∙ passes in
          let first : f k ≡ burst ∷ [] = ap f same ∙ is in
          rw (here, first) (Contains-first burst (flat_map f (filter test lines)))
      | inr apart ↦
          let rest = found f test lines l burst (sym (ap (λ b. b || is_in l lines) (ne_eqb k l apart)) ∙ there) passes is in
          elim (cases_Bool (test k)) [ inl t ↦ rw t (Contains-append_right (f k) _ burst rest) | inr f ↦ rw f rest ]
    ]

none-left : (test : ℕ → Bool) (lines : List ℕ) → ((l : ℕ) → is_in l lines ≡ true → test l ≡ false) → filter test lines ≡ []
none-left test [] each = refl
none-left test (k ∷ lines) each = rw (each k (first k lines)) (none-left test lines (λ l there. each l (later k l lines there)))
  where
    first : (k : ℕ) (lines : List ℕ) → is_in k (k ∷ lines) ≡ true
    first k lines = let t : (k == k) ≡ true = eq-eqb k k refl in rw t refl

    later : (k l : ℕ) (lines : List ℕ) → is_in l lines ≡ true → is_in l (k ∷ lines) ≡ true
    later k l lines there = or_right (k == l) (is_in l lines) there

-- ---- giving a line up --------------------------------------------------------------------------------

module _ (h : Header) (past : Trace) (p : ℕ) where
  abbrev is_idle : ℕ → Bool
  is_idle a = not (has_outstanding_on h past p a)

  abbrev bursts : Bool → List ℕ → List (List Event)
  bursts kept lines = if kept then [] else flat_map (victim_bursts h past p) lines

  empty : (b : Bool) → bursts b [] ≡ []
  empty true = refl
  empty false = refl

  -- there is none where each line that the port holds is busy
  pub none-for-room : ((l : ℕ) → is_invalid (state_of h past p l) ≡ false → has_outstanding_on h past p l ≡ true) → room_bursts h past p ≡ []
  none-for-room busy =
      let kept = is_none (free_on h past p Write) || has_write h past p is_unique_write in
      ap (bursts kept) (none-left is_idle (held_lines h past p) (λ l there. ap not (busy l (there-held h past p l there)))) ∙ empty kept

  module _ (i : ℕ) (free : free_on h past p Write ≡ Some i) (none : has_write h past p is_unique_write ≡ false) (l : ℕ) where
    -- a dirty line is written back
    pub dirty-victim : is_dirty (state_of h past p l) ≡ true → victim_bursts h past p l ≡ (aw_of p i write.WriteBack l ∷ []) ∷ []
    dirty-victim dirty =
        let apart : keeps_apart h past p write.WriteBack ≡ true = ap (λ b. not b && true) none in
        ap (λ b. if b then write_bursts h past p write.WriteBack l else drop_bursts p l) dirty
        ∙ ap (λ b. if b then with_identifier (free_on h past p Write) (λ i. aw_of p i write.WriteBack l ∷ []) else []) apart
        ∙ ap (λ o. with_identifier o (λ i. aw_of p i write.WriteBack l ∷ [])) free

    pub clean-victim : is_dirty (state_of h past p l) ≡ false → victim_bursts h past p l ≡ drop_bursts p l
    clean-victim clean = ap (λ b. if b then write_bursts h past p write.WriteBack l else drop_bursts p l) clean

    -- the burst that gives up a line that the port holds, and that isn't busy
    pub one-for-room : (burst : List Event) → is_invalid (state_of h past p l) ≡ false → has_outstanding_on h past p l ≡ false → victim_bursts h past p l ≡ burst ∷ []
        → Contains (room_bursts h past p) burst
    one-for-room burst held idle is =
        let kept : (is_none (free_on h past p Write) || has_write h past p is_unique_write) ≡ false = ap (λ o. is_none o || has_write h past p is_unique_write) free ∙ none in
        subst (λ b. Contains (bursts b (filter is_idle (held_lines h past p))) burst) (sym kept)
        (found (victim_bursts h past p) is_idle (held_lines h past p) l burst (held-there h past p l held) (ap not idle) is)
