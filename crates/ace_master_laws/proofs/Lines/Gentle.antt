-- Events that bring no line into a port's cache and make none dirty: all but its stores and the RKs of the reads that bring a line in.
use Rattle.std.proofs.Common.{◌≡◌, ℕ, Bool, true, false, not, ◌&&◌, ◌||◌, ◌==◌, nat_eq, if◌then◌else◌, ◌∷◌, length, Some, inl, inr, refl, sym, ap, ◌∙◌, arith, ltb-true}
use Rattle.std.specs.List.{list_all}
use Rattle.std.proofs.lemmas.Bool.{and_parts, and_from, cases_Bool, lt-ltb, not-true, or_cases, or_left, or_right}
use Rattle.ace_codes.specs.declared.kind.ArKind.{ArKind}
use Rattle.ace_codes.specs.declared.kind.ArKind.TheVariants as read
use Rattle.ace_codes.specs.declared.state.LineState.{LineState}
use Rattle.ace_codes.specs.declared.state.LineState.TheVariants.{I}
use Rattle.ace_codes.specs.Responses.{is_shared, passes_dirty}
use Rattle.ace_event.specs.declared.event.Channel.TheVariants.{Read}
use Rattle.ace_event.specs.declared.event.Event.{Event}
use Rattle.ace_event.specs.declared.event.Event.TheVariants.{Rk, D}
use Rattle.ace_event.specs.declared.header.Header.{Header}
use Rattle.ace_event.specs.declared.line.Line.{Line}
use Rattle.ace_tables.specs.EndStates.{end_states_of_read, ends_read, is_fetch}
use Rattle.ace_tables.specs.States.{is_dirty, is_invalid}
use Rattle.ace_model.specs.declared.plans.Op.{Op}
use Rattle.ace_model.specs.declared.plans.Op.TheVariants as op
use Rattle.ace_model.specs.declared.transactions.Transaction.{Transaction}
use Rattle.ace_model.specs.Accepted.{IsAccepted}
use Rattle.ace_model.specs.Kinds.{is_make_unique}
use Rattle.ace_model.specs.ReadRules.{ends_well, held_of, is_end}
use Rattle.ace_model.specs.Exclusives.{has_failed}
use Rattle.ace_model.specs.States.{has_store, state_of}
use Rattle.ace_model.specs.Trace.{Trace, implies, is_some_and}
use Rattle.ace_model.specs.Transactions.{acknowledged, first_resp, is_line, read_kind}
use Rattle.ace_model.proofs.General.Booleans.{each_flags}
use Rattle.ace_model.proofs.General.Options.{is_none_or-at}
use Rattle.ace_model.proofs.Holders.Acknowledge.{is_named_by_rk}
use Rattle.ace_model.proofs.Holders.Lessened.{less_by, lessened_by}
use Rattle.ace_model.proofs.Holders.RestsOn.{accepted_keeps_each}
use Rattle.ace_model.proofs.Holders.Rises.{ends_line_of}
use Rattle.ace_model.proofs.Rules.Keeps.{accepted_keeps}
use Rattle.ace_model.proofs.Trace.Issued.{outstanding-name}
use Rattle.ace_runs.proofs.Few.Queues.{eqb-swap}
use Rattle.ace_model.proofs.Tables.Less.{less-clean}
use Rattle.ace_model.proofs.Tables.States.{all_among, each_state, is_invalid-is}
use Rattle.ace_runs.specs.HeldLines.{held_lines}
use Rattle.ace_runs.specs.Requests.{has_room}
use Rattle.ace_master_laws.specs.Orderly.{brings_line, has_lost, is_cleared, is_settled, owns_line, takes_line, wants_way}
use Rattle.ace_model.specs.Progress.{updates_memory}
use Rattle.ace_runs.specs.Acts.{is_act_transaction}
use Rattle.ace_master_laws.proofs.Lines.HeldLines.{RaisesNone, held-not-more}

-- ---- the table ---------------------------------------------------------------------------------------

-- a read that brings no line in ends dirty only where the line was so
abbrev dirt_fits : ArKind → LineState → Bool → Bool → Bool → LineState → Bool
dirt_fits k held shared pass failed st = implies (is_dirty st) (is_dirty held || takes_line k)

dirt_ends : (k : ArKind) (held : LineState) (shared pass failed : Bool) → list_all (dirt_fits k held shared pass failed) (end_states_of_read k held shared pass failed) ≡ true
dirt_ends read.Barrier = each_state _ (each_flags _ refl) (each_flags _ refl) (each_flags _ refl) (each_flags _ refl) (each_flags _ refl)
dirt_ends k = each_state _ (each_flags _ refl) (each_flags _ refl) (each_flags _ refl) (each_flags _ refl) (each_flags _ refl)

-- ---- events ------------------------------------------------------------------------------------------

-- the event is a store of the port
abbrev pub is_store_at : ℕ → Event → Bool
is_store_at p (D q addr strobe x line) = q == p
is_store_at p _ = false

-- The event is no RK of a read of the port that brings a line in.
abbrev pub BringsNone : Trace → ℕ → Event → Type 0
BringsNone past p (Rk q st) = q ≡ p → is_some_and (acknowledged past p Read) brings_line ≡ false
BringsNone past p _ = Unit {0}

-- The event brings no line in, and makes none dirty.
pub record IsGentle (h : Header) (past : Trace) (p : ℕ) (e : Event) : Type 0 where
  pub raises : RaisesNone h past e p
  pub cleans : (l : ℕ) → is_dirty (state_of h past p l) ≡ false → is_dirty (state_of h (e ∷ past) p l) ≡ false

none-taken : (k : ArKind) → takes_line k ≡ false → (is_fetch k ≡ true → ⊥) × (is_make_unique k ≡ true → ⊥)
none-taken k f =
    ((λ t. let bad : true ≡ false = sym (or_left (is_fetch k) (is_make_unique k) t) ∙ f in cc), (λ t. let bad : true ≡ false = sym (or_right (is_fetch k) (is_make_unique k) t) ∙ f in cc))

valid-or : (b : Bool) → (b ≡ false → ⊥) → b ≡ true
valid-or true n = refl
valid-or false n = absurd (n refl)

module _ (h : Header) (past : Trace) (p q : ℕ) (st : LineState) (a : IsAccepted h (Rk q st ∷ past)) (none : q ≡ p → is_some_and (acknowledged past p Read) brings_line ≡ false) where
  -- the read whose end the RK is brings no line in
  module _ (l : ℕ) (t : is_named_by_rk past q p l ≡ true) where
    ended-kind : takes_line (ends_line_of h past q st a p l t).kind ≡ false
    ended-kind =
        let d = ends_line_of h past q st a p l t in
        let next : acknowledged past p Read ≡ Some d.one = ap (λ r. acknowledged past r Read) d.port ∙ d.ends_it in
        sym (ap (λ o. is_some_and o takes_line) d.is_kind) ∙ sym (ap (λ o. is_some_and o brings_line) next) ∙ none (sym d.port)

    ended-raises : is_invalid (state_of h past p l) ≡ true → is_invalid st ≡ true
    ended-raises inv =
        let d = ends_line_of h past q st a p l t in
        let n = none-taken d.kind ended-kind in
        valid-or (is_invalid st) (λ some. elim (d.state.gains inv some) [ inl fetch ↦ n.0 fetch | inr make ↦ n.1 make ])

  rk-raises : RaisesNone h past (Rk q st) p
  rk-raises l inv =
      elim (cases_Bool (is_named_by_rk past q p l)) [
        | inr f ↦ rw f inv
        | inl t ↦ let gone = ended-raises l t inv in rw t gone
      ]

  -- nor does it make one dirty
  module _ (l : ℕ) (t : is_named_by_rk past q p l ≡ true) where
    ended-cleans : is_dirty (state_of h past p l) ≡ false → is_dirty st ≡ false
    ended-cleans clean =
        let d = ends_line_of h past q st a p l t in
        let on = and_parts (is_line d.one) (nat_eq d.one.addr l) d.on in
        let name = outstanding-name h past p Read d.id d.one d.out in
        let held : held_of h past d.one ≡ state_of h past p l =
        ap (λ b. if b then state_of h past d.one.port d.one.addr else I) on.0 ∙ ap (λ r. state_of h past r d.one.addr) name.port ∙ ap (state_of h past p) d.line in
        let well = is_none_or-at (acknowledged past q Read) (ends_well h past st) d.one (accepted_keeps h past (Rk q st) a).rule_23 d.ends_it in
        let end = is_none_or-at (read_kind d.one) (is_end h past d.one st) d.kind well d.is_kind in
        let shared = is_some_and (first_resp past d.one.port d.one.id) is_shared in
        let pass = is_some_and (first_resp past d.one.port d.one.id) passes_dirty in
        let failed = has_failed past d.one in
        let among = (and_parts (ends_read d.kind (held_of h past d.one) shared pass failed st) (implies (is_make_unique d.kind) (has_store h past d.one.port d.one.id)) end).0 in
        let fits = all_among (dirt_fits d.kind (held_of h past d.one) shared pass failed) (end_states_of_read d.kind (held_of h past d.one) shared pass failed) st among (dirt_ends d.kind (held_of h past d.one) shared pass failed) in
        dry (is_dirty st) (is_dirty (held_of h past d.one)) (takes_line d.kind) fits (ap is_dirty held ∙ clean) (ended-kind l t)
      where
        dry : (a b c : Bool) → implies a (b || c) ≡ true → b ≡ false → c ≡ false → a ≡ false
        dry true b c i m n = let bad : false ≡ true = rw (m, n) at i in cc
        dry false b c i m n = refl

  rk-cleans : (l : ℕ) → is_dirty (state_of h past p l) ≡ false → is_dirty (state_of h (Rk q st ∷ past) p l) ≡ false
  rk-cleans l clean =
      elim (cases_Bool (is_named_by_rk past q p l)) [
        | inr f ↦ rw f clean
        | inl t ↦ let dry = ended-cleans l t clean in rw t dry
      ]

-- a store of another port leaves the port's states
store-leaves : (h : Header) (past : Trace) (p q addr strobe : ℕ) (x : Bool) (line : Line) (l : ℕ) → (q == p) ≡ false
    → state_of h (D q addr strobe x line ∷ past) p l ≡ state_of h past p l
store-leaves h past p q addr strobe x line l other = let back : (p == q) ≡ false = eqb-swap p q ∙ other in rw back refl

-- Such an event is gentle.
pub gentle : (h : Header) (past : Trace) (p : ℕ) (e : Event) → IsAccepted h (e ∷ past) → is_store_at p e ≡ false → BringsNone past p e → IsGentle h past p e
gentle h past p (Rk q st) a stores none = record { raises = rk-raises h past p q st a none; cleans = rk-cleans h past p q st a none }
gentle h past p (D q addr strobe x line) a stores none =
    record {
      raises = λ l inv. ap is_invalid (store-leaves h past p q addr strobe x line l stores) ∙ inv;
      cleans = λ l clean. ap is_dirty (store-leaves h past p q addr strobe x line l stores) ∙ clean;
    }
gentle h past p e a stores none =
    record {
      raises = λ l inv. ap is_invalid ((lessened_by h past e (accepted_keeps_each h past e a) refl l p).gone (is_invalid-is (state_of h past p l) inv));
      cleans = λ l clean. less-clean (state_of h past p l) (state_of h (e ∷ past) p l) (less_by h past e (accepted_keeps_each h past e a) refl p l) clean;
    }

-- ---- what stays --------------------------------------------------------------------------------------

module _ (h : Header) (past : Trace) (p : ℕ) (e : Event) (g : IsGentle h past p e) where
  room-stays : (ways : ℕ) → has_room ways h past p ≡ true → has_room ways h (e ∷ past) p ≡ true
  room-stays ways room =
      let low = ltb-true (length (held_lines h past p)) ways room in
      let few = held-not-more h past e p g.raises in
      lt-ltb (length (held_lines h (e ∷ past) p)) ways (omega (arith, low, few))

  wants-room : (ways : ℕ) (o : Op) → (wants_way o && has_room ways h past p) ≡ true → (wants_way o && has_room ways h (e ∷ past) p) ≡ true
  wants-room ways o c = let parts = and_parts (wants_way o) (has_room ways h past p) c in and_from _ _ parts.0 (room-stays ways parts.1)

  clean-stays : (l : ℕ) → not (is_dirty (state_of h past p l)) ≡ true → not (is_dirty (state_of h (e ∷ past) p l)) ≡ true
  clean-stays l c = ap not (g.cleans l (not-true (is_dirty (state_of h past p l)) c))

  -- what is cleared stays so
  pub cleared-stays : (ways : ℕ) (o : Op) → is_cleared ways h past p o ≡ true → is_cleared ways h (e ∷ past) p o ≡ true
  cleared-stays ways (op.Ro l) c = g.raises l c
  cleared-stays ways (op.Ci l) c = g.raises l c
  cleared-stays ways (op.Mi l) c = g.raises l c
  cleared-stays ways (op.Wu l strobe line) c = g.raises l c
  cleared-stays ways (op.Wlu l line) c = g.raises l c
  cleared-stays ways (op.Cs l) c = clean-stays l c
  cleared-stays ways o c = wants-room ways o c

  lost-stays : (o : Op) → has_lost h past p o ≡ true → has_lost h (e ∷ past) p o ≡ true
  lost-stays (op.St l w word) c = g.raises l c
  lost-stays o c = cc

  pub settled-stays : (ways : ℕ) (o : Op) (x : Transaction) → is_settled ways h past p o x ≡ true → is_settled ways h (e ∷ past) p o x ≡ true
  settled-stays ways o x c =
      elim (or_cases (is_act_transaction x || (updates_memory x && is_cleared ways h past p o)) (owns_line x && has_lost h past p o) c) [
        | inr lost ↦
            let parts = and_parts (owns_line x) (has_lost h past p o) lost in
            or_right (is_act_transaction x || (updates_memory x && is_cleared ways h (e ∷ past) p o)) _ (and_from _ _ parts.0 (lost-stays o parts.1))
        | inl some ↦ or_left _ (owns_line x && has_lost h (e ∷ past) p o) (elim (or_cases (is_act_transaction x) (updates_memory x && is_cleared ways h past p o) some) [
          | inl act ↦ or_left (is_act_transaction x) _ act
          | inr clears ↦
              let parts = and_parts (updates_memory x) (is_cleared ways h past p o) clears in
              or_right (is_act_transaction x) _ (and_from _ _ parts.0 (cleared-stays ways o parts.1))
        ])
      ]
