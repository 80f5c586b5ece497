-- Which lines are known: those that are used; and every line of an event that begins none.
use Rattle.std.proofs.Common.{◌≡◌, ℕ, ◌+◌, ◌≤◌, arith, true, false, Bool, not, ◌&&◌, ◌||◌, if◌then◌else◌, nat_eq, [], ◌∷◌, length, Option, Some, None, slice_get, option_map, refl, sym, ap, subst, ◌∙◌, inl, inr}
use Rattle.std.proofs.lemmas.Bool.{and_parts, cases_Bool, eqb-true, eq-eqb, or_cases, not-true, and_from}
use Rattle.ace_lineck.proofs.Terms.{LineState, I, UC, UD, transfers_data, Transaction, Snoop, is_known, known_lines, names_new_line, add_line, Header, Trace, Event, Ar, R, Rk, Aw, W, B, Wk, Ac, Cr, Cd, G, M, S, L, D, Op, Mem, Read, Write, IsAccepted, is_ace, is_some_and, is_line, is_on, is_no_snoop, issued, granted, outstanding, acknowledged, next_write, answered, snoop_at, snoops_a_line, is_snoop_on, state_of, is_silent_move, is_invalid, is_unique, may_store, wants_store, awaits_store, has_store, is_make_unique_on, is_outstanding, line_in, line_of, line_of_snoop, progress_of, data_snoop_at, data_snoops, sending, use_by, newest_use, use_of, is_unknown, begins_line}
use Rattle.ace_model.proofs.General.Options.{Some-injective, is_some_and-is, some_if-is}
use Rattle.ace_model.proofs.General.Lists.{slice_get-more}
use Rattle.ace_model.proofs.Trace.Growth.{some_issued-is}
use Rattle.ace_model.proofs.Rules.Keeps.{accepted_keeps}
use Rattle.ace_model.proofs.Lines.Known.{known-issued, known-grown, known-outstanding, known-acknowledged, known-granted, known-held, known-snooped, known-write, snooped-granted}
use Rattle.ace_lineck.proofs.OnLine.{IsOff, on-transaction, on-snoop}
use Rattle.ace_portck.proofs.Own.{make_unique-on}
use Rattle.ace_lineck.proofs.RuleLaws.{issue-line}

-- a transaction uses its line in some way
use_by-known : (x : Transaction) → is_unknown (use_by x) ≡ false
use_by-known x =
    elim (cases_Bool (is_no_snoop x)) [
      | inl t ↦ rw t refl
      | inr f ↦ rw f refl
    ]

-- a line is known where it is used
pub known-used : (past : Trace) (l : ℕ) → is_known past l ≡ not (is_unknown (use_of past l))
known-used [] l = refl
known-used (e ∷ past) l = by (issued (length past) e) (known-used past l)
  where
    by : (o : Option Transaction) → is_known past l ≡ not (is_unknown (use_of past l)) → (is_some_and o (λ x. is_on x l) || is_known past l) ≡ not (is_unknown (newest_use o l (use_of past l)))
    by None before = before
    by (Some x) before =
        elim (cases_Bool (is_on x l)) [
          | inl on ↦ let some = use_by-known x in rw (on, some) refl
          | inr off ↦ rw off before
        ]

-- an event of another line leaves how the line is used
pub use-stays : (h : Header) (past : Trace) (e : Event) (l : ℕ) → IsOff h past e l → use_of (e ∷ past) l ≡ use_of past l
use-stays h past e l off = by (issued (length past) e) refl
  where
    by : (o : Option Transaction) → issued (length past) e ≡ o → newest_use o l (use_of past l) ≡ use_of past l
    by None is = refl
    by (Some x) is =
        elim (cases_Bool (is_on x l)) [
          | inr f ↦ rw f refl
          | inl on ↦
              let parts = and_parts (is_line x) (nat_eq x.addr l) on in
              let line : line_in h past e ≡ Some x.addr = rw parts.0 at (issue-line h past e x is) in
              absurd (off (line ∙ ap Some (eqb-true x.addr l parts.1)))
        ]

-- The number of known lines.
pub few-known : (past : Trace) → length (known_lines past) ≤ length past
few-known [] = omega arith
few-known (e ∷ past) = by (issued (length past) e) (few-known past)
  where
    by : (o : Option Transaction) → length (known_lines past) ≤ length past → length (add_line past o (known_lines past)) ≤ length (e ∷ past)
    by None low = omega arith
    by (Some x) low =
        elim (cases_Bool (names_new_line past x)) [
          | inl t ↦ rw t (omega arith)
          | inr f ↦ rw f (omega arith)
        ]

pub never : (b : Bool) → (b && not b) ≡ false
never true = refl
never false = refl

-- it grows where an event makes a line used
pub known-counts : (h : Header) (past : Trace) (e : Event) (l : ℕ) → line_in h past e ≡ Some l
    → length (known_lines (e ∷ past)) ≡ (if is_unknown (use_of past l) && not (is_unknown (use_of (e ∷ past) l)) then length (known_lines past) + 1 else length (known_lines past))
known-counts h past e l line = by (issued (length past) e) refl
  where
    by : (o : Option Transaction) → issued (length past) e ≡ o
        → length (add_line past o (known_lines past)) ≡ (if is_unknown (use_of past l) && not (is_unknown (newest_use o l (use_of past l))) then length (known_lines past) + 1 else length (known_lines past))
    by None is = let none = never (is_unknown (use_of past l)) in rw none refl
    by (Some x) is =
        let there = sym (issue-line h past e x is) ∙ line in
        let on : is_line x ≡ true × (x.addr ≡ l) = (let s = some_if-is (is_line x) x.addr l there in (s.0, s.1)) in
        let here : is_on x l ≡ true = and_from (is_line x) (nat_eq x.addr l) on.0 (eq-eqb x.addr l on.1) in
        let some = use_by-known x in
        let known : is_known past x.addr ≡ not (is_unknown (use_of past l)) = ap (is_known past) on.1 ∙ known-used past l in
        let line' = on.0 in
        elim (cases_Bool (is_unknown (use_of past l))) [
          | inl t ↦ rw (here, some, line', known, t) (omega arith)
          | inr f ↦ rw (here, some, line', known, f) refl
        ]

-- an event of no line leaves it
pub known-same : (h : Header) (past : Trace) (e : Event) → line_in h past e ≡ None → length (known_lines (e ∷ past)) ≡ length (known_lines past)
known-same h past e none = by (issued (length past) e) refl
  where
    by : (o : Option Transaction) → issued (length past) e ≡ o → length (add_line past o (known_lines past)) ≡ length (known_lines past)
    by None is = refl
    by (Some x) is =
        elim (cases_Bool (is_line x)) [
          | inr f ↦ rw f refl
          | inl t ↦ let bad : Some x.addr ≡ None = (sym (rw t at (issue-line h past e x is))) ∙ none in cc
        ]

-- an answered snoop is one of the trace
data_snoop-there : (past : Trace) (p n : ℕ) (s : Snoop) → slice_get (data_snoops past p) n ≡ Some s → (h : Header) → IsAccepted h past → (l : ℕ) → is_snoop_on s l ≡ true → is_known past l ≡ true
data_snoop-there [] p n s there h a l on = cc
data_snoop-there (e ∷ past) p n s there h a l on =
    elim (slice_get-more (data_snoops past p) (data_snoop_at past e p) n s there) [
      | inl old ↦ known-grown e past l (data_snoop-there past p n s old h a.0 l on)
      | inr new ↦ known-grown e past l (by e new.1)
    ]
  where
    by : (d : Event) → data_snoop_at past d p ≡ Some s → is_known past l ≡ true
    by (Cr q resp st) is =
        elim (cases_Bool (nat_eq p q && transfers_data resp)) [
          | inr f ↦ let none : None ≡ Some s = rw f at is in cc
          | inl t ↦ known-snooped h past a.0 p _ l s (rw t at is) on
        ]
    by d is = cc

silent-valid : (old new : LineState) → is_silent_move old new ≡ true → is_invalid old ≡ false
silent-valid I new e = cc
silent-valid old new e = refl

unique-valid : (st : LineState) → is_unique st ≡ true → is_invalid st ≡ false
unique-valid UC e = refl
unique-valid UD e = refl
unique-valid st e = cc

module _ (h : Header) (past : Trace) (l : ℕ) where
  -- the line of a transaction is known, where the transaction says so
  of-transaction : (o : Option Transaction) → ((x : Transaction) → o ≡ Some x → is_on x l ≡ true → is_known past l ≡ true)
      → line_of (option_map (progress_of h past) o) ≡ Some l → is_known past l ≡ true
  of-transaction o known line =
      let x = is_some_and-is o (λ x. is_on x l) (on-transaction h past o l line) in
      known x.0 x.1 x.2

  of-acknowledged : (b : Bool) (o : Option Transaction) → ((x : Transaction) → o ≡ Some x → is_on x l ≡ true → is_known past l ≡ true)
      → line_of (option_map (progress_of h past) (if b then o else None)) ≡ Some l → is_known past l ≡ true
  of-acknowledged true o known line = of-transaction o known line
  of-acknowledged false o known line = cc

  of-snoop : (o : Option Snoop) → ((s : Snoop) → o ≡ Some s → is_snoop_on s l ≡ true → is_known past l ≡ true) → line_of_snoop o ≡ Some l → is_known past l ≡ true
  of-snoop o known line =
      let s = is_some_and-is o (λ s. is_snoop_on s l) (on-snoop o l line) in
      known s.0 s.1 s.2

  -- every line of an event that begins none is known
  pub line-known : (e : Event) → IsAccepted h (e ∷ past) → begins_line e ≡ false → line_in h past e ≡ Some l → is_known past l ≡ true
  line-known (R p i resp last word) a none line = of-transaction (outstanding h past p Read i) (λ x is on. known-outstanding h past p Read i l x is on) line
  line-known (B p i resp) a none line = of-transaction (outstanding h past p Write i) (λ x is on. known-outstanding h past p Write i l x is on) line
  line-known (G p c i) a none line = of-transaction (outstanding h past p c i) (λ x is on. known-outstanding h past p c i l x is on) line
  line-known (M p c i data') a none line = of-transaction (outstanding h past p c i) (λ x is on. known-outstanding h past p c i l x is on) line
  line-known (Rk p st) a none line = of-acknowledged (is_ace h p) (acknowledged past p Read) (λ x is on. known-acknowledged past p Read l x is on) line
  line-known (Wk p st) a none line = of-acknowledged (is_ace h p) (acknowledged past p Write) (λ x is on. known-acknowledged past p Write l x is on) line
  line-known (W p strb last word) a none line = of-transaction (next_write past p) (λ x is on. known-write past p l x is on) line
  line-known (Ac p addr code) a none line =
      let s = is_some_and-is (snoop_at (length past) (Ac p addr code) p) (λ s. is_snoop_on s l) (on-snoop (snoop_at (length past) (Ac p addr code) p) l line) in
      let same = (some_if-is (nat_eq p p) (record { place = length past; addr = addr; snoop = code }) s.0 s.1).1 in
      let parts = and_parts (snoops_a_line code) (nat_eq addr l) (subst (λ (v : Snoop). is_snoop_on v l ≡ true) (sym same) s.2) in
      let x = snooped-granted h past p addr code a parts.0 in
      known-granted h past a.0 l x.0 (ap (granted h past) (sym (eqb-true addr l parts.1)) ∙ x.1)
  line-known (Cr p resp st) a none line = of-snoop (answered past p) (λ s is on. known-snooped h past a.0 p _ l s is on) line
  line-known (Cd p last word) a none line = of-snoop (sending past p) (λ s is on. data_snoop-there past p _ s is h a.0 l on) line
  line-known (S p addr st) a none line =
      let at = Some-injective addr l line in
      let held = silent-valid (state_of h past p addr) st (and_parts (is_silent_move (state_of h past p addr) st) _ (accepted_keeps h past (S p addr st) a).rule_29).0 in
      subst (λ v. is_known past v ≡ true) at (known-held h past a.0 p addr held)
  line-known (L p addr w x word) a none line =
      let at = Some-injective addr l line in
      let held = not-true (is_invalid (state_of h past p addr)) (accepted_keeps h past (L p addr w x word) a).rule_30 in
      subst (λ v. is_known past v ≡ true) at (known-held h past a.0 p addr held)
  line-known (D p addr strobe x data') a none line =
      let at = Some-injective addr l line in
      subst (λ v. is_known past v ≡ true) at
      (elim (or_cases (may_store h past p addr) _ (accepted_keeps h past (D p addr strobe x data') a).rule_32) [
        | inl may ↦ known-held h past a.0 p addr (unique-valid (state_of h past p addr) (and_parts (is_unique (state_of h past p addr)) _ may).0)
        | inr makes ↦
            let wants = (and_parts (wants_store h past p addr) _ (and_parts (wants_store h past p addr && _) _ makes).0).0 in
            let y = some_issued-is past (λ y. awaits_store h past p addr y && not (has_store h past y.port y.id)) wants in
            let awaits = (and_parts (awaits_store h past p addr y.0) _ y.2).0 in
            let out = (and_parts ((nat_eq y.0.port p && is_make_unique_on y.0 addr) && is_outstanding h past y.0) _ awaits).0 in
            let two = (and_parts (nat_eq y.0.port p && is_make_unique_on y.0 addr) _ out).0 in
            known-issued past y.0 addr y.1 (make_unique-on y.0 addr (and_parts (nat_eq y.0.port p) _ two).1)
      ])
  line-known (Op p k res) a none line = cc
  line-known (Ar p i addr code dom bar lock) a none line = cc
  line-known (Aw p i addr code dom bar) a none line = cc
  line-known (Mem addr data') a none line = cc
