-- Where a port makes an exclusive store, it watches the line: by the rule of exclusive stores, and by the law that between an exclusive load and
-- its store no other port stored to the line.
use Rattle.std.proofs.Common.{◌≡◌, ℕ, Bool, true, false, not, ◌&&◌, ◌==◌, [], ◌∷◌, refl, sym, ap, ◌∙◌, inl, inr}
use Rattle.std.proofs.lemmas.Bool.{and_parts, or_left, or_right, cases_Bool, eqb-true, eq-eqb, not-true}
use Rattle.ace_event.specs.declared.event.Event.{Event}
use Rattle.ace_event.specs.declared.event.Event.TheVariants.{L, D}
use Rattle.ace_event.specs.declared.header.Header.{Header}
use Rattle.ace_event.specs.declared.line.Line.{Line}
use Rattle.ace_tables.specs.States.{is_invalid}
use Rattle.ace_model.specs.Accepted.{IsAccepted}
use Rattle.ace_model.specs.ExclusiveHolds.{disturbs, has_exclusive_load, is_exclusive_load, is_undisturbed}
use Rattle.ace_model.specs.Monitors.{is_monitored, is_set_by}
use Rattle.ace_model.specs.States.{state_of}
use Rattle.ace_model.specs.Trace.{Trace}
use Rattle.ace_model.proofs.Exclusives.Law.{accepted_exclusive_holds}
use Rattle.ace_model.proofs.Rules.Keeps.{accepted_keeps}
use Rattle.ace_history.specs.Watched.{is_watched, watched_by}

-- where the port's monitor is set, it has made an exclusive load
monitored-loads : (h : Header) (past : Trace) (p a : ℕ) → is_monitored h past p a ≡ true → has_exclusive_load past p ≡ true
monitored-loads h [] p a m = cc
monitored-loads h (e ∷ past) p a m =
    by-event (monitored-loads h past p a) e (and_parts (is_set_by e p a (is_monitored h past p a)) (not (is_invalid (state_of h (e ∷ past) p a))) m).0
  where
    earlier : (is_monitored h past p a ≡ true → has_exclusive_load past p ≡ true) → (e : Event) → is_monitored h past p a ≡ true
        → has_exclusive_load (e ∷ past) p ≡ true
    earlier loads e was = or_right (is_exclusive_load e p) (has_exclusive_load past p) (loads was)

    by-event : (is_monitored h past p a ≡ true → has_exclusive_load past p ≡ true) → (e : Event) → is_set_by e p a (is_monitored h past p a) ≡ true
        → has_exclusive_load (e ∷ past) p ≡ true
    by-event loads (L q addr w x word) set =
        elim (cases_Bool ((p == q) && x)) [
          | inl own ↦ or_left ((p == q) && x) (has_exclusive_load past p) own
          | inr other ↦ earlier loads (L q addr w x word) (rw other at set)
        ]
    by-event loads (D q addr strobe x line) set = earlier loads (D q addr strobe x line) (and_parts (is_monitored h past p a) (not ((p == q) && x)) set).0
    by-event loads e set = earlier loads e set

-- what is undisturbed after an event that is no exclusive load of the port was so before it
undisturbed-before : (past : Trace) (e : Event) (p a : ℕ) → is_exclusive_load e p ≡ false → is_undisturbed (e ∷ past) p a ≡ true
    → (disturbs past e p a ≡ false) × (is_undisturbed past p a ≡ true)
undisturbed-before past e p a none u =
    let both : (not (disturbs past e p a) && is_undisturbed past p a) ≡ true = rw none at u in
    let parts = and_parts (not (disturbs past e p a)) (is_undisturbed past p a) both in
    (not-true (disturbs past e p a) parts.0, parts.1)

-- a D that doesn't disturb the port leaves it to watch the line, unless it is its own exclusive store
store-leaves : (past : Trace) (q addr strobe : ℕ) (x : Bool) (line : Line) (p a : ℕ) → disturbs past (D q addr strobe x line) p a ≡ false
    → ((p == q) && x) ≡ false → watched_by p a (D q addr strobe x line) true ≡ true
store-leaves past q addr strobe x line p a calm other =
    elim (cases_Bool (a == addr)) [
      | inl here ↦
          let same : not (q == p) ≡ false = rw here at calm in
          let own : (p == q) ≡ true = eq-eqb p q (sym (eqb-true q p (own-is (q == p) same))) in
          let plain : x ≡ false = rw own at other in rw (plain, own) refl
      | inr elsewhere ↦ away x other elsewhere
    ]
  where
    own-is : (b : Bool) → not b ≡ false → b ≡ true
    own-is true e = refl
    own-is false e = cc

    away : (x : Bool) → ((p == q) && x) ≡ false → (a == addr) ≡ false → watched_by p a (D q addr strobe x line) true ≡ true
    away true other elsewhere =
        elim (cases_Bool (p == q)) [
          | inl own ↦ let bad : true ≡ false = rw own at other in cc
          | inr apart ↦ rw (apart, elsewhere) refl
        ]
    away false other elsewhere =
        elim (cases_Bool (p == q)) [
          | inl own ↦ rw own refl
          | inr apart ↦ rw (apart, elsewhere) refl
        ]

-- a port whose monitor is set for a line, and which is undisturbed, watches the line
monitored-watched : (h : Header) (past : Trace) (p a : ℕ) → is_monitored h past p a ≡ true → is_undisturbed past p a ≡ true → is_watched past p a ≡ true
monitored-watched h [] p a m u = cc
monitored-watched h (e ∷ past) p a m u =
    by-event (monitored-watched h past p a) e (and_parts (is_set_by e p a (is_monitored h past p a)) (not (is_invalid (state_of h (e ∷ past) p a))) m).0 u
  where
    by-event : (is_monitored h past p a ≡ true → is_undisturbed past p a ≡ true → is_watched past p a ≡ true) → (e : Event)
        → is_set_by e p a (is_monitored h past p a) ≡ true → is_undisturbed (e ∷ past) p a ≡ true → is_watched (e ∷ past) p a ≡ true
    by-event earlier (L q addr w x word) set u =
        elim (cases_Bool ((p == q) && x)) [
          | inl own ↦ let here : (a == addr) ≡ true = rw own at set in rw (own, here) refl
          | inr other ↦
              let was : is_monitored h past p a ≡ true = rw other at set in
              let before = undisturbed-before past (L q addr w x word) p a other u in
              rw (other, earlier was before.1) refl
        ]
    by-event earlier (D q addr strobe x line) set u =
        let parts = and_parts (is_monitored h past p a) (not ((p == q) && x)) set in
        let before = undisturbed-before past (D q addr strobe x line) p a refl u in
        let was = earlier parts.0 before.1 in
        ap (watched_by p a (D q addr strobe x line)) was
        ∙ store-leaves past q addr strobe x line p a before.0 (not-true ((p == q) && x) parts.1)
    by-event earlier e set u = earlier set (undisturbed-before past e p a refl u).1

-- at an exclusive store of an accepted trace its port watches the line
pub exclusive-watched : (h : Header) (past : Trace) (p addr strobe : ℕ) (line : Line) → IsAccepted h (D p addr strobe true line ∷ past)
    → is_watched past p addr ≡ true
exclusive-watched h past p addr strobe line accepted =
    let monitored : is_monitored h past p addr ≡ true = (accepted_keeps h past (D p addr strobe true line) accepted).rule_33 in
    let holds = accepted_exclusive_holds h (D p addr strobe true line ∷ past) accepted in
    monitored-watched h past p addr monitored (holds.1 (monitored-loads h past p addr monitored))
