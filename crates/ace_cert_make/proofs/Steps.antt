-- What is kept of a line, after an event.
use Rattle.std.proofs.Common.{◌≡◌, ℕ, ◌+◌, ◌-◌, Bool, true, false, nat_eq, nat_le, ◌∷◌, length, Option, Some, None, option_map, refl, sym, arith, inl, inr}
use Rattle.std.proofs.lemmas.Bool.{cases_Bool, cases_eq, eq-eqb, ne_eqb}
use Rattle.ace_event.specs.declared.line.Line.{Line}
use Rattle.ace_model.proofs.Terms.{Channel, Cr, D, Event, G, Header, IsAccepted, LineState, M, R, Read, Trace, answered, grant_place, is_line, may_be_granted, may_write_memory, newer, outstanding, snoops_a_line, transfers_data}
use Rattle.ace_model.specs.declared.snoops.Snoop.{Snoop}
use Rattle.ace_model.specs.Values.{discards_data, stores_data}
use Rattle.ace_model.proofs.General.Options.{is_some_and-is, newer-none}
use Rattle.ace_model.proofs.Grants.Begins.{may_of}
use Rattle.ace_model.proofs.Rules.Keeps.{accepted_keeps}
use Rattle.ace_model.proofs.Trace.Issued.{outstanding-named}
use Rattle.ace_portck.specs.Targets.{progress_of}
use Rattle.ace_cert_make.specs.declared.track.Change.TheVariants.{Store}
use Rattle.ace_cert_make.specs.Changes.{answering, discarding, granting, writing}
use Rattle.ace_cert_make.specs.Places.{sent_place}
use Rattle.ace_cert_make.specs.Tracks.{changed_to, track_of}

module _ (h : Header) (past : Trace) (l : ℕ) where
  -- a G
  pub granted-step : (p : ℕ) (c : Channel) (i : ℕ) → IsAccepted h (G p c i ∷ past)
      → track_of (G p c i ∷ past) l ≡ changed_to (granting (option_map (progress_of h past) (outstanding h past p c i))) (length past + 1) l (track_of past l)
  granted-step p c i a =
      let z = is_some_and-is (outstanding h past p c i) (may_be_granted h past) (accepted_keeps h past (G p c i) a).rule_12 in
      let out = z.1 in
      let named = outstanding-named h past p c i z.0 z.1 in
      let stay = newer-none (sent_place past l) in
      elim (cases_Bool (is_line z.0)) [
        | inr f ↦ rw (out, named, f, stay) refl
        | inl t ↦ elim (cases_Bool (nat_eq z.0.addr l)) [
          | inr f ↦ rw (out, named, t, f, stay) refl
          | inl e ↦ rw (out, named, t, e) refl
        ]
      ]

  -- an M
  pub written-step : (p : ℕ) (c : Channel) (i : ℕ) (line : Line) → IsAccepted h (M p c i line ∷ past)
      → track_of (M p c i line ∷ past) l
      ≡ changed_to (writing (option_map (progress_of h past) (outstanding h past p c i))) (length past + 1) l (track_of past l)
  written-step p c i line a =
      let z = is_some_and-is (outstanding h past p c i) (may_write_memory h past) (accepted_keeps h past (M p c i line) a).rule_24 in
      let out = z.1 in
      let named = outstanding-named h past p c i z.0 z.1 in
      let stay = newer-none (sent_place past l) in
      elim (cases_Bool (stores_data z.0)) [
        | inl s ↦ elim (cases_Bool (is_line z.0)) [
          | inr f ↦ rw (out, named, s, f, stay) refl
          | inl t ↦ elim (cases_Bool (nat_eq z.0.addr l)) [
            | inr f ↦ rw (out, named, s, t, f, stay) refl
            | inl e ↦ rw (out, named, s, t, e, stay) refl
          ]
        ]
        | inr g ↦ elim (cases_Bool (is_line z.0)) [
          | inr f ↦ rw (out, named, g, f, stay) refl
          | inl t ↦ elim (cases_Bool (nat_eq z.0.addr l)) [
            | inr f ↦ rw (out, named, g, t, f, stay) refl
            | inl e ↦ rw (out, named, g, t, e, stay) refl
          ]
        ]
      ]

  -- an R
  pub discarded-step : (p i resp : ℕ) (last : Bool) (word : ℕ) → IsAccepted h (R p i resp last word ∷ past)
      → track_of (R p i resp last word ∷ past) l
      ≡ changed_to (discarding (option_map (progress_of h past) (outstanding h past p Read i))) (length past + 1) l (track_of past l)
  discarded-step p i resp last word a =
      let m = may_of h past p i resp last word a in
      let out = m.out in
      let named = m.named in
      let stay = newer-none (sent_place past l) in
      elim (cases_Bool (discards_data m.one)) [
        | inr g ↦ elim (cases_Bool (is_line m.one)) [
          | inr f ↦ rw (out, named, g, f, stay) refl
          | inl t ↦ rw (out, named, g, t, stay) refl
        ]
        | inl s ↦ elim (cases_Bool (is_line m.one)) [
          | inr f ↦ rw (out, named, s, f, stay) refl
          | inl t ↦ elim (cases_Bool (nat_eq m.one.addr l)) [
            | inr f ↦ rw (out, named, s, t, f, stay) refl
            | inl e ↦ rw (out, named, s, t, e, stay) refl
          ]
        ]
      ]

  -- a D
  pub stored-step : (p addr strobe : ℕ) (x : Bool) (line : Line)
      → track_of (D p addr strobe x line ∷ past) l ≡ changed_to (Some (record { line = addr; change = Store })) (length past + 1) l (track_of past l)
  stored-step p addr strobe x line =
      let stay = newer-none (sent_place past l) in
      elim (cases_eq l addr) [
        | inl same ↦
            let one = eq-eqb l addr same in
            let two = eq-eqb addr l (sym same) in
            rw (one, two, stay) refl
        | inr apart ↦
            let one = ne_eqb l addr apart in
            let two = ne_eqb addr l (λ e. apart (sym e)) in
            rw (one, two, stay) refl
      ]

  -- a CR
  pub answered-step : (p resp : ℕ) (st : LineState)
      → track_of (Cr p resp st ∷ past) l ≡ changed_to (answering resp (answered past p)) (length past + 1) l (track_of past l)
  answered-step p resp st = by (answered past p) refl
    where
      stay : newer (sent_place past l) None ≡ sent_place past l
      stay = newer-none (sent_place past l)

      by : (o : Option Snoop) → answered past p ≡ o → track_of (Cr p resp st ∷ past) l ≡ changed_to (answering resp o) (length past + 1) l (track_of past l)
      by None is =
          elim (cases_Bool (transfers_data resp)) [
            | inr f ↦ rw (f, stay) refl
            | inl t ↦ rw (t, is, stay) refl
          ]
      by (Some s) is =
          let back : length past + 1 - 1 ≡ length past = omega arith in
          elim (cases_Bool (transfers_data resp)) [
            | inr f ↦ rw (f, stay) refl
            | inl t ↦ elim (cases_Bool (snoops_a_line s.snoop)) [
              | inr f ↦ rw (t, is, f, stay) refl
              | inl u ↦ elim (cases_Bool (nat_eq s.addr l)) [
                | inr f ↦ rw (t, is, u, f, stay) refl
                | inl e ↦ elim (cases_Bool (nat_le (grant_place past l) s.place)) [
                  | inr f ↦ rw (t, is, u, e, f, stay) refl
                  | inl g ↦ rw (t, is, u, e, g, back) refl
                ]
              ]
            ]
          ]

-- an event that changes no line
abbrev pub is_change : Event → Bool
is_change (G p c i) = true
is_change (M p c i line) = true
is_change (R p i resp last word) = true
is_change (D p addr strobe x line) = true
is_change (Cr p resp st) = true
is_change _ = false

pub unchanged-step : (past : Trace) (e : Event) (l : ℕ) → is_change e ≡ false → track_of (e ∷ past) l ≡ track_of past l
unchanged-step past (G p c i) l f = cc
unchanged-step past (M p c i line) l f = cc
unchanged-step past (R p i resp last word) l f = cc
unchanged-step past (D p addr strobe x line) l f = cc
unchanged-step past (Cr p resp st) l f = cc
unchanged-step past e l f = rw (newer-none (sent_place past l)) refl

pub not-change : (e : Event) → ((p : ℕ) (c : Channel) (i : ℕ) → e ≡ G p c i → ⊥) → ((p : ℕ) (c : Channel) (i : ℕ) (line : Line) → e ≡ M p c i line → ⊥)
    → ((p i resp : ℕ) (last : Bool) (word : ℕ) → e ≡ R p i resp last word → ⊥)
    → ((p addr strobe : ℕ) (x : Bool) (line : Line) → e ≡ D p addr strobe x line → ⊥)
    → ((p resp : ℕ) (st : LineState) → e ≡ Cr p resp st → ⊥) → is_change e ≡ false
not-change (G p c i) g m r d s = absurd (g p c i refl)
not-change (M p c i line) g m r d s = absurd (m p c i line refl)
not-change (R p i resp last word) g m r d s = absurd (r p i resp last word refl)
not-change (D p addr strobe x line) g m r d s = absurd (d p addr strobe x line refl)
not-change (Cr p resp st) g m r d s = absurd (s p resp st refl)
not-change e g m r d s = refl
