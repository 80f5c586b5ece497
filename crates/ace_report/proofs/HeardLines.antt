-- What is kept of the lines has heard one more event.
use Rattle.std.proofs.Common.{◌≡◌, ℕ, Bool, true, nat_eq, List, ◌∷◌, Option, Some, refl, sym, ap, subst, ◌∙◌, inl, inr}
use Rattle.std.specs.BTreeMap.{BTreeMap}
use Rattle.std.proofs.lemmas.Bool.{cases_Bool, eqb-true}
use Rattle.ace_event.specs.declared.event.Channel.{Channel}
use Rattle.ace_event.specs.declared.event.Event.{Event}
use Rattle.ace_event.specs.declared.event.Event.TheVariants.{Ar, Aw, R, M, D}
use Rattle.ace_event.specs.declared.header.Header.{Header}
use Rattle.ace_event.specs.declared.line.Line.{Line}
use Rattle.ace_model.specs.Trace.{Trace}
use Rattle.ace_portck.specs.declared.target.Progress.{Progress}
use Rattle.ace_portck.specs.declared.target.WriteData.{WriteData}
use Rattle.ace_portck.specs.Targets.{data_in, line_in, line_of, transaction_in}
use Rattle.ace_report.specs.declared.tally.LineTally.{LineTally}
use Rattle.ace_report.specs.Heard.{LinesStand, whole, written_bytes}
use Rattle.ace_report.specs.Next.{AddsEntry, IsNewLine, IsNext, wanted_line}
use Rattle.ace_report.proofs.StoredBytes.{written_are, discarded_are}
use Rattle.ace_report.proofs.Tallies.{Added, first_is_new, heard_stored, is_address}

same_test : (n m : ℕ) → nat_eq n m ≡ nat_eq m n
same_test n m =
    elim (cases_Bool (nat_eq n m)) [
      | inl t ↦ let e : n ≡ m = eqb-true n m t in ap (λ k. nat_eq k m) e ∙ ap (nat_eq m) (sym e)
      | inr f ↦ elim (cases_Bool (nat_eq m n)) [
        | inr g ↦ f ∙ sym g
        | inl t ↦ let e : m ≡ n = eqb-true m n t in ap (λ k. nat_eq k m) (sym e) ∙ ap (nat_eq m) e
      ]
    ]

-- an R
pub heard_discarded : (h : Header) (past : Trace) (e : Event) (p i resp : ℕ) (last : Bool) (word : ℕ) (before : Line) (line : Option ℕ) (bytes : WriteData) (old new : BTreeMap ℕ LineTally)
    → e ≡ R p i resp last word → bytes ≡ whole before → line ≡ wanted_line h past e → LinesStand past old → IsNext h past e before → Added line (Some bytes) old new
    → LinesStand (e ∷ past) new
heard_discarded h past e p i resp last word before line bytes old new is all told stands n added =
    let r : Event = R p i resp last word in
    let next : IsNext h past r before = subst (λ v. IsNext h past v before) is n in
    let at_line : Added (wanted_line h past r) (Some bytes) old new = subst (λ (o : Option ℕ). Added o (Some bytes) old new) (told ∙ ap (wanted_line h past) is) added in
    subst (λ v. LinesStand (v ∷ past) new) (sym is) (heard_stored h past r (wanted_line h past r) before (Some (whole before)) old new refl stands next
    (discarded_are h past p i resp last word before next) (subst (λ (b : WriteData). Added (wanted_line h past r) (Some b) old new) all at_line))

-- an M
pub heard_written : (h : Header) (past : Trace) (e : Event) (p : ℕ) (c : Channel) (i : ℕ) (line before : Line) (write : Option Progress) (burst : Option WriteData) (old new : BTreeMap ℕ LineTally)
    → e ≡ M p c i line → write ≡ transaction_in h past (M p c i line) → burst ≡ data_in h past (M p c i line) → LinesStand past old → IsNext h past e before
    → Added (line_of write) (written_bytes write burst) old new → LinesStand (e ∷ past) new
heard_written h past e p c i line before write burst old new is one sent stands n added =
    let m : Event = M p c i line in
    let next : IsNext h past m before = subst (λ v. IsNext h past v before) is n in
    let by_write : Added (line_in h past m) (written_bytes (transaction_in h past m) burst) old new =
    subst (λ (o : Option Progress). Added (line_of o) (written_bytes o burst) old new) one added in
    subst (λ v. LinesStand (v ∷ past) new) (sym is) (heard_stored h past m (line_in h past m) before (written_bytes (transaction_in h past m) (data_in h past m)) old new refl stands next
    (written_are h past p c i line before next)
    (subst (λ (b : Option WriteData). Added (line_in h past m) (written_bytes (transaction_in h past m) b) old new) sent by_write))

-- a D
pub heard_store : (h : Header) (past : Trace) (e : Event) (p addr strobe : ℕ) (x : Bool) (line before : Line) (old new : BTreeMap ℕ LineTally)
    → e ≡ D p addr strobe x line → LinesStand past old → IsNext h past e before → Added (Some addr) (Some (record { strobe = strobe; line = line })) old new
    → LinesStand (e ∷ past) new
heard_store h past e p addr strobe x line before old new is stands n added =
    let d : Event = D p addr strobe x line in
    subst (λ v. LinesStand (v ∷ past) new) (sym is) (heard_stored h past d (Some addr) before (Some (record { strobe = strobe; line = line })) old new refl stands
    (subst (λ v. IsNext h past v before) is n) (λ l. elim (cases_Bool (nat_eq l addr)) [
      | inl t ↦ rw (same_test addr l, t) refl
      | inr f ↦ rw (same_test addr l, f) refl
    ]) added)

-- an AR or AW that names its line first
pub adds_new : (h : Header) (past : Trace) (e : Event) → is_address e ≡ true → IsNewLine past (wanted_line h past e) → AddsEntry h past e
adds_new h past (Ar p i addr snoop dom bar lock) is new = first_is_new past (line_in h past (Ar p i addr snoop dom bar lock)) new
adds_new h past (Aw p i addr snoop dom bar) is new = first_is_new past (line_in h past (Aw p i addr snoop dom bar)) new
adds_new h past e is new = cc
