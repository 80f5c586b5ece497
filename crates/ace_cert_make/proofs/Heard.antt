-- The lines that are kept, after an event.
use Rattle.std.proofs.Common.{◌≡◌, ◌+◌, ℕ, Bool, true, false, ◌||◌, nat_eq, if◌then◌else◌, [], ◌∷◌, length, Option, Some, None, option_map, unwrap_or, refl, sym, ap, ◌∙◌, inl, inr, Result, Ok, Err, OnOk}
use Rattle.std.proofs.lemmas.Bool.{cases_Bool}
use Rattle.std.specs.BTreeMap.{BTreeMap, get}
use Rattle.std.specs.Ordering.{nat_cmp}
use Rattle.ace_model.specs.declared.transactions.Transaction.{Transaction}
use Rattle.ace_model.proofs.Terms.{Ar, Aw, Event, Header, IsAccepted, Read, Trace, Write, is_line, is_on, is_some_and, issued}
use Rattle.ace_model.specs.Lines.{is_known}
use Rattle.ace_portck.specs.Targets.{begun, line_of}
use Rattle.ace_cert_make.specs.declared.track.LineTrack.{LineTrack}
use Rattle.ace_cert_make.specs.declared.track.LineChange.{LineChange}
use Rattle.ace_cert_make.specs.Tracks.{LinesStand, changed_to, track_of}
use Rattle.ace_cert_make.proofs.Steps.{unchanged-step}
use Rattle.ace_cert_make.proofs.Unknown.{untouched-track}

-- an AR or AW
abbrev pub is_address : Event → Bool
is_address (Ar p i addr snoop dom bar lock) = true
is_address (Aw p i addr snoop dom bar) = true
is_address _ = false

-- the lines after the naming of a line
abbrev pub Named : Option ℕ → BTreeMap ℕ LineTrack → BTreeMap ℕ LineTrack → Type 0
Named line old new =
    (l : ℕ) → get nat_cmp new l ≡ (if is_some_and line (λ m. nat_eq m l)
    then Some (unwrap_or (get nat_cmp old l) (record { stores = []; granted = 0; memory = 0; sent = None })) else get nat_cmp old l)

tested : (x : Transaction) (l : ℕ) → is_some_and (if is_line x then Some x.addr else None) (λ m. nat_eq m l) ≡ is_on x l
tested x l =
    elim (cases_Bool (is_line x)) [
      | inl t ↦ rw t refl
      | inr f ↦ rw f refl
    ]

first-track : (h : Header) (past : Trace) → IsAccepted h past → (l : ℕ) (o : Option LineTrack) → o ≡ (if is_known past l then Some (track_of past l) else None)
    → unwrap_or o (record { stores = []; granted = 0; memory = 0; sent = None }) ≡ track_of past l
first-track h past a l o is =
    elim (cases_Bool (is_known past l)) [
      | inl t ↦ rw (is, t) refl
      | inr f ↦ rw (is, f) (sym (untouched-track h past a l f))
    ]

named-stand : (h : Header) (past : Trace) → IsAccepted h past → (x : Transaction) (old new : BTreeMap ℕ LineTrack) → LinesStand past old
    → Named (if is_line x then Some x.addr else None) old new
    → (l : ℕ) → get nat_cmp new l ≡ (if is_on x l || is_known past l then Some (track_of past l) else None)
named-stand h past a x old new stands named l =
    let test = tested x l in
    elim (cases_Bool (is_on x l)) [
      | inr f ↦ named l ∙ rw (test, f) (stands l)
      | inl on ↦ named l ∙ rw (test, on) (ap (λ v. Some v) (first-track h past a l (get nat_cmp old l) (stands l)))
    ]

-- after an AR or AW
pub heard-named : (h : Header) (past : Trace) (e : Event) (old new : BTreeMap ℕ LineTrack) → is_address e ≡ true → IsAccepted h (e ∷ past)
    → LinesStand past old → Named (line_of (option_map begun (issued (length past) e))) old new → LinesStand (e ∷ past) new
heard-named h past (Ar p i addr snoop dom bar lock) old new is a stands named l =
    named-stand h past a.0 (record { place = length past; port = p; chan = Read; id = i; addr = addr; snoop = snoop; dom = dom; bar = bar; lock = lock })
    old new stands named l
    ∙ ap (λ t. if is_known (Ar p i addr snoop dom bar lock ∷ past) l then Some t else None) (sym (unchanged-step past (Ar p i addr snoop dom bar lock) l refl))
heard-named h past (Aw p i addr snoop dom bar) old new is a stands named l =
    named-stand h past a.0 (record { place = length past; port = p; chan = Write; id = i; addr = addr; snoop = snoop; dom = dom; bar = bar; lock = false })
    old new stands named l
    ∙ ap (λ t. if is_known (Aw p i addr snoop dom bar ∷ past) l then Some t else None) (sym (unchanged-step past (Aw p i addr snoop dom bar) l refl))
heard-named h past e old new is a stands named l = cc

changed-stand : (past : Trace) (e : Event) (c : Option LineChange) (old new : BTreeMap ℕ LineTrack)
    → ((l : ℕ) → track_of (e ∷ past) l ≡ changed_to c (length past + 1) l (track_of past l)) → LinesStand past old
    → ((l : ℕ) → get nat_cmp new l ≡ option_map (changed_to c (length past + 1) l) (get nat_cmp old l))
    → (l : ℕ) → get nat_cmp new l ≡ (if is_known past l then Some (track_of (e ∷ past) l) else None)
changed-stand past e c old new step stands changed l =
    changed l ∙ ap (option_map (changed_to c (length past + 1) l)) (stands l)
    ∙ elim (cases_Bool (is_known past l)) [
      | inl t ↦ rw t (ap (λ v. Some v) (sym (step l)))
      | inr f ↦ rw f refl
    ]

-- after another event
pub heard-changed : (past : Trace) (e : Event) (c : Option LineChange) (old new : BTreeMap ℕ LineTrack) → is_address e ≡ false
    → ((l : ℕ) → track_of (e ∷ past) l ≡ changed_to c (length past + 1) l (track_of past l)) → LinesStand past old
    → ((l : ℕ) → get nat_cmp new l ≡ option_map (changed_to c (length past + 1) l) (get nat_cmp old l)) → LinesStand (e ∷ past) new
heard-changed past (Ar p i addr snoop dom bar lock) c old new is step stands changed l = cc
heard-changed past (Aw p i addr snoop dom bar) c old new is step stands changed l = cc
heard-changed past e c old new is step stands changed l = changed-stand past e c old new step stands changed l

-- an event that is neither
pub not-address : (e : Event) → ((p i addr snoop dom bar : ℕ) (lock : Bool) → e ≡ Ar p i addr snoop dom bar lock → ⊥)
    → ((p i addr snoop dom bar : ℕ) → e ≡ Aw p i addr snoop dom bar → ⊥) → is_address e ≡ false
not-address (Ar p i addr snoop dom bar lock) reads writes = absurd (reads p i addr snoop dom bar lock refl)
not-address (Aw p i addr snoop dom bar) reads writes = absurd (writes p i addr snoop dom bar refl)
not-address e reads writes = refl

-- what follows where a call succeeds
pub on_ok : {T E A B : Type 0} (r : Result T E) → (A → B) → OnOk r A → OnOk r B
on_ok (Ok x) f a = f a
on_ok (Err e) f a = tt
