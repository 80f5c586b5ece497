-- What is kept of all lines, after an event and after room was made.
use Rattle.std.proofs.Common.{rules, ◌≡◌, ◌⊎◌, ◌+◌, ◌%◌, ℕ, nat_eq, true, false, Bool, not, ◌&&◌, if◌then◌else◌, List, [], ◌∷◌, length, Option, Some, None, option_map, IsSome, refl, sym, ap, subst, ◌∙◌, inl, inr, unwrap_or, arith}
use Rattle.std.proofs.lemmas.Bool.{cases_eq}
use Rattle.ace_lineck.proofs.Terms.{AreRoomFor, OnTrue, Use, add_line, copy_of, ended, issued, memory_of, newest_use, sent_on, state_of, lookup, get, known_lines, I, IsHeader, Transaction, Event, Header, Trace, IsAccepted, granted, is_some_and, least_broken, Recording, after, line_in, Target, LineCheck, LineRecord, Holder, Grant, Unknown, MemoryStands, holder_at, GrantStands, StatesStand, state_at, use_of, is_unknown, LineStands, IsRecordStep, IsFresh, name_of, Stands, IsEmpty, IsAbsent, IsNewLine, HasRecord, MayApply, begins_line, place_on, record_of}
use Rattle.indexmap.specs.IndexMap as map
use Rattle.ace_lineck.proofs.Places.{get-none}
use Rattle.ace_lineck.proofs.OnLine.{IsOff}
use Rattle.ace_lineck.proofs.OffLine.{off-copy, off-memory, off-sent, off-state}
use Rattle.ace_model.proofs.General.Options.{Some-injective}
use Rattle.ace_lineck.proofs.StateSteps.{all-same}
use Rattle.ace_lineck.proofs.GrantFrame.{grant_stays}
use Rattle.ace_lineck.proofs.GrantSteps.{calm-granted, is_calm, serves}
use Rattle.ace_lineck.proofs.KnownLines.{use-stays, known-used, known-counts, known-same, few-known, line-known}

-- the event leaves memory of the line, and its states and data at the ports, as they are
pub record IsStill (h : Header) (past : Trace) (e : Event) (l : ℕ) : Type 0 where
  pub memory : memory_of (e ∷ past) l ≡ memory_of past l
  pub state : (p : ℕ) → state_of h (e ∷ past) p l ≡ state_of h past p l
  pub copy : (p : ℕ) → copy_of (e ∷ past) p l ≡ copy_of past p l
  pub sent : (p : ℕ) → sent_on (e ∷ past) p l ≡ sent_on past p l

-- what is kept of the line is then as it was, but for its use and its grant
pub left : (h : Header) (past : Trace) (e : Event) (l : ℕ) (x : LineRecord) (u : Use) (g : Option Grant) → u ≡ use_of (e ∷ past) l → IsStill h past e l
    → LineStands h past l x → GrantStands h (e ∷ past) l g → LineStands h (e ∷ past) l (record x { used = u; grant = g })
left h past e l x u g used q s grant = record {
  used = used;
  memory = record { memory = s.memory.memory ∙ sym q.memory };
  grant = grant;
  states = record { state = λ p. s.states.state p ∙ sym (q.state p) };
  holders = record { copy = λ p. s.holders.copy p ∙ sym (q.copy p); sent = λ p. s.holders.sent p ∙ sym (q.sent p) };
}

-- what is kept of a line stays at an event of another
pub line-stays : (h : Header) (past : Trace) (e : Event) → IsAccepted h (e ∷ past) → (l : ℕ) (x : LineRecord) → IsOff h past e l → LineStands h past l x → LineStands h (e ∷ past) l x
line-stays h past e a l x off s =
    left h past e l x x.used x.grant (s.used ∙ sym (use-stays h past e l off))
    (record { memory = off-memory h past e a l off; state = λ p. off-state h past e a p l (λ q. off); copy = λ p. off-copy h past e a p l (λ q. off); sent = λ p. off-sent h past e p l (λ q. off) })
    s (grant_stays h past e a l x.grant off s.grant)

-- what is kept in an empty record is what there is of a line after no event
pub empty-stands : (h : Header) (l : ℕ) (x : LineRecord) → IsEmpty x → LineStands h [] l x
empty-stands h l x e = record {
  used = e.used;
  memory = record { memory = e.memory };
  states = record { state = λ p. ap (λ xs. state_at xs p) e.states ∙ all-same I 32 p };
  grant = subst (GrantStands h [] l) (sym e.grant) refl;
  holders = record { copy = λ p. ap (λ xs. (holder_at xs p).copy) e.holders; sent = λ p. ap (λ xs. (holder_at xs p).sent) e.holders };
}

-- a record for no port is empty
pub fresh-empty : (x : LineRecord) → IsFresh 0 x → IsEmpty x
fresh-empty x f = record { used = f.used; states = f.states; memory = f.memory; grant = f.grant; holders = by x.holders.items f.count }
  where
    by : (xs : List Holder) → length xs ≡ 0 → xs ≡ []
    by [] none = refl
    by (y ∷ xs) none = cc

-- what is kept of no line is what there is of all lines after no event
pub begins : (s : LineCheck) (h : Header) → s.header ≡ h → IsHeader h → IsFresh 0 s.empty → map.IsEmpty s.lines → s.known ≡ 0
    → AreRoomFor h.ports s.spare.items → Stands s (record { header = h; past = [] })
begins s h same is f clear known spare = record {
  header = same;
  ports = is;
  accepted = tt;
  empty = empty;
  lines = λ l. subst (LineStands h [] l) (sym (ap (λ v. unwrap_or v s.empty) (none l))) (empty-stands h l s.empty empty);
  holders = λ l x at. let bad : None ≡ Some x = sym (none l) ∙ at in cc;
  known = known;
  spare = spare;
}
  where
    empty : IsEmpty s.empty
    empty = fresh-empty s.empty f

    none : (l : ℕ) → get nat_eq s.lines l ≡ None
    none l = ap (lookup (nat_eq l)) clear

-- the name of the granted transaction
pub name-granted : (h : Header) (past : Trace) (l : ℕ) (g : Option Grant) → GrantStands h past l g → option_map (λ (v : Grant). name_of v.transaction) g ≡ option_map name_of (granted h past l)
name-granted h past l None none = sym (ap (option_map name_of) none)
name-granted h past l (Some g) f = sym (ap (option_map name_of) f.granted)

-- whether the granted transaction has lock 1
pub lock-granted : (h : Header) (past : Trace) (l : ℕ) (g : Option Grant) → GrantStands h past l g → is_some_and g (λ (v : Grant). v.transaction.lock) ≡ is_some_and (granted h past l) (λ x. x.lock)
lock-granted h past l None none = sym (ap (λ o. is_some_and o (λ (x : Transaction). x.lock)) none)
lock-granted h past l (Some g) f = sym (ap (λ o. is_some_and o (λ (x : Transaction). x.lock)) f.granted)

-- The record of the event's line is a new one, and each other is as it was.
pub record IsChanged (s t : LineCheck) (line : ℕ) (x : LineRecord) : Type 0 where
  pub header : t.header ≡ s.header
  pub empty : t.empty ≡ s.empty
  pub here : get nat_eq t.lines line ≡ Some x
  pub others : (q : ℕ) → (q ≡ line → ⊥) → get nat_eq t.lines q ≡ get nat_eq s.lines q

-- what is kept of the new record and of the others is what there is of their lines after a longer trace
replaced : (s t : LineCheck) (h : Header) (past longer : Trace) (line : ℕ) (x : LineRecord) → IsChanged s t line x → Stands s (record { header = h; past = past }) → IsAccepted h longer
    → LineStands h longer line x → ((l : ℕ) → (l ≡ line → ⊥) → LineStands h longer l (record_of s l)) → length x.holders.items ≡ h.ports → t.known ≡ length (known_lines longer)
    → AreRoomFor h.ports t.spare.items → Stands t (record { header = h; past = longer })
replaced s t h past longer line x c st a new others room known spare = record {
  header = c.header ∙ st.header;
  ports = st.ports;
  accepted = a;
  empty = subst IsEmpty (sym c.empty) st.empty;
  lines = λ l. by l (cases_eq l line);
  holders = λ l y is. rooms l y is (cases_eq l line);
  known = known;
  spare = spare;
}
  where
    by : (l : ℕ) → (l ≡ line) ⊎ (l ≡ line → ⊥) → LineStands h longer l (record_of t l)
    by l (inl is) =
        let one : record_of t l ≡ x = ap (record_of t) is ∙ ap (λ v. unwrap_or v t.empty) c.here in
        subst (LineStands h longer l) (sym one) (subst (λ v. LineStands h longer v x) (sym is) new)
    by l (inr off) =
        let one : record_of t l ≡ record_of s l = ap (λ v. unwrap_or v t.empty) (c.others l off) ∙ ap (unwrap_or (get nat_eq s.lines l)) c.empty in
        subst (LineStands h longer l) (sym one) (others l off)

    rooms : (l : ℕ) (y : LineRecord) → get nat_eq t.lines l ≡ Some y → (l ≡ line) ⊎ (l ≡ line → ⊥) → length y.holders.items ≡ h.ports
    rooms l y is (inl same) =
        let one : Some x ≡ Some y = sym c.here ∙ ap (get nat_eq t.lines) (sym same) ∙ is in
        let eq : x ≡ y = cc in
        subst (λ (v : LineRecord). length v.holders.items ≡ h.ports) eq room
    rooms l y is (inr off) = st.holders l y (sym (c.others l off) ∙ is)

changed : (s t : LineCheck) (r : Recording) (e : Event) (line : ℕ) (x : LineRecord) → IsChanged s t line x → Stands s r → least_broken r.header r.past e ≡ None
    → line_in r.header r.past e ≡ Some line → LineStands r.header (e ∷ r.past) line x → length x.holders.items ≡ r.header.ports → t.known ≡ length (known_lines (e ∷ r.past))
    → AreRoomFor r.header.ports t.spare.items → Stands t (after r e)
changed s t r e line x c st fine on new =
    replaced s t r.header r.past (e ∷ r.past) line x c st (st.accepted, fine) new
    (λ l off. line-stays r.header r.past e (st.accepted, fine) l (record_of s l) (λ q. off (Some-injective l line (sym q ∙ on))) (st.lines l))

-- an event that leaves what is kept of its line leaves all records as they are
pub still : (s : LineCheck) (r : Recording) (e : Event) → Stands s r → least_broken r.header r.past e ≡ None → length (known_lines (e ∷ r.past)) ≡ length (known_lines r.past)
    → ((l : ℕ) → line_in r.header r.past e ≡ Some l → LineStands r.header (e ∷ r.past) l (record_of s l)) → Stands s (after r e)
still s r e st fine count here = record {
  header = st.header;
  ports = st.ports;
  accepted = (st.accepted, fine);
  empty = st.empty;
  lines = λ l. by l (line_in r.header r.past e) refl;
  holders = st.holders;
  known = st.known ∙ sym count;
  spare = st.spare;
}
  where
    by : (l : ℕ) (o : Option ℕ) → line_in r.header r.past e ≡ o → LineStands r.header (e ∷ r.past) l (record_of s l)
    by l None is = line-stays r.header r.past e (st.accepted, fine) l (record_of s l) (λ q. let bad : None ≡ Some l = sym is ∙ q in cc) (st.lines l)
    by l (Some m) is =
        elim (cases_eq m l) [
          | inl same ↦ here l (is ∙ ap Some same)
          | inr off ↦ line-stays r.header r.past e (st.accepted, fine) l (record_of s l) (λ q. off (Some-injective m l (sym is ∙ q))) (st.lines l)
        ]

-- so does an event of no line
pub unchanged : (s : LineCheck) (r : Recording) (e : Event) → Stands s r → least_broken r.header r.past e ≡ None → line_in r.header r.past e ≡ None → Stands s (after r e)
unchanged s r e st fine off = still s r e st fine (known-same r.header r.past e off) (λ l on. let bad : None ≡ Some l = sym off ∙ on in cc)

-- and one that moves nothing of any line
pub untouched-lines : (s : LineCheck) (r : Recording) (e : Event) → Stands s r → least_broken r.header r.past e ≡ None → issued (length r.past) e ≡ None → is_calm e ≡ true → serves e ≡ false
    → ended r.header r.past e ≡ None → ((l : ℕ) → IsStill r.header r.past e l) → Stands s (after r e)
untouched-lines s r e st fine new calm idle none looks =
    still s r e st fine (ap (λ o. length (add_line r.past o (known_lines r.past))) new)
    (λ l on. left r.header r.past e l (record_of s l) (record_of s l).used (record_of s l).grant ((st.lines l).used ∙ sym (ap (λ o. newest_use o l (use_of r.past l)) new)) (looks l) (st.lines l)
    (calm-granted r.header r.past e l (record_of s l).grant (st.accepted, fine) calm idle none (st.lines l).grant))

-- a new record of a line of which nothing was kept stands where the empty one stood
pub fresh-stands : (h : Header) (past : Trace) (l : ℕ) (x y : LineRecord) → IsEmpty x → IsFresh h.ports y → LineStands h past l x → LineStands h past l y
fresh-stands h past l x y e f s = record {
  used = f.used ∙ sym e.used ∙ s.used;
  memory = subst (MemoryStands past l) (e.memory ∙ sym f.memory) s.memory;
  grant = subst (GrantStands h past l) (e.grant ∙ sym f.grant) s.grant;
  states = subst (StatesStand h past l) (e.states ∙ sym f.states) s.states;
  holders = record {
    copy = λ p. ap (λ (v : Holder). v.copy) (same p) ∙ s.holders.copy p;
    sent = λ p. ap (λ (v : Holder). v.sent) (same p) ∙ s.holders.sent p;
  };
}
  where
    same : (p : ℕ) → holder_at y.holders.items p ≡ holder_at x.holders.items p
    same p = f.holders p ∙ ap (λ v. holder_at v p) (sym e.holders)

pub made : (s t : LineCheck) (r : Recording) (line : ℕ) (x : LineRecord) → IsChanged s t line x → get nat_eq s.lines line ≡ None → t.known ≡ s.known → IsFresh s.header.ports x
    → AreRoomFor s.header.ports t.spare.items → Stands s r → Stands t r
made s t r line x c none known f spare st =
    replaced s t r.header r.past r.past line x c st st.accepted
    (fresh-stands r.header r.past line s.empty x st.empty fresh (subst (LineStands r.header r.past line) (ap (λ v. unwrap_or v s.empty) none) (st.lines line)))
    (λ l off. st.lines l) fresh.count (known ∙ st.known) (subst (λ (v : Header). AreRoomFor v.ports t.spare.items) st.header spare)
  where
    fresh : IsFresh r.header.ports x
    fresh = subst (λ (v : Header). IsFresh v.ports x) st.header f

-- a line without a record is one that no transaction has named
pub absent-new : (s : LineCheck) (r : Recording) (line : Option ℕ) → Stands s r → IsAbsent s line → IsNewLine r.past line
absent-new s r None st none = none
absent-new s r (Some l) st none =
    let was : record_of s l ≡ s.empty = ap (λ v. unwrap_or v s.empty) none in
    let used : use_of r.past l ≡ Unknown = sym (st.lines l).used ∙ ap (λ (v : LineRecord). v.used) was ∙ st.empty.used in
    known-used r.past l ∙ ap (λ v. not (is_unknown v)) used

-- where the event may be next, its line has a record
pub has-record : (s : LineCheck) (r : Recording) (e : Event) (t : Target) (place : Option ℕ) → MayApply s r e t place → (l : ℕ) → t.line ≡ Some l → get nat_eq s.lines l ≡ None → ⊥
has-record s r e t place m l line none = by (begins_line e) refl
  where
    on : line_in r.header r.past e ≡ Some l
    on = ap (λ (v : Target). v.line) (sym m.target) ∙ line

    by : (b : Bool) → begins_line e ≡ b → ⊥
    by false is =
        let known = line-known r.header r.past l e (m.stands.accepted, m.kept) is on in
        let new = absent-new s r (Some l) m.stands none in
        let bad : false ≡ true = sym new ∙ known in cc
    by true is =
        let room : HasRecord s t.line = subst (λ b. OnTrue b (HasRecord s t.line)) is m.room.made in
        let here : IsSome (get nat_eq s.lines l) = subst (HasRecord s) line room in
        let bad = subst IsSome none here in absurd (search (rules, bad))

-- an event whose line has no place is one of no line
pub unplaced : (s : LineCheck) (r : Recording) (e : Event) (t : Target) (place : Option ℕ) → MayApply s r e t place → place ≡ None → Stands s (after r e)
unplaced s r e t place m none = by t.line refl
  where
    by : (o : Option ℕ) → t.line ≡ o → Stands s (after r e)
    by None is = unchanged s r e m.stands m.kept (ap (λ (v : Target). v.line) (sym m.target) ∙ is)
    by (Some l) is =
        let off : place_on s (Some l) ≡ None = ap (place_on s) (sym is) ∙ sym m.room.at ∙ none in
        absurd (has-record s r e t place m l is (get-none s l off))

-- a place is that of the line of the event
pub placed : (s : LineCheck) (r : Recording) (e : Event) (t : Target) (place : Option ℕ) → MayApply s r e t place → (i : ℕ) → place ≡ Some i
    → (l : ℕ) × (t.line ≡ Some l) × (place_on s (Some l) ≡ Some i)
placed s r e t place m i is = by t.line refl
  where
    by : (o : Option ℕ) → t.line ≡ o → (l : ℕ) × (t.line ≡ Some l) × (place_on s (Some l) ≡ Some i)
    by None line = let bad : None ≡ Some i = ap (place_on s) (sym line) ∙ sym m.room.at ∙ is in cc
    by (Some l) line = (l, line, ap (place_on s) (sym line) ∙ sym m.room.at ∙ is)

-- what is kept of the line of the event
pub line-step : (s : LineCheck) (r : Recording) (e : Event) (t : Target) (place : Option ℕ) → MayApply s r e t place → (l : ℕ) → t.line ≡ Some l → (x : LineRecord) → get nat_eq s.lines l ≡ Some x
    → IsRecordStep r.header r.past l e t x
line-step s r e t place m l line x at = record {
  step = record { header = m.stands.ports; accepted = (m.stands.accepted, m.kept); target = m.target; line = line };
  stands = subst (LineStands r.header r.past l) (ap (λ v. unwrap_or v s.empty) at) (m.stands.lines l);
  room = m.stands.holders l x at;
}

-- how many lines are known after the event
counts : (s : LineCheck) (r : Recording) (e : Event) (t : Target) (place : Option ℕ) → MayApply s r e t place → (l : ℕ) → t.line ≡ Some l → (x y : LineRecord) → LineStands r.header r.past l x
    → LineStands r.header (e ∷ r.past) l y
    → length (known_lines (e ∷ r.past)) ≡ (if is_unknown x.used && not (is_unknown y.used) then s.known + 1 else s.known)
counts s r e t place m l line x y old new =
    let on : line_in r.header r.past e ≡ Some l = ap (λ (v : Target). v.line) (sym m.target) ∙ line in
    let known = m.stands.known in
    let used = old.used in
    let uses = new.used in
    rw (known, used, uses) (known-counts r.header r.past e l on)

-- it counts its line where that becomes known
pub applied : (s t : LineCheck) (r : Recording) (e : Event) (g : Target) (place : Option ℕ) → MayApply s r e g place → (l : ℕ) → g.line ≡ Some l → (x y : LineRecord) → IsRecordStep r.header r.past l e g x
    → LineStands r.header (e ∷ r.past) l y → length y.holders.items ≡ length x.holders.items → (b : Bool) → (is_unknown x.used && not (is_unknown y.used)) ≡ b → IsChanged s t l y
    → t.known ≡ (if b then (s.known + 1) % 18446744073709551616 else s.known) → AreRoomFor r.header.ports t.spare.items → Stands t (after r e)
applied s t r e g place m l line x y step new room b grows c known spare =
    changed s t r e l y c m.stands m.kept (ap (λ (v : Target). v.line) (sym m.target) ∙ line) new (room ∙ step.room) (known ∙ by b (rw grows at (counts s r e g place m l line x y step.stands new))) spare
  where
    by : (b : Bool) → length (known_lines (e ∷ r.past)) ≡ (if b then s.known + 1 else s.known) → (if b then (s.known + 1) % 18446744073709551616 else s.known) ≡ length (known_lines (e ∷ r.past))
    by false n = sym n
    by true n =
        let low = few-known r.past in
        let count = m.stands.known in
        let few = m.few in
        let fits : (s.known + 1) % 18446744073709551616 ≡ s.known + 1 = omega arith in
        fits ∙ sym n
