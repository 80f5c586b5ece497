-- The events with which a line begins, an AR or AW of a line transaction and a MEM: what they ask of room, and what they leave of their line.
use Rattle.std.proofs.Common.{◌≡◌, ◌<◌, ◌-◌, ◌^◌, ℕ, Bool, true, false, not, ◌&&◌, nat_eq, if◌then◌else◌, ◌∷◌, ◌+◌, ◌%◌, slice_get, length, Option, Some, None, is_some, refl, sym, ap, subst, ◌∙◌}
use Rattle.ace_lineck.proofs.Terms.{OnTrue, IsUnique, after, values, with_value_at, least_broken, is_known, Transaction, Event, Header, Trace, Line, IsAccepted, Ar, Aw, Mem, issued, is_line, is_on, is_no_snoop, is_some_and, Recording, line_in, target_of, LineCheck, LineRecord, Use, LineStands, BeginsLine, HasRecord, IsAbsent, IsNewLine, IsRoomy, MayApply, Stands, begins_line, place_on, is_unknown, newest_use, use_for, use_of}
use Rattle.std.proofs.lemmas.Bool.{and_from, eq-eqb, or_left}
use Rattle.ace_model.proofs.General.Options.{Some-injective}
use Rattle.ace_lineck.proofs.AllLines.{absent-new, left}
use Rattle.ace_lineck.proofs.GrantSteps.{calm-granted}
use Rattle.ace_lineck.proofs.Rooms.{grown-roomy}
use Rattle.ace_lineck.proofs.RuleLaws.{issue-line}
use Rattle.ace_lineck.proofs.Heard.{heard-counted}

-- an event that issues a line transaction is of its line
pub address-line : (h : Header) (past : Trace) (e : Event) (x : Transaction) → issued (length past) e ≡ Some x → is_line x ≡ true → line_in h past e ≡ Some x.addr
address-line h past e x new on = rw on at (issue-line h past e x new)

-- where that has no record, no transaction has named it: it begins with the event
pub address-begins : (s : LineCheck) (r : Recording) (e : Event) (x : Transaction) → Stands s r → issued (length r.past) e ≡ Some x → is_line x ≡ true
    → IsAbsent s (Some x.addr) → BeginsLine r.past e (target_of r.header r.past e)
address-begins s r e x st new on none = by e new (absent-new s r (Some x.addr) st none)
  where
    by : (d : Event) → issued (length r.past) d ≡ Some x → IsNewLine r.past (Some x.addr) → BeginsLine r.past d (target_of r.header r.past d)
    by (Ar p i addr snoop dom bar lock) is first = subst (IsNewLine r.past) (sym (address-line r.header r.past (Ar p i addr snoop dom bar lock) x is on)) first
    by (Aw p i addr snoop dom bar) is first = subst (IsNewLine r.past) (sym (address-line r.header r.past (Aw p i addr snoop dom bar) x is on)) first
    by d is first = cc

-- its line is known from then on, and what has room has it then
pub address-roomy : (n : ℕ) (past : Trace) (s : LineCheck) (e : Event) (x : Transaction) → issued (length past) e ≡ Some x → is_line x ≡ true
    → IsRoomy n past s → IsRoomy n (e ∷ past) s × (is_known (e ∷ past) x.addr ≡ true)
address-roomy n past s e x new on room = (
  grown-roomy n past e s room,
  or_left (is_some_and (issued (length past) e) (λ y. is_on y x.addr)) (is_known past x.addr)
      (ap (λ o. is_some_and o (λ y. is_on y x.addr)) new ∙ and_from (is_line x) (nat_eq x.addr x.addr) on (eq-eqb x.addr x.addr refl)),
)

on-true : {P : Type 0} (b : Bool) → P → OnTrue b P
on-true true p = p
on-true false p = tt

-- the AR or AW may be taken
pub may-hear_address : (s : LineCheck) (r : Recording) (e : Event) (x : Transaction) (place : Option ℕ) → Stands s r → issued (length r.past) e ≡ Some x → is_line x ≡ true
    → place ≡ place_on s (Some x.addr) → HasRecord s (Some x.addr) → least_broken r.header r.past e ≡ None → length r.past < 2 ^ 64 - 1
    → MayApply s r e (target_of r.header r.past e) place
may-hear_address s r e x place st new on at made fine few =
    let line = address-line r.header r.past e x new on in
    record {
      stands = st;
      target = refl;
      room = record { made = on-true (begins_line e) (subst (HasRecord s) (sym line) made); at = at ∙ ap (place_on s) (sym line) };
      kept = fine;
      few = few;
    }

-- of the record it leaves all but the use of the line
record-issued : (h : Header) (past : Trace) (e : Event) (l : ℕ) (x : LineRecord) (used : Use) → is_some (issued (length past) e) ≡ true → IsAccepted h (e ∷ past)
    → used ≡ use_of (e ∷ past) l → LineStands h past l x → LineStands h (e ∷ past) l (record x { used = used })
record-issued h past (Ar p i addr snoop dom bar lock) l x used is a uses s =
    left h past (Ar p i addr snoop dom bar lock) l x used x.grant uses (record { memory = refl; state = λ p. refl; copy = λ p. refl; sent = λ p. refl }) s (calm-granted h past (Ar p i addr snoop dom bar lock) l x.grant a refl refl refl s.grant)
record-issued h past (Aw p i addr snoop dom bar) l x used is a uses s =
    left h past (Aw p i addr snoop dom bar) l x used x.grant uses (record { memory = refl; state = λ p. refl; copy = λ p. refl; sent = λ p. refl }) s (calm-granted h past (Aw p i addr snoop dom bar) l x.grant a refl refl refl s.grant)
record-issued h past e l x used is a uses s = cc

-- what is kept of its line stands after it with the use by its transaction
pub address-record : (h : Header) (past : Trace) (e : Event) (y : Transaction) (l : ℕ) (x : LineRecord) (unshared : Bool) → issued (length past) e ≡ Some y → is_line y ≡ true
    → unshared ≡ is_no_snoop y → y.addr ≡ l → IsAccepted h (e ∷ past) → LineStands h past l x → LineStands h (e ∷ past) l (record x { used = use_for unshared })
address-record h past e y l x unshared new on no-snoop at a s = record-issued h past e l x (use_for unshared) (ap is_some new) a uses s
  where
    here : is_on y l ≡ true
    here = and_from (is_line y) (nat_eq y.addr l) on (eq-eqb y.addr l at)

    uses : use_for unshared ≡ use_of (e ∷ past) l
    uses = ap use_for no-snoop ∙ sym (ap (λ o. newest_use o l (use_of past l)) new ∙ ap (λ b. if b then use_for (is_no_snoop y) else use_of past l) here)

-- a line becomes known with it where it wasn't used
pub becomes-known : (was unshared : Bool) → (was && not (is_unknown (use_for unshared))) ≡ was
becomes-known true true = refl
becomes-known true false = refl
becomes-known false true = refl
becomes-known false false = refl

-- so it leaves this of all lines
pub address-heard : (s : LineCheck) (r : Recording) (e : Event) (y : Transaction) (place : Option ℕ) → MayApply s r e (target_of r.header r.past e) place → (n : ℕ) → place ≡ Some n
    → (x : LineRecord) (unshared : Bool) → Some x ≡ slice_get (values s.lines) n → IsUnique nat_eq s.lines → issued (length r.past) e ≡ Some y → is_line y ≡ true
    → unshared ≡ is_no_snoop y → (b : Bool) → is_unknown x.used ≡ b
    → Stands (record s { lines = with_value_at s.lines n (record x { used = use_for unshared }); known = if b then (s.known + 1) % 18446744073709551616 else s.known }) (after r e)
address-heard s r e y place m n is x unshared value unique new on no-snoop b was =
    heard-counted s r e place m n is x (record x { used = use_for unshared }) value unique
    (λ l step. address-record r.header r.past e y l x unshared new on no-snoop (Some-injective y.addr l (sym (address-line r.header r.past e y new on) ∙ step.step.line)) step.step.accepted step.stands)
    refl b (becomes-known (is_unknown x.used) unshared ∙ was)

-- the MEM may be taken
pub may-hear_mem : (s : LineCheck) (r : Recording) (addr : ℕ) (line : Line) (place : Option ℕ) → Stands s r → place ≡ place_on s (Some addr) → HasRecord s (Some addr)
    → least_broken r.header r.past (Mem addr line) ≡ None → length r.past < 2 ^ 64 - 1 → MayApply s r (Mem addr line) (target_of r.header r.past (Mem addr line)) place
may-hear_mem s r addr line place st at made fine few = record {
  stands = st;
  target = refl;
  room = record { made = made; at = at };
  kept = fine;
  few = few;
}

-- what is kept of its line stands after it with its line as memory
pub mem-record : (h : Header) (past : Trace) (addr : ℕ) (line : Line) (l : ℕ) (x : LineRecord) → l ≡ addr → IsAccepted h (Mem addr line ∷ past) → LineStands h past l x
    → LineStands h (Mem addr line ∷ past) l (record x { memory = line })
mem-record h past addr line l x at a s = record {
  used = s.used;
  memory = record { memory = let here = eq-eqb l addr at in rw here refl };
  grant = calm-granted h past (Mem addr line) l x.grant a refl refl refl s.grant;
  states = record { state = s.states.state };
  holders = record { copy = s.holders.copy; sent = s.holders.sent };
}
