-- What comes of an event that the shares hear.
use Rattle.std.proofs.Common.{◌≡◌, ◌<◌, ◌≤◌, ◌-◌, ◌^◌, ◌∷◌, ◌&&◌, ℕ, Bool, true, false, if◌then◌else◌, nat_le, nat_lt, Option, Some, None, length, option_map, unwrap_or, refl, sym, subst, ◌∙◌, arith, inl, inr}
use Rattle.std.proofs.lemmas.Bool.{and_parts, cases_Bool, leb-true, ltb-true}
use Rattle.ace_check.proofs.Terms.{Event, Ac, Ar, Aw, Header, Recording, after, Transaction, least_broken, least_of, add_line, known_lines, names_new_line, lesser, port_rules, line_rules, system_rules, Trace, is_some_and, issued, progress_of, LineCheck, SysCheck, ComesTo, Heard, IsHeard, goes_over_within, SharesTell, Fine, Broken, TooManyLines, Shares}
use Rattle.ace_portck.proofs.LineMaps.{room-stays}
use Rattle.ace_lineck.proofs.KnownLines.{few-known}
use Rattle.ace_portck.specs.Stands as ports
use Rattle.ace_lineck.specs.Stands as lines
use Rattle.ace_sysck.specs.Stands as system
use Rattle.ace_check.proofs.Rooms.{may-apply}
use Rattle.ace_check.proofs.Steps.{least_with}

-- where no progress of a transaction is found, it isn't outstanding
pub no-progress : (h : Header) (past : Trace) (o : Option Transaction) → option_map (progress_of h past) o ≡ None → o ≡ None
no-progress h past None is = refl
no-progress h past (Some x) is = let bad : Some (progress_of h past x) ≡ None = is in cc

-- the trace of a run with its next event names no line too many
lines-fit : (past : Trace) (e : Event) → length (known_lines (e ∷ past)) ≤ 4096 → goes_over_within 4096 past e ≡ true → ⊥
lines-fit past e = by (issued (length past) e)
  where
    by : (o : Option Transaction) → length (add_line past o (known_lines past)) ≤ 4096
        → (is_some_and o (names_new_line past) && nat_le 4096 (length (known_lines past))) ≡ true → ⊥
    by None few over = cc
    by (Some x) few over =
        let parts = and_parts (names_new_line past x) (nat_le 4096 (length (known_lines past))) over in
        let more : length (x.addr ∷ known_lines past) ≤ 4096 = rw parts.0 at few in
        let full = leb-true 4096 (length (known_lines past)) parts.1 in
        omega (arith, more, full)

-- the event is neither an AR or AW nor an AC
abbrev pub is_plain : Event → Bool
is_plain (Ar p i addr snoop dom bar lock) = false
is_plain (Aw p i addr snoop dom bar) = false
is_plain (Ac p addr snoop) = false
is_plain _ = true

-- it names no line
plain-over : (most : ℕ) (past : Trace) (e : Event) → is_plain e ≡ true → goes_over_within most past e ≡ false
plain-over most past (Ar p i addr snoop dom bar lock) plain = cc
plain-over most past (Aw p i addr snoop dom bar) plain = cc
plain-over most past _ plain = refl

-- a trace of fewer events than 2^64 - 1 names no more lines than there are numbers of a word
pub never-over : (past : Trace) (e : Event) → length past < 2 ^ 64 - 1 → goes_over_within (2 ^ 64 - 1) past e ≡ true → ⊥
never-over past e few over =
    let parts = and_parts (is_some_and (issued (length past) e) (names_new_line past)) (nat_le (2 ^ 64 - 1) (length (known_lines past))) over in
    let full = leb-true (2 ^ 64 - 1) (length (known_lines past)) parts.1 in
    let known = few-known past in
    omega (arith, few, known, full)

module _ (s : Shares) (e : Event) where
  -- an event that breaks a rule, where nothing has changed
  pub heard-broken : (k : ℕ) → ((h : Header) (past : Trace) → SharesTell s h past → Some k ≡ least_broken h past e) → IsHeard s e s (Broken k)
  heard-broken k least = record {
    comes_to = λ h past tell few. (sym (least h past tell), tell);
    most = refl;
    room = λ h past stand may. let bad : Some k ≡ None = least h past stand.tell ∙ may.fine in cc;
  }

  -- one that breaks none, and names one line too many
  pub heard-over : ((h : Header) (past : Trace) → SharesTell s h past → (least_broken h past e ≡ None) × (goes_over_within s.most past e ≡ true)) → IsHeard s e s TooManyLines
  heard-over over = record {
    comes_to = λ h past tell few. let o = over h past tell in (o.0, o.1, tell);
    most = refl;
    room = λ h past stand may.
        absurd (lines-fit past e may.lines (subst (λ n. goes_over_within n past e ≡ true) stand.room.most (over h past stand.tell).1));
  }

-- by the limit that the shares keep
pub comes-within : {old new : Shares} {e : Event} {what found : Heard} {most : ℕ} → IsHeard old e new what → what ≡ found → old.most ≡ most
    → (h : Header) (past : Trace) → SharesTell old h past → length past < 2 ^ 64 - 1 → ComesTo most h past e new found
comes-within {old} {new} {e} {what} {found} {most} heard is same h past tell few =
    subst (λ n. ComesTo n h past e new found) same (subst (ComesTo old.most h past e new) is (heard.comes_to h past tell few))

pub lesser-none : (o : Option ℕ) → lesser o None ≡ o
lesser-none None = refl
lesser-none (Some k) = refl

-- it is the lesser number, where the other is none or no less
lesser-first : (k : ℕ) (o : Option ℕ) → ((m : ℕ) → o ≡ Some m → k ≤ m) → lesser (Some k) o ≡ Some k
lesser-first k None most = refl
lesser-first k (Some m) most =
    elim (cases_Bool (nat_lt m k)) [
      | inl t ↦ let less = ltb-true m k t in let more = most m refl in absurd (omega (arith, less, more))
      | inr f ↦ rw f refl
    ]

lesser-most : (k : ℕ) (a b : Option ℕ) → ((m : ℕ) → a ≡ Some m → k ≤ m) → ((m : ℕ) → b ≡ Some m → k ≤ m) → (m : ℕ) → lesser a b ≡ Some m → k ≤ m
lesser-most k None b left right m is = right m is
lesser-most k (Some i) None left right m is = left m is
lesser-most k (Some i) (Some j) left right m is =
    elim (cases_Bool (nat_lt j i)) [
      | inl t ↦ right m (rw t at is)
      | inr f ↦ left m (rw f at is)
    ]

-- where lines and system say nothing, the ports say which rule is broken
pub ports-decide : (h : Header) (past : Trace) (e : Event) (a : Option ℕ) → a ≡ least_of port_rules h past e → None ≡ least_of line_rules h past e
    → None ≡ least_of system_rules h past e → least_broken h past e ≡ a
ports-decide h past e a p l s = sym (least_with h past e a None None p l s) ∙ lesser-none a

-- a rule about its port is the least, where those about its line and the system are no less
pub ports-first : (h : Header) (past : Trace) (e : Event) (k : ℕ) → Some k ≡ least_of port_rules h past e
    → ((m : ℕ) → least_of line_rules h past e ≡ Some m → k ≤ m) → ((m : ℕ) → least_of system_rules h past e ≡ Some m → k ≤ m)
    → least_broken h past e ≡ Some k
ports-first h past e k p lines system =
    let line = least_of line_rules h past e in
    let other = least_of system_rules h past e in
    sym (least_with h past e (Some k) line other p refl refl) ∙ lesser-first k (lesser line other) (lesser-most k line other lines system)

-- one about its line is, where the ports say nothing and those about the system are no less
pub lines-next : (h : Header) (past : Trace) (e : Event) (k : ℕ) → None ≡ least_of port_rules h past e → Some k ≡ least_of line_rules h past e
    → ((m : ℕ) → least_of system_rules h past e ≡ Some m → k ≤ m) → least_broken h past e ≡ Some k
lines-next h past e k p l system =
    let other = least_of system_rules h past e in
    sym (least_with h past e None (Some k) other p l refl) ∙ lesser-first k other system

-- where ports and system say nothing, the lines say which rule is broken, if any is
pub lines-decide : (h : Header) (past : Trace) (e : Event) (a : Option ℕ) → None ≡ least_of port_rules h past e → a ≡ least_of line_rules h past e
    → None ≡ least_of system_rules h past e → a ≡ least_broken h past e
lines-decide h past e a p l s = sym (lesser-none a) ∙ least_with h past e None a None p l s

-- and where ports and lines say nothing, the system does
pub system-decides : (h : Header) (past : Trace) (e : Event) (a : Option ℕ) → None ≡ least_of port_rules h past e → None ≡ least_of line_rules h past e
    → a ≡ least_of system_rules h past e → a ≡ least_broken h past e
system-decides h past e a p l s = least_with h past e None None a p l s

-- the number of the first of some rules that isn't kept
pub of-one : (n : ℕ) (a : Bool) (k : ℕ) → Some k ≡ (if a then None else Some n) → k ≡ n
of-one n true k is = cc
of-one n false k is = cc

pub of-two : (j n : ℕ) (a b : Bool) (k : ℕ) → j ≤ n → Some k ≡ (if a then (if b then None else Some n) else Some j) → (j ≤ k) × (k ≤ n)
of-two j n a b k le = by a b
  where
    by : (a b : Bool) → Some k ≡ (if a then (if b then None else Some n) else Some j) → (j ≤ k) × (k ≤ n)
    by true true is = let bad : Some k ≡ None = is in cc
    by true false is = let same : k ≡ n = cc in (omega (arith, le, same), omega (arith, same))
    by false b is = let same : k ≡ j = cc in (omega (arith, same), omega (arith, le, same))

-- the number of the first of three rules that isn't kept
pub of-three : (i j n : ℕ) (a b d : Bool) (k : ℕ) → i ≤ j → j ≤ n → Some k ≡ (if a then (if b then (if d then None else Some n) else Some j) else Some i)
    → (i ≤ k) × (k ≤ n)
of-three i j n a b d k low high = by a b d
  where
    by : (a b d : Bool) → Some k ≡ (if a then (if b then (if d then None else Some n) else Some j) else Some i) → (i ≤ k) × (k ≤ n)
    by true true true is = let bad : Some k ≡ None = is in cc
    by true true false is = let same : k ≡ n = cc in (omega (arith, low, high, same), omega (arith, same))
    by true false d is = let same : k ≡ j = cc in (omega (arith, low, same), omega (arith, high, same))
    by false b d is = let same : k ≡ i = cc in (omega (arith, same), omega (arith, low, high, same))

-- the first of some rules that isn't kept is the first of all, where no other comes before them
pub first-1 : (i k : ℕ) (a : Bool) (rest : Option ℕ) → Some k ≡ (if a then None else Some i) → Some k ≡ (if a then rest else Some i)
first-1 i k true rest is = let bad : Some k ≡ None = is in cc
first-1 i k false rest is = is

pub first-2 : (i j k : ℕ) (a b : Bool) (rest : Option ℕ) → Some k ≡ (if a then (if b then None else Some j) else Some i)
    → Some k ≡ (if a then (if b then rest else Some j) else Some i)
first-2 i j k true b rest is = first-1 j k b rest is
first-2 i j k false b rest is = is

pub first-3 : (i j n k : ℕ) (a b c : Bool) (rest : Option ℕ) → Some k ≡ (if a then (if b then (if c then None else Some n) else Some j) else Some i)
    → Some k ≡ (if a then (if b then (if c then rest else Some n) else Some j) else Some i)
first-3 i j n k true b c rest is = first-2 j n k b c rest is
first-3 i j n k false b c rest is = is

-- where K1 is kept, the next that isn't
pub missing-next : (n : ℕ) (a : Bool) (rest rule : Option ℕ) → rule ≡ (if a then None else Some 1) → Some n ≡ rest → Some (unwrap_or rule n) ≡ (if a then rest else Some 1)
missing-next n true rest rule is next = rw is next
missing-next n false rest rule is next = rw is refl

-- the room for the lines of a trace is there for any that is longer
pub lines-roomy : (e : Event) (past : Trace) (s : LineCheck) → lines.IsRoomy 4096 past s → lines.IsRoomy 4096 (e ∷ past) s
lines-roomy e past s room = record { map = room-stays 4096 e past s.lines room.map; records = room.records }

pub system-roomy : (e : Event) (past : Trace) (s : SysCheck) → system.IsRoomy 4096 past s → system.IsRoomy 4096 (e ∷ past) s
system-roomy e past s room = room-stays 4096 e past s.registrations.lines room

-- an event that is fine, where each share tells of the trace with it, and keeps its room
pub heard-fine : (s n : Shares) (e : Event) → n.most ≡ s.most
    → ((h : Header) (past : Trace) → SharesTell s h past → length past < 2 ^ 64 - 1
    → (least_broken h past e ≡ None) × (goes_over_within s.most past e ≡ false) × SharesTell n h (e ∷ past))
    → (ports.IsRoomy 24576 s.ports → ports.IsRoomy 24576 n.ports)
    → ((past : Trace) → lines.IsRoomy 4096 past s.lines → lines.IsRoomy 4096 past n.lines)
    → ((past : Trace) → system.IsRoomy 4096 past s.system → system.IsRoomy 4096 past n.system) → IsHeard s e n Fine
heard-fine s n e same tells ports lines system = record {
  comes_to = tells;
  most = same;
  room = λ h past stand may. (
    refl,
    record {
      most = same ∙ stand.room.most;
      ports = ports stand.room.ports;
      lines = lines-roomy e past n.lines (lines past stand.room.lines);
      system = system-roomy e past n.system (system past stand.room.system);
    },
  );
}

-- what each share makes of an event that is fine and no AC, the ports by what they hear
module _ (s n : Shares) (e : Event) (same : n.most ≡ s.most)
    (least : (h : Header) (past : Trace) → SharesTell s h past → None ≡ least_broken h past e)
    (hear : (r : Recording) → ports.MayApply s.ports r e → ports.Stands n.ports (after r e))
    (room : (snoops : ℕ) → ports.IsRoomy snoops s.ports → ports.IsRoomy snoops n.ports) where
  pub heard-by : ((p addr snoop : ℕ) → e ≡ Ac p addr snoop → ⊥)
      → ((r : Recording) → SharesTell s r.header r.past → least_broken r.header r.past e ≡ None → length r.past < 2 ^ 64 - 1
      → (goes_over_within s.most r.past e ≡ false) × lines.Stands n.lines (after r e) × system.Stands n.system (after r e))
      → ((past : Trace) → lines.IsRoomy 4096 past s.lines → lines.IsRoomy 4096 past n.lines)
      → ((past : Trace) → system.IsRoomy 4096 past s.system → system.IsRoomy 4096 past n.system) → IsHeard s e n Fine
  heard-by other tells =
      heard-fine s n e same
      (λ h past tell few.
      let r : Recording = record { header = h; past = past } in
      let fine = sym (least h past tell) in
      let t = tells r tell fine few in
      (fine, t.0, record { ports = hear r (may-apply s.ports h past e tell.ports fine few other); lines = t.1; system = t.2 }))
      (room 24576)

  -- one that is no AR or AW either
  pub heard-plain : is_plain e ≡ true
      → ((r : Recording) → SharesTell s r.header r.past → least_broken r.header r.past e ≡ None → length r.past < 2 ^ 64 - 1
      → lines.Stands n.lines (after r e) × system.Stands n.system (after r e))
      → ((past : Trace) → lines.IsRoomy 4096 past s.lines → lines.IsRoomy 4096 past n.lines)
      → ((past : Trace) → system.IsRoomy 4096 past s.system → system.IsRoomy 4096 past n.system) → IsHeard s e n Fine
  heard-plain plain tells =
      heard-by (λ p addr snoop is. let bad : is_plain (Ac p addr snoop) ≡ true = subst (λ d. is_plain d ≡ true) is plain in cc)
      (λ r tell fine few. let t = tells r tell fine few in (plain-over s.most r.past e plain, t.0, t.1))
