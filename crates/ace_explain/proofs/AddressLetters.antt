-- The clauses of K1 to K10 that are named.
use Rattle.std.proofs.Common.{◌≡◌, ℕ, ◌+◌, ◌≤◌, max, Bool, true, false, nat_lt, ◌&&◌, ◌==◌, if◌then◌else◌, [], ◌∷◌, length, Option, Some, None, is_some, refl, sym, ◌∙◌, arith}
use Rattle.std.specs.List.{list_all}
use Rattle.std.proofs.lemmas.Bool.{and_parts, and_from, ltb-true, lt-ltb, false_from_ne_true}
use Rattle.ace_event.specs.declared.event.Event.{Event}
use Rattle.ace_event.specs.declared.event.Event.TheVariants.{Ar, Aw, R, B, Cr, Ac, Mem}
use Rattle.ace_event.specs.declared.line.Line.{Line}
use Rattle.ace_codes.specs.Reads.{ar_kind_of}
use Rattle.ace_codes.specs.Snoops.{ac_kind_of}
use Rattle.ace_codes.specs.Writes.{aw_kind_of}
use Rattle.ace_codes.specs.declared.kind.ArKind.{ArKind}
use Rattle.ace_codes.specs.declared.kind.AwKind.{AwKind}
use Rattle.ace_codes.specs.declared.state.LineState.{LineState}
use Rattle.ace_event.specs.declared.event.Channel.TheVariants.{Read}
use Rattle.ace_model.specs.declared.transactions.Transaction.{Transaction}
use Rattle.ace_model.specs.Kinds.{may_be_exclusive}
use Rattle.ace_model.specs.Transactions.{is_ace, read_kind}
use Rattle.ace_model.specs.Trace.{Trace, port_of, is_none_or, is_some_and, implies}
use Rattle.ace_model.specs.AddressRules.{wants_ace, may_issue_read, may_issue_write, is_opened_below, line_address, is_aligned}
use Rattle.ace_portck.specs.Targets.{Recording}
use Rattle.ace_portck.specs.Opening.{OpeningStands}
use Rattle.ace_portck.specs.declared.opening.OpeningMemory.TheVariants.{Empty, Opened, Closed}
use Rattle.ace_clauses.specs.AddressClauses.{opens_a_line}
use Rattle.ace_clauses.specs.declared.letters.Letter.{Letter}
use Rattle.ace_clauses.specs.declared.letters.Letter.TheVariants as letter
use Rattle.ace_explain.specs.Names.{Names}
use Rattle.ace_explain.proofs.Broken.{has_clause, last_one, none_broken}

-- with a greater bound all stand below it still
opened_higher : (past : Trace) (a b : ℕ) → a ≤ b → is_opened_below past a ≡ true → is_opened_below past b ≡ true
opened_higher [] a b le t = refl
opened_higher (Mem first line ∷ past) a b le t =
    let parts = and_parts (is_opened_below past a) (nat_lt first a) t in
    let low = ltb-true first a parts.1 in
    and_from _ _ (opened_higher past a b le parts.0) (lt-ltb first b (omega (arith, le, low)))
opened_higher (_ ∷ past) a b le t = cc

-- where all are MEMs they have a bound
has_bound : (past : Trace) → list_all opens_a_line past ≡ true → (b : ℕ) × (is_opened_below past b ≡ true)
has_bound [] all = (0, refl)
has_bound (Mem first line ∷ past) all =
    let old = has_bound past all in
    let next : ℕ = max old.0 (first + 1) in
    (next, and_from _ _ (opened_higher past old.0 next (omega arith) old.1) (lt-ltb first next (omega arith)))
has_bound (_ ∷ past) all = cc

-- where all stand below a bound they are MEMs
all_open : (past : Trace) (a : ℕ) → is_opened_below past a ≡ true → list_all opens_a_line past ≡ true
all_open [] a t = refl
all_open (Mem first line ∷ past) a t = all_open past a (and_parts (is_opened_below past a) (nat_lt first a) t).0
all_open (_ ∷ past) a t = cc

-- what is kept of the opening memory tells whether all events are MEMs
pub closed_is : (past : Trace) → OpeningStands past Closed → list_all opens_a_line past ≡ false
closed_is past s =
    false_from_ne_true (list_all opens_a_line past) (λ t. let b = has_bound past t in let bad : true ≡ false = sym b.1 ∙ s.below b.0 in cc)

pub opened_is : (past : Trace) (last : ℕ) → OpeningStands past (Opened last) → list_all opens_a_line past ≡ true
opened_is past last s = all_open past (last + 1) (s.below (last + 1) ∙ lt-ltb last (last + 1) (omega arith))

pub empty_is : (past : Trace) → OpeningStands past Empty → list_all opens_a_line past ≡ true
empty_is past s = all_open past 0 (s.below 0)

module _ (r : Recording) where
  -- K1, of a port of the header
  pub ace_lite_port : (e : Event) (p : ℕ) → port_of e ≡ Some p → nat_lt p r.header.ports ≡ true → Names r e 1 letter.B
  ace_lite_port e p is low least =
      rw is (second (nat_lt p r.header.ports) (implies (wants_ace e) (is_ace r.header p)) low (rw is at (has_clause r.header r.past e 1 least)))
    where
      second : (a b : Bool) → a ≡ true → is_some (if a then (if b then None else Some letter.B) else Some letter.A) ≡ true
          → (if a then (if b then None else Some letter.B) else Some letter.A) ≡ Some letter.B
      second true b t some = last_one b letter.B some
      second false b t some = cc

  -- K2, where the codes have a kind
  pub ar_of_kind : (p i addr snoop dom bar : ℕ) (lock : Bool) (k : ArKind) → ar_kind_of snoop dom bar ≡ Some k → Names r (Ar p i addr snoop dom bar lock) 2 letter.B
  ar_of_kind p i addr snoop dom bar lock k is least =
      rw is (last_one (may_issue_read r.header p k) letter.B (rw is at (has_clause r.header r.past (Ar p i addr snoop dom bar lock) 2 least)))

  pub aw_of_kind : (p i addr snoop dom bar : ℕ) (k : AwKind) → aw_kind_of snoop dom bar ≡ Some k → Names r (Aw p i addr snoop dom bar) 2 letter.B
  aw_of_kind p i addr snoop dom bar k is least =
      rw is (last_one (may_issue_write r.header p k) letter.B (rw is at (has_clause r.header r.past (Aw p i addr snoop dom bar) 2 least)))

  -- of an event with neither the codes of a transaction nor a response
  pub k2_of_others : (e : Event) → ((p i addr snoop dom bar : ℕ) (lock : Bool) → e ≡ Ar p i addr snoop dom bar lock → ⊥)
      → ((p i resp : ℕ) (last : Bool) (word : ℕ) → e ≡ R p i resp last word → ⊥)
      → ((p i addr snoop dom bar : ℕ) → e ≡ Aw p i addr snoop dom bar → ⊥) → ((p i resp : ℕ) → e ≡ B p i resp → ⊥)
      → ((p resp : ℕ) (st : LineState) → e ≡ Cr p resp st → ⊥) → Names r e 2 letter.A
  k2_of_others (Ar p i addr snoop dom bar lock) ar rr aw b cr least = absurd (ar p i addr snoop dom bar lock refl)
  k2_of_others (R p i resp last word) ar rr aw b cr least = absurd (rr p i resp last word refl)
  k2_of_others (Aw p i addr snoop dom bar) ar rr aw b cr least = absurd (aw p i addr snoop dom bar refl)
  k2_of_others (B p i resp) ar rr aw b cr least = absurd (b p i resp refl)
  k2_of_others (Cr p resp st) ar rr aw b cr least = absurd (cr p resp st refl)
  k2_of_others (Ac p addr snoop) ar rr aw b cr least = last_one (is_some (ac_kind_of snoop)) letter.A (has_clause r.header r.past (Ac p addr snoop) 2 least)
  k2_of_others e ar rr aw b cr least = none_broken (has_clause r.header r.past e 2 least)

  -- K3, of a MEM of a line, in a trace of version 2
  module _ (addr : ℕ) (line : Line) (aligned : is_aligned addr ≡ true) (version : (r.header.version == 2) ≡ true) where
    pub late_mem : list_all opens_a_line r.past ≡ false → Names r (Mem addr line) 3 letter.C
    late_mem all least = rw (aligned, version, all) refl

    module _ (all : list_all opens_a_line r.past ≡ true) where
      pub low_mem : is_opened_below r.past addr ≡ false → Names r (Mem addr line) 3 letter.D
      low_mem below least = rw (aligned, version, all, below) refl

      pub further_mem : is_opened_below r.past addr ≡ true → Names r (Mem addr line) 3 letter.E
      further_mem below least =
          rw (aligned, version, all, below)
          (last_one (nat_lt (length r.past) 4096) letter.E (rw (aligned, version, all, below) at (has_clause r.header r.past (Mem addr line) 3 least)))

  -- K3, of an event that is no MEM
  pub k3_of_others : (e : Event) → ((addr : ℕ) (line : Line) → e ≡ Mem addr line → ⊥) → Names r e 3 letter.A
  k3_of_others (Mem addr line) mem least = absurd (mem addr line refl)
  k3_of_others e mem least = last_one (is_none_or (line_address e) is_aligned) letter.A (has_clause r.header r.past e 3 least)

  -- K7, of an AR
  module _ (p i addr snoop dom bar : ℕ) (lock : Bool) where
    pub ace_lock : is_ace r.header p ≡ true → Names r (Ar p i addr snoop dom bar lock) 7 letter.A
    ace_lock ace least =
        rw ace (by lock (is_some_and (read_kind x) may_be_exclusive) (rw ace at (has_clause r.header r.past (Ar p i addr snoop dom bar lock) 7 least)))
      where
        x : Transaction
        x = record { place = length r.past; port = p; chan = Read; id = i; addr = addr; snoop = snoop; dom = dom; bar = bar; lock = lock }

        Told : Bool → Bool → Option Letter
        Told lock kind = if implies (lock && true) kind then (if implies lock true then None else Some letter.B) else Some letter.A

        by : (lock kind : Bool) → is_some (Told lock kind) ≡ true → Told lock kind ≡ Some letter.A
        by true true some = none_broken some
        by true false some = refl
        by false kind some = none_broken some

    pub lite_lock : is_ace r.header p ≡ false → Names r (Ar p i addr snoop dom bar lock) 7 letter.B
    lite_lock ace least =
        rw ace (by lock (is_some_and (read_kind x) may_be_exclusive) (rw ace at (has_clause r.header r.past (Ar p i addr snoop dom bar lock) 7 least)))
      where
        x : Transaction
        x = record { place = length r.past; port = p; chan = Read; id = i; addr = addr; snoop = snoop; dom = dom; bar = bar; lock = lock }

        Told : Bool → Bool → Option Letter
        Told lock kind = if implies (lock && false) kind then (if implies lock false then None else Some letter.B) else Some letter.A

        by : (lock kind : Bool) → is_some (Told lock kind) ≡ true → Told lock kind ≡ Some letter.B
        by true kind some = refl
        by false kind some = none_broken some

  -- K7, of an event that is no AR
  pub k7_of_others : (e : Event) → ((p i addr snoop dom bar : ℕ) (lock : Bool) → e ≡ Ar p i addr snoop dom bar lock → ⊥) → Names r e 7 letter.B
  k7_of_others (Ar p i addr snoop dom bar lock) ar least = absurd (ar p i addr snoop dom bar lock refl)
  k7_of_others e ar least = none_broken (has_clause r.header r.past e 7 least)

  -- K10, of an event that is no AW
  pub k10_of_others : (e : Event) → ((p i addr snoop dom bar : ℕ) → e ≡ Aw p i addr snoop dom bar → ⊥) → Names r e 10 letter.A
  k10_of_others (Aw p i addr snoop dom bar) aw least = absurd (aw p i addr snoop dom bar refl)
  k10_of_others e aw least = none_broken (has_clause r.header r.past e 10 least)
