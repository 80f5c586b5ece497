-- A line transaction that is complete has had its order point.
use Rattle.std.proofs.Common.{◌≡◌, ◌⊎◌, ℕ, true, false, not, ◌&&◌, ◌||◌, ◌==◌, nat_eq, List, [], ◌∷◌, ◌++◌, length, Some, refl, sym, ◌∙◌, inl, inr}
use Rattle.std.proofs.lemmas.Bool.{and_parts, or_cases, or_left, or_right, cases_Bool, eqb-true, eq-eqb, not-true}
use Rattle.ace_model.proofs.Terms.{AwKind, Event, R, B, G, M, Channel, Read, Write, Header, Transaction, Trace, is_some_and, is_line_write, is_evict, has_write_data, is_read, is_line}
use Rattle.ace_model.proofs.Terms.{is_named, is_transaction, issued, read_kind, write_kind, same_channel, transaction_of, ended, without, served_by, has_had, is_completion_event, is_completed, is_grant}
use Rattle.ace_model.proofs.Terms.{is_write_of_memory, updates_memory, evicts, is_ordered, is_memory_write, has_memory_write, is_burst_whole, given, granted, is_granted, has_passed_data}
use Rattle.ace_model.proofs.Terms.{are_passed_data_whole, is_due, is_next_transfer, may_transfer, may_respond, is_write_due, is_update_due, may_write_passed, may_write_data, may_write_memory}
use Rattle.ace_model.proofs.Terms.{IsAccepted}
use Rattle.ace_codes.specs.declared.kind.AwKind.TheVariants as kind
use Rattle.ace_model.proofs.Trace.Growth.{has_had-later, accepted-first}
use Rattle.ace_model.proofs.Trace.Issued.{issued_at}
use Rattle.ace_model.proofs.Rules.Keeps.{accepted_keeps}
use Rattle.ace_model.proofs.Trace.Looks.{at_name, same_channel-is, newest_named-older, newest_on-cases, without-some}
use Rattle.ace_model.proofs.Trace.Served.{had_some, Outstands, outstands}
use Rattle.ace_model.proofs.General.Options.{is_some_and-is}
use Rattle.ace_model.proofs.General.Booleans.{if-cases, implies-at}

given-grant : (past : Trace) (e : Event) (y x : Transaction)
    → y.place ≡ x.place → given past e ≡ Some y → (is_grant e && is_transaction (served_by past e) x) ≡ true
given-grant past (G p c i) y x same g = rw g (eq-eqb y.place x.place same)
given-grant past e y x same g = cc

-- what is granted on a line has had its G
granted-had : (h : Header) (past : Trace) (l : ℕ) (y x : Transaction) → y.place ≡ x.place → granted h past l ≡ Some y → has_had is_grant past x ≡ true
granted-had h [] l y x same g = cc
granted-had h (e ∷ past) l y x same g =
    elim (newest_on-cases (given past e) l (without (ended h past e) (granted h past l)) y g) [
      | inl new ↦ or_left _ (has_had is_grant past x) (given-grant past e y x same new.0)
      | inr old ↦ or_right _ (has_had is_grant past x) (granted-had h past l y x same (without-some (ended h past e) (granted h past l) y old.0).0)
    ]

memory_write-now : (past : Trace) (e : Event) (p : ℕ) (c : Channel) (i : ℕ) (x : Transaction)
    → transaction_of (e ∷ past) p c i ≡ Some x → is_memory_write e p c i ≡ true
    → (is_write_of_memory e && is_transaction (served_by past e) x) ≡ true
memory_write-now past (M q d j line) p c i x t now =
    let a = and_parts (nat_eq p q && same_channel c d) (nat_eq i j) now in
    let b = and_parts (nat_eq p q) (same_channel c d) a.0 in
    let there : transaction_of past q d j ≡ Some x = rw (eqb-true p q b.0, same_channel-is c d b.1, eqb-true i j a.1) at t in
    rw there (eq-eqb x.place x.place refl)
memory_write-now past e p c i x t now = cc

-- the last transaction of the name has had the M that the name has had
has_memory_write-had : (past : Trace) (p : ℕ) (c : Channel) (i : ℕ) (x : Transaction)
    → transaction_of past p c i ≡ Some x → has_memory_write past p c i ≡ true → has_had is_write_of_memory past x ≡ true
has_memory_write-had [] p c i x t m = cc
has_memory_write-had (e ∷ past) p c i x t m =
    elim (or_cases (is_memory_write e p c i) (not (is_named (issued (length past) e) p c i) && has_memory_write past p c i) m) [
      | inl now ↦
          or_left (is_write_of_memory e && is_transaction (served_by past e) x) (has_had is_write_of_memory past x) (memory_write-now past e p c i x t now)
      | inr earlier ↦
          let parts = and_parts (not (is_named (issued (length past) e) p c i)) (has_memory_write past p c i) earlier in
          let other = not-true (is_named (issued (length past) e) p c i) parts.0 in
          let old = sym (newest_named-older (issued (length past) e) p c i (transaction_of past p c i) other) ∙ t in
          or_right (is_write_of_memory e && is_transaction (served_by past e) x) (has_had is_write_of_memory past x) (has_memory_write-had past p c i x old parts.1)
    ]

-- the order points
ordered-by_grant : (past : Trace) (x : Transaction)
    → updates_memory x ≡ false → has_had is_grant past x ≡ true → is_ordered past x ≡ true
ordered-by_grant past x update had = or_right (evicts x) _ (rw update had)

ordered-by_memory : (past : Trace) (x : Transaction)
    → updates_memory x ≡ true → has_had is_write_of_memory past x ≡ true → is_ordered past x ≡ true
ordered-by_memory past x update had = or_right (evicts x) _ (rw update had)

pub is_ordered-later : (later : List Event) (e : Event) (before : Trace) (x : Transaction) → is_ordered before x ≡ true → is_ordered (later ++ e ∷ before) x ≡ true
is_ordered-later later e before x ordered =
    elim (or_cases (evicts x) _ ordered) [
      | inl evict ↦ or_left (evicts x) _ evict
      | inr point ↦ elim (if-cases (updates_memory x) _ _ point) [
        | inl update ↦ ordered-by_memory (later ++ e ∷ before) x update.0 (has_had-later is_write_of_memory later e before x update.1)
        | inr other ↦ ordered-by_grant (later ++ e ∷ before) x other.0 (has_had-later is_grant later e before x other.1)
      ]
    ]

line_write-cases : (k : AwKind) → is_line_write k ≡ true → (is_evict k ≡ true) ⊎ (has_write_data k ≡ true)
line_write-cases kind.Evict e = inl refl
line_write-cases kind.Barrier e = cc
line_write-cases k e = inr refl

read-no_update : (x : Transaction) → x.chan ≡ Read → updates_memory x ≡ false
read-no_update x read = rw read refl

write-line_kind : (x : Transaction) → x.chan ≡ Write → is_line x ≡ true → is_some_and (write_kind x) is_line_write ≡ true
write-line_kind x write line = rw write (rw write at line)

module _ (h : Header) (x : Transaction) where
  is_granted-had : (past : Trace) → is_granted h past x ≡ true → has_had is_grant past x ≡ true
  is_granted-had past g =
      let one = is_some_and-is (granted h past x.addr) (λ y. y.place == x.place) g in
      granted-had h past x.addr one.0 x (eqb-true one.0.place x.place one.2) one.1

  -- where it may write memory, it is an update, or is granted
  may_write-cases : (past : Trace) → may_write_memory h past x ≡ true → (updates_memory x ≡ true) ⊎ (is_granted h past x ≡ true)
  may_write-cases past may =
      elim (if-cases (is_read x.chan) (may_write_passed h past x) (may_write_data h past x) may) [
        | inl due ↦
            let passed = (and_parts (has_passed_data h past x) _ (and_parts (has_passed_data h past x && are_passed_data_whole h past x) _ due.1).0).0 in
            inr (and_parts (is_granted h past x) _ (and_parts _ (not (has_memory_write past x.port x.chan x.id)) passed).0).0
        | inr due ↦
            let either = (and_parts (is_burst_whole past x && not (has_memory_write past x.port x.chan x.id)) (is_write_due h past x || is_update_due h past x) due.1).1 in
            elim (or_cases (is_write_due h past x) (is_update_due h past x) either) [
              | inl granted_one ↦ inr (and_parts (is_granted h past x) _ granted_one).0
              | inr update ↦ inl (and_parts (updates_memory x) _ update).0
            ]
      ]

  -- where it wrote memory, it is an update, or was granted
  abbrev WasGranted : Trace → Type 0
  WasGranted past = IsAccepted h past → issued_at past x.place ≡ Some x → (updates_memory x ≡ true) ⊎ (has_had is_grant past x ≡ true)

  written-granted : (later : List Event) (e : Event) (before : Trace)
      → is_write_of_memory e ≡ true → is_transaction (served_by before e) x ≡ true → WasGranted (later ++ e ∷ before)
  written-granted later (M p c i line) before passes belongs accepted there =
      let e : Event = M p c i line in
      let keeps = accepted_keeps h before e (accepted-first h later (e ∷ before) accepted) in
      let o = outstands h later e before p c i (may_write_memory h before) x keeps.rule_24 belongs there in
      elim (may_write-cases before o.1) [
        | inl update ↦ inl update
        | inr g ↦ inr (has_had-later is_grant later e before x (is_granted-had before g))
      ]
  written-granted later e before passes belongs accepted there = cc

  -- then it is ordered, an update by its M, and any other by its G
  written-ordered : (past : Trace) → IsAccepted h past → issued_at past x.place ≡ Some x → has_had is_write_of_memory past x ≡ true → is_ordered past x ≡ true
  written-ordered past accepted there had =
      elim (cases_Bool (updates_memory x)) [
        | inl update ↦ ordered-by_memory past x update had
        | inr other ↦ elim (had_some is_write_of_memory WasGranted past x written-granted had accepted there) [
          | inl update ↦ let no : true ≡ false = sym update ∙ other in cc
          | inr g ↦ ordered-by_grant past x other g
        ]
      ]

  -- a write is ordered where it may have its B
  response-ordered : (before : Trace) (p i : ℕ) → IsAccepted h before
      → Outstands h before p Write i x → may_respond before x ≡ true → is_line x ≡ true → is_ordered before x ≡ true
  response-ordered before p i accepted o may line =
      let k = is_some_and-is (write_kind x) is_line_write (write-line_kind x o.name.chan line) in
      elim (line_write-cases k.0 k.2) [
        | inl evict ↦ or_left (evicts x) _ (rw k.1 evict)
        | inr writes ↦
            let wrote = implies-at (is_some_and (write_kind x) has_write_data) _ (and_parts _ _ may).1 (rw k.1 writes) in
            let of_its_name = at_name (transaction_of before) x p Write i o.name ∙ o.of_name in
            written-ordered before accepted o.there (has_memory_write-had before x.port x.chan x.id x of_its_name wrote)
      ]

  -- where it is a complete line transaction, it is ordered
  abbrev IsOrderedIn : Trace → Type 0
  IsOrderedIn past = IsAccepted h past → issued_at past x.place ≡ Some x → is_line x ≡ true → is_ordered past x ≡ true

  completion-ordered : (later : List Event) (e : Event) (before : Trace)
      → is_completion_event e ≡ true → is_transaction (served_by before e) x ≡ true → IsOrderedIn (later ++ e ∷ before)
  completion-ordered later (R p i resp last word) before passes belongs accepted there line =
      let e : Event = R p i resp last word in
      let keeps = accepted_keeps h before e (accepted-first h later (e ∷ before) accepted) in
      let o = outstands h later e before p Read i (is_due h before resp last) x keeps.rule_18 belongs there in
      let may = implies-at (is_line x) (may_transfer h before x resp) (and_parts (is_some_and (read_kind x) (is_next_transfer before x last)) _ o.1).1 line in
      let g = (and_parts (is_granted h before x) _ (and_parts (is_granted h before x && _) _ may).0).0 in
      ordered-by_grant (later ++ e ∷ before) x (read-no_update x o.0.name.chan) (has_had-later is_grant later e before x (is_granted-had before g))
  completion-ordered later (B p i resp) before passes belongs accepted there line =
      let e : Event = B p i resp in
      let here = accepted-first h later (e ∷ before) accepted in
      let may = (and_parts (resp == 0) _ (accepted_keeps h before e here).rule_26).1 in
      let o = outstands h later e before p Write i (may_respond before) x may belongs there in
      is_ordered-later later e before x (response-ordered before p i here.0 o.0 o.1 line)
  completion-ordered later e before passes belongs accepted there line = cc

  pub completed-ordered : (past : Trace) → is_completed past x ≡ true → IsOrderedIn past
  completed-ordered past complete = had_some is_completion_event IsOrderedIn past x completion-ordered complete
