-- The rules of the writes to memory, in the words of what is kept of the line.
use Rattle.std.proofs.Common.{◌≡◌, ℕ, true, false, Bool, not, ◌&&◌, ◌||◌, ◌==◌, if◌then◌else◌, List, Option, Some, None, is_some, option_map, option_and_then, unwrap_or, refl, sym, ap, ◌∙◌, inl, inr}
use Rattle.std.proofs.lemmas.Bool.{and_parts, and_from, and_right, or_cases, or_left, or_right, not_from_false, cases_Bool}
use Rattle.ace_lineck.proofs.Terms.{LineStands, is_clean_unique, is_exclusive_store, may_write, may_write_burst, passed_at_grant, AwKind, Line, Answer, Transaction, zero_line, Header, Trace, Channel, IsAccepted, is_some_and, is_none_or, is_read, is_line, is_line_read, is_line_write, is_update, is_transaction, read_kind, write_kind, has_write_data, updates_memory, outstanding, transfers, granted, is_granted, answer_of, LineState, has_passed_data, are_passed_data_whole, are_snoops_done, passer, passes, copy_of, at_point, copy_at_answer, passed_data, passes_dirty, has_failed, has_memory_write, is_burst_whole, may_write_memory, may_write_passed, may_write_data, is_write_due, is_update_due, has_data, same_line, memory_of, burst_strobe, burst_line, burst_of, progress_of, WriteData, LineRecord, Grant, StatesStand, GrantStands, has_passed, is_passed_whole, are_done, is_its, passed_kept, written_kept, fits_data}
use Rattle.ace_codes.specs.declared.kind.AwKind.TheVariants as write
use Rattle.ace_model.proofs.General.Options.{is_some_and-is}
use Rattle.ace_model.proofs.General.Booleans.{then_of}
use Rattle.ace_model.proofs.General.Ports.{found_passes}
use Rattle.ace_model.proofs.Tables.Kinds.{granted_data}
use Rattle.ace_model.proofs.Holders.Law.{accepted_holds}
use Rattle.ace_model.proofs.Grants.Granted.{granted_at, granted_given, granted_write, passed_may, data_may}
use Rattle.ace_model.proofs.Grants.Granted as grants
use Rattle.ace_model.specs.WriteRules as rules
use Rattle.ace_portck.specs.Targets.{data_of_write}
use Rattle.ace_lineck.proofs.GrantFrame.{passed_at}
use Rattle.ace_lineck.proofs.GrantSteps.{otherwise_of}
use Rattle.ace_lineck.proofs.GrantLaws.{its-is, its-granted, passed-law, whole-law, done-law}

update-line : (k : AwKind) → is_update k ≡ true → (is_line_write k ≡ true) × (has_write_data k ≡ true)
update-line write.WriteBack e = (refl, refl)
update-line write.WriteClean e = (refl, refl)
update-line write.WriteEvict e = (refl, refl)
update-line k e = cc

updates-line : (x : Transaction) → updates_memory x ≡ true → (is_line x ≡ true) × (is_some_and (write_kind x) has_write_data ≡ true)
updates-line x u =
    let k = is_some_and-is (write_kind x) is_update u in
    let kind = k.1 in
    let both = update-line k.0 k.2 in
    (or_right (is_some_and (read_kind x) is_line_read) (is_some_and (write_kind x) is_line_write) (rw kind both.0), rw kind both.1)

-- the burst of a write
abbrev pub the_burst : Trace → Transaction → WriteData
the_burst past y = record { strobe = burst_strobe (burst_of past y); line = burst_line (burst_of past y) }

-- the passed data of a line
pub passed-data-law : (h : Header) (past : Trace) → IsAccepted h past → (l : ℕ) (g : Option Grant) → GrantStands h past l g → passed_kept g ≡ passed_data h past l
passed-data-law h past a l g f = by g f
  where
    lines : (o : Option ℕ) → passer h past l ≡ o → option_map (λ q. q.line) (option_map (passed_at past l) o) ≡ option_and_then (copy_at_answer past l) o
    lines None is = refl
    lines (Some q) is =
        let w = is_some_and-is (answer_of past q l) (λ (v : Answer). passes_dirty v.resp) (found_passes h.ports (passes past l) q is) in
        let copy : copy_at_answer past l q ≡ Some (copy_of (at_point w.0.place past) q l) = ap (option_map (λ (v : Answer). copy_of (at_point v.place past) q l)) w.1 in
        ap (λ v. Some (unwrap_or v zero_line)) copy ∙ sym copy

    by : (g : Option Grant) → GrantStands h past l g → passed_kept g ≡ passed_data h past l
    by None f = sym (ap (λ o. if is_some_and o (has_passed_data h past) then option_and_then (copy_at_answer past l) (passer h past l) else None) f)
    by (Some g) f =
        ap (λ b. if b then option_map (λ q. q.line) g.passed else None) (passed-law h past a l g f)
        ∙ ap (λ v. if has_passed_data h past g.transaction then option_map (λ q. q.line) v else None) f.passed
        ∙ ap (λ v. if has_passed_data h past g.transaction then v else None) (lines (passer h past l) refl)
        ∙ sym (ap (λ o. if is_some_and o (has_passed_data h past) then option_and_then (copy_at_answer past l) (passer h past l) else None) f.granted)

-- what a write of this kind writes
pub written-law : (h : Header) (past : Trace) (y : Transaction) (passed : Option Line) (memory : Line) → passed ≡ passed_data h past y.addr → memory ≡ memory_of past y.addr → (k : AwKind)
    → written_kept passed memory (the_burst past y) k ≡ rules.data_of_write h past y k
written-law h past y passed memory passed_is memory_is write.WriteUnique = rw (passed_is, memory_is) refl
written-law h past y passed memory passed_is memory_is write.WriteNoSnoop = rw memory_is refl
written-law h past y passed memory passed_is memory_is k = refl

module _ (h : Header) (past : Trace) (a : IsAccepted h past) (p : ℕ) (c : Channel) (i : ℕ) (y : Transaction) (o : outstanding h past p c i ≡ Some y) where
  pub granted-line : is_granted h past y ≡ true → is_line y ≡ true
  granted-line g = (and_parts (is_line y) _ ((accepted_holds h past a).grants y.addr y (granted_at h past a p c i y o g)).1).0

  -- what may write memory has a line
  pub writes-line : may_write_memory h past y ≡ true → is_line y ≡ true
  writes-line m =
      elim (cases_Bool (is_read y.chan)) [
        | inl reads ↦ granted-line (grants.has_passed h past y (passed_may h past y m reads)).stands
        | inr writes ↦ elim (data_may h past y m writes).how [
          | inl due ↦ granted-line (and_parts (is_granted h past y) _ due).0
          | inr due ↦ (updates-line y (and_parts (updates_memory y) _ due).0).0
        ]
      ]

  -- and what writes a burst has data
  pub writes-data : (is_write_due h past y || is_update_due h past y) ≡ true → is_read y.chan ≡ false → is_some_and (write_kind y) has_write_data ≡ true
  writes-data m writes =
      elim (or_cases (is_write_due h past y) (is_update_due h past y) m) [
        | inr due ↦ (updates-line y (and_parts (updates_memory y) _ due).0).1
        | inl due ↦
            let stands = granted_at h past a p c i y o (and_parts (is_granted h past y) _ due).0 in
            let k = granted_write y (granted_given h past a y.addr y stands).kind writes in
            ap (λ v. is_some_and v has_write_data) k.1 ∙ granted_data k.0 k.2
      ]

  module _ (g : Option Grant) (f : GrantStands h past y.addr g) where
    -- the passed data of a granted read
    whole-for : is_some_and g (λ v. is_its v y && has_passed v && is_passed_whole v) ≡ (has_passed_data h past y && are_passed_data_whole h past y)
    whole-for = by g f
      where
        by : (g : Option Grant) → GrantStands h past y.addr g → is_some_and g (λ v. is_its v y && has_passed v && is_passed_whole v) ≡ (has_passed_data h past y && are_passed_data_whole h past y)
        by None f = let none : is_granted h past y ≡ false = ap (λ v. is_transaction v y) f in rw none refl
        by (Some g) f =
            elim (cases_Bool (is_its g y)) [
              | inr n ↦ let none : is_granted h past y ≡ false = its-granted h past a y.addr g f y refl ∙ n in rw (n, none) refl
              | inl own ↦
                  let one = its-is h past a y.addr g f p c i y o refl own in
                  ap (λ b. (b && has_passed g) && is_passed_whole g) own
                  ∙ ap (λ b. b && is_passed_whole g) (passed-law h past a y.addr g f ∙ ap (has_passed_data h past) one)
                  ∙ ap (λ b. has_passed_data h past y && b) (whole-law h past a y.addr g f ∙ ap (are_passed_data_whole h past) one)
            ]

    -- a granted write with its snoops done
    due-for : (failed : Bool) (xs : List LineState) → failed ≡ has_failed past y → StatesStand h past y.addr xs
        → is_some_and g (λ v. is_its v y && are_done h failed v xs) ≡ is_write_due h past y
    due-for failed xs is held = by g f
      where
        by : (g : Option Grant) → GrantStands h past y.addr g → is_some_and g (λ v. is_its v y && are_done h failed v xs) ≡ is_write_due h past y
        by None f = let none : is_granted h past y ≡ false = ap (λ v. is_transaction v y) f in rw none refl
        by (Some g) f =
            elim (cases_Bool (is_its g y)) [
              | inr n ↦ let none : is_granted h past y ≡ false = its-granted h past a y.addr g f y refl ∙ n in rw (n, none) refl
              | inl own ↦
                  let one = its-is h past a y.addr g f p c i y o refl own in
                  let stands : is_granted h past y ≡ true = its-granted h past a y.addr g f y refl ∙ own in
                  ap (λ b. b && are_done h failed g xs) (own ∙ sym stands)
                  ∙ ap (λ b. is_granted h past y && b) (done-law h past a y.addr g f failed xs (is ∙ ap (has_failed past) (sym one)) held ∙ ap (are_snoops_done h past) one)
            ]

    -- a memory update while no passed data are on their way
    update-for : (updates_memory y && is_none_or g (λ v. not (has_passed v))) ≡ is_update_due h past y
    update-for = ap (λ b. updates_memory y && b) (by g f)
      where
        by : (g : Option Grant) → GrantStands h past y.addr g → is_none_or g (λ v. not (has_passed v)) ≡ is_none_or (granted h past y.addr) (λ z. not (has_passed_data h past z))
        by None f = sym (ap (λ v. is_none_or v (λ z. not (has_passed_data h past z))) f)
        by (Some g) f = ap not (passed-law h past a y.addr g f) ∙ sym (ap (λ v. is_none_or v (λ z. not (has_passed_data h past z))) f.granted)

    -- the passed data
    passed-for : passed_kept g ≡ passed_data h past y.addr
    passed-for = passed-data-law h past a y.addr g f

-- no write is an exclusive store that failed
unfailing : (past : Trace) (x : Transaction) → is_read x.chan ≡ false → has_failed past x ≡ false
unfailing past x writes =
    let read : read_kind x ≡ None = otherwise_of (is_read x.chan) _ None writes in
    let none : is_exclusive_store x ≡ false = ap (λ o. x.lock && is_some_and o is_clean_unique) read ∙ and_right x.lock false refl in
    ap (λ b. b && is_some_and (passed_at_grant past x.port x.id) not) none

-- whether there is a burst
some-if : {A : Type 0} → (b : Bool) (v : A) → is_some (if b then Some v else None) ≡ b
some-if true v = refl
some-if false v = refl

same-burst : (d w n m : Bool) → (m ≡ true → d ≡ true) → (((d && w) && n) && m) ≡ ((w && n) && m)
same-burst true w n m f = refl
same-burst false w n true f = let bad = f refl in cc
same-burst false true n false f = sym (and_right n false refl)
same-burst false false n false f = refl

-- what has no kind has no data
of-kind : (o : Option AwKind) (w n due free : Bool) → (((is_some_and o has_write_data && w) && n) && is_some_and o (λ k. due || (is_update k && free)))
    ≡ (((is_some_and o has_write_data && w) && n) && (due || (is_some_and o is_update && free)))
of-kind None w n due free = refl
of-kind (Some k) w n due free = refl

module _ (h : Header) (past : Trace) (a : IsAccepted h past) (p : ℕ) (c : Channel) (i : ℕ) (y : Transaction) (o : outstanding h past p c i ≡ Some y)
    (x : LineRecord) (s : LineStands h past y.addr x) (burst : Option WriteData) (sends : burst ≡ data_of_write past y) where
  -- K24
  pub k24-law : may_write h x (progress_of h past y) burst ≡ may_write_memory h past y
  k24-law =
      let own = is_some_and (write_kind y) has_write_data in
      let whole = is_burst_whole past y in
      let first = not (has_memory_write past y.port y.chan y.id) in
      let free = is_none_or x.grant (λ g. not (has_passed g)) in
      let due = is_some_and x.grant (λ g. is_its g y && are_done h false g x.states) in
      elim (cases_Bool (is_read y.chan)) [
        | inl reads ↦
            then_of (is_read y.chan) _ _ reads
            ∙ ap (λ b. b && ((progress_of h past y).transfers == 0)) (whole-for h past a p c i y o x.grant s.grant)
            ∙ ap (λ n. (has_passed_data h past y && are_passed_data_whole h past y) && (n == 0)) (then_of (is_read y.chan) (transfers past y.port y.id) 0 reads)
            ∙ sym (then_of (is_read y.chan) (may_write_passed h past y) (may_write_data h past y) reads)
        | inr writes ↦
            otherwise_of (is_read y.chan) _ _ writes
            ∙ ap (λ b. b && is_some_and (write_kind y) (may_write_burst h x y)) (ap is_some sends ∙ some-if ((own && whole) && first) (the_burst past y))
            ∙ of-kind (write_kind y) whole first due free
            ∙ ap (λ b. ((own && whole) && first) && (b || (updates_memory y && free))) (due-for h past a p c i y o x.grant s.grant false x.states (sym (unfailing past y writes)) s.states)
            ∙ ap (λ b. ((own && whole) && first) && (is_write_due h past y || b)) (update-for h past a p c i y o x.grant s.grant)
            ∙ same-burst own whole first (is_write_due h past y || is_update_due h past y) (λ m. writes-data h past a p c i y o m writes)
            ∙ sym (otherwise_of (is_read y.chan) (may_write_passed h past y) (may_write_data h past y) writes)
      ]

  -- K25
  pub k25-law : (line : Line) → may_write_memory h past y ≡ true → fits_data (passed_kept x.grant) x.memory burst line y ≡ has_data h past line y
  k25-law line m =
      let passed = passed-for h past a p c i y o x.grant s.grant in
      elim (cases_Bool (is_read y.chan)) [
        | inl reads ↦
            then_of (is_read y.chan) _ _ reads ∙ ap (λ v. is_none_or v (same_line line)) passed
            ∙ sym (ap (λ v. is_none_or v (same_line line)) (then_of (is_read y.chan) (passed_data h past y.addr) (option_map (rules.data_of_write h past y) (write_kind y)) reads))
        | inr writes ↦
            let may = data_may h past y m writes in
            let due : (is_write_due h past y || is_update_due h past y) ≡ true = elim may.how [
              | inl d ↦ or_left (is_write_due h past y) (is_update_due h past y) d
              | inr u ↦ or_right (is_write_due h past y) (is_update_due h past y) u
            ] in
            let has = writes-data h past a p c i y o due writes in
            let some : data_of_write past y ≡ Some (the_burst past y) = then_of _ (Some (the_burst past y)) None (and_from _ _ (and_from _ _ has may.whole) (not_from_false _ may.first)) in
            otherwise_of (is_read y.chan) _ _ writes
            ∙ ap (λ v. is_none_or v (λ b. is_none_or (write_kind y) (λ k. same_line line (written_kept (passed_kept x.grant) x.memory b k)))) (sends ∙ some)
            ∙ each passed (write_kind y)
            ∙ sym (ap (λ v. is_none_or v (same_line line)) (otherwise_of (is_read y.chan) (passed_data h past y.addr) (option_map (rules.data_of_write h past y) (write_kind y)) writes))
      ]
    where
      each : passed_kept x.grant ≡ passed_data h past y.addr → (k : Option AwKind)
          → is_none_or k (λ k. same_line line (written_kept (passed_kept x.grant) x.memory (the_burst past y) k)) ≡ is_none_or (option_map (rules.data_of_write h past y) k) (same_line line)
      each passed None = refl
      each passed (Some k) = ap (same_line line) (written-law h past y (passed_kept x.grant) x.memory passed s.memory.memory k)
