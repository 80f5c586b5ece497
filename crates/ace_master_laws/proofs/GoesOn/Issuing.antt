-- A transaction that a port issues for its next operation, which it asks for.
use Rattle.std.proofs.Common.{◌≡◌, ◌⊎◌, ◌<◌, ◌≤◌, ℕ, Bool, true, false, not, ◌&&◌, if◌then◌else◌, List, [], ◌∷◌, ◌++◌, length, length-append, filter, slice_get, Some, None, inl, inr, refl, sym, ap, subst, ◌∙◌, arith, nat_lt, is_some}
use Rattle.std.proofs.lemmas.List.Elements.{filter-append}
use Rattle.ace_event.specs.declared.event.Channel.TheVariants.{Read}
use Rattle.ace_event.specs.declared.event.Event.{Event}
use Rattle.ace_event.specs.declared.event.Event.TheVariants.{Ar, Aw}
use Rattle.ace_event.specs.declared.header.Header.{Header}
use Rattle.ace_model.specs.declared.plans.Op.{Op}
use Rattle.ace_model.specs.declared.transactions.Transaction.{Transaction}
use Rattle.ace_model.specs.Transactions.{ended, issued, is_outstanding, is_transaction, write_kind}
use Rattle.ace_runs.specs.Segments.{segment, is_for_operation, silent_moves}
use Rattle.ace_runs.specs.Follows.{FollowsSoFar, acts_well, answers_well, carries_data, retires_well}
use Rattle.ace_master_laws.proofs.Progress.Come.{HasCome, no-read, out-stays}
use Rattle.ace_model.specs.Accepted.{IsAccepted}
use Rattle.ace_master_laws.specs.Orderly.{IsFor, IsUnderWay, brings_line, is_settled, line_used, owns_line, takes_line, takes_way}
use Rattle.ace_tables.specs.States.{is_invalid}
use Rattle.ace_model.specs.States.{state_of}
use Rattle.ace_master_laws.proofs.Lines.Gentle.{IsGentle, cleared-stays, settled-stays, gentle}
use Rattle.ace_master_laws.proofs.Progress.Wells.{IsWell, gentle-room, obeys-from}
use Rattle.ace_model.specs.Plans.{Plan}
use Rattle.ace_model.proofs.General.Options.{Some-injective, is_some_and-is}
use Rattle.ace_model.specs.Trace.{Trace, is_none_or, is_some_and, option_filter, port_of, more}
use Rattle.std.proofs.lemmas.Bool.{and_from, cases_Bool, eq-eqb, lt-ltb, or_right}
use Rattle.ace_runs.specs.HeldLines.{held_lines, others}
use Rattle.ace_model.specs.Messages.{is_dvm_completion}
use Rattle.ace_runs.specs.Lean.{is_on_named_line, is_one_of_three, is_one_of_two}
use Rattle.ace_runs.specs.Counts.{is_retirement}
use Rattle.ace_model.specs.Kinds.{is_update}
use Rattle.ace_runs.proofs.NeverStuck.Phases.NextActs.{next-stays, segment-more}
use Rattle.ace_runs.specs.Operations.{next_operation}
use Rattle.ace_master_laws.proofs.Lines.HeldLines.{others-not-more}
use Rattle.ace_model.proofs.Trace.Issued.{outstanding-origin}
use Rattle.ace_model.proofs.Outstanding.Steps.{outstanding_new_one}
use Rattle.ace_model.proofs.General.Lists.{slice_get-append, slice_get-at_end, slice_get-more}
use Rattle.ace_model.specs.Progress.{updates_memory}

-- What a port issues for its next operation.
pub record Issues (plan : Plan) (past : Trace) (p : ℕ) (o : Op) (e : Event) (x : Transaction) : Type 0 where
  pub accepted : IsAccepted plan.header (e ∷ past)
  pub new : issued (length past) e ≡ Some x
  pub port : x.port ≡ p
  pub own : is_dvm_completion x ≡ false
  pub wanted : IsFor o x
  pub updates : updates_memory x ≡ true → length (filter updates_memory (segment past p)) ≤ 0
  pub owners : owns_line x ≡ true → length (filter owns_line (segment past p)) ≤ 0
  pub way : takes_way o x ≡ true → length (others x.addr (held_lines plan.header past p)) < plan.ways
  pub absent : updates_memory x ≡ true → (l : ℕ) → line_used o ≡ Some l → is_invalid (state_of plan.header past p l) ≡ true
  pub brought : (k : ℕ) (y : Transaction) → slice_get (segment past p) k ≡ Some y → brings_line y ≡ true → is_outstanding plan.header past y ≡ false
  pub cleared : (k : ℕ) (y : Transaction) → slice_get (segment past p) k ≡ Some y → updates_memory y ≡ true → is_outstanding plan.header past y ≡ false

issue-retires : (n : ℕ) (e : Event) (x : Transaction) → issued n e ≡ Some x → is_retirement e ≡ false
issue-retires n (Ar p i addr snoop dom bar lock) x new = refl
issue-retires n (Aw p i addr snoop dom bar) x new = refl
issue-retires n e x new = cc

issue-silent : (past : Trace) (p n : ℕ) (e : Event) (x : Transaction) → issued n e ≡ Some x → silent_moves (e ∷ past) p ≡ silent_moves past p
issue-silent past p n (Ar q i addr snoop dom bar lock) x new = refl
issue-silent past p n (Aw q i addr snoop dom bar) x new = refl
issue-silent past p n e x new = cc

issue-ends : (h : Header) (past : Trace) (n : ℕ) (e : Event) (x : Transaction) → issued n e ≡ Some x → ended h past e ≡ None
issue-ends h past n (Ar q i addr snoop dom bar lock) x new = refl
issue-ends h past n (Aw q i addr snoop dom bar) x new = refl
issue-ends h past n e x new = cc

pub issue-gentle : (h : Header) (past : Trace) (p n : ℕ) (e : Event) (x : Transaction) → IsAccepted h (e ∷ past) → issued n e ≡ Some x → IsGentle h past p e
issue-gentle h past p n (Ar q i addr snoop dom bar lock) x a new = gentle h past p (Ar q i addr snoop dom bar lock) a refl tt
issue-gentle h past p n (Aw q i addr snoop dom bar) x a new = gentle h past p (Aw q i addr snoop dom bar) a refl tt
issue-gentle h past p n e x a new = cc

filtered-more : (test : Transaction → Bool) (xs : List Transaction) (x : Transaction) → length (filter test xs) ≤ 1 → (test x ≡ true → length (filter test xs) ≤ 0) → length (filter test (xs ++ x ∷ [])) ≤ 1
filtered-more test xs x few none =
    elim (cases_Bool (test x)) [
      | inl t ↦
          let low = none t in
          let e = ap length (filter-append test xs (x ∷ []) ∙ ap (λ b. filter test xs ++ (if b then x ∷ [] else [])) t) in
          let l = length-append (filter test xs) (x ∷ []) in
          omega (arith, low, e, l)
      | inr f ↦
          let e = ap length (filter-append test xs (x ∷ []) ∙ ap (λ b. filter test xs ++ (if b then x ∷ [] else [])) f) in
          let l = length-append (filter test xs) [] in
          omega (arith, few, e, l)
    ]

read-no-update : (x : Transaction) → brings_line x ≡ true → updates_memory x ≡ true → ⊥
read-no-update x b u =
    let k = is_some_and-is (write_kind x) is_update u in
    let bad : false ≡ true = ap (λ o. is_some_and o takes_line) (sym (no-read x k.0 k.1)) ∙ b in cc

module _ (plan : Plan) (past : Trace) (p : ℕ) (o : Op) (e : Event) (x : Transaction) (next : next_operation plan past p ≡ Some o) (s : Issues plan past p o e x) (c : HasCome plan past p) where
  abbrev h : Header
  h = plan.header

  abbrev now : Trace
  now = e ∷ past

  pub issue-next : next_operation plan now p ≡ next_operation plan past p
  issue-next = next-stays plan past p e (issue-retires (length past) e x s.new)

  pub issue-segment : segment now p ≡ segment past p ++ x ∷ []
  issue-segment =
      segment-more past p e (issue-retires (length past) e x s.new)
      ∙ ap (λ v. more (segment past p) (option_filter (is_for_operation p) v)) s.new
      ∙ ap (λ b. more (segment past p) (if b then Some x else None)) (and_from _ _ (eq-eqb x.port p s.port) (ap not s.own))

  pub issue-at : (k : ℕ) (y : Transaction) → slice_get (segment now p) k ≡ Some y → (slice_get (segment past p) k ≡ Some y) ⊎ (x ≡ y)
  issue-at k y there =
      elim (slice_get-more (segment past p) (Some x) k y (ap (λ l. slice_get l k) (sym issue-segment) ∙ there)) [
        | inl old ↦ inl old
        | inr new ↦ inr (Some-injective x y new.1)
      ]

  pub issue-outs : (k : ℕ) (y : Transaction) → slice_get (segment past p) k ≡ Some y → is_outstanding h now y ≡ is_outstanding h past y
  issue-outs k y there = out-stays h past p e s.accepted k y there (ap (λ v. is_transaction v y) (issue-ends h past (length past) e x s.new))

  new-out : is_outstanding h now x ≡ true
  new-out = outstanding_new_one h past e x s.new

  g : IsGentle h past p e
  g = issue-gentle h past p (length past) e x s.accepted s.new

  u : IsUnderWay plan past p o
  u = c.under_way o next

  settled-now : (k : ℕ) (y : Transaction) → slice_get (segment now p) k ≡ Some y → is_outstanding h now y ≡ false → is_settled plan.ways h now p o y ≡ true
  settled-now k y there out =
      elim (issue-at k y there) [
        | inl old ↦ settled-stays h past p e g plan.ways o y (u.settled k y old (sym (issue-outs k y old) ∙ out))
        | inr same ↦ let bad : true ≡ false = sym new-out ∙ ap (is_outstanding h now) same ∙ out in cc
      ]

  room-now : (k : ℕ) (y : Transaction) → slice_get (segment now p) k ≡ Some y → is_outstanding h now y ≡ true → takes_way o y ≡ true → length (others y.addr (held_lines h now p)) < plan.ways
  room-now k y there out takes =
      let few = others-not-more h past e p y.addr (λ l apart inv. g.raises l inv) in
      elim (issue-at k y there) [
        | inl old ↦ let low = u.room k y old (sym (issue-outs k y old) ∙ out) takes in omega (arith, low, few)
        | inr same ↦
            let low = subst (λ v. length (others v.addr (held_lines h past p)) < plan.ways) same (s.way (ap (takes_way o) same ∙ takes)) in
            omega (arith, low, few)
      ]

  apart-now : (j k : ℕ) (y z : Transaction) → slice_get (segment now p) j ≡ Some y → slice_get (segment now p) k ≡ Some z → brings_line y ≡ true → updates_memory z ≡ true
      → is_outstanding h now y ≡ true → is_outstanding h now z ≡ false
  apart-now j k y z at_y at_z brings_y updates_z out =
      elim (issue-at k z at_z) [
        | inl old ↦ issue-outs k z old ∙ s.cleared k z old updates_z
        | inr same ↦ elim (issue-at j y at_y) [
          | inl before ↦ let none = s.brought j y before brings_y in let bad : true ≡ false = sym out ∙ issue-outs j y before ∙ none in cc
          | inr one ↦ absurd (read-no-update x (ap brings_line one ∙ brings_y) (ap updates_memory same ∙ updates_z))
        ]
      ]

  absent-now : (k : ℕ) (y : Transaction) → slice_get (segment now p) k ≡ Some y → is_outstanding h now y ≡ true → updates_memory y ≡ true → (l : ℕ) → line_used o ≡ Some l
      → is_invalid (state_of h now p l) ≡ true
  absent-now k y there out updates_y l used =
      elim (issue-at k y there) [
        | inl old ↦ let bad : true ≡ false = sym out ∙ issue-outs k y old ∙ s.cleared k y old updates_y in cc
        | inr same ↦ g.raises l (s.absent (ap updates_memory same ∙ updates_y) l used)
      ]

  -- What it asks for leaves the port as it is to be.
  pub issue-come : HasCome plan now p
  issue-come =
      record {
        brought = λ i y out b. elim (outstanding-origin h past e p Read i y out) [
          | inl new ↦
              let same : x ≡ y = Some-injective x y (sym s.new ∙ new.0) in
              (o, length (segment past p), issue-next ∙ next, ap (λ l. slice_get l (length (segment past p))) issue-segment ∙ slice_get-at_end (segment past p) (length (segment past p)) x refl ∙ ap Some same)
          | inr old ↦
              let of = c.brought i y old.was b in
              (of.0, of.1, issue-next ∙ of.2, ap (λ l. slice_get l of.1) issue-segment ∙ slice_get-append (segment past p) (x ∷ []) of.1 y of.3)
        ];
        under_way = λ op is.
            let same : o ≡ op = Some-injective o op (sym next ∙ sym issue-next ∙ is) in
            subst (IsUnderWay plan now p) same
            (record {
              asked = λ k y there. elim (issue-at k y there) [
                | inl old ↦ u.asked k y old
                | inr one ↦ subst (IsFor o) one s.wanted
              ];
              settled = settled-now;
              silent = elim u.silent [
                | inl none ↦ inl (issue-silent past p (length past) e x s.new ∙ none)
                | inr one ↦ inr (issue-silent past p (length past) e x s.new ∙ one.0, cleared-stays h past p e g plan.ways o one.1)
              ];
              one_update = subst (λ l. length (filter updates_memory l) ≤ 1) (sym issue-segment) (filtered-more updates_memory (segment past p) x u.one_update s.updates);
              one_owner = subst (λ l. length (filter owns_line l) ≤ 1) (sym issue-segment) (filtered-more owns_line (segment past p) x u.one_owner s.owners);
              room = room-now;
              apart = apart-now;
              absent = absent-now;
            });
      }

  -- it obeys the plan and stays lean, where it is the next act if it is one, few were issued, and its line is one of the plan
  pub issue-well : FollowsSoFar plan past → port_of e ≡ Some p → acts_well plan past e ≡ true → length (segment past p) < 3 → is_on_named_line plan x ≡ true
      → retires_well plan past e ≡ true → carries_data plan past e ≡ true → answers_well plan past e ≡ true → is_one_of_two plan past e ≡ true → IsWell plan past e
  issue-well f port acts few named retires carries answers two =
      record {
        obeying = obeys-from plan past e retires acts carries answers (gentle-room plan past p e f port g.raises);
        lean =
            let some : is_some (next_operation plan past x.port) ≡ true = ap (λ q. is_some (next_operation plan past q)) s.port ∙ ap is_some next in
            let short : nat_lt (length (segment past x.port)) 3 ≡ true = ap (λ q. nat_lt (length (segment past q)) 3) s.port ∙ lt-ltb (length (segment past p)) 3 few in
            let one : is_one_of_three plan past x ≡ true = or_right (not (not (is_dvm_completion x))) _ (and_from _ _ some short) in
            and_from _ _ (ap (λ v. is_none_or v (λ x. is_one_of_three plan past x && is_on_named_line plan x)) s.new ∙ and_from _ _ one named) two;
      }
