-- Every list of bytes reads as a script in some way.
use Rattle.std.proofs.Common.{◌≡◌, ◌≢◌, ℕ, zero, suc, ◌+◌, ◌<◌, ◌≤◌, ◌^◌, true, false, List, [], ◌∷◌, ◌++◌, length, take, drop, Result, Ok, Err, refl, sym, ap, subst, ◌∙◌, arith, append_assoc, append-nil, inl, inr, ◌⊎◌}
use Rattle.std.specs.Prelude.{codes}
use Rattle.std.specs.Str.{bytes_eq}
use Rattle.std.specs.List.{AllByRecursion}
use Rattle.std.proofs.lemmas.Bool.{cases_Bool, cases_lt}
use Rattle.std.proofs.lemmas.List.{take-append-drop, append_cancel_left}
use Rattle.std.proofs.lemmas.Slice.Eq.{bytes_eq-Decides}
use Rattle.ace_event.specs.declared.header.Header.{Header}
use Rattle.ace_event.specs.Text.{line_text}
use Rattle.ace_grammar.specs.Reading.{ports_text}
use Rattle.ace_grammar.proofs.Readings.EveryReading.{first_line, ports_or_not}
use Rattle.ace_model.specs.declared.plans.PlanOp.{PlanOp}
use Rattle.ace_model.specs.declared.plans.PolicyWord.TheVariants.{Keep, Eager, Mixed}
use Rattle.ace_model.specs.Plans.{Plan, AreRightAfter, most_operations}
use Rattle.ace_script.specs.declared.reason.Reason.{Reason}
use Rattle.ace_script.specs.declared.reason.Reason.TheVariants.{P1, P7}
use Rattle.ace_script.specs.Text.{first_text, cache_text, policy_text, operation_text, operations_text, plan_text}
use Rattle.ace_script.specs.Fields.{number_of}
use Rattle.ace_script.specs.Grammar.{OperationFits, IsScript}
use Rattle.ace_script.specs.Reading.{HeaderLine, VersionLine, PortsLine, CacheLine, PolicyLine, header_lines, IsHeaderLine, IsCacheLine, IsPolicyLine, IsBadAmong, HasBadHeader, HasBadLine, Ending, Whole, Full, Bad, Reads}
use Rattle.ace_script.proofs.Results.{err_isn't}
use Rattle.ace_script.proofs.FieldsExact.{number_takes, number_reads}
use Rattle.ace_script.proofs.LineReasons.{operation_or_reason}
use Rattle.ace_script.proofs.PolicyLines.{no_policy_line}
use Rattle.ace_script.proofs.OneReading.{AreGood, header_regroup}

-- ---- header lines

text_or_not : (line text : List ℕ) → (line ≡ text) ⊎ (line ≢ text)
text_or_not line text =
    elim (cases_Bool (bytes_eq line text)) [
      | inl p ↦ inl ((bytes_eq-Decides line text).0 p)
      | inr q ↦ inr (λ same. absurd (let clash : true ≡ false = sym ((bytes_eq-Decides line text).1 same) ∙ q in cc))
    ]

-- for a cache of at most so many lines
cache_within : (most : ℕ) (line : List ℕ) → ((ways : ℕ) × (1 ≤ ways) × (ways ≤ most) × (cache_text ways ≡ line)) ⊎ ((ways : ℕ) → 1 ≤ ways → ways ≤ most → cache_text ways ≢ line)
cache_within zero line = inr (λ ways some few. absurd (omega (arith, some, few)))
cache_within (suc most) line =
    elim (cache_within most line) [
      | inl h ↦ inl (h.0, h.1, omega (arith, h.2), h.3)
      | inr none ↦
          elim (text_or_not (cache_text (suc most)) line) [
            | inl is ↦ inl (suc most, omega arith, omega arith, is)
            | inr other ↦ inr (λ ways some few same. not_here most line none other ways some few same)
          ]
    ]
  where
    not_here : (most : ℕ) (line : List ℕ) → ((ways : ℕ) → 1 ≤ ways → ways ≤ most → cache_text ways ≢ line) → cache_text (suc most) ≢ line
        → (ways : ℕ) → 1 ≤ ways → ways ≤ suc most → cache_text ways ≢ line
    not_here most line none other ways some few same =
        elim (cases_lt ways (suc most)) [
          | inl lt ↦ none ways some (omega (arith, lt)) same
          | inr le ↦
              let is : ways ≡ suc most = omega (arith, le, few) in
              other (ap cache_text (sym is) ∙ same)
        ]

cache_or_not : (most : ℕ) (line : List ℕ) → most ≡ 32 → IsCacheLine line ⊎ (IsCacheLine line → ⊥)
cache_or_not most line is =
    elim (cache_within most line) [
      | inl h ↦ inl (h.0, h.1, omega (arith, h.2, is), h.3)
      | inr none ↦ inr (λ h. none h.0 h.1 (omega (arith, h.2, is)) h.3)
    ]

sixteen : (digits : List ℕ) (r : Result ℕ Reason) → number_of 16 digits ≡ r → ((n : ℕ) × (n < 2 ^ 64) × (codes "POLICY mixed " ++ digits ≡ policy_text (Mixed n))) ⊎ ((n : ℕ) → n < 2 ^ 64 → policy_text (Mixed n) ≢ codes "POLICY mixed " ++ digits)
sixteen digits (Ok n) e =
    let told = number_takes 16 digits n e in
    inl (n, omega (arith, told.0), ap (λ (l : List ℕ). codes "POLICY mixed " ++ l) told.1)
sixteen digits (Err why) e =
    inr (λ n h same.
    let digits_same = append_cancel_left (codes "POLICY mixed ") _ digits same in
    err_isn't why n _ (sym e ∙ ap (number_of 16) (sym digits_same) ∙ number_reads 16 n (omega (arith, h))))

mixed_or_not : (line : List ℕ) → ((n : ℕ) × (n < 2 ^ 64) × (line ≡ policy_text (Mixed n))) ⊎ ((n : ℕ) → n < 2 ^ 64 → policy_text (Mixed n) ≢ line)
mixed_or_not line =
    let digits = drop 13 line in
    elim (text_or_not (take 13 line) (codes "POLICY mixed ")) [
      | inr other ↦ inr (λ n h same. other (sym (ap (take 13) same)))
      | inl front ↦
          let whole : codes "POLICY mixed " ++ digits ≡ line = ap (λ (l : List ℕ). l ++ digits) (sym front) ∙ take-append-drop 13 line in
          elim (sixteen digits (number_of 16 digits) refl) [
            | inl h ↦ inl (h.0, h.1, sym whole ∙ h.2)
            | inr none ↦ inr (λ n h same. none n h (same ∙ sym whole))
          ]
    ]

policy_or_not : (line : List ℕ) → IsPolicyLine line ⊎ (IsPolicyLine line → ⊥)
policy_or_not line =
    elim (text_or_not line (codes "POLICY keep")) [
      | inl is ↦ inl (Keep, tt, sym is)
      | inr keep ↦
          elim (text_or_not line (codes "POLICY eager")) [
            | inl is ↦ inl (Eager, tt, sym is)
            | inr eager ↦
                elim (mixed_or_not line) [ inl h ↦ inl (Mixed h.0, h.1, sym h.2) | inr mixed ↦ inr (no_policy_line line keep eager mixed) ]
          ]
    ]

header_line_or_not : (kind : HeaderLine) (line : List ℕ) → IsHeaderLine kind line ⊎ (IsHeaderLine kind line → ⊥)
header_line_or_not VersionLine line = text_or_not line first_text
header_line_or_not PortsLine line = ports_or_not 1 line (inl refl)
header_line_or_not CacheLine line = cache_or_not 32 line refl
header_line_or_not PolicyLine line = policy_or_not line

-- one of the header lines is malformed, or all of them stand at the front
header_or_not : (kinds : List HeaderLine) (first : ℕ) (bytes : List ℕ) → ((number : ℕ) × (reason : Reason) × IsBadAmong kinds first bytes number reason) ⊎ ((rest : List ℕ) × AreGood kinds bytes rest)
header_or_not [] first bytes = inr (bytes, refl)
header_or_not (kind ∷ kinds) first bytes =
    elim (first_line bytes) [
      | inr none ↦ inl (first, P1, inl (refl, inl (refl, none)))
      | inl f ↦
          elim (header_line_or_not kind f.0) [
            | inr other ↦ inl (first, P7, inl (refl, inr (refl, (f.0, f.1, other))))
            | inl is ↦
                elim (header_or_not kinds (first + 1) f.1.2.0) [
                  | inl bad ↦ inl (bad.0, bad.1, inr (f.0, f.1.2.0, is, f.1.2.1, bad.2))
                  | inr good ↦ inr (good.0, (f.0, f.1.2.0, is, f.1.2.1, good.1))
                ]
          ]
    ]

-- ---- operations

-- how the bytes behind these operations end
abbrev Stops : Header → List PlanOp → ℕ → List ℕ → Type 0
Stops h before room rest = (rest ≡ []) ⊎ (((room ≡ 0) × (rest ≢ [])) ⊎ ((0 < room) × ((reason : Reason) × HasBadLine h before rest reason)))

-- operations that can stand there, of which there is room for so many, and what is behind them
abbrev ReadsBehind : Header → List PlanOp → ℕ → List ℕ → Type 0
ReadsBehind h before room bytes = (operations : List PlanOp) × (rest : List ℕ) × (left : ℕ) × AreRightAfter h before operations × AllByRecursion OperationFits operations
    × (bytes ≡ operations_text operations ++ rest) × (length operations + left ≡ room) × Stops h (before ++ operations) left rest

stopped : (h : Header) (before : List PlanOp) (room : ℕ) (bytes : List ℕ) → Stops h before room bytes → ReadsBehind h before room bytes
stopped h before room bytes stops = ([], bytes, room, tt, tt, refl, omega arith, subst (λ (l : List PlanOp). Stops h l room bytes) (sym (append-nil before)) stops)

operations_of : (h : Header) (before : List PlanOp) (room : ℕ) (bytes : List ℕ) → ReadsBehind h before room bytes
operations_of h before room [] = stopped h before room [] (inl refl)
operations_of h before zero (x ∷ xs) = stopped h before zero (x ∷ xs) (inr (inl (refl, λ e. absurd cc)))
operations_of h before (suc room) (x ∷ xs) =
    elim (first_line (x ∷ xs)) [
      | inr none ↦ stopped h before (suc room) (x ∷ xs) (inr (inr (omega arith, (P1, inl (refl, (λ e. absurd cc), none)))))
      | inl f ↦
          elim (operation_or_reason h before f.0) [
            | inr why ↦ stopped h before (suc room) (x ∷ xs) (inr (inr (omega arith, (why.0, inr (f.0, f.1, why.1)))))
            | inl one ↦
                let o = one.0 in
                let r = operations_of h (before ++ o ∷ []) room f.1.2.0 in
                let text : x ∷ xs ≡ operations_text (o ∷ r.0) ++ r.1 =
                f.1.2.1 ∙ ap (λ (l : List ℕ). line_text l ++ f.1.2.0) (sym one.3) ∙ ap (λ (l : List ℕ). line_text (operation_text o) ++ l) r.5
                ∙ sym (append_assoc (line_text (operation_text o)) (operations_text r.0) r.1) in (
                  o ∷ r.0,
                  r.1,
                  r.2,
                  (one.1, r.3),
                  (one.2, r.4),
                  text,
                  omega (arith, r.6),
                  subst (λ (l : List PlanOp). Stops h l r.2 r.1) (append_assoc before (o ∷ []) r.0) r.7,
                )
          ]
    ]

-- ---- scripts

abbrev ReadsSome : List ℕ → Type 0
ReadsSome bytes = (plan : Plan) × (end : Ending) × Reads bytes plan end

-- the plan of a header and the operations behind it
some_plan : (room : ℕ) → room ≡ most_operations → (bytes rest : List ℕ) → AreGood header_lines bytes rest → ((h : Header) → ReadsBehind h [] room rest) → ReadsSome bytes
some_plan room full bytes rest (first, behind, first_is, first_e, (ports, behind2, ports_is, ports_e, (cache, behind3, cache_is, cache_e, (policy, behind4, policy_is, policy_e, end)))) read =
    let h = ports_is.0 in
    let r = read h in
    let plan : Plan = record { header = h; ways = cache_is.0; policy = policy_is.0; operations = r.0 } in
    let script : IsScript plan = record {
      right = record { header = ports_is.1; version = ports_is.2; some_way = cache_is.1; most_ways = cache_is.2; few = omega (arith, r.6, full); operations = r.3 };
      policy_fits = policy_is.1;
      operations_fit = r.4;
    } in
    let text : bytes ≡ plan_text plan ++ r.1 =
    first_e ∙ ap (λ (l : List ℕ). line_text l ++ behind) first_is ∙ ap (λ (l : List ℕ). line_text first_text ++ l)
    (ports_e ∙ ap (λ (l : List ℕ). line_text l ++ behind2) (sym ports_is.3) ∙ ap (λ (l : List ℕ). line_text (ports_text h) ++ l)
    (cache_e ∙ ap (λ (l : List ℕ). line_text l ++ behind3) (sym cache_is.3) ∙ ap (λ (l : List ℕ). line_text (cache_text cache_is.0) ++ l)
    (policy_e ∙ ap (λ (l : List ℕ). line_text l ++ behind4) (sym policy_is.2) ∙ ap (λ (l : List ℕ). line_text (policy_text policy_is.0) ++ l)
    (end ∙ r.5))))
    ∙ sym (header_regroup (line_text first_text) (line_text (ports_text h)) (line_text (cache_text cache_is.0)) (line_text (policy_text policy_is.0)) (operations_text r.0) r.1) in
    elim r.7 [
      | inl none ↦ (plan, Whole, record { script = script; text = (r.1, text, none) })
      | inr q ↦
          elim q [
            | inl more ↦ (plan, Full, record { script = script; text = (r.1, text, (omega (arith, more.0, r.6, full), more.1)) })
            | inr bad ↦ (
              plan,
              Bad (length r.0 + 5) bad.1.0,
              record { script = script; text = (r.1, text, (omega (arith, bad.0, r.6, full), refl, bad.1.1)) },
            )
          ]
    ]

pub some_reading : (bytes : List ℕ) → ((number : ℕ) × (reason : Reason) × HasBadHeader bytes number reason) ⊎ ReadsSome bytes
some_reading bytes =
    elim (header_or_not header_lines 1 bytes) [
      | inl bad ↦ inl bad
      | inr good ↦ inr (some_plan most_operations refl bytes good.0 good.1 (λ h. operations_of h [] most_operations good.0))
    ]
