-- The same bytes read in one way.
use Rattle.std.proofs.Common.{◌≡◌, ◌≢◌, ℕ, ◌+◌, ◌<◌, ◌≤◌, List, [], ◌∷◌, ◌++◌, length, get_or, refl, sym, ap, subst, ◌∙◌, arith, append_assoc, append-nil, inl, inr}
use Rattle.std.specs.Prelude.{codes, decimal}
use Rattle.std.specs.List.{AllByRecursion}
use Rattle.std.proofs.lemmas.Fmt.{decimal_injective}
use Rattle.std.proofs.lemmas.List.{append_cancel_left, length-append}
use Rattle.ace_event.specs.declared.header.Header.{Header}
use Rattle.ace_event.specs.Ports.{IsHeader, port_letters, most_letters}
use Rattle.ace_event.specs.Text.{hex_text, line_text}
use Rattle.ace_grammar.specs.Lines.{IsFirstLine}
use Rattle.ace_grammar.specs.Reading.{ports_text}
use Rattle.ace_grammar.proofs.FirstLines.Cut.{same_first, not_empty}
use Rattle.ace_grammar.proofs.Digits.Hex.{number_again}
use Rattle.ace_grammar.proofs.General.Options.{some_is}
use Rattle.ace_grammar.proofs.FirstLines.Letters.{same_header, readable_are_letters, letters-length}
use Rattle.ace_grammar.specs.Fields.{digits_onto}
use Rattle.ace_io.proofs.Cutting.{first_lf}
use Rattle.ace_model.specs.declared.plans.PlanOp.{PlanOp}
use Rattle.ace_model.specs.declared.plans.PolicyWord.{PolicyWord}
use Rattle.ace_model.specs.declared.plans.PolicyWord.TheVariants.{Keep, Eager, Mixed}
use Rattle.ace_model.specs.Plans.{Plan, AreRightAfter, most_operations}
use Rattle.ace_script.specs.declared.reason.Reason.{Reason}
use Rattle.ace_script.specs.Text.{first_text, cache_text, policy_text, operation_text, operations_text, plan_text}
use Rattle.ace_script.specs.Grammar.{PolicyFits, OperationFits, IsScript}
use Rattle.ace_script.specs.Reading.{HeaderLine, VersionLine, PortsLine, CacheLine, PolicyLine, header_lines, IsHeaderLine, IsBadHere, IsBadAmong, HasBadHeader, HasBadLine, HasReason, Ending, Whole, Full, Bad, Ends, Reads}
use Rattle.ace_script.proofs.LineReasons.{CanStand, same_reason, same_operation, operation_has_none, operation_no_lf}
use Rattle.ace_script.proofs.ShortLines.{operation_short, header_body}

-- ---- operations

-- what stands behind these operations, by the ending
abbrev EndsAt : Header → List PlanOp → Ending → List ℕ → Type 0
EndsAt h before Whole rest = rest ≡ []
EndsAt h before Full rest = (length before ≡ most_operations) × (rest ≢ [])
EndsAt h before (Bad line reason) rest = (length before < most_operations) × (line ≡ length before + 5) × HasBadLine h before rest reason

ends_at : (plan : Plan) (ending : Ending) (rest : List ℕ) → Ends plan ending rest → EndsAt plan.header plan.operations ending rest
ends_at plan Whole rest h = h
ends_at plan Full rest h = h
ends_at plan (Bad line reason) rest h = h

nothing_first : (line bytes : List ℕ) → IsFirstLine line bytes → bytes ≢ []
nothing_first line bytes first e = not_empty line first.2.0 (sym first.2.1 ∙ e)

bad_isn't_empty : (h : Header) (before : List PlanOp) (rest : List ℕ) (reason : Reason) → HasBadLine h before rest reason → rest ≢ []
bad_isn't_empty h before rest reason (inl b) = b.1
bad_isn't_empty h before rest reason (inr b) = nothing_first b.0 rest b.1

same_lines : (bytes one other : List ℕ) → IsFirstLine one bytes → IsFirstLine other bytes → one ≡ other
same_lines bytes one other p q = (same_first bytes one other q.2.0 p q.0 q.2.1).0

same_bad_line : (h : Header) (before : List PlanOp) (rest : List ℕ) (one other : Reason) → HasBadLine h before rest one → HasBadLine h before rest other → one ≡ other
same_bad_line h before rest one other (inl p) (inl q) = p.0 ∙ sym q.0
same_bad_line h before rest one other (inl p) (inr q) = absurd (p.2 q.0 q.1)
same_bad_line h before rest one other (inr p) (inl q) = absurd (q.2 p.0 p.1)
same_bad_line h before rest one other (inr p) (inr q) =
    same_reason h before q.0 one other (subst (λ (l : List ℕ). HasReason h before l one) (same_lines rest p.0 q.0 p.1 q.1) p.2) q.2

same_ending : (h : Header) (before : List PlanOp) (one other : Ending) (rest : List ℕ) → EndsAt h before one rest → EndsAt h before other rest → one ≡ other
same_ending h before Whole Whole rest p q = refl
same_ending h before Whole Full rest p q = absurd (q.1 p)
same_ending h before Whole (Bad line reason) rest p q = absurd (bad_isn't_empty h before rest reason q.2 p)
same_ending h before Full Whole rest p q = absurd (p.1 q)
same_ending h before Full Full rest p q = refl
same_ending h before Full (Bad line reason) rest p q = absurd (omega (arith, p.0, q.0))
same_ending h before (Bad line reason) Whole rest p q = absurd (bad_isn't_empty h before rest reason p.2 q)
same_ending h before (Bad line reason) Full rest p q = absurd (omega (arith, p.0, q.0))
same_ending h before (Bad line reason) (Bad line' reason') rest p q =
    ap (λ l. Bad l reason) (p.1 ∙ sym q.1) ∙ ap (λ r. Bad line' r) (same_bad_line h before rest reason reason' p.2 q.2)

-- the line of an operation is a first line
operation_line : (o : PlanOp) (rest more : List ℕ) → OperationFits o → rest ≡ line_text (operation_text o) ++ more → IsFirstLine (operation_text o) rest
operation_line o rest more fits e = (operation_no_lf o, operation_short o fits, (more, e))

-- it isn't malformed
operation_isn't_bad : (h : Header) (before : List PlanOp) (o : PlanOp) (rest more : List ℕ) (reason : Reason) → h.ports ≤ 16 → CanStand h before o
    → rest ≡ line_text (operation_text o) ++ more → HasBadLine h before rest reason → ⊥
operation_isn't_bad h before o rest more reason few stands e (inl b) = b.2 (operation_text o) (operation_line o rest more stands.1 e)
operation_isn't_bad h before o rest more reason few stands e (inr b) =
    operation_has_none h before b.0 reason o few b.2 stands (same_lines rest (operation_text o) b.0 (operation_line o rest more stands.1 e) b.1)

-- where bytes end no operation goes on
no_more : (h : Header) (before : List PlanOp) (ending : Ending) (rest more : List ℕ) (o : PlanOp) → h.ports ≤ 16 → EndsAt h before ending rest → length before < most_operations
    → CanStand h before o → rest ≡ line_text (operation_text o) ++ more → ⊥
no_more h before Whole rest more o few end lt stands e = not_empty (operation_text o) more (sym e ∙ end)
no_more h before Full rest more o few end lt stands e = omega (arith, end.0, lt)
no_more h before (Bad line reason) rest more o few end lt stands e = operation_isn't_bad h before o rest more reason few stands e end.2

-- operations, the rest of those of a script
abbrev AreNext : Header → List PlanOp → List PlanOp → Type 0
AreNext h before operations = AreRightAfter h before operations × AllByRecursion OperationFits operations × (length before + length operations ≤ most_operations)

next_of : (h : Header) (before : List PlanOp) (o : PlanOp) (operations : List PlanOp) → AreNext h before (o ∷ operations)
    → CanStand h before o × AreNext h (before ++ o ∷ []) operations × (length before < most_operations)
next_of h before o operations n =
    let count : length (before ++ o ∷ []) + length operations ≤ most_operations = rw length-append (omega (arith, n.2)) in
    ((n.0.0, n.1.0), (n.0.1, n.1.1, count), omega (arith, n.2))

regroup : (o : PlanOp) (operations : List PlanOp) (rest : List ℕ) → operations_text (o ∷ operations) ++ rest ≡ line_text (operation_text o) ++ (operations_text operations ++ rest)
regroup o operations rest = append_assoc (line_text (operation_text o)) (operations_text operations) rest

same_operations : (h : Header) (before one other : List PlanOp) (end end' : Ending) (rest rest' : List ℕ) → h.ports ≤ 16 → AreNext h before one → AreNext h before other
    → operations_text one ++ rest ≡ operations_text other ++ rest' → EndsAt h (before ++ one) end rest → EndsAt h (before ++ other) end' rest' → (one ≡ other) × (rest ≡ rest')
same_operations h before [] [] end end' rest rest' few n k e p q = (refl, e)
same_operations h before [] (o ∷ other) end end' rest rest' few n k e p q =
    let next = next_of h before o other k in
    absurd (no_more h before end rest (operations_text other ++ rest') o few (subst (λ (l : List PlanOp). EndsAt h l end rest) (append-nil before) p) next.2 next.0 (e ∙ regroup o other rest'))
same_operations h before (o ∷ one) [] end end' rest rest' few n k e p q =
    let next = next_of h before o one n in
    absurd (no_more h before end' rest' (operations_text one ++ rest) o few (subst (λ (l : List PlanOp). EndsAt h l end' rest') (append-nil before) q) next.2 next.0 (sym e ∙ regroup o one rest))
same_operations h before (first ∷ one) (second ∷ other) end end' rest rest' few n k e p q =
    let lines : line_text (operation_text first) ++ (operations_text one ++ rest) ≡ line_text (operation_text second) ++ (operations_text other ++ rest') = sym (regroup first one rest) ∙ e ∙ regroup second other rest' in
    let split = first_lf (operation_text first) (operation_text second) (operations_text one ++ rest) (operations_text other ++ rest') (operation_no_lf first) (operation_no_lf second) lines in
    let next = next_of h before first one n in
    let next' = next_of h before second other k in
    let same = same_operation h before first second few next.0 next'.0 split.0 in
    let behind : AreNext h (before ++ first ∷ []) other = subst (λ x. AreNext h (before ++ x ∷ []) other) (sym same) next'.1 in
    let end_first = subst (λ (l : List PlanOp). EndsAt h l end rest) (sym (append_assoc before (first ∷ []) one)) p in
    let end_other = subst (λ (l : List PlanOp). EndsAt h l end' rest') (sym (append_assoc before (first ∷ []) other)) (subst (λ x. EndsAt h (before ++ x ∷ other) end' rest') (sym same) q) in
    let tail = same_operations h (before ++ first ∷ []) one other end end' rest rest' few next.1 behind split.1 end_first end_other in
    (ap (λ x. x ∷ one) same ∙ ap (λ (l : List PlanOp). second ∷ l) tail.0, tail.1)

-- ---- header lines

-- these header lines stand at the front, and then the rest
abbrev pub AreGood : List HeaderLine → List ℕ → List ℕ → Type 0
AreGood [] bytes rest = bytes ≡ rest
AreGood (kind ∷ kinds) bytes rest = (line : List ℕ) × (more : List ℕ) × IsHeaderLine kind line × (bytes ≡ line_text line ++ more) × AreGood kinds more rest

-- a first line that is right isn't malformed
right_isn't_bad : (kind : HeaderLine) (line bytes more : List ℕ) (reason : Reason) → IsHeaderLine kind line → bytes ≡ line_text line ++ more → IsBadHere kind bytes reason → ⊥
right_isn't_bad kind line bytes more reason is e (inl b) = let body = header_body kind line is in b.1 line (body.0, body.1, (more, e))
right_isn't_bad kind line bytes more reason is e (inr b) =
    let body = header_body kind line is in
    b.1.2 (subst (IsHeaderLine kind) (same_lines bytes line b.1.0 (body.0, body.1, (more, e)) b.1.1) is)

-- behind the same line the same bytes stand
same_behind : (kind : HeaderLine) (bytes line line' more more' : List ℕ) → IsHeaderLine kind line → IsHeaderLine kind line' → bytes ≡ line_text line ++ more → bytes ≡ line_text line' ++ more' → (line ≡ line') × (more ≡ more')
same_behind kind bytes line line' more more' is is' e e' = first_lf line line' more more' (header_body kind line is).0 (header_body kind line' is').0 (sym e ∙ e')

good_isn't_bad : (kinds : List HeaderLine) (first : ℕ) (bytes rest : List ℕ) (number : ℕ) (reason : Reason) → AreGood kinds bytes rest → IsBadAmong kinds first bytes number reason → ⊥
good_isn't_bad [] first bytes rest number reason good bad = bad
good_isn't_bad (kind ∷ kinds) first bytes rest number reason (line, more, is, e, good) (inl bad) = right_isn't_bad kind line bytes more reason is e bad.1
good_isn't_bad (kind ∷ kinds) first bytes rest number reason (line, more, is, e, good) (inr (line', more', is', e', bad)) =
    let same = same_behind kind bytes line line' more more' is is' e e' in
    good_isn't_bad kinds (first + 1) more rest number reason good (subst (λ (l : List ℕ). IsBadAmong kinds (first + 1) l number reason) (sym same.1) bad)

same_bad_here : (kind : HeaderLine) (bytes : List ℕ) (one other : Reason) → IsBadHere kind bytes one → IsBadHere kind bytes other → one ≡ other
same_bad_here kind bytes one other (inl p) (inl q) = p.0 ∙ sym q.0
same_bad_here kind bytes one other (inl p) (inr q) = absurd (p.1 q.1.0 q.1.1)
same_bad_here kind bytes one other (inr p) (inl q) = absurd (q.1 p.1.0 p.1.1)
same_bad_here kind bytes one other (inr p) (inr q) = p.0 ∙ sym q.0

same_bad : (kinds : List HeaderLine) (first : ℕ) (bytes : List ℕ) (number number' : ℕ) (one other : Reason) → IsBadAmong kinds first bytes number one → IsBadAmong kinds first bytes number' other
    → (number ≡ number') × (one ≡ other)
same_bad [] first bytes number number' one other p q = absurd p
same_bad (kind ∷ kinds) first bytes number number' one other (inl p) (inl q) = (p.0 ∙ sym q.0, same_bad_here kind bytes one other p.1 q.1)
same_bad (kind ∷ kinds) first bytes number number' one other (inl p) (inr (line, more, is, e, q)) = absurd (right_isn't_bad kind line bytes more one is e p.1)
same_bad (kind ∷ kinds) first bytes number number' one other (inr (line, more, is, e, p)) (inl q) = absurd (right_isn't_bad kind line bytes more other is e q.1)
same_bad (kind ∷ kinds) first bytes number number' one other (inr (line, more, is, e, p)) (inr (line', more', is', e', q)) =
    let same = same_behind kind bytes line line' more more' is is' e e' in
    same_bad kinds (first + 1) more number number' one other p (subst (λ (l : List ℕ). IsBadAmong kinds (first + 1) l number' other) (sym same.1) q)

pub one_bad_header : (bytes : List ℕ) (number number' : ℕ) (one other : Reason) → HasBadHeader bytes number one → HasBadHeader bytes number' other → (number ≡ number') × (one ≡ other)
one_bad_header bytes number number' one other p q = same_bad header_lines 1 bytes number number' one other p q

-- ---- the header of a script

-- the bytes behind each header line
pub header_regroup : (a b c d operations rest : List ℕ) → ((((a ++ b) ++ c) ++ d) ++ operations) ++ rest ≡ a ++ (b ++ (c ++ (d ++ (operations ++ rest))))
header_regroup a b c d operations rest =
    append_assoc (((a ++ b) ++ c) ++ d) operations rest ∙ append_assoc ((a ++ b) ++ c) d (operations ++ rest)
    ∙ append_assoc (a ++ b) c (d ++ (operations ++ rest)) ∙ append_assoc a b (c ++ (d ++ (operations ++ rest)))

abbrev script_is_good : (plan : Plan) (bytes rest : List ℕ) → IsScript plan → bytes ≡ plan_text plan ++ rest → AreGood header_lines bytes (operations_text plan.operations ++ rest)
script_is_good plan bytes rest s e = (
  first_text,
  _,
  refl,
  e ∙ header_regroup (line_text first_text) (line_text (ports_text plan.header)) (line_text (cache_text plan.ways)) (line_text (policy_text plan.policy)) (operations_text plan.operations) rest,
  (
    ports_text plan.header,
    _,
    (plan.header, s.right.header, s.right.version, refl),
    refl,
    (
      cache_text plan.ways,
      _,
      (plan.ways, s.right.some_way, s.right.most_ways, refl),
      refl,
      (policy_text plan.policy, operations_text plan.operations ++ rest, (plan.policy, s.policy_fits, refl), refl, refl),
    ),
  ),
)

pub no_bad_header : (bytes : List ℕ) (plan : Plan) (end : Ending) (number : ℕ) (reason : Reason) → Reads bytes plan end → HasBadHeader bytes number reason → ⊥
no_bad_header bytes plan end number reason r bad =
    good_isn't_bad header_lines 1 bytes (operations_text plan.operations ++ r.text.0) number reason (script_is_good plan bytes r.text.0 r.script r.text.1) bad

same_policy : (one other : PolicyWord) → PolicyFits one → PolicyFits other → policy_text one ≡ policy_text other → one ≡ other
same_policy Keep Keep p q e = refl
same_policy Keep Eager p q e = absurd (omega (arith, ap (λ (l : List ℕ). get_or l 7 0) e))
same_policy Keep (Mixed n) p q e = absurd (omega (arith, ap (λ (l : List ℕ). get_or l 7 0) e))
same_policy Eager Keep p q e = absurd (omega (arith, ap (λ (l : List ℕ). get_or l 7 0) e))
same_policy Eager Eager p q e = refl
same_policy Eager (Mixed n) p q e = absurd (omega (arith, ap (λ (l : List ℕ). get_or l 7 0) e))
same_policy (Mixed m) Keep p q e = absurd (omega (arith, ap (λ (l : List ℕ). get_or l 7 0) e))
same_policy (Mixed m) Eager p q e = absurd (omega (arith, ap (λ (l : List ℕ). get_or l 7 0) e))
same_policy (Mixed m) (Mixed n) p q e =
    let digits = append_cancel_left (codes "POLICY mixed ") (hex_text 16 m) (hex_text 16 n) e in
    ap (λ k. Mixed k) (some_is m n (sym (number_again 16 m (omega (arith, p))) ∙ ap (digits_onto 0) digits ∙ number_again 16 n (omega (arith, q))))

same_ways : (one other : ℕ) → one ≤ 32 → other ≤ 32 → cache_text one ≡ cache_text other → one ≡ other
same_ways one other p q e =
    decimal_injective one other (omega (arith, p)) (omega (arith, q)) (append_cancel_left (codes "CACHE ") (decimal one) (decimal other) e)

same_ports : (one other : Header) → IsHeader one → IsHeader other → one.version ≡ 1 → other.version ≡ 1 → ports_text one ≡ ports_text other → one ≡ other
same_ports one other p q v w e = same_header one other (v ∙ sym w) p q (append_cancel_left (codes "PORTS ") (port_letters one) (port_letters other) e)

-- at most eight ports of each kind
pub few_ports : (h : Header) → IsHeader h → h.version ≡ 1 → h.ports ≤ 16
few_ports h is version =
    let letters = readable_are_letters h is in
    let most : most_letters h.version ≡ 8 = ap most_letters version in
    omega (arith, letters.1, letters.2, letters.3, most, letters-length h)

same_plan : (one other : Plan) → one.header ≡ other.header → one.ways ≡ other.ways → one.policy ≡ other.policy → one.operations ≡ other.operations → one ≡ other
same_plan one other h w p o =
    ap (λ h. record { header = h; ways = one.ways; policy = one.policy; operations = one.operations }) h
    ∙ ap (λ w. record { header = other.header; ways = w; policy = one.policy; operations = one.operations }) w
    ∙ ap (λ p. record { header = other.header; ways = other.ways; policy = p; operations = one.operations }) p
    ∙ ap (λ o. record { header = other.header; ways = other.ways; policy = other.policy; operations = o }) o

pub one_reading : (bytes : List ℕ) (one other : Plan) (end end' : Ending) → Reads bytes one end → Reads bytes other end' → (one ≡ other) × (end ≡ end')
one_reading bytes one other end end' p q =
    let r = p.script.right in
    let s = q.script.right in
    let first = script_is_good one bytes p.text.0 p.script p.text.1 in
    let first' = script_is_good other bytes q.text.0 q.script q.text.1 in
    let a = same_behind VersionLine bytes first.0 first'.0 first.1 first'.1 first.2 first'.2 first.3 first'.3 in
    let second = first.4 in
    let second' = first'.4 in
    let b = same_behind PortsLine first.1 second.0 second'.0 second.1 second'.1 second.2 second'.2 second.3 (a.1 ∙ second'.3) in
    let third = second.4 in
    let third' = second'.4 in
    let c = same_behind CacheLine second.1 third.0 third'.0 third.1 third'.1 third.2 third'.2 third.3 (b.1 ∙ third'.3) in
    let fourth = third.4 in
    let fourth' = third'.4 in
    let d = same_behind PolicyLine third.1 fourth.0 fourth'.0 fourth.1 fourth'.1 fourth.2 fourth'.2 fourth.3 (c.1 ∙ fourth'.3) in
    let header = same_ports one.header other.header r.header s.header r.version s.version b.0 in
    let ways = same_ways one.ways other.ways r.most_ways s.most_ways c.0 in
    let policy = same_policy one.policy other.policy p.script.policy_fits q.script.policy_fits d.0 in
    let next : AreNext one.header [] one.operations = (r.operations, p.script.operations_fit, omega (arith, r.few)) in
    let next' : AreNext one.header [] other.operations = subst (λ h. AreNext h [] other.operations) (sym header) (s.operations, q.script.operations_fit, omega (arith, s.few)) in
    let ends = ends_at one end p.text.0 p.text.2 in
    let ends' : EndsAt one.header other.operations end' q.text.0 = subst (λ h. EndsAt h other.operations end' q.text.0) (sym header) (ends_at other end' q.text.0 q.text.2) in
    let same = same_operations one.header [] one.operations other.operations end end' p.text.0 q.text.0 (few_ports one.header r.header r.version) next next' d.1 ends ends' in
    let moved : EndsAt one.header one.operations end' p.text.0 = rw (same.0, same.1) ends' in
    (same_plan one other header ways policy same.0, same_ending one.header one.operations end end' p.text.0 ends moved)

-- the text of a script reads as its plan
pub text_reads_back : (plan : Plan) → IsScript plan → Reads (plan_text plan) plan Whole
text_reads_back plan s = record { script = s; text = ([], sym (append-nil (plan_text plan)), refl) }
