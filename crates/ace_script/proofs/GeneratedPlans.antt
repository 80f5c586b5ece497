-- A generated plan is that of a script, operation by operation.
use Rattle.std.proofs.Common.{◌≡◌, ℕ, zero, suc, ◌-◌, ◌*◌, ◌/◌, ◌%◌, ◌^◌, ◌<◌, ◌≤◌, ◌&&◌, Bool, true, false, not, cond, eqb, leb, ltb, List, [], ◌∷◌, ◌++◌, length, Option, Some, None, refl, sym, ap, subst, ◌∙◌, arith, append_assoc, append-nil, inl, inr}
use Rattle.std.specs.List.{AllByRecursion, list_all}
use Rattle.std.proofs.lemmas.Bool.{eq-eqb, le-leb, lt-ltb, lt-leb, and_from, cases_Bool, eqb-true}
use Rattle.std.proofs.Math.Nat.{pow-le-pow_right}
use Rattle.rand_pcg.specs.Lcg.{Lcg, started, increment_of}
use Rattle.rand_pcg.specs.Pcg.{pcg32, multiplier_64}
use Rattle.ace_codes.specs.declared.kind.ArKind.TheVariants as read
use Rattle.ace_event.specs.Range.{IsLine}
use Rattle.ace_tables.specs.Answers.{same_test}
use Rattle.ace_grammar.proofs.General.Visible.{all-append}
use Rattle.ace_model.specs.Trace.{implies, is_none_or, is_some_and}
use Rattle.ace_model.specs.AddressRules.{is_aligned}
use Rattle.ace_model.specs.Transactions.{is_ace}
use Rattle.ace_model.specs.declared.plans.Op.{Op}
use Rattle.ace_model.specs.declared.plans.Op.TheVariants.{Ld, Ldx, St, Stx, Fill, Pf, Wb, Wc, Ro, Cs, Ci, Rn, Wu, Wlu, Wn, Mb, Sb, Dvm}
use Rattle.ace_model.specs.declared.plans.PlanOp.{PlanOp}
use Rattle.ace_model.specs.declared.plans.PolicyWord.TheVariants.{Mixed}
use Rattle.ace_model.specs.Plans.{Plan, PlanWithRoom, IsRightAfter, longer, line_named, wants_no_snoop, is_lite_operation, is_in_range, is_word_number, is_of_one_class, most_operations}
use Rattle.ace_script.specs.Grammar.{OpFits, OperationFits, IsScript}
use Rattle.ace_script.specs.Generated.{generated, generated_count, generated_header, repeated, repeated_line, snooped_address, unsnooped_address, drawn_place, ace_op, lite_op, drawn_operation, drawn}
use Rattle.ace_script.proofs.OperationReads.{script_longer}
use Rattle.ace_script.proofs.CopiedPlans.{same_parts}

-- the lines from 8000 on are those that aren't snooped
abbrev pub IsParted : Op → Type 0
IsParted op = is_none_or (line_named op) (λ a. same_test (wants_no_snoop op) (leb 0x8000 a)) ≡ true

same_both : (p q r : Bool) → same_test p r ≡ true → same_test q r ≡ true → same_test p q ≡ true
same_both true true r h k = refl
same_both false false r h k = refl
same_both true false true h k = absurd cc
same_both true false false h k = absurd cc
same_both false true true h k = absurd cc
same_both false true false h k = absurd cc

-- so two operations are of one class
parted_class : (m n : Option ℕ) (p q : Bool) → is_none_or m (λ a. same_test p (leb 0x8000 a)) ≡ true → is_none_or n (λ b. same_test q (leb 0x8000 b)) ≡ true
    → is_none_or m (λ a. implies (is_some_and n (λ b. eqb b a)) (same_test p q)) ≡ true
parted_class None n p q h k = refl
parted_class (Some a) None p q h k = refl
parted_class (Some a) (Some b) p q h k =
    elim (cases_Bool (eqb b a)) [
      | inl is ↦
          let same : b ≡ a = eqb-true b a is in
          let k' : same_test q (leb 0x8000 a) ≡ true = ap (λ c. same_test q (leb 0x8000 c)) (sym same) ∙ k in
          ap (λ t. implies t (same_test p q)) is ∙ same_both p q (leb 0x8000 a) h k'
      | inr other ↦ ap (λ t. implies t (same_test p q)) other
    ]

pub parted_all : (op : Op) (before : List PlanOp) → IsParted op → AllByRecursion (λ o. IsParted o.op) before → list_all (λ other. is_of_one_class op other.op) before ≡ true
parted_all op [] h all = refl
parted_all op (o ∷ before) h all =
    and_from (is_of_one_class op o.op) (list_all (λ other. is_of_one_class op other.op) before)
    (parted_class (line_named op) (line_named o.op) (wants_no_snoop op) (wants_no_snoop o.op) h all.0) (parted_all op before h all.1)

-- ---- what is drawn

-- in range, of the widths, and of its half of the lines
record IsFine (op : Op) : Type 0 where
  range : is_in_range op ≡ true
  fits : OpFits op
  parted : IsParted op

-- and for an ACE-Lite port
record IsFineLite (op : Op) : Type 0 where
  fine : IsFine op
  for_lite : is_lite_operation op ≡ true

either : (P : Op → Type 0) (b : Bool) (one other : Op) → P one → P other → P (cond b one other)
either P true one other h k = h
either P false one other h k = k

snooped_aligned : (x : ℕ) → is_aligned (snooped_address x) ≡ true
snooped_aligned x = eq-eqb (snooped_address x % 64) 0 (omega arith)

unsnooped_aligned : (x : ℕ) → is_aligned (unsnooped_address x) ≡ true
unsnooped_aligned x = eq-eqb (unsnooped_address x % 64) 0 (omega arith)

aligned_alone : (a : ℕ) → is_aligned a ≡ true → is_aligned a && true ≡ true
aligned_alone a h = and_from (is_aligned a) true h refl

place_right : (x : ℕ) → is_word_number (drawn_place x) ≡ true
place_right x = le-leb (drawn_place x) 3 (omega arith)

snooped_below : (x : ℕ) → leb 0x8000 (snooped_address x) ≡ false
snooped_below x = lt-leb 0x8000 (snooped_address x) (omega arith)

unsnooped_above : (x : ℕ) → leb 0x8000 (unsnooped_address x) ≡ true
unsnooped_above x = le-leb 0x8000 (unsnooped_address x) (omega arith)

snooped_parted : (x : ℕ) → same_test false (leb 0x8000 (snooped_address x)) ≡ true
snooped_parted x = ap (same_test false) (snooped_below x)

unsnooped_parted : (x : ℕ) → same_test true (leb 0x8000 (unsnooped_address x)) ≡ true
unsnooped_parted x = ap (same_test true) (unsnooped_above x)

address_fits : (x : ℕ) → snooped_address x < 2 ^ 32
address_fits x = omega arith

other_fits : (x : ℕ) → unsnooped_address x < 2 ^ 32
other_fits x = omega arith

word_fits : (y : ℕ) → y < 2 ^ 32 → repeated y < 2 ^ 128
word_fits y h = omega (arith, h)

strobe_fits : (x : ℕ) → 0xffff * 2 ^ (16 * drawn_place x) < 2 ^ 64
strobe_fits x =
    let most : 16 * drawn_place x ≤ 48 = omega arith in
    let le : 2 ^ (16 * drawn_place x) ≤ 2 ^ 48 = pow-le-pow_right {n = 2} (omega arith) {i = 16 * drawn_place x} {j = 48} most in
    omega (arith, le)

line_fits : (y : ℕ) → y < 2 ^ 32 → IsLine (repeated_line y)
line_fits y h = let word = word_fits y h in (refl, (word, (word, (word, (word, tt)))))

placed : (x : ℕ) → is_aligned (snooped_address x) && is_word_number (drawn_place x) ≡ true
placed x = and_from (is_aligned (snooped_address x)) (is_word_number (drawn_place x)) (snooped_aligned x) (place_right x)

alone : (x : ℕ) → is_aligned (snooped_address x) && true ≡ true
alone x = aligned_alone (snooped_address x) (snooped_aligned x)

other_alone : (x : ℕ) → is_aligned (unsnooped_address x) && true ≡ true
other_alone x = aligned_alone (unsnooped_address x) (unsnooped_aligned x)

ld_fine : (x : ℕ) → IsFine (Ld (snooped_address x) (drawn_place x))
ld_fine x = record { range = placed x; fits = address_fits x; parted = snooped_parted x }

st_fine : (x y : ℕ) → y < 2 ^ 32 → IsFine (St (snooped_address x) (drawn_place x) (repeated y))
st_fine x y h = record { range = placed x; fits = (address_fits x, word_fits y h); parted = snooped_parted x }

ldx_fine : (x : ℕ) → IsFine (Ldx (snooped_address x) (drawn_place x))
ldx_fine x = record { range = placed x; fits = address_fits x; parted = snooped_parted x }

stx_fine : (x y : ℕ) → y < 2 ^ 32 → IsFine (Stx (snooped_address x) (drawn_place x) (repeated y))
stx_fine x y h = record { range = placed x; fits = (address_fits x, word_fits y h); parted = snooped_parted x }

fill_fine : (x y : ℕ) → y < 2 ^ 32 → IsFine (Fill (snooped_address x) (repeated_line y))
fill_fine x y h = record { range = alone x; fits = (address_fits x, line_fits y h); parted = snooped_parted x }

wb_fine : (x : ℕ) → IsFine (Wb (snooped_address x))
wb_fine x = record { range = alone x; fits = address_fits x; parted = snooped_parted x }

wc_fine : (x : ℕ) → IsFine (Wc (snooped_address x))
wc_fine x = record { range = alone x; fits = address_fits x; parted = snooped_parted x }

cs_fine : (x : ℕ) → IsFine (Cs (snooped_address x))
cs_fine x = record { range = alone x; fits = address_fits x; parted = snooped_parted x }

pf_fine : (x : ℕ) → IsFine (Pf (snooped_address x) read.ReadUnique)
pf_fine x = record { range = alone x; fits = address_fits x; parted = snooped_parted x }

mb_fine : IsFine Mb
mb_fine = record { range = refl; fits = tt; parted = refl }

sb_fine : IsFine Sb
sb_fine = record { range = refl; fits = tt; parted = refl }

dvm_fine : IsFine (Dvm 0x1000)
dvm_fine = record { range = refl; fits = omega arith; parted = refl }

ro_fine : (x : ℕ) → IsFine (Ro (snooped_address x))
ro_fine x = record { range = alone x; fits = address_fits x; parted = snooped_parted x }

ci_fine : (x : ℕ) → IsFine (Ci (snooped_address x))
ci_fine x = record { range = alone x; fits = address_fits x; parted = snooped_parted x }

wu_fine : (x y : ℕ) → y < 2 ^ 32 → IsFine (Wu (snooped_address x) (0xffff * 2 ^ (16 * drawn_place x)) (repeated_line y))
wu_fine x y h = record { range = alone x; fits = (address_fits x, strobe_fits x, line_fits y h); parted = snooped_parted x }

wlu_fine : (x y : ℕ) → y < 2 ^ 32 → IsFine (Wlu (snooped_address x) (repeated_line y))
wlu_fine x y h = record { range = alone x; fits = (address_fits x, line_fits y h); parted = snooped_parted x }

rn_fine : (x : ℕ) → IsFine (Rn (unsnooped_address x))
rn_fine x = record { range = other_alone x; fits = other_fits x; parted = unsnooped_parted x }

wn_fine : (x y : ℕ) → y < 2 ^ 32 → IsFine (Wn (unsnooped_address x) 0xffff_ffff_ffff_ffff (repeated_line y))
wn_fine x y h = record { range = other_alone x; fits = (other_fits x, omega arith, line_fits y h); parted = unsnooped_parted x }

-- the strobe of a word isn't cut
pub whole_strobe : (w : ℕ) → w ≤ 3 → 0xffff * 2 ^ (16 * w) % 2 ^ 64 ≡ 0xffff * 2 ^ (16 * w)
whole_strobe w h =
    let most : 16 * w ≤ 48 = omega (arith, h) in
    let le : 2 ^ (16 * w) ≤ 2 ^ 48 = pow-le-pow_right {n = 2} (omega arith) {i = 16 * w} {j = 48} most in
    omega (arith, le)

ace_fine : (pick x y : ℕ) → y < 2 ^ 32 → IsFine (ace_op pick x y)
ace_fine pick x y h =
    either IsFine _ _ _ (ld_fine x) (either IsFine _ _ _ (st_fine x y h) (either IsFine _ _ _ (ldx_fine x) (either IsFine _ _ _ (stx_fine x y h)
    (either IsFine _ _ _ (fill_fine x y h) (either IsFine _ _ _ (wb_fine x) (either IsFine _ _ _ (wc_fine x) (either IsFine _ _ _ (cs_fine x)
    (either IsFine _ _ _ (pf_fine x) (either IsFine _ _ _ mb_fine dvm_fine)))))))))

lite : (op : Op) → IsFine op → is_lite_operation op ≡ true → IsFineLite op
lite op fine e = record { fine = fine; for_lite = e }

lite_fine : (pick x y : ℕ) → y < 2 ^ 32 → IsFineLite (lite_op pick x y)
lite_fine pick x y h =
    either IsFineLite _ _ _ (lite _ (ro_fine x) refl) (either IsFineLite _ _ _ (lite _ (wu_fine x y h) refl) (either IsFineLite _ _ _ (lite _ (wlu_fine x y h) refl)
    (either IsFineLite _ _ _ (lite _ (cs_fine x) refl) (either IsFineLite _ _ _ (lite _ (ci_fine x) refl) (either IsFineLite _ _ _ (lite _ mb_fine refl)
    (either IsFineLite _ _ _ (lite _ sb_fine refl) (either IsFineLite _ _ _ (lite _ (rn_fine x) refl) (lite _ (wn_fine x y h) refl))))))))

-- ---- the plan so far

port_in : (p : ℕ) → p < 4 → ltb p 4 ≡ true
port_in p h = lt-ltb p 4 h

ace_port : (p : ℕ) → p < 4 → eqb p 3 ≡ false → is_ace generated_header p ≡ true
ace_port zero h e = refl
ace_port (suc zero) h e = refl
ace_port (suc (suc zero)) h e = refl
ace_port (suc (suc (suc zero))) h e = absurd cc
ace_port (suc (suc (suc (suc p)))) h e = absurd (omega (arith, h))

-- what is drawn can stand after what was drawn
abbrev pub StandsAfter : List PlanOp → PlanOp → Type 0
StandsAfter before o = IsRightAfter generated_header before o × OperationFits o × IsParted o.op

ace_stands : (before : List PlanOp) (p : ℕ) (op : Op) → p < 4 → eqb p 3 ≡ false → IsFine op → AllByRecursion (λ o. IsParted o.op) before → StandsAfter before (record { port = p; op = op })
ace_stands before p op h e fine all = (
  record {
    port = port_in p h;
    range = fine.range;
    allowed = and_from _ _ (ap (λ b. implies (not b) (is_lite_operation op)) (ace_port p h e)) (parted_all op before fine.parted all);
  },
  fine.fits,
  fine.parted,
)

lite_stands : (before : List PlanOp) (p : ℕ) (op : Op) → p < 4 → IsFineLite op → AllByRecursion (λ o. IsParted o.op) before → StandsAfter before (record { port = p; op = op })
lite_stands before p op h fine all = (
  record {
    port = port_in p h;
    range = fine.fine.range;
    allowed = and_from _ _ (ap (implies (not (is_ace generated_header p))) fine.for_lite ∙ anything (is_ace generated_header p)) (parted_all op before fine.fine.parted all);
  },
  fine.fine.fits,
  fine.fine.parted,
)
  where
    anything : (b : Bool) → implies (not b) true ≡ true
    anything true = refl
    anything false = refl

pub drawn_stands : (before : List PlanOp) (x y : ℕ) → y < 2 ^ 32 → AllByRecursion (λ o. IsParted o.op) before → StandsAfter before (drawn_operation x y)
unfolding drawn_operation
drawn_stands before x y h all =
    elim (cases_Bool (eqb (x % 4) 3)) [
      | inl is ↦
          subst (λ b. StandsAfter before (record { port = x % 4; op = cond b (lite_op (x / 256 % 16) x y) (ace_op (x / 256 % 16) x y) })) (sym is)
          (lite_stands before (x % 4) (lite_op (x / 256 % 16) x y) (omega arith) (lite_fine (x / 256 % 16) x y h) all)
      | inr other ↦
          subst (λ b. StandsAfter before (record { port = x % 4; op = cond b (lite_op (x / 256 % 16) x y) (ace_op (x / 256 % 16) x y) })) (sym other)
          (ace_stands before (x % 4) (ace_op (x / 256 % 16) x y) (omega arith) other (ace_fine (x / 256 % 16) x y h) all)
    ]

-- the plan is that of a script, and its lines are parted
pub record IsDrawn (plan : Plan) : Type 0 where
  pub header : plan.header ≡ generated_header
  pub script : IsScript plan
  pub parted : AllByRecursion (λ o. IsParted o.op) plan.operations

pub nothing_drawn : (n : ℕ) → n < 2 ^ 64 → IsDrawn (record { header = generated_header; ways = 4; policy = Mixed n; operations = [] })
nothing_drawn n h = record {
  header = refl;
  script = record {
    right = record {
      header = record { version = inl refl; some_port = omega arith; most_ports = omega arith; most_ace = omega arith; most_lite = omega arith; no_other = omega arith };
      version = refl;
      some_way = omega arith;
      most_ways = omega arith;
      few = omega arith;
      operations = tt;
    };
    policy_fits = h;
    operations_fit = tt;
  };
  parted = tt;
}

pub one_drawn : (plan : Plan) (x y : ℕ) → y < 2 ^ 32 → length plan.operations < most_operations → IsDrawn plan → IsDrawn (longer plan (drawn_operation x y))
one_drawn plan x y h few d =
    let stands = drawn_stands plan.operations x y h d.parted in
    let right = subst (λ header. IsRightAfter header plan.operations (drawn_operation x y)) (sym d.header) stands.0 in
    record {
      header = d.header;
      script = script_longer plan (drawn_operation x y) d.script few right stands.1;
      parted = all-append (λ (o : PlanOp). IsParted o.op) plan.operations (drawn_operation x y ∷ []) d.parted (stands.2, tt);
    }

-- ---- the list of operations

pub next_drawn : (operations total : List PlanOp) (left : ℕ) (words : Lcg) → 0 < left → operations ++ drawn left words ≡ total
    → (operations ++ drawn_operation (pcg32 words).0 (pcg32 (pcg32 words).1).0 ∷ []) ++ drawn (left - 1) (pcg32 (pcg32 words).1).1 ≡ total
unfolding drawn
next_drawn operations total zero words some e = absurd (omega (arith, some))
next_drawn operations total (suc left) words some e =
    let o = drawn_operation (pcg32 words).0 (pcg32 (pcg32 words).1).0 in
    let one_less : suc left - 1 ≡ left = omega arith in
    ap (λ k. (operations ++ o ∷ []) ++ drawn k (pcg32 (pcg32 words).1).1) one_less
    ∙ append_assoc operations (o ∷ []) (drawn left (pcg32 (pcg32 words).1).1) ∙ e

-- the same of words that were drawn
pub next_of_words : (operations total : List PlanOp) (left x y : ℕ) (words next last : Lcg) → 0 < left → (x, next) ≡ pcg32 words → (y, last) ≡ pcg32 next → operations ++ drawn left words ≡ total
    → (operations ++ drawn_operation x y ∷ []) ++ drawn (left - 1) last ≡ total
next_of_words operations total left x y words next last some first second e =
    let one = subst (λ (p : ℕ × Lcg). (operations ++ drawn_operation p.0 (pcg32 p.1).0 ∷ []) ++ drawn (left - 1) (pcg32 p.1).1 ≡ total) (sym first) (next_drawn operations total left words some e) in
    subst (λ (p : ℕ × Lcg). (operations ++ drawn_operation x p.0 ∷ []) ++ drawn (left - 1) p.1 ≡ total) (sym second) one

pub all_drawn : (operations total : List PlanOp) (words : Lcg) → operations ++ drawn 0 words ≡ total → operations ≡ total
unfolding drawn
all_drawn operations total words e = sym (append-nil operations) ∙ e

-- once nothing is left to draw, it is the plan of the number
pub generated_whole : (view : PlanWithRoom) (n left : ℕ) (words : Lcg) → left ≡ 0 → IsDrawn view.plan → view.plan.ways ≡ 4 → view.plan.policy ≡ Mixed n → view.room ≡ 0
    → view.plan.operations ++ drawn left words ≡ drawn generated_count (started 64 multiplier_64 n (increment_of 64 1)) → view ≡ record { plan = generated n; room = 0 }
generated_whole view n left words none d ways policy room e =
    let operations = all_drawn view.plan.operations _ words (ap (λ k. view.plan.operations ++ drawn k words) (sym none) ∙ e) in
    same_parts view (record { plan = generated n; room = 0 }) (d.header, ways, policy, room) operations

pub ruleset generating_steps = (nothing_drawn)
