-- What is drawn can stand in a plan of its shape, operation by operation.
use Rattle.std.proofs.Common.{◌≡◌, ℕ, zero, suc, ◌+◌, ◌-◌, ◌*◌, ◌/◌, ◌%◌, ◌^◌, ◌<◌, ◌&&◌, Bool, true, false, not, cond, eqb, leb, ltb, List, [], ◌∷◌, ◌++◌, Option, Some, None, refl, sym, ap, subst, ◌∙◌, arith, append_assoc, append-nil, inl, inr}
use Rattle.std.specs.List.{AllByRecursion, list_all}
use Rattle.std.specs.Int.{bit_at}
use Rattle.std.proofs.lemmas.Bool.{eq-eqb, le-leb, lt-ltb, lt-leb, and_from, cases_Bool, eqb-true, ltb-true}
use Rattle.std.proofs.lemmas.Nat.Bits.{bit_at_ones}
use Rattle.std.proofs.Math.Nat.{mod-lt}
use Rattle.rand_pcg.specs.Lcg.{Lcg}
use Rattle.rand_pcg.specs.Pcg.{pcg32}
use Rattle.ace_codes.specs.declared.kind.ArKind.TheVariants as read
use Rattle.ace_event.specs.declared.header.Header.{Header}
use Rattle.ace_grammar.proofs.General.Visible.{all-append}
use Rattle.ace_tables.specs.Answers.{same_test}
use Rattle.ace_tables.specs.EndStates.{is_fetch}
use Rattle.ace_model.specs.Trace.{implies, is_none_or, is_some_and}
use Rattle.ace_model.specs.AddressRules.{is_aligned}
use Rattle.ace_model.specs.Transactions.{is_ace}
use Rattle.ace_model.specs.declared.plans.Op.{Op}
use Rattle.ace_model.specs.declared.plans.Op.TheVariants.{Ld, Ldx, St, Stx, Fill, Pf, Wb, Wc, Ev, We, Ro, Cs, Ci, Mi, Rn, Wu, Wlu, Wn, Mb, Sb, Dvm, Sync, Dvm2}
use Rattle.ace_model.specs.declared.plans.PlanOp.{PlanOp}
use Rattle.ace_model.specs.Plans.{PlanWithRoom, IsRightAfter, longer, line_named, wants_no_snoop, is_lite_operation, is_in_range, is_word_number, is_of_one_class, is_lone_word, is_first_word}
pub use Rattle.ace_script.proofs.GeneratedPlans.{IsParted}
use Rattle.ace_script.proofs.GeneratedPlans.{parted_all}
use Rattle.ace_script.specs.Generated.{repeated, repeated_line}
use Rattle.ace_cover_script.specs.Covering.{places_of, message_word, access_op, fetch_kind, yielding_op, shared_op, ace_op, drawn_operation, drawn, covering_of, covering_count}
use Rattle.ace_cover_script.specs.Shapes.{IsShape, header_of, policy_of}
use Rattle.ace_cover_script.specs.declared.places.Places.{Places}
use Rattle.ace_cover_script.specs.declared.shape.Shape.{Shape}

-- ---- what is drawn

-- in range, and of its half of the lines
record IsFine (op : Op) : Type 0 where
  range : is_in_range op ≡ true
  parted : IsParted op

-- and for an ACE-Lite port
record IsFineLite (op : Op) : Type 0 where
  fine : IsFine op
  for_lite : is_lite_operation op ≡ true

-- the places of an operation are places
record ArePlaces (places : Places) : Type 0 where
  snooped_line : is_aligned places.snooped ≡ true
  snooped : leb 0x8000 places.snooped ≡ false
  unsnooped_line : is_aligned places.unsnooped ≡ true
  unsnooped : leb 0x8000 places.unsnooped ≡ true
  word : is_word_number places.word ≡ true

either : (P : Op → Type 0) (b : Bool) (one other : Op) → P one → P other → P (cond b one other)
either P true one other h k = h
either P false one other h k = k

places_right : (shape : Shape) (x : ℕ) → IsShape shape → ArePlaces (places_of shape x)
places_right shape x is =
    let line : x / 256 % shape.lines < shape.lines = mod-lt (x / 256) is.some_line in
    record {
      snooped_line = eq-eqb ((places_of shape x).snooped % 64) 0 (omega arith);
      snooped = lt-leb 0x8000 (places_of shape x).snooped (omega (arith, line, is.most_lines));
      unsnooped_line = eq-eqb ((places_of shape x).unsnooped % 64) 0 (omega arith);
      unsnooped = le-leb 0x8000 (places_of shape x).unsnooped (omega arith);
      word = le-leb (places_of shape x).word 3 (omega arith);
    }

-- an operation on a snooped line, and one on the other lines
on_snooped : (op : Op) (a : ℕ) (more : Bool) → line_named op ≡ Some a → wants_no_snoop op ≡ false → is_in_range op ≡ is_aligned a && more → is_aligned a ≡ true → leb 0x8000 a ≡ false → more ≡ true → IsFine op
on_snooped op a more named snoops range aligned low fine = record {
  range = range ∙ and_from (is_aligned a) more aligned fine;
  parted =
      ap (λ o. is_none_or o (λ b. same_test (wants_no_snoop op) (leb 0x8000 b))) named ∙ ap (λ w. same_test w (leb 0x8000 a)) snoops ∙ ap (same_test false) low;
}

on_unsnooped : (op : Op) (a : ℕ) → line_named op ≡ Some a → wants_no_snoop op ≡ true → is_in_range op ≡ is_aligned a && true → is_aligned a ≡ true → leb 0x8000 a ≡ true → IsFine op
on_unsnooped op a named snoops range aligned high = record {
  range = range ∙ and_from (is_aligned a) true aligned refl;
  parted =
      ap (λ o. is_none_or o (λ b. same_test (wants_no_snoop op) (leb 0x8000 b))) named ∙ ap (λ w. same_test w (leb 0x8000 a)) snoops ∙ ap (same_test true) high;
}

nowhere : (op : Op) → line_named op ≡ None → is_in_range op ≡ true → IsFine op
nowhere op named range = record {
  range = range;
  parted = ap (λ o. is_none_or o (λ b. same_test (wants_no_snoop op) (leb 0x8000 b))) named;
}

access_fine : (pick : ℕ) (p : Places) (y : ℕ) → ArePlaces p → IsFine (access_op pick p y)
access_fine pick p y a =
    let here = λ (op : Op) (named : line_named op ≡ Some p.snooped) (snoops : wants_no_snoop op ≡ false) (range : is_in_range op ≡ is_aligned p.snooped && is_word_number p.word).
    on_snooped op p.snooped (is_word_number p.word) named snoops range a.snooped_line a.snooped a.word in
    either IsFine _ _ _ (here (Ld p.snooped p.word) refl refl refl) (either IsFine _ _ _ (here (Ldx p.snooped p.word) refl refl refl)
    (either IsFine _ _ _ (here (St p.snooped p.word (repeated y)) refl refl refl) (either IsFine _ _ _ (here (Stx p.snooped p.word (repeated y)) refl refl refl)
    (on_snooped (Fill p.snooped (repeated_line y)) p.snooped true refl refl refl a.snooped_line a.snooped refl))))

fetches : (pick : ℕ) → is_fetch (fetch_kind pick) ≡ true
fetches pick = three (leb pick 2) (leb pick 6) (leb pick 10)
  where
    three : (p q r : Bool) → is_fetch (cond p read.ReadShared (cond q read.ReadClean (cond r read.ReadNotSharedDirty read.ReadUnique))) ≡ true
    three true q r = refl
    three false true r = refl
    three false false true = refl
    three false false false = refl

-- the word of a message of one part, and of a first part
record AreMessages (r : ℕ) : Type 0 where
  lone : is_lone_word (0x1000 * r) ≡ true
  first : is_first_word (0x1000 * r + 1) ≡ true

messages_below : (r : ℕ) → r < 4 → AreMessages r
messages_below zero h = record { lone = refl; first = refl }
messages_below (suc zero) h = record { lone = refl; first = refl }
messages_below (suc (suc zero)) h = record { lone = refl; first = refl }
messages_below (suc (suc (suc zero))) h = record { lone = refl; first = refl }
messages_below (suc (suc (suc (suc r)))) h = absurd (omega (arith, h))

yielding_fine : (pick : ℕ) (p : Places) (y : ℕ) → ArePlaces p → IsFine (yielding_op pick p y)
yielding_fine pick p y a =
    let here = λ (op : Op) (named : line_named op ≡ Some p.snooped) (snoops : wants_no_snoop op ≡ false) (range : is_in_range op ≡ is_aligned p.snooped && true).
    on_snooped op p.snooped true named snoops range a.snooped_line a.snooped refl in
    let words = messages_below (y % 4) (omega arith) in
    either IsFine _ _ _ (here (Wb p.snooped) refl refl refl) (either IsFine _ _ _ (here (Wc p.snooped) refl refl refl)
    (either IsFine _ _ _ (here (Ev p.snooped) refl refl refl) (either IsFine _ _ _ (here (We p.snooped) refl refl refl)
    (either IsFine _ _ _ (nowhere (Dvm (message_word y)) refl words.lone) (either IsFine _ _ _ (nowhere (Dvm2 (message_word y + 1) y) refl words.first)
    (nowhere (Sync 0xc000) refl refl))))))

lite : (op : Op) → IsFine op → is_lite_operation op ≡ true → IsFineLite op
lite op fine e = record { fine = fine; for_lite = e }

shared_fine : (pick : ℕ) (p : Places) (y : ℕ) → ArePlaces p → IsFineLite (shared_op pick p y)
shared_fine pick p y a =
    let here = λ (op : Op) (for_lite : is_lite_operation op ≡ true) (named : line_named op ≡ Some p.snooped) (snoops : wants_no_snoop op ≡ false)
    (range : is_in_range op ≡ is_aligned p.snooped && true).
    lite op (on_snooped op p.snooped true named snoops range a.snooped_line a.snooped refl) for_lite in
    let there = λ (op : Op) (for_lite : is_lite_operation op ≡ true) (named : line_named op ≡ Some p.unsnooped) (apart : wants_no_snoop op ≡ true)
    (range : is_in_range op ≡ is_aligned p.unsnooped && true).
    lite op (on_unsnooped op p.unsnooped named apart range a.unsnooped_line a.unsnooped) for_lite in
    either IsFineLite _ _ _ (here (Ro p.snooped) refl refl refl refl) (either IsFineLite _ _ _ (here (Cs p.snooped) refl refl refl refl)
    (either IsFineLite _ _ _ (here (Ci p.snooped) refl refl refl refl) (either IsFineLite _ _ _ (here (Mi p.snooped) refl refl refl refl)
    (either IsFineLite _ _ _ (here (Wu p.snooped (0xffff * 2 ^ (16 * p.word)) (repeated_line y)) refl refl refl refl)
    (either IsFineLite _ _ _ (here (Wlu p.snooped (repeated_line y)) refl refl refl refl) (either IsFineLite _ _ _ (there (Rn p.unsnooped) refl refl refl refl)
    (either IsFineLite _ _ _ (there (Wn p.unsnooped 0xffff_ffff_ffff_ffff (repeated_line y)) refl refl refl refl)
    (either IsFineLite _ _ _ (lite Mb (nowhere Mb refl refl) refl) (lite Sb (nowhere Sb refl refl) refl)))))))))

ace_fine : (sort pick : ℕ) (p : Places) (y : ℕ) → ArePlaces p → IsFine (ace_op sort pick p y)
ace_fine sort pick p y a =
    either IsFine _ _ _ (access_fine pick p y a)
    (either IsFine _ _ _ (on_snooped (Pf p.snooped (fetch_kind pick)) p.snooped (is_fetch (fetch_kind pick)) refl refl refl a.snooped_line a.snooped (fetches pick))
    (either IsFine _ _ _ (yielding_fine pick p y a) (shared_fine pick p y a).fine))

-- ---- the plan so far

-- what is drawn can stand after what was drawn
abbrev pub StandsAfter : Shape → List PlanOp → PlanOp → Type 0
StandsAfter shape before o = IsRightAfter (header_of shape) before o × IsParted o.op

ace_port : (shape : Shape) (p : ℕ) → p < shape.aces → is_ace (header_of shape) p ≡ true
ace_port shape p h =
    and_from (ltb p (shape.aces + shape.lites)) (eqb (bit_at (2 ^ shape.aces - 1) p) 1) (lt-ltb p (shape.aces + shape.lites) (omega (arith, h)))
    (eq-eqb (bit_at (2 ^ shape.aces - 1) p) 1 (bit_at_ones shape.aces p h))

ace_stands : (shape : Shape) (before : List PlanOp) (p : ℕ) (op : Op) → p < shape.aces → IsFine op → AllByRecursion (λ o. IsParted o.op) before
    → StandsAfter shape before (record { port = p; op = op })
ace_stands shape before p op h fine all = (
  record {
    port = lt-ltb p (shape.aces + shape.lites) (omega (arith, h));
    range = fine.range;
    allowed = and_from _ _ (ap (λ b. implies (not b) (is_lite_operation op)) (ace_port shape p h)) (parted_all op before fine.parted all);
  },
  fine.parted,
)

anything : (b : Bool) → implies (not b) true ≡ true
anything true = refl
anything false = refl

lite_stands : (shape : Shape) (before : List PlanOp) (p : ℕ) (op : Op) → p < shape.aces + shape.lites → IsFineLite op → AllByRecursion (λ o. IsParted o.op) before
    → StandsAfter shape before (record { port = p; op = op })
lite_stands shape before p op h fine all = (
  record {
    port = lt-ltb p (shape.aces + shape.lites) h;
    range = fine.fine.range;
    allowed =
        and_from _ _ (ap (implies (not (is_ace (header_of shape) p))) fine.for_lite ∙ anything (is_ace (header_of shape) p)) (parted_all op before fine.fine.parted all);
  },
  fine.fine.parted,
)

pub drawn_stands : (shape : Shape) (before : List PlanOp) (x y : ℕ) → IsShape shape → AllByRecursion (λ o. IsParted o.op) before
    → StandsAfter shape before (drawn_operation shape x y)
unfolding drawn_operation
drawn_stands shape before x y is all =
    let p = x % (shape.aces + shape.lites) in
    let below : p < shape.aces + shape.lites = mod-lt x (omega (arith, is.some_ace)) in
    let places = places_right shape x is in
    let ace = ace_op (x / 0x10_0000 % 4) (x / 0x1_0000 % 16) (places_of shape x) y in
    let other = shared_op (x / 0x1_0000 % 16) (places_of shape x) y in
    elim (cases_Bool (ltb p shape.aces)) [
      | inl is ↦
          subst (λ b. StandsAfter shape before (record { port = p; op = cond b ace other })) (sym is)
          (ace_stands shape before p ace (ltb-true p shape.aces is) (ace_fine (x / 0x10_0000 % 4) (x / 0x1_0000 % 16) (places_of shape x) y places) all)
      | inr lite ↦
          subst (λ b. StandsAfter shape before (record { port = p; op = cond b ace other })) (sym lite)
          (lite_stands shape before p other below (shared_fine (x / 0x1_0000 % 16) (places_of shape x) y places) all)
    ]

pub all_parted : (operations : List PlanOp) (o : PlanOp) → AllByRecursion (λ o. IsParted o.op) operations → IsParted o.op → AllByRecursion (λ o. IsParted o.op) (operations ++ o ∷ [])
all_parted operations o all one = all-append (λ (o : PlanOp). IsParted o.op) operations (o ∷ []) all (one, tt)

-- ---- the list of operations

pub next_drawn : (shape : Shape) (operations total : List PlanOp) (left : ℕ) (words : Lcg) → 0 < left → operations ++ drawn shape left words ≡ total
    → (operations ++ drawn_operation shape (pcg32 words).0 (pcg32 (pcg32 words).1).0 ∷ []) ++ drawn shape (left - 1) (pcg32 (pcg32 words).1).1 ≡ total
unfolding drawn
next_drawn shape operations total zero words some e = absurd (omega (arith, some))
next_drawn shape operations total (suc left) words some e =
    let o = drawn_operation shape (pcg32 words).0 (pcg32 (pcg32 words).1).0 in
    let one_less : suc left - 1 ≡ left = omega arith in
    ap (λ k. (operations ++ o ∷ []) ++ drawn shape k (pcg32 (pcg32 words).1).1) one_less
    ∙ append_assoc operations (o ∷ []) (drawn shape left (pcg32 (pcg32 words).1).1) ∙ e

-- the same of words that were drawn
pub next_of_words : (shape : Shape) (operations total : List PlanOp) (left x y : ℕ) (words next last : Lcg) → 0 < left → (x, next) ≡ pcg32 words → (y, last) ≡ pcg32 next
    → operations ++ drawn shape left words ≡ total → (operations ++ drawn_operation shape x y ∷ []) ++ drawn shape (left - 1) last ≡ total
next_of_words shape operations total left x y words next last some first second e =
    let one =
    subst (λ (p : ℕ × Lcg). (operations ++ drawn_operation shape p.0 (pcg32 p.1).0 ∷ []) ++ drawn shape (left - 1) (pcg32 p.1).1 ≡ total) (sym first)
    (next_drawn shape operations total left words some e) in
    subst (λ (p : ℕ × Lcg). (operations ++ drawn_operation shape x p.0 ∷ []) ++ drawn shape (left - 1) p.1 ≡ total) (sym second) one

pub all_drawn : (shape : Shape) (operations total : List PlanOp) (words : Lcg) → operations ++ drawn shape 0 words ≡ total → operations ≡ total
unfolding drawn
all_drawn shape operations total words e = sym (append-nil operations) ∙ e

-- once nothing is left to draw, it is the plan of the number
pub covering_whole : (view : PlanWithRoom) (n left : ℕ) (shape : Shape) (start words : Lcg) → left ≡ 0 → view.plan.header ≡ header_of shape → view.plan.ways ≡ shape.ways
    → view.plan.policy ≡ policy_of n → view.room ≡ left → view.plan.operations ++ drawn shape left words ≡ drawn shape covering_count start
    → view ≡ record { plan = covering_of n shape start; room = 0 }
covering_whole view n left shape start words none header ways policy room e =
    let operations : view.plan.operations ≡ drawn shape covering_count start =
    all_drawn shape view.plan.operations _ words (ap (λ k. view.plan.operations ++ drawn shape k words) (sym none) ∙ e) in
    let empty : view.room ≡ 0 = room ∙ none in
    grind (arith, header, ways, policy, empty, operations)

-- what is drawn can stand there, by its parts
pub next_stands : (shape : Shape) (header : Header) (before : List PlanOp) (o : PlanOp) (x y : ℕ) → IsShape shape → header ≡ header_of shape → o ≡ drawn_operation shape x y
    → AllByRecursion (λ o. IsParted o.op) before → IsRightAfter header before (record { port = o.port; op = o.op }) × IsParted o.op
next_stands shape header before o x y is head drawn all =
    let stands = drawn_stands shape before x y is all in (
      subst (λ (h : Header). IsRightAfter h before (record { port = o.port; op = o.op })) (sym head)
          (subst (λ (d : PlanOp). IsRightAfter (header_of shape) before (record { port = d.port; op = d.op })) (sym drawn) stands.0),
      subst (λ (d : PlanOp). IsParted d.op) (sym drawn) stands.1,
    )

-- one more was drawn
pub next_listed : (shape : Shape) (operations operations' total : List PlanOp) (o : PlanOp) (left x y : ℕ) (words next last : Lcg) → 0 < left → (x, next) ≡ pcg32 words
    → (y, last) ≡ pcg32 next → o ≡ drawn_operation shape x y → operations' ≡ operations ++ record { port = o.port; op = o.op } ∷ []
    → operations ++ drawn shape left words ≡ total → operations' ++ drawn shape (left - 1) last ≡ total
next_listed shape operations operations' total o left x y words next last some first second is longer e =
    subst (λ (l : List PlanOp). l ++ drawn shape (left - 1) last ≡ total) (sym longer)
    (subst (λ (d : PlanOp). (operations ++ record { port = d.port; op = d.op } ∷ []) ++ drawn shape (left - 1) last ≡ total) (sym is)
    (next_of_words shape operations total left x y words next last some first second e))
