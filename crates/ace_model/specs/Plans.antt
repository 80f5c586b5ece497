-- Plans: what a script asks of the ports. Each port does its operations in their order.
use Rattle.std.specs.Prelude.{◌≡◌, ◌≤◌, ℕ, Bool, true, false, not, ◌&&◌, ◌==◌, nat_lt, nat_le, List, [], ◌∷◌, ◌++◌, length, Option, Some, None}
use Rattle.std.specs.List.{list_all}
use Rattle.ace_event.specs.declared.header.Header.{Header}
use Rattle.ace_event.specs.Ports.{IsHeader}
use Rattle.ace_tables.specs.Answers.{same_test}
use Rattle.ace_tables.specs.EndStates.{is_fetch}
use Rattle.ace_model.specs.declared.plans.Op.{Op}
use Rattle.ace_model.specs.declared.plans.Op.TheVariants.{Ld, Ldx, St, Stx, Fill, Pf, Wb, Wc, Ev, We, Ro, Cs, Ci, Mi, Rn, Wu, Wlu, Wn, Mb, Sb, Dvm, Sync, Dvm2}
use Rattle.ace_model.specs.declared.plans.PlanOp.{PlanOp}
use Rattle.ace_model.specs.declared.plans.PolicyWord.{PolicyWord}
use Rattle.ace_model.specs.Trace.{implies, is_none_or, is_some_and}
use Rattle.ace_model.specs.Transactions.{is_ace}
use Rattle.ace_model.specs.AddressRules.{is_aligned}
use Rattle.ace_model.specs.Messages.{is_message_word, is_sync_word, has_second}

-- a header, the number of lines that each cache holds, how snoops are answered, and the operations,
-- in order
pub record Plan : Type 0 where
  pub header : Header
  pub ways : ℕ
  pub policy : PolicyWord
  pub operations : List PlanOp

-- the same, and how many more operations there is room for
pub record PlanWithRoom : Type 0 where
  pub plan : Plan
  pub room : ℕ

-- the most operations of a plan
abbrev pub most_operations : ℕ
most_operations = 4096

-- the plan with one more operation at its end
abbrev pub longer : Plan → PlanOp → Plan
longer plan o = record plan { operations = plan.operations ++ o ∷ [] }

-- the line that the operation names
abbrev pub line_named : Op → Option ℕ
line_named (Ld a w) = Some a
line_named (Ldx a w) = Some a
line_named (St a w word) = Some a
line_named (Stx a w word) = Some a
line_named (Fill a line) = Some a
line_named (Pf a k) = Some a
line_named (Wb a) = Some a
line_named (Wc a) = Some a
line_named (Ev a) = Some a
line_named (We a) = Some a
line_named (Ro a) = Some a
line_named (Cs a) = Some a
line_named (Ci a) = Some a
line_named (Mi a) = Some a
line_named (Rn a) = Some a
line_named (Wu a strobe line) = Some a
line_named (Wlu a line) = Some a
line_named (Wn a strobe line) = Some a
line_named _ = None

-- it accesses its line without a snoop
abbrev pub wants_no_snoop : Op → Bool
wants_no_snoop (Rn a) = true
wants_no_snoop (Wn a strobe line) = true
wants_no_snoop _ = false

-- what an ACE-Lite port can be asked to do
abbrev pub is_lite_operation : Op → Bool
is_lite_operation (Ro a) = true
is_lite_operation (Cs a) = true
is_lite_operation (Ci a) = true
is_lite_operation (Mi a) = true
is_lite_operation (Rn a) = true
is_lite_operation (Wu a strobe line) = true
is_lite_operation (Wlu a line) = true
is_lite_operation (Wn a strobe line) = true
is_lite_operation Mb = true
is_lite_operation Sb = true
is_lite_operation _ = false

-- the number of a word of a line
abbrev pub is_word_number : ℕ → Bool
is_word_number w = nat_le w 3

-- the word of a DVM message of one part that is no Sync
abbrev pub is_lone_word : ℕ → Bool
is_lone_word word = is_message_word word && not (is_sync_word word) && not (has_second word)

-- the word of a Sync
abbrev pub is_whole_sync_word : ℕ → Bool
is_whole_sync_word word = is_message_word word && is_sync_word word

-- the word of the first part of a DVM message of two parts
abbrev pub is_first_word : ℕ → Bool
is_first_word word = is_message_word word && has_second word

-- Its fields other than the address are in their ranges: the word of a load or a store is one of
-- the four, a read ahead brings the line into the cache, and the DVM words are those of such a
-- message.
abbrev pub has_right_fields : Op → Bool
has_right_fields (Ld a w) = is_word_number w
has_right_fields (Ldx a w) = is_word_number w
has_right_fields (St a w word) = is_word_number w
has_right_fields (Stx a w word) = is_word_number w
has_right_fields (Pf a k) = is_fetch k
has_right_fields (Dvm word) = is_lone_word word
has_right_fields (Sync word) = is_whole_sync_word word
has_right_fields (Dvm2 word second) = is_first_word word
has_right_fields _ = true

-- every field is in its range: the address is that of a line
abbrev pub is_in_range : Op → Bool
is_in_range op = is_none_or (line_named op) is_aligned && has_right_fields op

-- The two operations don't name one line once with and once without a snoop.
abbrev pub is_of_one_class : Op → Op → Bool
is_of_one_class op other =
    is_none_or (line_named op) (λ a. implies (is_some_and (line_named other) (λ b. b == a))
    (same_test (wants_no_snoop op) (wants_no_snoop other)))

-- After these operations, the kind of port can do the operation, and none of them named its line in
-- the other class.
abbrev pub is_allowed : Header → List PlanOp → PlanOp → Bool
is_allowed h before o =
    implies (not (is_ace h o.port)) (is_lite_operation o.op)
    && list_all (λ other. is_of_one_class o.op other.op) before

-- Such an operation can stand after these: the header has its port, its fields are in range, and it
-- is allowed.
pub record IsRightAfter (h : Header) (before : List PlanOp) (o : PlanOp) : Type 0 where
  pub port : nat_lt o.port h.ports ≡ true
  pub range : is_in_range o.op ≡ true
  pub allowed : is_allowed h before o ≡ true

-- each of the operations can stand after those before it
abbrev pub AreRightAfter : Header → List PlanOp → List PlanOp → Type 0
AreRightAfter h before [] = Unit {0}
AreRightAfter h before (o ∷ rest) =
    IsRightAfter h before o × AreRightAfter h (before ++ o ∷ []) rest

-- A plan that a script can have.
pub record IsRight (plan : Plan) : Type 0 where
  pub header : IsHeader plan.header
  pub version : plan.header.version ≡ 1
  pub some_way : 1 ≤ plan.ways
  pub most_ways : plan.ways ≤ 32
  pub few : length plan.operations ≤ most_operations
  pub operations : AreRightAfter plan.header [] plan.operations
