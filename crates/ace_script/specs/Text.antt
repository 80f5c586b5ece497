-- The text of a script, in bytes: four header lines, and a line for each operation.
use Rattle.std.specs.Prelude.{ℕ, List, [], ◌∷◌, ◌++◌, codes, decimal}
use Rattle.std.specs.List.{flat_map, join_with_byte}
use Rattle.ace_codes.specs.declared.kind.ArKind.{ArKind}
use Rattle.ace_codes.specs.declared.kind.ArKind.TheVariants as read
use Rattle.ace_event.specs.Text.{hex_text, line_digits, line_text}
use Rattle.ace_grammar.specs.Reading.{ports_text}
use Rattle.ace_model.specs.declared.plans.Op.{Op}
use Rattle.ace_model.specs.declared.plans.Op.TheVariants.{Ld, Ldx, St, Stx, Fill, Pf, Wb, Wc, Ev, We, Ro, Cs, Ci, Mi, Rn, Wu, Wlu, Wn, Mb, Sb, Dvm, Sync, Dvm2}
use Rattle.ace_model.specs.declared.plans.PlanOp.{PlanOp}
use Rattle.ace_model.specs.declared.plans.PolicyWord.{PolicyWord}
use Rattle.ace_model.specs.declared.plans.PolicyWord.TheVariants.{Keep, Eager, Mixed}
use Rattle.ace_model.specs.Plans.{Plan}

-- the letter of a read ahead
abbrev pub fetch_text : ArKind → List ℕ
fetch_text read.ReadShared = codes "s"
fetch_text read.ReadClean = codes "c"
fetch_text read.ReadNotSharedDirty = codes "n"
fetch_text _ = codes "u"

-- the word of an operation, and its fields; words and lines are written as in a trace
abbrev pub op_fields : Op → List (List ℕ)
op_fields (Ld a w) = codes "ld" ∷ hex_text 8 a ∷ hex_text 1 w ∷ []
op_fields (Ldx a w) = codes "ldx" ∷ hex_text 8 a ∷ hex_text 1 w ∷ []
op_fields (St a w word) = codes "st" ∷ hex_text 8 a ∷ hex_text 1 w ∷ hex_text 32 word ∷ []
op_fields (Stx a w word) = codes "stx" ∷ hex_text 8 a ∷ hex_text 1 w ∷ hex_text 32 word ∷ []
op_fields (Fill a line) = codes "fill" ∷ hex_text 8 a ∷ line_digits line ∷ []
op_fields (Pf a kind) = codes "pf" ∷ hex_text 8 a ∷ fetch_text kind ∷ []
op_fields (Wb a) = codes "wb" ∷ hex_text 8 a ∷ []
op_fields (Wc a) = codes "wc" ∷ hex_text 8 a ∷ []
op_fields (Ev a) = codes "ev" ∷ hex_text 8 a ∷ []
op_fields (We a) = codes "we" ∷ hex_text 8 a ∷ []
op_fields (Ro a) = codes "ro" ∷ hex_text 8 a ∷ []
op_fields (Cs a) = codes "cs" ∷ hex_text 8 a ∷ []
op_fields (Ci a) = codes "ci" ∷ hex_text 8 a ∷ []
op_fields (Mi a) = codes "mi" ∷ hex_text 8 a ∷ []
op_fields (Rn a) = codes "rn" ∷ hex_text 8 a ∷ []
op_fields (Wu a strobe line) =
    codes "wu" ∷ hex_text 8 a ∷ hex_text 16 strobe ∷ line_digits line ∷ []
op_fields (Wlu a line) = codes "wlu" ∷ hex_text 8 a ∷ line_digits line ∷ []
op_fields (Wn a strobe line) =
    codes "wn" ∷ hex_text 8 a ∷ hex_text 16 strobe ∷ line_digits line ∷ []
op_fields Mb = codes "mb" ∷ []
op_fields Sb = codes "sb" ∷ []
op_fields (Dvm word) = codes "dvm" ∷ hex_text 8 word ∷ []
op_fields (Sync word) = codes "sync" ∷ hex_text 8 word ∷ []
op_fields (Dvm2 word second) = codes "dvm2" ∷ hex_text 8 word ∷ hex_text 8 second ∷ []

-- the port of an operation, its word and its fields
abbrev pub operation_fields : PlanOp → List (List ℕ)
operation_fields o = hex_text 1 o.port ∷ op_fields o.op

-- The line of an operation, without its line feed: one space stands between each two fields.
abbrev pub operation_text : PlanOp → List ℕ
operation_text o = join_with_byte 32 (operation_fields o)

-- the first header line; the second one is that of a trace's ports
abbrev pub first_text : List ℕ
first_text = codes "ACE SCRIPT 1"

-- the third
abbrev pub cache_text : ℕ → List ℕ
cache_text ways = codes "CACHE " ++ decimal ways

-- the fourth
abbrev pub policy_text : PolicyWord → List ℕ
policy_text Keep = codes "POLICY keep"
policy_text Eager = codes "POLICY eager"
policy_text (Mixed n) = codes "POLICY mixed " ++ hex_text 16 n

-- the four header lines
abbrev pub script_header : Plan → List ℕ
script_header plan =
    line_text first_text ++ line_text (ports_text plan.header) ++ line_text (cache_text plan.ways)
    ++ line_text (policy_text plan.policy)

-- the lines of the operations, in order
abbrev pub operations_text : List PlanOp → List ℕ
operations_text operations = flat_map (λ o. line_text (operation_text o)) operations

-- a whole script
abbrev pub plan_text : Plan → List ℕ
plan_text plan = script_header plan ++ operations_text plan.operations
