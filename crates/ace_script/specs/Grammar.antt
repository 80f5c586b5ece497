-- Which plans a script can have.
use Rattle.std.specs.Prelude.{◌<◌, ◌^◌, ⊤}
use Rattle.std.specs.List.{AllByRecursion}
use Rattle.ace_event.specs.Range.{IsAddress, IsWord, IsLine}
use Rattle.ace_model.specs.declared.plans.Op.{Op}
use Rattle.ace_model.specs.declared.plans.Op.TheVariants.{Ld, Ldx, St, Stx, Fill, Pf, Wb, Wc, Ev, We, Ro, Cs, Ci, Mi, Rn, Wu, Wlu, Wn, Mb, Sb, Dvm, Sync, Dvm2}
use Rattle.ace_model.specs.declared.plans.PlanOp.{PlanOp}
use Rattle.ace_model.specs.declared.plans.PolicyWord.{PolicyWord}
use Rattle.ace_model.specs.declared.plans.PolicyWord.TheVariants.{Keep, Eager, Mixed}
use Rattle.ace_model.specs.Plans.{Plan, IsRight}

-- What the types of the fields give alone: addresses, words, strobes and lines have their widths.
-- Every operation that a program can hold is so.
abbrev pub OpFits : Op → Type 0
OpFits (Ld a w) = IsAddress a
OpFits (Ldx a w) = IsAddress a
OpFits (St a w word) = IsAddress a × IsWord word
OpFits (Stx a w word) = IsAddress a × IsWord word
OpFits (Fill a line) = IsAddress a × IsLine line
OpFits (Pf a kind) = IsAddress a
OpFits (Wb a) = IsAddress a
OpFits (Wc a) = IsAddress a
OpFits (Ev a) = IsAddress a
OpFits (We a) = IsAddress a
OpFits (Ro a) = IsAddress a
OpFits (Cs a) = IsAddress a
OpFits (Ci a) = IsAddress a
OpFits (Mi a) = IsAddress a
OpFits (Rn a) = IsAddress a
OpFits (Wu a strobe line) = IsAddress a × (strobe < 2 ^ 64) × IsLine line
OpFits (Wlu a line) = IsAddress a × IsLine line
OpFits (Wn a strobe line) = IsAddress a × (strobe < 2 ^ 64) × IsLine line
OpFits Mb = ⊤
OpFits Sb = ⊤
OpFits (Dvm word) = IsAddress word
OpFits (Sync word) = IsAddress word
OpFits (Dvm2 word second) = IsAddress word × IsAddress second

abbrev pub OperationFits : PlanOp → Type 0
OperationFits o = OpFits o.op

-- a number of a policy has sixteen digits
abbrev pub PolicyFits : PolicyWord → Type 0
PolicyFits Keep = ⊤
PolicyFits Eager = ⊤
PolicyFits (Mixed n) = n < 2 ^ 64

-- The plan is that of a script: it is right, and its numbers have their widths.
pub record IsScript (plan : Plan) : Type 0 where
  pub right : IsRight plan
  pub policy_fits : PolicyFits plan.policy
  pub operations_fit : AllByRecursion OperationFits plan.operations
