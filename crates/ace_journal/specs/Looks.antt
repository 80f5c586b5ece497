-- What is looked for among the rows of the line where a clause is broken: the reason for that.
use Rattle.std.specs.Prelude.{ℕ, ◌==◌, if◌then◌else◌, Some, None}
use Rattle.ace_clauses.specs.declared.letters.Letter.{Letter}
use Rattle.ace_clauses.specs.declared.letters.Letter.TheVariants.{A, B, C, D, E, F, G, H, I}
use Rattle.ace_journal.specs.declared.looks.Look.{Look}
use Rattle.ace_journal.specs.declared.looks.Look.TheVariants.{Issue, OtherUse, Grant, Snoop, Unanswered, DataAnswer, PassedDirty, Kept, Begun, Transfer, Sent, Response, OwnWrite, MemoryWrite, Store, State, ExclusiveLoad, ExclusiveStore, Lost}
use Rattle.ace_journal.specs.declared.looks.Looks.{Looks}

abbrev pub nothing : Looks
nothing = record { first = None; second = None }

abbrev pub one : Look → Looks
one look = record { first = Some look; second = None }

abbrev pub two : Look → Look → Looks
two look other = record { first = Some look; second = Some other }

abbrev pub k5_looks : Letter → Looks
k5_looks A = one Issue
k5_looks _ = nothing

abbrev pub k6_looks : Letter → Looks
k6_looks A = one State
k6_looks _ = nothing

abbrev pub k8_looks : Letter → Looks
k8_looks A = one OtherUse
k8_looks _ = nothing

abbrev pub k11_looks : Letter → Looks
k11_looks B = one Sent
k11_looks C = one Issue
k11_looks D = two Issue Store
k11_looks _ = nothing

abbrev pub k12_looks : Letter → Looks
k12_looks B = one Issue
k12_looks C = one Grant
k12_looks D = one Grant
k12_looks _ = nothing

abbrev pub k13_looks : Letter → Looks
k13_looks B = one Grant
k13_looks C = one Grant
k13_looks D = one Grant
k13_looks E = two Grant Begun
k13_looks F = one Snoop
k13_looks G = one Response
k13_looks _ = nothing

abbrev pub k15_looks : Letter → Looks
k15_looks A = two Snoop State
k15_looks B = two Snoop State
k15_looks D = two Snoop State
k15_looks _ = nothing

abbrev pub k16_looks : Letter → Looks
k16_looks A = two Snoop Issue
k16_looks B = two Snoop Issue
k16_looks C = two Snoop Issue
k16_looks _ = nothing

abbrev pub k17_looks : Letter → Looks
k17_looks B = one DataAnswer
k17_looks C = one DataAnswer
k17_looks _ = nothing

abbrev pub k18_looks : Letter → Looks
k18_looks B = one Transfer
k18_looks C = two Issue Transfer
k18_looks D = one Issue
k18_looks E = two Grant Unanswered
k18_looks F = one Grant
k18_looks G = one Grant
k18_looks H = two Grant PassedDirty
k18_looks I = two Grant PassedDirty
k18_looks _ = nothing

abbrev pub k19_looks : Letter → Looks
k19_looks B = one Issue
k19_looks C = one Issue
k19_looks E = two Grant Kept
k19_looks F = one Transfer
k19_looks _ = nothing

abbrev pub k20_looks : Letter → Looks
k20_looks A = one Issue
k20_looks B = two Issue MemoryWrite
k20_looks _ = nothing

abbrev pub k21_looks : Letter → Looks
k21_looks A = one Issue
k21_looks B = two Issue Grant
k21_looks C = one Issue
k21_looks _ = nothing

abbrev pub k23_looks : Letter → Looks
k23_looks A = two Transfer State
k23_looks B = one Issue
k23_looks _ = nothing

abbrev pub k24_looks : Letter → Looks
k24_looks B = one Issue
k24_looks C = one PassedDirty
k24_looks D = one Transfer
k24_looks E = one Sent
k24_looks F = one Issue
k24_looks G = two Grant Unanswered
k24_looks H = one OwnWrite
k24_looks I = one PassedDirty
k24_looks _ = nothing

abbrev pub k25_looks : Letter → Looks
k25_looks A = one PassedDirty
k25_looks B = one Sent
k25_looks C = two Sent PassedDirty
k25_looks D = one Sent
k25_looks _ = nothing

abbrev pub k26_looks : Letter → Looks
k26_looks B = one Issue
k26_looks C = one Issue
k26_looks _ = nothing

abbrev pub k28_looks : Letter → Looks
k28_looks A = two Issue State
k28_looks _ = nothing

abbrev pub k29_looks : Letter → Looks
k29_looks A = one State
k29_looks B = one Issue
k29_looks _ = nothing

abbrev pub k30_looks : Letter → Looks
k30_looks A = one State
k30_looks _ = nothing

abbrev pub k31_looks : Letter → Looks
k31_looks A = one Store
k31_looks _ = nothing

abbrev pub k32_looks : Letter → Looks
k32_looks A = one State
k32_looks B = one Issue
k32_looks C = one Store
k32_looks D = one Issue
k32_looks E = one Issue
k32_looks _ = nothing

abbrev pub k33_looks : Letter → Looks
k33_looks C = two ExclusiveLoad ExclusiveStore
k33_looks D = two ExclusiveLoad Lost
k33_looks _ = nothing

-- of rules 24 to 33
abbrev pub later_looks : ℕ → Letter → Looks
later_looks rule letter =
    if rule == 24 then k24_looks letter
    else (if rule == 25 then k25_looks letter
    else (if rule == 26 then k26_looks letter
    else (if rule == 28 then k28_looks letter
    else (if rule == 29 then k29_looks letter
    else (if rule == 30 then k30_looks letter
    else (if rule == 31 then k31_looks letter
    else (if rule == 32 then k32_looks letter
    else (if rule == 33 then k33_looks letter
    else nothing))))))))

-- of rules 15 to 33
abbrev pub middle_looks : ℕ → Letter → Looks
middle_looks rule letter =
    if rule == 15 then k15_looks letter
    else (if rule == 16 then k16_looks letter
    else (if rule == 17 then k17_looks letter
    else (if rule == 18 then k18_looks letter
    else (if rule == 19 then k19_looks letter
    else (if rule == 20 then k20_looks letter
    else (if rule == 21 then k21_looks letter
    else (if rule == 23 then k23_looks letter
    else later_looks rule letter)))))))

-- what is looked for where the clause of the rule is broken
abbrev pub looks_of : ℕ → Letter → Looks
looks_of rule letter =
    if rule == 5 then k5_looks letter
    else (if rule == 6 then k6_looks letter
    else (if rule == 8 then k8_looks letter
    else (if rule == 11 then k11_looks letter
    else (if rule == 12 then k12_looks letter
    else (if rule == 13 then k13_looks letter
    else middle_looks rule letter)))))
