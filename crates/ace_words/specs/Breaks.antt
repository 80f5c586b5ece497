-- What is wrong where a clause is broken: no text for a rule or clause that there isn't.
use Rattle.std.specs.Prelude.{ℕ, ◌==◌, if◌then◌else◌, List, []}
use Rattle.ace_clauses.specs.declared.letters.Letter.{Letter}
use Rattle.ace_words.specs.AddressBreaks.{k1_broken, k2_broken, k3_broken, k4_broken, k5_broken, k6_broken, k7_broken, k8_broken, k9_broken, k10_broken}
use Rattle.ace_words.specs.SnoopBreaks.{k11_broken, k12_broken, k13_broken, k14_broken, k15_broken, k16_broken, k17_broken}
use Rattle.ace_words.specs.ReadBreaks.{k18_broken, k19_broken, k20_broken, k21_broken, k22_broken, k23_broken}
use Rattle.ace_words.specs.WriteBreaks.{k24_broken, k25_broken, k26_broken, k27_broken, k28_broken}
use Rattle.ace_words.specs.CacheBreaks.{k29_broken, k30_broken, k31_broken, k32_broken, k33_broken}
use Rattle.ace_words.specs.OrderBreaks.{k34_broken, k35_broken, k36_broken, k37_broken, k38_broken, k39_broken, k40_broken}

-- rules 34 to 40
abbrev pub order_broken : ℕ → Letter → List ℕ
order_broken rule letter =
    if rule == 34 then k34_broken letter
    else (if rule == 35 then k35_broken letter
    else (if rule == 36 then k36_broken letter
    else (if rule == 37 then k37_broken letter
    else (if rule == 38 then k38_broken letter
    else (if rule == 39 then k39_broken letter
    else (if rule == 40 then k40_broken letter
    else []))))))

-- rules 29 to 40
abbrev pub cache_broken : ℕ → Letter → List ℕ
cache_broken rule letter =
    if rule == 29 then k29_broken letter
    else (if rule == 30 then k30_broken letter
    else (if rule == 31 then k31_broken letter
    else (if rule == 32 then k32_broken letter
    else (if rule == 33 then k33_broken letter
    else order_broken rule letter))))

-- rules 24 to 40
abbrev pub write_broken : ℕ → Letter → List ℕ
write_broken rule letter =
    if rule == 24 then k24_broken letter
    else (if rule == 25 then k25_broken letter
    else (if rule == 26 then k26_broken letter
    else (if rule == 27 then k27_broken letter
    else (if rule == 28 then k28_broken letter
    else cache_broken rule letter))))

-- rules 18 to 40
abbrev pub read_broken : ℕ → Letter → List ℕ
read_broken rule letter =
    if rule == 18 then k18_broken letter
    else (if rule == 19 then k19_broken letter
    else (if rule == 20 then k20_broken letter
    else (if rule == 21 then k21_broken letter
    else (if rule == 22 then k22_broken letter
    else (if rule == 23 then k23_broken letter
    else write_broken rule letter)))))

-- rules 11 to 40
abbrev pub snoop_broken : ℕ → Letter → List ℕ
snoop_broken rule letter =
    if rule == 11 then k11_broken letter
    else (if rule == 12 then k12_broken letter
    else (if rule == 13 then k13_broken letter
    else (if rule == 14 then k14_broken letter
    else (if rule == 15 then k15_broken letter
    else (if rule == 16 then k16_broken letter
    else (if rule == 17 then k17_broken letter
    else read_broken rule letter))))))

-- rules 1 to 40
abbrev pub address_broken : ℕ → Letter → List ℕ
address_broken rule letter =
    if rule == 1 then k1_broken letter
    else (if rule == 2 then k2_broken letter
    else (if rule == 3 then k3_broken letter
    else (if rule == 4 then k4_broken letter
    else (if rule == 5 then k5_broken letter
    else (if rule == 6 then k6_broken letter
    else (if rule == 7 then k7_broken letter
    else (if rule == 8 then k8_broken letter
    else (if rule == 9 then k9_broken letter
    else (if rule == 10 then k10_broken letter
    else snoop_broken rule letter)))))))))

-- what is wrong where the clause of a rule, 1 to 40, is broken: a sentence without its full stop
abbrev pub wrong_with : ℕ → Letter → List ℕ
wrong_with rule letter = address_broken rule letter
