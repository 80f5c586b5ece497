-- The titles of the rules, and where their clauses are kept: no text for a rule or clause that
-- there isn't.
use Rattle.std.specs.Prelude.{ℕ, ◌==◌, if◌then◌else◌, List, [], codes}
use Rattle.ace_clauses.specs.declared.letters.Letter.{Letter}
use Rattle.ace_words.specs.AddressSentences.{k1_kept, k2_kept, k3_kept, k4_kept, k5_kept, k6_kept, k7_kept, k8_kept, k9_kept, k10_kept}
use Rattle.ace_words.specs.SnoopSentences.{k11_kept, k12_kept, k13_kept, k14_kept, k15_kept, k16_kept, k17_kept}
use Rattle.ace_words.specs.ReadSentences.{k18_kept, k19_kept, k20_kept, k21_kept, k22_kept, k23_kept}
use Rattle.ace_words.specs.WriteSentences.{k24_kept, k25_kept, k26_kept, k27_kept, k28_kept}
use Rattle.ace_words.specs.CacheSentences.{k29_kept, k30_kept, k31_kept, k32_kept, k33_kept}
use Rattle.ace_words.specs.OrderSentences.{k34_kept, k35_kept, k36_kept, k37_kept, k38_kept, k39_kept, k40_kept}

-- rules 34 to 40
abbrev pub order_title : ℕ → List ℕ
order_title rule =
    if rule == 34 then codes "a barrier is answered in time"
    else (if rule == 35 then codes "a barrier holds back"
    else (if rule == 36 then codes "messages arrive in order"
    else (if rule == 37 then codes "a message is answered by all"
    else (if rule == 38 then codes "a completion has a Sync"
    else (if rule == 39 then codes "a Sync is completed by all"
    else (if rule == 40 then codes "operations retire in order"
    else []))))))

abbrev pub order_kept : ℕ → Letter → List ℕ
order_kept rule letter =
    if rule == 34 then k34_kept letter
    else (if rule == 35 then k35_kept letter
    else (if rule == 36 then k36_kept letter
    else (if rule == 37 then k37_kept letter
    else (if rule == 38 then k38_kept letter
    else (if rule == 39 then k39_kept letter
    else (if rule == 40 then k40_kept letter
    else []))))))

-- rules 29 to 40
abbrev pub cache_title : ℕ → List ℕ
cache_title rule =
    if rule == 29 then codes "a silent transition is one"
    else (if rule == 30 then codes "a load hits"
    else (if rule == 31 then codes "a load gives what is there"
    else (if rule == 32 then codes "a store has the line alone"
    else (if rule == 33 then codes "an exclusive store has a monitor"
    else order_title rule))))

abbrev pub cache_kept : ℕ → Letter → List ℕ
cache_kept rule letter =
    if rule == 29 then k29_kept letter
    else (if rule == 30 then k30_kept letter
    else (if rule == 31 then k31_kept letter
    else (if rule == 32 then k32_kept letter
    else (if rule == 33 then k33_kept letter
    else order_kept rule letter))))

-- rules 24 to 40
abbrev pub write_title : ℕ → List ℕ
write_title rule =
    if rule == 24 then codes "memory is written for something"
    else (if rule == 25 then codes "memory gets the right line"
    else (if rule == 26 then codes "a response has a write"
    else (if rule == 27 then codes "a write acknowledge has a write"
    else (if rule == 28 then codes "a write ends in an end state"
    else cache_title rule))))

abbrev pub write_kept : ℕ → Letter → List ℕ
write_kept rule letter =
    if rule == 24 then k24_kept letter
    else (if rule == 25 then k25_kept letter
    else (if rule == 26 then k26_kept letter
    else (if rule == 27 then k27_kept letter
    else (if rule == 28 then k28_kept letter
    else cache_kept rule letter))))

-- rules 18 to 40
abbrev pub read_title : ℕ → List ℕ
read_title rule =
    if rule == 18 then codes "a transfer is due"
    else (if rule == 19 then codes "PassDirty and IsShared are right"
    else (if rule == 20 then codes "the data are those of the reply"
    else (if rule == 21 then codes "EXOKAY where it is true"
    else (if rule == 22 then codes "a read acknowledge has a read"
    else (if rule == 23 then codes "a read ends in an end state"
    else write_title rule)))))

abbrev pub read_kept : ℕ → Letter → List ℕ
read_kept rule letter =
    if rule == 18 then k18_kept letter
    else (if rule == 19 then k19_kept letter
    else (if rule == 20 then k20_kept letter
    else (if rule == 21 then k21_kept letter
    else (if rule == 22 then k22_kept letter
    else (if rule == 23 then k23_kept letter
    else write_kept rule letter)))))

-- rules 11 to 40
abbrev pub snoop_title : ℕ → List ℕ
snoop_title rule =
    if rule == 11 then codes "write data have a write"
    else (if rule == 12 then codes "one grant for a line"
    else (if rule == 13 then codes "a snoop has a reason"
    else (if rule == 14 then codes "an answer has a snoop"
    else (if rule == 15 then codes "an answer fits the state"
    else (if rule == 16 then codes "an answer respects an update"
    else (if rule == 17 then codes "snoop data are those of the answer"
    else read_title rule))))))

abbrev pub snoop_kept : ℕ → Letter → List ℕ
snoop_kept rule letter =
    if rule == 11 then k11_kept letter
    else (if rule == 12 then k12_kept letter
    else (if rule == 13 then k13_kept letter
    else (if rule == 14 then k14_kept letter
    else (if rule == 15 then k15_kept letter
    else (if rule == 16 then k16_kept letter
    else (if rule == 17 then k17_kept letter
    else read_kept rule letter))))))

-- rules 1 to 40
abbrev pub address_title : ℕ → List ℕ
address_title rule =
    if rule == 1 then codes "the port has this record"
    else (if rule == 2 then codes "the codes mean something"
    else (if rule == 3 then codes "the address is that of a line"
    else (if rule == 4 then codes "an identifier is free"
    else (if rule == 5 then codes "one transaction of a port on a line"
    else (if rule == 6 then codes "it starts from a start state"
    else (if rule == 7 then codes "what may be exclusive"
    else (if rule == 8 then codes "a line is shareable or not"
    else (if rule == 9 then codes "barriers and messages are well formed"
    else (if rule == 10 then codes "updates and streaming writes keep apart"
    else snoop_title rule)))))))))

abbrev pub address_kept : ℕ → Letter → List ℕ
address_kept rule letter =
    if rule == 1 then k1_kept letter
    else (if rule == 2 then k2_kept letter
    else (if rule == 3 then k3_kept letter
    else (if rule == 4 then k4_kept letter
    else (if rule == 5 then k5_kept letter
    else (if rule == 6 then k6_kept letter
    else (if rule == 7 then k7_kept letter
    else (if rule == 8 then k8_kept letter
    else (if rule == 9 then k9_kept letter
    else (if rule == 10 then k10_kept letter
    else snoop_kept rule letter)))))))))

-- the title of a rule, 1 to 40
abbrev pub rule_title : ℕ → List ℕ
rule_title rule = address_title rule

-- where the clause of a rule is kept, a sentence without its full stop
abbrev pub kept_where : ℕ → Letter → List ℕ
kept_where rule letter = address_kept rule letter
