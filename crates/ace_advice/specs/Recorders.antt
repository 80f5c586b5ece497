-- What to look at in a recorder where a rule is broken early in a trace: what `docs/RECORDING.md`
-- says.
use Rattle.std.specs.Prelude.{ℕ, ◌==◌, if◌then◌else◌, List, [], codes}

-- rules 34 to 40
abbrev pub order_recorder : ℕ → List ℕ
order_recorder rule =
    if rule == 40 then codes "look first at OP records that are written although there is no script"
    else []

-- rules 29 to 40
abbrev pub cache_recorder : ℕ → List ℕ
cache_recorder rule =
    if rule == 29 then codes "look first at the states: read before they changed, or one event late"
    else (if rule == 30 then codes "look first at loads out of a buffer before their RK"
    else (if rule == 31 then codes "look first at loads out of a buffer before their RK"
    else order_recorder rule))

-- rules 24 to 40
abbrev pub write_recorder : ℕ → List ℕ
write_recorder rule =
    if rule == 24 then codes
    "look first at an M that is missing, or that has the strobed bytes alone"
    else (if rule == 25 then codes
    "look first at an M that is missing, or that has the strobed bytes alone"
    else (if rule == 26 then codes
    "look first at an M that is missing, or that has the strobed bytes alone"
    else cache_recorder rule))

-- rules 18 to 40
abbrev pub read_recorder : ℕ → List ℕ
read_recorder rule =
    if rule == 18 then codes "look first at a G that is missing, or behind the AC"
    else (if rule == 20 then codes
    "look first at an M that was recorded late, or a D that is missing"
    else (if rule == 23 then codes
    "look first at the states: read before they changed, or one event late"
    else write_recorder rule))

-- rules 11 to 40
abbrev pub snoop_recorder : ℕ → List ℕ
snoop_recorder rule =
    if rule == 11 then codes
    "look first at W written before its AW, CD before its CR, or last a beat early"
    else (if rule == 12 then codes "look first at an RK behind the next G"
    else (if rule == 13 then codes "look first at a G that is missing, or behind the AC"
    else (if rule == 15 then codes
    "look first at the states: read before they changed, or one event late"
    else (if rule == 17 then codes
    "look first at W written before its AW, CD before its CR, or last a beat early"
    else read_recorder rule))))

-- the text for a rule: none where there is no such rule, or nothing is told of it
abbrev pub in_a_recorder : ℕ → List ℕ
in_a_recorder rule =
    if rule == 4 then codes "look first at a missing RK or WK: RACK or WACK is a pulse of one cycle"
    else (if rule == 5 then codes
    "look first at a missing RK or WK: RACK or WACK is a pulse of one cycle"
    else (if rule == 6 then codes
    "look first at the states: read before they changed, or one event late"
    else snoop_recorder rule))
