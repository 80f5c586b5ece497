-- What the reader makes of a line: by its record word, and then field by field.
use Rattle.std.specs.Prelude.{ℕ, ◌-◌, ◌^◌, ◌==◌, Bool, if◌then◌else◌, List, [], ◌∷◌, Option, None}
use Rattle.std.specs.Option.{option_map}
use Rattle.ace_codes.specs.declared.state.LineState.{LineState}
use Rattle.ace_event.specs.declared.line.Line.{Line}
use Rattle.ace_event.specs.declared.event.Channel.{Channel}
use Rattle.ace_event.specs.declared.event.Outcome.{Outcome}
use Rattle.ace_event.specs.declared.event.Event.{Event}
use Rattle.ace_event.specs.declared.event.Event.TheVariants.{Ar, R, Rk, Aw, W, B, Wk, Ac, Cr, Cd, G, M, S, L, D, Op, Mem}
use Rattle.ace_grammar.specs.Fields.{◌▹◌, whole, number_at, port_at, flag_at, channel_at, state_at, outcome_at, line_at}

abbrev pub ArFields : Type 0
ArFields = ℕ × (ℕ × (ℕ × (ℕ × (ℕ × (ℕ × Bool)))))

unfoldable pub ar_fields : ℕ → List ℕ → Option ArFields
ar_fields version =
    port_at version ▹ number_at 1 15 ▹ number_at 8 0xffff_ffff ▹ number_at 1 15
    ▹ number_at 1 3 ▹ number_at 1 3 ▹ whole flag_at

abbrev pub ar_event : ArFields → Event
ar_event f = Ar f.0 f.1.0 f.1.1.0 f.1.1.1.0 f.1.1.1.1.0 f.1.1.1.1.1.0 f.1.1.1.1.1.1

abbrev pub RFields : Type 0
RFields = ℕ × (ℕ × (ℕ × (Bool × ℕ)))

unfoldable pub r_fields : ℕ → List ℕ → Option RFields
r_fields version =
    port_at version ▹ number_at 1 15 ▹ number_at 1 15 ▹ flag_at ▹ whole (number_at 32 (2 ^ 128 - 1))

abbrev pub r_event : RFields → Event
r_event f = R f.0 f.1.0 f.1.1.0 f.1.1.1.0 f.1.1.1.1

abbrev pub RkFields : Type 0
RkFields = ℕ × LineState

unfoldable pub rk_fields : ℕ → List ℕ → Option RkFields
rk_fields version = port_at version ▹ state_at

abbrev pub rk_event : RkFields → Event
rk_event f = Rk f.0 f.1

abbrev pub AwFields : Type 0
AwFields = ℕ × (ℕ × (ℕ × (ℕ × (ℕ × ℕ))))

unfoldable pub aw_fields : ℕ → List ℕ → Option AwFields
aw_fields version =
    port_at version ▹ number_at 1 15 ▹ number_at 8 0xffff_ffff ▹ number_at 1 7
    ▹ number_at 1 3 ▹ whole (number_at 1 3)

abbrev pub aw_event : AwFields → Event
aw_event f = Aw f.0 f.1.0 f.1.1.0 f.1.1.1.0 f.1.1.1.1.0 f.1.1.1.1.1

abbrev pub WFields : Type 0
WFields = ℕ × (ℕ × (Bool × ℕ))

unfoldable pub w_fields : ℕ → List ℕ → Option WFields
w_fields version =
    port_at version ▹ number_at 4 0xffff ▹ flag_at ▹ whole (number_at 32 (2 ^ 128 - 1))

abbrev pub w_event : WFields → Event
w_event f = W f.0 f.1.0 f.1.1.0 f.1.1.1

abbrev pub BFields : Type 0
BFields = ℕ × (ℕ × ℕ)

unfoldable pub b_fields : ℕ → List ℕ → Option BFields
b_fields version = port_at version ▹ number_at 1 15 ▹ whole (number_at 1 3)

abbrev pub b_event : BFields → Event
b_event f = B f.0 f.1.0 f.1.1

abbrev pub WkFields : Type 0
WkFields = ℕ × LineState

unfoldable pub wk_fields : ℕ → List ℕ → Option WkFields
wk_fields version = port_at version ▹ state_at

abbrev pub wk_event : WkFields → Event
wk_event f = Wk f.0 f.1

abbrev pub AcFields : Type 0
AcFields = ℕ × (ℕ × ℕ)

unfoldable pub ac_fields : ℕ → List ℕ → Option AcFields
ac_fields version = port_at version ▹ number_at 8 0xffff_ffff ▹ whole (number_at 1 15)

abbrev pub ac_event : AcFields → Event
ac_event f = Ac f.0 f.1.0 f.1.1

abbrev pub CrFields : Type 0
CrFields = ℕ × (ℕ × LineState)

unfoldable pub cr_fields : ℕ → List ℕ → Option CrFields
cr_fields version = port_at version ▹ number_at 2 0x1f ▹ state_at

abbrev pub cr_event : CrFields → Event
cr_event f = Cr f.0 f.1.0 f.1.1

abbrev pub CdFields : Type 0
CdFields = ℕ × (Bool × ℕ)

unfoldable pub cd_fields : ℕ → List ℕ → Option CdFields
cd_fields version = port_at version ▹ flag_at ▹ whole (number_at 32 (2 ^ 128 - 1))

abbrev pub cd_event : CdFields → Event
cd_event f = Cd f.0 f.1.0 f.1.1

abbrev pub GFields : Type 0
GFields = ℕ × (Channel × ℕ)

unfoldable pub g_fields : ℕ → List ℕ → Option GFields
g_fields version = port_at version ▹ channel_at ▹ whole (number_at 1 15)

abbrev pub g_event : GFields → Event
g_event f = G f.0 f.1.0 f.1.1

abbrev pub MFields : Type 0
MFields = ℕ × (Channel × (ℕ × Line))

unfoldable pub m_fields : ℕ → List ℕ → Option MFields
m_fields version = port_at version ▹ channel_at ▹ number_at 1 15 ▹ line_at

abbrev pub m_event : MFields → Event
m_event f = M f.0 f.1.0 f.1.1.0 f.1.1.1

abbrev pub SFields : Type 0
SFields = ℕ × (ℕ × LineState)

unfoldable pub s_fields : ℕ → List ℕ → Option SFields
s_fields version = port_at version ▹ number_at 8 0xffff_ffff ▹ state_at

abbrev pub s_event : SFields → Event
s_event f = S f.0 f.1.0 f.1.1

abbrev pub LFields : Type 0
LFields = ℕ × (ℕ × (ℕ × (Bool × ℕ)))

unfoldable pub l_fields : ℕ → List ℕ → Option LFields
l_fields version =
    port_at version ▹ number_at 8 0xffff_ffff ▹ number_at 1 3 ▹ flag_at
    ▹ whole (number_at 32 (2 ^ 128 - 1))

abbrev pub l_event : LFields → Event
l_event f = L f.0 f.1.0 f.1.1.0 f.1.1.1.0 f.1.1.1.1

abbrev pub DFields : Type 0
DFields = ℕ × (ℕ × (ℕ × (Bool × Line)))

unfoldable pub d_fields : ℕ → List ℕ → Option DFields
d_fields version =
    port_at version ▹ number_at 8 0xffff_ffff ▹ number_at 16 0xffff_ffff_ffff_ffff
    ▹ flag_at ▹ line_at

abbrev pub d_event : DFields → Event
d_event f = D f.0 f.1.0 f.1.1.0 f.1.1.1.0 f.1.1.1.1

abbrev pub OpFields : Type 0
OpFields = ℕ × (ℕ × Outcome)

unfoldable pub op_fields : ℕ → List ℕ → Option OpFields
op_fields version = port_at version ▹ number_at 4 0xffff ▹ outcome_at

abbrev pub op_event : OpFields → Event
op_event f = Op f.0 f.1.0 f.1.1

abbrev pub MemFields : Type 0
MemFields = ℕ × Line

unfoldable pub mem_fields : List ℕ → Option MemFields
mem_fields = number_at 8 0xffff_ffff ▹ line_at

abbrev pub mem_event : MemFields → Event
mem_event f = Mem f.0 f.1

-- the records whose words begin with A, behind that letter
unfoldable pub a_at : ℕ → List ℕ → Option Event
a_at version [] = None
a_at version (letter ∷ bytes) =
    if letter == 67 then option_map ac_event (ac_fields version bytes)
    else (if letter == 82 then option_map ar_event (ar_fields version bytes)
    else (if letter == 87 then option_map aw_event (aw_fields version bytes) else None))

-- with C
unfoldable pub c_at : ℕ → List ℕ → Option Event
c_at version [] = None
c_at version (letter ∷ bytes) =
    if letter == 68 then option_map cd_event (cd_fields version bytes)
    else (if letter == 82 then option_map cr_event (cr_fields version bytes) else None)

-- MEM, which version 1 doesn't have, behind its E
unfoldable pub e_at : ℕ → List ℕ → Option Event
e_at version [] = None
e_at version (letter ∷ bytes) =
    if version == 1 then None else (if letter == 77 then option_map mem_event (mem_fields bytes)
    else None)

-- with M
unfoldable pub m_at : ℕ → List ℕ → Option Event
m_at version [] = option_map m_event (m_fields version [])
m_at version (letter ∷ bytes) =
    if letter == 69 then e_at version bytes
    else option_map m_event (m_fields version (letter ∷ bytes))

-- with O
unfoldable pub o_at : ℕ → List ℕ → Option Event
o_at version [] = None
o_at version (letter ∷ bytes) =
    if letter == 80 then option_map op_event (op_fields version bytes) else None

-- with R
unfoldable pub r_at : ℕ → List ℕ → Option Event
r_at version [] = option_map r_event (r_fields version [])
r_at version (letter ∷ bytes) =
    if letter == 75 then option_map rk_event (rk_fields version bytes)
    else option_map r_event (r_fields version (letter ∷ bytes))

-- with W
unfoldable pub w_at : ℕ → List ℕ → Option Event
w_at version [] = option_map w_event (w_fields version [])
w_at version (letter ∷ bytes) =
    if letter == 75 then option_map wk_event (wk_fields version bytes)
    else option_map w_event (w_fields version (letter ∷ bytes))

-- all records of a version
unfoldable pub event_at : ℕ → List ℕ → Option Event
event_at version [] = None
event_at version (letter ∷ bytes) =
    if letter == 65 then a_at version bytes
    else (if letter == 66 then option_map b_event (b_fields version bytes)
    else (if letter == 67 then c_at version bytes
    else (if letter == 68 then option_map d_event (d_fields version bytes)
    else (if letter == 71 then option_map g_event (g_fields version bytes)
    else (if letter == 76 then option_map l_event (l_fields version bytes)
    else (if letter == 77 then m_at version bytes
    else (if letter == 79 then o_at version bytes
    else (if letter == 82 then r_at version bytes
    else (if letter == 83 then option_map s_event (s_fields version bytes)
    else (if letter == 87 then w_at version bytes else None))))))))))
