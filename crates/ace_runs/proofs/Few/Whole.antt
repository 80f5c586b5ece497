-- All events of a trace, sort by sort, and their bound.
use Rattle.std.proofs.Common.{◌≡◌, ℕ, ◌+◌, [], ◌∷◌, length, refl, arith}
use Rattle.ace_event.specs.declared.event.Event.TheVariants.{Ar, R, Rk, Aw, W, B, Wk, Ac, Cr, Cd, G, M, S, L, D, Op, Mem}
use Rattle.ace_model.specs.Trace.{Trace}
use Rattle.ace_runs.specs.Acts.{is_load_or_store}
use Rattle.ace_runs.specs.Counts.{counted, issues, is_transfer, acknowledges_read, is_write_beat, is_response, acknowledges_write, is_snoop, is_answer, is_snoop_beat, is_grant, writes_memory, is_silent, is_retirement, sets_memory}

-- what a port does with its transactions, what the interconnect does, and what a port does with lines
abbrev pub of_ports : Trace → ℕ
of_ports past =
    counted issues past + counted is_transfer past + counted acknowledges_read past + counted is_write_beat past + counted is_response past + counted acknowledges_write past

abbrev pub of_snoops : Trace → ℕ
of_snoops past = counted is_snoop past + counted is_answer past + counted is_snoop_beat past + counted is_grant past + counted writes_memory past

abbrev pub of_lines : Trace → ℕ
of_lines past = counted is_silent past + counted is_load_or_store past + counted is_retirement past + counted sets_memory past

pub all-sorts : (past : Trace) → length past ≡ of_ports past + of_snoops past + of_lines past
all-sorts [] = refl
all-sorts (Ar p i addr snoop dom bar lock ∷ past) = let rest = all-sorts past in omega (arith, rest)
all-sorts (R p i resp last word ∷ past) = let rest = all-sorts past in omega (arith, rest)
all-sorts (Rk p st ∷ past) = let rest = all-sorts past in omega (arith, rest)
all-sorts (Aw p i addr snoop dom bar ∷ past) = let rest = all-sorts past in omega (arith, rest)
all-sorts (W p strb last word ∷ past) = let rest = all-sorts past in omega (arith, rest)
all-sorts (B p i resp ∷ past) = let rest = all-sorts past in omega (arith, rest)
all-sorts (Wk p st ∷ past) = let rest = all-sorts past in omega (arith, rest)
all-sorts (Ac p addr snoop ∷ past) = let rest = all-sorts past in omega (arith, rest)
all-sorts (Cr p resp st ∷ past) = let rest = all-sorts past in omega (arith, rest)
all-sorts (Cd p last word ∷ past) = let rest = all-sorts past in omega (arith, rest)
all-sorts (G p c i ∷ past) = let rest = all-sorts past in omega (arith, rest)
all-sorts (M p c i line ∷ past) = let rest = all-sorts past in omega (arith, rest)
all-sorts (S p addr st ∷ past) = let rest = all-sorts past in omega (arith, rest)
all-sorts (L p addr w x word ∷ past) = let rest = all-sorts past in omega (arith, rest)
all-sorts (D p addr strobe x line ∷ past) = let rest = all-sorts past in omega (arith, rest)
all-sorts (Op p k res ∷ past) = let rest = all-sorts past in omega (arith, rest)
all-sorts (Mem addr line ∷ past) = let rest = all-sorts past in omega (arith, rest)
