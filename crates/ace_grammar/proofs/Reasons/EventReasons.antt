-- Fields have no reason exactly where they are those of an event in range.
use Rattle.std.proofs.Common.{◌≡◌, ◌≢◌, ℕ, Bool, true, false, cond, eqb, List, [], ◌∷◌, Option, Some, None, refl, sym, ap, subst, ◌∙◌, arith, inl, inr}
use Rattle.std.specs.Prelude.{codes}
use Rattle.std.specs.List.{AllByRecursion}
use Rattle.std.specs.Str.{bytes_eq}
use Rattle.std.specs.Map.{lookup}
use Rattle.std.proofs.lemmas.Bool.{cases_Bool, eqb-false, ne_eqb, cond-false}
use Rattle.std.proofs.lemmas.Slice.Eq.{bytes_eq-Decides}
use Rattle.ace_event.specs.declared.event.Event.{Event}
use Rattle.ace_event.specs.declared.event.Event.TheVariants.{Ar, R, Rk, Aw, W, B, Wk, Ac, Cr, Cd, G, M, S, L, D, Op, Mem}
use Rattle.ace_event.specs.Range.{InRange}
use Rattle.ace_event.specs.Text.{hex_text, line_digits, fields}
use Rattle.ace_grammar.specs.declared.reason.Reason.TheVariants.{F2}
use Rattle.ace_grammar.specs.declared.shapes.Shape.{Shape}
use Rattle.ace_grammar.specs.Reasons.{fields_reason, record_reason, line_reason}
use Rattle.ace_grammar.specs.Shapes.{records, mem_record}
use Rattle.ace_grammar.specs.Records.{ar_event, r_event, rk_event, aw_event, w_event, b_event, wk_event, ac_event, cr_event, cd_event, g_event, m_event, s_event, l_event, d_event, op_event, mem_event}
use Rattle.ace_grammar.proofs.Reasons.Rows.{Row, ar, r, rk, aw, w, b, wk, ac, cr, cd, g, m, s, l, d, op, mem}
use Rattle.ace_grammar.proofs.General.Visible.{IsVisible}
use Rattle.ace_grammar.proofs.Reasons.FieldKinds.{some_isn't_none}

-- the fields of an event in range
abbrev pub AreOfEvent : ℕ → List (List ℕ) → Type 0
AreOfEvent version line_fields = (event : Event) × InRange version event × (fields version event ≡ line_fields)

-- the records of a version, by whether it is version 1
abbrev by_version : Bool → List (List ℕ × List Shape)
by_version one = cond one records (mem_record ∷ records)

row_decodes : {F : Type 0} (version : ℕ) (row : Row version F) (make : F → Event) (word : List ℕ) → ((f : F) → row.IsIn f → InRange version (make f) × (fields version (make f) ≡ word ∷ row.texts f))
    → (rest : List (List ℕ)) → fields_reason version row.shapes rest ≡ None → AreOfEvent version (word ∷ rest)
row_decodes version row make word makes rest e =
    let f = row.decode rest e in
    let made = makes f.0 f.1 in
    (make f.0, made.0, made.1 ∙ ap (λ (l : List (List ℕ)). word ∷ l) (sym f.2))

by_word : (version : ℕ) (word known : List ℕ) (shapes : List Shape) (other : Option (List Shape)) (rest : List (List ℕ)) → (fields_reason version shapes rest ≡ None → AreOfEvent version (known ∷ rest))
    → (record_reason version other rest ≡ None → AreOfEvent version (word ∷ rest)) → record_reason version (cond (bytes_eq word known) (Some shapes) other) rest ≡ None → AreOfEvent version (word ∷ rest)
by_word version word known shapes other rest told else_told e =
    elim (cases_Bool (bytes_eq word known)) [
      | inl p ↦
          subst (λ (w : List ℕ). AreOfEvent version (w ∷ rest)) (sym ((bytes_eq-Decides word known).0 p))
          (told (sym (ap (λ b. record_reason version (cond b (Some shapes) other) rest) p) ∙ e))
      | inr q ↦ else_told (sym (ap (λ b. record_reason version (cond b (Some shapes) other) rest) q) ∙ e)
    ]

ar_decodes : (version : ℕ) (rest : List (List ℕ)) → fields_reason version (ar version).shapes rest ≡ None → AreOfEvent version (codes "AR" ∷ rest)
ar_decodes version = row_decodes version (ar version) ar_event (codes "AR") (λ f h. ((h.0, omega (arith, h.1.0), omega (arith, h.1.1.0), omega (arith, h.1.1.1.0), h.1.1.1.1.0, h.1.1.1.1.1.0), refl))

r_decodes : (version : ℕ) (rest : List (List ℕ)) → fields_reason version (r version).shapes rest ≡ None → AreOfEvent version (codes "R" ∷ rest)
r_decodes version = row_decodes version (r version) r_event (codes "R") (λ f h. ((h.0, omega (arith, h.1.0), omega (arith, h.1.1.0), omega (arith, h.1.1.1.1)), refl))

rk_decodes : (version : ℕ) (rest : List (List ℕ)) → fields_reason version (rk version).shapes rest ≡ None → AreOfEvent version (codes "RK" ∷ rest)
rk_decodes version = row_decodes version (rk version) rk_event (codes "RK") (λ f h. (h.0, refl))

aw_decodes : (version : ℕ) (rest : List (List ℕ)) → fields_reason version (aw version).shapes rest ≡ None → AreOfEvent version (codes "AW" ∷ rest)
aw_decodes version = row_decodes version (aw version) aw_event (codes "AW") (λ f h. ((h.0, omega (arith, h.1.0), omega (arith, h.1.1.0), h.1.1.1.0, h.1.1.1.1.0, h.1.1.1.1.1), refl))

w_decodes : (version : ℕ) (rest : List (List ℕ)) → fields_reason version (w version).shapes rest ≡ None → AreOfEvent version (codes "W" ∷ rest)
w_decodes version = row_decodes version (w version) w_event (codes "W") (λ f h. ((h.0, omega (arith, h.1.0), omega (arith, h.1.1.1)), refl))

b_decodes : (version : ℕ) (rest : List (List ℕ)) → fields_reason version (b version).shapes rest ≡ None → AreOfEvent version (codes "B" ∷ rest)
b_decodes version = row_decodes version (b version) b_event (codes "B") (λ f h. ((h.0, omega (arith, h.1.0), h.1.1), refl))

wk_decodes : (version : ℕ) (rest : List (List ℕ)) → fields_reason version (wk version).shapes rest ≡ None → AreOfEvent version (codes "WK" ∷ rest)
wk_decodes version = row_decodes version (wk version) wk_event (codes "WK") (λ f h. (h.0, refl))

ac_decodes : (version : ℕ) (rest : List (List ℕ)) → fields_reason version (ac version).shapes rest ≡ None → AreOfEvent version (codes "AC" ∷ rest)
ac_decodes version = row_decodes version (ac version) ac_event (codes "AC") (λ f h. ((h.0, omega (arith, h.1.0), omega (arith, h.1.1)), refl))

cr_decodes : (version : ℕ) (rest : List (List ℕ)) → fields_reason version (cr version).shapes rest ≡ None → AreOfEvent version (codes "CR" ∷ rest)
cr_decodes version = row_decodes version (cr version) cr_event (codes "CR") (λ f h. ((h.0, h.1.0), refl))

cd_decodes : (version : ℕ) (rest : List (List ℕ)) → fields_reason version (cd version).shapes rest ≡ None → AreOfEvent version (codes "CD" ∷ rest)
cd_decodes version = row_decodes version (cd version) cd_event (codes "CD") (λ f h. ((h.0, omega (arith, h.1.1)), refl))

g_decodes : (version : ℕ) (rest : List (List ℕ)) → fields_reason version (g version).shapes rest ≡ None → AreOfEvent version (codes "G" ∷ rest)
g_decodes version = row_decodes version (g version) g_event (codes "G") (λ f h. ((h.0, omega (arith, h.1.1)), refl))

m_decodes : (version : ℕ) (rest : List (List ℕ)) → fields_reason version (m version).shapes rest ≡ None → AreOfEvent version (codes "M" ∷ rest)
m_decodes version = row_decodes version (m version) m_event (codes "M") (λ f h. ((h.0, omega (arith, h.1.1.0), h.1.1.1), refl))

s_decodes : (version : ℕ) (rest : List (List ℕ)) → fields_reason version (s version).shapes rest ≡ None → AreOfEvent version (codes "S" ∷ rest)
s_decodes version = row_decodes version (s version) s_event (codes "S") (λ f h. ((h.0, omega (arith, h.1.0)), refl))

l_decodes : (version : ℕ) (rest : List (List ℕ)) → fields_reason version (l version).shapes rest ≡ None → AreOfEvent version (codes "L" ∷ rest)
l_decodes version = row_decodes version (l version) l_event (codes "L") (λ f h. ((h.0, omega (arith, h.1.0), h.1.1.0, omega (arith, h.1.1.1.1)), refl))

d_decodes : (version : ℕ) (rest : List (List ℕ)) → fields_reason version (d version).shapes rest ≡ None → AreOfEvent version (codes "D" ∷ rest)
d_decodes version = row_decodes version (d version) d_event (codes "D") (λ f h. ((h.0, omega (arith, h.1.0), omega (arith, h.1.1.0), h.1.1.1.1), refl))

op_decodes : (version : ℕ) (rest : List (List ℕ)) → fields_reason version (op version).shapes rest ≡ None → AreOfEvent version (codes "OP" ∷ rest)
op_decodes version = row_decodes version (op version) op_event (codes "OP") (λ f h. ((h.0, omega (arith, h.1.0)), refl))

mem_decodes : (version : ℕ) → version ≢ 1 → (rest : List (List ℕ)) → fields_reason version (mem version).shapes rest ≡ None → AreOfEvent version (codes "MEM" ∷ rest)
mem_decodes version other = row_decodes version (mem version) mem_event (codes "MEM") (λ f h. ((other, omega (arith, h.0), h.1), refl))

-- the records of version 1
of_records : (version : ℕ) (word : List ℕ) (rest : List (List ℕ)) → record_reason version (lookup (bytes_eq word) records) rest ≡ None → AreOfEvent version (word ∷ rest)
of_records version word rest e =
    by_word version word (codes "AR") (ar version).shapes _ rest (ar_decodes version rest) (λ e.
    by_word version word (codes "R") (r version).shapes _ rest (r_decodes version rest) (λ e.
    by_word version word (codes "RK") (rk version).shapes _ rest (rk_decodes version rest) (λ e.
    by_word version word (codes "AW") (aw version).shapes _ rest (aw_decodes version rest) (λ e.
    by_word version word (codes "W") (w version).shapes _ rest (w_decodes version rest) (λ e.
    by_word version word (codes "B") (b version).shapes _ rest (b_decodes version rest) (λ e.
    by_word version word (codes "WK") (wk version).shapes _ rest (wk_decodes version rest) (λ e.
    by_word version word (codes "AC") (ac version).shapes _ rest (ac_decodes version rest) (λ e.
    by_word version word (codes "CR") (cr version).shapes _ rest (cr_decodes version rest) (λ e.
    by_word version word (codes "CD") (cd version).shapes _ rest (cd_decodes version rest) (λ e.
    by_word version word (codes "G") (g version).shapes _ rest (g_decodes version rest) (λ e.
    by_word version word (codes "M") (m version).shapes _ rest (m_decodes version rest) (λ e.
    by_word version word (codes "S") (s version).shapes _ rest (s_decodes version rest) (λ e.
    by_word version word (codes "L") (l version).shapes _ rest (l_decodes version rest) (λ e.
    by_word version word (codes "D") (d version).shapes _ rest (d_decodes version rest) (λ e.
    by_word version word (codes "OP") (op version).shapes _ rest (op_decodes version rest) (λ e.
    some_isn't_none F2 _ e
    ) e) e) e) e) e) e) e) e) e) e) e) e) e) e) e) e

-- without a reason, fields are those of an event
pub without_reason : (version : ℕ) (line_fields : List (List ℕ)) → line_reason version line_fields ≡ None → AreOfEvent version line_fields
without_reason version [] e = some_isn't_none F2 _ e
without_reason version (word ∷ rest) e =
    elim (cases_Bool (eqb version 1)) [
      | inl p ↦ of_records version word rest (sym (ap (λ b. record_reason version (lookup (bytes_eq word) (by_version b)) rest) p) ∙ e)
      | inr q ↦
          by_word version word (codes "MEM") (mem version).shapes _ rest (mem_decodes version (eqb-false version 1 q) rest) (of_records version word rest)
          (sym (ap (λ b. record_reason version (lookup (bytes_eq word) (by_version b)) rest) q) ∙ e)
    ]

-- a word of version 1 has the same shapes in each version
shapes_by : (one : Bool) (word : List ℕ) → bytes_eq word (codes "MEM") ≡ false → lookup (bytes_eq word) (by_version one) ≡ lookup (bytes_eq word) records
shapes_by true word other = refl
shapes_by false word other = cond-false (bytes_eq word (codes "MEM")) _ _ other

in_each : (version : ℕ) (word : List ℕ) (rest : List (List ℕ)) → bytes_eq word (codes "MEM") ≡ false → record_reason version (lookup (bytes_eq word) records) rest ≡ None
    → line_reason version (word ∷ rest) ≡ None
in_each version word rest other e = ap (λ (shapes : Option (List Shape)). record_reason version shapes rest) (shapes_by (eqb version 1) word other) ∙ e

-- and those of an event in range have none
pub event_without_reason : (version : ℕ) (event : Event) → InRange version event → line_reason version (fields version event) ≡ None
event_without_reason version (Ar port id addr snoop dom bar lock) h = in_each version (codes "AR") _ refl ((ar version).encode (port, (id, (addr, (snoop, (dom, (bar, lock)))))) (h.0, (omega (arith, h.1), (omega (arith, h.2), (omega (arith, h.3), (h.4, (h.5, tt)))))))
event_without_reason version (R port id resp last word) h = in_each version (codes "R") _ refl ((r version).encode (port, (id, (resp, (last, word)))) (h.0, (omega (arith, h.1), (omega (arith, h.2), (tt, omega (arith, h.3))))))
event_without_reason version (Rk port st) h = in_each version (codes "RK") _ refl ((rk version).encode (port, st) (h, tt))
event_without_reason version (Aw port id addr snoop dom bar) h = in_each version (codes "AW") _ refl ((aw version).encode (port, (id, (addr, (snoop, (dom, bar))))) (h.0, (omega (arith, h.1), (omega (arith, h.2), (h.3, (h.4, h.5))))))
event_without_reason version (W port strb last word) h = in_each version (codes "W") _ refl ((w version).encode (port, (strb, (last, word))) (h.0, (omega (arith, h.1), (tt, omega (arith, h.2)))))
event_without_reason version (B port id resp) h = in_each version (codes "B") _ refl ((b version).encode (port, (id, resp)) (h.0, (omega (arith, h.1), h.2)))
event_without_reason version (Wk port st) h = in_each version (codes "WK") _ refl ((wk version).encode (port, st) (h, tt))
event_without_reason version (Ac port addr snoop) h = in_each version (codes "AC") _ refl ((ac version).encode (port, (addr, snoop)) (h.0, (omega (arith, h.1), omega (arith, h.2))))
event_without_reason version (Cr port resp st) h = in_each version (codes "CR") _ refl ((cr version).encode (port, (resp, st)) (h.0, (h.1, tt)))
event_without_reason version (Cd port last word) h = in_each version (codes "CD") _ refl ((cd version).encode (port, (last, word)) (h.0, (tt, omega (arith, h.1))))
event_without_reason version (G port chan id) h = in_each version (codes "G") _ refl ((g version).encode (port, (chan, id)) (h.0, (tt, omega (arith, h.1))))
event_without_reason version (M port chan id line) h = in_each version (codes "M") _ refl ((m version).encode (port, (chan, (id, line))) (h.0, (tt, (omega (arith, h.1), h.2))))
event_without_reason version (S port addr st) h = in_each version (codes "S") _ refl ((s version).encode (port, (addr, st)) (h.0, (omega (arith, h.1), tt)))
event_without_reason version (L port addr w x word) h = in_each version (codes "L") _ refl ((l version).encode (port, (addr, (w, (x, word)))) (h.0, (omega (arith, h.1), (h.2, (tt, omega (arith, h.3))))))
event_without_reason version (D port addr strobe x line) h = in_each version (codes "D") _ refl ((d version).encode (port, (addr, (strobe, (x, line)))) (h.0, (omega (arith, h.1), (omega (arith, h.2), (tt, h.3)))))
event_without_reason version (Op port k res) h = in_each version (codes "OP") _ refl ((op version).encode (port, (k, res)) (h.0, (omega (arith, h.1), tt)))
event_without_reason version (Mem addr line) h =
    ap (λ b. record_reason version (lookup (bytes_eq (codes "MEM")) (by_version b)) (hex_text 8 addr ∷ line_digits line ∷ [])) (ne_eqb version 1 h.0)
    ∙ (mem version).encode (addr, line) (omega (arith, h.1), h.2)

-- the characters of an event's fields show
pub event_visible : (version : ℕ) (event : Event) → AllByRecursion IsVisible (fields version event)
event_visible version (Ar port id addr snoop dom bar lock) = ((omega arith, (omega arith, tt)), (ar version).visible (port, (id, (addr, (snoop, (dom, (bar, lock)))))))
event_visible version (R port id resp last word) = ((omega arith, tt), (r version).visible (port, (id, (resp, (last, word)))))
event_visible version (Rk port st) = ((omega arith, (omega arith, tt)), (rk version).visible (port, st))
event_visible version (Aw port id addr snoop dom bar) = ((omega arith, (omega arith, tt)), (aw version).visible (port, (id, (addr, (snoop, (dom, bar))))))
event_visible version (W port strb last word) = ((omega arith, tt), (w version).visible (port, (strb, (last, word))))
event_visible version (B port id resp) = ((omega arith, tt), (b version).visible (port, (id, resp)))
event_visible version (Wk port st) = ((omega arith, (omega arith, tt)), (wk version).visible (port, st))
event_visible version (Ac port addr snoop) = ((omega arith, (omega arith, tt)), (ac version).visible (port, (addr, snoop)))
event_visible version (Cr port resp st) = ((omega arith, (omega arith, tt)), (cr version).visible (port, (resp, st)))
event_visible version (Cd port last word) = ((omega arith, (omega arith, tt)), (cd version).visible (port, (last, word)))
event_visible version (G port chan id) = ((omega arith, tt), (g version).visible (port, (chan, id)))
event_visible version (M port chan id line) = ((omega arith, tt), (m version).visible (port, (chan, (id, line))))
event_visible version (S port addr st) = ((omega arith, tt), (s version).visible (port, (addr, st)))
event_visible version (L port addr w x word) = ((omega arith, tt), (l version).visible (port, (addr, (w, (x, word)))))
event_visible version (D port addr strobe x line) = ((omega arith, tt), (d version).visible (port, (addr, (strobe, (x, line)))))
event_visible version (Op port k res) = ((omega arith, (omega arith, tt)), (op version).visible (port, (k, res)))
event_visible version (Mem addr line) = ((omega arith, (omega arith, (omega arith, tt))), (mem version).visible (addr, line))
