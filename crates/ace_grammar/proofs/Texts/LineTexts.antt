-- Lines: what is read from a line is exactly a readable event.
use Rattle.std.proofs.Common.{◌≡◌, ◌≢◌, ℕ, ◌<◌, cond, List, [], ◌∷◌, length, Option, Some, None, refl, sym, ap, subst, ◌∙◌, arith, eqb, inl, inr}
use Rattle.std.specs.Option.{option_map}
use Rattle.std.proofs.lemmas.Bool.{eqb-true, eqb-false, ne_eqb, cond-false}
use Rattle.ace_event.specs.declared.event.Event.{Event}
use Rattle.ace_event.specs.declared.event.Event.TheVariants.{Ar, R, Rk, Aw, W, B, Wk, Ac, Cr, Cd, G, M, S, L, D, Op, Mem}
use Rattle.ace_event.specs.Text.{event_text}
use Rattle.ace_grammar.specs.Reading.{IsReadable}
use Rattle.ace_grammar.specs.Records.{ar_fields, r_fields, rk_fields, aw_fields, w_fields, b_fields, wk_fields, ac_fields, cr_fields, cd_fields, g_fields, m_fields, s_fields, l_fields, d_fields, op_fields, mem_fields, ar_event, r_event, rk_event, aw_event, w_event, b_event, wk_event, ac_event, cr_event, cd_event, g_event, m_event, s_event, l_event, d_event, op_event, mem_event, a_at, c_at, e_at, m_at, o_at, r_at, w_at, event_at}
use Rattle.ace_grammar.proofs.General.Options.{map_some, none_isn't, chosen}
use Rattle.ace_grammar.proofs.Texts.Exact.{Rest}
use Rattle.ace_grammar.proofs.Texts.RecordTexts.{ar, r, rk, aw, w, b, wk, ac, cr, cd, g, m, s, l, d, op, mem}

-- the bytes behind these are the rest of the event's line
abbrev pub Reads : ℕ → (List ℕ → List ℕ) → List ℕ → Event → Type 0
Reads version front bytes event = IsReadable version event × (event_text version event ≡ front bytes)

record_takes : {F : Type 0} (version : ℕ) (fields : Rest F) (make : F → Event) (front : List ℕ → List ℕ) → ((f : F) → fields.IsIn f → Reads version front (fields.text f) (make f))
    → (bytes : List ℕ) (event : Event) → option_map make (fields.read bytes) ≡ Some event → Reads version front bytes event
record_takes version fields make front makes bytes event e =
    let step = map_some (fields.read bytes) make event e in
    let taken = fields.exact.takes bytes step.0 step.1 in
    subst (Reads version front bytes) step.2 (subst (λ (l : List ℕ). Reads version front l (make step.0)) (sym taken.1) (makes step.0 taken.0))

ar_takes : (version : ℕ) (bytes : List ℕ) (event : Event) → option_map ar_event (ar_fields version bytes) ≡ Some event → Reads version (λ l. 65 ∷ 82 ∷ l) bytes event
unfolding ar_fields
ar_takes version = record_takes version (ar version) ar_event (λ l. 65 ∷ 82 ∷ l) (λ f h. ((h.0, omega (arith, h.1.0), omega (arith, h.1.1.0), omega (arith, h.1.1.1.0), h.1.1.1.1.0, h.1.1.1.1.1.0), refl))

r_takes : (version : ℕ) (bytes : List ℕ) (event : Event) → option_map r_event (r_fields version bytes) ≡ Some event → Reads version (λ l. 82 ∷ l) bytes event
unfolding r_fields
r_takes version = record_takes version (r version) r_event (λ l. 82 ∷ l) (λ f h. ((h.0, omega (arith, h.1.0), omega (arith, h.1.1.0), omega (arith, h.1.1.1.1)), refl))

rk_takes : (version : ℕ) (bytes : List ℕ) (event : Event) → option_map rk_event (rk_fields version bytes) ≡ Some event → Reads version (λ l. 82 ∷ 75 ∷ l) bytes event
unfolding rk_fields
rk_takes version = record_takes version (rk version) rk_event (λ l. 82 ∷ 75 ∷ l) (λ f h. (h.0, refl))

aw_takes : (version : ℕ) (bytes : List ℕ) (event : Event) → option_map aw_event (aw_fields version bytes) ≡ Some event → Reads version (λ l. 65 ∷ 87 ∷ l) bytes event
unfolding aw_fields
aw_takes version = record_takes version (aw version) aw_event (λ l. 65 ∷ 87 ∷ l) (λ f h. ((h.0, omega (arith, h.1.0), omega (arith, h.1.1.0), h.1.1.1.0, h.1.1.1.1.0, h.1.1.1.1.1), refl))

w_takes : (version : ℕ) (bytes : List ℕ) (event : Event) → option_map w_event (w_fields version bytes) ≡ Some event → Reads version (λ l. 87 ∷ l) bytes event
unfolding w_fields
w_takes version = record_takes version (w version) w_event (λ l. 87 ∷ l) (λ f h. ((h.0, omega (arith, h.1.0), omega (arith, h.1.1.1)), refl))

b_takes : (version : ℕ) (bytes : List ℕ) (event : Event) → option_map b_event (b_fields version bytes) ≡ Some event → Reads version (λ l. 66 ∷ l) bytes event
unfolding b_fields
b_takes version = record_takes version (b version) b_event (λ l. 66 ∷ l) (λ f h. ((h.0, omega (arith, h.1.0), h.1.1), refl))

wk_takes : (version : ℕ) (bytes : List ℕ) (event : Event) → option_map wk_event (wk_fields version bytes) ≡ Some event → Reads version (λ l. 87 ∷ 75 ∷ l) bytes event
unfolding wk_fields
wk_takes version = record_takes version (wk version) wk_event (λ l. 87 ∷ 75 ∷ l) (λ f h. (h.0, refl))

ac_takes : (version : ℕ) (bytes : List ℕ) (event : Event) → option_map ac_event (ac_fields version bytes) ≡ Some event → Reads version (λ l. 65 ∷ 67 ∷ l) bytes event
unfolding ac_fields
ac_takes version = record_takes version (ac version) ac_event (λ l. 65 ∷ 67 ∷ l) (λ f h. ((h.0, omega (arith, h.1.0), omega (arith, h.1.1)), refl))

cr_takes : (version : ℕ) (bytes : List ℕ) (event : Event) → option_map cr_event (cr_fields version bytes) ≡ Some event → Reads version (λ l. 67 ∷ 82 ∷ l) bytes event
unfolding cr_fields
cr_takes version = record_takes version (cr version) cr_event (λ l. 67 ∷ 82 ∷ l) (λ f h. ((h.0, h.1.0), refl))

cd_takes : (version : ℕ) (bytes : List ℕ) (event : Event) → option_map cd_event (cd_fields version bytes) ≡ Some event → Reads version (λ l. 67 ∷ 68 ∷ l) bytes event
unfolding cd_fields
cd_takes version = record_takes version (cd version) cd_event (λ l. 67 ∷ 68 ∷ l) (λ f h. ((h.0, omega (arith, h.1.1)), refl))

g_takes : (version : ℕ) (bytes : List ℕ) (event : Event) → option_map g_event (g_fields version bytes) ≡ Some event → Reads version (λ l. 71 ∷ l) bytes event
unfolding g_fields
g_takes version = record_takes version (g version) g_event (λ l. 71 ∷ l) (λ f h. ((h.0, omega (arith, h.1.1)), refl))

m_takes : (version : ℕ) (bytes : List ℕ) (event : Event) → option_map m_event (m_fields version bytes) ≡ Some event → Reads version (λ l. 77 ∷ l) bytes event
unfolding m_fields
m_takes version = record_takes version (m version) m_event (λ l. 77 ∷ l) (λ f h. ((h.0, omega (arith, h.1.1.0), h.1.1.1), refl))

s_takes : (version : ℕ) (bytes : List ℕ) (event : Event) → option_map s_event (s_fields version bytes) ≡ Some event → Reads version (λ l. 83 ∷ l) bytes event
unfolding s_fields
s_takes version = record_takes version (s version) s_event (λ l. 83 ∷ l) (λ f h. ((h.0, omega (arith, h.1.0)), refl))

l_takes : (version : ℕ) (bytes : List ℕ) (event : Event) → option_map l_event (l_fields version bytes) ≡ Some event → Reads version (λ l. 76 ∷ l) bytes event
unfolding l_fields
l_takes version = record_takes version (l version) l_event (λ l. 76 ∷ l) (λ f h. ((h.0, omega (arith, h.1.0), h.1.1.0, omega (arith, h.1.1.1.1)), refl))

d_takes : (version : ℕ) (bytes : List ℕ) (event : Event) → option_map d_event (d_fields version bytes) ≡ Some event → Reads version (λ l. 68 ∷ l) bytes event
unfolding d_fields
d_takes version = record_takes version (d version) d_event (λ l. 68 ∷ l) (λ f h. ((h.0, omega (arith, h.1.0), omega (arith, h.1.1.0), h.1.1.1.1), refl))

op_takes : (version : ℕ) (bytes : List ℕ) (event : Event) → option_map op_event (op_fields version bytes) ≡ Some event → Reads version (λ l. 79 ∷ 80 ∷ l) bytes event
unfolding op_fields
op_takes version = record_takes version (op version) op_event (λ l. 79 ∷ 80 ∷ l) (λ f h. ((h.0, omega (arith, h.1.0)), refl))

-- a letter in front, known by its number, or another one
by_letter : (version : ℕ) (front : List ℕ → List ℕ) (letter known : ℕ) (here other : Option Event) (bytes : List ℕ) (event : Event) → (here ≡ Some event → Reads version (λ l. front (known ∷ l)) bytes event)
    → (other ≡ Some event → Reads version front (letter ∷ bytes) event) → cond (eqb letter known) here other ≡ Some event → Reads version front (letter ∷ bytes) event
by_letter version front letter known here other bytes event told else_told e =
    elim (chosen (eqb letter known) here other (Some event) e) [
      | inl p ↦ let read = told p.1 in (read.0, read.1 ∙ ap (λ l. front (l ∷ bytes)) (sym (eqb-true letter known p.0)))
      | inr q ↦ else_told q.1
    ]

a_at_takes : (version : ℕ) (bytes : List ℕ) (event : Event) → a_at version bytes ≡ Some event → Reads version (λ l. 65 ∷ l) bytes event
unfolding a_at
a_at_takes version [] event e = none_isn't event _ e
a_at_takes version (letter ∷ bytes) event e =
    by_letter version (λ l. 65 ∷ l) letter 67 _ _ bytes event (ac_takes version bytes event) (λ e.
    by_letter version (λ l. 65 ∷ l) letter 82 _ _ bytes event (ar_takes version bytes event) (λ e.
    by_letter version (λ l. 65 ∷ l) letter 87 _ _ bytes event (aw_takes version bytes event) (λ e.
    none_isn't event _ e
    ) e) e) e

c_at_takes : (version : ℕ) (bytes : List ℕ) (event : Event) → c_at version bytes ≡ Some event → Reads version (λ l. 67 ∷ l) bytes event
unfolding c_at
c_at_takes version [] event e = none_isn't event _ e
c_at_takes version (letter ∷ bytes) event e =
    by_letter version (λ l. 67 ∷ l) letter 68 _ _ bytes event (cd_takes version bytes event) (λ e.
    by_letter version (λ l. 67 ∷ l) letter 82 _ _ bytes event (cr_takes version bytes event) (λ e.
    none_isn't event _ e
    ) e) e

mem_takes : (version : ℕ) → version ≢ 1 → (bytes : List ℕ) (event : Event) → option_map mem_event (mem_fields bytes) ≡ Some event → Reads version (λ l. 77 ∷ 69 ∷ 77 ∷ l) bytes event
unfolding mem_fields
mem_takes version other = record_takes version mem mem_event (λ l. 77 ∷ 69 ∷ 77 ∷ l) (λ f h. ((other, omega (arith, h.0), h.1), refl))

e_at_takes : (version : ℕ) (bytes : List ℕ) (event : Event) → e_at version bytes ≡ Some event → Reads version (λ l. 77 ∷ 69 ∷ l) bytes event
unfolding e_at
e_at_takes version [] event e = none_isn't event _ e
e_at_takes version (letter ∷ bytes) event e =
    elim (chosen (eqb version 1) None _ (Some event) e) [
      | inl p ↦ none_isn't event _ p.1
      | inr q ↦
          by_letter version (λ l. 77 ∷ 69 ∷ l) letter 77 _ _ bytes event (mem_takes version (eqb-false version 1 q.0) bytes event) (λ e.
          none_isn't event _ e
          ) q.1
    ]

m_at_takes : (version : ℕ) (bytes : List ℕ) (event : Event) → m_at version bytes ≡ Some event → Reads version (λ l. 77 ∷ l) bytes event
unfolding m_at
m_at_takes version [] event e = m_takes version [] event e
m_at_takes version (letter ∷ bytes) event e =
    by_letter version (λ l. 77 ∷ l) letter 69 _ _ bytes event (e_at_takes version bytes event) (λ e.
    m_takes version (letter ∷ bytes) event e
    ) e

o_at_takes : (version : ℕ) (bytes : List ℕ) (event : Event) → o_at version bytes ≡ Some event → Reads version (λ l. 79 ∷ l) bytes event
unfolding o_at
o_at_takes version [] event e = none_isn't event _ e
o_at_takes version (letter ∷ bytes) event e =
    by_letter version (λ l. 79 ∷ l) letter 80 _ _ bytes event (op_takes version bytes event) (λ e.
    none_isn't event _ e
    ) e

r_at_takes : (version : ℕ) (bytes : List ℕ) (event : Event) → r_at version bytes ≡ Some event → Reads version (λ l. 82 ∷ l) bytes event
unfolding r_at
r_at_takes version [] event e = r_takes version [] event e
r_at_takes version (letter ∷ bytes) event e =
    by_letter version (λ l. 82 ∷ l) letter 75 _ _ bytes event (rk_takes version bytes event) (λ e.
    r_takes version (letter ∷ bytes) event e
    ) e

w_at_takes : (version : ℕ) (bytes : List ℕ) (event : Event) → w_at version bytes ≡ Some event → Reads version (λ l. 87 ∷ l) bytes event
unfolding w_at
w_at_takes version [] event e = w_takes version [] event e
w_at_takes version (letter ∷ bytes) event e =
    by_letter version (λ l. 87 ∷ l) letter 75 _ _ bytes event (wk_takes version bytes event) (λ e.
    w_takes version (letter ∷ bytes) event e
    ) e

-- what is read from a line is a readable event, and the line is its text
pub event_takes : (version : ℕ) (bytes : List ℕ) (event : Event) → event_at version bytes ≡ Some event → Reads version (λ l. l) bytes event
unfolding event_at
event_takes version [] event e = none_isn't event _ e
event_takes version (letter ∷ bytes) event e =
    by_letter version (λ l. l) letter 65 _ _ bytes event (a_at_takes version bytes event) (λ e.
    by_letter version (λ l. l) letter 66 _ _ bytes event (b_takes version bytes event) (λ e.
    by_letter version (λ l. l) letter 67 _ _ bytes event (c_at_takes version bytes event) (λ e.
    by_letter version (λ l. l) letter 68 _ _ bytes event (d_takes version bytes event) (λ e.
    by_letter version (λ l. l) letter 71 _ _ bytes event (g_takes version bytes event) (λ e.
    by_letter version (λ l. l) letter 76 _ _ bytes event (l_takes version bytes event) (λ e.
    by_letter version (λ l. l) letter 77 _ _ bytes event (m_at_takes version bytes event) (λ e.
    by_letter version (λ l. l) letter 79 _ _ bytes event (o_at_takes version bytes event) (λ e.
    by_letter version (λ l. l) letter 82 _ _ bytes event (r_at_takes version bytes event) (λ e.
    by_letter version (λ l. l) letter 83 _ _ bytes event (s_takes version bytes event) (λ e.
    by_letter version (λ l. l) letter 87 _ _ bytes event (w_at_takes version bytes event) (λ e.
    none_isn't event _ e
    ) e) e) e) e) e) e) e) e) e) e) e

-- the text of a readable event is read as that event
pub event_again : (version : ℕ) (event : Event) → IsReadable version event → event_at version (event_text version event) ≡ Some event
unfolding event_at a_at c_at e_at m_at o_at r_at w_at ar_fields r_fields rk_fields aw_fields w_fields b_fields wk_fields ac_fields cr_fields cd_fields g_fields m_fields s_fields l_fields d_fields op_fields mem_fields
event_again version (Ar port id addr snoop dom bar lock) h = ap (option_map ar_event) ((ar version).exact.again (port, (id, (addr, (snoop, (dom, (bar, lock)))))) (h.0, (omega (arith, h.1), (omega (arith, h.2), (omega (arith, h.3), (h.4, (h.5, tt)))))))
event_again version (R port id resp last word) h = ap (option_map r_event) ((r version).exact.again (port, (id, (resp, (last, word)))) (h.0, (omega (arith, h.1), (omega (arith, h.2), (tt, omega (arith, h.3))))))
event_again version (Rk port st) h = ap (option_map rk_event) ((rk version).exact.again (port, st) (h, tt))
event_again version (Aw port id addr snoop dom bar) h = ap (option_map aw_event) ((aw version).exact.again (port, (id, (addr, (snoop, (dom, bar))))) (h.0, (omega (arith, h.1), (omega (arith, h.2), (h.3, (h.4, h.5))))))
event_again version (W port strb last word) h = ap (option_map w_event) ((w version).exact.again (port, (strb, (last, word))) (h.0, (omega (arith, h.1), (tt, omega (arith, h.2)))))
event_again version (B port id resp) h = ap (option_map b_event) ((b version).exact.again (port, (id, resp)) (h.0, (omega (arith, h.1), h.2)))
event_again version (Wk port st) h = ap (option_map wk_event) ((wk version).exact.again (port, st) (h, tt))
event_again version (Ac port addr snoop) h = ap (option_map ac_event) ((ac version).exact.again (port, (addr, snoop)) (h.0, (omega (arith, h.1), omega (arith, h.2))))
event_again version (Cr port resp st) h = ap (option_map cr_event) ((cr version).exact.again (port, (resp, st)) (h.0, (h.1, tt)))
event_again version (Cd port last word) h = ap (option_map cd_event) ((cd version).exact.again (port, (last, word)) (h.0, (tt, omega (arith, h.1))))
event_again version (G port chan id) h = ap (option_map g_event) ((g version).exact.again (port, (chan, id)) (h.0, (tt, omega (arith, h.1))))
event_again version (M port chan id line) h = ap (option_map m_event) ((m version).exact.again (port, (chan, (id, line))) (h.0, (tt, (omega (arith, h.1), h.2))))
event_again version (S port addr st) h = ap (option_map s_event) ((s version).exact.again (port, (addr, st)) (h.0, (omega (arith, h.1), tt)))
event_again version (L port addr w x word) h = ap (option_map l_event) ((l version).exact.again (port, (addr, (w, (x, word)))) (h.0, (omega (arith, h.1), (h.2, (tt, omega (arith, h.3))))))
event_again version (D port addr strobe x line) h = ap (option_map d_event) ((d version).exact.again (port, (addr, (strobe, (x, line)))) (h.0, (omega (arith, h.1), (omega (arith, h.2), (tt, h.3)))))
event_again version (Op port k res) h = ap (option_map op_event) ((op version).exact.again (port, (k, res)) (h.0, (omega (arith, h.1), tt)))
event_again version (Mem addr line) h = cond-false (eqb version 1) _ _ (ne_eqb version 1 h.0) ∙ ap (option_map mem_event) (mem.exact.again (addr, line) (omega (arith, h.1), h.2))

-- the line of an event is shorter than 256 bytes
pub event_short : (version : ℕ) (event : Event) → IsReadable version event → length (event_text version event) < 256
event_short version (Ar port id addr snoop dom bar lock) h = omega (arith, (ar version).exact.short (port, (id, (addr, (snoop, (dom, (bar, lock)))))) (h.0, (omega (arith, h.1), (omega (arith, h.2), (omega (arith, h.3), (h.4, (h.5, tt)))))))
event_short version (R port id resp last word) h = omega (arith, (r version).exact.short (port, (id, (resp, (last, word)))) (h.0, (omega (arith, h.1), (omega (arith, h.2), (tt, omega (arith, h.3))))))
event_short version (Rk port st) h = omega (arith, (rk version).exact.short (port, st) (h, tt))
event_short version (Aw port id addr snoop dom bar) h = omega (arith, (aw version).exact.short (port, (id, (addr, (snoop, (dom, bar))))) (h.0, (omega (arith, h.1), (omega (arith, h.2), (h.3, (h.4, h.5))))))
event_short version (W port strb last word) h = omega (arith, (w version).exact.short (port, (strb, (last, word))) (h.0, (omega (arith, h.1), (tt, omega (arith, h.2)))))
event_short version (B port id resp) h = omega (arith, (b version).exact.short (port, (id, resp)) (h.0, (omega (arith, h.1), h.2)))
event_short version (Wk port st) h = omega (arith, (wk version).exact.short (port, st) (h, tt))
event_short version (Ac port addr snoop) h = omega (arith, (ac version).exact.short (port, (addr, snoop)) (h.0, (omega (arith, h.1), omega (arith, h.2))))
event_short version (Cr port resp st) h = omega (arith, (cr version).exact.short (port, (resp, st)) (h.0, (h.1, tt)))
event_short version (Cd port last word) h = omega (arith, (cd version).exact.short (port, (last, word)) (h.0, (tt, omega (arith, h.1))))
event_short version (G port chan id) h = omega (arith, (g version).exact.short (port, (chan, id)) (h.0, (tt, omega (arith, h.1))))
event_short version (M port chan id line) h = omega (arith, (m version).exact.short (port, (chan, (id, line))) (h.0, (tt, (omega (arith, h.1), h.2))))
event_short version (S port addr st) h = omega (arith, (s version).exact.short (port, (addr, st)) (h.0, (omega (arith, h.1), tt)))
event_short version (L port addr w x word) h = omega (arith, (l version).exact.short (port, (addr, (w, (x, word)))) (h.0, (omega (arith, h.1), (h.2, (tt, omega (arith, h.3))))))
event_short version (D port addr strobe x line) h = omega (arith, (d version).exact.short (port, (addr, (strobe, (x, line)))) (h.0, (omega (arith, h.1), (omega (arith, h.2), (tt, h.3)))))
event_short version (Op port k res) h = omega (arith, (op version).exact.short (port, (k, res)) (h.0, (omega (arith, h.1), tt)))
event_short version (Mem addr line) h = omega (arith, mem.exact.short (addr, line) (omega (arith, h.1), h.2))
