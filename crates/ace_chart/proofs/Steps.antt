-- One element, and the others; and what a text has got with it.
use Rattle.std.proofs.Common.{◌≡◌, ℕ, ◌+◌, ◌-◌, ◌<◌, ◌≤◌, ◌++◌, suc, List, [], Option, drop, get_or, length, refl, arith}
use Rattle.std.proofs.lemmas.Grind.{common_steps}
use Rattle.std.proofs.lemmas.List.{at_drop_more, drop_all}
use Rattle.ace_codes.specs.declared.state.LineState.{LineState}
use Rattle.ace_event.specs.declared.header.Header.{Header}
use Rattle.ace_chart.specs.Cells.{look_cells, rows_cells, state_cell, state_cells}
use Rattle.ace_chart.specs.Lifelines.{port_head, port_lifelines}
use Rattle.ace_chart.specs.Marks.{event_text, rows_text}
use Rattle.ace_chart.specs.Side.{time_text, times_text}
use Rattle.ace_chart.specs.declared.rows.Row.{Row}
use Rattle.ace_side_facts.specs.declared.facts.SideFacts.{SideFacts}

pub states_step : (ports row : ℕ) (states : List LineState) (i : ℕ) (d : LineState) → i < length states
    → state_cells ports row i (drop i states)
    ≡ state_cell ports row i (get_or states i d) ++ state_cells ports row (i + 1) (drop (i + 1) states)
unfolding state_cells
states_step ports row states i d within = rw (at_drop_more (state_cells ports row i) states i d within) refl

pub states_end : (ports row : ℕ) (states : List LineState) (i : ℕ) → length states ≤ i → state_cells ports row i (drop i states) ≡ []
unfolding state_cells
states_end ports row states i past = rw (drop_all i states past) refl

pub cells_step : (ports : ℕ) (rows : List Row) (i : ℕ) (d : Row) → i < length rows
    → rows_cells ports i (drop i rows)
    ≡ look_cells ports i (get_or rows i d).look ++ rows_cells ports (i + 1) (drop (i + 1) rows)
unfolding rows_cells
cells_step ports rows i d within = rw (at_drop_more (rows_cells ports i) rows i d within) refl

pub cells_end : (ports : ℕ) (rows : List Row) (i : ℕ) → length rows ≤ i → rows_cells ports i (drop i rows) ≡ []
unfolding rows_cells
cells_end ports rows i past = rw (drop_all i rows past) refl

pub rows_step : (ports : ℕ) (stop : Option Row) (rows : List Row) (i : ℕ) (d : Row) → i < length rows
    → rows_text ports stop i (drop i rows)
    ≡ event_text ports stop i (get_or rows i d) ++ rows_text ports stop (i + 1) (drop (i + 1) rows)
unfolding rows_text
rows_step ports stop rows i d within = rw (at_drop_more (rows_text ports stop i) rows i d within) refl

pub rows_end : (ports : ℕ) (stop : Option Row) (rows : List Row) (i : ℕ) → length rows ≤ i → rows_text ports stop i (drop i rows) ≡ []
unfolding rows_text
rows_end ports stop rows i past = rw (drop_all i rows past) refl

-- the lifelines from one port on
ports_more : (h : Header) (side : Option SideFacts) (bottom p count : ℕ)
    → port_lifelines h side bottom p (suc count) ≡ port_head h side bottom p ++ port_lifelines h side bottom (p + 1) count
unfolding port_lifelines
ports_more h side bottom p count = refl

pub ports_step : (h : Header) (side : Option SideFacts) (bottom p : ℕ) → p < h.ports
    → port_lifelines h side bottom p (h.ports - p) ≡ port_head h side bottom p ++ port_lifelines h side bottom (p + 1) (h.ports - (p + 1))
ports_step h side bottom p few =
    let one_more : h.ports - p ≡ suc (h.ports - (p + 1)) = omega (arith, few) in rw one_more (ports_more h side bottom p (h.ports - (p + 1)))

pub ports_end : (h : Header) (side : Option SideFacts) (bottom p : ℕ) → h.ports ≤ p → port_lifelines h side bottom p (h.ports - p) ≡ []
unfolding port_lifelines
ports_end h side bottom p past = let none_left : h.ports - p ≡ 0 = omega (arith, past) in rw none_left refl

pub states_next : (ports row : ℕ) (states : List LineState) (i : ℕ) (d : LineState) (before new whole : List ℕ) → i < length states
    → before ++ state_cells ports row i (drop i states) ≡ whole → new ≡ before ++ state_cell ports row i (get_or states i d)
    → new ++ state_cells ports row (i + 1) (drop (i + 1) states) ≡ whole
states_next ports row states i d before new whole within so_far added =
    grind (arith, common_steps, so_far, added, states_step ports row states i d within)

pub states_done : (ports row : ℕ) (states : List LineState) (i : ℕ) (before whole : List ℕ) → length states ≤ i
    → before ++ state_cells ports row i (drop i states) ≡ whole → before ≡ whole
states_done ports row states i before whole past so_far = grind (arith, common_steps, so_far, states_end ports row states i past)

pub cells_next : (ports : ℕ) (rows : List Row) (i : ℕ) (d : Row) (before new whole : List ℕ) → i < length rows
    → before ++ rows_cells ports i (drop i rows) ≡ whole → new ≡ before ++ look_cells ports i (get_or rows i d).look
    → new ++ rows_cells ports (i + 1) (drop (i + 1) rows) ≡ whole
cells_next ports rows i d before new whole within so_far added =
    grind (arith, common_steps, so_far, added, cells_step ports rows i d within)

pub cells_done : (ports : ℕ) (rows : List Row) (i : ℕ) (before whole : List ℕ) → length rows ≤ i
    → before ++ rows_cells ports i (drop i rows) ≡ whole → before ≡ whole
cells_done ports rows i before whole past so_far = grind (arith, common_steps, so_far, cells_end ports rows i past)

pub rows_next : (ports : ℕ) (stop : Option Row) (rows : List Row) (i : ℕ) (d : Row) (before new whole : List ℕ) → i < length rows
    → before ++ rows_text ports stop i (drop i rows) ≡ whole → new ≡ before ++ event_text ports stop i (get_or rows i d)
    → new ++ rows_text ports stop (i + 1) (drop (i + 1) rows) ≡ whole
rows_next ports stop rows i d before new whole within so_far added =
    grind (arith, common_steps, so_far, added, rows_step ports stop rows i d within)

pub rows_done : (ports : ℕ) (stop : Option Row) (rows : List Row) (i : ℕ) (before whole : List ℕ) → length rows ≤ i
    → before ++ rows_text ports stop i (drop i rows) ≡ whole → before ≡ whole
rows_done ports stop rows i before whole past so_far = grind (arith, common_steps, so_far, rows_end ports stop rows i past)

pub ports_next : (h : Header) (side : Option SideFacts) (bottom p : ℕ) (before new whole : List ℕ) → p < h.ports
    → before ++ port_lifelines h side bottom p (h.ports - p) ≡ whole → new ≡ before ++ port_head h side bottom p
    → new ++ port_lifelines h side bottom (p + 1) (h.ports - (p + 1)) ≡ whole
ports_next h side bottom p before new whole few so_far added =
    grind (arith, common_steps, so_far, added, ports_step h side bottom p few)

pub ports_done : (h : Header) (side : Option SideFacts) (bottom p : ℕ) (before whole : List ℕ) → h.ports ≤ p
    → before ++ port_lifelines h side bottom p (h.ports - p) ≡ whole → before ≡ whole
ports_done h side bottom p before whole past so_far = grind (arith, common_steps, so_far, ports_end h side bottom p past)

pub times_step : (times : List (Option ℕ)) (i : ℕ) (d : Option ℕ) → i < length times
    → times_text i (drop i times) ≡ time_text i (get_or times i d) ++ times_text (i + 1) (drop (i + 1) times)
unfolding times_text
times_step times i d within = rw (at_drop_more (times_text i) times i d within) refl

pub times_end : (times : List (Option ℕ)) (i : ℕ) → length times ≤ i → times_text i (drop i times) ≡ []
unfolding times_text
times_end times i past = rw (drop_all i times past) refl

pub times_next : (times : List (Option ℕ)) (i : ℕ) (d : Option ℕ) (before new whole : List ℕ) → i < length times
    → before ++ times_text i (drop i times) ≡ whole → new ≡ before ++ time_text i (get_or times i d)
    → new ++ times_text (i + 1) (drop (i + 1) times) ≡ whole
times_next times i d before new whole within so_far added =
    grind (arith, common_steps, so_far, added, times_step times i d within)

pub times_done : (times : List (Option ℕ)) (i : ℕ) (before whole : List ℕ) → length times ≤ i
    → before ++ times_text i (drop i times) ≡ whole → before ≡ whole
times_done times i before whole past so_far = grind (arith, common_steps, so_far, times_end times i past)
