-- The text of what was counted is the report of the trace.
use Rattle.std.proofs.Common.{◌≡◌, ◌<◌, ◌+◌, ℕ, suc, List, [], ◌∷◌, ◌++◌, length, map, Some, slice_get, refl, sym, ap, ◌∙◌, arith, append_assoc, append-nil}
use Rattle.std.specs.List.{flat_map, range_with_len}
use Rattle.std.specs.BTreeMap.{IsOrdered}
use Rattle.std.specs.Ordering.{nat_cmp}
use Rattle.std.proofs.lemmas.List.Concat.{flat_map-append}
use Rattle.ace_event.specs.declared.event.Event.TheVariants.{L}
use Rattle.ace_event.specs.declared.header.Header.{Header}
use Rattle.ace_model.specs.Trace.{Trace}
use Rattle.ace_model.specs.Lines.{known_lines}
use Rattle.ace_model.specs.Values.{stores_of}
use Rattle.ace_model.proofs.General.Options.{Some-injective}
use Rattle.ace_report.specs.declared.tally.PortTally.{PortTally}
use Rattle.ace_report.specs.declared.tally.Load.{Load}
use Rattle.ace_report.specs.declared.report.Report.{Report}
use Rattle.ace_report.specs.Heard.{port_tally, line_tally, loads_of}
use Rattle.ace_report.specs.Lines.{port_line, ports_text, line_line, load_line}
use Rattle.ace_report.specs.Report.{in_order, port_report, line_report, load_report, load_reports, report_text}
use Rattle.ace_report.specs.Stands.{Stands}
use Rattle.ace_report.proofs.Order.{entries-in_order}

none_before : (n : ℕ) → 0 + n ≡ n
none_before n = omega arith

none_more : (n : ℕ) → n + 0 ≡ n
none_more n = omega arith

ports_are : (past : Trace) (n : ℕ) (ts : List PortTally) → ((p : ℕ) → p < length ts → slice_get ts p ≡ Some (port_tally past (n + p)))
    → ports_text n ts ≡ flat_map (port_report past) (range_with_len n (length ts))
ports_are past n [] each = refl
ports_are past n (t ∷ ts) each =
    let first : t ≡ port_tally past n = Some-injective t (port_tally past n) (each 0 (omega arith) ∙ ap (λ k. Some (port_tally past k)) (none_more n)) in
    let later : (p : ℕ) → p < length ts → slice_get ts p ≡ Some (port_tally past (n + 1 + p)) =
    λ p lt. each (suc p) (omega (arith, lt)) ∙ ap (λ k. Some (port_tally past k)) (omega arith) in
    ap (λ x. port_line n x ++ ports_text (n + 1) ts) first ∙ ap (λ x. port_report past n ++ x) (ports_are past (n + 1) ts later)

lines_are : (past : Trace) (ls : List ℕ) → flat_map line_line (map (λ l. (l, line_tally past l)) ls) ≡ flat_map (line_report past) ls
lines_are past [] = refl
lines_are past (l ∷ ls) = ap (λ x. line_report past l ++ x) (lines_are past ls)

loads_are : (past : Trace) → flat_map load_line (loads_of past) ≡ load_reports past
loads_are [] = refl
loads_are (L p addr w x word ∷ past) =
    let load : Load = record { event = length past + 1; port = p; addr = addr; stores = length (stores_of past addr) } in
    flat_map-append load_line (loads_of past) (load ∷ [])
    ∙ ap (λ text. flat_map load_line (loads_of past) ++ text) (append-nil (load_line load)) ∙ ap (λ text. text ++ load_report past p addr) (loads_are past)
loads_are (e ∷ past) = loads_are past

-- the text of a report that stands for the trace
pub report_is : (h : Header) (past : Trace) (r : Report) → Stands r h past → IsOrdered nat_cmp r.lines
    → ports_text 0 r.ports.items ++ (flat_map line_line r.lines.entries ++ flat_map load_line r.loads.items) ≡ report_text h past
report_is h past r s ordered =
    let a : ports_text 0 r.ports.items ≡ flat_map (port_report past) (range_with_len 0 h.ports) =
    ports_are past 0 r.ports.items (λ p lt. s.ports p lt ∙ ap (λ k. Some (port_tally past k)) (sym (none_before p))) ∙ ap (λ n. flat_map (port_report past) (range_with_len 0 n)) s.len in
    let b : flat_map line_line r.lines.entries ≡ flat_map (line_report past) (in_order (known_lines past)) =
    ap (flat_map line_line) (entries-in_order (line_tally past) past r.lines ordered s.lines) ∙ lines_are past (in_order (known_lines past)) in
    let c : flat_map load_line r.loads.items ≡ load_reports past = ap (flat_map load_line) s.loads ∙ loads_are past in
    rw (a, b, c) (sym (append_assoc (flat_map (port_report past) (range_with_len 0 h.ports)) (flat_map (line_report past) (in_order (known_lines past))) (load_reports past)))
