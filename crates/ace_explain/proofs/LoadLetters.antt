-- The clauses of K33 that are named, by the last exclusive load of the port.
use Rattle.std.proofs.Common.{◌≡◌, ℕ, ◌<◌, Bool, true, false, not, ◌==◌, nat_lt, if◌then◌else◌, Option, Some, None, is_some, option_map, refl, sym, ap, ◌∙◌, arith}
use Rattle.std.proofs.lemmas.Bool.{and_parts, ltb-true}
use Rattle.ace_event.specs.Ports.{IsHeader}
use Rattle.ace_event.specs.declared.event.Event.{Event}
use Rattle.ace_event.specs.declared.event.Event.TheVariants.{D}
use Rattle.ace_event.specs.declared.line.Line.{Line}
use Rattle.ace_model.specs.Accepted.{least_broken}
use Rattle.ace_model.specs.AddressRules.{k1}
use Rattle.ace_model.specs.Trace.{implies, is_none_or}
use Rattle.ace_portck.specs.Targets.{Recording}
use Rattle.ace_clauses.specs.CacheClauses.{has_held_since, has_stored_since, last_exclusive_load}
use Rattle.ace_clauses.specs.Clauses.{clause_of}
use Rattle.ace_clauses.specs.declared.letters.Letter.{Letter}
use Rattle.ace_clauses.specs.declared.letters.Letter.TheVariants as letter
use Rattle.ace_explain.specs.LastLoads.{LoadStands}
use Rattle.ace_explain.specs.Names.{Names}
use Rattle.ace_explain.specs.declared.last_loads.LastLoad.{LastLoad}
use Rattle.ace_explain.proofs.Broken.{has_clause, keeps_smaller, none_broken}
use Rattle.ace_explain.proofs.Kept.{kept_of}

-- the clause by what there is to say of the port
abbrev Told : (x loaded here had held : Bool) → Option Letter
Told x loaded here had held =
    if implies x loaded
    then (if implies x here
    then (if implies x (not had)
    then (if implies x held then None else Some letter.D)
    else Some letter.C)
    else Some letter.B)
    else Some letter.A

pick_d : (x loaded here had held : Bool) → loaded ≡ true → here ≡ true → had ≡ false → is_some (Told x loaded here had held) ≡ true → Told x loaded here had held ≡ Some letter.D
pick_d true loaded here had true l o s some = none_broken (rw (l, o, s) at some)
pick_d true loaded here had false l o s some = rw (l, o, s) refl
pick_d false loaded here had held l o s some = none_broken some

module _ (r : Recording) where
  -- of an event that is no D
  pub k33_of_others : (e : Event) → ((p addr strobe : ℕ) (x : Bool) (line : Line) → e ≡ D p addr strobe x line → ⊥) → Names r e 33 letter.A
  k33_of_others (D p addr strobe x line) d least = absurd (d p addr strobe x line refl)
  k33_of_others e d least = none_broken (has_clause r.header r.past e 33 least)

  module _ (p addr strobe : ℕ) (x : Bool) (line : Line) where
    -- the port is one of the header, as K1 is kept
    pub port_of_store : IsHeader r.header → least_broken r.header r.past (D p addr strobe x line) ≡ Some 33 → p < 32
    port_of_store h least =
        let kept = kept_of (k1 r.header r.past (D p addr strobe x line)) (keeps_smaller r.header r.past (D p addr strobe x line) 33 least 1 (omega arith)) in
        let low = ltb-true p r.header.ports (and_parts (nat_lt p r.header.ports) _ kept).0 in
        let most = h.most_ports in
        omega (arith, low, most)

    told : clause_of r.header r.past (D p addr strobe x line) 33
        ≡ Told x (is_some (last_exclusive_load r.past p)) (is_none_or (last_exclusive_load r.past p) (λ loaded. addr == loaded)) (has_stored_since r.past p)
        (has_held_since r.header r.past p addr)
    told = refl

    left : least_broken r.header r.past (D p addr strobe x line) ≡ Some 33 → is_some (clause_of r.header r.past (D p addr strobe x line) 33) ≡ true
    left least = has_clause r.header r.past (D p addr strobe x line) 33 least

    module _ (o : Option LastLoad) (s : LoadStands r.past p o) (w : LastLoad) (is : o ≡ Some w) where
      last : last_exclusive_load r.past p ≡ Some w.line
      last = s.line ∙ ap (option_map (λ (v : LastLoad). v.line)) is

      here : (b : Bool) → (addr == w.line) ≡ b → is_none_or (last_exclusive_load r.past p) (λ loaded. addr == loaded) ≡ b
      here b same = ap (λ v. is_none_or v (λ loaded. addr == loaded)) last ∙ same

      module _ (same : (addr == w.line) ≡ true) where
        pub lost_line : w.stored ≡ false → Names r (D p addr strobe x line) 33 letter.D
        lost_line none least =
            pick_d x (is_some (last_exclusive_load r.past p)) (is_none_or (last_exclusive_load r.past p) (λ loaded. addr == loaded)) (has_stored_since r.past p)
            (has_held_since r.header r.past p addr) (ap is_some last) (here true same) (sym (s.stored w is) ∙ none) (left least)
