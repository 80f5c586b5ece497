-- Names, real addresses and remarks of one line more.
use Rattle.std.proofs.Common.{◌≡◌, ℕ, true, false, ◌==◌, List, ◌∷◌, Option, Some, None, sym, ◌∙◌, cond, inl, inr}
use Rattle.std.proofs.lemmas.Bool.{cases_Bool, eqb-true}
use Rattle.ace_side.specs.Order.{first_of}
use Rattle.ace_side.specs.declared.line.SideLine.{SideLine}
use Rattle.ace_side_facts.proofs.Lookups.{first_of_none}
use Rattle.ace_side_facts.specs.Facts.{is_among}
use Rattle.ace_side_facts.specs.Gathering.{LabelsStand}
use Rattle.ace_side_facts.specs.Sayings.{name_said, note_said, real_said, unit_said}
use Rattle.ace_side_facts.specs.declared.labels.Labels.{Labels}
use Rattle.ace_side_facts.specs.declared.query.Query.{Query}

pub said_nothing : {A : Type 0} (o : Option A) → o ≡ first_of o None
said_nothing o = sym (first_of_none o)

-- what is not asked for says nothing of what is asked for
pub not_asked : {A : Type 0} (xs : List ℕ) (n q : ℕ) (o : Option A) (x : A) → is_among xs n ≡ false → is_among xs q ≡ true
    → o ≡ first_of o (cond (n == q) (Some x) None)
not_asked xs n q o x out asked =
    elim (cases_Bool (n == q)) [
      | inl same ↦ let is = eqb-true n q same in absurd (cc)
      | inr other ↦ rw other (sym (first_of_none o))
    ]

-- a line that says nothing of them
pub labels_stay : (query : Query) (past : List SideLine) (line : SideLine) (l : Labels) → unit_said line ≡ None
    → ((port : ℕ) → name_said port line ≡ None) → ((addr : ℕ) → real_said addr line ≡ None)
    → ((event : ℕ) → note_said event line ≡ None) → LabelsStand query past l → LabelsStand query (line ∷ past) l
labels_stay query past line l unit name real note stands = record {
  unit = stands.unit ∙ sym (rw unit (first_of_none _));
  names = λ port. stands.names port ∙ sym (rw (name port) (first_of_none _));
  reals = λ addr asked. stands.reals addr asked ∙ sym (rw (real addr) (first_of_none _));
  notes = λ event asked. stands.notes event asked ∙ sym (rw (note event) (first_of_none _));
}
