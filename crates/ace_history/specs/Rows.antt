-- The plan and the entries that the rows speak of.
use Rattle.std.specs.Prelude.{ℕ, List}
use Rattle.ace_event.specs.declared.event.Outcome.TheVariants.{Ok, Fail}
use Rattle.ace_model.specs.declared.plans.Op.TheVariants.{Ld, Ldx, St, Stx}
use Rattle.ace_model.specs.declared.plans.PlanOp.{PlanOp}
use Rattle.ace_model.specs.declared.plans.PolicyWord.TheVariants.{Keep}
use Rattle.ace_model.specs.Plans.{Plan}
use Rattle.ace_history.specs.declared.entry.Entry.{Entry}
use Rattle.ace_history.specs.Histories.{entry}

-- two ACE ports with caches of two lines
abbrev pub row_plan : List PlanOp → Plan
row_plan operations = record {
  header = record { version = 1; ports = 2; ace = 3 };
  ways = 2;
  policy = Keep;
  operations = operations;
}

-- the port has stored the word as word 0 of the line; it has loaded the word as word w of it
abbrev pub stored : ℕ → ℕ → ℕ → Entry
stored p a word = entry p Ok 0 (St a 0 word)

abbrev pub loaded : ℕ → ℕ → ℕ → ℕ → Entry
loaded p a w word = entry p Ok word (Ld a w)

-- the same exclusively of word 0: a load, a store that is `ok`, a store that fails
abbrev pub reserved : ℕ → ℕ → ℕ → Entry
reserved p a word = entry p Ok word (Ldx a 0)

abbrev pub tried : ℕ → ℕ → ℕ → Entry
tried p a word = entry p Ok 0 (Stx a 0 word)

abbrev pub failed : ℕ → ℕ → ℕ → Entry
failed p a word = entry p Fail 0 (Stx a 0 word)
