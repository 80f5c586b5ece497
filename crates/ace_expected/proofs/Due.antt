-- What a write is due to write to memory, by what is kept of its burst.
use Rattle.std.proofs.Common.{◌≡◌, ℕ, Option, Some, None, if◌then◌else◌, is_some, refl, sym, ◌∙◌}
use Rattle.ace_event.specs.declared.event.Channel.{Channel}
use Rattle.ace_event.specs.declared.event.Event.TheVariants.{M}
use Rattle.ace_event.specs.declared.header.Header.{Header}
use Rattle.ace_event.specs.declared.line.Line.{Line}
use Rattle.ace_model.specs.Trace.{Trace}
use Rattle.ace_model.specs.Transactions.{outstanding}
use Rattle.ace_model.specs.WriteRules.{data_of}
use Rattle.ace_model.specs.declared.transactions.Transaction.{Transaction}
use Rattle.ace_portck.specs.Targets.{data_in, data_of_write}
use Rattle.ace_portck.specs.declared.target.WriteData.{WriteData}

module _ (h : Header) (past : Trace) (x : Transaction) (p : ℕ) (c : Channel) (i : ℕ) (line : Line) (out : outstanding h past p c i ≡ Some x) where
  pub burst_is : (o : Option WriteData) → o ≡ data_in h past (M p c i line) → data_of_write past x ≡ o
  burst_is o is = sym (is ∙ (rw out refl))

  pub no_burst : (o : Option WriteData) → o ≡ data_in h past (M p c i line) → o ≡ None
      → None ≡ (if is_some (data_of_write past x) then data_of h past x else None)
  no_burst o is none = let lacks : data_of_write past x ≡ None = burst_is o is ∙ none in rw lacks refl

  pub whole_burst : (o : Option WriteData) (b : WriteData) (due : Line) → o ≡ data_in h past (M p c i line) → o ≡ Some b
      → Some due ≡ data_of h past x → Some due ≡ (if is_some (data_of_write past x) then data_of h past x else None)
  whole_burst o b due is some same = let has : data_of_write past x ≡ Some b = burst_is o is ∙ some in rw has same
