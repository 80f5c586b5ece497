-- Operations that store ask for the line where their port doesn't hold it alone.
use Rattle.std.proofs.Common.{◌≡◌, ℕ, Bool, true, false, not, ◌||◌, [], ◌∷◌, refl, ap, inl}
use Rattle.std.proofs.lemmas.Bool.{and_parts, and_from, or_left}
use Rattle.ace_codes.specs.declared.kind.ArKind.TheVariants as read
use Rattle.ace_codes.specs.declared.state.LineState.{LineState}
use Rattle.ace_codes.specs.declared.state.LineState.TheVariants.{I, UC, UD, SC, SD}
use Rattle.ace_event.specs.declared.header.Header.{Header}
use Rattle.ace_event.specs.declared.line.Line.{Line}
use Rattle.ace_tables.specs.StartStates.{starts_read}
use Rattle.ace_tables.specs.States.{is_invalid, is_unique}
use Rattle.ace_model.specs.declared.plans.Op.TheVariants.{St, Stx, Fill}
use Rattle.ace_model.specs.Monitors.{is_monitored, is_set_by}
use Rattle.ace_model.specs.Plans.{Plan}
use Rattle.ace_model.specs.States.{state_of}
use Rattle.ace_model.specs.Trace.{Trace}
use Rattle.ace_model.specs.Transactions.{is_ace}
use Rattle.ace_runs.specs.Requests.{owns}
use Rattle.ace_runs.specs.Retiring.{has_failed_store}
use Rattle.ace_runs.proofs.NeverStuck.Operations.Kept.AsksKept.{ReadFits}
use Rattle.ace_runs.proofs.NeverStuck.Operations.Fits.Asking.{IsAsking, IsFit, own-read}
use Rattle.ace_runs.proofs.NeverStuck.Operations.Fits.Ends.{no-access, not-failed}
use Rattle.ace_runs.proofs.NeverStuck.Operations.Lines.OfPlan.{planned-ace}

-- a monitored line is held
monitored-held : (h : Header) (past : Trace) (p a : ℕ) → is_monitored h past p a ≡ true → is_invalid (state_of h past p a) ≡ false
monitored-held h [] p a m = cc
monitored-held h (e ∷ past) p a m = by (is_invalid (state_of h (e ∷ past) p a)) (and_parts (is_set_by e p a (is_monitored h past p a)) (not (is_invalid (state_of h (e ∷ past) p a))) m).1
  where
    by : (b : Bool) → not b ≡ true → b ≡ false
    by true t = cc
    by false t = refl

-- a line that is held, and not alone, may be made so
shared-starts : (st : LineState) → is_invalid st ≡ false → is_unique st ≡ false → starts_read read.CleanUnique st ≡ true
shared-starts I held alone = cc
shared-starts UC held alone = cc
shared-starts UD held alone = cc
shared-starts SC held alone = refl
shared-starts SD held alone = refl

module _ (plan : Plan) (past : Trace) (p a : ℕ) where
  abbrev h : Header
  h = plan.header

  pub store-fits : (w word : ℕ) → IsAsking plan past p (St a w word) → IsFit h past p (owns read.ReadUnique read.CleanUnique a (state_of h past p a))
  store-fits w word q = by (state_of h past p a) refl (no-access h past p (St a w word) q.made q.stays _ refl)
    where
      may : is_ace h p ≡ true
      may = planned-ace plan p (St a w word) q.planned refl

      by : (st : LineState) → state_of h past p a ≡ st → is_unique st ≡ false → IsFit h past p (owns read.ReadUnique read.CleanUnique a st)
      by I is alone = own-read plan past p (St a w word) q read.ReadUnique a false refl refl refl (or_left _ _ may) refl (ap (starts_read read.ReadUnique) is)
      by UC is alone = cc
      by UD is alone = cc
      by SC is alone = inl (own-read plan past p (St a w word) q read.CleanUnique a false refl refl refl (or_left _ _ may) refl (ap (starts_read read.CleanUnique) is))
      by SD is alone = inl (own-read plan past p (St a w word) q read.CleanUnique a false refl refl refl (or_left _ _ may) refl (ap (starts_read read.CleanUnique) is))

  pub fill-fits : (line : Line) → IsAsking plan past p (Fill a line) → IsFit h past p (owns read.MakeUnique read.MakeUnique a (state_of h past p a))
  fill-fits line q = by (state_of h past p a) refl (no-access h past p (Fill a line) q.made q.stays _ refl)
    where
      may : is_ace h p ≡ true
      may = planned-ace plan p (Fill a line) q.planned refl

      by : (st : LineState) → state_of h past p a ≡ st → is_unique st ≡ false → IsFit h past p (owns read.MakeUnique read.MakeUnique a st)
      by I is alone = own-read plan past p (Fill a line) q read.MakeUnique a false refl refl refl (or_left _ _ may) refl (ap (starts_read read.MakeUnique) is)
      by UC is alone = cc
      by UD is alone = cc
      by SC is alone = inl (own-read plan past p (Fill a line) q read.MakeUnique a false refl refl refl (or_left _ _ may) refl (ap (starts_read read.MakeUnique) is))
      by SD is alone = inl (own-read plan past p (Fill a line) q read.MakeUnique a false refl refl refl (or_left _ _ may) refl (ap (starts_read read.MakeUnique) is))

  -- an exclusive store that can't fail any more than end has its line monitored, and so held
  pub exclusive-store-fits : (w word : ℕ) → IsAsking plan past p (Stx a w word) → ReadFits h past p read.CleanUnique a true
  exclusive-store-fits w word q =
      let ace = planned-ace plan p (Stx a w word) q.planned refl in
      let alone = no-access h past p (Stx a w word) q.made q.stays _ refl in
      let monitored = set (is_monitored h past p a) (has_failed_store past p a) (not-failed h past p (Stx a w word) q.made q.stays) in
      own-read plan past p (Stx a w word) q read.CleanUnique a true refl refl refl (or_left _ _ ace) (and_from _ _ ace refl)
      (shared-starts (state_of h past p a) (monitored-held h past p a monitored) alone)
    where
      set : (m f : Bool) → (not m || f) ≡ false → m ≡ true
      set true f n = refl
      set false f n = cc
