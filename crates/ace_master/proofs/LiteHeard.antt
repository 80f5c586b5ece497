-- What the master of an ACE-Lite port keeps stands after an event that leaves what the port has done.
use Rattle.std.proofs.Common.{◌≡◌, ℕ, ◌*◌, ◌∷◌, List, length, Option, Some, None, slice_get, refl, sym, ap, ◌∙◌, arith}
use Rattle.ace_event.specs.declared.event.Event.{Event}
use Rattle.ace_model.specs.declared.plans.Op.{Op}
use Rattle.ace_model.specs.declared.transactions.Transaction.{Transaction}
use Rattle.ace_model.specs.Plans.{Plan}
use Rattle.ace_model.specs.Trace.{Trace}
use Rattle.ace_model.specs.Writes.{data_writes}
use Rattle.ace_model.proofs.General.Lists.{slice_get-at_end}
use Rattle.ace_model.proofs.Trace.Growth.{at_point-before}
use Rattle.ace_model.proofs.Trace.UnwrittenWrites.{data_write-at}
use Rattle.ace_runs.specs.Operations.{next_operation, operation_behind}
use Rattle.ace_portck.specs.declared.target.WriteData.{WriteData}
use Rattle.ace_master.specs.Lite.{AreIssued, AreSent, IsUnsent, LiteTells, are_none_or_all}
use Rattle.ace_master.proofs.OtherEvents.{IsLeft, next-left}

-- the last write is the port's, and was issued
last-there : (plan : Plan) (past : Trace) (p : ℕ) (d : WriteData) → (u : IsUnsent plan past p d) → slice_get (data_writes past p) (length u.earlier) ≡ Some u.last
last-there plan past p d u = ap (λ (xs : List Transaction). slice_get xs (length u.earlier)) u.writes ∙ slice_get-at_end u.earlier (length u.earlier) u.last refl

-- the operation behind a write of the port stays
pub behind-left : (plan : Plan) (past : Trace) (p n : ℕ) (x : Transaction) (e : Event) → slice_get (data_writes past p) n ≡ Some x → operation_behind plan (e ∷ past) x ≡ operation_behind plan past x
behind-left plan past p n x e there =
    let low = (data_write-at past p n x there).issued.before in
    ap (λ (t : Trace). next_operation plan t x.port) (at_point-before e past x.place (omega (arith, low)))

sent-left : (plan : Plan) (past : Trace) (p : ℕ) (e : Event) (unsent : Option WriteData) → IsLeft past p e → AreSent plan past p unsent → AreSent plan (e ∷ past) p unsent
sent-left plan past p e None l sent = ap length l.beats_are ∙ sent ∙ sym (ap (λ (xs : List Transaction). 4 * length xs) l.writes)
sent-left plan past p e (Some d) l u = record {
  earlier = u.earlier;
  last = u.last;
  writes = l.writes ∙ u.writes;
  sent = ap length l.beats_are ∙ u.sent;
  behind = u.behind;
  is_behind = behind-left plan past p (length u.earlier) u.last e (last-there plan past p d u) ∙ u.is_behind;
  kind = u.kind;
  carries = u.carries;
}

issued-left : (plan : Plan) (past : Trace) (p : ℕ) (e : Event) (xs : List Transaction) → IsLeft past p e → AreIssued plan past p xs → AreIssued plan (e ∷ past) p xs
issued-left plan past p e xs l i = record {
  segment_is = l.segment_is ∙ i.segment_is;
  made = l.made ∙ i.made;
  acts = i.acts;
  whole = ap (λ o. are_none_or_all o xs) (next-left plan past p e l) ∙ i.whole;
}

pub tells-left : (plan : Plan) (past : Trace) (p : ℕ) (e : Event) (operations : List Op) (reads writes : Option Transaction) (unsent : Option WriteData) → IsLeft past p e
    → LiteTells plan past p operations reads writes unsent → LiteTells plan (e ∷ past) p operations reads writes unsent
tells-left plan past p e operations reads writes unsent l t = record {
  low = t.low;
  lite = t.lite;
  operations_are = t.operations_are;
  issued = issued-left plan past p e _ l t.issued;
  sent = sent-left plan past p e unsent l t.sent;
}
