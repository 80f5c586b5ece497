-- The four W of a burst that isn't sent are a step of an ACE-Lite port.
use Rattle.std.proofs.Common.{◌≡◌, ℕ, ◌/◌, List, [], ◌∷◌, length, length-append, Option, Some, None, slice_get, refl, ap, ◌∙◌, arith}
use Rattle.std.proofs.lemmas.Bool.{and_from}
use Rattle.ace_model.specs.declared.plans.Op.{Op}
use Rattle.ace_model.specs.declared.transactions.Transaction.{Transaction}
use Rattle.ace_model.specs.Plans.{Plan}
use Rattle.ace_model.specs.Trace.{Trace}
use Rattle.ace_model.specs.Writes.{beats, data_writes, next_write, next_write_beat}
use Rattle.ace_model.proofs.General.Lists.{slice_get-at_end}
use Rattle.ace_engine.specs.Engines.{IsLegal}
use Rattle.ace_portck.specs.declared.target.WriteData.{WriteData}
use Rattle.ace_master.specs.Lite.{LiteTells}
use Rattle.ace_master.specs.Operations.{beats_of_data}
use Rattle.ace_master.proofs.WriteData.BeatsSent.{send-all}
use Rattle.ace_master.proofs.WriteData.BurstData.{operation-carries}
use Rattle.ace_master.proofs.LiteMoves.{sends-step}
use Rattle.ace_master.proofs.LiteNext.{IsNext}

module _ (plan : Plan) (past : Trace) (p : ℕ) (legal : IsLegal plan past) (operations : List Op) (reads writes : Option Transaction) (d : WriteData)
    (t : LiteTells plan past p operations reads writes (Some d)) where
  pub send-next : IsNext plan past p (beats_of_data p d) operations reads writes None
  send-next =
      let u = t.sent in
      let sent = u.sent in
      let number : length (beats past p) / 4 ≡ length u.earlier = omega (arith, sent) in
      let first : next_write_beat past p ≡ 0 = omega (arith, sent) in
      let next : next_write past p ≡ Some u.last =
      ap (slice_get (data_writes past p)) number ∙ ap (λ (xs : List Transaction). slice_get xs (length u.earlier)) u.writes ∙ slice_get-at_end u.earlier (length u.earlier) u.last refl in
      let s = send-all plan past p u.last d legal next first
      (operation-carries plan past u.last d (record { behind = u.behind; is_behind = u.is_behind; kind = u.kind; carries = u.carries })) in
      record {
        step = sends-step plan past p legal t.lite (beats_of_data p d) (and_from _ _ (and_from _ _ refl refl) s.kept) s.may s.step;
        legal = s.legal;
        tells = record {
          low = t.low;
          lite = t.lite;
          operations_are = t.operations_are;
          issued = record {
            segment_is = t.issued.segment_is;
            made = s.made ∙ t.issued.made;
            acts = t.issued.acts;
            whole = t.issued.whole;
          };
          sent = (let more = s.more in let many = ap length u.writes ∙ length-append u.earlier (u.last ∷ []) in omega (arith, more, sent, many));
        };
      }
