use Rattle.std.proofs.Common.{◌≡◌, None, [], true, false, refl, sym, ap, subst, ◌∙◌}
use Rattle.std.proofs.lemmas.Bool.{lt-ltb}
use Rattle.ace_event.specs.declared.header.Header.{Header}
use Rattle.ace_model.specs.Transactions.{is_ace}
use Rattle.ace_portck.specs.OnePort.{OnePortStands}
use Rattle.ace_master.specs.Lite.{LiteTells}
use Rattle.ace_master.proofs.lite.LiteMaster.new.Goals as goal

pub returns-clause-stands : goal.returns-clause-stands
returns-clause-stands c =
    let plan = c.args.plan.now.plan in
    let s = c.in-Ok.port in
    let p = c.args.port in
    let same = c.in-Ok.ensures.port in
    let kept = subst (λ (h : Header). OnePortStands s h [] p) c.header.ensures c.in-Ok.ensures.stands in
    let tells : LiteTells plan [] p c.in_ok-operations.operations.items None None None = record {
      low = lt-ltb p plan.header.ports c.requires.port;
      lite = c.requires.lite;
      operations_are = c.in_ok-operations.ensures;
      issued = record { segment_is = refl; made = refl; acts = refl; whole = refl };
      sent = refl;
    } in
    record {
      port = record {
        legal = record { right = c.requires.right; accepted = tt; follows = tt; lean = tt };
        kept = subst (OnePortStands s plan.header []) (sym same) kept;
        room = λ ace. let bad : true ≡ false = sym ace ∙ ap (is_ace plan.header) same ∙ c.requires.lite in cc;
      };
      identifiers = c.none.ensures plan.header s.port;
      tells = subst (λ q. LiteTells plan [] q c.in_ok-operations.operations.items None None None) (sym same) tells;
    }
