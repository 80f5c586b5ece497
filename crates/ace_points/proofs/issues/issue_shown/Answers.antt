use Rattle.std.proofs.Common.{◌≡◌, ap, refl, ◌∙◌}
use Rattle.ace_model.specs.Transactions.{is_ace}
use Rattle.ace_points.proofs.issues.issue_shown.Goals as goal

pub returns : goal.returns
returns c = λ r p l s.
    let port = c.args.x.now.port in
    let ace : c.is_ace-ace.result ≡ is_ace r.header port = c.is_ace-ace.ensures ∙ ap (λ h. is_ace h port) (c.header.ensures r p) in
    rw (c.kind_shown.ensures, c.special_shown.ensures r s ace, c.start_shown.ensures, c.state_at-held.ensures r l, c.read_kind-read.ensures, c.write_kind-write.ensures, ace) refl
