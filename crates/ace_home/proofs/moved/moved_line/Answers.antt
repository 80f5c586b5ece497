use Rattle.std.proofs.Common.{Some, option_map, ap, sym, ◌∙◌}
use Rattle.ace_model.specs.declared.snoops.Snoop.{Snoop}
use Rattle.ace_portck.specs.declared.target.Progress.{Progress}
use Rattle.ace_portck.specs.Targets.{line_in}
use Rattle.ace_home.proofs.HeldUp.{on-address, on-silent, on-snoop, on-transaction, still-calm, still-off}
use Rattle.ace_home.proofs.moved.moved_line.Goals as goal

pub returns-in-Ac : goal.returns-in-Ac
returns-in-Ac c = λ h past l a s off.
    still-off h past c.args.event.now l (Some c.in-Ac.addr) a (λ on. on-address h past c.in-Ac.port c.in-Ac.addr c.in-Ac.snoop l (ap (line_in h past) (sym c.in-Ac.is) ∙ on)) off

pub returns-in-S : goal.returns-in-S
returns-in-S c = λ h past l a s off.
    still-off h past c.args.event.now l (Some c.in-S.addr) a (λ on. on-silent h past c.in-S.port c.in-S.addr l c.in-S.st (ap (line_in h past) (sym c.in-S.is) ∙ on)) off

pub returns-in-Cr : goal.returns-in-Cr
returns-in-Cr c = λ h past l a s off.
    still-off h past c.args.event.now l c.snooped_address.result a (λ on.
    c.snooped_address.ensures ∙ ap (option_map (λ (v : Snoop). v.addr)) (c.copied.ensures ∙ c.answered.ensures (record { header = h; past = past }) s)
    ∙ on-snoop _ l (ap (line_in h past) (sym c.in-Cr.is) ∙ on)) off

pub returns-in-Cd : goal.returns-in-Cd
returns-in-Cd c = λ h past l a s off.
    still-off h past c.args.event.now l c.snooped_address-in-Cd.result a (λ on.
    c.snooped_address-in-Cd.ensures ∙ ap (option_map (λ (v : Snoop). v.addr)) (c.sending.ensures (record { header = h; past = past }) s)
    ∙ on-snoop _ l (ap (line_in h past) (sym c.in-Cd.is) ∙ on)) off

pub returns-in-R : goal.returns-in-R
returns-in-R c = λ h past l a s off.
    still-off h past c.args.event.now l c.address_of.result a (λ on.
    c.address_of.ensures ∙ ap (option_map (λ (v : Progress). v.transaction.addr)) (c.outstanding.ensures (record { header = h; past = past }) s)
    ∙ on-transaction _ l (ap (line_in h past) (sym c.in-R.is) ∙ on)) off

pub returns-in-B : goal.returns-in-B
returns-in-B c = λ h past l a s off.
    still-off h past c.args.event.now l c.address_of-in-B.result a (λ on.
    c.address_of-in-B.ensures ∙ ap (option_map (λ (v : Progress). v.transaction.addr)) (c.outstanding-in-B.ensures (record { header = h; past = past }) s)
    ∙ on-transaction _ l (ap (line_in h past) (sym c.in-B.is) ∙ on)) off

pub returns-in-G : goal.returns-in-G
returns-in-G c = λ h past l a s off.
    still-off h past c.args.event.now l c.address_of-in-G.result a (λ on.
    c.address_of-in-G.ensures ∙ ap (option_map (λ (v : Progress). v.transaction.addr)) (c.outstanding-in-G.ensures (record { header = h; past = past }) s)
    ∙ on-transaction _ l (ap (line_in h past) (sym c.in-G.is) ∙ on)) off

pub returns-in-M : goal.returns-in-M
returns-in-M c = λ h past l a s off.
    still-off h past c.args.event.now l c.address_of-in-M.result a (λ on.
    c.address_of-in-M.ensures ∙ ap (option_map (λ (v : Progress). v.transaction.addr)) (c.outstanding-in-M.ensures (record { header = h; past = past }) s)
    ∙ on-transaction _ l (ap (line_in h past) (sym c.in-M.is) ∙ on)) off

pub returns-in-Rk : goal.returns-in-Rk
returns-in-Rk c = λ h past l a s off.
    still-off h past c.args.event.now l c.address_of-in-Rk.result a (λ on.
    c.address_of-in-Rk.ensures ∙ ap (option_map (λ (v : Progress). v.transaction.addr)) (c.acknowledged.ensures (record { header = h; past = past }) s)
    ∙ on-transaction _ l (ap (line_in h past) (sym c.in-Rk.is) ∙ on)) off

pub returns-in-Wk : goal.returns-in-Wk
returns-in-Wk c = λ h past l a s off.
    still-off h past c.args.event.now l c.address_of-in-Wk.result a (λ on.
    c.address_of-in-Wk.ensures ∙ ap (option_map (λ (v : Progress). v.transaction.addr)) (c.acknowledged-in-Wk.ensures (record { header = h; past = past }) s)
    ∙ on-transaction _ l (ap (line_in h past) (sym c.in-Wk.is) ∙ on)) off

pub returns-in_default : goal.returns-in_default
returns-in_default c = λ h past l a s off.
    let d = c.in_default in
    still-calm h past c.args.event.now l a (record {
      read = d.not-R;
      read_end = d.not-Rk;
      response = d.not-B;
      write_end = d.not-Wk;
      snoop = d.not-Ac;
      answer = d.not-Cr;
      sent = d.not-Cd;
      grant = d.not-G;
      memory = d.not-M;
      silent = d.not-S;
    })
