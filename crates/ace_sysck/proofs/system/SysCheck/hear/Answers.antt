use Rattle.std.proofs.Common.{sym, ap, subst}
use Rattle.ace_sysck.proofs.Terms.{is_issue, Hears}
use Rattle.ace_sysck.proofs.Unmoved.{moves_nothing}
use Rattle.ace_sysck.proofs.WhatIsHeard.{heard, heard_still}
use Rattle.ace_sysck.proofs.system.SysCheck.hear.Goals as goal

pub returns-in-Ar : goal.returns-in-Ar
returns-in-Ar c = c.hear_address.ensures (ap is_issue c.in-Ar.is)

pub returns-in-Aw : goal.returns-in-Aw
returns-in-Aw c = c.hear_address-in-Aw.ensures (ap is_issue c.in-Aw.is)

pub returns-in-R : goal.returns-in-R
returns-in-R c = subst (λ e. Hears c.args.self.now c.args.ports.now e c.hear_transfer.new.self) (sym c.in-R.is) (c.hear_transfer.ensures _ _)

pub returns-in-B : goal.returns-in-B
returns-in-B c = subst (λ e. Hears c.args.self.now c.args.ports.now e c.hear_response.new.self) (sym c.in-B.is) (c.hear_response.ensures _)

pub returns-in-Rk : goal.returns-in-Rk
returns-in-Rk c = subst (λ e. Hears c.args.self.now c.args.ports.now e c.hear_acknowledge.new.self) (sym c.in-Rk.is) (c.hear_acknowledge.ensures)

pub returns-in-Wk : goal.returns-in-Wk
returns-in-Wk c = subst (λ e. Hears c.args.self.now c.args.ports.now e c.hear_acknowledge-in-Wk.new.self) (sym c.in-Wk.is) (c.hear_acknowledge-in-Wk.ensures)

pub returns-in-Ac : goal.returns-in-Ac
returns-in-Ac c = subst (λ e. Hears c.args.self.now c.args.ports.now e c.hear_snoop.new.self) (sym c.in-Ac.is) (c.hear_snoop.ensures c.args.ports.now _)

pub returns-in-Cr : goal.returns-in-Cr
returns-in-Cr c = subst (λ e. Hears c.args.self.now c.args.ports.now e c.hear_answer.new.self) (sym c.in-Cr.is) (c.hear_answer.ensures _)

pub returns-in-G : goal.returns-in-G
returns-in-G c = subst (λ e. Hears c.args.self.now c.args.ports.now e c.hear_granted.new.self) (sym c.in-G.is) (c.hear_granted.ensures)

pub returns-in-L : goal.returns-in-L
returns-in-L c =
    subst (λ e. Hears c.args.self.now c.args.ports.now e c.load.new.self) (sym c.in-L.is)
    (heard c.args.self.now c.load.new.self c.args.ports.now _ (λ r. c.load.ensures.stands r _ _) c.load.ensures.roomy)

pub returns-in-D : goal.returns-in-D
returns-in-D c =
    subst (λ e. Hears c.args.self.now c.args.ports.now e c.store.new.self) (sym c.in-D.is)
    (heard c.args.self.now c.store.new.self c.args.ports.now _ (λ r. c.store.ensures.stands r _ _ _) c.store.ensures.roomy)

pub returns-in-S : goal.returns-in-S
returns-in-S c =
    subst (λ e. Hears c.args.self.now c.args.ports.now e c.change.new.self) (sym c.in-S.is)
    (heard c.args.self.now c.change.new.self c.args.ports.now _ (λ r. c.change.ensures.stands r) c.change.ensures.roomy)

pub returns-in-W : goal.returns-in-W
returns-in-W c = heard_still c.args.self.now c.args.ports.now c.args.event.now (ap moves_nothing c.in-W.is)

pub returns-in-Cd : goal.returns-in-Cd
returns-in-Cd c = heard_still c.args.self.now c.args.ports.now c.args.event.now (ap moves_nothing c.in-Cd.is)

pub returns-in-M : goal.returns-in-M
returns-in-M c = heard_still c.args.self.now c.args.ports.now c.args.event.now (ap moves_nothing c.in-M.is)

pub returns-in-Op : goal.returns-in-Op
returns-in-Op c = heard_still c.args.self.now c.args.ports.now c.args.event.now (ap moves_nothing c.in-Op.is)

pub returns-in-Mem : goal.returns-in-Mem
returns-in-Mem c = heard_still c.args.self.now c.args.ports.now c.args.event.now (ap moves_nothing c.in-Mem.is)
