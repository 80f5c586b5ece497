use Rattle.std.proofs.Common.{◌∙◌}
use Rattle.ace_fabric.proofs.Moves.{still}
use Rattle.ace_fabric.proofs.Taken.{no-kind-enabled}
use Rattle.ace_fabric.proofs.moving.by_any.Goals as goal

pub by_master-requires-clause-run : goal.by_master-requires-clause-run
by_master-requires-clause-run g c = let run = c.requires.run in (run.0, run.1, run.2, run.3)

pub by_update-requires-clause-run : goal.by_update-requires-clause-run
by_update-requires-clause-run g c =
    let plan = c.requires.run.0 in
    let past = c.requires.run.1 in
    let r1 = still g.H.Engine g.U.Engine g.O.Engine g.M.Engine plan past c.args.home.now c.by_master.new.home c.args.update.now c.by_master.new.update c.args.order.now c.by_master.new.order c.args.masters.now c.by_master.new.masters (c.by_master.ensures.unchanged c.if-by_master.false).0 (c.by_master.ensures.unchanged c.if-by_master.false).1 (c.by_master.ensures.unchanged c.if-by_master.false).2 (c.by_master.ensures.unchanged c.if-by_master.false).3 c.requires.run.2 in
    (plan, past, r1, c.requires.run.3)

pub by_home-requires-clause-run : goal.by_home-requires-clause-run
by_home-requires-clause-run g c =
    let plan = c.requires.run.0 in
    let past = c.requires.run.1 in
    let r1 = still g.H.Engine g.U.Engine g.O.Engine g.M.Engine plan past c.args.home.now c.by_master.new.home c.args.update.now c.by_master.new.update c.args.order.now c.by_master.new.order c.args.masters.now c.by_master.new.masters (c.by_master.ensures.unchanged c.if-by_master.false).0 (c.by_master.ensures.unchanged c.if-by_master.false).1 (c.by_master.ensures.unchanged c.if-by_master.false).2 (c.by_master.ensures.unchanged c.if-by_master.false).3 c.requires.run.2 in
    let r2 = still g.H.Engine g.U.Engine g.O.Engine g.M.Engine plan past c.by_master.new.home c.by_update.new.home c.by_master.new.update c.by_update.new.update c.by_master.new.order c.by_update.new.order c.by_master.new.masters c.by_update.new.masters (c.by_update.ensures.unchanged c.if-by_update.false).0 (c.by_update.ensures.unchanged c.if-by_update.false).1 (c.by_update.ensures.unchanged c.if-by_update.false).2 (c.by_update.ensures.unchanged c.if-by_update.false).3 r1 in
    (plan, past, r2, c.requires.run.3, c.requires.run.4)

pub by_order-requires-clause-run : goal.by_order-requires-clause-run
by_order-requires-clause-run g c =
    let plan = c.requires.run.0 in
    let past = c.requires.run.1 in
    let r1 = still g.H.Engine g.U.Engine g.O.Engine g.M.Engine plan past c.args.home.now c.by_master.new.home c.args.update.now c.by_master.new.update c.args.order.now c.by_master.new.order c.args.masters.now c.by_master.new.masters (c.by_master.ensures.unchanged c.if-by_master.false).0 (c.by_master.ensures.unchanged c.if-by_master.false).1 (c.by_master.ensures.unchanged c.if-by_master.false).2 (c.by_master.ensures.unchanged c.if-by_master.false).3 c.requires.run.2 in
    let r2 = still g.H.Engine g.U.Engine g.O.Engine g.M.Engine plan past c.by_master.new.home c.by_update.new.home c.by_master.new.update c.by_update.new.update c.by_master.new.order c.by_update.new.order c.by_master.new.masters c.by_update.new.masters (c.by_update.ensures.unchanged c.if-by_update.false).0 (c.by_update.ensures.unchanged c.if-by_update.false).1 (c.by_update.ensures.unchanged c.if-by_update.false).2 (c.by_update.ensures.unchanged c.if-by_update.false).3 r1 in
    let r3 = still g.H.Engine g.U.Engine g.O.Engine g.M.Engine plan past c.by_update.new.home c.by_home.new.home c.by_update.new.update c.by_home.new.update c.by_update.new.order c.by_home.new.order c.by_update.new.masters c.by_home.new.masters (c.by_home.ensures.unchanged c.if-by_home.false).0 (c.by_home.ensures.unchanged c.if-by_home.false).1 (c.by_home.ensures.unchanged c.if-by_home.false).2 (c.by_home.ensures.unchanged c.if-by_home.false).3 r2 in
    (plan, past, r3, c.requires.run.3)

pub returns-then-by_master-clause-moved : goal.returns-then-by_master-clause-moved
returns-then-by_master-clause-moved g c = λ t plan past r.
    c.by_master.ensures.moved c.if-by_master.true (g.F.Among.has c.args.among.now) plan past r

pub returns-then-by_update-clause-moved : goal.returns-then-by_update-clause-moved
returns-then-by_update-clause-moved g c = λ t plan past r.
    let r1 = still g.H.Engine g.U.Engine g.O.Engine g.M.Engine plan past c.args.home.now c.by_master.new.home c.args.update.now c.by_master.new.update c.args.order.now c.by_master.new.order c.args.masters.now c.by_master.new.masters (c.by_master.ensures.unchanged c.if-by_master.false).0 (c.by_master.ensures.unchanged c.if-by_master.false).1 (c.by_master.ensures.unchanged c.if-by_master.false).2 (c.by_master.ensures.unchanged c.if-by_master.false).3 r in
    c.by_update.ensures.moved c.if-by_update.true (g.F.Among.has c.args.among.now) plan past r1

pub returns-then-by_home-clause-moved : goal.returns-then-by_home-clause-moved
returns-then-by_home-clause-moved g c = λ t plan past r.
    let r1 = still g.H.Engine g.U.Engine g.O.Engine g.M.Engine plan past c.args.home.now c.by_master.new.home c.args.update.now c.by_master.new.update c.args.order.now c.by_master.new.order c.args.masters.now c.by_master.new.masters (c.by_master.ensures.unchanged c.if-by_master.false).0 (c.by_master.ensures.unchanged c.if-by_master.false).1 (c.by_master.ensures.unchanged c.if-by_master.false).2 (c.by_master.ensures.unchanged c.if-by_master.false).3 r in
    let r2 = still g.H.Engine g.U.Engine g.O.Engine g.M.Engine plan past c.by_master.new.home c.by_update.new.home c.by_master.new.update c.by_update.new.update c.by_master.new.order c.by_update.new.order c.by_master.new.masters c.by_update.new.masters (c.by_update.ensures.unchanged c.if-by_update.false).0 (c.by_update.ensures.unchanged c.if-by_update.false).1 (c.by_update.ensures.unchanged c.if-by_update.false).2 (c.by_update.ensures.unchanged c.if-by_update.false).3 r1 in
    c.by_home.ensures.moved c.if-by_home.true plan past r2

pub returns-clause-moved : goal.returns-clause-moved
returns-clause-moved g c = λ t plan past r.
    let r1 = still g.H.Engine g.U.Engine g.O.Engine g.M.Engine plan past c.args.home.now c.by_master.new.home c.args.update.now c.by_master.new.update c.args.order.now c.by_master.new.order c.args.masters.now c.by_master.new.masters (c.by_master.ensures.unchanged c.if-by_master.false).0 (c.by_master.ensures.unchanged c.if-by_master.false).1 (c.by_master.ensures.unchanged c.if-by_master.false).2 (c.by_master.ensures.unchanged c.if-by_master.false).3 r in
    let r2 = still g.H.Engine g.U.Engine g.O.Engine g.M.Engine plan past c.by_master.new.home c.by_update.new.home c.by_master.new.update c.by_update.new.update c.by_master.new.order c.by_update.new.order c.by_master.new.masters c.by_update.new.masters (c.by_update.ensures.unchanged c.if-by_update.false).0 (c.by_update.ensures.unchanged c.if-by_update.false).1 (c.by_update.ensures.unchanged c.if-by_update.false).2 (c.by_update.ensures.unchanged c.if-by_update.false).3 r1 in
    let r3 = still g.H.Engine g.U.Engine g.O.Engine g.M.Engine plan past c.by_update.new.home c.by_home.new.home c.by_update.new.update c.by_home.new.update c.by_update.new.order c.by_home.new.order c.by_update.new.masters c.by_home.new.masters (c.by_home.ensures.unchanged c.if-by_home.false).0 (c.by_home.ensures.unchanged c.if-by_home.false).1 (c.by_home.ensures.unchanged c.if-by_home.false).2 (c.by_home.ensures.unchanged c.if-by_home.false).3 r2 in
    c.by_order.ensures.moved t (g.F.Among.has c.args.among.now) plan past r3

pub returns-clause-none : goal.returns-clause-none
returns-clause-none g c = λ t plan past r.
    let r1 = still g.H.Engine g.U.Engine g.O.Engine g.M.Engine plan past c.args.home.now c.by_master.new.home c.args.update.now c.by_master.new.update c.args.order.now c.by_master.new.order c.args.masters.now c.by_master.new.masters (c.by_master.ensures.unchanged c.if-by_master.false).0 (c.by_master.ensures.unchanged c.if-by_master.false).1 (c.by_master.ensures.unchanged c.if-by_master.false).2 (c.by_master.ensures.unchanged c.if-by_master.false).3 r in
    let r2 = still g.H.Engine g.U.Engine g.O.Engine g.M.Engine plan past c.by_master.new.home c.by_update.new.home c.by_master.new.update c.by_update.new.update c.by_master.new.order c.by_update.new.order c.by_master.new.masters c.by_update.new.masters (c.by_update.ensures.unchanged c.if-by_update.false).0 (c.by_update.ensures.unchanged c.if-by_update.false).1 (c.by_update.ensures.unchanged c.if-by_update.false).2 (c.by_update.ensures.unchanged c.if-by_update.false).3 r1 in
    let r3 = still g.H.Engine g.U.Engine g.O.Engine g.M.Engine plan past c.by_update.new.home c.by_home.new.home c.by_update.new.update c.by_home.new.update c.by_update.new.order c.by_home.new.order c.by_update.new.masters c.by_home.new.masters (c.by_home.ensures.unchanged c.if-by_home.false).0 (c.by_home.ensures.unchanged c.if-by_home.false).1 (c.by_home.ensures.unchanged c.if-by_home.false).2 (c.by_home.ensures.unchanged c.if-by_home.false).3 r2 in
    no-kind-enabled (g.F.Among.has c.args.among.now) plan past c.args.port (c.by_master.ensures.none c.if-by_master.false plan past r) (c.by_update.ensures.none c.if-by_update.false plan past r1)
    (c.by_home.ensures.none c.if-by_home.false plan past r2) (c.by_order.ensures.none t plan past r3)

pub returns-clause-unchanged : goal.returns-clause-unchanged
returns-clause-unchanged g c = λ t.
    let a = c.by_master.ensures.unchanged c.if-by_master.false in
    let b = c.by_update.ensures.unchanged c.if-by_update.false in
    let d = c.by_home.ensures.unchanged c.if-by_home.false in
    let e = c.by_order.ensures.unchanged t in
    (e.0 ∙ d.0 ∙ b.0 ∙ a.0, e.1 ∙ d.1 ∙ b.1 ∙ a.1, e.2 ∙ d.2 ∙ b.2 ∙ a.2, e.3 ∙ d.3 ∙ b.3 ∙ a.3, e.4)
