-- What the engine keeps, as its looks see it.
use Rattle.std.proofs.Common.{◌≡◌, ℕ, ◌<◌, Bool, true, List, length, map, Option, Some, slice_get, slice_index_or, sym, ap, subst, ◌∙◌}
use Rattle.ace_event.specs.declared.event.Channel.{Channel}
use Rattle.ace_event.specs.declared.event.Channel.TheVariants.{Read, Write}
use Rattle.ace_model.specs.declared.transactions.Transaction.{Transaction}
use Rattle.ace_model.specs.Grants.{has_grant}
use Rattle.ace_model.specs.Plans.{Plan}
use Rattle.ace_model.specs.Trace.{Trace}
use Rattle.ace_portck.specs.declared.ports.PortCheck.{PortCheck}
use Rattle.ace_portck.specs.declared.target.Progress.{Progress}
use Rattle.ace_portck.specs.Stands as ports
use Rattle.ace_lineck.specs.declared.lines.LineCheck.{LineCheck}
use Rattle.ace_lineck.specs.Stands as lines
use Rattle.ace_lineck.specs.Stands.{place_on}
use Rattle.ace_sysck.specs.declared.system.SysCheck.{SysCheck}
use Rattle.ace_sysck.specs.Stands as system
use Rattle.ace_portck.specs.Pending.{pending_of}
use Rattle.ace_portck.specs.Targets.{Recording, progress_of}
use Rattle.ace_model.proofs.General.Options.{Some-injective}
use Rattle.ace_engine.proofs.Listed.{listed-at}
use Rattle.ace_home.specs.declared.home.Home.{Home}
use Rattle.ace_home.specs.Home.{HomeStands, IsOf, IsServed, Tells}
use Rattle.ace_home.proofs.Outstanding.{of-channel}

abbrev pub recording : Plan → Trace → Recording
recording plan past = record { header = plan.header; past = past }

pub ports-stand : (s : Home) (plan : Plan) (past : Trace) (k : PortCheck) → HomeStands s plan past → k ≡ s.shares.ports → ports.Stands k (recording plan past)
ports-stand s plan past k stands is = subst (λ v. ports.Stands v (recording plan past)) (sym is) stands.shares.tell.ports

pub lines-stand : (s : Home) (plan : Plan) (past : Trace) (k : LineCheck) → HomeStands s plan past → k ≡ s.shares.lines → lines.Stands k (recording plan past)
lines-stand s plan past k stands is = subst (λ v. lines.Stands v (recording plan past)) (sym is) stands.shares.tell.lines

pub system-stand : (s : Home) (plan : Plan) (past : Trace) (k : SysCheck) → HomeStands s plan past → k ≡ s.shares.system → system.Stands k (recording plan past)
system-stand s plan past k stands is = subst (λ v. system.Stands v (recording plan past)) (sym is) stands.shares.tell.system

-- whether it has had its G
pub had : (s : Home) (plan : Plan) (past : Trace) (p : ℕ) (x : Progress) (b : Bool) → Tells s plan past p x → x.granted ≡ b
    → has_grant past x.transaction.port x.transaction.chan x.transaction.id ≡ b
had s plan past p x b t is = ap (λ (v : Progress). v.granted) (sym t.is) ∙ is

-- a granted one that is served
pub had-served : (s : Home) (plan : Plan) (past : Trace) (p : ℕ) (place : Option ℕ) (x : Progress) → IsServed s plan past p place x
    → has_grant past x.transaction.port x.transaction.chan x.transaction.id ≡ true
had-served s plan past p place x v = had s plan past p x true v.tells v.granted

-- the place of its line in what is kept of the lines
pub place-served : (s : Home) (plan : Plan) (past : Trace) (p : ℕ) (place : Option ℕ) (x : Progress) (k : LineCheck) → IsServed s plan past p place x → k ≡ s.shares.lines
    → place ≡ place_on k (Some x.transaction.addr)
place-served s plan past p place x k v is = v.at ∙ ap (λ l. place_on l (Some x.transaction.addr)) (sym is)

pub of-each-channel : (P : Channel → Type 0) → P Read → P Write → (c : Channel) → P c
of-each-channel P r w Read = r
of-each-channel P r w Write = w

-- an element of the list of a channel tells of an outstanding transaction
pub listed-tells : (s : Home) (plan : Plan) (past : Trace) (p : ℕ) (c : Channel) (list : List Progress) (k : ℕ) (d : Progress) → HomeStands s plan past
    → list ≡ map (progress_of plan.header past) (pending_of plan.header past p c) → k < length list
    → Tells s plan past p (slice_index_or list k d) × ((x : Transaction) → slice_get (pending_of plan.header past p c) k ≡ Some x → (slice_index_or list k d).transaction ≡ x)
listed-tells s plan past p c list k d stands is low =
    let h = plan.header in
    let y = listed-at (progress_of h past) (pending_of h past p c) list k d is low in
    let told = ap (λ (v : Progress). v.transaction) y.2 in (
      record {
        stands = stands;
        pending = subst (IsOf h past p) (sym told) (of-channel h past p k c y.0 y.1);
        is = y.2 ∙ ap (progress_of h past) (sym told);
      },
      λ x at. told ∙ Some-injective y.0 x (sym y.1 ∙ at),
    )
