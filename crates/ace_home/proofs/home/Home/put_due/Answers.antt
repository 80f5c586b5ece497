use Rattle.std.proofs.Common.{◌≡◌, ◌⊎◌, ℕ, ◌+◌, ◌<◌, Some, slice_get, sym, ap, subst, ◌∙◌, inl, inr, arith}
use Rattle.std.proofs.lemmas.Bool.{cases_eq}
use Rattle.ace_engine.proofs.Listed.{listed-within}
use Rattle.ace_model.specs.declared.transactions.Transaction.{Transaction}
use Rattle.ace_portck.specs.Pending.{pending_of}
use Rattle.ace_portck.specs.Targets.{progress_of}
use Rattle.ace_home.specs.Turns.{IsBefore, IsBehind, IsFirstOf, IsUpTo, due_by}
use Rattle.ace_home.proofs.Firsts.{first-alone, first-of-fewer, first-sooner, first-stays}
use Rattle.ace_home.proofs.Kept.{listed-tells}
use Rattle.ace_home.proofs.home.Home.put_due.Goals.{then-not-goes_behind, else-not-goes_behind}
use Rattle.ace_home.proofs.home.Home.put_due.Goals as goal

pub loop-i-init : goal.loop-i-init
loop-i-init g c = λ plan past stands first.
    let h = plan.header in
    let port = c.args.port in
    let chan = c.args.chan in
    first-of-fewer (g.F.Among.has c.args.among.now) h past port (IsBefore h past port chan)
    (λ y. IsBefore h past port chan y ⊎ (k : ℕ) × (k < 0) × (slice_get (pending_of h past port chan) k ≡ Some y)) c.args.first.now first
    (λ y at. elim at [ inl before ↦ before | inr one ↦ let low = one.1 in absurd (omega (arith, low)) ])

pub loop-i-preserved : goal.loop-i-preserved
loop-i-preserved g c = λ plan past stands first.
    let h = plan.header in
    let port = c.args.port in
    let chan = c.args.chan in
    let i = c.loop-i.i in
    let list = c.queue-queue.ensures plan past stands in
    let among = g.F.Among.has c.args.among.now in
    let before = c.loop-i.invariant plan past stands first in
    let so_far : Transaction → Type 0 = λ y. IsBefore h past port chan y ⊎ (k : ℕ) × (k < i) × (slice_get (pending_of h past port chan) k ≡ Some y) in
    let with_next : Transaction → Type 0 = λ y. IsBefore h past port chan y ⊎ (k : ℕ) × (k < i + 1) × (slice_get (pending_of h past port chan) k ≡ Some y) in
    let each : (x : Transaction) → ((y : Transaction) → slice_get (pending_of h past port chan) i ≡ Some y → x ≡ y) → (y : Transaction) → with_next y → so_far y ⊎ (x ≡ y) = λ x own y at.
    elim at [
      | inl before ↦ inl (inl before)
      | inr listed ↦
          let low = listed.1 in
          elim (cases_eq listed.0 i) [
            | inr earlier ↦ inl (inr (listed.0, omega (arith, low, earlier), listed.2))
            | inl here ↦ inr (own y (ap (slice_get (pending_of h past port chan)) (sym here) ∙ listed.2))
          ]
    ] in
    let t = listed-tells c.args.self.now plan past port chan c.queue-queue.result.now i _ stands list c.loop-i-test.true in
    elim c.if-not-goes_behind.branch [
      | then-not-goes_behind w ↦
          let with = w.put_first_with.ensures plan past port t.0 in
          let one = first-alone among h past port _ with.0 t.0.pending with.1 in
          subst (IsFirstOf among h past port with_next) (sym (w.first-is ∙ with.2))
          (first-sooner among h past port so_far (λ y. _ ≡ y) with_next c.loop-i.first (due_by _ with.0) before one (each _ t.1))
      | else-not-goes_behind w ↦
          let none = c.least.ensures among plan past port t.0 in
          let behind = c.goes_behind.ensures w.if-not-goes_behind.false among h past none in
          subst (IsFirstOf among h past port with_next) (sym w.first-is)
          (first-stays among h past port so_far (λ y. _ ≡ y) with_next c.loop-i.first before (λ y same. subst (λ z. IsBehind among h past z c.loop-i.first) same behind) (each _ t.1))
    ]

pub returns : goal.returns
returns g c = λ plan past stands first.
    let h = plan.header in
    let port = c.args.port in
    let chan = c.args.chan in
    let list = c.queue-queue.ensures plan past stands in
    let high = c.loop-i-test.false in
    let end = c.loop-i.auto.i-end in
    first-of-fewer (g.F.Among.has c.args.among.now) h past port (λ y. IsBefore h past port chan y ⊎ (k : ℕ) × (k < c.loop-i.i) × (slice_get (pending_of h past port chan) k ≡ Some y)) (IsUpTo h past port chan)
    c.loop-i.first (c.loop-i.invariant plan past stands first) (λ y at.
    elim at [
      | inl before ↦ inl before
      | inr listed ↦
          let within = listed-within (progress_of h past) (pending_of h past port chan) c.queue-queue.result.now list listed.0 y listed.1 in
          inr (listed.0, omega (arith, within, high, end), listed.1)
    ])
