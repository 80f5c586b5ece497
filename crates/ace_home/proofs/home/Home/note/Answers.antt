use Rattle.std.proofs.Common.{◌≡◌, ℕ, true, false, ◌∷◌, Some, sym, ap, subst, ◌∙◌, inl, inr}
use Rattle.std.proofs.lemmas.Bool.{false_from_ne_true}
use Rattle.ace_model.specs.Grants.{granted}
use Rattle.ace_check.specs.Shares.{SharesStand}
use Rattle.ace_home.specs.declared.home.Home.{Home}
use Rattle.ace_home.specs.HeldUp.{IsHeldUp, IsStill}
use Rattle.ace_home.specs.Resting.{has_port, may_end, may_name}
use Rattle.ace_home.proofs.AtRest.{begun-or-was, port-low, still-waits, was-of}
use Rattle.ace_home.proofs.Hearing.{may-hear}
use Rattle.ace_home.proofs.HeldUp.{held-stays, line-or-not}
use Rattle.ace_home.proofs.Kept.{ports-stand}
use Rattle.ace_home.proofs.Outstanding.{of-at}
use Rattle.ace_home.proofs.home.Home.note.Goals as goal

pub returns : goal.returns
returns c = λ plan past s legal.
    let h = plan.header in
    let e = c.args.event.now in
    let a = legal.accepted in
    let shares = c.hear.ensures h past s.shares (may-hear plan past e legal) in
    let ports = ports-stand c.args.self.now plan past c.ports.result.now s c.ports.ensures in
    let woken = c.rouse_holder.ensures in
    let after : Home = c.rouse_holder.new.self in
    let still : (l : ℕ) → (c.moved_line-line.result ≡ Some l → ⊥) → IsStill h past e l = λ l off. c.moved_line-line.ensures h past l a ports off in
    let users = ap (λ (v : Home). v.users) woken.rest in
    c.look_after.ensures plan (e ∷ past) (record {
      legal = legal;
      shares = subst (λ (v : Home). SharesStand v.shares h (e ∷ past)) (sym woken.rest) shares;
      header = ap (λ (v : Home). v.header) woken.rest ∙ s.header;
      users = λ p x o.
          ap (λ u. may_name u x.addr p) users ∙ (elim (begun-or-was h past e p x a o) [
            | inr was ↦ c.add_user.ensures.more x.addr p (s.users p x was)
            | inl new ↦
                let low = port-low h (e ∷ past) p x a s.shares.tell.lines.ports.most_ports o in
                subst (λ q. may_name c.add_user.new.users x.addr q ≡ true) (of-at h (e ∷ past) p x o).port (c.add_user.ensures.own _ x new low)
          ]);
      resting = λ p t x o.
          let rests : has_port c.rouse.new.resting p ≡ true = woken.less p t in
          let own = c.rouse.ensures.own p rests in
          let was = was-of h past e p x a own.1 o in
          let lasts : c.moved_line-line.result ≡ Some x.addr → may_end h e ≡ false = λ here. false_from_ne_true (may_end h e) (λ ends.
          let none = c.rouse.ensures.beside p x.addr rests (ap (λ g. may_end g e) s.header ∙ ends) here in
          let bad : true ≡ false = sym (s.users p x was) ∙ none in cc) in
          let held : IsHeldUp h past x.addr → granted h (e ∷ past) x.addr ≡ Some x → IsHeldUp h (e ∷ past) x.addr = λ had is.
          elim (line-or-not c.moved_line-line.result x.addr) [
            | inl here ↦ woken.holder h (e ∷ past) x.addr x shares here is (subst (λ q. has_port after.resting q ≡ true) (sym (of-at h (e ∷ past) p x o).port) t)
            | inr off ↦ let g = (s.shares.tell.lines.lines x.addr).grant in held-stays h past e a x.addr (still x.addr off) _ g had
          ] in
          still-waits h past e a c.moved_line-line.result still (λ l. (_, (s.shares.tell.lines.lines l).grant)) p x was own.1 lasts held (s.resting p own.0 x was);
    })
