use Rattle.std.proofs.Common.{rules, ◌≡◌, ◌∷◌, not, nat_eq, refl, sym, subst}
use Rattle.ace_portck.proofs.Terms.{filter, vec_capacity, deque_capacity, Read, M, IsAccepted, Burst, BurstsStand}
use Rattle.std.proofs.lemmas.Fn.{filter_same}
use Rattle.ace_portck.proofs.WriteSteps.{writes_stay, writes_m}
use Rattle.ace_portck.proofs.write_data.WriteBursts.remove.Goals as goal

pub returns-in-Read : goal.returns-in-Read
returns-in-Read c = λ h past p line a s.
    let q = c.args.self.now in
    let i = c.args.id in
    subst (λ v. BurstsStand h (M p v i line ∷ past) p q.filling.items q.part q.whole.items (deque_capacity q.filling) (vec_capacity q.whole)) (sym c.in-Read.is)
    (writes_stay h past p q s (M p Read i line) (subst (λ v. IsAccepted h (M p v i line ∷ past)) c.in-Read.is a) refl)

pub returns-in-Write : goal.returns-in-Write
returns-in-Write c = λ h past p line a s.
    let q = c.args.self.now in
    let i = c.args.id in
    let new = c.retain.new.self in
    let items : new.items ≡ filter (λ (b : Burst). not (nat_eq b.id i)) q.whole.items =
    filter_same _ (λ (b : Burst). not (nat_eq b.id i)) _ (λ x b f' k. search rules) _ _ c.retain.ensures.filtered in
    let capacity = c.retain.ensures.capacity in
    subst (λ v. BurstsStand h (M p v i line ∷ past) p q.filling.items q.part new.items (deque_capacity q.filling) (vec_capacity new)) (sym c.in-Write.is)
    (rw (capacity, items) (writes_m h past p q s i line (subst (λ v. IsAccepted h (M p v i line ∷ past)) c.in-Write.is a)))
