-- What the rules over several groups say.
use Rattle.std.proofs.Common.{◌≡◌, ℕ, ◌<◌, Bool, true, false, not, ◌&&◌, nat_eq, nat_lt, get_or, Option, Some, None, is_some, refl, sym, ap, ◌∙◌, arith}
use Rattle.std.proofs.lemmas.Bool.{and_parts, ltb-true}
use Rattle.ace_sysck.proofs.Terms.{SnoopKind, Transaction, Header, Ac, implies, is_some_and, is_none_or, is_complete_snoop, ac_kind_of, last_sync, is_sync_completed, may_complete, has_every_completion, k39, Target, Recording, PortMessages, Messages, Syncs, silent, completes_all, MayAskK39, completes_now}
use Rattle.ace_model.proofs.Dvm.Syncs.{last_sync-is}
use Rattle.ace_sysck.proofs.SyncSteps.{completes_all-is}

-- K39 of an AC DVM Complete
complete-is : (o : Option SnoopKind) (test : Bool) → is_some_and o is_complete_snoop ≡ true → is_none_or o (λ k. implies (is_complete_snoop k) test) ≡ test
complete-is None test c = cc
complete-is (Some k) test c = rw c refl

pub k39-is : (r : Recording) (h : Header) (m : Messages) (s : Syncs) (p addr snoop : ℕ) (t : Target) → MayAskK39 r h m s (Ac p addr snoop) t → is_some_and (ac_kind_of snoop) is_complete_snoop ≡ true
    → k39 r.header r.past (Ac p addr snoop) ≡ completes_now h m s p addr
k39-is r h m s p addr snoop t a complete =
    complete-is (ac_kind_of snoop) (nat_eq addr 0 && is_some_and (last_sync r.past p) (may_complete r.header r.past p)) complete ∙ go (last_sync r.past p) refl
  where
    kept : PortMessages
    kept = get_or m.ports.items p silent

    small : p < 32
    small = let low = ltb-true p r.header.ports (and_parts (nat_lt p r.header.ports) _ a.asked.first).0 in let few = a.asked.header.most_ports in omega arith

    grouped : (x b c d : Bool) → (x && (b && c && d)) ≡ (x && true && b && c && d)
    grouped true b c d = refl
    grouped false b c d = refl

    never : (x b c d : Bool) → (x && false) ≡ (x && false && b && c && d)
    never true b c d = refl
    never false b c d = refl

    go : (o : Option Transaction) → last_sync r.past p ≡ o → (nat_eq addr 0 && is_some_and (last_sync r.past p) (may_complete r.header r.past p)) ≡ completes_now h m s p addr
    go None is =
        let none : kept.sync ≡ None = (a.messages.ports p).sync ∙ is in
        ap (λ o. nat_eq addr 0 && is_some_and o (may_complete r.header r.past p)) is ∙ never (nat_eq addr 0) kept.sync_done (not kept.sync_completed) (completes_all h s p)
        ∙ sym (ap (λ o. nat_eq addr 0 && is_some o && kept.sync_done && not kept.sync_completed && completes_all h s p) none)
    go (Some x) is =
        let k = a.messages.ports p in
        let some : kept.sync ≡ Some x = k.sync ∙ is in
        let all = completes_all-is r s x p a.syncs small is (last_sync-is r.past p x is).1 in
        ap (λ o. nat_eq addr 0 && is_some_and o (may_complete r.header r.past p)) is
        ∙ ap (λ b. nat_eq addr 0 && (b && not (is_sync_completed r.past p) && has_every_completion r.header r.past x)) (sym (k.sync_done x is))
        ∙ ap (λ b. nat_eq addr 0 && (kept.sync_done && not b && has_every_completion r.header r.past x)) (sym k.sync_completed)
        ∙ ap (λ b. nat_eq addr 0 && (kept.sync_done && not kept.sync_completed && b)) (all ∙ ap (λ v. completes_all v s p) (sym a.header))
        ∙ grouped (nat_eq addr 0) kept.sync_done (not kept.sync_completed) (completes_all h s p)
        ∙ sym (ap (λ o. nat_eq addr 0 && is_some o && kept.sync_done && not kept.sync_completed && completes_all h s p) some)
