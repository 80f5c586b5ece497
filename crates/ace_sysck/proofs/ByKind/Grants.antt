-- The G of an outstanding transaction: what it leaves as it is.
use Rattle.std.proofs.Common.{◌≡◌, ◌<◌, ◌-◌, ◌^◌, ℕ, true, false, not, ◌&&◌, length, Some, None, option_map, inl, inr, refl, ap, ◌∙◌}
use Rattle.std.proofs.lemmas.Bool.{and_from, and_parts, eq-eqb}
use Rattle.ace_sysck.proofs.Terms.{least_broken, given, is_known, is_line, Transaction, Channel, G, has_grant, is_exclusive_store, is_some_and, may_be_granted, outstanding, takes_grant, Target, Recording, after, progress_of, target_of, SysCheck, Registrations, Results, IsNewLock, RegistrationsStand, locked_in, locked_of, was_locked, ResultsStand, Stands, IsStep}
use Rattle.ace_model.proofs.GrantLooks.Had.{takes-line}
use Rattle.ace_model.proofs.Lines.Known.{known-issued}
use Rattle.ace_model.proofs.Rules.Keeps.{accepted_keeps}
use Rattle.ace_model.proofs.Trace.Growth.{named-issued}
use Rattle.ace_model.proofs.Trace.Issued.{outstanding-named}
use Rattle.ace_sysck.proofs.RegistrationSteps.{registrations_stay}
use Rattle.ace_sysck.proofs.ResultSteps.{results_other_grant}
use Rattle.ace_sysck.proofs.Steps.{Grants, grants-at}
use Rattle.ace_sysck.proofs.Unmoved.{system_follows}

-- a G that breaks no rule is a step of the recording
pub grant_step : (s : SysCheck) (r : Recording) (p : ℕ) (c : Channel) (i : ℕ) → Stands s r → least_broken r.header r.past (G p c i) ≡ None → length r.past < 2 ^ 64 - 1
    → IsStep r (G p c i) (target_of r.header r.past (G p c i))
grant_step s r p c i stands fine few = record { header = stands.ports; accepted = (stands.accepted, fine); target = refl; few = few }

-- what is kept stands after it, with results and registrations that do
pub after_grant : (s : SysCheck) (r : Recording) (p : ℕ) (c : Channel) (i : ℕ) (results : Results) (registrations : Registrations) → Stands s r
    → least_broken r.header r.past (G p c i) ≡ None → length r.past < 2 ^ 64 - 1 → ResultsStand (after r (G p c i)) results → RegistrationsStand (after r (G p c i)) registrations
    → Stands (record s { results = results; registrations = registrations }) (after r (G p c i))
after_grant s r p c i results registrations stands fine few result registered =
    system_follows s (record s { results = results; registrations = registrations }) r (G p c i) stands fine few refl (inl (refl, refl)) (inl (refl, refl)) (inr result)
    (inr registered) (inl (refl, refl)) (inl (refl, refl)) (inl (refl, refl))

-- a G of a transaction with lock 0 moves nothing
pub still_at_grant : (s : SysCheck) (r : Recording) (p : ℕ) (c : Channel) (i : ℕ) (x : Transaction) → Stands s r → outstanding r.header r.past p c i ≡ Some x → x.lock ≡ false
    → least_broken r.header r.past (G p c i) ≡ None → length r.past < 2 ^ 64 - 1 → Stands s (after r (G p c i))
still_at_grant s r p c i x stands out unlocked fine few =
    after_grant s r p c i s.results s.registrations stands fine few
    (results_other_grant r s.results (G p c i) x refl (outstanding-named r.header r.past p c i x out) plain stands.results)
    (registrations_stay r s.registrations (G p c i) t (stands.accepted, fine) refl none stands.registrations)
  where
    t : Target
    t = target_of r.header r.past (G p c i)

    plain : is_exclusive_store x ≡ false
    plain = rw unlocked refl

    none : locked_in (G p c i) t ≡ None
    none = ap (λ o. locked_of (option_map (progress_of r.header r.past) o)) out ∙ rw unlocked refl

-- a G of the outstanding transaction that breaks no rule
module _ (s : SysCheck) (r : Recording) (p : ℕ) (c : Channel) (i : ℕ) (x : Transaction) (stands : Stands s r) (out : outstanding r.header r.past p c i ≡ Some x)
    (fine : least_broken r.header r.past (G p c i) ≡ None) where
  granted : given r.past (G p c i) ≡ Some x
  granted = outstanding-named r.header r.past p c i x out

  on-line : is_line x ≡ true
  on-line =
      let may : is_some_and (outstanding r.header r.past p c i) (may_be_granted r.header r.past) ≡ true =
      (accepted_keeps r.header r.past (G p c i) (stands.accepted, fine)).rule_12 in
      let here : may_be_granted r.header r.past x ≡ true = rw out at may in
      let first = (and_parts (takes_grant x && not (has_grant r.past x.port x.chan x.id)) _ here).0 in
      takes-line x (and_parts (takes_grant x) _ first).0

  -- its line is one that a transaction names
  pub grant-known : is_known r.past x.addr ≡ true
  grant-known = known-issued r.past x x.addr (named-issued r.past p c i x granted) (and_from (is_line x) _ on-line (eq-eqb x.addr x.addr refl))

  -- where no transaction with lock 1 was granted it before, this is the first
  pub first-lock : x.lock ≡ true → was_locked r.past x.addr ≡ false → IsNewLock r.past (G p c i)
  first-lock lock none = (x.addr, rw (granted, lock, on-line, eq-eqb x.addr x.addr refl) refl, none)

  -- a transaction that is granted its line, with lock 1
  pub locked_one : x.lock ≡ true → locked_in (G p c i) (target_of r.header r.past (G p c i)) ≡ Some x
  locked_one lock =
      let line = on-line in
      ap (λ o. locked_of (option_map (progress_of r.header r.past) o)) out ∙ rw (lock, line) refl

  -- what it grants
  pub grants_one : length r.past < 2 ^ 64 - 1 → Grants r (G p c i) p i x
  grants_one few =
      grants-at r p c i (G p c i) (target_of r.header r.past (G p c i)) (progress_of r.header r.past x) (grant_step s r p c i stands fine few) refl
      (ap (option_map (progress_of r.header r.past)) out)
