-- The transactions of a port's segment were issued by the port, and where one is an act, the port has made an act.
use Rattle.std.proofs.Common.{◌≡◌, ℕ, ◌+◌, ◌<◌, true, false, ◌&&◌, ◌==◌, if◌then◌else◌, [], ◌∷◌, length, Some, None, slice_get, inl, inr, refl, sym, ap, subst, ◌∙◌, arith}
use Rattle.std.proofs.lemmas.Bool.{and_parts, and_from, cases_Bool, eq-eqb, eqb-true, false_from_ne_true, or_cases, or_left, or_right}
use Rattle.ace_codes.specs.declared.kind.ArKind.{ArKind}
use Rattle.ace_codes.specs.declared.kind.ArKind.TheVariants as read
use Rattle.ace_event.specs.declared.event.Event.{Event}
use Rattle.ace_event.specs.declared.event.Event.TheVariants.{Ar, Aw, Op as Retires}
use Rattle.ace_model.specs.declared.transactions.Transaction.{Transaction}
use Rattle.ace_model.specs.Barriers.{is_barrier_half}
use Rattle.ace_model.specs.Kinds.{is_granted_write, is_read_barrier, is_write_barrier}
use Rattle.ace_model.specs.Plans.{Plan}
use Rattle.ace_model.specs.Trace.{Trace, is_some_and, more, option_filter}
use Rattle.ace_model.specs.Transactions.{is_outstanding, issued, read_kind, write_kind}
use Rattle.ace_model.proofs.General.Lists.{slice_get-more}
use Rattle.ace_model.proofs.General.Options.{Some-injective, is_some_and-is, option_filter-is}
use Rattle.ace_model.proofs.Trace.Growth.{IsIssued, issued-new, issued-old}
use Rattle.ace_model.proofs.Trace.Outstanding.{read_issued, write_issued}
use Rattle.ace_runs.specs.Acts.{is_act, is_act_read, is_act_transaction, is_act_write}
use Rattle.ace_runs.specs.Follows.{FollowsSoFar}
use Rattle.ace_runs.specs.Segments.{acts_made, is_at_port, is_for_operation, segment}
use Rattle.ace_runs.proofs.NeverStuck.Barriers.OfNext.{barrier-of-next}

-- A transaction of the port that was issued; if it is an act, the port has made one.
pub record IsOfSegment (past : Trace) (p : ℕ) (x : Transaction) : Type 0 where
  pub there : IsIssued past x
  pub port : x.port ≡ p
  pub acts : is_act_transaction x ≡ true → 0 < acts_made past p

acts-grow : (e : Event) (past : Trace) (p : ℕ) (now : ℕ) → now ≡ (if is_at_port p e && is_act e then acts_made past p + 1 else acts_made past p) → 0 < acts_made past p → 0 < now
acts-grow e past p now is some =
    elim (cases_Bool (is_at_port p e && is_act e)) [
      | inl t ↦ let n = is ∙ ap (λ b. if b then acts_made past p + 1 else acts_made past p) t in omega (arith, n)
      | inr f ↦ let n = is ∙ ap (λ b. if b then acts_made past p + 1 else acts_made past p) f in omega (arith, n, some)
    ]

-- an event that issues an act of the port
new-acts : (e : Event) (past : Trace) (p : ℕ) (x : Transaction) → issued (length past) e ≡ Some x → x.port ≡ p → is_act_transaction x ≡ true → (is_at_port p e && is_act e) ≡ true
new-acts (Ar q i a s d b l) past p x new port act =
    let same = Some-injective (read_issued past q i a s d b l) x new in
    and_from _ _ (eq-eqb q p (ap (λ (v : Transaction). v.port) same ∙ port)) (ap is_act_transaction same ∙ act)
new-acts (Aw q i a s d b) past p x new port act =
    let same = Some-injective (write_issued past q i a s d b) x new in
    and_from _ _ (eq-eqb q p (ap (λ (v : Transaction). v.port) same ∙ port)) (ap is_act_transaction same ∙ act)
new-acts e past p x new port act = cc

-- with an event that is no OP
with-event : (e : Event) (past : Trace) (p k : ℕ) (x : Transaction) → acts_made (e ∷ past) p ≡ (if is_at_port p e && is_act e then acts_made past p + 1 else acts_made past p)
    → ((slice_get (segment past p) k ≡ Some x) → IsOfSegment past p x) → slice_get (more (segment past p) (option_filter (is_for_operation p) (issued (length past) e))) k ≡ Some x
    → IsOfSegment (e ∷ past) p x
with-event e past p k x made before there =
    elim (slice_get-more (segment past p) (option_filter (is_for_operation p) (issued (length past) e)) k x there) [
      | inl old ↦
          let i = before old in
          record { there = issued-old e past x i.there; port = i.port; acts = λ act. acts-grow e past p (acts_made (e ∷ past) p) made (i.acts act) }
      | inr new ↦
          let of = option_filter-is (is_for_operation p) (issued (length past) e) x new.1 in
          let port = eqb-true x.port p (and_parts (x.port == p) _ of.1).0 in
          record {
            there = issued-new e past x of.0;
            port = port;
            acts = λ act.
                let n = made ∙ ap (λ b. if b then acts_made past p + 1 else acts_made past p) (new-acts e past p x of.0 port act) in
                omega (arith, n);
          }
    ]

pub segment-of : (past : Trace) (p k : ℕ) (x : Transaction) → slice_get (segment past p) k ≡ Some x → IsOfSegment past p x
segment-of [] p k x there = cc
segment-of (Retires q n res ∷ past) p k x there =
    elim (cases_Bool (p == q)) [
      | inl t ↦ let none : None ≡ Some x = rw t at there in cc
      | inr f ↦
          let i = segment-of past p k x (rw f at there) in
          let made : acts_made (Retires q n res ∷ past) p ≡ acts_made past p = rw f refl in
          record { there = issued-old (Retires q n res) past x i.there; port = i.port; acts = λ act. subst (λ m. 0 < m) (sym made) (i.acts act) }
    ]
segment-of (e ∷ past) p k x there = with-event e past p k x refl (segment-of past p k x) there

half-acts : (x : Transaction) → is_barrier_half x ≡ true → is_act_transaction x ≡ true
half-acts x half =
    elim (or_cases (is_some_and (read_kind x) is_read_barrier) (is_some_and (write_kind x) is_write_barrier) half) [
      | inl r ↦
          let k = is_some_and-is (read_kind x) is_read_barrier r in
          or_left (is_some_and (read_kind x) is_act_read) _ (ap (λ o. is_some_and o is_act_read) k.1 ∙ read-acts k.0 k.2)
      | inr w ↦
          let k = is_some_and-is (write_kind x) is_write_barrier w in
          or_right (is_some_and (read_kind x) is_act_read) _ (ap (λ o. is_some_and o is_act_write) k.1 ∙ or_right (is_granted_write k.0) _ k.2)
    ]
  where
    read-acts : (k : ArKind) → is_read_barrier k ≡ true → is_act_read k ≡ true
    read-acts read.Barrier b = refl
    read-acts k b = cc

-- So where the port has made no act, no half of a barrier of it is outstanding.
pub no-half : (plan : Plan) (past : Trace) (p : ℕ) → FollowsSoFar plan past → acts_made past p ≡ 0 → (x : Transaction) → IsIssued past x → is_barrier_half x ≡ true → x.port ≡ p
    → is_outstanding plan.header past x ≡ false
no-half plan past p f none x i half port =
    false_from_ne_true (is_outstanding plan.header past x) (λ out.
    let of = barrier-of-next plan past x f i half out in
    let some = (segment-of past x.port of.number x of.in_segment).acts (half-acts x half) in
    let none_here = ap (acts_made past) port ∙ none in
    absurd (omega (arith, some, none_here)))
