-- Acknowledging: what a master does by step 4 obeys the plan and stays lean, and leaves how far its operations have come.
use Rattle.std.proofs.Common.{◌≡◌, ◌⊎◌, ◌<◌, ℕ, Bool, true, false, not, ◌&&◌, ◌==◌, if◌then◌else◌, List, [], ◌∷◌, length, slice_get, Option, Some, None, inl, inr, refl, sym, ap, subst, ◌∙◌, arith, option_and_then, unwrap_or, nat_le, is_some}
use Rattle.std.specs.Option.{option_map}
use Rattle.ace_codes.specs.declared.kind.ArKind.{ArKind}
use Rattle.ace_codes.specs.declared.kind.ArKind.TheVariants as read
use Rattle.ace_codes.specs.declared.kind.AwKind.{AwKind}
use Rattle.ace_codes.specs.declared.kind.AwKind.TheVariants as write
use Rattle.ace_codes.specs.declared.state.LineState.{LineState}
use Rattle.ace_event.specs.declared.event.Channel.{Channel}
use Rattle.ace_event.specs.declared.event.Channel.TheVariants.{Read}
use Rattle.ace_event.specs.declared.event.Event.{Event}
use Rattle.ace_event.specs.declared.header.Header.{Header}
use Rattle.ace_model.specs.declared.plans.Op.{Op}
use Rattle.ace_model.specs.declared.plans.Op.TheVariants as op
use Rattle.ace_model.specs.declared.transactions.Transaction.{Transaction}
use Rattle.ace_runs.specs.Follows.{FollowsSoFar, has_room_after}
use Rattle.ace_master_laws.proofs.Progress.Come.{HasCome, IsBrought, Leaves, NoneBrought, brought-for, leaves-come}
use Rattle.ace_model.specs.Accepted.{IsAccepted}
use Rattle.ace_master_laws.proofs.Acknowledges.Due.{IsDue, ack-at, ack-ended, ack-ends, ack-gentle, ack-new, ack-next, ack-port, ack-segment, ack-silent, ack-told, ack-well, brings-on-line, due-of-read, in-segment, ack}
use Rattle.ace_master_laws.specs.Orderly.{IsFor, brings_line, is_settled, is_write_back, is_write_clean, read_wanted, store_wanted, takes_line, wants_way, clears, acts, brings, owns, gives}
use Rattle.ace_model.proofs.Trace.Growth.{IsIssued}
use Rattle.ace_runs.proofs.NeverStuck.Phases.CalmEvents.{IsOfPort, segment-of-port}
use Rattle.ace_model.specs.Plans.{IsRight, Plan}
use Rattle.ace_master_laws.proofs.Answers.Answering.{KeepsOn, accepted-one, kept-rest}
use Rattle.ace_model.proofs.General.Options.{Some-injective}
use Rattle.ace_model.specs.Trace.{Trace, is_none_or, is_some_and}
use Rattle.ace_master_laws.proofs.Progress.Endings.{access-no-acts, closing-well, is_no_act}
use Rattle.ace_runs.proofs.NeverStuck.Phases.NextActs.{acts-within}
use Rattle.ace_runs.specs.Acts.{acts_of, is_act_transaction}
use Rattle.std.proofs.lemmas.Bool.{and_from, and_parts, cases_Bool, eq-eqb, eqb-true, false_from_ne_true, le-leb, or_left}
use Rattle.ace_runs.specs.Bursts.{are_kept, onto}
use Rattle.ace_runs.specs.Closing.{closing_of}
use Rattle.ace_master_laws.proofs.Progress.Ended.{ended-come, nothing-new}
use Rattle.ace_master_laws.proofs.Progress.Wells.{gentle-room}
use Rattle.ace_runs.proofs.NeverStuck.Operations.Kept.ClosingKept.{has_access}
use Rattle.ace_master_laws.proofs.Lines.HeldLines.{held-one}
use Rattle.ace_runs.specs.HeldLines.{held_lines, line_of_transaction, line_told, others}
use Rattle.ace_codes.specs.Places.{is_at}
use Rattle.ace_runs.specs.Segments.{is_in_segment, is_read_of, segment}
use Rattle.ace_model.specs.Transactions.{is_line, is_on, is_outstanding, is_read, read_kind, same_channel, write_kind, acknowledged, outstanding}
use Rattle.ace_model.specs.Kinds.{is_line_read, is_line_write, is_update}
use Rattle.ace_model.proofs.Trace.Issued.{issued_at, outstanding-origin}
use Rattle.ace_model.proofs.General.Lists.{list_all-at}
use Rattle.ace_runs.specs.Operations.{next_operation}
use Rattle.ace_model.proofs.Outstanding.Only.{one_outstanding_on, outstanding_at-from}
use Rattle.ace_codes.specs.Reads.{read_place}
use Rattle.ace_runs.specs.SameEvents.{same_burst}
use Rattle.ace_runs.proofs.NeverStuck.Operations.SegmentOf.{segment-of}
use Rattle.ace_model.specs.Progress.{updates_memory}

-- ---- operations --------------------------------------------------------------------------------------

-- an operation that brings a line in loads or stores, or has no act
wanted-access : (o : Op) (k : ArKind) (l : ℕ) → read_wanted o ≡ Some (k, l) → (has_access o ≡ true) ⊎ (length (acts_of o) ≡ 0)
wanted-access (op.Ld a w) k l is = inl refl
wanted-access (op.Ldx a w) k l is = inl refl
wanted-access (op.St a w word) k l is = inl refl
wanted-access (op.Fill a line) k l is = inl refl
wanted-access (op.Pf a k) j l is = inr refl
wanted-access o k l is = cc

pub pair-parts : (o : Option (ArKind × ℕ)) (k j : ArKind) (l m : ℕ) → o ≡ Some (k, l) → o ≡ Some (j, m) → (k ≡ j) × (l ≡ m)
pair-parts None k j l m one other = cc
pair-parts (Some v) k j l m one other = let first = Some-injective v (k, l) one in let second = Some-injective v (j, m) other in let both = sym first ∙ second in (ap (λ (q : ArKind × ℕ). q.0) both, ap (λ (q : ArKind × ℕ). q.1) both)

store-line : (o : Op) (k : ArKind) (l a : ℕ) (lock : Bool) → read_wanted o ≡ Some (k, l) → store_wanted o ≡ Some (a, lock) → a ≡ l
store-line (op.St b w word) k l a lock reads stores = sym (ap (λ v. unwrap_or (option_map (λ (q : ℕ × Bool). q.0) v) 0) stores) ∙ ap (λ v. unwrap_or (option_map (λ (q : ArKind × ℕ). q.1) v) 0) reads
store-line o k l a lock reads stores = cc

cleared-kind : (k : AwKind) (b : Bool) → (is_write_back k && b) ≡ true → is_update k ≡ true
cleared-kind write.WriteBack b t = refl
cleared-kind k b t = cc

cleaned-kind : (k : AwKind) (b : Bool) → (is_write_clean k && b) ≡ true → is_update k ≡ true
cleaned-kind write.WriteClean b t = refl
cleaned-kind k b t = cc

-- a write that clears a line updates memory
clears-kind : (o : Op) (k : AwKind) (l : ℕ) → clears o k l ≡ true → is_update k ≡ true
clears-kind (op.Ro a) k l t = cleared-kind k (a == l) t
clears-kind (op.Ci a) k l t = cleared-kind k (a == l) t
clears-kind (op.Mi a) k l t = cleared-kind k (a == l) t
clears-kind (op.Wu a strobe line) k l t = cleared-kind k (a == l) t
clears-kind (op.Wlu a line) k l t = cleared-kind k (a == l) t
clears-kind (op.Cs a) k l t = cleaned-kind k (a == l) t
clears-kind o k l t = cleared-kind k (wants_way o) t

pub gives-update : (x : Transaction) (k : AwKind) (o : Op) → write_kind x ≡ Some k → clears o k x.addr ≡ true → updates_memory x ≡ true
gives-update x k o is t = ap (λ v. is_some_and v is_update) is ∙ clears-kind o k x.addr t

pub kind-on-line : (x : Transaction) (k : ArKind) → read_kind x ≡ Some k → is_line_read k ≡ true → is_line x ≡ true
kind-on-line x k is line = or_left _ (is_some_and (write_kind x) is_line_write) (ap (λ o. is_some_and o is_line_read) is ∙ line)

pub on-line : (x : Transaction) (a : ℕ) → is_line x ≡ true → x.addr ≡ a → is_on x a ≡ true
on-line x a line addr = and_from _ _ line (eq-eqb x.addr a addr)

pub read-of-line : (k : ArKind) (a : ℕ) (x : Transaction) → is_read_of k a x ≡ true → x.addr ≡ a
read-of-line k a x m = eqb-true x.addr a (and_parts (is_read x.chan && is_at (read_place k) x.snoop x.dom x.bar) (x.addr == a) m).1

module _ (plan : Plan) (past : Trace) (p : ℕ) (o : Op) (f : FollowsSoFar plan past) (next : next_operation plan past p ≡ Some o) where
  -- no act of such an operation is a transaction
  pub wanted-no-act : (k : ArKind) (l : ℕ) → read_wanted o ≡ Some (k, l) → (n : ℕ) (x : Transaction) → slice_get (segment past p) n ≡ Some x → is_act_transaction x ≡ true → ⊥
  wanted-no-act k l wanted n x there act =
      elim (wanted-access o k l wanted) [
        | inl some ↦
            let none = list_all-at is_no_act (segment past p) n x (access-no-acts plan past p o f next some) there in
            let bad : false ≡ true = ap not (sym act) ∙ none in cc
        | inr zero_acts ↦
            let low = acts-within plan past p f o next in
            let made = (segment-of past p n x there).acts act in
            absurd (omega (arith, low, made, zero_acts))
      ]

module _ (plan : Plan) (past : Trace) (p : ℕ) (right : IsRight plan) (a : IsAccepted plan.header past) (f : FollowsSoFar plan past) (c : HasCome plan past p) where
  abbrev h : Header
  h = plan.header

  -- Where a transaction of the operation is to be acknowledged, no other one of it that is outstanding brings a line in.
  module _ (o : Op) (next : next_operation plan past p ≡ Some o) (k : ℕ) (x : Transaction) (there : slice_get (segment past p) k ≡ Some x) (out : is_outstanding h past x ≡ true) where
    same-line : (y : Transaction) (l : ℕ) → IsIssued past y → y.port ≡ p → is_outstanding h past y ≡ true → is_on x l ≡ true → is_on y l ≡ true → x ≡ y
    same-line y l i port out_y on_x on_y =
        let own = segment-of-port past p k x there in
        one_outstanding_on h past p l x y a own.there i
        (and_from _ _ (and_from _ _ (eq-eqb x.port p own.port) on_x) out) (and_from _ _ (and_from _ _ (eq-eqb y.port p port) on_y) out_y)

    pub alone : (n : ℕ) (y : Transaction) → slice_get (segment past p) n ≡ Some y → is_outstanding h past y ≡ true → IsBrought o y → brings_line y ≡ true → x ≡ y
    alone n y at_y out_y b brings_y = by ((c.under_way o next).asked k x there)
      where
        own : IsOfPort past p y
        own = segment-of-port past p n y at_y

        line-y : is_on y b.line ≡ true
        line-y = on-line y b.line (brings-on-line y brings_y) (read-of-line b.kind b.line y b.of)

        by : IsFor o x → x ≡ y
        by (acts act) = absurd (wanted-no-act plan past p o f next b.kind b.line b.wanted k x there act)
        by (brings j l wanted is of) =
            let both = pair-parts (read_wanted o) j b.kind l b.line wanted b.wanted in
            let same : l ≡ b.line = both.1 in
            let takes : takes_line j ≡ true = ap takes_line both.0 ∙ (ap (λ v. is_some_and v takes_line) (sym b.is_kind) ∙ brings_y) in
            let brings_x : brings_line x ≡ true = ap (λ v. is_some_and v takes_line) is ∙ takes in
            same-line y b.line own.there own.port out_y (on-line x b.line (brings-on-line x brings_x) (read-of-line j l x of ∙ same)) line-y
        by (owns l lock wanted is addr locked) =
            let same = store-line o b.kind b.line l lock b.wanted wanted in
            same-line y b.line own.there own.port out_y (on-line x b.line (kind-on-line x read.CleanUnique is refl) (addr ∙ same)) line-y
        by (gives j is t) =
            let done = (c.under_way o next).apart n k y x at_y there brings_y (gives-update x j o is t) out_y in
            let bad : true ≡ false = sym out ∙ done in cc

  -- so no other read of the port does
  pub no-other : (o : Op) → next_operation plan past p ≡ Some o → (k : ℕ) (x : Transaction) → slice_get (segment past p) k ≡ Some x → is_outstanding h past x ≡ true
      → (i : ℕ) (y : Transaction) → outstanding h past p Read i ≡ Some y → brings_line y ≡ true → x ≡ y
  no-other o next k x there out i y at b =
      let of = c.brought i y at b in
      let same : of.0 ≡ o = Some-injective of.0 o (sym of.2 ∙ next) in
      let out_y = (and_parts ((y.port == p) && same_channel y.chan Read) (is_outstanding h past y) (outstanding_at-from h past p Read i y at).1).1 in
      let for = brought-for o y ((c.under_way o next).asked of.1 y of.3) b in
      alone o next k x there out of.1 y of.3 out_y for b

  -- and after its acknowledge none does
  pub none-after : (o : Op) → next_operation plan past p ≡ Some o → (ch : Channel) (st : LineState) (x : Transaction) → IsDue h past p ch x → (k : ℕ) → slice_get (segment past p) k ≡ Some x
      → NoneBrought h (ack ch p st ∷ past) p
  none-after o next ch st x d k there i y out b =
      elim (outstanding-origin h past (ack ch p st) p Read i y out) [
        | inl new ↦ let bad : None ≡ Some y = sym (ack-new ch p (length past) st) ∙ new.0 in nothing-new y bad
        | inr old ↦
            let one = no-other o next k x there d.out i y old.was b in
            old.lasts x (ack-ends h past ch p st ∙ d.next) (ap (λ (v : Transaction). v.place) one)
      ]

  -- there is a way for what it brings in
  pub brings-room : (o : Op) → next_operation plan past p ≡ Some o → (k : ℕ) (x : Transaction) → slice_get (segment past p) k ≡ Some x → is_outstanding h past x ≡ true → brings_line x ≡ true
      → length (others x.addr (held_lines h past p)) < plan.ways
  brings-room o next k x there out b =
      let u = c.under_way o next in
      let for = brought-for o x (u.asked k x there) b in
      u.room k x there out (and_from _ _ (ap is_some for.wanted) (or_left (brings_line x) (updates_memory x) b))

  ack-line : (ch : Channel) (st : LineState) (x : Transaction) → acknowledged past p ch ≡ Some x → is_line x ≡ true → line_told past (ack ch p st) ≡ Some x.addr
  ack-line ch st x next line = ack-told past ch p st ∙ ap (option_and_then line_of_transaction) next ∙ ap (λ b. if b then Some x.addr else None) line

  -- the acknowledge leaves no more lines than ways
  pub ack-room : (ch : Channel) (st : LineState) (x : Transaction) → IsDue h past p ch x → IsAccepted h (ack ch p st ∷ past) → has_room_after plan past (ack ch p st) ≡ true
  ack-room ch st x d now =
      elim (cases_Bool (brings_line x)) [
        | inr none ↦ gentle-room plan past p (ack ch p st) f (ack-port ch p st) (ack-gentle h past ch p st x now d.next none).raises
        | inl b ↦
            let of = c.brought x.id x (ap (λ q. outstanding h past p q x.id) (sym (due-of-read h past p ch x d b)) ∙ d.waits) b in
            let low = brings-room of.0 of.2 of.1 x of.3 d.out b in
            let few = held-one h past (ack ch p st) p x.addr (ack-line ch st x d.next (brings-on-line x b)) (ack-at ch p st) in
            ap (λ v. is_none_or v (λ q. nat_le (length (held_lines h (ack ch p st ∷ past) q)) plan.ways)) (ack-port ch p st) ∙ le-leb (length (held_lines h (ack ch p st ∷ past) p)) plan.ways (omega (arith, low, few))
      ]

  ack-leaves : (ch : Channel) (st : LineState) (x : Transaction) → IsDue h past p ch x → IsAccepted h (ack ch p st ∷ past) → brings_line x ≡ false → Leaves plan past p (ack ch p st)
  ack-leaves ch st x d now none =
      record {
        still = record { accepted = now; same = ack-segment past ch p p st; silent = ack-silent past ch p p st; gentle = ack-gentle h past ch p st x now d.next none };
        next = ack-next plan past ch p p st;
        new = λ y new port. let bad : None ≡ Some y = sym (ack-new ch p (length past) st) ∙ new in absurd (nothing-new y bad);
      }

  -- ---- a transaction of another operation ------------------------------------------------------------

  pub other-keeps : (ch : Channel) (st : LineState) (x : Transaction) → IsDue h past p ch x → is_in_segment past x ≡ false → are_kept h past (ack ch p st ∷ []) ≡ true → KeepsOn plan past p (ack ch p st ∷ [])
  other-keeps ch st x d apart kept =
      let now = accepted-one plan past (ack ch p st) [] a kept in
      let none : brings_line x ≡ false = false_from_ne_true (brings_line x) (λ b.
      let of = c.brought x.id x (ap (λ q. outstanding h past p q x.id) (sym (due-of-read h past p ch x d b)) ∙ d.waits) b in
      let inside = in-segment past p of.1 x x d.port of.3 (eq-eqb x.place x.place refl) in
      let bad : false ≡ true = sym apart ∙ inside in cc) in
      record {
        well = (ack-well plan past ch p st (ack-room ch st x d now), tt);
        come = leaves-come plan past p (ack ch p st) (ack-leaves ch st x d now none)
            (λ o next k y there was out.
            let same = ack-ended h past p ch st x k y now d.next there was out in
            let inside = in-segment past p k x y d.port there same in
            let bad : false ≡ true = sym apart ∙ inside in cc) c;
      }

  -- ---- a transaction of the operation ----------------------------------------------------------------

  module _ (o : Op) (next : next_operation plan past p ≡ Some o) (ch : Channel) (st : LineState) (x : Transaction) (d : IsDue h past p ch x) (k : ℕ) (there : slice_get (segment past p) k ≡ Some x) where
    abbrev e : Event
    e = ack ch p st

    -- its acknowledge and what ends the operation, where what ends without ending the operation is settled
    pub own-keeps : (rest : List Event) → are_kept h past (e ∷ rest) ≡ true → same_burst (closing_of h (e ∷ past) p o) rest ≡ true
        → (IsAccepted h (e ∷ past) → FollowsSoFar plan (e ∷ past) → closing_of h (e ∷ past) p o ≡ [] → (brings_line x ≡ false) × (is_settled plan.ways h (e ∷ past) p o x ≡ true)) → KeepsOn plan past p (e ∷ rest)
    own-keeps rest kept same settles =
        let now = accepted-one plan past e rest a kept in
        let w = ack-well plan past ch p st (ack-room ch st x d now) in
        let later = ack-next plan past ch p p st ∙ next in
        let all = closing-well plan (e ∷ past) p o (f, w.obeying) later rest now same (kept-rest h past e rest kept) in
        record {
          well = (w, all);
          come = elim (ended-come plan (e ∷ past) p o rest same (none-after o next ch st x d k there)) [
            | inr come ↦ come
            | inl none ↦
                let s = settles now (f, w.obeying) none.0 in
                subst (λ l. HasCome plan (onto l (e ∷ past)) p) (sym none.1)
                (leaves-come plan past p e (ack-leaves ch st x d now s.0)
                (λ op is n y at was out.
                let own_op : op ≡ o = Some-injective op o (sym is ∙ next) in
                let match = ack-ended h past p ch st x n y now d.next at was out in
                let one : x ≡ y = Some-injective x y (sym d.there.there ∙ ap (issued_at past) (eqb-true x.place y.place match) ∙ (segment-of-port past p n y at).there.there) in
                subst (λ v. is_settled plan.ways h (e ∷ past) p v y ≡ true) (sym own_op) (subst (λ v. is_settled plan.ways h (e ∷ past) p o v ≡ true) one s.1)) c)
          ];
        }
