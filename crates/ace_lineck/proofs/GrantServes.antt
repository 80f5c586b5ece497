-- What is kept of a grant after a G, after a transfer or an M of a transaction on its line, and where its transaction ends.
use Rattle.std.proofs.Common.{arith, ◌+◌, ◌≡◌, ◌≢◌, ℕ, zero, suc, true, false, Bool, not, ◌&&◌, ◌||◌, ◌==◌, nat_eq, ◌∷◌, Option, Some, None, option_and_then, option_map, refl, sym, ap, subst, ◌∙◌, inl, inr}
use Rattle.std.proofs.lemmas.Bool.{false_from_ne_true, and_parts, and_from, cases_Bool, cases_eq, eqb-true, eq-eqb, ne_eqb}
use Rattle.ace_lineck.proofs.Terms.{Line, Transaction, Header, Trace, Channel, Read, Event, R, G, M, IsAccepted, newer, is_read, is_line, is_on, is_transaction, ended, outstanding, transaction_of, without, given, gives_line, granted, list_any, ports_below, find, shares, passes, first_sender, transfers, is_memory_write, has_memory_write, same_channel, is_begun, memory_of, copy_at_answer, memory_at_first_beat, line_in, Unsnooped, Grant, GrantFits, fresh_grant, fetched, settled_reply}
use Rattle.ace_model.proofs.General.Options.{Some-injective, is_some_and-is}
use Rattle.ace_model.proofs.Trace.Looks.{same_channel-is, same_channel-self, newest_on-older, is_on-addr}
use Rattle.ace_model.proofs.Trace.Issued.{same_place, outstanding-named, outstanding-name}
use Rattle.ace_model.proofs.Holders.Law.{accepted_holds}
use Rattle.ace_model.proofs.Grants.Stays.{Stays, granted_after}
use Rattle.ace_model.proofs.Grants.Granted.{granted_at}
use Rattle.ace_model.proofs.Grants.Begins.{line_due}
use Rattle.ace_model.proofs.Values.Replies.{memory-before}
use Rattle.ace_model.proofs.GrantLooks.Quiet.{Quiet, sharer-stays, sent-stays}
use Rattle.ace_model.proofs.GrantLooks.Progress.{first_beat-stays, written-now, GivenFresh, given_fresh}
use Rattle.ace_lineck.proofs.OnLine.{on-transaction}
use Rattle.ace_lineck.proofs.StateSteps.{all-same}
use Rattle.ace_lineck.proofs.GrantFrame.{fetched-same, passed-stays}
use Rattle.ace_lineck.proofs.GrantSteps.{unfetched, quiet-calm, stages-calm}

no_port : (n : ℕ) (test : ℕ → Bool) → ((p : ℕ) → test p ≡ false) → (list_any test (ports_below n) ≡ false) × (find test (ports_below n) ≡ None)
no_port zero test none = (refl, refl)
no_port (suc n) test none = let here = none n in let rest = no_port n test none in (rw here rest.0, rw here rest.1)

module _ (h : Header) (past : Trace) (l : ℕ) where
  -- G: nothing has come under the new grant
  pub given_step : (q : ℕ) (c : Channel) (j : ℕ) → IsAccepted h (G q c j ∷ past) → (x : Transaction) → outstanding h past q c j ≡ Some x → is_on x l ≡ true
      → GrantFits h (G q c j ∷ past) l (fresh_grant x)
  given_step q c j a x o on = record {
    granted = stands;
    begun = sym fresh.unbegun;
    written = sym fresh.written;
    stages = λ p. all-same Unsnooped 32 p ∙ sym (rw gives refl);
    shared = sym (no_port h.ports (shares (G q c j ∷ past) l) (λ p. rw gives refl)).0;
    passed = sym (ap (option_map _) (no_port h.ports (passes (G q c j ∷ past) l) (λ p. rw gives refl)).1);
    reply = sym (none_sent ∙ unfetched (G q c j ∷ past) x fresh.unbegun);
  }
    where
      named : transaction_of past q c j ≡ Some x
      named = outstanding-named h past q c j x o

      gives : gives_line past (G q c j) l ≡ true
      gives = rw named on

      stands : granted h (G q c j ∷ past) l ≡ Some x
      stands = rw named (rw on refl)

      fresh : GivenFresh (G q c j ∷ past) x
      fresh = given_fresh h past q c j a l x stands gives

      none_sent : settled_reply (G q c j ∷ past) l x ≡ fetched (G q c j ∷ past) x
      none_sent =
          let none : first_sender (G q c j ∷ past) l ≡ None = rw gives refl in
          ap (λ o. newer (option_and_then (copy_at_answer (G q c j ∷ past) l) o) (fetched (G q c j ∷ past) x)) none

  module _ (g : Grant) (f : GrantFits h past l g) where
    -- an event that ends another transaction leaves the grant
    pub stays-other : (e : Event) → IsAccepted h (e ∷ past) → is_transaction (ended h past e) g.transaction ≡ false → Stays h past e l g.transaction
    stays-other e a other =
        elim (granted_after h past e a l g.transaction f.granted) [
          | inl stays ↦ stays
          | inr ends ↦
              let is = ends.1 in
              let here : is_transaction (ended h past e) g.transaction ≡ true = rw is (eq-eqb ends.0.place g.transaction.place ends.2) in cc
        ]

    -- and one that ends it leaves no grant
    pub ends-grant : (e : Event) → gives_line past e l ≡ false → is_transaction (ended h past e) g.transaction ≡ true → granted h (e ∷ past) l ≡ None
    ends-grant e gives own =
        let z = is_some_and-is (ended h past e) (λ z. z.place == g.transaction.place) own in
        newest_on-older (given past e) l (without (ended h past e) (granted h past l)) gives
        ∙ ap (λ o. without o (granted h past l)) z.1 ∙ ap (without (Some z.0)) f.granted ∙ rw (eq-eqb g.transaction.place z.0.place (sym (eqb-true z.0.place g.transaction.place z.2))) refl

    out : IsAccepted h past → (outstanding h past g.transaction.port g.transaction.chan g.transaction.id ≡ Some g.transaction) × (is_on g.transaction l ≡ true)
    out a = (accepted_holds h past a).grants l g.transaction f.granted

    -- R: it is a transfer of the granted read
    module _ (q j resp : ℕ) (last : Bool) (word : ℕ) (a : IsAccepted h (R q j resp last word ∷ past)) (on : line_in h past (R q j resp last word) ≡ Some l) where
      e : Event
      e = R q j resp last word

      pub beat_of_granted : outstanding h past q Read j ≡ Some g.transaction
      beat_of_granted =
          let y = is_some_and-is (outstanding h past q Read j) (λ y. is_on y l) (on-transaction h past (outstanding h past q Read j) l on) in
          let parts = and_parts (is_line y.0) _ y.2 in
          let due = line_due h past q j resp last word a y.0 y.1 parts.0 in
          let stands = granted_at h past a.0 q Read j y.0 y.1 due.stands in
          let one : y.0 ≡ g.transaction = Some-injective y.0 g.transaction (sym (ap (granted h past) (sym (is_on-addr y.0 l y.2)) ∙ stands) ∙ f.granted) in
          y.1 ∙ ap (λ v. Some v) one

      beat_count : (is_read g.transaction.chan ≡ true) × (transfers (R q j resp last word ∷ past) g.transaction.port g.transaction.id ≡ transfers past g.transaction.port g.transaction.id + 1)
      beat_count =
          let n = outstanding-name h past q Read j g.transaction beat_of_granted in
          (ap is_read n.chan, rw (eq-eqb g.transaction.port q n.port, eq-eqb g.transaction.id j n.id) refl)

      pub beat_step : (memory : Line) → memory ≡ memory_of past l → Stays h past (R q j resp last word) l g.transaction
          → GrantFits h (R q j resp last word ∷ past) l (record g { begun = true; reply = newer g.reply (Some memory) })
      beat_step memory kept s = record {
        granted = s.is;
        begun = let reads = beat_count.0 in let more = beat_count.1 in sym (begun_some (R q j resp last word ∷ past) g.transaction reads (λ z. let bad = sym more ∙ z in absurd (omega (arith, bad))));
        written = f.written;
        stages = λ p. f.stages p ∙ sym (stages-calm h past l g f (R q j resp last word) refl p);
        shared = f.shared ∙ sym (sharer-stays h past (R q j resp last word) l quiet);
        passed = f.passed ∙ sym (passed-stays h past (R q j resp last word) l quiet);
        reply = reply;
      }
        where
          quiet : Quiet past (R q j resp last word) l
          quiet = quiet-calm h past l g f (R q j resp last word) refl

          begun_some : (longer : Trace) (x : Transaction) → is_read x.chan ≡ true → transfers longer x.port x.id ≢ 0 → is_begun longer x ≡ true
          begun_some longer x reads some = rw (reads, ne_eqb (transfers longer x.port x.id) 0 some) refl

          fetched_some : (longer : Trace) (x : Transaction) → is_read x.chan ≡ true → transfers longer x.port x.id ≢ 0 → fetched longer x ≡ Some (memory_at_first_beat longer x.port x.id x.addr)
          fetched_some longer x reads some = rw (reads, ne_eqb (transfers longer x.port x.id) 0 some) refl

          some : transfers (R q j resp last word ∷ past) g.transaction.port g.transaction.id ≢ 0
          some z = let bad = sym beat_count.1 ∙ z in absurd (omega (arith, bad))

          -- memory at the first beat, of which this is the first or a later one
          fetch : newer (fetched past g.transaction) (Some memory) ≡ fetched (R q j resp last word ∷ past) g.transaction
          fetch =
              let x = g.transaction in
              let now = fetched_some (R q j resp last word ∷ past) x beat_count.0 some ∙ ap (λ v. Some v) (first_beat-stays past (R q j resp last word) x.port x.id x.addr some) in
              elim (cases_eq (transfers past x.port x.id) 0) [
                | inr earlier ↦ ap (λ v. newer v (Some memory)) (fetched_some past x beat_count.0 earlier) ∙ sym now
                | inl none ↦
                    let reads = beat_count.0 in
                    let before : fetched past x ≡ None = rw (reads, none) refl in
                    let same = memory-before past x.port x.id x.addr none ∙ ap (memory_of past) (is_on-addr x l (out a.0).1) ∙ sym kept in
                    ap (λ v. newer v (Some memory)) before ∙ ap (λ v. Some v) (sym same) ∙ sym now
              ]

          assoc : (u v w : Option Line) → newer (newer u v) w ≡ newer u (newer v w)
          assoc None v w = refl
          assoc (Some c) v w = refl

          reply : newer g.reply (Some memory) ≡ settled_reply (R q j resp last word ∷ past) l g.transaction
          reply =
              let sent = option_and_then (copy_at_answer past l) (first_sender past l) in
              ap (λ v. newer v (Some memory)) f.reply ∙ assoc sent (fetched past g.transaction) (Some memory) ∙ ap (newer sent) fetch
              ∙ ap (λ v. newer v (fetched (R q j resp last word ∷ past) g.transaction)) (sym (sent-stays h past (R q j resp last word) l quiet))

    -- M: it is that of the granted transaction, or of a memory update
    module _ (q : ℕ) (c : Channel) (j : ℕ) (line : Line) (a : IsAccepted h (M q c j line ∷ past)) (own : Bool)
        (is : own ≡ is_transaction (outstanding h past q c j) g.transaction) where
      write_own : own ≡ true → is_memory_write (M q c j line) g.transaction.port g.transaction.chan g.transaction.id ≡ true
      write_own t =
          let y = is_some_and-is (outstanding h past q c j) (λ y. y.place == g.transaction.place) (sym is ∙ t) in
          let o = out a.0 in
          let x = g.transaction in
          let one : y.0 ≡ x = same_place past q x.port c x.chan j x.id y.0 x (outstanding-named h past q c j y.0 y.1) (outstanding-named h past x.port x.chan x.id x o.0) (eqb-true y.0.place x.place y.2) in
          let n = outstanding-name h past q c j x (y.1 ∙ ap (λ v. Some v) one) in
          let chan : same_channel x.chan c ≡ true = subst (λ (v : Channel). same_channel x.chan v ≡ true) n.chan (same_channel-self x.chan) in
          and_from _ _ (and_from _ _ (eq-eqb x.port q n.port) chan) (eq-eqb x.id j n.id)

      write_other : own ≡ false → is_memory_write (M q c j line) g.transaction.port g.transaction.chan g.transaction.id ≡ false
      write_other n =
          false_from_ne_true (is_memory_write (M q c j line) g.transaction.port g.transaction.chan g.transaction.id) (λ t.
          let x = g.transaction in
          let all = and_parts (nat_eq x.port q && same_channel x.chan c) (nat_eq x.id j) t in
          let two = and_parts (nat_eq x.port q) (same_channel x.chan c) all.0 in
          let name : outstanding h past x.port x.chan x.id ≡ outstanding h past q c j =
          ap (λ v. outstanding h past v x.chan x.id) (eqb-true x.port q two.0) ∙ ap (λ (v : Channel). outstanding h past q v x.id) (same_channel-is x.chan c two.1) ∙ ap (outstanding h past q c) (eqb-true x.id j all.1) in
          let there : outstanding h past q c j ≡ Some x = sym name ∙ (out a.0).0 in
          let yes : is_transaction (outstanding h past q c j) x ≡ true = rw there (eq-eqb x.place x.place refl) in
          let bad : true ≡ false = sym yes ∙ sym is ∙ n in cc)

      pub write_step : GrantFits h (M q c j line ∷ past) l (record g { written = g.written || own; begun = g.begun || (own && not (is_read g.transaction.chan)) })
      write_step = record {
        granted = stays.is;
        begun = begun;
        written = written;
        stages = λ p. f.stages p ∙ sym (stages-calm h past l g f (M q c j line) refl p);
        shared = f.shared ∙ sym (sharer-stays h past (M q c j line) l quiet);
        passed = f.passed ∙ sym (passed-stays h past (M q c j line) l quiet);
        reply = f.reply ∙ sym (ap (newer _) fetch ∙ ap (λ v. newer v (fetched past g.transaction)) (sent-stays h past (M q c j line) l quiet));
      }
        where
          quiet : Quiet past (M q c j line) l
          quiet = quiet-calm h past l g f (M q c j line) refl

          stays : Stays h past (M q c j line) l g.transaction
          stays = stays-other (M q c j line) a refl

          now : has_memory_write (M q c j line ∷ past) g.transaction.port g.transaction.chan g.transaction.id
              ≡ (is_memory_write (M q c j line) g.transaction.port g.transaction.chan g.transaction.id || has_memory_write past g.transaction.port g.transaction.chan g.transaction.id)
          now = written-now h past (M q c j line) a g.transaction.port g.transaction.chan g.transaction.id g.transaction (out a.0).0

          served : is_memory_write (M q c j line) g.transaction.port g.transaction.chan g.transaction.id ≡ own
          served = elim (cases_Bool own) [ inl t ↦ write_own t ∙ sym t | inr n ↦ write_other n ∙ sym n ]

          swap : (b d : Bool) → (b || d) ≡ (d || b)
          swap true true = refl
          swap true false = refl
          swap false true = refl
          swap false false = refl

          written : (g.written || own) ≡ has_memory_write (M q c j line ∷ past) g.transaction.port g.transaction.chan g.transaction.id
          written = swap g.written own ∙ ap (λ b. own || b) f.written ∙ ap (λ b. b || has_memory_write past g.transaction.port g.transaction.chan g.transaction.id) (sym served) ∙ sym now

          begun_by : (longer : Trace) (x : Transaction) (before b : Bool) → (is_read x.chan ≡ true → transfers longer x.port x.id ≡ transfers past x.port x.id) → before ≡ is_begun past x
              → (is_read x.chan ≡ false → (has_memory_write past x.port x.chan x.id || b) ≡ has_memory_write longer x.port x.chan x.id)
              → (before || (b && not (is_read x.chan))) ≡ is_begun longer x
          begun_by longer x before b count was more =
              elim (cases_Bool (is_read x.chan)) [
                | inl reads ↦
                    let same = count reads in
                    let was_so : before ≡ not (nat_eq (transfers past x.port x.id) 0) = rw reads at was in
                    rw reads (ap (λ v. v || (b && false)) was_so ∙ plain (not (nat_eq (transfers past x.port x.id) 0)) b ∙ ap (λ n. not (nat_eq n 0)) (sym same))
                | inr writes ↦
                    let was_so : before ≡ has_memory_write past x.port x.chan x.id = rw writes at was in
                    rw writes (ap (λ v. v || (b && true)) was_so ∙ certain (has_memory_write past x.port x.chan x.id) b ∙ more writes)
              ]
            where
              plain : (v b : Bool) → (v || (b && false)) ≡ v
              plain true b = refl
              plain false true = refl
              plain false false = refl

              certain : (v b : Bool) → (v || (b && true)) ≡ (v || b)
              certain true b = refl
              certain false true = refl
              certain false false = refl

          begun : (g.begun || (own && not (is_read g.transaction.chan))) ≡ is_begun (M q c j line ∷ past) g.transaction
          begun = begun_by (M q c j line ∷ past) g.transaction g.begun own (λ reads. refl) f.begun (λ writes. ap (λ b. b || own) (sym f.written) ∙ written)

          fetch : fetched (M q c j line ∷ past) g.transaction ≡ fetched past g.transaction
          fetch = fetched-same (M q c j line ∷ past) past g.transaction (λ reads. refl) (first_beat-stays past (M q c j line) g.transaction.port g.transaction.id g.transaction.addr)
