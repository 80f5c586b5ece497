-- How far an outstanding transaction has come after an event.
use Rattle.std.proofs.Common.{◌≡◌, ℕ, ◌+◌, ◌≤◌, ◌<◌, ◌%◌, cond, Bool, true, false, ◌&&◌, ◌||◌, nat_eq, if◌then◌else◌, ◌∷◌, length, Option, Some, None, unwrap_or, refl, sym, ap, ◌∙◌, inl, inr, arith}
use Rattle.std.proofs.lemmas.Bool.{and_parts, cases_Bool, eq-eqb, ltb-true}
use Rattle.ace_portck.proofs.Terms.{Channel, Read, Write, Event, Ar, R, Aw, B, G, M, D, Header, Line, Transaction, Trace, is_some_and, IsAccepted, is_read, has_name, is_named, read_kind, is_make_unique_on, issued, transaction_of, outstanding, is_outstanding, transfers, first_resp, is_completion, is_complete, beats_of, reads_a_line, given, has_grant, has_memory_write, is_store_of, has_store, is_due, is_next_transfer, Progress, progress_of, renewed}
use Rattle.ace_model.proofs.General.Options.{is_some_and-at, is_some_and-is}
use Rattle.ace_model.proofs.Rules.Keeps.{accepted_keeps}
use Rattle.ace_model.proofs.Trace.Looks.{has_name-is, is_read-is}
use Rattle.ace_model.proofs.Trace.Issued.{outstanding-named}
use Rattle.ace_model.proofs.Trace.Outstanding.{named_read, read_issued}
use Rattle.ace_model.proofs.Outstanding.Names.{named_is, completion_agrees, grant_agrees, memory_agrees}
use Rattle.ace_model.proofs.Outstanding.Steps.{other_name_issued}

-- what is set where a test holds stays as it was where it doesn't
set_where : (f : Bool → Progress) (b old now : Bool) → now ≡ (b || old) → f now ≡ (if b then f true else f old)
set_where f true old now is = ap f is
set_where f false old now is = ap f is

module _ (h : Header) (past : Trace) (x : Transaction) (out : outstanding h past x.port x.chan x.id ≡ Some x) where
  of_name : transaction_of past x.port x.chan x.id ≡ Some x
  of_name = outstanding-named h past x.port x.chan x.id x out

  transfer_completes : (q j resp : ℕ) (last : Bool) (word : ℕ) → is_completion (R q j resp last word) x.port x.chan x.id ≡ (last && has_name x q Read j)
  transfer_completes q j resp last word =
      completion_agrees past (R q j resp last word) x.port x.chan x.id x of_name ∙ ap (λ b. last && b) (named_is past x.port q x.chan Read x.id j x of_name)

  response_completes : (q j resp : ℕ) → is_completion (B q j resp) x.port x.chan x.id ≡ has_name x q Write j
  response_completes q j resp = completion_agrees past (B q j resp) x.port x.chan x.id x of_name ∙ named_is past x.port q x.chan Write x.id j x of_name

  grant_names : (q : ℕ) (d : Channel) (j : ℕ) → is_named (given past (G q d j)) x.port x.chan x.id ≡ has_name x q d j
  grant_names q d j = grant_agrees past (G q d j) x.port x.chan x.id x of_name ∙ named_is past x.port q x.chan d x.id j x of_name

  -- an AR or AW changes nothing
  renewed_ar : (q j addr snoop dom bar : ℕ) (lock : Bool) → has_name (read_issued past q j addr snoop dom bar lock) x.port x.chan x.id ≡ false
      → progress_of h (Ar q j addr snoop dom bar lock ∷ past) x ≡ progress_of h past x
  renewed_ar q j addr snoop dom bar lock other =
      elim (cases_Bool (is_read x.chan)) [
        | inr write ↦ rw (other, write) refl
        | inl read ↦
            let chan = is_read-is x.chan read in
            let none : has_name (read_issued past q j addr snoop dom bar lock) x.port Read x.id ≡ false = rw chan at other in
            let apart = named_read past q j addr snoop dom bar lock x.port x.id false none in
            rw (other, read) (rw (apart, none) refl)
      ]

  renewed_aw : (q j addr snoop dom bar : ℕ) → is_named (issued (length past) (Aw q j addr snoop dom bar)) x.port x.chan x.id ≡ false
      → progress_of h (Aw q j addr snoop dom bar ∷ past) x ≡ progress_of h past x
  renewed_aw q j addr snoop dom bar other =
      elim (cases_Bool (is_read x.chan)) [
        | inr write ↦ rw (other, write) refl
        | inl read ↦
            let chan = is_read-is x.chan read in
            let none : is_named (issued (length past) (Aw q j addr snoop dom bar)) x.port Read x.id ≡ false = rw chan at other in
            rw (other, read) (rw none refl)
      ]

  -- one more transfer of the read
  few_transfers : (j resp : ℕ) (last : Bool) (word : ℕ) → IsAccepted h (R x.port j resp last word ∷ past) → x.chan ≡ Read → x.id ≡ j
      → transfers past x.port x.id < 4
  few_transfers j resp last word a chan id =
      let due = (accepted_keeps h past (R x.port j resp last word) a).rule_18 in
      let there : outstanding h past x.port Read j ≡ Some x = rw (← chan, ← id) out in
      let d = is_some_and-at (outstanding h past x.port Read j) (is_due h past resp last) x due there in
      let k = is_some_and-is (read_kind x) (is_next_transfer past x last) (and_parts (is_some_and (read_kind x) (is_next_transfer past x last)) _ d).0 in
      let low = ltb-true (transfers past x.port x.id) (beats_of k.0) (and_parts _ _ k.2).0 in
      let most = few (reads_a_line k.0) in
      omega (arith, low, most)
    where
      few : (b : Bool) → cond b 4 1 ≤ 4
      few true = omega arith
      few false = omega arith

  same_but_transfer : (n m r s : ℕ) (c d : Bool) → n ≡ m → r ≡ s → c ≡ d
      → record (progress_of h past x) { transfers = n; response = r; complete = c } ≡ record (progress_of h past x) { transfers = m; response = s; complete = d }
  same_but_transfer n m r s c d transfer response complete = rw (transfer, response, complete) refl

  renewed_r : (q j resp : ℕ) (last : Bool) (word : ℕ) → IsAccepted h (R q j resp last word ∷ past)
      → progress_of h (R q j resp last word ∷ past) x ≡ renewed (R q j resp last word) (progress_of h past x)
  renewed_r q j resp last word a =
      let completes = ap (λ b. b || is_complete past x.port x.chan x.id) (transfer_completes q j resp last word) in
      elim (cases_Bool (has_name x q Read j)) [
        | inl t ↦
            let n = has_name-is x q Read j t in
            let read : is_read x.chan ≡ true = rw n.chan refl in
            let low = few_transfers j resp last word (rw n.port a) n.chan n.id in
            let wrap : (transfers past x.port x.id + 1) % 256 ≡ transfers past x.port x.id + 1 = omega (arith, low) in
            let port = eq-eqb x.port q n.port in
            let id = eq-eqb x.id j n.id in
            rw t
            (same_but_transfer _ _ _ _ _ _ (rw (read, port, id) (sym wrap))
            (rw (read, port, id) (first (nat_eq (transfers past x.port x.id) 0) (first_resp past x.port x.id)))
            (completes ∙ rw t (either last (is_complete past x.port x.chan x.id))))
        | inr f ↦
            let complete = completes ∙ rw f (neither last (is_complete past x.port x.chan x.id)) in
            elim (cases_Bool (is_read x.chan)) [
              | inr write ↦ rw f (same_but_transfer _ _ _ _ _ _ (rw write refl) (rw write refl) complete)
              | inl read ↦
                  let chan = is_read-is x.chan read in
                  let apart = unnamed (nat_eq x.port q) (nat_eq x.id j) (rw chan at f) in
                  rw f (same_but_transfer _ _ _ _ _ _ (rw (read, apart) refl) (rw (read, apart) refl) complete)
            ]
      ]
    where
      first : (none : Bool) (o : Option ℕ) → unwrap_or (if none then Some resp else o) 0 ≡ (if none then resp else unwrap_or o 0)
      first true o = refl
      first false o = refl

      either : (l b : Bool) → ((l && true) || b) ≡ (b || l)
      either true true = refl
      either true false = refl
      either false true = refl
      either false false = refl

      neither : (l b : Bool) → ((l && false) || b) ≡ b
      neither true b = refl
      neither false b = refl

      unnamed : (b n : Bool) → ((b && true) && n) ≡ false → (b && n) ≡ false
      unnamed true n e = e
      unnamed false n e = refl

  renewed_b : (q j resp : ℕ) → progress_of h (B q j resp ∷ past) x ≡ renewed (B q j resp) (progress_of h past x)
  renewed_b q j resp =
      set_where (λ c. record (progress_of h past x) { complete = c }) (has_name x q Write j) (is_complete past x.port x.chan x.id) _
      (ap (λ b. b || is_complete past x.port x.chan x.id) (response_completes q j resp))

  renewed_g : (q : ℕ) (d : Channel) (j : ℕ) → progress_of h (G q d j ∷ past) x ≡ renewed (G q d j) (progress_of h past x)
  renewed_g q d j =
      set_where (λ g. record (progress_of h past x) { granted = g }) (has_name x q d j) (has_grant past x.port x.chan x.id) _
      (ap (λ b. b || has_grant past x.port x.chan x.id) (grant_names q d j))

  renewed_m : (q : ℕ) (d : Channel) (j : ℕ) (line : Line) → progress_of h (M q d j line ∷ past) x ≡ renewed (M q d j line) (progress_of h past x)
  renewed_m q d j line =
      let names = memory_agrees past (M q d j line) x.port x.chan x.id x of_name ∙ named_is past x.port q x.chan d x.id j x of_name in
      set_where (λ w. record (progress_of h past x) { written = w }) (has_name x q d j) (has_memory_write past x.port x.chan x.id) _
      (ap (λ b. b || has_memory_write past x.port x.chan x.id) names)

  -- the store of a MakeUnique
  abbrev stores : ℕ → ℕ → Bool
  stores q addr = (nat_eq x.port q && is_make_unique_on x addr) && is_complete past x.port x.chan x.id

  stores_of_read : (q addr strobe : ℕ) (b : Bool) (line : Line) → x.chan ≡ Read
      → is_store_of h past (D q addr strobe b line) x.port x.id ≡ stores q addr
  stores_of_read q addr strobe b line chan =
      let there : outstanding h past x.port Read x.id ≡ Some x = rw (← chan) out in
      let self : is_outstanding h past x ≡ true = rw out (eq-eqb x.place x.place refl) in
      elim (cases_Bool (nat_eq x.port q)) [
        | inr off ↦ rw off refl
        | inl t ↦ rw (t, there, self, eq-eqb x.port x.port refl) (all (is_make_unique_on x addr) (is_complete past x.port x.chan x.id))
      ]
    where
      all : (m c : Bool) → (((true && m) && true) && c) ≡ ((true && m) && c)
      all true c = refl
      all false c = refl

  renewed_d : (q addr strobe : ℕ) (b : Bool) (line : Line) → progress_of h (D q addr strobe b line ∷ past) x ≡ renewed (D q addr strobe b line) (progress_of h past x)
  renewed_d q addr strobe b line =
      set_where (λ s. record (progress_of h past x) { stored = s }) (stores q addr) (is_read x.chan && has_store h past x.port x.id) _
      (elim (cases_Bool (is_read x.chan)) [
        | inr write ↦
            let no_kind : read_kind x ≡ None = rw write refl in
            let none : stores q addr ≡ false = rw no_kind (nothing (nat_eq x.port q)) in rw (none, write) refl
        | inl read ↦
            ap (λ s. is_read x.chan && (s || has_store h past x.port x.id)) (stores_of_read q addr strobe b line (is_read-is x.chan read))
            ∙ turned (is_read x.chan) (stores q addr) (has_store h past x.port x.id) read
      ])
    where
      nothing : (m : Bool) → ((m && false) && is_complete past x.port x.chan x.id) ≡ false
      nothing true = refl
      nothing false = refl

      turned : (r s t : Bool) → r ≡ true → (r && (s || t)) ≡ (s || (r && t))
      turned true s t read = refl
      turned false s t read = cc

  -- after any event of an accepted trace
  pub renewed_is : (e : Event) → IsAccepted h (e ∷ past) → progress_of h (e ∷ past) x ≡ renewed e (progress_of h past x)
  renewed_is (Ar q j addr snoop dom bar lock) a =
      renewed_ar q j addr snoop dom bar lock (other_name_issued h past (Ar q j addr snoop dom bar lock) x.port x.chan x.id x a out)
  renewed_is (Aw q j addr snoop dom bar) a = renewed_aw q j addr snoop dom bar (other_name_issued h past (Aw q j addr snoop dom bar) x.port x.chan x.id x a out)
  renewed_is (R q j resp last word) a = renewed_r q j resp last word a
  renewed_is (B q j resp) a = renewed_b q j resp
  renewed_is (G q d j) a = renewed_g q d j
  renewed_is (M q d j line) a = renewed_m q d j line
  renewed_is (D q addr strobe b line) a = renewed_d q addr strobe b line
  renewed_is _ a = refl
