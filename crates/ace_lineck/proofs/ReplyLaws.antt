-- The rules of the answers to reads, in the words of what is kept of the line.
use Rattle.std.proofs.Common.{arith, ◌≡◌, ℕ, ◌+◌, true, false, Bool, not, ◌&&◌, ◌||◌, ◌==◌, if◌then◌else◌, nat_eq, [], ◌∷◌, Option, Some, None, is_none, option_and_then, unwrap_or, refl, sym, ap, ◌∙◌, inl, inr}
use Rattle.std.proofs.lemmas.Bool.{false_from_ne_true, and_parts, cases_Bool, cases_eq, eq-eqb, ne_eqb, or_left}
use Rattle.ace_lineck.proofs.Terms.{LineStands, passes_dirty, is_shared, ArKind, Line, Transaction, same_upper_bits, Header, Trace, Read, Ar, R, IsAccepted, newer, implies, is_some_and, is_none_or, is_ace, is_read, is_line, is_line_read, is_line_write, read_kind, write_kind, outstanding, transfers, first_resp, granted, is_granted, has_passed_data, has_sharer, memory_of, word_of, first_sender, copy_at_answer, memory_at_first_beat, reply_of, is_line_read_transaction, reads_a_line, has_word, has_upper_bits, fits_kind, may_be_shared, is_read_not_shared_dirty, may_transfer, progress_of, LineRecord, Grant, GrantFits, GrantStands, fetched, reply_kept, fits_reply, fits_shared, fits_bits, has_passed, has_passed_for, is_shared_under, is_its}
use Rattle.ace_codes.specs.declared.kind.ArKind.TheVariants as read
use Rattle.ace_model.proofs.General.Options.{Some-injective, is_some_and-is}
use Rattle.ace_model.proofs.Trace.Looks.{is_on-addr}
use Rattle.ace_model.proofs.Trace.Issued.{outstanding-name}
use Rattle.ace_model.proofs.Holders.Law.{accepted_holds}
use Rattle.ace_model.proofs.Grants.Granted.{granted_at}
use Rattle.ace_model.proofs.Values.Replies.{memory-before}
use Rattle.ace_lineck.proofs.GrantLaws.{passed-law, read-count}

-- the reply of the granted read
pub reply-law : (h : Header) (past : Trace) → IsAccepted h past → (l : ℕ) (g : Grant) → GrantFits h past l g → is_read g.transaction.chan ≡ true → (memory : Line) → memory ≡ memory_of past l
    → unwrap_or g.reply memory ≡ reply_of past g.transaction
reply-law h past a l g f reads memory kept =
    ap (λ o. unwrap_or o memory) f.reply ∙ by (option_and_then (copy_at_answer past l) (first_sender past l))
    ∙ ap (λ v. unwrap_or (option_and_then (copy_at_answer past v) (first_sender past v)) (memory_at_first_beat past g.transaction.port g.transaction.id g.transaction.addr)) (sym addr)
  where
    addr : g.transaction.addr ≡ l
    addr = is_on-addr g.transaction l ((accepted_holds h past a).grants l g.transaction f.granted).1

    fetch : unwrap_or (fetched past g.transaction) memory ≡ memory_at_first_beat past g.transaction.port g.transaction.id g.transaction.addr
    fetch =
        let x = g.transaction in
        elim (cases_eq (transfers past x.port x.id) 0) [
          | inl none ↦
              let before : fetched past x ≡ None = rw (reads, none) refl in
              ap (λ o. unwrap_or o memory) before ∙ kept ∙ sym (memory-before past x.port x.id x.addr none ∙ ap (memory_of past) addr)
          | inr some ↦
              let now : fetched past x ≡ Some (memory_at_first_beat past x.port x.id x.addr) = rw (reads, ne_eqb (transfers past x.port x.id) 0 some) refl in
              ap (λ o. unwrap_or o memory) now
        ]

    by : (o : Option Line) → unwrap_or (newer o (fetched past g.transaction)) memory ≡ unwrap_or o (memory_at_first_beat past g.transaction.port g.transaction.id g.transaction.addr)
    by None = fetch
    by (Some c) = refl

-- a read of a line has a line
line_read-line : (k : ArKind) → reads_a_line k ≡ true → is_line_read k ≡ true
line_read-line read.Barrier e = cc
line_read-line read.DvmComplete e = cc
line_read-line read.DvmMessage e = cc
line_read-line k e = refl

shared-line : (k : ArKind) → may_be_shared k ≡ true → is_line_read k ≡ true
shared-line read.Barrier e = cc
shared-line read.DvmComplete e = cc
shared-line read.DvmMessage e = cc
shared-line k e = refl

pub kind-line : (x : Transaction) (k : ArKind) → read_kind x ≡ Some k → is_line_read k ≡ true → is_line x ≡ true
kind-line x k kind line = or_left (is_some_and (read_kind x) is_line_read) (is_some_and (write_kind x) is_line_write) (rw kind line)

-- a first response is there from the first transfer on
first-none : (past : Trace) (p i : ℕ) → (transfers past p i == 0) ≡ is_none (first_resp past p i)
first-none [] p i = refl
first-none (Ar q j addr snoop dom bar lock ∷ past) p i =
    elim (cases_Bool (nat_eq p q && nat_eq i j)) [
      | inl t ↦ rw t refl
      | inr f ↦ rw f (first-none past p i)
    ]
first-none (R q j resp last word ∷ past) p i =
    elim (cases_Bool (nat_eq p q && nat_eq i j)) [
      | inr f ↦ rw f (first-none past p i)
      | inl t ↦ elim (cases_Bool (transfers past p i == 0)) [
        | inl z ↦ rw (t, z) (ne_eqb (transfers past p i + 1) 0 (λ e. absurd (omega arith)))
        | inr some ↦ let before = first-none past p i in rw (t, some) (ne_eqb (transfers past p i + 1) 0 (λ e. absurd (omega arith)) ∙ sym some ∙ before)
      ]
    ]
first-none (_ ∷ past) p i = first-none past p i

module _ (h : Header) (past : Trace) (a : IsAccepted h past) (p i resp : ℕ) (y : Transaction) (o : outstanding h past p Read i ≡ Some y) (x : LineRecord)
    (s : is_line y ≡ true → LineStands h past y.addr x) (may : is_line y ≡ true → may_transfer h past y resp ≡ true) where
  line-stands : is_line y ≡ true → granted h past y.addr ≡ Some y
  line-stands line = granted_at h past a p Read i y o (and_parts (is_granted h past y) _ (and_parts (is_granted h past y && _) _ (may line)).0).0

  -- K20
  pub k20-law : (word : ℕ) → fits_reply x.grant x.memory word (progress_of h past y) ≡ has_word past word y
  k20-law word =
      elim (cases_Bool (is_line_read_transaction y)) [
        | inr n ↦ rw n refl
        | inl reads ↦
            let k = is_some_and-is (read_kind y) reads_a_line reads in
            ap (λ n. word == (if is_line_read_transaction y then word_of (reply_kept x.grant x.memory) n else 0)) (read-count h past a p i y o)
            ∙ ap (λ v. word == (if is_line_read_transaction y then word_of v (transfers past y.port y.id) else 0)) (replied (kind-line y k.0 k.1 (line_read-line k.0 k.2)))
      ]
    where
      replied : is_line y ≡ true → reply_kept x.grant x.memory ≡ reply_of past y
      replied line = of x.grant (s line).grant
        where
          of : (g : Option Grant) → GrantStands h past y.addr g → reply_kept g x.memory ≡ reply_of past y
          of None f = let bad : None ≡ Some y = sym f ∙ line-stands line in cc
          of (Some g) f =
              let one : g.transaction ≡ y = Some-injective g.transaction y (sym f.granted ∙ line-stands line) in
              let reads : is_read g.transaction.chan ≡ true = ap (λ (v : Transaction). is_read v.chan) one ∙ ap is_read (outstanding-name h past p Read i y o).chan in
              reply-law h past a y.addr g f reads x.memory (s line).memory.memory ∙ ap (reply_of past) one

  -- K19
  passed-for : has_passed_for x.grant y ≡ has_passed_data h past y
  passed-for =
      elim (cases_Bool (is_line y)) [
        | inr n ↦
            let none : has_passed_data h past y ≡ false = false_from_ne_true (has_passed_data h past y) (λ t.
            let is = (and_parts (is_granted h past y) _ (and_parts (is_granted h past y && _) _ t).0).0 in
            let on = ((accepted_holds h past a).grants y.addr y (granted_at h past a p Read i y o is)).1 in
            let line = (and_parts (is_line y) _ on).0 in cc) in
            rw n (sym none)
        | inl line ↦ rw line (of x.grant (s line).grant (line-stands line))
      ]
    where
      of : (g : Option Grant) → GrantStands h past y.addr g → granted h past y.addr ≡ Some y → is_some_and g (λ v. is_its v y && has_passed v) ≡ has_passed_data h past y
      of None f stands = let bad : None ≡ Some y = sym f ∙ stands in cc
      of (Some g) f stands =
          let one : g.transaction ≡ y = Some-injective g.transaction y (sym f.granted ∙ stands) in
          let own : is_its g y ≡ true = eq-eqb g.transaction.place y.place (ap (λ (v : Transaction). v.place) one) in
          rw own (passed-law h past a y.addr g f ∙ ap (has_passed_data h past) one)

  shared-for : is_line y ≡ true → is_shared_under x.grant ≡ has_sharer h past y.addr
  shared-for line = of x.grant (s line).grant
    where
      of : (g : Option Grant) → GrantStands h past y.addr g → is_shared_under g ≡ has_sharer h past y.addr
      of None f = let bad : None ≡ Some y = sym f ∙ line-stands line in cc
      of (Some g) f = f.shared

  kinds-for : (k : Option ArKind) → read_kind y ≡ k → is_none_or k (fits_shared h (is_shared_under x.grant) resp y) ≡ is_none_or k (fits_kind h past y resp)
  kinds-for None is = refl
  kinds-for (Some k) is =
      elim (cases_Bool (may_be_shared k)) [
        | inr n ↦ rw n (same (is_ace h y.port) (is_shared_under x.grant) (has_sharer h past y.addr))
        | inl shared ↦
            ap (λ b. (implies (is_shared resp) (may_be_shared k) && not ((is_read_not_shared_dirty k && passes_dirty resp) && is_shared resp)) && implies ((is_ace h y.port && may_be_shared k) && b) (is_shared resp))
            (shared-for (kind-line y k is (shared-line k shared)))
      ]
    where
      same : (ace b d : Bool) → ((implies (is_shared resp) false && not ((is_read_not_shared_dirty k && passes_dirty resp) && is_shared resp)) && implies ((ace && false) && b) (is_shared resp))
          ≡ ((implies (is_shared resp) false && not ((is_read_not_shared_dirty k && passes_dirty resp) && is_shared resp)) && implies ((ace && false) && d) (is_shared resp))
      same true b d = refl
      same false b d = refl

  first-for : (if (progress_of h past y).transfers == 0 then true else same_upper_bits resp (progress_of h past y).response) ≡ is_none_or (first_resp past y.port y.id) (same_upper_bits resp)
  first-for =
      let reads = ap is_read (outstanding-name h past p Read i y o).chan in
      rw reads (by (first_resp past y.port y.id) (first-none past y.port y.id))
    where
      by : (r : Option ℕ) → (transfers past y.port y.id == 0) ≡ is_none r
          → (if transfers past y.port y.id == 0 then true else same_upper_bits resp (unwrap_or r 0)) ≡ is_none_or r (same_upper_bits resp)
      by None none = rw none refl
      by (Some v) none = rw none refl

  pub k19-law : fits_bits h (has_passed_for x.grant y) (is_shared_under x.grant) resp (progress_of h past y) ≡ has_upper_bits h past resp y
  k19-law =
      ap (λ b. ((implies (passes_dirty resp) b && is_none_or (read_kind y) (fits_shared h (is_shared_under x.grant) resp y)) && implies (passes_dirty resp || is_shared resp) (is_ace h y.port))
      && (if (progress_of h past y).transfers == 0 then true else same_upper_bits resp (progress_of h past y).response)) passed-for
      ∙ ap (λ b. ((implies (passes_dirty resp) (has_passed_data h past y) && b) && implies (passes_dirty resp || is_shared resp) (is_ace h y.port))
      && (if (progress_of h past y).transfers == 0 then true else same_upper_bits resp (progress_of h past y).response)) (kinds-for (read_kind y) refl)
      ∙ ap (λ b. ((implies (passes_dirty resp) (has_passed_data h past y) && is_none_or (read_kind y) (fits_kind h past y resp)) && implies (passes_dirty resp || is_shared resp) (is_ace h y.port)) && b) first-for
