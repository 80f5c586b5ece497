-- What an event keeps that ends one transaction at most, or lessens the states that the ports hold.
use Rattle.std.proofs.Common.{◌≡◌, ◌≢◌, ℕ, Bool, true, false, ◌∷◌, Some, refl, sym, ◌∙◌, inl, inr}
use Rattle.std.proofs.lemmas.Bool.{cases_Bool}
use Rattle.ace_model.proofs.Terms.{Channel, Read, is_shared, Header, Event, Ar, Aw, Ac, Cr, G, Transaction, Trace, is_ace, is_line, is_unique, is_dirty, first_resp}
use Rattle.ace_model.proofs.Terms.{transfers, outstanding, ended, without, snoops_of, granted, grant_place, answer_of, has_failed, state_of, UniqueNow, OneDirtyNow}
use Rattle.ace_model.proofs.Tables.States.{Lessens}
use Rattle.ace_model.proofs.Tables.Less.{leaves_kept}
use Rattle.ace_model.proofs.Trace.Looks.{without-some, without-other, was_there}
use Rattle.ace_model.proofs.Holders.Facts.{Arrives, GrantsStand, SnoopsFit, AnswersFit, PassedOn, TransfersArrive, OutsideInvalid, OneHolder}

-- the event lessens each port's state of the line
abbrev pub LessenedAt : Header → Trace → Event → ℕ → Type 0
LessenedAt h past e l = (r : ℕ) → Lessens (state_of h past r l) (state_of h (e ∷ past) r l)

-- events that issue, snoop, answer and grant nothing
abbrev pub is_quiet : Event → Bool
is_quiet (Ar q j addr snoop dom bar lock) = false
is_quiet (Aw q j addr snoop dom bar) = false
is_quiet (Ac q addr code) = false
is_quiet (Cr q resp st) = false
is_quiet (G q c j) = false
is_quiet _ = true

module _ (h : Header) (past : Trace) where
  -- What such an event leaves as it was, but for the transaction that it ends.
  record Quiet (e : Event) : Type 0 where
    out : (p : ℕ) (c : Channel) (i : ℕ) → outstanding h (e ∷ past) p c i ≡ without (ended h past e) (outstanding h past p c i)
    given : (l : ℕ) → granted h (e ∷ past) l ≡ without (ended h past e) (granted h past l)
    snoops : (r : ℕ) → snoops_of (e ∷ past) r ≡ snoops_of past r
    place : (l : ℕ) → grant_place (e ∷ past) l ≡ grant_place past l
    answer : (r l : ℕ) → answer_of (e ∷ past) r l ≡ answer_of past r l
    failed : (x : Transaction) → has_failed (e ∷ past) x ≡ has_failed past x

  quiet : (e : Event) → is_quiet e ≡ true → Quiet e
  quiet (Ar q j addr snoop dom bar lock) t = cc
  quiet (Aw q j addr snoop dom bar) t = cc
  quiet (Ac q addr code) t = cc
  quiet (Cr q resp st) t = cc
  quiet (G q c j) t = cc
  quiet e t = record {
    out = λ p c i. refl;
    given = λ l. refl;
    snoops = λ r. refl;
    place = λ l. refl;
    answer = λ r l. refl;
    failed = λ x. refl;
  }

  -- the facts of a read, where its grant stands and the states of its line are lessened
  pub arrives_kept : (e : Event) (p i : ℕ) (x : Transaction) → granted h (e ∷ past) x.addr ≡ Some x
      → first_resp (e ∷ past) p i ≡ first_resp past p i → has_failed (e ∷ past) x ≡ has_failed past x → LessenedAt h past e x.addr
      → Arrives h past p i x → Arrives h (e ∷ past) p i x
  arrives_kept e p i x g first failed less a = record {
    stands = g;
    alone = λ k is t r ne. (less r).gone (a.alone k is (rw (first, failed) at t) r ne);
    beside = λ k is t r ne. (less r).not_unique (a.beside k is t r ne);
    dirty = λ t r. (less r).settled (a.dirty (rw first at t) r);
  }

  -- The facts of grants, snoops and answers after the event.
  pub record Standing (e : Event) : Type 0 where
    pub grants : GrantsStand h (e ∷ past)
    pub snoops : SnoopsFit h (e ∷ past)
    pub answers : AnswersFit h (e ∷ past)
    pub passed : PassedOn h (e ∷ past)

  -- a quiet event that lessens the states of the lines that stay granted
  module _ (e : Event) (f : OneHolder h past) (t : is_quiet e ≡ true)
      (less : (l : ℕ) (x : Transaction) → granted h (e ∷ past) l ≡ Some x → LessenedAt h past e l) where
    -- what is granted after it was granted before
    fewer : (l : ℕ) (x : Transaction) → granted h (e ∷ past) l ≡ Some x → granted h past l ≡ Some x
    fewer l x g = was_there (ended h past e) (granted h past l) x (sym ((quiet e t).given l) ∙ g)

    pub standing : Standing e
    standing = record {
      grants = λ l x g.
          let w = without-some (ended h past e) (granted h past l) x (sym ((quiet e t).given l) ∙ g) in
          let s = f.grants l x w.0 in (
            (quiet e t).out x.port x.chan x.id ∙ without-other (ended h past e) (outstanding h past x.port x.chan x.id) x s.0 w.1,
            s.1,
          );
      snoops = λ r n l s x is on place g.
          f.snoops r n l s x (rw ((quiet e t).snoops r) at is) on (rw ((quiet e t).place l) at place) (fewer l x g);
      answers = λ l r x a k g w causes.
          leaves_kept k (is_shared a.resp) _ _ (less l x g r) (f.answers l r x a k (fewer l x g) (sym ((quiet e t).answer r l) ∙ w) causes);
      passed = λ l r x a g takes w dirty z.
          (less l x g z).settled (f.passed l r x a (fewer l x g) takes (sym ((quiet e t).answer r l) ∙ w) dirty z);
    }

    -- the facts of a read that has no transfer by it
    pub read_kept : (p i : ℕ) (x : Transaction) → is_ace h p ≡ true → outstanding h (e ∷ past) p Read i ≡ Some x → is_line x ≡ true
        → transfers past p i ≢ 0 → first_resp (e ∷ past) p i ≡ first_resp past p i → Arrives h (e ∷ past) p i x
    read_kept p i x ace o line some first =
        let w = without-some (ended h past e) (outstanding h past p Read i) x (sym ((quiet e t).out p Read i) ∙ o) in
        let a = f.arrive p i x ace w.0 line some in
        let g = (quiet e t).given x.addr ∙ without-other (ended h past e) (granted h past x.addr) x a.stands w.1 in
        arrives_kept e p i x g first ((quiet e t).failed x) (less x.addr x g) a

    -- and of all reads, where none has a transfer by it
    pub arrive_kept : ((p i : ℕ) → transfers (e ∷ past) p i ≡ transfers past p i) → ((p i : ℕ) → first_resp (e ∷ past) p i ≡ first_resp past p i)
        → TransfersArrive h (e ∷ past)
    arrive_kept count first p i x ace o line some = read_kept p i x ace o line (λ z. some (count p i ∙ z)) (first p i)

  -- What an event leaves that lessens the states of every line.
  pub record Held (e : Event) : Type 0 where
    pub unique : UniqueNow h (e ∷ past)
    pub outside : OutsideInvalid h (e ∷ past)

  pub held_kept : (e : Event) → ((l : ℕ) → LessenedAt h past e l) → OneHolder h past → Held e
  held_kept e less f = record {
    unique = λ l p q u ne. elim (cases_Bool (is_unique (state_of h past p l))) [
      | inl t ↦ (less l q).gone (f.unique l p q t ne)
      | inr not_before ↦ let not_now = (less l p).not_unique not_before in cc
    ];
    outside = λ q l o. (less l q).gone (f.outside q l o);
  }

  -- and where it makes no line dirty
  pub one_dirty_kept : (e : Event)
      → ((r l : ℕ) → is_dirty (state_of h past r l) ≡ false → is_dirty (state_of h (e ∷ past) r l) ≡ false)
      → OneDirtyNow h past → OneDirtyNow h (e ∷ past)
  one_dirty_kept e clean f l p q dp dq = f l p q (was p dp) (was q dq)
    where
      was : (r : ℕ) → is_dirty (state_of h (e ∷ past) r l) ≡ true → is_dirty (state_of h past r l) ≡ true
      was r d =
          elim (cases_Bool (is_dirty (state_of h past r l))) [
            | inl t ↦ t
            | inr not_before ↦ let not_now = clean r l not_before in cc
          ]
