-- What an event of a port leaves of a line at the port is what its change says.
use Rattle.std.proofs.Common.{◌≡◌, ℕ, Bool, true, false, ◌&&◌, ◌==◌, if◌then◌else◌, List, ◌∷◌, length, Option, Some, None, option_map, unwrap_or, inl, inr, refl, sym, ap, subst, ◌∙◌}
use Rattle.std.proofs.lemmas.Bool.{and_from, cases_Bool, eq-eqb, eqb-true, false_from_ne_true}
use Rattle.ace_codes.specs.declared.state.LineState.{LineState}
use Rattle.ace_codes.specs.declared.state.LineState.TheVariants.{I}
use Rattle.ace_event.specs.Bytes.{merged}
use Rattle.ace_event.specs.declared.event.Channel.{Channel}
use Rattle.ace_event.specs.declared.event.Event.{Event}
use Rattle.ace_event.specs.declared.header.Header.{Header}
use Rattle.ace_event.specs.declared.line.Line.{Line}
use Rattle.ace_tables.specs.States.{is_invalid}
use Rattle.ace_model.specs.declared.snoops.Snoop.{Snoop}
use Rattle.ace_model.specs.declared.transactions.Transaction.{Transaction}
use Rattle.ace_model.specs.Accepted.{IsAccepted}
use Rattle.ace_model.specs.Copies.{copy_of}
use Rattle.ace_model.specs.Snoops.{is_snoop_on, snoops_a_line}
use Rattle.ace_model.specs.States.{state_of}
use Rattle.ace_model.specs.Trace.{Trace, is_some_and}
use Rattle.ace_model.specs.Transactions.{acknowledged, ended, has_outstanding_on, is_line, is_on, is_some_on, issued, outstanding}
use Rattle.ace_model.proofs.General.Options.{Some-injective}
use Rattle.ace_cache.specs.declared.way.Way.{Way}
use Rattle.ace_master_state.specs.Arriving.{line_under}
use Rattle.ace_master_state.specs.Cached.{LineHeld}
use Rattle.ace_master_state.specs.Change.{becomes, begins, changed, ends, held_or, marked_so, stored_so}
use Rattle.ace_master_state.specs.declared.change.Change.TheVariants.{Becomes, Stores}
use Rattle.ace_master_state.proofs.LinesHeard.{ended-issued}
use Rattle.ace_master_state.proofs.UnderWay.{as-before, begins-under-way, ends-under-way}

-- ---- ways --------------------------------------------------------------------------------------------

module _ (h : Header) (past : Trace) (p l : ℕ) where
  pub one-way : (w : Way) → w.st ≡ state_of h past p l → is_invalid w.st ≡ false → w.busy ≡ has_outstanding_on h past p l → w.line ≡ copy_of past p l → LineHeld h past p l (Some w)
  one-way w st some busy copy = record {
    state = st;
    some = λ v is. subst (λ (u : Way). is_invalid u.st ≡ false) (Some-injective w v is) some;
    busy = λ v is. subst (λ (u : Way). u.busy ≡ has_outstanding_on h past p l) (Some-injective w v is) busy;
    copy = λ v is. subst (λ (u : Way). u.line ≡ copy_of past p l) (Some-injective w v is) copy;
  }

  pub no-way : state_of h past p l ≡ I → LineHeld h past p l None
  no-way none = record { state = sym none; some = λ w is. cc; busy = λ w is. cc; copy = λ w is. cc }

invalid-is : (st : LineState) → is_invalid st ≡ true → st ≡ I
invalid-is I t = refl
invalid-is st t = cc

-- what stays of a way
pub stays-held : (h : Header) (past : Trace) (e : Event) (p l : ℕ) (o : Option Way) → state_of h (e ∷ past) p l ≡ state_of h past p l
    → has_outstanding_on h (e ∷ past) p l ≡ has_outstanding_on h past p l → ((w : Way) → o ≡ Some w → copy_of (e ∷ past) p l ≡ copy_of past p l) → LineHeld h past p l o → LineHeld h (e ∷ past) p l o
stays-held h past e p l o state busy copy s = record {
  state = s.state ∙ sym state;
  some = s.some;
  busy = λ w is. s.busy w is ∙ sym busy;
  copy = λ w is. s.copy w is ∙ sym (copy w is);
}

off-line : (x : Transaction) (l : ℕ) → is_line x ≡ false → is_on x l ≡ false
off-line x l f = ap (λ b. b && (x.addr == l)) f

other-line : (x : Transaction) (l : ℕ) → (l == x.addr) ≡ false → is_on x l ≡ false
other-line x l f = by (is_line x) (false_from_ne_true (x.addr == l) (λ t. let back = eq-eqb l x.addr (sym (eqb-true x.addr l t)) in cc))
  where
    by : (b : Bool) → (x.addr == l) ≡ false → (b && (x.addr == l)) ≡ false
    by true f = f
    by false f = refl

on-line : (x : Transaction) (l : ℕ) → is_line x ≡ true → (l == x.addr) ≡ true → is_on x l ≡ true
on-line x l line t = and_from _ _ line (eq-eqb x.addr l (sym (eqb-true l x.addr t)))

-- ---- a transaction begins ----------------------------------------------------------------------------

module _ (h : Header) (past : Trace) (e : Event) (a : IsAccepted h (e ∷ past)) (p l : ℕ) (o : Option Way) (s : LineHeld h past p l o) where
  pub begins-held : (x : Transaction) → issued (length past) e ≡ Some x → x.port ≡ p → ended h past e ≡ None → state_of h (e ∷ past) p l ≡ state_of h past p l
      → copy_of (e ∷ past) p l ≡ copy_of past p l → LineHeld h (e ∷ past) p l (changed (begins (Some x)) l o)
  begins-held x new port none state copy =
      elim (cases_Bool (is_line x)) [
        | inr f ↦ rw f (stays-held h past e p l o state (same (off-line x l f)) (λ w is. copy) s)
        | inl t ↦ elim (cases_Bool (l == x.addr)) [
          | inr f ↦ rw (t, f) (stays-held h past e p l o state (same (other-line x l f)) (λ w is. copy) s)
          | inl here ↦ rw (t, here) (by o s (begins-under-way h past e a p l x new port (on-line x l t here)))
        ]
      ]
    where
      same : is_on x l ≡ false → has_outstanding_on h (e ∷ past) p l ≡ has_outstanding_on h past p l
      same off =
          as-before h past e a p l (λ y is q. ap (λ v. is_on v l) (sym (Some-injective x y (sym new ∙ is))) ∙ off)
          (λ z gone. let bad : None ≡ Some z = sym none ∙ gone in cc)

      by : (way : Option Way) → LineHeld h past p l way → has_outstanding_on h (e ∷ past) p l ≡ true → LineHeld h (e ∷ past) p l (option_map (λ w. marked_so w.st true w) way)
      by None was busy = no-way h (e ∷ past) p l (state ∙ sym was.state)
      by (Some w) was busy = one-way h (e ∷ past) p l (marked_so w.st true w) (was.state ∙ sym state) (was.some w refl) (sym busy) (was.copy w refl ∙ sym copy)

  -- ---- a transaction ends ----------------------------------------------------------------------------

  pub ends-held : (c : Channel) (st : LineState) (arriving : List Line) → issued (length past) e ≡ None → ended h past e ≡ acknowledged past p c
      → state_of h (e ∷ past) p l ≡ unwrap_or (if is_some_on (acknowledged past p c) l then Some st else None) (state_of h past p l)
      → copy_of (e ∷ past) p l ≡ copy_of past p l
      → ((x : Transaction) → acknowledged past p c ≡ Some x → (i : ℕ) × (outstanding h past p c i ≡ Some x))
      → ((x : Transaction) → acknowledged past p c ≡ Some x → is_on x l ≡ true → state_of h past p l ≡ I → is_invalid st ≡ false → line_under arriving x.id ≡ copy_of past p l)
      → LineHeld h (e ∷ past) p l (changed (ends (acknowledged past p c) st arriving) l o)
  ends-held c st arriving none gone left copy out fresh = by (acknowledged past p c) refl
    where
      issues-none : (y : Transaction) → issued (length past) e ≡ Some y → y.port ≡ p → is_on y l ≡ false
      issues-none y is port = let bad : None ≡ Some y = sym none ∙ is in cc

      -- it is of another line
      off : (x : Transaction) → acknowledged past p c ≡ Some x → is_on x l ≡ false → LineHeld h (e ∷ past) p l o
      off x is f =
          stays-held h past e p l o (left ∙ ap (λ v. unwrap_or (if is_some_on v l then Some st else None) (state_of h past p l)) is
          ∙ ap (λ b. unwrap_or (if b then Some st else None) (state_of h past p l)) f)
          (as-before h past e a p l issues-none (λ z ends_z.
          let i = ended-issued h past e z ends_z in
          (i.was, λ port. ap (λ v. is_on v l) (Some-injective z x (sym ends_z ∙ gone ∙ is)) ∙ f)))
          (λ w there. copy) s

      -- it is of this line
      on : (x : Transaction) → acknowledged past p c ≡ Some x → is_on x l ≡ true → (way : Option Way) → LineHeld h past p l way → x.addr ≡ l
          → LineHeld h (e ∷ past) p l (if is_invalid st then None else Some (record { addr = x.addr; st = st; line = held_or way (line_under arriving x.id); busy = false }))
      on x is t way was at =
          let now : state_of h (e ∷ past) p l ≡ st = left ∙ ap (λ v. unwrap_or (if is_some_on v l then Some st else None) (state_of h past p l)) is
          ∙ ap (λ b. unwrap_or (if b then Some st else None) (state_of h past p l)) t in
          let place = out x is in
          let idle = ends-under-way h past e a p l c place.0 x none (gone ∙ is) place.1 t in
          elim (cases_Bool (is_invalid st)) [
            | inl invalid ↦ rw invalid (no-way h (e ∷ past) p l (now ∙ invalid-is st invalid))
            | inr some ↦
                rw some (one-way h (e ∷ past) p l (record { addr = x.addr; st = st; line = held_or way (line_under arriving x.id); busy = false }) (sym now) some (sym idle)
                (bytes way was some ∙ sym copy))
          ]
        where
          bytes : (way : Option Way) → LineHeld h past p l way → is_invalid st ≡ false → held_or way (line_under arriving x.id) ≡ copy_of past p l
          bytes None was some = fresh x is t (sym was.state) some
          bytes (Some w) was some = was.copy w refl

      by : (v : Option Transaction) → acknowledged past p c ≡ v → LineHeld h (e ∷ past) p l (changed (ends v st arriving) l o)
      by None is =
          stays-held h past e p l o (left ∙ ap (λ v. unwrap_or (if is_some_on v l then Some st else None) (state_of h past p l)) is)
          (as-before h past e a p l issues-none (λ z ends_z. let bad : None ≡ Some z = sym (gone ∙ is) ∙ ends_z in cc)) (λ w there. copy) s
      by (Some x) is =
          elim (cases_Bool (is_line x)) [
            | inr f ↦ rw f (off x is (off-line x l f))
            | inl t ↦ elim (cases_Bool (l == x.addr)) [
              | inr f ↦ rw (t, f) (off x is (other-line x l f))
              | inl here ↦ rw (t, here) (on x is (on-line x l t here) o s (sym (eqb-true l x.addr here)))
            ]
          ]

  -- ---- the state changes -----------------------------------------------------------------------------

  -- the line gets that state, where it is held
  pub becomes-here : (addr : ℕ) (st : LineState) → has_outstanding_on h (e ∷ past) p l ≡ has_outstanding_on h past p l → copy_of (e ∷ past) p l ≡ copy_of past p l
      → state_of h (e ∷ past) p l ≡ unwrap_or (if l == addr then Some st else None) (state_of h past p l)
      → (state_of h past p l ≡ I → state_of h (e ∷ past) p l ≡ I) → LineHeld h (e ∷ past) p l (changed (Becomes addr st) l o)
  becomes-here addr st busy copy left gone =
      elim (cases_Bool (l == addr)) [
        | inr f ↦ rw f (stays-held h past e p l o (left ∙ ap (λ b. unwrap_or (if b then Some st else None) (state_of h past p l)) f) busy (λ w is. copy) s)
        | inl t ↦
            let now : state_of h (e ∷ past) p l ≡ st = left ∙ ap (λ b. unwrap_or (if b then Some st else None) (state_of h past p l)) t in
            elim (cases_Bool (is_invalid st)) [
              | inl invalid ↦ rw (t, invalid) (no-way h (e ∷ past) p l (now ∙ invalid-is st invalid))
              | inr some ↦ rw (t, some) (by o s now some)
            ]
      ]
    where
      by : (way : Option Way) → LineHeld h past p l way → state_of h (e ∷ past) p l ≡ st → is_invalid st ≡ false → LineHeld h (e ∷ past) p l (option_map (λ w. marked_so st w.busy w) way)
      by None was now some = no-way h (e ∷ past) p l (gone (sym was.state))
      by (Some w) was now some = one-way h (e ∷ past) p l (marked_so st w.busy w) (sym now) some (was.busy w refl ∙ sym busy) (was.copy w refl ∙ sym copy)

  pub becomes-held : (answer : Option Snoop) (st : LineState) → has_outstanding_on h (e ∷ past) p l ≡ has_outstanding_on h past p l → copy_of (e ∷ past) p l ≡ copy_of past p l
      → state_of h (e ∷ past) p l ≡ unwrap_or (if is_some_and answer (λ v. is_snoop_on v l) then Some st else None) (state_of h past p l)
      → (state_of h past p l ≡ I → state_of h (e ∷ past) p l ≡ I) → LineHeld h (e ∷ past) p l (changed (becomes answer st) l o)
  becomes-held None st busy copy left gone = stays-held h past e p l o left busy (λ w is. copy) s
  becomes-held (Some v) st busy copy left gone =
      elim (cases_Bool (snoops_a_line v.snoop)) [
        | inr f ↦ rw f (stays-held h past e p l o (left ∙ ap (λ b. unwrap_or (if b && (v.addr == l) then Some st else None) (state_of h past p l)) f) busy (λ w is. copy) s)
        | inl t ↦
            rw t (becomes-here v.addr st busy copy
            (left ∙ ap (λ b. unwrap_or (if b && (v.addr == l) then Some st else None) (state_of h past p l)) t
            ∙ ap (λ b. unwrap_or (if b then Some st else None) (state_of h past p l)) (swap v.addr l)) gone)
      ]
    where
      swap : (a b : ℕ) → (a == b) ≡ (b == a)
      swap a b = elim (cases_Bool (a == b)) [
        | inl t ↦ t ∙ sym (eq-eqb b a (sym (eqb-true a b t)))
        | inr f ↦ f ∙ sym (false_from_ne_true (b == a) (λ t. let back = eq-eqb a b (sym (eqb-true b a t)) in cc))
      ]

  -- ---- a store ---------------------------------------------------------------------------------------

  pub stores-held : (addr strobe : ℕ) (bytes : Line) (st : Option LineState) → has_outstanding_on h (e ∷ past) p l ≡ has_outstanding_on h past p l
      → copy_of (e ∷ past) p l ≡ (if l == addr then merged (copy_of past p l) strobe bytes else copy_of past p l)
      → ((l == addr) ≡ true → state_of h (e ∷ past) p l ≡ unwrap_or st (state_of h past p l)) → ((l == addr) ≡ false → state_of h (e ∷ past) p l ≡ state_of h past p l)
      → (state_of h past p l ≡ I → state_of h (e ∷ past) p l ≡ I) → ((l == addr) ≡ true → is_invalid (unwrap_or st (state_of h past p l)) ≡ is_invalid (state_of h past p l))
      → LineHeld h (e ∷ past) p l (changed (Stores addr strobe bytes st) l o)
  stores-held addr strobe bytes st busy copy here there gone some =
      elim (cases_Bool (l == addr)) [
        | inr f ↦ rw f (stays-held h past e p l o (there f) busy (λ w is. copy ∙ ap (λ b. if b then merged (copy_of past p l) strobe bytes else copy_of past p l) f) s)
        | inl t ↦ rw t (by o s (some t) (here t) (copy ∙ ap (λ b. if b then merged (copy_of past p l) strobe bytes else copy_of past p l) t))
      ]
    where
      by : (way : Option Way) → LineHeld h past p l way → is_invalid (unwrap_or st (state_of h past p l)) ≡ is_invalid (state_of h past p l)
          → state_of h (e ∷ past) p l ≡ unwrap_or st (state_of h past p l) → copy_of (e ∷ past) p l ≡ merged (copy_of past p l) strobe bytes
          → LineHeld h (e ∷ past) p l (option_map (stored_so strobe bytes st) way)
      by None was valid now new = no-way h (e ∷ past) p l (gone (sym was.state))
      by (Some w) was valid now new =
          let same : unwrap_or st w.st ≡ unwrap_or st (state_of h past p l) = ap (unwrap_or st) was.state in
          one-way h (e ∷ past) p l (stored_so strobe bytes st w) (same ∙ sym now)
          (ap is_invalid same ∙ valid ∙ ap is_invalid (sym was.state) ∙ was.some w refl)
          (was.busy w refl ∙ sym busy) (ap (λ v. merged v strobe bytes) (was.copy w refl) ∙ sym new)
