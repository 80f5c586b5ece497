-- What a call of the cache leaves of each way is what the change says.
use Rattle.std.proofs.Common.{◌≡◌, ℕ, ◌==◌, if◌then◌else◌, Bool, true, false, List, ◌∷◌, map, Option, Some, None, IsSome, is_some, option_map, unwrap_or, inl, inr, refl, sym, ap, subst, ◌∙◌}
use Rattle.std.proofs.lemmas.Bool.{cases_Bool, eq-eqb, eqb-true, ne_eqb}
use Rattle.ace_codes.specs.declared.state.LineState.{LineState}
use Rattle.ace_event.specs.declared.line.Line.{Line}
use Rattle.ace_tables.specs.States.{is_invalid}
use Rattle.ace_cache.specs.declared.way.Way.{Way}
use Rattle.ace_cache.specs.Ways.{marked, stored, stored_at, way_of, without}
use Rattle.ace_cache.proofs.Distinct.{address-found, way_of-marked, way_of-without}
use Rattle.ace_cache.proofs.Looks.{way_of-stored_at}
use Rattle.ace_master_state.specs.declared.change.Change.TheVariants.{Becomes, Begins, Ends, Stores}
use Rattle.ace_master_state.specs.Change.{changed, marked_so}

-- a mark changes the way of its line alone
marked-one : (addr l : ℕ) (st : LineState) (busy : Bool) (o : Option Way) → ((w : Way) → o ≡ Some w → w.addr ≡ l)
    → option_map (marked addr st busy) o ≡ (if l == addr then option_map (marked_so st busy) o else o)
marked-one addr l st busy None at = elim (cases_Bool (l == addr)) [ inl t ↦ rw t refl | inr f ↦ rw f refl ]
marked-one addr l st busy (Some w) at =
    let is = at w refl in
    elim (cases_Bool (l == addr)) [
      | inl t ↦ let here : (w.addr == addr) ≡ true = ap (λ v. v == addr) is ∙ t in rw (t, here) refl
      | inr f ↦ let apart : (w.addr == addr) ≡ false = ap (λ v. v == addr) is ∙ f in rw (f, apart) refl
    ]

pub marked-at : (held : List Way) (addr l : ℕ) (st : LineState) (busy : Bool)
    → way_of (map (marked addr st busy) held) l ≡ (if l == addr then option_map (marked_so st busy) (way_of held l) else way_of held l)
marked-at held addr l st busy = way_of-marked held addr l st busy ∙ marked-one addr l st busy (way_of held l) (address-found held l)

-- what is found at a line that is the one of the change
there : (held : List Way) (addr l : ℕ) (o : Option Way) → way_of held addr ≡ o → (l == addr) ≡ true → way_of held l ≡ o
there held addr l o is t = ap (way_of held) (eqb-true l addr t) ∙ is

module _ (held : List Way) (addr l : ℕ) where
  pub begins-held : (way : Way) → way_of held addr ≡ Some way → way_of (map (marked addr way.st true) held) l ≡ changed (Begins addr) l (way_of held l)
  begins-held way is =
      marked-at held addr l way.st true
      ∙ elim (cases_Bool (l == addr)) [
        | inl t ↦ let at = there held addr l (Some way) is t in rw (t, at) refl
        | inr f ↦ rw f refl
      ]

  pub begins-none : way_of held addr ≡ None → way_of held l ≡ changed (Begins addr) l (way_of held l)
  begins-none is = elim (cases_Bool (l == addr)) [
    | inl t ↦ let at = there held addr l None is t in rw (t, at) refl
    | inr f ↦ rw f refl
  ]

  pub ends-dropped : (st : LineState) (bytes : Line) → is_invalid st ≡ true → way_of (without held addr) l ≡ changed (Ends addr st bytes) l (way_of held l)
  ends-dropped st bytes gone = way_of-without held addr l ∙ elim (cases_Bool (l == addr)) [ inl t ↦ rw (t, gone) refl | inr f ↦ rw f refl ]

  pub ends-none : (st : LineState) (bytes : Line) → is_invalid st ≡ true → way_of held addr ≡ None → way_of held l ≡ changed (Ends addr st bytes) l (way_of held l)
  ends-none st bytes gone is = elim (cases_Bool (l == addr)) [
    | inl t ↦ there held addr l None is t ∙ rw (t, gone) refl
    | inr f ↦ rw f refl
  ]

  pub ends-held : (st : LineState) (bytes : Line) (way : Way) → is_invalid st ≡ false → way_of held addr ≡ Some way
      → way_of (map (marked addr st false) held) l ≡ changed (Ends addr st bytes) l (way_of held l)
  ends-held st bytes way some is =
      let name = address-found held addr way is in
      marked-at held addr l st false
      ∙ elim (cases_Bool (l == addr)) [
        | inl t ↦ let at = there held addr l (Some way) is t in rw (t, at, some) (ap (λ v. Some (record { addr = v; st = st; line = way.line; busy = false })) name)
        | inr f ↦ rw f refl
      ]

  pub ends-filled : (st : LineState) (bytes : Line) → is_invalid st ≡ false → way_of held addr ≡ None
      → way_of (record { addr = addr; st = st; line = bytes; busy = false } ∷ held) l ≡ changed (Ends addr st bytes) l (way_of held l)
  ends-filled st bytes some is =
      elim (cases_Bool (l == addr)) [
        | inl t ↦
            let back : (addr == l) ≡ true = eq-eqb addr l (sym (eqb-true l addr t)) in
            let at = there held addr l None is t in rw (t, back, at, some) refl
        | inr f ↦
            let back : (addr == l) ≡ false = ne_eqb addr l (λ same. let t = eq-eqb l addr (sym same) in cc) in
            rw (f, back) refl
      ]

  pub becomes-dropped : (st : LineState) → is_invalid st ≡ true → way_of (without held addr) l ≡ changed (Becomes addr st) l (way_of held l)
  becomes-dropped st gone = way_of-without held addr l ∙ elim (cases_Bool (l == addr)) [ inl t ↦ rw (t, gone) refl | inr f ↦ rw f refl ]

  pub becomes-held : (st : LineState) (way : Way) → is_invalid st ≡ false → way_of held addr ≡ Some way
      → way_of (map (marked addr st way.busy) held) l ≡ changed (Becomes addr st) l (way_of held l)
  becomes-held st way some is =
      marked-at held addr l st way.busy
      ∙ elim (cases_Bool (l == addr)) [
        | inl t ↦ let at = there held addr l (Some way) is t in rw (t, at, some) refl
        | inr f ↦ rw f refl
      ]

  pub becomes-none : (st : LineState) → way_of held addr ≡ None → way_of held l ≡ changed (Becomes addr st) l (way_of held l)
  becomes-none st is = elim (cases_Bool (l == addr)) [
    | inl t ↦ there held addr l None is t ∙ rw t (sym (by (is_invalid st) (way_of held l) (there held addr l None is t)))
    | inr f ↦ rw f refl
  ]
    where
      by : (b : Bool) (o : Option Way) → o ≡ None → (if b then None else option_map (λ w. marked_so st w.busy w) o) ≡ None
      by true o is = refl
      by false None is = refl
      by false (Some w) is = cc

  pub stores-held : (strobe : ℕ) (bytes : Line) (st : Option LineState) (way : Way) (now : LineState) → now ≡ unwrap_or st way.st → way_of held addr ≡ Some way
      → way_of (map (marked addr now way.busy) (stored_at held addr strobe bytes)) l ≡ changed (Stores addr strobe bytes st) l (way_of held l)
  stores-held strobe bytes st way now same is =
      marked-at (stored_at held addr strobe bytes) addr l now way.busy
      ∙ elim (cases_Bool (l == addr)) [
        | inl t ↦
            let at = there held addr l (Some way) is t in
            let found : way_of (stored_at held addr strobe bytes) l ≡ Some (stored strobe bytes way) =
            way_of-stored_at held addr l strobe bytes ∙ ap (λ b. if b then option_map (stored strobe bytes) (way_of held l) else way_of held l) t ∙ ap (option_map (stored strobe bytes)) at in
            rw (t, found, at, same) refl
        | inr f ↦ rw f (way_of-stored_at held addr l strobe bytes ∙ ap (λ b. if b then option_map (stored strobe bytes) (way_of held l) else way_of held l) f)
      ]

  pub stores-none : (strobe : ℕ) (bytes : Line) (st : Option LineState) → way_of held addr ≡ None → way_of held l ≡ changed (Stores addr strobe bytes st) l (way_of held l)
  stores-none strobe bytes st is = elim (cases_Bool (l == addr)) [
    | inl t ↦ let at = there held addr l None is t in rw (t, at) refl
    | inr f ↦ rw f refl
  ]

pub stored-found : (held : List Way) (addr strobe : ℕ) (bytes : Line) → IsSome (way_of held addr) → IsSome (way_of (stored_at held addr strobe bytes) addr)
stored-found held addr strobe bytes some =
    subst IsSome (sym (way_of-stored_at held addr addr strobe bytes ∙ ap (λ b. if b then option_map (stored strobe bytes) (way_of held addr) else way_of held addr) (eq-eqb addr addr refl)))
    (by (way_of held addr) some)
  where
    by : (o : Option Way) → IsSome o → IsSome (option_map (stored strobe bytes) o)
    by None some = some
    by (Some w) some = refl

pub is-none : (o : Option Way) → is_some o ≡ false → o ≡ None
is-none None f = refl
is-none (Some w) f = cc

pub is-there : (o : Option Way) → is_some o ≡ true → (w : Way) × (o ≡ Some w)
is-there None t = cc
is-there (Some w) t = (w, refl)
