-- What is kept of the lines that come to a port, after a transfer and a store.
use Rattle.std.proofs.Common.{◌≡◌, ℕ, ◌<◌, ◌∷◌, Bool, true, false, if◌then◌else◌, List, length, Option, Some, None, option_map, slice_set, refl, sym, ap, subst, ◌∙◌, arith}
use Rattle.ace_event.specs.Range.{FitsFields}
use Rattle.ace_event.specs.declared.event.Channel.TheVariants.{Read}
use Rattle.ace_event.specs.declared.event.Event.{Event}
use Rattle.ace_event.specs.declared.event.Event.TheVariants as event
use Rattle.ace_event.specs.declared.header.Header.{Header}
use Rattle.ace_event.specs.declared.line.Line.{Line}
use Rattle.ace_tables.specs.EndStates.{is_fetch}
use Rattle.ace_model.specs.declared.transactions.Transaction.{Transaction}
use Rattle.ace_model.specs.Accepted.{IsAccepted}
use Rattle.ace_model.specs.Trace.{Trace, is_some_and, port_of}
use Rattle.ace_model.specs.Transactions.{has_outstanding_on, is_outstanding_on, is_read, outstanding, read_kind, transfers}
use Rattle.ace_model.specs.ReadRules.{is_due}
use Rattle.ace_model.proofs.General.Options.{Some-injective, is_some_and-is}
use Rattle.ace_model.proofs.Rules.Keeps.{accepted_keeps}
use Rattle.ace_model.proofs.Trace.LineOnce.{one_on_line, outstanding_found}
use Rattle.ace_model.proofs.Trace.Issued.{outstanding-name}
use Rattle.ace_portck.specs.Targets.{own_of, progress_of}
use Rattle.ace_portck.specs.declared.target.Progress.{Progress}
use Rattle.ace_master_state.specs.Arriving.{line_under}
use Rattle.ace_master_state.specs.Cached.{ArrivingStand}
use Rattle.ace_master_state.proofs.ArrivingHeard.{arriving-heard, few-words, last-none, makes, other-transfer-brings, own-on, plain-store-brings, store-brings, transfer-brings}

-- what is told of an option's value
told : {A B : Type 0} → (f : A → B) (o : Option A) (v : B) → Some v ≡ option_map f o → (x : A) × (o ≡ Some x) × (v ≡ f x)
told f None v is = cc
told f (Some x) v is = (x, refl, Some-injective v (f x) is)

untold : {A B : Type 0} → (f : A → B) (o : Option A) → None ≡ option_map f o → o ≡ None
untold f None is = refl
untold f (Some x) is = cc

module _ (h : Header) (past : Trace) (p : ℕ) (was : List Line) (s : ArrivingStand h past p was) where
  module _ (e : Event) (q i resp : ℕ) (last : Bool) (word : ℕ) (is : e ≡ event.R q i resp last word) (own : port_of e ≡ Some p) (a : IsAccepted h (e ∷ past)) where
    same : q ≡ p
    same = Some-injective q p (ap port_of (sym is) ∙ own)

    here : e ≡ event.R p i resp last word
    here = is ∙ ap (λ r. event.R r i resp last word) same

    accepted : IsAccepted h (event.R p i resp last word ∷ past)
    accepted = subst (λ d. IsAccepted h (d ∷ past)) here a

    pub word-brought : (x : Progress) → Some x ≡ option_map (progress_of h past) (outstanding h past p Read i) → is_some_and (read_kind x.transaction) is_fetch ≡ true → length was ≡ 16 → (now : List Line)
        → (i < 16 → x.transfers < 4 → now ≡ slice_set was i (record { words = slice_set (line_under was i).words x.transfers word })) → ArrivingStand h (e ∷ past) p now
    word-brought x there fetch long now put =
        let y = told (progress_of h past) (outstanding h past p Read i) x there in
        let kind : is_some_and (read_kind y.0) is_fetch ≡ true = ap (λ (v : Progress). is_some_and (read_kind v.transaction) is_fetch) (sym y.2) ∙ fetch in
        let name = outstanding-name h past p Read i y.0 y.1 in
        let count : x.transfers ≡ transfers past p i =
        ap (λ (v : Progress). v.transfers) y.2 ∙ ap (λ c. if is_read c then transfers past y.0.port y.0.id else 0) name.chan ∙ ap (λ r. transfers past r y.0.id) name.port ∙ ap (transfers past p) name.id in
        let low = s.low i y.0 y.1 in
        let few = few-words h past p i resp last word accepted was s y.0 y.1 kind in
        let is_now : now ≡ slice_set was i (record { words = slice_set (line_under was i).words (transfers past p i) word }) =
        put low (omega (arith, few, count)) ∙ ap (λ n. slice_set was i (record { words = slice_set (line_under was i).words n word })) count in
        subst (λ d. ArrivingStand h (d ∷ past) p now) (sym here)
        (subst (ArrivingStand h (event.R p i resp last word ∷ past) p) (sym is_now)
        (arriving-heard h past (event.R p i resp last word) p was _ s (λ o. tt) (transfer-brings h past p i resp last word accepted was s y.0 y.1 kind long)))

    pub no-word-brought : (x : Progress) → Some x ≡ option_map (progress_of h past) (outstanding h past p Read i) → is_some_and (read_kind x.transaction) is_fetch ≡ false → ArrivingStand h (e ∷ past) p was
    no-word-brought x there off =
        let y = told (progress_of h past) (outstanding h past p Read i) x there in
        let kind : is_some_and (read_kind y.0) is_fetch ≡ false = ap (λ (v : Progress). is_some_and (read_kind v.transaction) is_fetch) (sym y.2) ∙ off in
        subst (λ d. ArrivingStand h (d ∷ past) p was) (sym here)
        (arriving-heard h past (event.R p i resp last word) p was was s (λ o. tt) (other-transfer-brings h past p i resp last word accepted was s y.0 y.1 kind))

    -- there is such a read
    pub read-there : None ≡ option_map (progress_of h past) (outstanding h past p Read i) → ⊥
    read-there none =
        let gone = untold (progress_of h past) (outstanding h past p Read i) none in
        let y = is_some_and-is (outstanding h past p Read i) (is_due h past resp last) (accepted_keeps h past (event.R p i resp last word) accepted).rule_18 in
        let bad : None ≡ Some y.0 = sym gone ∙ y.1 in cc

  module _ (e : Event) (q addr strobe : ℕ) (x : Bool) (line : Line) (is : e ≡ event.D q addr strobe x line) (own : port_of e ≡ Some p) (a : IsAccepted h (e ∷ past)) (fits : FitsFields e) where
    same-store : q ≡ p
    same-store = Some-injective q p (ap port_of (sym is) ∙ own)

    store-here : e ≡ event.D p addr strobe x line
    store-here = is ∙ ap (λ r. event.D r addr strobe x line) same-store

    store-accepted : IsAccepted h (event.D p addr strobe x line ∷ past)
    store-accepted = subst (λ d. IsAccepted h (d ∷ past)) store-here a

    store-fits : FitsFields (event.D p addr strobe x line)
    store-fits = subst FitsFields store-here fits

    pub store-brought : (y : Progress) → Some y ≡ option_map (progress_of h past) (own_of h past p addr) → length was ≡ 16 → (now : List Line)
        → (y.transaction.id < 16 → now ≡ slice_set was y.transaction.id line) → ArrivingStand h (e ∷ past) p now
    store-brought y there long now put =
        let z = told (progress_of h past) (own_of h past p addr) y there in
        let id : y.transaction.id ≡ z.0.id = ap (λ (v : Progress). v.transaction.id) z.2 in
        let o = own-on h past p addr z.0 z.1 in
        let m = makes h past p addr strobe x line store-accepted (has_own-there z.0 z.1) in
        let one = one_on_line h past a.0 p z.0.chan Read z.0.id m.one.id addr z.0 m.one o.out m.out o.on m.on in
        let low = s.low m.one.id m.one m.out in
        let id_is : z.0.id ≡ m.one.id = ap (λ (v : Transaction). v.id) one in
        let is_now : now ≡ slice_set was z.0.id line = put (omega (arith, low, id_is, id)) ∙ ap (λ j. slice_set was j line) id in
        subst (λ d. ArrivingStand h (d ∷ past) p now) (sym store-here)
        (subst (ArrivingStand h (event.D p addr strobe x line ∷ past) p) (sym is_now)
        (arriving-heard h past (event.D p addr strobe x line) p was _ s (λ o. tt) (store-brings h past p addr strobe x line store-accepted store-fits.1 was s z.0 z.1 long)))
      where
        has_own-there : (z : Transaction) → own_of h past p addr ≡ Some z → has_outstanding_on h past p addr ≡ true
        has_own-there z own = let o = own-on h past p addr z own in outstanding_found h past p z.chan z.id addr z o.out o.on

    pub no-store-brought : None ≡ option_map (progress_of h past) (own_of h past p addr) → ArrivingStand h (e ∷ past) p was
    no-store-brought none =
        let gone = untold (progress_of h past) (own_of h past p addr) none in
        let free : has_outstanding_on h past p addr ≡ false = last-none past (is_outstanding_on h past p addr) gone in
        subst (λ d. ArrivingStand h (d ∷ past) p was) (sym store-here)
        (arriving-heard h past (event.D p addr strobe x line) p was was s (λ o. tt) (plain-store-brings h past p addr strobe x line store-accepted store-fits.1 was s free))
