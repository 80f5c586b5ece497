-- What a burst forwards to a port: nothing, where it has no AC DVM Message; and where it has nothing else, the parts that come next, as many
-- as it has events of the port.
use Rattle.std.proofs.Common.{◌≡◌, ℕ, suc, Bool, true, false, ◌==◌, List, [], ◌∷◌, ◌++◌, length, filter, Option, Some, None, slice_get, append_assoc, refl, sym, ap, subst, ◌∙◌, inl, inr, arith}
use Rattle.std.specs.List.{list_all}
use Rattle.std.specs.Option.{option_to_list}
use Rattle.std.proofs.lemmas.Bool.{and_parts, cases_Bool, eqb-true, not-true}
use Rattle.std.proofs.lemmas.List.{append-nil}
use Rattle.std.proofs.lemmas.List.Concat.{flat_map-append}
use Rattle.ace_codes.specs.Snoops.{ac_kind_of}
use Rattle.ace_event.specs.declared.event.Event.{Event}
use Rattle.ace_event.specs.declared.event.Event.TheVariants.{Ac, Mem}
use Rattle.ace_event.specs.declared.header.Header.{Header}
use Rattle.ace_model.specs.declared.snoops.Snoop.{Snoop}
use Rattle.ace_model.specs.declared.transactions.Transaction.{Transaction}
use Rattle.ace_model.specs.Accepted.{IsAccepted}
use Rattle.ace_model.specs.Kinds.{is_message_snoop}
use Rattle.ace_model.specs.Messages.{add_forwarded, forwarded, forwards, next_after, next_part, parts_among, parts_for}
use Rattle.ace_model.specs.Trace.{Trace, is_some_and}
use Rattle.ace_model.proofs.General.Options.{is_some_and-at}
use Rattle.ace_runs.specs.Bursts.{are_kept, is_kept, onto}
use Rattle.ace_runs.specs.Segments.{is_at_port}
use Rattle.ace_runs.proofs.Accepting.{kept-breaks-none}
use Rattle.ace_runs.proofs.Few.Parts.{forwards-now}
use Rattle.ace_runs.proofs.Few.Queues.{eqb-swap}
use Rattle.ace_runs.proofs.NeverStuck.Forwarding.NextMessage.{IsBetweenMessages, get-right}
use Rattle.ace_runs.proofs.NeverStuck.Forwarding.Steps.{forwards_none}

-- ---- one event ---------------------------------------------------------------------------------------

no-part : (o : Option Transaction) (s : Snoop) → is_some_and (ac_kind_of s.snoop) is_message_snoop ≡ false → forwards o s ≡ None
no-part None s none = refl
no-part (Some x) s none = rw none refl

adds-none : (past : Trace) (q : ℕ) (done : List (Option Transaction)) (s : Snoop) → is_some_and (ac_kind_of s.snoop) is_message_snoop ≡ false
    → parts_among (add_forwarded past q done (Some s)) ≡ parts_among done
adds-none past q done s none =
    ap (λ o. parts_among (done ++ o ∷ [])) (no-part (next_after past q done) s none) ∙ flat_map-append option_to_list done (None ∷ []) ∙ append-nil (parts_among done)

adds-next : (past : Trace) (q : ℕ) (done : List (Option Transaction)) (s : Snoop) (d : Transaction) → is_some_and (ac_kind_of s.snoop) is_message_snoop ≡ true
    → next_after past q done ≡ Some d → (d.addr == s.addr) ≡ true → parts_among (add_forwarded past q done (Some s)) ≡ parts_among done ++ d ∷ []
adds-next past q done s d message next fits =
    let is : forwards (next_after past q done) s ≡ Some d = rw (next, message, fits) refl in
    ap (λ o. parts_among (done ++ o ∷ [])) is ∙ flat_map-append option_to_list done (Some d ∷ [])

-- a snoop of another port forwards nothing to this one
skips : (past : Trace) (p q addr code : ℕ) → (p == q) ≡ false → parts_among (forwarded (Ac p addr code ∷ past) q) ≡ parts_among (forwarded past q)
skips past p q addr code other = let swapped = eqb-swap q p ∙ other in rw swapped refl

snoops-here : (past : Trace) (p q addr code : ℕ) → (p == q) ≡ true
    → forwarded (Ac p addr code ∷ past) q ≡ add_forwarded past q (forwarded past q) (Some (record { place = length past; addr = addr; snoop = code }))
snoops-here past p q addr code here = let swapped = eqb-swap q p ∙ here in rw swapped refl

still : (e : Event) (past : Trace) (q : ℕ) → forwards_none e ≡ true → parts_among (forwarded (e ∷ past) q) ≡ parts_among (forwarded past q)
still (Ac p addr code) past q none =
    elim (cases_Bool (p == q)) [
      | inr other ↦ skips past p q addr code other
      | inl here ↦
          ap parts_among (snoops-here past p q addr code here)
          ∙ adds-none past q (forwarded past q) (record { place = length past; addr = addr; snoop = code }) (not-true (is_some_and (ac_kind_of code) is_message_snoop) none)
    ]
still e past q none = refl

-- ---- a burst that forwards nothing -------------------------------------------------------------------

pub still-between : (burst : List Event) (past : Trace) (q : ℕ) → IsBetweenMessages past q → list_all forwards_none burst ≡ true → IsBetweenMessages (onto burst past) q
still-between [] past q w none = w
still-between (e ∷ burst) past q w none =
    let parts = and_parts (forwards_none e) (list_all forwards_none burst) none in
    still-between burst (e ∷ past) q (e ∷ w.0, w.1, ap (λ l. e ∷ l) w.2, still e past q parts.0 ∙ w.3) parts.1

-- ---- a burst that forwards ---------------------------------------------------------------------------

-- an AC DVM Message, or an event of no port
abbrev pub is_forwarding : Event → Bool
is_forwarding (Ac p addr snoop) = is_some_and (ac_kind_of snoop) is_message_snoop
is_forwarding (Mem addr line) = true
is_forwarding _ = false

first-of : (ds : List Transaction) (n : ℕ) → suc n ≡ length ds → (d : Transaction) × (rest : List Transaction) × (ds ≡ d ∷ rest)
first-of [] n e = absurd (omega (arith, e))
first-of (d ∷ rest) n e = (d, rest, refl)

pub grows : (h : Header) (burst : List Event) (past : Trace) (q : ℕ) (ds more : List Transaction) → IsAccepted h past → are_kept h past burst ≡ true
    → list_all is_forwarding burst ≡ true → parts_for past q ≡ (parts_among (forwarded past q) ++ ds) ++ more → length (filter (is_at_port q) burst) ≡ length ds
    → parts_among (forwarded (onto burst past) q) ≡ parts_among (forwarded past q) ++ ds
grows h [] past q [] more a k f all count = sym (append-nil (parts_among (forwarded past q)))
grows h [] past q (d ∷ ds) more a k f all count = absurd (omega (arith, count))
grows h (Mem addr line ∷ burst) past q ds more a k f all count =
    let kept = and_parts (is_kept h past (Mem addr line)) (are_kept h (Mem addr line ∷ past) burst) k in
    let accepted : IsAccepted h (Mem addr line ∷ past) = (a, kept-breaks-none h past (Mem addr line) kept.0) in
    grows h burst (Mem addr line ∷ past) q ds more accepted kept.1 (and_parts true (list_all is_forwarding burst) f).1 (append-nil (parts_for past q) ∙ all) count
grows h (Ac p addr code ∷ burst) past q ds more a k f all count =
    let e = Ac p addr code in
    let kept = and_parts (is_kept h past e) (are_kept h (e ∷ past) burst) k in
    let accepted : IsAccepted h (Ac p addr code ∷ past) = (a, kept-breaks-none h past e kept.0) in
    let of = and_parts (is_some_and (ac_kind_of code) is_message_snoop) (list_all is_forwarding burst) f in
    let done = parts_among (forwarded past q) in
    elim (cases_Bool (p == q)) [
      | inr other ↦
          let same = skips past p q addr code other in
          let fewer : length (filter (is_at_port q) burst) ≡ length ds = rw other at count in
          let later : parts_for (Ac p addr code ∷ past) q ≡ (parts_among (forwarded (Ac p addr code ∷ past) q) ++ ds) ++ more =
          append-nil (parts_for past q) ∙ all ∙ ap (λ l. (l ++ ds) ++ more) (sym same) in
          grows h burst (Ac p addr code ∷ past) q ds more accepted kept.1 of.1 later fewer ∙ ap (λ l. l ++ ds) same
      | inl here ↦
          let one_more : suc (length (filter (is_at_port q) burst)) ≡ length ds = rw here at count in
          let first = first-of ds (length (filter (is_at_port q) burst)) one_more in
          let d = first.0 in
          let rest = first.1 in
          let long = ap length first.2 in
          let all_d : parts_for past q ≡ (parts_among (forwarded past q) ++ first.0 ∷ first.1) ++ more = all ∙ ap (λ l. (done ++ l) ++ more) first.2 in
          let next : next_part past q ≡ Some first.0 = ap (λ l. slice_get l (length done)) (all_d ∙ append_assoc done (d ∷ rest) more) ∙ get-right done (d ∷ rest ++ more) in
          let fits = is_some_and-at (next_part past q) (λ (x : Transaction). x.addr == addr) d
          (subst (λ r. is_some_and (next_part past r) (λ (x : Transaction). x.addr == addr) ≡ true) (eqb-true p q here) (forwards-now h past p addr code accepted of.0)) next in
          let one : parts_among (forwarded (Ac p addr code ∷ past) q) ≡ parts_among (forwarded past q) ++ first.0 ∷ [] =
          ap parts_among (snoops-here past p q addr code here) ∙ adds-next past q (forwarded past q) (record { place = length past; addr = addr; snoop = code }) d of.0 next fits in
          let joined = append_assoc done (d ∷ []) rest in
          let later : parts_for (Ac p addr code ∷ past) q ≡ (parts_among (forwarded (Ac p addr code ∷ past) q) ++ first.1) ++ more =
          append-nil (parts_for past q) ∙ all_d ∙ ap (λ l. l ++ more) (sym joined) ∙ ap (λ l. (l ++ rest) ++ more) (sym one) in
          grows h burst (Ac p addr code ∷ past) q rest more accepted kept.1 of.1 later (omega (arith, one_more, long))
          ∙ ap (λ l. l ++ rest) one ∙ joined ∙ ap (λ l. done ++ l) (sym first.2)
    ]
grows h (e ∷ burst) past q ds more a k f all count = cc
