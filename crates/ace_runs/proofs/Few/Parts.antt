-- The parts of DVM messages are forwarded to each ACE port at most once.
use Rattle.std.proofs.Common.{◌≡◌, ℕ, ◌+◌, ◌*◌, ◌≤◌, Bool, true, false, ◌&&◌, ◌||◌, ◌==◌, if◌then◌else◌, List, [], ◌∷◌, ◌++◌, length, map, Option, Some, None, is_some, refl, sym, ap, subst, ◌∙◌, inl, inr, arith, length-append, le_trans}
use Rattle.std.proofs.Math.Bool.{and-false}
use Rattle.std.proofs.lemmas.Bool.{cases_Bool, and_parts, eqb-true}
use Rattle.std.proofs.lemmas.List.{map-append, length-map, append-nil}
use Rattle.std.proofs.lemmas.Option.{slice_get_within}
use Rattle.ace_codes.specs.Snoops.{ac_kind_of}
use Rattle.ace_event.specs.declared.event.Channel.TheVariants.{Read}
use Rattle.ace_event.specs.declared.event.Event.{Event}
use Rattle.ace_event.specs.declared.event.Event.TheVariants.{Ar, Ac}
use Rattle.ace_event.specs.declared.header.Header.{Header}
use Rattle.ace_model.specs.declared.snoops.Snoop.{Snoop}
use Rattle.ace_model.specs.declared.transactions.Transaction.{Transaction}
use Rattle.ace_model.specs.Accepted.{IsAccepted}
use Rattle.ace_model.specs.Trace.{Trace, implies, is_some_and}
use Rattle.ace_model.specs.Kinds.{is_message_snoop}
use Rattle.ace_model.specs.Transactions.{issued}
use Rattle.ace_model.specs.Messages.{has_second, is_message_part, part_in, waits_after, first_waiting, parts_with, parts_in, parts_for, parts_among, next_after, forwards, forwarded, next_part, is_second_part}
use Rattle.ace_model.specs.OrderRules.{forwards_next}
use Rattle.ace_model.proofs.General.Options.{Some-injective, some_is, is_some_and-is, is_none_or-at}
use Rattle.ace_model.proofs.Rules.Keeps.{accepted_keeps}
use Rattle.ace_runs.specs.Counts.{ace_ports, counted, is_snoop, forwards_part, issues_part}
use Rattle.ace_runs.proofs.Few.Sums.{times, each_bounds}
use Rattle.ace_runs.proofs.Few.Ports.{port_or_zero, at_port}
use Rattle.ace_runs.proofs.Few.Keys.{keys_of, all-keys, one-key}
use Rattle.ace_runs.proofs.Few.Queues.{eqb-swap}
use Rattle.ace_runs.proofs.Few.Counting.{one, counted-one}
use Rattle.ace_runs.proofs.Few.AcePorts.{for-ace-ports}
use Rattle.ace_runs.proofs.Few.LineSnoops.{none-elsewhere}

-- the ports of the parts
abbrev sources : List Transaction → List ℕ
sources xs = map (λ (x : Transaction). x.port) xs

times-append : (q : ℕ) (xs ys : List ℕ) → times q (xs ++ ys) ≡ times q xs + times q ys
times-append q [] ys = omega arith
times-append q (x ∷ xs) ys =
    let rest = times-append q xs ys in
    elim (cases_Bool (x == q)) [ inl t ↦ rw t (omega (arith, rest)) | inr f ↦ rw f rest ]

one-time : (q x : ℕ) → times q (x ∷ []) ≤ 1
one-time q x = elim (cases_Bool (x == q)) [ inl t ↦ rw t (omega arith) | inr f ↦ rw f (omega arith) ]

-- the part that waits is one of the port
waits-own : (q : ℕ) (x f : Transaction) (b : Bool) → x.port ≡ q → (if b then Some x else None) ≡ Some f → f.port ≡ q
waits-own q x f true same is = let y : x ≡ f = Some-injective x f is in ap (λ (z : Transaction). z.port) (sym y) ∙ same
waits-own q x f false same is = cc

waits-one : (q : ℕ) (f : Transaction) (older : Option Transaction) (x : Transaction) (b : Bool) → (older ≡ Some f → f.port ≡ q) → (b ≡ true → x.port ≡ q)
    → waits_after older (if b then Some x else None) ≡ Some f → f.port ≡ q
waits-one q f older x false was same is = was is
waits-one q f None x true was same is = waits-own q x f (has_second x.addr) (same refl) is
waits-one q f (Some g) x true was same is = cc

waits-any : (q : ℕ) (f : Transaction) (older o : Option Transaction) → (older ≡ Some f → f.port ≡ q) → waits_after older (part_in o q) ≡ Some f → f.port ≡ q
waits-any q f older None was is = was is
waits-any q f older (Some x) was is =
    waits-one q f older x (is_message_part x && (x.port == q)) was (λ t. eqb-true x.port q (and_parts (is_message_part x) (x.port == q) t).1) is

waiting-port : (past : Trace) (q : ℕ) (f : Transaction) → first_waiting past q ≡ Some f → f.port ≡ q
waiting-port [] q f w = cc
waiting-port (e ∷ past) q f w = waits-any q f (first_waiting past q) (issued (length past) e) (waiting-port past q f) w

-- a part more: it waits, or it is forwarded with the one that waits
added : (q : ℕ) (w : Option Transaction) (x : Transaction) → times q (sources (parts_with w x)) + one (is_some (waits_after w (Some x))) ≤ one (is_some w) + 1
added q None x =
    let once = one-time q x.port in
    elim (cases_Bool (has_second x.addr)) [ inl t ↦ rw t (omega arith) | inr f ↦ rw f (omega (arith, once)) ]
added q (Some f) x =
    let once = one-time q x.port in
    elim (cases_Bool (f.port == q)) [ inl t ↦ rw t (omega (arith, once)) | inr n ↦ rw n (omega (arith, once)) ]

-- of another port
others : (q : ℕ) (w : Option Transaction) (x : Transaction) → (x.port == q) ≡ false → ((f : Transaction) → w ≡ Some f → f.port ≡ x.port) → times q (sources (parts_with w x)) ≡ 0
others q None x n same = elim (cases_Bool (has_second x.addr)) [ inl t ↦ rw t refl | inr f ↦ rw f (rw n refl) ]
others q (Some f) x n same = let other : (f.port == q) ≡ false = rw (same f refl) n in rw other (rw n refl)

part-step : (past : Trace) (x : Transaction) (p q : ℕ)
    → times q (sources (parts_in past (Some x) p)) + one (is_some (waits_after (first_waiting past q) (part_in (Some x) q)))
    ≤ one (is_some (first_waiting past q)) + one (is_message_part x && (x.port == q))
part-step past x p q =
    elim (cases_Bool (is_message_part x)) [
      | inr f ↦ rw f (omega arith)
      | inl t ↦ rw t (elim (cases_Bool (x.port == q)) [
        | inl same ↦
            let port = eqb-true x.port q same in
            let more : times q (sources (parts_with (first_waiting past x.port) x)) + one (is_some (waits_after (first_waiting past q) (Some x))) ≤ one (is_some (first_waiting past q)) + 1 =
            subst (λ r. times q (sources (parts_with (first_waiting past r) x)) + one (is_some (waits_after (first_waiting past q) (Some x))) ≤ one (is_some (first_waiting past q)) + 1)
            (sym port) (added q (first_waiting past q) x) in
            rw same (elim (cases_Bool (x.port == p)) [ inl own ↦ rw own (omega (arith, more)) | inr other ↦ rw other more ])
        | inr n ↦
            let none = others q (first_waiting past x.port) x n (waiting-port past x.port) in
            rw n (elim (cases_Bool (x.port == p)) [ inl own ↦ rw own (omega arith) | inr other ↦ rw other (omega (arith, none)) ])
      ])
    ]

no-parts : (past : Trace) (p q : ℕ) → times q (sources (parts_for past p ++ [])) ≡ times q (sources (parts_for past p))
no-parts past p q = rw (append-nil (parts_for past p)) refl

more-parts : (past : Trace) (p q : ℕ) (new : List Transaction) → times q (sources (parts_for past p ++ new)) ≡ times q (sources (parts_for past p)) + times q (sources new)
more-parts past p q new =
    rw (map-append (λ (x : Transaction). x.port) (parts_for past p) new) (times-append q (sources (parts_for past p)) (sources new))

parts-each : (past : Trace) (p q : ℕ) → times q (sources (parts_for past p)) + one (is_some (first_waiting past q)) ≤ counted (at_port issues_part q) past
parts-each [] p q = omega arith
parts-each (Ar j i addr snoop dom bar lock ∷ past) p q =
    let e = Ar j i addr snoop dom bar lock in
    let x : Transaction = record { place = length past; port = j; chan = Read; id = i; addr = addr; snoop = snoop; dom = dom; bar = bar; lock = lock } in
    let rest = parts-each past p q in
    let new = part-step past x p q in
    let up = counted-one (at_port issues_part q) e past in
    let more = more-parts past p q (parts_in past (Some x) p) in
    omega (arith, rest, new, up, more)
parts-each (_ ∷ past) p q = rw (no-parts past p q) (parts-each past p q)

pub parts-few : (past : Trace) (p : ℕ) → length (parts_for past p) ≤ counted issues_part past
parts-few past p =
    let all = each_bounds 1 (sources (parts_for past p)) (keys_of port_or_zero issues_part past)
    (λ q. rw (one-key port_or_zero issues_part q past) (let each = parts-each past p q in omega (arith, each))) in
    let long = length-map (parts_for past p) (λ (x : Transaction). x.port) in
    let same = all-keys port_or_zero issues_part past in
    omega (arith, all, long, same)

-- ---- what is forwarded -------------------------------------------------------------------------------

among-more : (done : List (Option Transaction)) (f : Option Transaction) → length (parts_among (done ++ f ∷ [])) ≡ length (parts_among done) + one (is_some f)
among-more [] None = refl
among-more [] (Some x) = refl
among-more (None ∷ done) f = among-more done f
among-more (Some x ∷ done) f = let rest = among-more done f in omega (arith, rest)

-- what is forwarded was next
was-next : (o : Option Transaction) (s : Snoop) → is_some (forwards o s) ≡ true → is_some o ≡ true
was-next None s t = cc
was-next (Some x) s t = refl

forwards-one : (o : Option Transaction) (s : Snoop) → is_some_and (ac_kind_of s.snoop) is_message_snoop ≡ true → is_some_and o (λ (x : Transaction). x.addr == s.addr) ≡ true
    → is_some (forwards o s) ≡ true
forwards-one None s message fits = cc
forwards-one (Some x) s message fits = rw (message, fits) refl

-- a snoop that forwards a part forwards the next
pub forwards-now : (h : Header) (past : Trace) (q addr snoop : ℕ) → IsAccepted h (Ac q addr snoop ∷ past) → is_some_and (ac_kind_of snoop) is_message_snoop ≡ true
    → is_some_and (next_part past q) (λ (x : Transaction). x.addr == addr) ≡ true
forwards-now h past q addr snoop a message =
    let k = is_some_and-is (ac_kind_of snoop) is_message_snoop message in
    let well = is_none_or-at (ac_kind_of snoop) (forwards_next past q addr) k.0 (accepted_keeps h past (Ac q addr snoop) a).rule_36 k.1 in
    both (is_message_snoop k.0) (is_some_and (next_part past q) (is_second_part past)) (is_some_and (next_part past q) (λ (x : Transaction). x.addr == addr)) k.2 well
  where
    both : (m s f : Bool) → m ≡ true → implies (m || s) (m && f) ≡ true → f ≡ true
    both true s f t well = well
    both false s f t well = cc

pub record Forwards (past : Trace) (p : ℕ) : Type 0 where
  pub some : counted (at_port forwards_part p) past ≤ length (parts_among (forwarded past p))
  pub within : length (parts_among (forwarded past p)) ≤ length (parts_for past p)

pub longer-list : (xs ys : List Transaction) → length xs ≤ length (xs ++ ys)
longer-list xs ys = rw (length-append xs ys) (omega arith)

snoop-step : (past : Trace) (p : ℕ) (s : Snoop) (b : Bool) → Forwards past p → (b ≡ true → is_some (forwards (next_after past p (forwarded past p)) s) ≡ true)
    → (counted (at_port forwards_part p) past + one b ≤ length (parts_among (forwarded past p ++ forwards (next_after past p (forwarded past p)) s ∷ [])))
    × (length (parts_among (forwarded past p ++ forwards (next_after past p (forwarded past p)) s ∷ [])) ≤ length (parts_for past p))
snoop-step past p s b i there =
    let f = forwards (next_after past p (forwarded past p)) s in
    let more = among-more (forwarded past p) f in
    let some = i.some in
    let within = i.within in (
      counts b (is_some f) there more some,
      elim (cases_Bool (is_some f)) [
        | inr n ↦ let none : one (is_some f) ≡ 0 = rw n refl in omega (arith, more, none, within)
        | inl t ↦
            let is : one (is_some f) ≡ 1 = rw t refl in
            let x = some_is (next_after past p (forwarded past p)) (was-next (next_after past p (forwarded past p)) s t) in
            let room = slice_get_within (parts_for past p) (length (parts_among (forwarded past p))) x.0 x.1 in
            omega (arith, more, is, room)
      ],
    )
  where
    counts : (b c : Bool) {n m k : ℕ} → (b ≡ true → c ≡ true) → k ≡ m + one c → n ≤ m → n + one b ≤ k
    counts false c there more le = omega (arith, more, le)
    counts true true there more le = omega (arith, more, le)
    counts true false there more le = let t = there refl in cc

pub forwards-each : (h : Header) (past : Trace) (p : ℕ) → IsAccepted h past → Forwards past p
forwards-each h [] p a = record { some = omega arith; within = omega arith }
forwards-each h (Ac q addr snoop ∷ past) p a =
    let i = forwards-each h past p a.0 in
    let s : Snoop = record { place = length past; addr = addr; snoop = snoop } in
    let up = counted-one (at_port forwards_part p) (Ac q addr snoop) past in
    let swap = eqb-swap p q in
    let nil : length (parts_for past p ++ []) ≡ length (parts_for past p) = rw (append-nil (parts_for past p)) refl in
    elim (cases_Bool (p == q)) [
      | inr n ↦
          let other : (q == p) ≡ false = sym swap ∙ n in
          let none : at_port forwards_part p (Ac q addr snoop) ≡ false = rw other (and-false (is_some_and (ac_kind_of snoop) is_message_snoop)) in
          let zero_more : one (at_port forwards_part p (Ac q addr snoop)) ≡ 0 = rw none refl in
          let some = i.some in
          let within = i.within in
          record { some = rw n (omega (arith, up, zero_more, some)); within = rw n (omega (arith, within, nil)) }
      | inl t ↦
          let same = eqb-true p q t in
          let step = snoop-step past p s (at_port forwards_part p (Ac q addr snoop)) i
          (λ b.
          let message = (and_parts (is_some_and (ac_kind_of snoop) is_message_snoop) (q == p) b).0 in
          forwards-one (next_after past p (forwarded past p)) s message
          (subst (λ r. is_some_and (next_part past r) (λ (x : Transaction). x.addr == addr) ≡ true) (sym same) (forwards-now h past q addr snoop a message))) in
          let some = step.0 in
          let within = step.1 in
          record { some = rw t (omega (arith, up, some)); within = rw t (omega (arith, within, nil)) }
    ]
forwards-each h (e ∷ past) p a =
    let i = forwards-each h past p a.0 in
    record { some = i.some; within = le_trans i.within (longer-list (parts_for past p) (parts_in past (issued (length past) e) p)) }

part-is-snoop : (e : Event) → forwards_part e ≡ true → is_snoop e ≡ true
part-is-snoop (Ac p addr snoop) t = refl
part-is-snoop e t = cc

pub forwarded-few : (h : Header) (past : Trace) → IsAccepted h past → counted forwards_part past ≤ length (ace_ports h) * counted issues_part past
forwarded-few h past a =
    for-ace-ports (counted issues_part past) forwards_part h past
    (λ p. let i = forwards-each h past p a in let some = i.some in let within = i.within in let few = parts-few past p in omega (arith, some, within, few))
    (none-elsewhere forwards_part h past part-is-snoop a)
