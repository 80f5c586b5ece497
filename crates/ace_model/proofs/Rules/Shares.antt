-- The least rule of all that an event breaks is the least over the three shares.
use Rattle.std.proofs.Common.{◌≡◌, ℕ, ◌+◌, ◌<◌, ◌≤◌, true, false, Bool, ◌&&◌, ◌==◌, nat_le, nat_lt, List, [], ◌∷◌, ◌++◌, take, drop, Option, Some, None, refl, sym, ap, ◌∙◌, inl, inr, arith, if◌then◌else◌}
use Rattle.std.proofs.lemmas.Bool.{and_parts, and_from, cases_Bool, leb-true, le-leb, ltb-true, ltb-false, lt-ltb}
use Rattle.ace_event.specs.declared.event.Event.TheVariants.{R, W, B, Cd}
use Rattle.ace_event.specs.declared.event.Channel.TheVariants.{Read, Write}
use Rattle.ace_model.proofs.Terms.{Event, Header, Trace, Rule, rule, rules, rise_from, least_of, is_some_and, is_none_or, same_test}
use Rattle.ace_model.specs.Accepted.{least_broken}
use Rattle.ace_model.specs.Replies.{next_sent}
use Rattle.ace_model.proofs.Terms.{k11, k17, k18, k26, lesser, port_rules, line_rules, system_rules, k11_burst, k11_data, k17_burst, k17_data, k18_transfer, k18_line, k26_response, k26_memory}
use Rattle.ace_model.proofs.Terms.{next_write, next_write_beat, outstanding, write_kind}

-- both lists as one in order; of two rules with one number the first list's comes first
abbrev merge : List Rule → List Rule → List Rule
merge [] ys = ys
merge (x ∷ xs) ys = into (merge xs) ys
  where
    into : (List Rule → List Rule) → List Rule → List Rule
    into rest [] = x ∷ xs
    into rest (y ∷ ys) = if nat_lt y.number x.number then y ∷ into rest ys else x ∷ rest (y ∷ ys)

lesser-none : (o : Option ℕ) → lesser o None ≡ o
lesser-none None = refl
lesser-none (Some n) = refl

module _ (h : Header) (past : Trace) (e : Event) where
  -- no number is less than n
  abbrev AtLeast : ℕ → Option ℕ → Type 0
  AtLeast n o = (k : ℕ) → o ≡ Some k → n ≤ k

  above : (n : ℕ) (rs : List Rule) → rise_from n rs ≡ true → AtLeast n (least_of rs h past e)
  above n [] up k l = cc
  above n (r ∷ rs) up k l =
      let parts = and_parts (nat_le n r.number) (rise_from (r.number + 1) rs) up in
      let low = leb-true n r.number parts.0 in
      elim (cases_Bool (r.keeps h past e)) [
        | inl kept ↦ let later = above (r.number + 1) rs parts.1 k (rw kept at l) in omega (arith, low, later)
        | inr broke ↦ let this : Some r.number ≡ Some k = rw broke at l in let same : r.number ≡ k = cc in omega (arith, low, same)
      ]

  first_is_least : (n : ℕ) (o : Option ℕ) → AtLeast n o → lesser (Some n) o ≡ Some n
  first_is_least n None low = refl
  first_is_least n (Some k) low =
      elim (cases_Bool (nat_lt k n)) [
        | inl t ↦ let less = ltb-true k n t in let more = low k refl in absurd (omega (arith, less, more))
        | inr f ↦ rw f refl
      ]

  second_is_least : (n m : ℕ) (o : Option ℕ) → AtLeast m o → n < m → lesser o (Some n) ≡ Some n
  second_is_least n m None low less = refl
  second_is_least n m (Some k) low less =
      let more = low k refl in
      let under : n < k = omega (arith, less, more) in
      let t = lt-ltb n k under in
      rw t refl

  -- the least of both lists is the lesser of their leasts
  merged : (a b : ℕ) (xs ys : List Rule) → rise_from a xs ≡ true → rise_from b ys ≡ true
      → least_of (merge xs ys) h past e ≡ lesser (least_of xs h past e) (least_of ys h past e)
  merged a b [] ys up up' = refl
  merged a b (x ∷ xs) ys up up' = into (λ b ys. merged (x.number + 1) b xs ys rest) b ys up'
    where
      rest : rise_from (x.number + 1) xs ≡ true
      rest = (and_parts (nat_le a x.number) (rise_from (x.number + 1) xs) up).1

      again : rise_from x.number (x ∷ xs) ≡ true
      again = and_from (nat_le x.number x.number) _ (le-leb x.number x.number (omega arith)) rest

      into : ((b : ℕ) (ys : List Rule) → rise_from b ys ≡ true → least_of (merge xs ys) h past e ≡ lesser (least_of xs h past e) (least_of ys h past e))
          → (b : ℕ) (ys : List Rule) → rise_from b ys ≡ true
          → least_of (merge (x ∷ xs) ys) h past e ≡ lesser (least_of (x ∷ xs) h past e) (least_of ys h past e)
      into later b [] up' = sym (lesser-none (least_of (x ∷ xs) h past e))
      into later b (y ∷ ys) up' =
          let rest' = (and_parts (nat_le b y.number) (rise_from (y.number + 1) ys) up').1 in
          let again' = and_from (nat_le y.number y.number) _ (le-leb y.number y.number (omega arith)) rest' in
          elim (cases_Bool (nat_lt y.number x.number)) [
            | inl t ↦ elim (cases_Bool (y.keeps h past e)) [
              | inl kept ↦ rw t (rw kept (into later (y.number + 1) ys rest'))
              | inr broke ↦ rw t (rw broke (sym (second_is_least y.number x.number _ (above x.number (x ∷ xs) again) (ltb-true y.number x.number t))))
            ]
            | inr f ↦ elim (cases_Bool (x.keeps h past e)) [
              | inl kept ↦ rw f (rw kept (later b (y ∷ ys) up'))
              | inr broke ↦
                  let least : lesser (Some x.number) (least_of (y ∷ ys) h past e) ≡ Some x.number =
                  first_is_least x.number _ (λ k l. let low = above y.number (y ∷ ys) again' k l in let no = ltb-false y.number x.number f in omega (arith, low, no)) in
                  rw f (rw broke (sym least))
            ]
          ]

  -- the least of both lists is the same
  record Alike (rs ss : List Rule) : Type 0 where
    least : least_of rs h past e ≡ least_of ss h past e

  keep_all : (front : List Rule) {rs ss : List Rule} → Alike rs ss → Alike (front ++ rs) (front ++ ss)
  keep_all [] same = same
  keep_all (r ∷ front) same = record { least = ap (λ k. if r.keeps h past e then k else Some r.number) (keep_all front same).least }

  two_parts : (a b : Bool) (rest broken : Option ℕ) → (if a && b then rest else broken) ≡ (if a then (if b then rest else broken) else broken)
  two_parts true b rest broken = refl
  two_parts false b rest broken = refl

  -- a rule of two parts is kept where both are
  split : (n : ℕ) (whole part other : Header → Trace → Event → Bool) {rs ss : List Rule} → whole h past e ≡ (part h past e && other h past e)
      → Alike rs ss → Alike (rule n whole ∷ rs) (rule n part ∷ rule n other ∷ ss)
  split n whole part other {rs} {ss} same rest = record {
    least =
        ap (λ b. if b then least_of rs h past e else Some n) same
        ∙ two_parts (part h past e) (other h past e) _ _
        ∙ ap (λ k. if part h past e then (if other h past e then k else Some n) else Some n) rest.least;
  }

split_some : {A : Type 0} → (o : Option A) (whole part other : A → Bool) → ((x : A) → whole x ≡ (part x && other x))
    → is_some_and o whole ≡ (is_some_and o part && is_none_or o other)
split_some None whole part other same = refl
split_some (Some x) whole part other same = same x

split_none : {A : Type 0} → (o : Option A) (part other : A → Bool) → is_none_or o (λ x. part x && other x) ≡ (is_none_or o part && is_none_or o other)
split_none None part other = refl
split_none (Some x) part other = refl

assoc : (a b c : Bool) → (a && (b && c)) ≡ ((a && b) && c)
assoc true b c = refl
assoc false b c = refl

k11_of_parts : (h : Header) (past : Trace) (e : Event) → k11 h past e ≡ (k11_burst h past e && k11_data h past e)
k11_of_parts h past (W p strb last word) =
    split_some (next_write past p) _ _ _
    (λ x.
    ap (λ b. same_test last (next_write_beat past p == 3) && b) (split_none (write_kind x) _ _)
    ∙ assoc (same_test last (next_write_beat past p == 3)) _ _)
k11_of_parts h past _ = refl

k17_of_parts : (h : Header) (past : Trace) (e : Event) → k17 h past e ≡ (k17_burst h past e && k17_data h past e)
k17_of_parts h past (Cd p last word) = split_some (next_sent past p) _ _ _ (λ line. refl)
k17_of_parts h past _ = refl

k18_of_parts : (h : Header) (past : Trace) (e : Event) → k18 h past e ≡ (k18_transfer h past e && k18_line h past e)
k18_of_parts h past (R p i resp last word) = split_some (outstanding h past p Read i) _ _ _ (λ x. refl)
k18_of_parts h past _ = refl

k26_of_parts : (h : Header) (past : Trace) (e : Event) → k26 h past e ≡ (k26_response h past e && k26_memory h past e)
k26_of_parts h past (B p i resp) =
    ap (λ b. (resp == 0) && b) (split_some (outstanding h past p Write i) _ _ _ (λ x. refl)) ∙ assoc (resp == 0) _ _
k26_of_parts h past _ = refl

-- the rules, those of two parts by their parts, are all that the shares have
rules_of_shares : (h : Header) (past : Trace) (e : Event) → least_broken h past e ≡ least_of (merge port_rules (merge line_rules system_rules)) h past e
rules_of_shares h past e =
    let last : Alike h past e (drop 26 rules) (drop 26 rules) = record { least = refl } in
    let from_18 = split h past e 18 k18 k18_transfer k18_line (k18_of_parts h past e)
    (keep_all h past e (take 7 (drop 18 rules)) (split h past e 26 k26 k26_response k26_memory (k26_of_parts h past e) last)) in
    let from_11 = split h past e 11 k11 k11_burst k11_data (k11_of_parts h past e)
    (keep_all h past e (take 5 (drop 11 rules)) (split h past e 17 k17 k17_burst k17_data (k17_of_parts h past e) from_18)) in
    (keep_all h past e (take 10 rules) from_11).least

pub least_of_shares : (h : Header) (past : Trace) (e : Event)
    → least_broken h past e ≡ lesser (least_of port_rules h past e) (lesser (least_of line_rules h past e) (least_of system_rules h past e))
least_of_shares h past e =
    rules_of_shares h past e
    ∙ merged h past e 0 0 port_rules (merge line_rules system_rules) refl refl
    ∙ ap (lesser (least_of port_rules h past e)) (merged h past e 0 0 line_rules system_rules refl refl)

-- where the rules of the ports say 1, so do all
lesser_at_least : (h : Header) (past : Trace) (e : Event) (n : ℕ) (a b : Option ℕ) → AtLeast h past e n a → AtLeast h past e n b → AtLeast h past e n (lesser a b)
lesser_at_least h past e n None b low low' = low'
lesser_at_least h past e n (Some j) None low low' = low
lesser_at_least h past e n (Some j) (Some k) low low' = by (nat_lt k j) refl
  where
    by : (t : Bool) → nat_lt k j ≡ t → AtLeast h past e n (lesser (Some j) (Some k))
    by true t m is = low' m (rw t at is)
    by false t m is = low m (rw t at is)

pub least_is_one : (h : Header) (past : Trace) (e : Event) → least_of port_rules h past e ≡ Some 1 → least_broken h past e ≡ Some 1
least_is_one h past e one =
    least_of_shares h past e
    ∙ ap (λ k. lesser k (lesser (least_of line_rules h past e) (least_of system_rules h past e))) one
    ∙ first_is_least h past e 1 _
    (lesser_at_least h past e 1 (least_of line_rules h past e) (least_of system_rules h past e) (above h past e 1 line_rules refl) (above h past e 1 system_rules refl))
