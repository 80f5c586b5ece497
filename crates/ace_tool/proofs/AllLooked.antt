-- Where the status of a batch is 0, each trace was looked at.
use Rattle.std.proofs.Common.{◌≡◌, ◌==◌, ◌||◌, ◌<◌, ℕ, Bool, true, false, not, if◌then◌else◌, Option, List, [], ◌∷◌, length, inl, inr, refl, ap, suc, sym, ◌∙◌, arith}
use Rattle.std.proofs.lemmas.Bool.{cases_Bool, true≢false}
use Rattle.std.specs.List.{list_any}
use Rattle.ace_batch.specs.Counts.{first_of, has_status, status_of_all}
use Rattle.ace_batch.specs.Looked.{AreLookedAt, GoesOn, ends_with}
use Rattle.ace_batch.specs.Outcomes.{is_accepted, status_of}
use Rattle.ace_batch.specs.declared.entry.Entry.{Entry}
use Rattle.ace_batch.specs.declared.outcome.Outcome.{Outcome}
use Rattle.ace_batch.specs.declared.outcome.Outcome.TheVariants.{Accepted, Refused, Malformed, Unfinished, Limited, Unreadable, NoMemory}
use Rattle.ace_tool.specs.Batch.{AreResults}
use Rattle.ace_tool.specs.BatchAsked.{BatchAsked}
use Rattle.ace_tool.specs.Held.{Held}

neither : (a b : Bool) → (a || b) ≡ false → (a ≡ false) × (b ≡ false)
neither true b h = absurd (true≢false h)
neither false b h = (refl, h)

-- no trace has a status that isn't the first
no_first : (status : ℕ) (order : List ℕ) (entries : List Entry) → 0 < status → first_of (status ∷ order) entries ≡ 0
    → (list_any (has_status status) entries ≡ false) × (first_of order entries ≡ 0)
no_first status order entries some zero = elim (cases_Bool (list_any (has_status status) entries)) [
  | inl hit ↦ absurd (let is : status ≡ 0 = sym (ap (λ b. if b then status else first_of order entries) hit) ∙ zero in omega (arith, some, is))
  | inr miss ↦ (miss, sym (ap (λ b. if b then status else first_of order entries) miss) ∙ zero)
]

-- one that has none of them is accepted
accepted : (o : Outcome) → (status_of o == 1) ≡ false → (status_of o == 3) ≡ false → (status_of o == 8) ≡ false → (status_of o == 6) ≡ false
    → (status_of o == 4) ≡ false → (status_of o == 7) ≡ false → is_accepted o ≡ true
accepted Accepted a b c d e f = refl
accepted Refused a b c d e f = absurd (true≢false a)
accepted Malformed a b c d e f = absurd (true≢false b)
accepted Unfinished a b c d e f = absurd (true≢false c)
accepted Limited a b c d e f = absurd (true≢false d)
accepted Unreadable a b c d e f = absurd (true≢false e)
accepted NoMemory a b c d e f = absurd (true≢false f)

no_end : (fast : Bool) (e : Entry) → is_accepted e.outcome ≡ true → ends_with fast e ≡ false
no_end true e is = ap not is
no_end false e is = refl

none_ends : (fast : Bool) (entries : List Entry) → list_any (has_status 1) entries ≡ false → list_any (has_status 3) entries ≡ false
    → list_any (has_status 8) entries ≡ false → list_any (has_status 6) entries ≡ false → list_any (has_status 4) entries ≡ false
    → list_any (has_status 7) entries ≡ false → list_any (ends_with fast) entries ≡ false
none_ends fast [] a b c d e f = refl
none_ends fast (x ∷ entries) a b c d e f =
    let a' = neither (has_status 1 x) (list_any (has_status 1) entries) a in
    let b' = neither (has_status 3 x) (list_any (has_status 3) entries) b in
    let c' = neither (has_status 8 x) (list_any (has_status 8) entries) c in
    let d' = neither (has_status 6 x) (list_any (has_status 6) entries) d in
    let e' = neither (has_status 4 x) (list_any (has_status 4) entries) e in
    let f' = neither (has_status 7 x) (list_any (has_status 7) entries) f in
    ap (λ t. t || list_any (ends_with fast) entries) (no_end fast x (accepted x.outcome a'.0 b'.0 c'.0 d'.0 e'.0 f'.0))
    ∙ none_ends fast entries a'.1 b'.1 c'.1 d'.1 e'.1 f'.1

zero_ends : (fast : Bool) (entries : List Entry) → status_of_all entries ≡ 0 → list_any (ends_with fast) entries ≡ false
zero_ends fast [] zero = refl
zero_ends fast (x ∷ entries) zero =
    let a = no_first 1 (3 ∷ 8 ∷ 6 ∷ 4 ∷ 7 ∷ []) (x ∷ entries) (omega arith) zero in
    let b = no_first 3 (8 ∷ 6 ∷ 4 ∷ 7 ∷ []) (x ∷ entries) (omega arith) a.1 in
    let c = no_first 8 (6 ∷ 4 ∷ 7 ∷ []) (x ∷ entries) (omega arith) b.1 in
    let d = no_first 6 (4 ∷ 7 ∷ []) (x ∷ entries) (omega arith) c.1 in
    let e = no_first 4 (7 ∷ []) (x ∷ entries) (omega arith) d.1 in
    let f = no_first 7 [] (x ∷ entries) (omega arith) e.1 in
    none_ends fast (x ∷ entries) a.0 b.0 c.0 d.0 e.0 f.0

-- behind one with which the call doesn't end
going : (b : Bool) (entries : List Entry) (T : Type 0) → b ≡ false → GoesOn b entries T → T
going true entries T is h = absurd (true≢false is)
going false entries T is h = h

all_looked_at : {X : Type 0} (fast : Bool) (Is : X → Entry → Type 0) (xs : List X) (entries : List Entry)
    → AreLookedAt fast Is xs entries → list_any (ends_with fast) entries ≡ false → length xs ≡ length entries
all_looked_at fast Is [] [] h none = refl
all_looked_at fast Is [] (e ∷ entries) h none = absurd h
all_looked_at fast Is (x ∷ xs) [] h none = absurd h
all_looked_at fast Is (x ∷ xs) (e ∷ entries) h none =
    let n = neither (ends_with fast e) (list_any (ends_with fast) entries) none in
    ap suc (all_looked_at fast Is xs entries (going (ends_with fast e) entries _ n.0 h.1) n.1)

pub zero_leaves_none : (asked : BatchAsked) (holds knows : List ℕ → Held) (input : Option (List ℕ)) (entries : List Entry) (left : ℕ)
    → AreResults asked holds knows input entries left → status_of_all entries ≡ 0 → left ≡ 0
zero_leaves_none asked holds knows input entries left results zero =
    let same = all_looked_at asked.extras.fail_fast _ results.paths entries results.right (zero_ends asked.extras.fail_fast entries zero) in
    let others = results.others in
    omega (arith, same, others)
