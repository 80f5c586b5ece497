-- A port with nothing outstanding has a burst for all that its operation may ask for.
use Rattle.std.proofs.Common.{◌≡◌, ℕ, ◌≤◌, Bool, true, false, not, ◌&&◌, ◌||◌, ◌==◌, if◌then◌else◌, List, [], ◌∷◌, ◌++◌, length, map, filter, Option, Some, is_none, inl, inr, refl, sym, ap, subst, ◌∙◌, lit≤, arith}
use Rattle.std.specs.List.{flat_map}
use Rattle.std.proofs.lemmas.Bool.{and_from, cases_Bool, eqb-true, ltb-false, ne_eqb}
use Rattle.ace_codes.specs.declared.kind.ArKind.{ArKind}
use Rattle.ace_codes.specs.declared.kind.ArKind.TheVariants as read
use Rattle.ace_codes.specs.declared.kind.AwKind.{AwKind}
use Rattle.ace_codes.specs.declared.kind.AwKind.TheVariants as write
use Rattle.ace_codes.specs.Reads.{ar_code}
use Rattle.ace_codes.specs.Writes.{aw_code}
use Rattle.ace_event.specs.declared.event.Channel.{Channel}
use Rattle.ace_event.specs.declared.event.Channel.TheVariants.{Read, Write}
use Rattle.ace_event.specs.declared.event.Event.{Event}
use Rattle.ace_event.specs.declared.event.Event.TheVariants as event
use Rattle.ace_event.specs.declared.header.Header.{Header}
use Rattle.ace_tables.specs.States.{is_dirty}
use Rattle.ace_model.specs.declared.transactions.Transaction.{Transaction}
use Rattle.ace_model.specs.AddressRules.{gives_up, has_write, keeps_apart}
use Rattle.ace_model.specs.Kinds.{is_no_snoop_read, is_no_snoop_write, is_unique_write}
use Rattle.ace_model.specs.States.{state_of}
use Rattle.ace_model.specs.Trace.{Trace, implies}
use Rattle.ace_model.specs.Transactions.{has_outstanding_on, outstanding}
use Rattle.ace_runs.specs.HeldLines.{held_lines}
use Rattle.ace_runs.specs.Requests.{Request, Reads, Misses, Writes, Drops, Barriers, Messages, and_part, barrier_bursts, barrier_halves, bursts_of, domain_for, drop_bursts, free_on, free_on_both, has_room, identifiers, is_free, message_bursts, read_bursts, room_bursts, victim_bursts, with_identifier, write_bursts}
use Rattle.ace_runs.proofs.NeverStuck.Operations.Identifiers.{IsFound, least-found}
use Rattle.ace_runs.proofs.NeverStuck.Operations.Idle.{IsIdle, none-busy, none-written}

-- ---- lists with a first element ----------------------------------------------------------------------

pub record HasFirst {A : Type 0} (xs : List A) : Type 0 where
  pub first : A
  pub rest : List A
  pub is : xs ≡ first ∷ rest

pub this-first : {A : Type 0} → (x : A) (xs : List A) → HasFirst (x ∷ xs)
this-first x xs = record { first = x; rest = xs; is = refl }

pub first-map : {A B : Type 0} → (f : A → B) (xs : List A) → HasFirst xs → HasFirst (map f xs)
first-map f xs some = record { first = f some.first; rest = map f some.rest; is = ap (map f) some.is }

first-left : {A : Type 0} → (xs ys : List A) → HasFirst xs → HasFirst (xs ++ ys)
first-left xs ys some = record { first = some.first; rest = some.rest ++ ys; is = ap (λ zs. zs ++ ys) some.is }

pub first-right : {A : Type 0} → (xs ys : List A) → HasFirst ys → HasFirst (xs ++ ys)
first-right [] ys some = some
first-right (x ∷ xs) ys some = this-first x (xs ++ ys)

pub first-flat_map : {A B : Type 0} → (f : A → List B) (xs : List A) → (some : HasFirst xs) → HasFirst (f some.first) → HasFirst (flat_map f xs)
first-flat_map f xs some also = subst (λ ys. HasFirst (flat_map f ys)) (sym some.is) (first-left (f some.first) (flat_map f some.rest) also)

first-filter : {A : Type 0} → (test : A → Bool) (xs : List A) → HasFirst xs → ((x : A) → test x ≡ true) → HasFirst (filter test xs)
first-filter test [] some each = let bad = some.is in cc
first-filter test (x ∷ xs) some each = rw (each x) (this-first x (filter test xs))

first-long : {A : Type 0} → (xs : List A) → 1 ≤ length xs → HasFirst xs
first-long [] long = absurd (omega (arith, long))
first-long (x ∷ xs) long = this-first x xs

pub not-empty : {A : Type 0} → (xs : List A) → HasFirst xs → not (length xs == 0) ≡ true
not-empty xs some =
    ap (λ ys. not (length ys == 0)) some.is ∙ ap not (ne_eqb (length (some.first ∷ some.rest)) 0 (λ none. absurd (omega (arith, none))))

-- ---- bursts ------------------------------------------------------------------------------------------

with-first : (test : ℕ → Bool) (o : Option ℕ) (burst : ℕ → List Event) → IsFound identifiers test o → HasFirst (with_identifier o burst)
with-first test o burst f = record { first = burst f.number; rest = []; is = ap (λ o. with_identifier o burst) f.is }

module _ (h : Header) (past : Trace) (p : ℕ) (idle : IsIdle h past p) where
  pub all-free : (c : Channel) (i : ℕ) → is_free h past p c i ≡ true
  all-free c i = ap is_none (idle c i)

  pub found-free : (c : Channel) → IsFound identifiers (is_free h past p c) (free_on h past p c)
  found-free c = least-found identifiers (is_free h past p c) 0 (lit≤ tt) (all-free c 0)

  pub found-both : IsFound identifiers (λ i. is_free h past p Read i && is_free h past p Write i) (free_on_both h past p)
  found-both = least-found identifiers (λ i. is_free h past p Read i && is_free h past p Write i) 0 (lit≤ tt) (and_from _ _ (all-free Read 0) (all-free Write 0))

  read-asked : (k : ArKind) (a : ℕ) (lock : Bool) → HasFirst (read_bursts h past p k a lock)
  read-asked k a lock =
      with-first (is_free h past p Read) (free_on h past p Read) (λ i. event.Ar p i a (ar_code k) (domain_for (is_no_snoop_read k)) 0 lock ∷ []) (found-free Read)

  pub kept-apart : (k : AwKind) → keeps_apart h past p k ≡ true
  kept-apart k =
      and_from _ _ (may (gives_up k) (has_write h past p is_unique_write) (none-written h past p idle is_unique_write))
      (may (is_unique_write k) (has_write h past p gives_up) (none-written h past p idle gives_up))
    where
      may : (a b : Bool) → b ≡ false → implies a (not b) ≡ true
      may true b f = ap not f
      may false b f = refl

  write-asked : (k : AwKind) (a : ℕ) → HasFirst (write_bursts h past p k a)
  write-asked k a =
      let burst : ℕ → List Event = λ i. event.Aw p i a (aw_code k) (domain_for (is_no_snoop_write k)) 0 ∷ [] in
      subst HasFirst (sym (ap (λ b. if b then with_identifier (free_on h past p Write) burst else []) (kept-apart k)))
      (with-first (is_free h past p Write) (free_on h past p Write) burst (found-free Write))

  victim-asked : (a : ℕ) → HasFirst (victim_bursts h past p a)
  victim-asked a =
      elim (cases_Bool (is_dirty (state_of h past p a))) [
        | inl t ↦ subst HasFirst (sym (ap (λ b. if b then write_bursts h past p write.WriteBack a else drop_bursts p a) t)) (write-asked write.WriteBack a)
        | inr f ↦ subst HasFirst (sym (ap (λ b. if b then write_bursts h past p write.WriteBack a else drop_bursts p a) f)) (this-first _ [])
      ]

  -- a line that the port holds can be given up
  room-asked : HasFirst (held_lines h past p) → HasFirst (room_bursts h past p)
  room-asked held =
      let f = found-free Write in
      let some : is_none (free_on h past p Write) ≡ false = ap is_none f.is in
      let none : (is_none (free_on h past p Write) || has_write h past p is_unique_write) ≡ false =
      ap (λ b. b || has_write h past p is_unique_write) some ∙ none-written h past p idle is_unique_write in
      let victims = filter (λ a. not (has_outstanding_on h past p a)) (held_lines h past p) in
      subst HasFirst (sym (ap (λ b. if b then [] else flat_map (victim_bursts h past p) victims) none))
      (let free = first-filter (λ a. not (has_outstanding_on h past p a)) (held_lines h past p) held (λ a. ap not (none-busy h past p idle a)) in
      first-flat_map (victim_bursts h past p) victims free (victim-asked free.first))

  miss-asked : (ways : ℕ) (k : ArKind) (a : ℕ) (lock : Bool) → 1 ≤ ways → HasFirst (bursts_of ways h past p (Misses k a lock))
  miss-asked ways k a lock some =
      elim (cases_Bool (has_room ways h past p)) [
        | inl t ↦ subst HasFirst (sym (ap (λ b. if b then read_bursts h past p k a lock else room_bursts h past p) t)) (read-asked k a lock)
        | inr f ↦
            let many = ltb-false (length (held_lines h past p)) ways f in
            subst HasFirst (sym (ap (λ b. if b then read_bursts h past p k a lock else room_bursts h past p) f))
            (room-asked (first-long (held_lines h past p) (omega (arith, many, some))))
      ]

  barriers-asked : (bar : ℕ) → HasFirst (barrier_bursts h past p bar)
  barriers-asked bar = with-first (λ i. is_free h past p Read i && is_free h past p Write i) (free_on_both h past p) (barrier_halves p bar) found-both

  -- after one AR of the port another identifier is free
  other-free : (i a s d b : ℕ) (lock : Bool) (j : ℕ) → (i == j) ≡ false → is_free h (event.Ar p i a s d b lock ∷ past) p Read j ≡ true
  other-free i a s d b lock j other =
      let name : ((p == p) && true && (i == j)) ≡ false = ap (λ t. (p == p) && true && t) other ∙ no-name (p == p) in
      let x : Transaction = record { place = length past; port = p; chan = Read; id = i; addr = a; snoop = s; dom = d; bar = b; lock = lock } in
      ap is_none (ap (λ t. if t then Some x else outstanding h past p Read j) name ∙ idle Read j)
    where
      no-name : (t : Bool) → (t && true && false) ≡ false
      no-name true = refl
      no-name false = refl

  pub found-after : (i a s d b : ℕ) (lock : Bool) → IsFound identifiers (is_free h (event.Ar p i a s d b lock ∷ past) p Read) (free_on h (event.Ar p i a s d b lock ∷ past) p Read)
  found-after i a s d b lock =
      elim (cases_Bool (i == 0)) [
        | inl zeroth ↦ least-found identifiers (is_free h (event.Ar p i a s d b lock ∷ past) p Read) 1 (lit≤ tt) (other-free i a s d b lock 1 (ap (λ n. n == 1) (eqb-true i 0 zeroth)))
        | inr other ↦ least-found identifiers (is_free h (event.Ar p i a s d b lock ∷ past) p Read) 0 (lit≤ tt) (other-free i a s d b lock 0 other)
      ]

  messages-asked : (word second : ℕ) → HasFirst (message_bursts h past p word second)
  messages-asked word second =
      let one = found-free Read in
      let ar : ℕ → Event = λ i. event.Ar p i word (ar_code read.DvmMessage) 1 0 false in
      let two = found-after one.number word (ar_code read.DvmMessage) 1 0 false in
      let first : HasFirst (and_part h past p word []) =
      record { first = ar one.number ∷ []; rest = []; is = ap (λ o. map (λ part. [] ++ part) (with_identifier o (λ i. ar i ∷ []))) one.is } in
      first-flat_map (and_part h past p second) (and_part h past p word []) first
      (first-map (λ part. (ar one.number ∷ []) ++ part) (read_bursts h (ar one.number ∷ past) p read.DvmMessage second false)
      (with-first (is_free h (ar one.number ∷ past) p Read) (free_on h (ar one.number ∷ past) p Read) (λ i. event.Ar p i second (ar_code read.DvmMessage) 1 0 false ∷ []) two))

-- Where nothing of the port is outstanding, there is a burst for each request.
pub request-asked : (ways : ℕ) (h : Header) (past : Trace) (p : ℕ) (asked : Request) → IsIdle h past p → 1 ≤ ways → HasFirst (bursts_of ways h past p asked)
request-asked ways h past p (Reads k a lock) idle some = read-asked h past p idle k a lock
request-asked ways h past p (Misses k a lock) idle some = miss-asked h past p idle ways k a lock some
request-asked ways h past p (Writes k a) idle some = write-asked h past p idle k a
request-asked ways h past p (Drops a) idle some = this-first _ []
request-asked ways h past p (Barriers bar) idle some = barriers-asked h past p idle bar
request-asked ways h past p (Messages word second) idle some = messages-asked h past p idle word second
