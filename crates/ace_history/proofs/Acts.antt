-- The acts of a call: what a load gets, and what a store leaves.
use Rattle.std.proofs.Common.{◌≡◌, ℕ, Bool, true, false, not, ◌&&◌, ◌||◌, ◌==◌, if◌then◌else◌, ◌∷◌, length, Some, None, slice_get, refl, sym, ap, subst, ◌∙◌}
use Rattle.std.specs.List.{AllByRecursion}
use Rattle.std.proofs.lemmas.Bool.{and_parts, eqb-true, not-true}
use Rattle.ace_event.specs.Bytes.{merged}
use Rattle.ace_event.specs.Range.{FitsFields}
use Rattle.ace_event.specs.declared.event.Event.TheVariants.{L, D}
use Rattle.ace_event.specs.declared.event.Outcome.TheVariants.{Ok}
use Rattle.ace_event.specs.declared.header.Header.{Header}
use Rattle.ace_event.specs.declared.line.Line.{Line}
use Rattle.ace_tables.specs.Answers.{same_test}
use Rattle.ace_model.specs.declared.plans.Op.{Op}
use Rattle.ace_model.specs.declared.plans.Op.TheVariants.{Ld, Ldx, St, Stx}
use Rattle.ace_model.specs.Accepted.{IsAccepted}
use Rattle.ace_model.specs.Copies.{same_line, word_of}
use Rattle.ace_model.specs.Trace.{Trace, is_some_and}
use Rattle.ace_model.specs.Values.{after_store, value_of}
use Rattle.ace_model.proofs.ReadsFollow.Law.{reads_follow}
use Rattle.ace_model.proofs.Trace.Places.{at_point-last, event_at-now}
use Rattle.ace_model.proofs.Values.MergedLines.{same_line-is}
use Rattle.ace_runs.specs.Acts.{acts_of, word_line, word_strobe}
use Rattle.ace_history.specs.Stored.{line_by}
use Rattle.ace_history.specs.Reserved.{MayEnd, reserved_by}
use Rattle.ace_history.specs.Settled.{is_call}
use Rattle.ace_history.specs.Watched.{watched_by}
use Rattle.ace_history.proofs.Stages.{word_now}

-- a load of an accepted trace has its word of the line's value
pub load-value : (h : Header) (past : Trace) (p a w word : ℕ) (x : Bool) → IsAccepted h (L p a w x word ∷ past)
    → AllByRecursion FitsFields (L p a w x word ∷ past) → word ≡ word_of (value_of past a) w
load-value h past p a w word x accepted fits =
    let e = L p a w x word in
    let points = reads_follow h (e ∷ past) accepted fits in
    points.1.load_word (length past) p a w word (x, event_at-now e past)
    ∙ ap (λ t. word_of (value_of t a) w) (at_point-last e past (length past) refl)

-- The load is one for the operation: of its line and word.
pub record LoadsFor (op : Op) (p addr w : ℕ) (x : Bool) (got : ℕ) : Type 0 where
  pub lines : (b : ℕ) (line : Line) → line_by b op Ok line ≡ line
  pub word : (t : Trace) → word_now t op ≡ word_of (value_of t addr) w
  pub watched : (q a : ℕ) (was : Bool) → watched_by q a (L p addr w x got) was ≡ reserved_by q a p op Ok was
  pub may : (watch : ℕ → ℕ → Bool) → MayEnd watch p op Ok

loads : (addr a w v : ℕ) (other : Bool) → ((addr == a) && (w == v) && other) ≡ true → (t : Trace) → word_of (value_of t a) v ≡ word_of (value_of t addr) w
loads addr a w v other fits t =
    let one = and_parts ((addr == a) && (w == v)) other fits in
    let two = and_parts (addr == a) (w == v) one.0 in
    sym (ap (λ b. word_of (value_of t b) w) (eqb-true addr a two.0) ∙ ap (word_of (value_of t a)) (eqb-true w v two.1))

-- what a load makes of the lines that ports watch
plain-load : (addr a w v : ℕ) (x : Bool) → ((addr == a) && (w == v) && not x) ≡ true → x ≡ false
plain-load addr a w v x fits = not-true x (and_parts ((addr == a) && (w == v)) (not x) fits).1

exclusive-load : (addr a w v : ℕ) (x : Bool) → ((addr == a) && (w == v) && x) ≡ true → (addr ≡ a) × (x ≡ true)
exclusive-load addr a w v x fits =
    let one = and_parts ((addr == a) && (w == v)) x fits in (eqb-true addr a (and_parts (addr == a) (w == v) one.0).0, one.1)

plain-watch : (q p b addr : ℕ) (x was : Bool) → x ≡ false → (if (q == p) && x then b == addr else was) ≡ was
plain-watch q p b addr x was plain = rw plain (never (q == p) (b == addr) was)
  where
    never : (t : Bool) (y z : Bool) → (if t && false then y else z) ≡ z
    never true y z = refl
    never false y z = refl

load-watch : (q p b addr a : ℕ) (x was : Bool) → (addr ≡ a) × (x ≡ true) → (if (q == p) && x then b == addr else was) ≡ (if q == p then b == a else was)
load-watch q p b addr a x was is = rw (is.0, is.1) (always (q == p) (b == a) was)
  where
    always : (t : Bool) (y z : Bool) → (if t && true then y else z) ≡ (if t then y else z)
    always true y z = refl
    always false y z = refl

pub load-act : (op : Op) (p addr w word : ℕ) (x : Bool) → is_call op ≡ true
    → is_some_and (slice_get (acts_of op) 0) (λ fits. fits (L p addr w x word)) ≡ true → LoadsFor op p addr w x word
load-act (Ld a v) p addr w word x c fits = record {
  lines = λ b line. refl;
  word = loads addr a w v (same_test false x) fits;
  watched = λ q b was. plain-watch q p b addr x was (plain-load addr a w v x fits);
  may = λ watch. tt;
}
load-act (Ldx a v) p addr w word x c fits = record {
  lines = λ b line. refl;
  word = loads addr a w v (same_test true x) fits;
  watched = λ q b was. load-watch q p b addr a x was (exclusive-load addr a w v x fits);
  may = λ watch. tt;
}
load-act (St a v o) p addr w word x c fits = cc
load-act (Stx a v o) p addr w word x c fits = cc
load-act op p addr w word x c fits = cc

-- The store is one for the operation: it leaves the line as the operation does.
pub record StoresFor (op : Op) (p addr strobe : ℕ) (x : Bool) (line : Line) : Type 0 where
  pub lines : (b : ℕ) (old : Line) → line_by b op Ok old ≡ (if b == addr then merged old strobe line else old)
  pub word : (t : Trace) → word_now t op ≡ 0
  pub watched : (q a : ℕ) (was : Bool) → watched_by q a (D p addr strobe x line) was ≡ reserved_by q a p op Ok was
  pub may : (watch : ℕ → ℕ → Bool) → (x ≡ true → watch p addr ≡ true) → MayEnd watch p op Ok

stores : (addr a s w v : ℕ) (other : Bool) (l : Line) → ((addr == a) && (s == word_strobe w) && other && same_line (word_line w v) l) ≡ true
    → length l.words ≡ 4
    → (b : ℕ) (old : Line) → (if b == a then merged old (word_strobe w) (word_line w v) else old) ≡ (if b == addr then merged old s l else old)
stores addr a s w v other l fits four b old =
    let one = and_parts ((addr == a) && (s == word_strobe w) && other) (same_line (word_line w v) l) fits in
    let two = and_parts ((addr == a) && (s == word_strobe w)) other one.0 in
    let three = and_parts (addr == a) (s == word_strobe w) two.0 in
    let line = same_line-is (word_line w v) l refl four one.1 in
    ap (λ k. if b == k then merged old (word_strobe w) (word_line w v) else old) (sym (eqb-true addr a three.0))
    ∙ ap (λ k. if b == addr then merged old k (word_line w v) else old) (sym (eqb-true s (word_strobe w) three.1))
    ∙ ap (λ k. if b == addr then merged old s k else old) line

-- what a store makes of them
plain-store : (addr a s w v : ℕ) (x : Bool) (l : Line) → ((addr == a) && (s == word_strobe w) && not x && same_line (word_line w v) l) ≡ true
    → (addr ≡ a) × (x ≡ false)
plain-store addr a s w v x l fits =
    let one = and_parts ((addr == a) && (s == word_strobe w) && not x) (same_line (word_line w v) l) fits in
    let two = and_parts ((addr == a) && (s == word_strobe w)) (not x) one.0 in
    (eqb-true addr a (and_parts (addr == a) (s == word_strobe w) two.0).0, not-true x two.1)

exclusive-store : (addr a s w v : ℕ) (x : Bool) (l : Line) → ((addr == a) && (s == word_strobe w) && x && same_line (word_line w v) l) ≡ true
    → (addr ≡ a) × (x ≡ true)
exclusive-store addr a s w v x l fits =
    let one = and_parts ((addr == a) && (s == word_strobe w) && x) (same_line (word_line w v) l) fits in
    let two = and_parts ((addr == a) && (s == word_strobe w)) x one.0 in
    (eqb-true addr a (and_parts (addr == a) (s == word_strobe w) two.0).0, two.1)

store-watch : (q p b addr a s : ℕ) (x : Bool) (l : Line) (was : Bool) → (addr ≡ a) × (x ≡ false)
    → watched_by q b (D p addr s x l) was ≡ (if not (q == p) && (b == a) then false else was)
store-watch q p b addr a s x l was is =
    ap (λ t. watched_by q b (D p addr s t l) was) is.1 ∙ ap (λ t. if not (q == p) && (b == t) then false else was) is.0

end-watch : (q p b addr a s : ℕ) (x : Bool) (l : Line) (was : Bool) → (addr ≡ a) × (x ≡ true)
    → watched_by q b (D p addr s x l) was ≡ (if (q == p) || (b == a) then false else was)
end-watch q p b addr a s x l was is =
    ap (λ t. watched_by q b (D p addr s t l) was) is.1 ∙ ap (λ t. if (q == p) || (b == t) then false else was) is.0

pub store-act : (op : Op) (p addr s : ℕ) (x : Bool) (l : Line) → is_call op ≡ true → length l.words ≡ 4
    → is_some_and (slice_get (acts_of op) 0) (λ fits. fits (D p addr s x l)) ≡ true → StoresFor op p addr s x l
store-act (St a w v) p addr s x l c four fits = record {
  lines = stores addr a s w v (same_test false x) l fits four;
  word = λ t. refl;
  watched = λ q b was. store-watch q p b addr a s x l was (plain-store addr a s w v x l fits);
  may = λ watch own. tt;
}
store-act (Stx a w v) p addr s x l c four fits = record {
  lines = stores addr a s w v (same_test true x) l fits four;
  word = λ t. refl;
  watched = λ q b was. end-watch q p b addr a s x l was (exclusive-store addr a s w v x l fits);
  may = λ watch own. let is = exclusive-store addr a s w v x l fits in subst (λ b. watch p b ≡ true) is.0 (own is.1);
}
store-act (Ld a v) p addr s x l c four fits = cc
store-act (Ldx a v) p addr s x l c four fits = cc
store-act op p addr s x l c four fits = cc

-- the value after a D
pub store-value : (b : Bool) (p s : ℕ) (line old : Line) → after_store old (if b then Some (record { port = p; strobe = s; line = line }) else None)
    ≡ (if b then merged old s line else old)
store-value true p s line old = refl
store-value false p s line old = refl
