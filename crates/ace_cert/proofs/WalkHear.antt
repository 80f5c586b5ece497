-- What is kept of a trace with one more event, and of the empty trace.
use Rattle.std.proofs.Common.{◌≡◌, ℕ, zero, suc, ◌+◌, ◌-◌, ◌<◌, ◌≤◌, ◌↔◌, Bool, true, false, ◌&&◌, nat_eq, if◌then◌else◌, List, [], ◌∷◌, ◌++◌, length, reverse, drop, take, Option, Some, None, option_map, refl, sym, ap, subst, ◌∙◌, arith, take-append-drop, get_or, length-take, Result, Ok, Err, OnOk, IfOk, map, slice_get}
use Rattle.std.proofs.lemmas.List.{length-reverse, reverse-append, reverse-reverse}
use lib.Seq.{take-suc}
use Rattle.std.specs.Ordering.{nat_cmp}
use Rattle.std.specs.BTreeMap.{BTreeMap, get}
use Rattle.ace_model.proofs.Terms.{Event, Aw, Trace, is_some_and}
use Rattle.ace_cert.specs.declared.cert.LineOrder.{LineOrder}
use Rattle.ace_cert.specs.declared.cert.ReadPlace.{ReadPlace}
use Rattle.ace_cert.specs.declared.verification.bursts.Counts.{Counts}
use Rattle.ace_cert.specs.declared.verification.kept.Kept.{Kept}
use Rattle.ace_cert.specs.declared.verification.lines.Change.{Change}
use Rattle.ace_cert.specs.declared.verification.lines.Lines.{Lines}
use Rattle.ace_cert.specs.declared.verification.lines.Mark.{Mark}
use Rattle.std.specs.List.{All}
use Rattle.std.specs.List.Sorted.{IsStrictlyIncreasing}
use Rattle.ace_cert.specs.declared.cert.Cert.{Cert}
use Rattle.ace_cert.specs.Certificates.{IsCertificate}
use Rattle.ace_cert.specs.Checks.{AreInOrder, IsOrderOf, all_pass, is_read_number, lists_line, passes}
use Rattle.ace_cert.proofs.Exact.{certificate-from_checks, checks-from_certificate}
use Rattle.ace_cert.specs.Walk.{AreLinesAfter, AreLinesKept, AreMarksFit, ArePlacesKept, HasBytes, nth_of, under, IsChangeOf, IsKept, beat_after, counts_after, counts_in, facts_of, read_after, seen_at, seen_one, write_after}
use Rattle.ace_cert.proofs.WalkBursts.{beats-grown, counts-grown}
use Rattle.ace_cert.proofs.WalkLines.{lines-changed, lines-stand}
use Rattle.ace_cert.proofs.WalkNames.{reads-grown, writes-grown}
use Rattle.ace_cert.proofs.WalkReads.{places-grown}

lines-after : (past : Trace) (e : Event) (o : Option Change) (old new : Lines) → length past < 4294967295 → ((l : ℕ) → IsChangeOf past e o l)
    → AreLinesKept past old.heads old.marks.items old.numbers → AreLinesAfter (length past + 1) o old new → AreLinesKept (e ∷ past) new.heads new.marks.items new.numbers
lines-after past e None old new few is kept after =
    subst (λ (x : Lines). AreLinesKept (e ∷ past) x.heads x.marks.items x.numbers) (sym after) (lines-stand past e old.heads old.marks.items old.numbers few is kept)
lines-after past e (Some c) old new few is kept after = lines-changed past e c old new few is kept after

-- what is kept with one more event
pub heard : (past : Trace) (e : Event) (o : Option Change) (earlier : ℕ) (old new : Kept) → length past < 1048576 → HasBytes e → IsKept past old
    → ((l : ℕ) → IsChangeOf past e o l) → AreLinesAfter (length past + 1) o old.lines new.lines
    → ((k : ℕ) → get nat_cmp new.reads k ≡ read_after (length past) e k (get nat_cmp old.reads k))
    → ((k : ℕ) → get nat_cmp new.writes k ≡ write_after (length past) earlier e k (get nat_cmp old.writes k))
    → ((q j addr snoop dom bar : ℕ) → e ≡ Aw q j addr snoop dom bar → earlier ≡ (counts_in old.counts q).writes)
    → ((k : ℕ) → get nat_cmp new.beats k ≡ beat_after old.counts e k (get nat_cmp old.beats k))
    → ((p : ℕ) → counts_in new.counts p ≡ counts_after e p (counts_in old.counts p))
    → IsKept (e ∷ past) new
heard past e o earlier old new few bytes kept is lines reads writes before beats counts =
    let small : length past < 4294967295 = omega (arith, few) in
    record {
      reads = reads-grown past e old.reads new.reads small bytes kept.reads reads;
      writes =
          writes-grown past e earlier old.writes new.writes bytes kept.writes
          (λ q j addr snoop dom bar aw. before q j addr snoop dom bar aw ∙ ap (λ (c : Counts). c.writes) (kept.counts q)) writes;
      counts = counts-grown past e old.counts new.counts small kept.counts counts;
      beats = beats-grown past e old.counts old.beats new.beats small kept.counts kept.beats beats;
      lines = lines-after past e o old.lines new.lines small is kept.lines lines;
    }

-- once an event doesn't pass, the trace doesn't
fails : (lines : List LineOrder) (reads : List ReadPlace) (newer older : Trace) → all_pass lines reads older ≡ false → all_pass lines reads (newer ++ older) ≡ false
fails lines reads [] older f = f
fails lines reads (e ∷ newer) older f = rw (fails lines reads newer older f) refl

pub all-fails : (lines : List LineOrder) (reads : List ReadPlace) (trace : List Event) (n : ℕ) → all_pass lines reads (reverse (take n trace)) ≡ false → all_pass lines reads (reverse trace) ≡ false
all-fails lines reads trace n f =
    let whole : reverse trace ≡ reverse (drop n trace) ++ reverse (take n trace) =
    ap reverse (sym (take-append-drop n trace)) ∙ reverse-append (take n trace) (drop n trace) in
    rw whole (fails lines reads (reverse (drop n trace)) (reverse (take n trace)) f)

-- of the first n + 1 events the newest, and then those before it
pub newest : (xs : List Event) (n : ℕ) (d : Event) → n < length xs → reverse (take (n + 1) xs) ≡ get_or xs n d ∷ reverse (take n xs)
newest xs n d low =
    let one : n + 1 ≡ suc n = omega arith in
    rw one (ap reverse (take-suc xs n d low) ∙ reverse-append (take n xs) (get_or xs n d ∷ []))

pub count-before : (xs : List Event) (n : ℕ) → n ≤ length xs → length (reverse (take n xs)) ≡ n
count-before xs n low =
    let taken = length-take n xs in
    let turned = length-reverse (take n xs) in
    omega (arith, taken, turned, low)

module _ (lines : List LineOrder) (reads : List ReadPlace) (trace : List Event) (n : ℕ) (d : Event) (low : n < length trace) where
  whole : all_pass lines reads (reverse (take (n + 1) trace))
      ≡ (all_pass lines reads (reverse (take n trace)) && (lists_line lines n (get_or trace n d) && passes reads (reverse (take n trace)) (get_or trace n d)))
  whole =
      let count = count-before trace n (omega (arith, low)) in
      ap (all_pass lines reads) (newest trace n d low)
      ∙ ap (λ m. all_pass lines reads (reverse (take n trace)) && (lists_line lines m (get_or trace n d) && passes reads (reverse (take n trace)) (get_or trace n d))) count

  pub next-right : all_pass lines reads (reverse (take n trace)) ≡ true → (lists_line lines n (get_or trace n d) && passes reads (reverse (take n trace)) (get_or trace n d)) ≡ true
      → all_pass lines reads (reverse (take (n + 1) trace)) ≡ true
  next-right before right = whole ∙ rw (before, right) refl

  pub wrong-fails : all_pass lines reads (reverse (take n trace)) ≡ true → (lists_line lines n (get_or trace n d) && passes reads (reverse (take n trace)) (get_or trace n d)) ≡ false
      → false ≡ all_pass lines reads (reverse trace)
  wrong-fails before wrong = sym (all-fails lines reads trace (n + 1) (whole ∙ rw (before, wrong) refl))

-- what is kept with the next event
pub next-kept : (reads : List ReadPlace) (trace : List Event) (n : ℕ) (d : Event) (kept : Kept) → n < length trace
    → IsKept (get_or trace n d ∷ reverse (take n trace)) kept × ArePlacesKept reads (get_or trace n d ∷ reverse (take n trace)) kept.places
    → IsKept (reverse (take (n + 1) trace)) kept × ArePlacesKept reads (reverse (take (n + 1) trace)) kept.places
next-kept reads trace n d kept low k = subst (λ t. IsKept t kept × ArePlacesKept reads t kept.places) (sym (newest trace n d low)) k

nothing-before : (n : ℕ) → drop {A = Event} n [] ≡ []
nothing-before zero = refl
nothing-before (suc n) = refl

pub empty-get : {V : Type 0} → (m : BTreeMap ℕ V) → m.entries ≡ [] → (k : ℕ) → get nat_cmp m k ≡ None
empty-get m e k = rw e refl

-- nothing is kept of the empty trace
pub empty-lines : (heads : BTreeMap ℕ ℕ) (marks : List Mark) (numbers : BTreeMap ℕ ℕ) → heads.entries ≡ [] → marks ≡ [] → numbers.entries ≡ [] → AreLinesKept [] heads marks numbers
empty-lines heads marks numbers no_heads no_marks no_numbers =
    let head = empty-get heads no_heads in
    record {
      facts = λ l q. rw (head l, no_marks) (ap (λ t. facts_of t l) (sym (nothing-before (0 - q))));
      newest = λ l. rw (head l) (omega arith);
      few = rw no_marks (omega arith);
      stored = λ l k low. empty-get numbers no_numbers (nth_of l k);
    }

pub empty-fit : (heads : BTreeMap ℕ ℕ) (marks : List Mark) → heads.entries ≡ [] → marks ≡ [] → AreMarksFit heads marks
empty-fit heads marks no_heads no_marks =
    let head = empty-get heads no_heads in
    record {
      before = λ k m there. let bad : slice_get {X = Mark} [] k ≡ Some m = rw no_marks at there in cc;
      newest = λ l. rw (head l) (omega arith);
    }

pub empty-kept : (kept : Kept) → kept.reads.entries ≡ [] → kept.writes.entries ≡ [] → kept.counts.entries ≡ [] → kept.beats.entries ≡ []
    → AreLinesKept [] kept.lines.heads kept.lines.marks.items kept.lines.numbers → IsKept [] kept
empty-kept kept reads writes counts beats lines = record {
  reads = λ p i low. empty-get kept.reads reads (under p i);
  writes = λ p i low. empty-get kept.writes writes (under p i);
  counts = λ p. rw (empty-get kept.counts counts p) refl;
  beats = λ p k low. empty-get kept.beats beats (nth_of p k);
  lines = lines;
}

-- what isn't so is rightly denied
pub denied : {C : Type 0} → (C → ⊥) → (false ≡ true) ↔ C
denied never = (λ e. cc, λ c. absurd (never c))

pub granted : {C : Type 0} → C → (true ≡ true) ↔ C
granted is = (λ e. is, λ c. refl)

pub on-ok : {T E A B : Type 0} (r : Result T E) → (A → B) → OnOk r A → OnOk r B
on-ok (Ok x) f a = f a
on-ok (Err e) f a = tt

-- all that is kept, with one more event
pub heard-all : (reads : List ReadPlace) (past : Trace) (e : Event) (o : Option Change) (seen : Option ℕ) (earlier place : ℕ) (old new : Kept) → place ≡ length past → place < 1048576
    → HasBytes e → IsKept past old → ArePlacesKept reads past old.places → ((l : ℕ) → IsChangeOf past e o l) → seen ≡ seen_at past e
    → ((k : ℕ) → get nat_cmp new.places k ≡ (if is_some_and seen (λ m. nat_eq m k) then option_map seen_one (get nat_cmp old.places k) else get nat_cmp old.places k))
    → AreLinesAfter (place + 1) o old.lines new.lines
    → ((k : ℕ) → get nat_cmp new.reads k ≡ read_after place e k (get nat_cmp old.reads k))
    → ((k : ℕ) → get nat_cmp new.writes k ≡ write_after place earlier e k (get nat_cmp old.writes k))
    → ((q j addr snoop dom bar : ℕ) → e ≡ Aw q j addr snoop dom bar → earlier ≡ (counts_in old.counts q).writes)
    → ((k : ℕ) → get nat_cmp new.beats k ≡ beat_after old.counts e k (get nat_cmp old.beats k))
    → ((p : ℕ) → counts_in new.counts p ≡ counts_after e p (counts_in old.counts p))
    → IsKept (e ∷ past) new × ArePlacesKept reads (e ∷ past) new.places
heard-all reads past e o seen earlier place old new here few bytes kept placed is shown places lines reads_after writes_after before beats counts = (
  heard past e o earlier old new (omega (arith, here, few)) bytes kept is (subst (λ n. AreLinesAfter (n + 1) o old.lines new.lines) here lines)
      (λ k. reads_after k ∙ ap (λ n. read_after n e k (get nat_cmp old.reads k)) here)
      (λ k. writes_after k ∙ ap (λ n. write_after n earlier e k (get nat_cmp old.writes k)) here) before beats counts,
  places-grown reads past e old.places new.places placed
      (λ k. places k ∙ ap (λ (v : Option ℕ). if is_some_and v (λ m. nat_eq m k) then option_map seen_one (get nat_cmp old.places k) else get nat_cmp old.places k) shown),
)

-- The end

module _ (trace : List Event) (cert : Cert) where
  -- no certificate, where a part of it isn't so
  pub refused : {P : Type 0} → (b : Bool) → (b ≡ true) ↔ P → (IsCertificate (reverse trace) cert → P) → b ≡ false → (false ≡ true) ↔ IsCertificate (reverse trace) cert
  refused b exact part f = denied (λ is. let t = exact.1 (part is) in cc)

  pub refused-pass : false ≡ all_pass cert.lines cert.reads (reverse trace) → (false ≡ true) ↔ IsCertificate (reverse trace) cert
  refused-pass f = denied (λ is. let t = f ∙ (checks-from_certificate (reverse trace) cert is).passes in cc)

  checked : IsStrictlyIncreasing (map (λ (o : LineOrder). o.addr) cert.lines) → IsStrictlyIncreasing (map (λ (r : ReadPlace). r.event) cert.reads)
      → all_pass cert.lines cert.reads (reverse trace) ≡ true → All (IsOrderOf (reverse trace)) cert.lines → All (λ (r : ReadPlace). is_read_number (reverse trace) r.event ≡ true) cert.reads
      → AreInOrder trace cert.reads → IsCertificate (reverse trace) cert
  checked lines reads pass orders seen order =
      certificate-from_checks (reverse trace) cert
      (record { lines_rise = lines; reads_rise = reads; passes = pass; orders = orders; reads = seen; in_order = subst (λ t. AreInOrder t cert.reads) (sym (reverse-reverse trace)) order })

  ordered : IsCertificate (reverse trace) cert → AreInOrder trace cert.reads
  ordered is = subst (λ t. AreInOrder t cert.reads) (reverse-reverse trace) (checks-from_certificate (reverse trace) cert is).in_order

  pub exact-order : {E : Type 0} → (r : Result Bool E) → IfOk r (λ right. (right ≡ true) ↔ AreInOrder trace cert.reads)
      → IsStrictlyIncreasing (map (λ (o : LineOrder). o.addr) cert.lines) → IsStrictlyIncreasing (map (λ (r : ReadPlace). r.event) cert.reads)
      → all_pass cert.lines cert.reads (reverse trace) ≡ true → All (IsOrderOf (reverse trace)) cert.lines → All (λ (r : ReadPlace). is_read_number (reverse trace) r.event ≡ true) cert.reads
      → IfOk r (λ right. (right ≡ true) ↔ IsCertificate (reverse trace) cert)
  exact-order (Err e) exact lines reads pass orders seen = exact
  exact-order (Ok b) exact lines reads pass orders seen = (λ t. checked lines reads pass orders seen (exact.0 t), λ is. exact.1 (ordered is))
