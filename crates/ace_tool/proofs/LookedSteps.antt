-- The traces of a list that are looked at, piece by piece.
use Rattle.std.proofs.Common.{◌≡◌, ◌++◌, ◌||◌, ◌≤◌, ℕ, Bool, true, false, List, [], ◌∷◌, drop, length, map, slice_range, inl, inr, refl, ap, sym, subst, ◌∙◌, append_assoc, append-nil}
use Rattle.std.proofs.lemmas.Bool.{cases_Bool, true≢false}
use Rattle.std.proofs.lemmas.List.{drop_all}
use Rattle.std.proofs.lemmas.List.Folds.{drop_split}
use Rattle.std.specs.List.{AllZip, list_any}
use Rattle.ace_batch.specs.Looked.{AreLookedAt, GoesOn, ends_with, looked_at}
use Rattle.ace_batch.specs.declared.entry.Entry.{Entry}

-- what holds behind a trace with which the call doesn't end
goes : (b : Bool) (entries : List Entry) (T U : Type 0) → (T → U) → GoesOn b entries T → GoesOn b entries U
goes true entries T U f h = h
goes false entries T U f h = f h

-- of the names that the traces have
pub through : {X Y : Type 0} (f : X → Y) (fast : Bool) (Is : Y → Entry → Type 0) (xs : List X) (entries : List Entry)
    → AreLookedAt fast (λ x e. Is (f x) e) xs entries → AreLookedAt fast Is (map f xs) entries
through f fast Is [] [] h = tt
through f fast Is [] (e ∷ entries) h = absurd h
through f fast Is (x ∷ xs) [] h = absurd h
through f fast Is (x ∷ xs) (e ∷ entries) h =
    (h.0, goes (ends_with fast e) entries _ _ (through f fast Is xs entries) h.1)

-- where the call ends with none of a piece, it goes on behind it
pub piece_before : {X : Type 0} (fast : Bool) (Is : X → Entry → Type 0) (front rest : List X) (more entries : List Entry)
    → AllZip Is front more → list_any (ends_with fast) more ≡ false → AreLookedAt fast Is rest entries
    → AreLookedAt fast Is (front ++ rest) (looked_at fast more ++ entries)
piece_before fast Is [] rest [] entries zipped none others = others
piece_before fast Is [] rest (e ∷ more) entries zipped none others = absurd zipped
piece_before fast Is (x ∷ front) rest [] entries zipped none others = absurd zipped
piece_before fast Is (x ∷ front) rest (e ∷ more) entries zipped none others = elim (cases_Bool (ends_with fast e)) [
  | inl hit ↦ absurd (true≢false (sym (ap (λ b. b || list_any (ends_with fast) more) hit) ∙ none))
  | inr miss ↦ rw miss (
    zipped.0,
    piece_before fast Is front rest more entries zipped.1
        (sym (ap (λ b. b || list_any (ends_with fast) more) miss) ∙ none) others,
  )
]

-- where it ends with one of them, none is looked at behind that one
pub last_piece : {X : Type 0} (fast : Bool) (Is : X → Entry → Type 0) (front rest : List X) (more : List Entry)
    → AllZip Is front more → list_any (ends_with fast) more ≡ true
    → AreLookedAt fast Is (front ++ rest) (looked_at fast more)
last_piece fast Is [] rest [] zipped some = absurd (true≢false (sym some))
last_piece fast Is [] rest (e ∷ more) zipped some = absurd zipped
last_piece fast Is (x ∷ front) rest [] zipped some = absurd zipped
last_piece fast Is (x ∷ front) rest (e ∷ more) zipped some = elim (cases_Bool (ends_with fast e)) [
  | inl hit ↦ rw hit (zipped.0, refl)
  | inr miss ↦ rw miss (
    zipped.0,
    last_piece fast Is front rest more zipped.1 (sym (ap (λ b. b || list_any (ends_with fast) more) miss) ∙ some),
  )
]

-- the same of the piece between two places of a list
pub goes_on_behind : {X : Type 0} (fast : Bool) (Is : X → Entry → Type 0) (xs : List X) (start end : ℕ) (more entries : List Entry)
    → start ≤ end → AllZip Is (slice_range xs start end) more → list_any (ends_with fast) more ≡ false
    → AreLookedAt fast Is (drop end xs) entries → AreLookedAt fast Is (drop start xs) (looked_at fast more ++ entries)
goes_on_behind fast Is xs start end more entries before zipped none others =
    subst (λ l. AreLookedAt fast Is l (looked_at fast more ++ entries)) (sym (drop_split xs start end before))
    (piece_before fast Is (slice_range xs start end) (drop end xs) more entries zipped none others)

pub ends_within : {X : Type 0} (fast : Bool) (Is : X → Entry → Type 0) (xs : List X) (start end : ℕ) (more : List Entry)
    → start ≤ end → AllZip Is (slice_range xs start end) more → list_any (ends_with fast) more ≡ true
    → AreLookedAt fast Is (drop start xs) (looked_at fast more)
ends_within fast Is xs start end more before zipped some =
    subst (λ l. AreLookedAt fast Is l (looked_at fast more)) (sym (drop_split xs start end before))
    (last_piece fast Is (slice_range xs start end) (drop end xs) more zipped some)

-- none is left behind the last
pub none_behind : {X : Type 0} (fast : Bool) (Is : X → Entry → Type 0) (xs : List X) (start : ℕ) → length xs ≤ start
    → AreLookedAt fast Is (drop start xs) []
none_behind fast Is xs start past = subst (λ l. AreLookedAt fast Is l []) (sym (drop_all start xs past)) tt

-- of a list that has grown by these
pub grown : {X : Type 0} (fast : Bool) (Is : X → Entry → Type 0) (xs : List X) (before after some : List Entry) → after ≡ before ++ some
    → AreLookedAt fast Is xs (before ++ some) → AreLookedAt fast Is xs after
grown fast Is xs before after some is h = subst (AreLookedAt fast Is xs) (sym is) h

pub grown_before : {X : Type 0} (fast : Bool) (Is : X → Entry → Type 0) (xs : List X) (before after some entries : List Entry)
    → after ≡ before ++ some → AreLookedAt fast Is xs (before ++ (some ++ entries)) → AreLookedAt fast Is xs (after ++ entries)
grown_before fast Is xs before after some entries is h =
    grown fast Is xs (before ++ some) (after ++ entries) entries (ap (λ (l : List Entry). l ++ entries) is)
    (subst (AreLookedAt fast Is xs) (sym (append_assoc before some entries)) h)

pub grown_by_none : {X : Type 0} (fast : Bool) (Is : X → Entry → Type 0) (xs : List X) (entries : List Entry)
    → AreLookedAt fast Is xs (entries ++ []) → AreLookedAt fast Is xs entries
grown_by_none fast Is xs entries h = subst (AreLookedAt fast Is xs) (append-nil entries) h
