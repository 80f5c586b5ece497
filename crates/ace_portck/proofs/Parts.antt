-- The beats of a burst in four places.
use Rattle.std.proofs.Common.{◌≡◌, ℕ, ◌+◌, ◌*◌, ◌<◌, List, [], ◌∷◌, ◌++◌, length, map, get_or, slice_set, refl, sym, ap, ◌∙◌, arith, length-append}
use Rattle.std.proofs.lemmas.List.{length-map, map-append}
use Rattle.ace_portck.proofs.Terms.{Beat, WriteData, Part, IsPart, data_of_burst, four}

-- one more number
four_more : (xs : List ℕ) (y : ℕ) → length xs < 4 → slice_set (four xs) (length xs) y ≡ four (xs ++ y ∷ [])
four_more [] y low = refl
four_more (a ∷ []) y low = refl
four_more (a ∷ b ∷ []) y low = refl
four_more (a ∷ b ∷ c ∷ []) y low = refl
four_more (a ∷ b ∷ c ∷ d ∷ xs) y low = absurd (omega arith)

-- one more beat
pub part_more : (bs : List Beat) (b : Beat) (part : Part) (n : ℕ) → length bs < 4 → n ≡ part.beats → IsPart bs part
    → IsPart (bs ++ b ∷ []) (record { beats = part.beats + 1; strobes = slice_set part.strobes n b.strobe; words = slice_set part.words n b.word })
part_more bs b part n low at s = record {
  beats_are = let longer = length-append bs (b ∷ []) in let beats' = s.beats_are in omega (arith, longer, beats');
  strobes_are = places (λ (c : Beat). c.strobe) part.strobes s.strobes_are;
  words_are = places (λ (c : Beat). c.word) part.words s.words_are;
}
  where
    places : (f : Beat → ℕ) (xs : List ℕ) → xs ≡ four (map f bs) → slice_set xs n (f b) ≡ four (map f (bs ++ b ∷ []))
    places f xs is =
        let long = length-map bs f in
        let beats' = s.beats_are in
        ap (λ v. slice_set v n (f b)) is
        ∙ ap (λ k. slice_set (four (map f bs)) k (f b)) (at ∙ beats' ∙ sym long)
        ∙ four_more (map f bs) (f b) (omega (arith, long, low))
        ∙ ap four (sym (map-append f bs (b ∷ [])))

-- four beats as one
pub part_data : (bs : List Beat) (part : Part) (n : ℕ) → length bs ≡ 4 → IsPart bs part
    → n ≡ (get_or part.strobes 0 0 + 65536 * get_or part.strobes 1 0) + 4294967296 * (get_or part.strobes 2 0 + 65536 * get_or part.strobes 3 0)
    → ◌≡◌ {A = WriteData} (record { strobe = n; line = record { words = part.words } }) (data_of_burst bs)
part_data [] part n long s is = absurd (omega arith)
part_data (a ∷ []) part n long s is = absurd (omega arith)
part_data (a ∷ b ∷ []) part n long s is = absurd (omega arith)
part_data (a ∷ b ∷ c ∷ []) part n long s is = absurd (omega arith)
part_data (a ∷ b ∷ c ∷ d ∷ []) part n long s is =
    let sum : n ≡ (a.strobe + 65536 * b.strobe) + 4294967296 * (c.strobe + 65536 * d.strobe) = rw s.strobes_are at is in
    let same : n ≡ a.strobe + 65536 * (b.strobe + 65536 * (c.strobe + 65536 * (d.strobe + 65536 * 0))) = omega (arith, sum) in
    ap (λ v. record { strobe = v; line = record { words = part.words } }) same
    ∙ ap (λ v. record { strobe = a.strobe + 65536 * (b.strobe + 65536 * (c.strobe + 65536 * (d.strobe + 65536 * 0))); line = record { words = v } }) s.words_are
part_data (a ∷ b ∷ c ∷ d ∷ e ∷ bs) part n long s is = absurd (omega arith)
