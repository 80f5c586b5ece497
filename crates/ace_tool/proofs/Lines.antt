-- The pieces of a line.
use Rattle.std.proofs.Common.{◌≡◌, ◌++◌, ℕ, List, [], ap, ◌∙◌, sym, append-nil}
use Rattle.std.proofs.lemmas.List.{append_assoc}

-- seven pieces, of which the third to the sixth are a text of their own
pub seven_pieces : (a b c d e f g : List ℕ)
    → a ++ (b ++ (c ++ (d ++ (e ++ (f ++ (g ++ [])))))) ≡ (a ++ b) ++ (c ++ d ++ e ++ f) ++ g
seven_pieces a b c d e f g =
    ap (λ t. a ++ (b ++ (c ++ (d ++ (e ++ (f ++ t)))))) (append-nil g)
    ∙ ap (λ t. a ++ (b ++ t))
    (sym (append_assoc c d (e ++ (f ++ g))) ∙ sym (append_assoc (c ++ d) e (f ++ g)) ∙ sym (append_assoc (c ++ d ++ e) f g))
    ∙ sym (append_assoc a b ((c ++ d ++ e ++ f) ++ g))
    ∙ sym (append_assoc (a ++ b) (c ++ d ++ e ++ f) g)

-- and a note behind them
pub eight_pieces : (a b c d e f g h : List ℕ)
    → a ++ (b ++ (c ++ (d ++ (e ++ (f ++ (g ++ (h ++ []))))))) ≡ (a ++ b) ++ (c ++ d ++ e ++ f) ++ g ++ h
eight_pieces a b c d e f g h =
    ap (λ t. a ++ (b ++ (c ++ (d ++ (e ++ (f ++ t)))))) (sym (append_assoc g h []))
    ∙ seven_pieces a b c d e f (g ++ h)
    ∙ sym (append_assoc ((a ++ b) ++ (c ++ d ++ e ++ f)) g h)

-- three pieces and a line feed
pub line_pieces : (a b c d : List ℕ) → a ++ (b ++ (c ++ (d ++ []))) ≡ a ++ b ++ c ++ d
line_pieces a b c d =
    ap (λ t. a ++ (b ++ (c ++ t))) (append-nil d) ∙ sym (append_assoc a b (c ++ d)) ∙ sym (append_assoc (a ++ b) c d)

pub ruleset lines = (append-nil)
