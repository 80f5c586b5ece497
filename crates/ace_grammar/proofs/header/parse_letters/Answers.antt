use Rattle.std.proofs.Common.{subst, ℕ, refl}
use Rattle.std.proofs.lemmas.Bool.{iff_false}
use Rattle.ace_grammar.specs.Letters.{ArePortLetters}
use Rattle.ace_grammar.proofs.FirstLines.Letters.{no_letters, made_letters}
use Rattle.ace_grammar.proofs.header.parse_letters.Goals as goal

pub returns-then-not-are_letters : goal.returns-then-not-are_letters
returns-then-not-are_letters c =
    no_letters c.args.version c.args.letters.now
    (subst (λ (most : ℕ). ArePortLetters most c.args.letters.now → ⊥) c.most_letters.ensures.value (iff_false c.are_letters.ensures c.if-not-are_letters.true))

pub returns : goal.returns
returns c =
    let letters = subst (λ (most : ℕ). ArePortLetters most c.args.letters.now) c.most_letters.ensures.value (c.are_letters.ensures.0 c.if-not-are_letters.false) in
    let made = made_letters c.args.version c.args.letters.now c.requires letters in
    rw c.ace_bits.ensures.value (made.0, refl, made.1)
