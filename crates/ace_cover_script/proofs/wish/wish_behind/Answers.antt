use Rattle.std.proofs.Common.{rules, ap, sym, ◌∙◌, ◌∷◌, [], List, ℕ}
use Rattle.ace_cover_script.proofs.Wishes.{behind, no_more, only_word, too_many}
use Rattle.ace_cover_script.proofs.wish.wish_behind.Goals as goal

pub returns-then-is_empty : goal.returns-then-is_empty
returns-then-is_empty c =
    let one = only_word c.args.rest.now c.in-Some.word.now c.in-Some.more.now (search rules) (search rules) in
    behind c.args.first.now c.args.rest.now _ c.two_words.result (one ∙ ap (λ (w : List ℕ). w ∷ []) (sym c.as_str.ensures.value)) c.two_words.ensures

pub returns-else-is_empty : goal.returns-else-is_empty
returns-else-is_empty c = too_many c.args.first.now c.args.rest.now c.in-Some.word.now c.in-Some.more.now (search rules) (search rules)

pub returns-in-None : goal.returns-in-None
returns-in-None c = behind c.args.first.now c.args.rest.now _ c.one_word.result (no_more c.args.rest.now (search rules)) c.one_word.ensures
