use Rattle.std.proofs.Common.{◌≡◌, true, false, sym, ap, ◌∙◌}
use Rattle.std.specs.Prelude.{decimal}
use Rattle.std.proofs.lemmas.Slice.Eq.{bytes_eq-Decides}
use Rattle.std.proofs.lemmas.Fmt.{parse-decimal}
use Rattle.ace_side.proofs.fields.plain_number.Goals as goal

pub returns-else-eq : goal.returns-else-eq
returns-else-eq c = λ n h e.
    let read = parse-decimal 64 n _ _ h h (sym e) c.parse.ensures.value.0 in
    let number : c.in-Ok.n ≡ n = cc in
    let same : c.format.result.now ≡ c.args.text.now = c.format.ensures.text ∙ ap decimal number ∙ e in
    absurd (let clash : false ≡ true = c.if-eq.ensures ∙ (bytes_eq-Decides c.format.result.now c.args.text.now).1 same in cc)

pub returns-in-Err : goal.returns-in-Err
returns-in-Err c = λ n h e. absurd (cc (parse-decimal 64 n _ _ h h (sym e) c.parse.ensures.value.0))
