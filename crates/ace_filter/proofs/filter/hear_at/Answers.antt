use Rattle.std.proofs.Common.{◌≡◌, ◌≤◌, ◌<◌, length, Some, slice_get, slice_index_or, sym, ap, ◌∙◌, arith}
use Rattle.std.proofs.lemmas.Grind.{common_steps}
use Rattle.std.proofs.lemmas.Option.{slice_get-get_or}
use Rattle.ace_filter.proofs.Watched.{watched-hear, watched-still}
use Rattle.ace_model.proofs.General.Options.{Some-injective}
use Rattle.ace_filter.proofs.filter.hear_at.Goals as goal

pub returns-in-Some-clause-stands : goal.returns-in-Some-clause-stands
returns-in-Some-clause-stands c = λ h past lines heard known a.
    let i = c.args.port in
    let items = c.args.ports.now.items in
    let at : c.from.result ≡ i = c.from.ensures in
    let within : i < length items = grind (arith, common_steps) in
    let value : c.in-Some.kept.now ≡ slice_index_or items i c.in-Some.kept.now = grind (arith, common_steps) in
    let there : slice_get items i ≡ Some c.in-Some.kept.now = slice_get-get_or items i c.in-Some.kept.now within ∙ ap Some (sym value) in
    let was = a.each i c.in-Some.kept.now there in
    rw at (watched-hear lines past c.args.event.now items a i c.hear.new.self heard.port
    (record { stands = c.hear.ensures.stands h past i lines heard known was.room was.stands; room = c.hear.ensures.room lines was.room }))

pub returns-in-Some-clause-change : goal.returns-in-Some-clause-change
returns-in-Some-clause-change c = λ h past lines heard low a.
    let i = c.args.port in
    let items = c.args.ports.now.items in
    let at : c.from.result ≡ i = c.from.ensures in
    let within : i < length items = grind (arith, common_steps) in
    let value : c.in-Some.kept.now ≡ slice_index_or items i c.in-Some.kept.now = grind (arith, common_steps) in
    let there : slice_get items i ≡ Some c.in-Some.kept.now = slice_get-get_or items i c.in-Some.kept.now within ∙ ap Some (sym value) in
    c.hear.ensures.change h past i heard (a.each i c.in-Some.kept.now there).stands

pub returns-in-None-clause-stands : goal.returns-in-None-clause-stands
returns-in-None-clause-stands c = λ h past lines heard known a.
    let i = c.args.port in
    let items = c.args.ports.now.items in
    let at : c.from.result ≡ i = c.from.ensures in
    let past_end : length items ≤ i = grind (arith, common_steps) in
    let len = a.len in
    watched-still lines past c.args.event.now items a (λ p low is.
    let same = Some-injective p i (sym is ∙ heard.port) in
    omega (arith, low, same, past_end, len))
