use Rattle.std.proofs.Common.{refl, arith, take, length, ◌∙◌, ap, map}
use Rattle.std.proofs.lemmas.List.{take_all}
use Rattle.std.proofs.lemmas.Simd.{map-map, zip2_splat, zip2_of_maps, splat_is_map}
use lib.Lanes.{top}
use Rattle.ace_grammar.proofs.Digits.EntryLanes.{sel_of_maps, have_entries}
use Rattle.ace_grammar.proofs.Digits.Entries.{agrees_below}
use Rattle.ace_grammar.proofs.fields.eight_entries_of.Goals as goal

pub returns : goal.returns
unfolding agrees_below
returns c =
    let v = take 8 c.args.digits.now in
    let whole = take_all 8 c.args.digits.now (omega (arith, c.requires)) in
    let long = ap length whole ∙ c.requires in
    have_entries _ c.args.digits.now
    (sel_of_maps _ _ _ v
    (ap (map (top 7)) (zip2_of_maps _ _ _ v (zip2_splat _ v 8 48 long) (splat_is_map v 8 10 long)) ∙ map-map (top 7) _ v)
    (zip2_splat _ v 8 48 long)
    (sel_of_maps _ _ _ v
    (ap (map (top 7)) (zip2_of_maps _ _ _ v (zip2_splat _ v 8 97 long) (splat_is_map v 8 6 long)) ∙ map-map (top 7) _ v)
    (zip2_of_maps _ _ _ v (zip2_splat _ v 8 97 long) (splat_is_map v 8 10 long))
    (splat_is_map v 8 255 long))
    ∙ ap (map _) whole)
    refl c.type_inv.digits
