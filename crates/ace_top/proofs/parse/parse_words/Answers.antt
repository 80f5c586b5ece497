use Rattle.std.proofs.Common.{rules, refl}
use Rattle.clap.specs.Words.{app_of, found_of}
use Rattle.ace_top.proofs.ParseLemmas.{parsed, refused}
use Rattle.ace_top.proofs.parse.parse_words.Goals as goal

pub returns-in-Some : goal.returns-in-Some
returns-in-Some c =
    let m = c.in-Ok-try_get_matches_from_mut in
    let all = parsed _ (app_of c.in-Ok.command) (found_of m.matches) _ _ c.requires c.in-Ok.ensures
    (λ s. (m.ensures.ok.2 s).0) m.ensures.kinds c.get_str.ensures c.get_str-in-Some.ensures in
    rw c.in-Some.is at all

pub returns-in-Ok-try_get_matches_from_mut : goal.returns-in-Ok-try_get_matches_from_mut
returns-in-Ok-try_get_matches_from_mut c =
    let m = c.in-Ok-try_get_matches_from_mut in
    let all = parsed _ (app_of c.in-Ok.command) (found_of m.matches) _ _ c.requires c.in-Ok.ensures
    (λ s. (m.ensures.ok.2 s).0) m.ensures.kinds c.get_str.ensures refl in
    rw c.in-None.is at all

pub returns : goal.returns
returns c = refused _ (app_of c.in-Ok.command) c.in-Err.error c.requires c.in-Ok.ensures c.in-Err.ensures.kinds (search rules)
