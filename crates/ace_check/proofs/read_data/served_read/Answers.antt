use Rattle.std.proofs.Common.{◌≡◌, true, false, None, Some, option_map, sym, ap, ◌∙◌}
use Rattle.ace_check.proofs.Terms.{option_copied, Read, outstanding, read_kind, progress_of}
use Rattle.ace_model.proofs.Trace.IssuedTransactions.{outstanding-read}
use Rattle.ace_sysck.proofs.Steps.{progress_from}
use Rattle.ace_check.proofs.ReadLaws.{transfer-ports-first}
use Rattle.ace_check.proofs.WhatComes.{no-progress}
use Rattle.ace_check.proofs.read_data.served_read.Goals as goal

pub returns-in_default-clause-broken : goal.returns-in_default-clause-broken
returns-in_default-clause-broken c = λ r word s.
    let a = c.args in
    let there : option_map (progress_of r.header r.past) (outstanding r.header r.past a.port Read a.id) ≡ None = sym (c.outstanding.ensures r s) ∙ ap option_copied c.in_default.is in
    let none = no-progress r.header r.past (outstanding r.header r.past a.port Read a.id) there in
    transfer-ports-first r.header r.past a.port a.id a.resp a.last word c.rule_of_no_r.result (c.rule_of_no_r.ensures r a.id a.last word s none)

pub returns-in_default-read_kind-clause-broken : goal.returns-in_default-read_kind-clause-broken
returns-in_default-read_kind-clause-broken c = λ r word s.
    let a = c.args in
    let x = c.in-Some.x.now in
    let served : option_map (progress_of r.header r.past) (outstanding r.header r.past a.port Read a.id) ≡ Some x = sym (c.outstanding.ensures r s) ∙ ap option_copied c.in-Some.is in
    let out = progress_from r.header r.past (outstanding r.header r.past a.port Read a.id) x served in
    let known = outstanding-read r.header r.past a.port a.id x.transaction s.accepted out in
    let none : read_kind x.transaction ≡ None = sym c.read_kind.ensures ∙ c.in_default-read_kind.is in
    let bad : false ≡ true = rw none at known in cc

pub returns-in-None-clause-found : goal.returns-in-None-clause-found
returns-in-None-clause-found c = λ r word s.
    let a = c.args in
    let x = c.in-Some.x.now in
    let served : option_map (progress_of r.header r.past) (outstanding r.header r.past a.port Read a.id) ≡ Some x = sym (c.outstanding.ensures r s) ∙ ap option_copied c.in-Some.is in
    let kind : read_kind x.transaction ≡ Some c.in-Some-read_kind.kind = sym c.read_kind.ensures ∙ c.in-Some-read_kind.is in
    record { served = served; kind = kind; kept = sym (c.rule_of_r.ensures r a.id word s served kind) ∙ c.in-None.is }

pub returns-in-Some-rule_of_r-clause-broken : goal.returns-in-Some-rule_of_r-clause-broken
returns-in-Some-rule_of_r-clause-broken c = λ r word s.
    let a = c.args in
    let x = c.in-Some.x.now in
    let served : option_map (progress_of r.header r.past) (outstanding r.header r.past a.port Read a.id) ≡ Some x = sym (c.outstanding.ensures r s) ∙ ap option_copied c.in-Some.is in
    let kind : read_kind x.transaction ≡ Some c.in-Some-read_kind.kind = sym c.read_kind.ensures ∙ c.in-Some-read_kind.is in
    transfer-ports-first r.header r.past a.port a.id a.resp a.last word c.in-Some-rule_of_r.rule (sym c.in-Some-rule_of_r.is ∙ c.rule_of_r.ensures r a.id word s served kind)
