use Rattle.std.proofs.Common.{sym, ap, subst, ◌∙◌}
use Rattle.clap.specs.Words.{found_of, rows_of}
use Rattle.pst_ask.specs.Ask.{Reads, asked_with, order_of}
use Rattle.pst_ask.proofs.WordLemmas.{order_is}
use Rattle.pst_ask.proofs.ask.order_in.Goals as goal

pub returns-in_default-named : goal.returns-in_default-named
returns-in_default-named c =
    let e = c.in-Some.ensures in
    order_is c.args.matches.now c.in-Some.found.now c.in-Some.name.now e.name e.rows
    ∙ ap (λ v. asked_with v (rows_of (found_of c.in-Some.found.now))) (sym c.in_default-named.ensures)

pub returns : goal.returns
returns c =
    let e = c.in-Some.ensures in
    let asked = ap (λ v. asked_with v (rows_of (found_of c.in-Some.found.now))) c.in-Some-named.ensures
    ∙ sym (order_is c.args.matches.now c.in-Some.found.now c.in-Some.name.now e.name e.rows) in
    subst (λ a. Reads order_of c.order_by.result a) asked c.order_by.ensures
