use Rattle.std.proofs.Common.{◌≡◌, ℕ, ◌/◌, List, length, ap}
use Rattle.pst_names.specs.Known.{allows, AreAllowed, IsGoodRun}
use Rattle.pst_names.specs.Rest.{rest_file}
use Rattle.pst_names.specs.Strings.{rule_guids, rule_strings}
use Rattle.pst_names.proofs.RunLemmas.{run_of, known_run}
use Rattle.pst_names.proofs.check.bad_in_front.Goals as goal

pub returns-then-knows-clause-first : goal.returns-then-knows-clause-first
returns-then-knows-clause-first c =
    let r = c.args.rest.now in
    let count = length c.front-front.result.now / 8 in
    let whole : count ≡ length r.front.now / 8 = ap (λ (bs : List ℕ). length bs / 8) c.front-front.ensures.bytes in
    known_run (allows (rule_guids c.args.rules.now) (rule_strings c.args.rules.now)) (rest_file r) r.front.now r.at count c.args.runs.now r.own whole c.requires.known (rw c.at.ensures at (c.knows.ensures c.if-knows.true))

pub returns-in_err-put-in-None-clause-known : goal.returns-in_err-put-in-None-clause-known
returns-in_err-put-in-None-clause-known c =
    let r = c.args.rest.now in
    let g = rule_guids c.args.rules.now in
    let s = rule_strings c.args.rules.now in
    let count = length c.front-front.result.now / 8 in
    let whole : count ≡ length r.front.now / 8 = ap (λ (bs : List ℕ). length bs / 8) c.front-front.ensures.bytes in
    let good : AreAllowed g s r.front.now = rw c.front-front.ensures.bytes at c.in-None.ensures in
    let run : IsGoodRun (allows g s) (rest_file r) r.at count = run_of (allows g s) (rest_file r) r.front.now r.at count r.own whole good in
    c.in_err-put-in-None.ensures (allows g s) (rest_file r) (rw c.at-in-None.ensures run) c.requires.known

pub returns-in_ok-put-in-None-clause-known : goal.returns-in_ok-put-in-None-clause-known
returns-in_ok-put-in-None-clause-known c =
    let r = c.args.rest.now in
    let g = rule_guids c.args.rules.now in
    let s = rule_strings c.args.rules.now in
    let count = length c.front-front.result.now / 8 in
    let whole : count ≡ length r.front.now / 8 = ap (λ (bs : List ℕ). length bs / 8) c.front-front.ensures.bytes in
    let good : AreAllowed g s r.front.now = rw c.front-front.ensures.bytes at c.in-None.ensures in
    let run : IsGoodRun (allows g s) (rest_file r) r.at count = run_of (allows g s) (rest_file r) r.front.now r.at count r.own whole good in
    c.in_ok-put-in-None.ensures (allows g s) (rest_file r) (rw c.at-in-None.ensures run) c.requires.known
