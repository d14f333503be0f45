use Rattle.std.proofs.Common.{◌≡◌, ℕ, ◌/◌, List, length, ap, arith}
use Rattle.pst_names.specs.Index.{is_noted, HasNoted}
use Rattle.pst_names.specs.Known.{AreAll, IsGoodRun, AreRunsTrue}
use Rattle.pst_names.specs.Rest.{rest_file}
use Rattle.pst_names.proofs.IndexLemmas.{noted_again, runs_stay}
use Rattle.pst_names.proofs.RunLemmas.{run_of, known_run}
use Rattle.pst_names.proofs.index.put_front.Goals as goal

pub returns-then-knows-clause-noted : goal.returns-then-knows-clause-noted
returns-then-knows-clause-noted c =
    let r = c.args.rest.now in
    let i = c.args.index.now in
    let count = length c.front-front.result.now / 8 in
    let whole : count ≡ length r.front.now / 8 = ap (λ (bs : List ℕ). length bs / 8) c.front-front.ensures.bytes in
    let all : AreAll (is_noted i) r.front.now = known_run (is_noted i) (rest_file r) r.front.now r.at count c.args.runs.now r.own whole c.requires.known (rw c.at-at.ensures at (c.knows.ensures c.if-knows.true)) in
    noted_again i r.front.now (length r.front.now / 8) (λ j lt. all j (omega (arith, lt)))

pub returns-clause-known : goal.returns-clause-known
returns-clause-known c =
    let r = c.args.rest.now in
    let old = c.args.index.now in
    let new = c.put_all.new.self in
    let count = length c.front-front.result.now / 8 in
    let whole : count ≡ length r.front.now / 8 = ap (λ (bs : List ℕ). length bs / 8) c.front-front.ensures.bytes in
    let noted : HasNoted old new r.front.now (length r.front.now / 8) = rw c.front-front.ensures.bytes at c.in_ok-put_all.ensures in
    let all : AreAll (is_noted new) r.front.now = λ j le. noted.there j (omega (arith, le)) in
    let run : IsGoodRun (is_noted new) (rest_file r) r.at count = run_of (is_noted new) (rest_file r) r.front.now r.at count r.own whole all in
    let before : AreRunsTrue (is_noted new) (rest_file r) c.args.runs.now = runs_stay old new (rest_file r) c.args.runs.now noted.keeps c.requires.known in
    c.in_ok-put.ensures (is_noted new) (rest_file r) (rw c.at-at.ensures run) before
