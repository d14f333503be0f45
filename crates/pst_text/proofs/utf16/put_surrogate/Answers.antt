use Rattle.std.proofs.Common.{◌≤◌, ◌<◌, refl, arith, inl, inr}
use Rattle.pst_text.proofs.UnitLemmas.{second_put, last_unit_put, first_put, pair_put}
use Rattle.pst_text.proofs.utf16.put_surrogate.Goals as goal
use Rattle.pst_text.proofs.utf16.put_surrogate.Goals.{then-unit-lt-SECOND+then-bytes-at-ge4+else-low-ge-SECOND, else-low-ge-SECOND-via-then-low-ge-SECOND+else-low-lt-BEHIND, else-low-ge-SECOND-via-else-low-ge-SECOND, else-unit-lt-SECOND, else-unit-lt-SECOND-via-then-unit-lt-SECOND+else-bytes-at-ge4, else-unit-lt-SECOND-via-else-unit-lt-SECOND}

pub returns-then-low-lt-BEHIND-clause-put : goal.returns-then-low-lt-BEHIND-clause-put
returns-then-low-lt-BEHIND-clause-put c =
    pair_put c.args.bytes.now c.args.at c.unit_at-unit.result c.unit_at-low.result _ _ _ (omega arith) c.unit_at-unit.ensures c.unit_at-low.ensures
    (rw c.unit_at-unit.ensures c.requires.least) c.if-unit-lt-SECOND.true c.if-low-ge-SECOND.true c.if-low-lt-BEHIND.true c.put_four.ensures.put refl

pub returns-clause-put : goal.returns-clause-put
returns-clause-put c =
    let bytes = c.args.bytes.now in
    let at = c.args.at in
    let unit = c.unit_at-unit in
    let from : 0xD800 ≤ unit.result = rw unit.ensures c.requires.least in
    let to : unit.result < 0xE000 = rw unit.ensures c.requires.most in
    let put = c.put_three.ensures.put in
    elim c.if-unit-lt-SECOND.branch [
      | then-unit-lt-SECOND+then-bytes-at-ge4+else-low-ge-SECOND w ↦
          elim w.else-low-ge-SECOND.branch [
            | else-low-ge-SECOND-via-then-low-ge-SECOND+else-low-lt-BEHIND w' ↦
                first_put bytes at unit.result w.unit_at-low.result _ _ _ (omega arith) unit.ensures w.unit_at-low.ensures from w.if-unit-lt-SECOND.true (inr w'.if-low-lt-BEHIND.false) put refl
            | else-low-ge-SECOND-via-else-low-ge-SECOND w' ↦
                first_put bytes at unit.result w.unit_at-low.result _ _ _ (omega arith) unit.ensures w.unit_at-low.ensures from w.if-unit-lt-SECOND.true (inl w'.if-low-ge-SECOND.false) put refl
          ]
      | else-unit-lt-SECOND w ↦
          elim w.else-unit-lt-SECOND.branch [
            | else-unit-lt-SECOND-via-then-unit-lt-SECOND+else-bytes-at-ge4 w' ↦ last_unit_put bytes at unit.result _ _ _ c.requires.within (omega arith) unit.ensures from to put refl
            | else-unit-lt-SECOND-via-else-unit-lt-SECOND w' ↦ second_put bytes at unit.result _ _ _ c.requires.within unit.ensures w'.if-unit-lt-SECOND.false to put refl
          ]
    ]
