use Rattle.std.proofs.Common.{refl, arith}
use Rattle.pst_text.proofs.UnitLemmas.{one_put, low_put, high_put}
use Rattle.pst_text.proofs.utf16.put_at.Goals as goal
use Rattle.pst_text.proofs.utf16.put_at.Goals.{then-unit-lt-TWO, else-unit-lt-TWO+then-unit-lt-THREE, else-unit-lt-TWO+else-unit-lt-THREE+else-unit-ge-FIRST, else-unit-ge-FIRST-via-then-unit-ge-FIRST+else-unit-lt-BEHIND, else-unit-ge-FIRST-via-else-unit-ge-FIRST}

pub returns-clause-put : goal.returns-clause-put
returns-clause-put c =
    let bytes = c.args.bytes.now in
    let at = c.args.at in
    let unit = c.unit_at-unit in
    elim c.if-unit-lt-TWO.branch [
      | then-unit-lt-TWO w ↦ rw w.text-is (low_put bytes at unit.result _ _ _ c.requires.within unit.ensures (omega (arith, w.if-unit-lt-TWO.true)) (one_put unit.result _ _ w.if-unit-lt-TWO.true w.put_escape_reserved.ensures.put) refl)
      | else-unit-lt-TWO+then-unit-lt-THREE w ↦ rw w.text-is (low_put bytes at unit.result _ _ _ c.requires.within unit.ensures (omega (arith, w.if-unit-lt-THREE.true)) w.put_two.ensures.put refl)
      | else-unit-lt-TWO+else-unit-lt-THREE+else-unit-ge-FIRST w ↦
          rw w.text-is
          (elim w.else-unit-ge-FIRST.branch [
            | else-unit-ge-FIRST-via-then-unit-ge-FIRST+else-unit-lt-BEHIND w' ↦ high_put bytes at unit.result _ _ _ c.requires.within unit.ensures w'.if-unit-lt-BEHIND.false w.put_three.ensures.put refl
            | else-unit-ge-FIRST-via-else-unit-ge-FIRST w' ↦ low_put bytes at unit.result _ _ _ c.requires.within unit.ensures w'.if-unit-ge-FIRST.false w.put_three.ensures.put refl
          ])
    ]
