use Rattle.std.proofs.Common.{refl}
use Rattle.pst_bytes.specs.Image.{bytes_of}
use Rattle.pst_remains.proofs.RemainsLemmas.{nothing_is}
use Rattle.pst_remains.proofs.find.nothing_mapped.Goals as goal

pub returns-clause-exact : goal.returns-clause-exact
returns-clause-exact c =
    nothing_is (bytes_of c.args.image) _ _ _ _ _ _ _ c.args.header.now _ _ c.requires.maps c.requires.header c.within-first.ensures c.within-fault.ensures c.header_damage-header_fault.ensures refl
    c.in_ok-pages.ensures.items c.new.ensures.items c.new-2.ensures.items c.new-3.ensures.items c.in_ok-broken.ensures.items
