use Rattle.std.proofs.Common.{arith}
use Rattle.pst_bytes.specs.Image.{bytes_of}
use Rattle.pst_tc.proofs.InfoLemmas.{sound_room}
use Rattle.pst_tc.proofs.info.column_count.Goals as goal

pub number8-requires : goal.number8-requires
number8-requires c = omega (arith, c.requires.inside, sound_room (bytes_of c.args.image) c.args.info c.requires.sound)
