use Rattle.pst_bytes.specs.Image.{bytes_of}
use Rattle.pst_amap.proofs.OldLemmas.{marked_start}
use Rattle.pst_amap.proofs.old.are_marked.Goals as goal

pub loop-i-init : goal.loop-i-init
loop-i-init c = marked_start c.args.order (bytes_of c.args.image) c.args.unit c.args.count
