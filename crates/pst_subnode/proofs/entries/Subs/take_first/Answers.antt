use Rattle.pst_bytes.specs.Image.{bytes_of}
use Rattle.pst_subnode.specs.Body.{sub_in}
use Rattle.pst_subnode.proofs.LeftLemmas.{next_left}
use Rattle.pst_subnode.proofs.entries.Subs.take_first.Goals as goal

pub returns : goal.returns
returns c =
    let subs = c.args.self.now in
    let after = c.behind-self.ensures in
    rw (c.sub_at-sub.ensures, after.body) (next_left (sub_in (bytes_of subs.entries.body)) _ _ _ _ _ _ _ after.next after.left)
