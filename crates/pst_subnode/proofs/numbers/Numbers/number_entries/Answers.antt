use Rattle.pst_bytes.specs.Image.{bytes_of}
use Rattle.pst_subnode.proofs.NumberLemmas.{entry_numbered, keeps_more}
use Rattle.pst_subnode.proofs.numbers.Numbers.number_entries.Goals as goal

pub loop-i-preserved : goal.loop-i-preserved
loop-i-preserved c = record {
  have = rw c.in_ok-push.ensures.items (entry_numbered c.loop-i.self c.number.new.self (bytes_of c.args.body) c.loop-i.i c.nid_at.result c.in_ok-number.number c.loop-i.numbers.items c.nid_at.ensures c.in_ok-number.ensures.value c.number.ensures.keeps c.loop-i.invariant.have);
  keeps = keeps_more c.args.self.now c.loop-i.self c.number.new.self c.loop-i.invariant.keeps c.number.ensures.keeps;
}
