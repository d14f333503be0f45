-- Nothing is forgotten, and what is counted is named.
use Rattle.std.proofs.Common.{◌≡◌, ℕ, ◌+◌, ◌-◌, ◌^◌, List, arith}
use Rattle.std.specs.Prelude.{min}
use Rattle.pst_page.specs.declared.entry.NodeEntry.{NodeEntry}
use Rattle.pst_block.specs.Table.{Table}
use Rattle.pst_msg.specs.declared.known.KnownParts.{KnownParts}
use Rattle.pst_ndb.specs.Counts.{capped}
use Rattle.pst_msg.specs.Growth.{Grows}

-- ---- steps one after another

pub grows_same : (t : Table) (H : List NodeEntry → Type 0) (a : KnownParts) → Grows t H a a
grows_same t H a = record {
  contexts = λ q is. is;
  messages = λ q is. is;
  attachments = λ q is. is;
  lists = λ q is. is;
  risen = omega arith;
  counted = λ start is. is;
  named = λ nodes held are. are;
}

pub grows_then : (t : Table) (H : List NodeEntry → Type 0) (a b c : KnownParts) → Grows t H a b → Grows t H b c → Grows t H a c
grows_then t H a b c g h = record {
  contexts = λ q is. h.contexts q (g.contexts q is);
  messages = λ q is. h.messages q (g.messages q is);
  attachments = λ q is. h.attachments q (g.attachments q is);
  lists = λ q is. h.lists q (g.lists q is);
  risen = omega (arith, g.risen, h.risen);
  counted = λ start is. h.counted start (g.counted start is);
  named = λ nodes held are. h.named nodes held (g.named nodes held are);
}

pub grows_of : (t : Table) (H K : List NodeEntry → Type 0) (a b : KnownParts) → ((nodes : List NodeEntry) → K nodes → H nodes) → Grows t H a b → Grows t K a b
grows_of t H K a b of g = record {
  contexts = g.contexts;
  messages = g.messages;
  attachments = g.attachments;
  lists = g.lists;
  risen = g.risen;
  counted = g.counted;
  named = λ nodes held are. g.named nodes (of nodes held) are;
}

-- ---- one more

-- the count of one more
pub one_more : (a b count : ℕ) → count ≡ capped a → b ≡ a + 1 → min (count + 1) (2 ^ 64 - 1) ≡ capped b
one_more a b count e more = omega (arith, e, more)
