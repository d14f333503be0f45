use Rattle.std.proofs.Common.{◌≡◌, true}
use Rattle.pst_heap.specs.PageMap.{has_page_map, has_room}
use Rattle.pst_heap.specs.Values.{block_of}
use Rattle.pst_heap.specs.View.{data_of}
use Rattle.pst_heap.proofs.HeapLemmas.{item_some, span_has_map, span_has_room}
use Rattle.pst_heap.proofs.heap.Heap.item_in.Goals as goal

pub known-requires-clause-room : goal.known-requires-clause-room
known-requires-clause-room c =
    let h = c.args.self.now in
    let room : has_room (data_of h).image c.args.span ≡ true = span_has_room (data_of h) (block_of c.args.hid) c.args.span h.sound c.requires.there in
    cc (room, c.image.ensures.bytes)

pub item-requires : goal.item-requires
item-requires c =
    let h = c.args.self.now in
    let map : has_page_map (data_of h).image c.args.span ≡ true = span_has_map (data_of h) (block_of c.args.hid) c.args.span h.sound c.requires.there in
    cc (map, c.known.ensures.image, c.known.ensures.span, c.image.ensures.bytes)

pub returns-clause-value : goal.returns-clause-value
returns-clause-value c =
    let h = c.args.self.now in
    cc (c.item.ensures.value, c.known.ensures.image, c.known.ensures.span, c.image.ensures.bytes, item_some (data_of h) c.args.hid c.args.span c.requires.there)
