use Rattle.std.proofs.Common.{◌≡◌, ap, ◌∙◌}
use Rattle.std.specs.Option.{option_or}
use Rattle.pst_names.specs.Entry.{entry_in, name_entry_bytes}
use Rattle.pst_names.specs.Index.{fields_in, noted, if_names}
use Rattle.pst_names.proofs.IndexLemmas.{fields_are, none_noted, more_noted}
use Rattle.pst_names.proofs.index.NameIndex.put_all.Goals as goal

pub loop-i-init : goal.loop-i-init
loop-i-init c = none_noted c.args.self.now c.args.bytes.now

pub loop-i-preserved : goal.loop-i-preserved
loop-i-preserved c =
    let bytes = name_entry_bytes c.args.bytes.now c.loop-i.i in
    let fields : c.of.result ≡ fields_in (entry_in 0 bytes) = fields_are c.of.result 0 bytes c.of.ensures.id c.of.ensures.word c.of.ensures.index in
    more_noted c.args.self.now c.loop-i.self c.put.new.self c.args.bytes.now c.loop-i.i c.loop-i.invariant (λ id. c.in_ok-put.ensures id ∙ ap (λ f. option_or (noted c.loop-i.self id) (if_names f id)) fields)
