use Rattle.std.proofs.Common.{◌≡◌, length, refl}
use Rattle.std.specs.List.{All}
use Rattle.std.proofs.lemmas.List.Elements.{All-get_or}
use Rattle.pst_plain.specs.Blocks.{EndsBy}
use Rattle.pst_plain.specs.Twin.{with_method, data_decoded}
use Rattle.pst_remains.proofs.DecodedLemmas.{found_decoded, found_ends, found_over, plain_bytes}
use Rattle.pst_remains.proofs.decoded.find_decoded.Goals as goal

pub decode_data-requires : goal.decode_data-requires
decode_data-requires c =
    let all : All (EndsBy (length c.look_plain.new.file)) c.deref.result.now =
    rw (c.deref.ensures.value, c.in_ok-found.ensures.plain) (found_ends (with_method 0 c.args.file.now) c.in_ok-found.found c.in_ok-found.ensures.exact) in
    record { inside = λ k d lt. All-get_or (EndsBy (length c.look_plain.new.file)) c.deref.result.now k d lt all }

pub returns-clause-exact : goal.returns-clause-exact
returns-clause-exact c =
    let J = with_method 0 c.args.file.now in
    let made : c.decode_data.new.file ≡ data_decoded c.args.method c.in_ok-found.found.good.items J = rw (c.in_ok-codec.ensures.method, c.deref.ensures.value, c.in_ok-found.ensures.plain) at c.decode_data.ensures.file in
    found_decoded c.args.file.now J c.decode_data.new.file c.in_ok-found.found c.args.method refl c.in_ok-found.ensures.exact made

pub returns-clause-over : goal.returns-clause-over
returns-clause-over c =
    let J = with_method 0 c.args.file.now in
    let made : c.decode_data.new.file ≡ data_decoded c.args.method c.in_ok-found.found.good.items J = rw (c.in_ok-codec.ensures.method, c.deref.ensures.value, c.in_ok-found.ensures.plain) at c.decode_data.ensures.file in
    found_over J c.decode_data.new.file c.in_ok-found.found c.args.method (plain_bytes c.args.file.now c.args.method c.are_bytes.ensures c.requires.method) c.in_ok-found.ensures.exact made
