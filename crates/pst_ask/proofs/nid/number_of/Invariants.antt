use Rattle.std.proofs.Common.{◌≡◌, ◌<◌, ◌*◌, ◌^◌, drop}
use Rattle.std.specs.List.{list_all}
use Rattle.std.specs.Str.Parse.{digits_value, digits_value_after}
use Rattle.pst_ask.specs.Nid.{is_hex}
use Rattle.pst_ask.proofs.nid.number_of.Given as goal

-- the number of the digits so far, and what is left
abbrev pub invariant-loop-digit : goal.invariant-loop-digit
invariant-loop-digit l = record {
  low : l.number < 2 ^ (4 * l.digit-index);
  number : digits_value_after 16 l.number (drop l.digit-index l.digits) ≡ digits_value 16 l.digits;
  good : list_all is_hex (drop l.digit-index l.digits) ≡ list_all is_hex l.digits;
}
