-- The header's document has no float.
use Rattle.std.proofs.Common.{◌≡◌, false, refl}
use Rattle.serde_json.specs.Written.{has_float}
use Rattle.pst_header.specs.declared.header.Header.{Header}
use Rattle.pst_json.specs.Head.{head_data}

pub head_has_none : (h : Header) → has_float (head_data h) ≡ false
unfolding head_data
head_has_none h = refl
