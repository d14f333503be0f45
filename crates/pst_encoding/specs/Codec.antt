-- By which method a codec works.
use Rattle.pst_encoding.specs.declared.codec.Codec.{Codec}
use Rattle.pst_encoding.specs.declared.codec.Codec.TheVariants as codec
use Rattle.pst_encoding.specs.declared.method.Method.{Method}
use Rattle.pst_encoding.specs.declared.method.Method.TheVariants as method

abbrev pub codec_method : Codec → Method
codec_method (codec.Permute pairs) = method.Permute
codec_method (codec.Cyclic turns) = method.Cyclic
