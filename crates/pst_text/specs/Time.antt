-- Times as text, and numbers, where their bytes are as they should be.
use Rattle.std.specs.Prelude.{ℕ, ℤ, Option, Some, None, List}
use Rattle.serde_json.specs.Data.{Data, null, string}
use Rattle.pst_time.specs.Time.{time_text}
use Rattle.pst_value.specs.Read.{exactly, i32_of, u64_of}
use Rattle.pst_text.specs.Parts.{integer}

-- a text, or null
abbrev pub string_or_null : Option (List ℕ) → Data
string_or_null None = null
string_or_null (Some text) = string text

abbrev pub moment_or_null : Option ℕ → Data
moment_or_null None = null
moment_or_null (Some time) = string_or_null (time_text time)

-- the text of a time of 8 bytes (PtypTime); null where there are not so many, or it lies behind the year 9999
abbrev pub time_or_null : List ℕ → Data
time_or_null bytes = moment_or_null (exactly 8 u64_of bytes)

abbrev pub integer_or_null : Option ℤ → Data
integer_or_null None = null
integer_or_null (Some z) = integer z

-- a signed number of 4 bytes (PtypInteger32); null where there are not so many
abbrev pub i32_or_null : List ℕ → Data
i32_or_null bytes = integer_or_null (exactly 4 i32_of bytes)
