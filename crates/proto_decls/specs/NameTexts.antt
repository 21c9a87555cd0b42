-- What a name's text is.
use Rattle.std.specs.Prelude.{ℕ, List, string_bytes}
use Rattle.proto_decls.specs.declared.name.NameText.{NameText}
use Rattle.proto_decls.specs.declared.name.NameText.TheVariants.{Short, Long}

-- the bytes, wherever they lie
abbrev pub bytes_of : NameText → List ℕ
bytes_of (Short text) = text.bytes
bytes_of (Long text) = string_bytes text
