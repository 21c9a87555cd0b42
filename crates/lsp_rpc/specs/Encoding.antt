-- The names of the position encodings: Language Server Protocol 3.17, "PositionEncodingKind".
use Rattle.std.specs.Prelude.{ℕ, List, [], ◌∷◌, Option, codes, bytes_eq}
use Rattle.std.specs.List.{find}
use Rattle.doc_text.specs.declared.encoding.Encoding.{Encoding}
use Rattle.doc_text.specs.declared.encoding.Encoding.TheVariants.{Utf16, Utf8, Utf32}

abbrev pub encoding_name : Encoding → List ℕ
encoding_name Utf16 = codes "utf-16"
encoding_name Utf8 = codes "utf-8"
encoding_name Utf32 = codes "utf-32"

-- the encoding with this very name
abbrev pub encoding_named : List ℕ → Option Encoding
encoding_named name = find (λ e. bytes_eq name (encoding_name e)) (Utf16 ∷ Utf8 ∷ Utf32 ∷ [])
