-- How contracts see a text that its owners share.
use Rattle.std.specs.Prelude.{ℕ, List, string_bytes}
use Rattle.piece_collector.specs.declared.text.Owners.{Owners}
use Rattle.piece_collector.specs.declared.text.Owners.TheVariants.{One, Several}

-- the bytes of a text, whoever has it
abbrev pub text_of : Owners → List ℕ
text_of (One text) = string_bytes text
text_of (Several text) = string_bytes text.value
