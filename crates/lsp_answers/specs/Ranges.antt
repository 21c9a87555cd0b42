-- Parts of a text, as the editor gets them.
use Rattle.std.specs.Prelude.{ℕ, List, [], ◌∷◌}
use Rattle.std.specs.List.{flat_map}
use Rattle.doc_text.specs.Positions.{position_of}
use Rattle.doc_text.specs.declared.encoding.Encoding.{Encoding}
use Rattle.doc_text.specs.declared.position.Position.{Position}
use Rattle.doc_text.specs.declared.position.Range.{Range}

-- the part of a text from one offset to another, in lines and units of the encoding
abbrev pub range_of : Encoding → List ℕ → ℕ → ℕ → Range
range_of encoding text from to = record { start = position_of encoding text from; «end» = position_of encoding text to }

-- the same, by a pair of offsets
abbrev pub range_at : Encoding → List ℕ → ℕ × ℕ → Range
range_at encoding text part = range_of encoding text part.0 part.1

-- ---- for private clauses

-- where parts start and end, in turn
abbrev pub ends_of : List (ℕ × ℕ) → List ℕ
ends_of parts = flat_map (λ part. part.0 ∷ part.1 ∷ []) parts

-- the ranges from each first to each second of positions that come in pairs
abbrev pub paired : List Position → List Range
paired [] = []
paired (from ∷ []) = []
paired (from ∷ to ∷ more) = record { start = from; «end» = to } ∷ paired more
