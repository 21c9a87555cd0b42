-- Lists of stretches of a text.
use Rattle.std.specs.Prelude.{List, [], ◌∷◌}
use Rattle.proto_tree.specs.declared.node.Span.{Span}
use Rattle.proto_tree.specs.declared.spans.SpanList.{SpanList}
use Rattle.proto_tree.specs.declared.spans.SpanList.TheVariants.{One, Many}

-- the stretches, wherever they lie
abbrev pub spans_of : SpanList → List Span
spans_of (One span) = span ∷ []
spans_of (Many list) = list
