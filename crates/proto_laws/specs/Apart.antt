-- Names stand apart.
use Rattle.std.specs.Prelude.{◌<◌, List, ◌++◌, All}
use Rattle.std.specs.List.{AllPairs}
use Rattle.std.specs.List.Sorted.{IsPermutation}
use Rattle.proto_tree.specs.declared.node.Node.{Node}
use Rattle.proto_tree.specs.declared.node.Span.{Span}
use Rattle.proto_tree.specs.Names.{names_in, type_components_in, package_components_in}

-- The names that the statements declare and the components of types and of packages, put in one list: each has a byte or more,
-- and ends before each later one starts, with a byte at least between the two. So the list is in the order of their offsets,
-- and none of them is there twice.
pub record NamesAreApart (nodes : List Node) : Type 0 where
  pub all : List Span
  pub same : IsPermutation all (names_in nodes ++ (type_components_in nodes ++ package_components_in nodes))
  pub some : All (λ s. s.start < s.«end») all
  pub apart : AllPairs (λ a b. a.«end» < b.start) all
