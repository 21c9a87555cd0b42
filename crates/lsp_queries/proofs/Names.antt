-- The names of a tree stand apart: those that are declared, and the components of types.
use Rattle.std.proofs.Common.{◌≡◌, ◌⊎◌, inl, inr, ℕ, ◌<◌, Bool, true, false, cond, List, [], ◌++◌, length, get_or, ap, arith}
use Rattle.std.specs.Prelude.{All, Contains, nat_lt, ◌≢◌}
use Rattle.std.specs.List.{AllPairs}
use Rattle.std.proofs.lemmas.List.Sorted.{All-permutation}
use Rattle.proto_tree.specs.declared.node.FileTree.{FileTree}
use Rattle.proto_tree.specs.declared.node.Node.{Node}
use Rattle.proto_tree.specs.declared.node.Span.{Span}
use Rattle.proto_tree.specs.Names.{names_in, type_components_in, package_components_in}
use Rattle.proto_tree.specs.Others.{other_tree}
use Rattle.proto_tree.specs.Read.{read, value_tree}
use Rattle.proto_laws.specs.Apart.{NamesAreApart}
use Rattle.proto_laws.proofs.Nesting.{all_left, all_right}
use Rattle.work_index.specs.Workspace.{Source}
use Rattle.lsp_queries.proofs.NamedTree.{by_tree, named_tree}
use Rattle.lsp_queries.proofs.Pairs.{both_in, pairs-across, pairs-left, pairs-permuted, pairs-right, pairs-with}

-- it has a byte or more
abbrev pub IsSome : Span → Type 0
IsSome s = s.start < s.«end»

-- one of the two ends before the other starts
abbrev pub AreDisjoint : Span → Span → Type 0
AreDisjoint s u = (s.«end» < u.start) ⊎ (u.«end» < s.start)

turned : (s u : Span) → AreDisjoint s u → AreDisjoint u s
turned s u (inl lt) = inr lt
turned s u (inr lt) = inl lt

pub record StandApart (nodes : List Node) : Type 0 where
  pub names : All IsSome (names_in nodes)
  pub types : All IsSome (type_components_in nodes)
  pub across : All (λ s. All (AreDisjoint s) (type_components_in nodes)) (names_in nodes)
  pub among : AllPairs AreDisjoint (type_components_in nodes)
  pub names_among : AllPairs AreDisjoint (names_in nodes)
  pub packages_among : AllPairs AreDisjoint (package_components_in nodes)
  pub names_beside : All (λ s. All (AreDisjoint s) (package_components_in nodes)) (names_in nodes)
  pub types_beside : All (λ s. All (AreDisjoint s) (package_components_in nodes)) (type_components_in nodes)

stand-apart : (nodes : List Node) → NamesAreApart nodes → StandApart nodes
stand-apart nodes h =
    let names = names_in nodes in
    let types = type_components_in nodes in
    let packages = package_components_in nodes in
    let some = All-permutation IsSome h.all (names ++ (types ++ packages)) h.same h.some in
    let first = pairs-with (λ a b. a.«end» < b.start) AreDisjoint IsSome (λ a b p q lt. inl lt) h.all h.some h.apart in
    let pairs = pairs-permuted AreDisjoint turned h.all (names ++ (types ++ packages)) h.same first in
    let across = pairs-across AreDisjoint names (types ++ packages) pairs in
    let others = pairs-right AreDisjoint names (types ++ packages) pairs in record {
      names = all_left IsSome names (types ++ packages) some;
      types = all_left IsSome types packages (all_right IsSome names (types ++ packages) some);
      across = λ k d lt. all_left (AreDisjoint (get_or names k d)) types packages (across k d lt);
      among = pairs-left AreDisjoint types packages others;
      names_among = pairs-left AreDisjoint names (types ++ packages) pairs;
      packages_among = pairs-right AreDisjoint types packages others;
      names_beside = λ k d lt. all_right (AreDisjoint (get_or names k d)) types packages (across k d lt);
      types_beside = pairs-across AreDisjoint types packages others;
    }

-- the tree that counts is that of the text, or that of the empty one
value-stands_apart : ((text : List ℕ) → NamesAreApart (read text).nodes) → (text : List ℕ) → StandApart (value_tree text).nodes
unfolding value_tree
value-stands_apart each text = by (nat_lt 16777216 (length text))
  where
    by : (b : Bool) → StandApart (cond {A = FileTree} b (read []) (read text)).nodes
    by true = stand-apart (read []).nodes (each [])
    by false = stand-apart (read text).nodes (each text)

-- so it is with the tree of a source
pub named-stands_apart : ((text : List ℕ) → NamesAreApart (read text).nodes) → ((text : List ℕ) → NamesAreApart (other_tree text).nodes) → (s : Source) → StandApart (named_tree s).nodes
named-stands_apart each others s = by_tree s (λ tree facts. StandApart tree.nodes) (let tree = other_tree s.text in stand-apart tree.nodes (others s.text)) (value-stands_apart each s.text)

-- of two components that start one behind the other the first ends before the second starts
pub components-apart : (nodes : List Node) → StandApart nodes → (s u : Span) → Contains (type_components_in nodes) s → Contains (type_components_in nodes) u
    → IsSome u → s.start < u.start → s.«end» < u.start
components-apart nodes h s u first second some lt = by (both_in AreDisjoint turned (type_components_in nodes) h.among s u differ first second)
  where
    differ : s ≢ u
    differ same = let starts : s.start ≡ u.start = ap (λ x. x.start) same in absurd (omega (arith, starts))

    by : AreDisjoint s u → s.«end» < u.start
    by (inl there) = there
    by (inr there) = absurd (omega (arith, there))
