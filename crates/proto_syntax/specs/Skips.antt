-- How many tokens an opening brace lets the reader skip. The braces of a text are matched once, and where a body is
-- cut into items, what stands between the braces of an item is skipped.
use Rattle.std.specs.Prelude.{◌≡◌, ℕ, ◌+◌, ◌<◌, ◌≤◌, IsTrue, List, length, take, drop, count_by, slice_index}
use Rattle.proto_tree.specs.declared.lexeme.Lexeme.{Lexeme}
use Rattle.proto_tree.specs.declared.lexeme.Terminal.TheVariants as w
use Rattle.proto_tree.specs.Lexeme.{is}
use Rattle.proto_tree.specs.Cut.{begins}

-- how many of the tokens are opening braces, and how many closing ones
abbrev pub opened : List Lexeme → ℕ
opened ts = count_by (is w.OpenBrace) ts

abbrev pub closed : List Lexeme → ℕ
closed ts = count_by (is w.CloseBrace) ts

-- The first n of these tokens stand inside the brace that begins them: no front of them has its braces in pairs.
-- Where tokens follow, all but that first brace have their closing one.
pub record IsSkip (ts : List Lexeme) (n : ℕ) : Type 0 where
  pub some : 0 < n
  pub inside : (m : ℕ) → 0 < m → m ≤ n → m ≤ length ts → closed (take m ts) < opened (take m ts)
  pub one_deep : n < length ts → opened (take n ts) ≡ closed (take n ts) + 1

-- what is known of the first tokens: at an opening brace, how many tokens may be skipped from there on
abbrev pub AreSkips : List Lexeme → List ℕ → Type 0
AreSkips ts ns = (length ns ≤ length ts) × ((k : ℕ) → k < length ns → IsTrue (begins w.OpenBrace (drop k ts)) → IsSkip (drop k ts) (slice_index ns k))
