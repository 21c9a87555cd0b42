-- Numbers that are there only once.
use Rattle.std.specs.Prelude.{ℕ, List}
use Rattle.std.specs.List.{IsDistinct}
use Rattle.std.specs.Ordering.{eq_by_cmp, nat_cmp}

-- no number is there twice
abbrev pub AreDistinct : List ℕ → Type 0
AreDistinct numbers = IsDistinct (eq_by_cmp nat_cmp) numbers
