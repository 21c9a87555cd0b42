-- The files from one on, with their numbers.
use Rattle.std.proofs.Common.{◌≡◌, ◌<◌, ◌≤◌, ◌+◌, ℕ, List, [], ◌∷◌, length, get_or, drop, ap, add-one, drop-cons}
use Rattle.std.specs.List.{enumerate_from}
use Rattle.std.proofs.lemmas.List.{drop_all}

module _ (paths : List (List ℕ)) (n : ℕ) where
  pub next_file : n < length paths → enumerate_from n (drop n paths) ≡ (n, get_or paths n []) ∷ enumerate_from (n + 1) (drop (n + 1) paths)
  next_file there =
      let split : drop n paths ≡ get_or paths n [] ∷ drop (n + 1) paths = rw (add-one n) (drop-cons paths n [] there) in
      ap (enumerate_from n) split

  pub no_more : length paths ≤ n → enumerate_from n (drop n paths) ≡ []
  no_more past = ap (enumerate_from n) (drop_all n paths past)
