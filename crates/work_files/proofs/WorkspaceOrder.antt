-- The texts of a workspace ascend by path where its files do.
use Rattle.std.proofs.Common.{◌≡◌, ℕ, List, [], ◌∷◌, Option, Some, None, map, option_map, nat_cmp, Less}
use Rattle.std.specs.List.{cons_option}
use Rattle.std.specs.List.Sorted.{IsStrictlySortedBy}
use Rattle.std.specs.Cmp.Lexicographic.{slice_cmp}
use Rattle.std.specs.Map.{keys_of}
use Rattle.work_files.specs.Files.{Files, text_of, workspace, AreInPathOrder}
use Rattle.work_files.proofs.PathOrder.{AreBehind}

-- texts by path
abbrev pub Texts : Type 0
Texts = List (List ℕ × List ℕ)

abbrev pub paths_in : Texts → List (List ℕ)
paths_in texts = map (λ f. f.0) texts

abbrev pub TextsAscend : Texts → Type 0
TextsAscend texts = IsStrictlySortedBy (slice_cmp nat_cmp) (paths_in texts)

-- the texts with one more in front, if there is one
abbrev with_first : List ℕ → Option (List ℕ) → Texts → Texts
with_first path text texts = cons_option (option_map (λ t. (path, t)) text) texts

behind-with_first : (p path : List ℕ) (text : Option (List ℕ)) (texts : Texts) → slice_cmp nat_cmp p path ≡ Less → AreBehind p (paths_in texts) → AreBehind p (paths_in (with_first path text texts))
behind-with_first p path None texts less all = all
behind-with_first p path (Some t) texts less all = (less, all)

behind-workspace : (p : List ℕ) (files : Files) → AreBehind p (keys_of files) → AreBehind p (paths_in (workspace files))
behind-workspace p [] all = tt
behind-workspace p (e ∷ es) all = behind-with_first p e.0 (text_of e.1) (workspace es) all.0 (behind-workspace p es all.1)

ascend-with_first : (path : List ℕ) (text : Option (List ℕ)) (texts : Texts) → AreBehind path (paths_in texts) → TextsAscend texts → TextsAscend (with_first path text texts)
unfolding IsStrictlySortedBy
ascend-with_first path None texts behind rest = rest
ascend-with_first path (Some t) texts behind rest = (behind, rest)

pub ascend-texts : (files : Files) → AreInPathOrder files → TextsAscend (workspace files)
unfolding IsStrictlySortedBy
ascend-texts [] order = tt
ascend-texts (e ∷ es) order = ascend-with_first e.0 (text_of e.1) (workspace es) (behind-workspace e.0 es order.0) (ascend-texts es order.1)
