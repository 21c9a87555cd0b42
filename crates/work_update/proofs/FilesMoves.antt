-- The files of a workspace after one came or left, while all others stayed.
use Rattle.std.proofs.Common.{◌≡◌, ◌<◌, ◌≤◌, ◌+◌, ◌-◌, ℕ, Bool, List, Option, Some, inl, inr, length, get_or, arith, refl, sym, ap, ◌∙◌, subst}
use Rattle.std.specs.List.{insert, remove}
use Rattle.std.proofs.lemmas.Bool.{cases_eq, cases_lt}
use Rattle.std.proofs.lemmas.List.{ext_get_or, length-map, get_or-map}
use Rattle.std.proofs.lemmas.List.Edits.{get_or-insert_at, get_or-insert_below, get_or-insert_above, get_or-remove_below, get_or-remove_above, length-insert, length-remove}
use Rattle.proto_decls.specs.declared.named_facts.NamedFacts.{NamedFacts}
use Rattle.import_graph.specs.Moves.{place}
use Rattle.piece_collector.specs.Views.{TextAt}
use Rattle.work_index.proofs.Numbered.{piece_at, pieces_length}
use Rattle.work_index.specs.Pieces.{source_of, workspace_of}
use Rattle.work_index.specs.Workspace.{Workspace, all_facts, named_facts, no_file}
use Rattle.work_update.specs.FilesMoves.{HasCome, HasLeft, IsTableBefore}
use Rattle.work_update.specs.Stayed.{IsSameFile, Stay}

-- a list with one more element at the place of the file that came is another list, if the elements of the files that stayed are the same there
module _ {X : Type 0} (to : List (Option ℕ)) (before after : List X) (k : ℕ) (come : HasCome to (length before) (length after) k) (d : X)
    (same : (g n : ℕ) → place to g ≡ Some n → get_or before g d ≡ get_or after n d) where
  pub with_one_more : (one : X) → one ≡ get_or after k d → insert before k one ≡ after
  with_one_more one is =
      let counts : length after ≡ length before + 1 = come.count in
      let longer : length (insert before k one) ≡ length before + 1 = length-insert before k one come.within in
      ext_get_or d (insert before k one) after (omega (arith, counts, longer)) (λ n less. at n (omega (arith, less, counts, longer)))
    where
      below : (n : ℕ) → n < k → get_or (insert before k one) n d ≡ get_or after n d
      below n less = get_or-insert_below before k one d n less come.within ∙ same n n (come.front n less)

      here : (n : ℕ) → n ≡ k → get_or (insert before k one) n d ≡ get_or after n d
      here n equal = subst (λ m. get_or (insert before k one) m d ≡ get_or after m d) (sym equal) (get_or-insert_at before k one d come.within ∙ is)

      behind : (m : ℕ) → k ≤ m → m < length before → get_or (insert before k one) (m + 1) d ≡ get_or after (m + 1) d
      behind m far less = get_or-insert_above before k one d m far come.within ∙ same m (m + 1) (come.behind m far less)

      at : (n : ℕ) → n < length after → get_or (insert before k one) n d ≡ get_or after n d
      at n less = elim (cases_lt n k) [
        | inl front ↦ below n front
        | inr from ↦ elim (cases_eq n k) [
          | inl equal ↦ here n equal
          | inr apart ↦ subst (λ m. get_or (insert before k one) m d ≡ get_or after m d) (omega (arith, from, apart)) (behind (n - 1) (omega (arith, from, apart)) (omega (arith, from, apart, less, come.count)))
        ]
      ]

-- the same where so many were there before, and so many are there now
pub come_to : {X Y : Type 0} (to : List (Option ℕ)) (before now k : ℕ) (xs : List X) (ys : List Y) → HasCome to before now k → before ≡ length xs → now ≡ length ys → HasCome to (length xs) (length ys) k
come_to to before now k xs ys come earlier later = subst (λ n. HasCome to n (length ys) k) earlier (subst (λ n. HasCome to before n k) later come)

-- the facts of a file, for any default
abbrev nobody : NamedFacts
nobody = named_facts no_file

module _ (old w : Workspace) (to : List (Option ℕ)) (stayed : Stay old w to) where
  -- a file that stayed has its facts under its new number
  same_at : (g n : ℕ) → IsSameFile old w g n → get_or (all_facts old) g nobody ≡ get_or (all_facts w) n nobody
  same_at g n file = get_or-map named_facts old g no_file nobody file.there ∙ ap named_facts file.same ∙ sym (get_or-map named_facts w n no_file nobody file.here)

  pub with_one_that_came : (k : ℕ) (file : NamedFacts) → HasCome to (length (all_facts old)) (length w) k → file ≡ named_facts (get_or w k no_file) → insert (all_facts old) k file ≡ all_facts w
  with_one_that_came k file come is =
      let files = all_facts w in
      let there : k < length w = omega (arith, come.within, come.count) in
      let came : HasCome to (length (all_facts old)) (length files) k = come_to to (length (all_facts old)) (length w) k (all_facts old) files come refl (sym (length-map w named_facts)) in
      with_one_more to (all_facts old) files k came nobody (λ g n moves. same_at g n (stayed g n moves)) file (is ∙ sym (get_or-map named_facts w k no_file nobody there))

  pub without_one_that_left : (k : ℕ) → HasLeft to (length (all_facts old)) (length w) k → remove (all_facts old) k ≡ all_facts w
  without_one_that_left k gone =
      let olds = all_facts old in
      let counts : length olds ≡ length w + 1 = gone.count in
      let shorter : length (remove olds k) + 1 ≡ length olds = length-remove olds k gone.within in
      ext_get_or nobody (remove olds k) (all_facts w) (omega (arith, counts, shorter, length-map w named_facts)) (λ n less. at n (omega (arith, less, counts, shorter)))
    where
      below : (n : ℕ) → n < k → get_or (remove (all_facts old) k) n nobody ≡ get_or (all_facts w) n nobody
      below n less = get_or-remove_below (all_facts old) k nobody n less gone.within ∙ same_at n n (stayed n n (gone.front n less))

      behind : (n : ℕ) → k ≤ n → n < length w → get_or (remove (all_facts old) k) n nobody ≡ get_or (all_facts w) n nobody
      behind n far less = get_or-remove_above (all_facts old) k nobody n far gone.within ∙ same_at (n + 1) n (stayed (n + 1) n (gone.behind n far less))

      at : (n : ℕ) → n < length w → get_or (remove (all_facts old) k) n nobody ≡ get_or (all_facts w) n nobody
      at n less = elim (cases_lt n k) [
        | inl before ↦ below n before
        | inr from ↦ behind n from less
      ]

-- ---- what a list of new numbers says

pub one_more_kept : (to : List (Option ℕ)) (n : ℕ) → ((g : ℕ) → g < n → place to g ≡ Some g) → place to n ≡ Some n → (g : ℕ) → g < n + 1 → place to g ≡ Some g
one_more_kept to n kept is g less = elim (cases_eq g n) [
  | inl same ↦ subst (λ m. place to m ≡ Some m) (sym same) is
  | inr apart ↦ kept g (omega (arith, less, apart))
]

pub one_more_moved : (to : List (Option ℕ)) (from first n : ℕ) → ((g : ℕ) → from + g < n → place to (from + g) ≡ Some (first + g)) → place to n ≡ Some (first + (n - from))
    → (g : ℕ) → from + g < n + 1 → place to (from + g) ≡ Some (first + g)
one_more_moved to from first n moved is g less = elim (cases_eq (from + g) n) [
  | inl same ↦ ap (place to) same ∙ is ∙ ap (λ m. Some (first + m)) (omega (arith, same))
  | inr apart ↦ moved g (omega (arith, less, apart))
]

module _ (to : List (Option ℕ)) (before now k : ℕ) (files : before ≡ length to) (front : (g : ℕ) → g < k → place to g ≡ Some g) where
  pub one_came : now ≡ before + 1 → k ≤ before → ((g : ℕ) → k + g < length to → place to (k + g) ≡ Some ((k + 1) + g)) → HasCome to before now k
  one_came count within moved = record {
    files = files;
    count = count;
    within = within;
    front = front;
    behind = λ g far less. ap (place to) (omega (arith, far)) ∙ moved (g - k) (omega (arith, far, less, files)) ∙ ap (λ m. Some m) (omega (arith, far));
  }

  pub one_left : before ≡ now + 1 → k < before → ((g : ℕ) → (k + 1) + g < length to → place to ((k + 1) + g) ≡ Some (k + g)) → HasLeft to before now k
  one_left count within moved = record {
    files = files;
    count = count;
    within = within;
    front = front;
    behind = λ g far less. ap (place to) (omega (arith, far)) ∙ moved (g - k) (omega (arith, far, less, files, count)) ∙ ap (λ m. Some m) (omega (arith, far));
  }

-- ---- the table before

module _ (r : Bool) (table : List NamedFacts) (ts : List TextAt) (to : List (Option ℕ)) (was : IsTableBefore table (workspace_of r ts) to) (before k : ℕ) (as_many : before ≡ length table) where
  pub put_in : (piece : TextAt) → piece ≡ get_or ts k piece → (file : NamedFacts) → file ≡ named_facts (source_of r piece) → HasCome to before (length ts) k
      → insert table k file ≡ all_facts (workspace_of r ts)
  put_in piece there file is come =
      let at : get_or (workspace_of r ts) k no_file ≡ source_of r piece = piece_at r ts k piece (omega (arith, come.within, come.count)) there in
      subst (λ (files : List NamedFacts). HasCome to (length files) (length (workspace_of r ts)) k → insert files k file ≡ all_facts (workspace_of r ts)) (sym was.is)
      (λ come. with_one_that_came was.old (workspace_of r ts) to was.stayed k file come (is ∙ sym (ap named_facts at)))
      (subst (λ n. HasCome to n (length (workspace_of r ts)) k) as_many (subst (λ n. HasCome to before n k) (sym (pieces_length r ts)) come))

  pub taken_out : HasLeft to before (length ts) k → remove table k ≡ all_facts (workspace_of r ts)
  taken_out gone =
      subst (λ (files : List NamedFacts). HasLeft to (length files) (length (workspace_of r ts)) k → remove files k ≡ all_facts (workspace_of r ts)) (sym was.is)
      (λ gone. without_one_that_left was.old (workspace_of r ts) to was.stayed k gone)
      (subst (λ n. HasLeft to n (length (workspace_of r ts)) k) as_many (subst (λ n. HasLeft to before n k) (sym (pieces_length r ts)) gone))
