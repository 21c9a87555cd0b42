-- What is said of the paths or of the facts of files, said of the files.
use Rattle.std.proofs.Common.{◌≡◌, ◌+◌, ℕ, List, [], ◌∷◌, Bool, false, not, cond, Some, None, map, nat_lt, arith, refl, ap, ap₂, subst}
use Rattle.std.specs.Prelude.{All, bytes_eq}
use Rattle.std.specs.List.{position, position_or_len}
use Rattle.std.proofs.lemmas.List.{length-map, get_or-map}
use Rattle.std.proofs.lemmas.List.Elements.{All-map}
use Rattle.proto_decls.specs.declared.fact.FileFacts.{FileFacts}
use Rattle.proto_decls.specs.declared.named_facts.NamedFacts.{NamedFacts}
use Rattle.import_graph.specs.Arrivals.{NobodyImports}
use Rattle.work_index.specs.Workspace.{NoneImports}

-- ---- the imports by the facts of the files, or by the files

all_unmapped : {X Y : Type 0} (P : Y → Type 0) (f : X → Y) (xs : List X) → All P (map f xs) → All (λ x. P (f x)) xs
all_unmapped P f xs all = λ k d lt. subst P (get_or-map f xs k d (f d) lt) (all k (f d) (omega (arith, lt, length-map xs f)))

pub nobody_imports : (files : List NamedFacts) (path : List ℕ) → NoneImports (map (λ f. f.facts) files) path → NobodyImports files path
nobody_imports files path none = all_unmapped (λ f. All (λ i. bytes_eq i.path path ≡ false) f.imports) (λ (f : NamedFacts). f.facts) files none

pub none_imports : (files : List NamedFacts) (path : List ℕ) → NobodyImports files path → NoneImports (map (λ f. f.facts) files) path
none_imports files path nobody = All-map (λ (f : FileFacts). All (λ i. bytes_eq i.path path ≡ false) f.imports) (λ (f : NamedFacts). f.facts) files nobody

-- ---- a number by the paths, or by the files

first_mapped : {X Y : Type 0} (p : Y → Bool) (f : X → Y) (xs : List X) → position_or_len p (map f xs) ≡ position_or_len (λ x. p (f x)) xs
first_mapped p f [] = refl
first_mapped p f (x ∷ xs) = ap (λ n. cond (not (p (f x))) (1 + n) 0) (first_mapped p f xs)

pub position_mapped : {X Y : Type 0} (p : Y → Bool) (f : X → Y) (xs : List X) → position p (map f xs) ≡ position (λ x. p (f x)) xs
position_mapped p f xs = ap₂ (λ (n m : ℕ). cond (nat_lt n m) (Some n) None) (first_mapped p f xs) (length-map xs f)
