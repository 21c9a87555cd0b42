-- What is found is there.
use Rattle.std.proofs.Common.{◌≡◌, ℕ, ◌+◌, ◌<◌, ◌==◌, List, [], ◌∷◌, Bool, length, Option, Some, None, map, find, inl, inr, arith}
use Rattle.std.specs.Prelude.{All, bytes_eq}
use Rattle.std.specs.List.{enumerate_from, flat_map}
use Rattle.std.specs.Option.{option_or}
use Rattle.std.proofs.lemmas.Bool.{cases_Bool}
use Rattle.std.proofs.lemmas.List.Elements.{All-nil, All-head, All-tail, All-append, All-filter, All-map, All-weaker}
use Rattle.proto_decls.specs.declared.named_facts.NamedFacts.{NamedFacts}
use Rattle.proto_names.specs.declared.decl_ref.DeclRef.{DeclRef}
use Rattle.proto_names.specs.Files.{all_decls, all_named, decl_at, is_seen}
use Rattle.proto_resolve.specs.Names.{first_declared}

abbrev refs : ℕ × NamedFacts → List DeclRef
refs e = map (λ d. record { file = e.0; number = d.0 }) (enumerate_from 0 (let facts = e.1.facts in facts.decls))

from_place : (n : ℕ) (files : List NamedFacts) → All (λ r. r.file < n + length files) (flat_map refs (enumerate_from n files))
from_place n [] = All-nil _
from_place n (f ∷ fs) =
    All-append (λ r. r.file < n + length (f ∷ fs)) (refs (n, f)) (flat_map refs (enumerate_from (n + 1) fs))
    (All-map (λ r. r.file < n + length (f ∷ fs)) (λ d. record { file = n; number = d.0 }) (enumerate_from 0 (let facts = f.facts in facts.decls)) (λ k d lt. omega arith))
    (All-weaker (λ r. r.file < (n + 1) + length fs) (λ r. r.file < n + length (f ∷ fs)) (λ r lt. omega arith) (flat_map refs (enumerate_from (n + 1) fs)) (from_place (n + 1) fs))

pub named_within : (files : List NamedFacts) (name : List ℕ) → All (λ r. r.file < length files) (all_named files name)
named_within files name = All-filter (λ r. bytes_eq (let d = decl_at files r in d.full_name) name) (λ r. r.file < length files) (all_decls files)
    (All-weaker (λ r. r.file < 0 + length files) (λ r. r.file < length files) (λ r lt. omega arith) (all_decls files) (from_place 0 files))

found_one : {X : Type 0} (P : X → Type 0) (p : X → Bool) (xs : List X) (x : X) → All P xs → find p xs ≡ Some x → P x
found_one P p [] x all e = absurd (cc (e))
found_one P p (y ∷ ys) x all e = elim (cases_Bool (p y)) [
  | inl passes ↦ let same : Some y ≡ Some x = rw passes at e in let same' : y ≡ x = cc (same) in rw (← same') (All-head P y ys all)
  | inr fails ↦ found_one P p ys x (All-tail P y ys all) (rw fails at e)
]

either : (P : DeclRef → Type 0) (a b : Option DeclRef) (x : DeclRef) → ((y : DeclRef) → a ≡ Some y → P y) → ((y : DeclRef) → b ≡ Some y → P y) → option_or a b ≡ Some x → P x
either P (Some y) b x left right e = left x e
either P None b x left right e = right x e

abbrev is_own : ℕ → DeclRef → Bool
is_own f r = r.file == f

abbrev is_visible : List ℕ → DeclRef → Bool
is_visible view r = is_seen view r.file

pub first_within : (files : List NamedFacts) (f : ℕ) (view : List ℕ) (name : List ℕ) (x : DeclRef) → first_declared f view (all_named files name) ≡ Some x → x.file < length files
first_within files f view name x e =
    either (λ r. r.file < length files) (find (is_own f) (all_named files name)) (find (is_visible view) (all_named files name)) x
    (λ y own. found_one (λ r. r.file < length files) (is_own f) (all_named files name) y (named_within files name) own)
    (λ y seen. found_one (λ r. r.file < length files) (is_visible view) (all_named files name) y (named_within files name) seen)
    e
