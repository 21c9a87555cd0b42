-- What is found is what the words say.
use Rattle.std.proofs.Common.{◌≡◌, ◌∙◌, sym, ap, subst, inl, inr, ℕ, zero, suc, ◌+◌, ◌<◌, ◌≤◌, ◌==◌, List, [], ◌∷◌, ◌++◌, Bool, true, false, Option, Some, None, find, length, get_or, map, refl, arith}
use Rattle.std.specs.Prelude.{All, ◌⊎◌, ◌↔◌, bytes_eq, option_map, if◌then◌else◌}
use Rattle.std.specs.Option.{option_or}
use Rattle.std.specs.List.{enumerate_from, flat_map, list_any}
use Rattle.std.proofs.lemmas.Bool.{cases_eq}
use Rattle.std.proofs.lemmas.Bool.Decides.{nat_tests}
use Rattle.std.proofs.lemmas.List.{length-map}
use Rattle.std.proofs.lemmas.List.Elements.{All-nil, All-cons, All-append, All-weaker}
use Rattle.std.proofs.lemmas.Slice.Eq.{bytes_eq-Decides}
use Rattle.proto_decls.specs.declared.fact.Decl.{Decl}
use Rattle.proto_decls.specs.declared.fact.PackageFact.{PackageFact}
use Rattle.proto_decls.specs.declared.named_facts.NamedFacts.{NamedFacts}
use Rattle.import_graph.specs.declared.imports.FileImports.{FileImports}
use Rattle.import_graph.specs.Imports.{graph_of, imports_of}
use Rattle.import_graph.specs.Views.{Sees}
use Rattle.import_graph.specs.Closures.{view_of, sees}
use Rattle.import_graph.specs.Laws.{ViewLaw}
use Rattle.proto_names.specs.declared.decl_ref.DeclRef.{DeclRef}
use Rattle.proto_resolve.specs.declared.target.Target.{Target}
use Rattle.proto_resolve.specs.declared.target.Target.TheVariants.{Declared, Package}
use Rattle.proto_names.specs.Files.{all_decls, all_named, begins, decl_at, decls_at, ends_component, facts_at, has_package, is_within, is_seen}
use Rattle.proto_decls.specs.FullNames.{dot}
use Rattle.proto_resolve.specs.Names.{first_declared, found, package_found}
use Rattle.proto_resolve.specs.Finding.{ComesBefore, Finds, HasPackage, IsFirst, IsSeenAs, IsUndeclared}
use Rattle.proto_resolve.specs.Finding.ComesBefore.{own_file, by_path, by_offset}
use Rattle.proto_resolve.proofs.Firsts.{agrees, is_own, is_visible}
use Rattle.proto_resolve.proofs.Members.{In, all_in, first_in, from_any, from_filter, in_filter, in_left, in_right, none_in, to_any}
use Rattle.proto_names.proofs.Order.{Earlier, files_from, named_rise, numbered, refs}
use Rattle.proto_resolve.proofs.Within.{named_within}

-- every declaration is listed
in_refs : (f n k number : ℕ) (decls : List Decl) → number ≡ n + k → k < length decls → In (record { file = f; number = number }) (map (numbered f) (enumerate_from n decls))
in_refs f n k number [] e lt = absurd (omega (arith, lt))
in_refs f n zero number (d ∷ ds) e lt = let same : n ≡ number = omega (arith, e) in inl (rw same refl)
in_refs f n (suc k) number (d ∷ ds) e lt = inr (in_refs f (n + 1) k number ds (omega (arith, e)) (omega (arith, lt)))

in_files : (n k : ℕ) (r : DeclRef) (files : List NamedFacts) → r.file ≡ n + k → r.number < length (decls_at files k) → In r (flat_map refs (enumerate_from n files))
in_files n k r [] e lt = let none : r.number < 0 = lt in absurd (omega (arith, none))
in_files n zero r (x ∷ files) e lt =
    let same : n ≡ r.file = omega (arith, e) in
    in_left r (refs (n, x)) (flat_map refs (enumerate_from (n + 1) files))
    (subst (λ m. In (record { file = m; number = r.number }) (refs (n, x))) same (in_refs n 0 r.number r.number (let facts = x.facts in facts.decls) (omega arith) lt))
in_files n (suc k) r (x ∷ files) e lt = in_right r (refs (n, x)) (flat_map refs (enumerate_from (n + 1) files)) (in_files (n + 1) k r files (omega (arith, e)) lt)

-- and each that is listed is there
abbrev IsThereFrom : ℕ → List NamedFacts → DeclRef → Type 0
IsThereFrom n files r = (k : ℕ) → r.file ≡ n + k → r.number < length (decls_at files k)

abbrev IsOf : ℕ → ℕ → DeclRef → Type 0
IsOf f limit r = (r.file ≡ f) × (r.number < limit)

refs_there : (f n : ℕ) (decls : List Decl) → All (IsOf f (n + length decls)) (map (numbered f) (enumerate_from n decls))
refs_there f n [] = All-nil (IsOf f (n + 0))
refs_there f n (d ∷ ds) = All-cons (IsOf f (n + length (d ∷ ds))) (numbered f (n, d)) (map (numbered f) (enumerate_from (n + 1) ds)) (refl, omega arith)
    (All-weaker (IsOf f ((n + 1) + length ds)) (IsOf f (n + length (d ∷ ds))) (λ r there. (there.0, omega (arith, there.1))) (map (numbered f) (enumerate_from (n + 1) ds)) (refs_there f (n + 1) ds))

own_there : (n k : ℕ) (x : NamedFacts) (files : List NamedFacts) (r : DeclRef) → IsOf n (0 + length (let facts = x.facts in facts.decls)) r → r.file ≡ n + k
    → r.number < length (decls_at (x ∷ files) k)
own_there n zero x files r there e = omega (arith, there.1)
own_there n (suc k) x files r there e = absurd (omega (arith, e, there.0))

later_there : (n k : ℕ) (x : NamedFacts) (files : List NamedFacts) (r : DeclRef) → n + 1 ≤ r.file → IsThereFrom (n + 1) files r → r.file ≡ n + k
    → r.number < length (decls_at (x ∷ files) k)
later_there n zero x files r le there e = absurd (omega (arith, le, e))
later_there n (suc k) x files r le there e = there k (omega (arith, e))

there_from : (n : ℕ) (files : List NamedFacts) → All (IsThereFrom n files) (flat_map refs (enumerate_from n files))
there_from n [] = All-nil (IsThereFrom n [])
there_from n (x ∷ files) = All-append (IsThereFrom n (x ∷ files)) (refs (n, x)) (flat_map refs (enumerate_from (n + 1) files))
    (All-weaker (IsOf n (0 + length (let facts = x.facts in facts.decls))) (IsThereFrom n (x ∷ files)) (λ r there k e. own_there n k x files r there e) (refs (n, x)) (refs_there n 0 (let facts = x.facts in facts.decls)))
    (λ i d lt k e. later_there n k x files (get_or (flat_map refs (enumerate_from (n + 1) files)) i d) (files_from (n + 1) files i d lt) (there_from (n + 1) files i d lt) e)

abbrev has_name : List NamedFacts → List ℕ → DeclRef → Bool
has_name files name r = bytes_eq (let d = decl_at files r in d.full_name) name

pub in_all_named : (files : List NamedFacts) (name : List ℕ) (r : DeclRef) → r.number < length (decls_at files r.file) → (let d = decl_at files r in d.full_name) ≡ name
    → In r (all_named files name)
in_all_named files name r there named =
    in_filter (has_name files name) r (all_decls files) ((bytes_eq-Decides (let d = decl_at files r in d.full_name) name).1 named) (in_files 0 r.file r files (omega arith) there)

pub named_in : (files : List NamedFacts) (f : ℕ) (name : List ℕ) (r : DeclRef) → IsSeenAs files f name r → In r (all_named files name)
named_in files f name r seen = in_all_named files name r seen.there seen.named

pub in_named : (files : List NamedFacts) (name : List ℕ) (r : DeclRef) → In r (all_named files name)
    → (r.number < length (decls_at files r.file)) × ((let d = decl_at files r in d.full_name) ≡ name)
in_named files name r there =
    let both = from_filter (has_name files name) r (all_decls files) there in
    (all_in (IsThereFrom 0 files) (all_decls files) r (there_from 0 files) both.0 r.file (omega arith), (bytes_eq-Decides (let d = decl_at files r in d.full_name) name).0 both.1)

comes_before : (f : ℕ) (r s : DeclRef) → ComesBefore f r s → ComesBefore f s r → ⊥
comes_before f r s (own_file own other) (own_file own' other') = other own'
comes_before f r s (own_file own other) (by_path other' lt) = other' own
comes_before f r s (own_file own other) (by_offset same lt) = other (same ∙ own)
comes_before f r s (by_path other lt) (own_file own' other') = other own'
comes_before f r s (by_path other lt) (by_path other' lt') = absurd (omega (arith, lt, lt'))
comes_before f r s (by_path other lt) (by_offset same lt') = absurd (omega (arith, lt, same))
comes_before f r s (by_offset same lt) (own_file own' other') = other' (same ∙ own')
comes_before f r s (by_offset same lt) (by_path other' lt') = absurd (omega (arith, same, lt'))
comes_before f r s (by_offset same lt) (by_offset same' lt') = absurd (omega (arith, lt, lt'))

-- a package
begins_split : (whole name : List ℕ) → begins whole name ≡ true → (whole ≡ name) ⊎ ((rest : List ℕ) × (whole ≡ name ++ dot ∷ rest))
begins_split [] [] e = inl refl
begins_split (c ∷ whole) [] e = inr (whole, rw (the_dot c e) refl)
  where
    the_dot : (c : ℕ) → (c == dot) ≡ true → c ≡ dot
    the_dot c e = grind (arith, nat_tests)
begins_split [] (x ∷ name) e = absurd (cc (e))
begins_split (c ∷ whole) (x ∷ name) e = elim (cases_eq x c) [
  | inl same ↦
      let rest : begins whole name ≡ true = grind (arith, nat_tests) in
      one_longer c x whole name same (begins_split whole name rest)
  | inr other ↦ absurd (grind (arith, nat_tests))
]
  where
    one_longer : (c x : ℕ) (whole name : List ℕ) → x ≡ c → (whole ≡ name) ⊎ ((rest : List ℕ) × (whole ≡ name ++ dot ∷ rest))
        → (c ∷ whole ≡ x ∷ name) ⊎ ((rest : List ℕ) × (c ∷ whole ≡ (x ∷ name) ++ dot ∷ rest))
    one_longer c x whole name same (inl equal) = inl (rw (same, equal) refl)
    one_longer c x whole name same (inr longer) = inr (longer.0, rw (same, longer.1) refl)

append_nothing : (xs : List ℕ) → xs ++ [] ≡ xs
append_nothing [] = refl
append_nothing (x ∷ xs) = rw (append_nothing xs) refl

begins_itself : (name rest : List ℕ) → begins (name ++ rest) name ≡ ends_component rest
begins_itself [] rest = refl
begins_itself (c ∷ name) rest = grind (arith, nat_tests, begins_itself name rest)

abbrev package_at : List NamedFacts → ℕ → Option PackageFact
package_at files g = let facts = facts_at files g in facts.«package»

from_within : (name : List ℕ) (o : Option PackageFact) → is_within name o ≡ true
    → (p : PackageFact) × (o ≡ Some p) × ((p.full_name ≡ name) ⊎ ((rest : List ℕ) × (p.full_name ≡ name ++ dot ∷ rest)))
from_within name None e = absurd (cc (e))
from_within name (Some p) e = (p, refl, begins_split p.full_name name e)

pub begins_so : (whole name : List ℕ) → (whole ≡ name) ⊎ ((rest : List ℕ) × (whole ≡ name ++ dot ∷ rest)) → begins whole name ≡ true
begins_so whole name (inl equal) = subst (λ w. begins w name ≡ true) (append_nothing name ∙ sym equal) (begins_itself name [])
begins_so whole name (inr longer) = subst (λ w. begins w name ≡ true) (sym longer.1) (begins_itself name (dot ∷ longer.0))

has_so : (files : List NamedFacts) (name : List ℕ) (g : ℕ) → HasPackage files name g → has_package files name g ≡ true
has_so files name g has = subst (λ o. is_within name o ≡ true) (sym has.stated) (begins_so (let p = has.fact in p.full_name) name has.within)

so_has : (files : List NamedFacts) (name : List ℕ) (g : ℕ) → has_package files name g ≡ true → HasPackage files name g
so_has files name g e = let one = from_within name (package_at files g) e in record { fact = one.0; stated = one.1; within = one.2 }

package_within : (files : List NamedFacts) (g : ℕ) (p : PackageFact) → package_at files g ≡ Some p → g < length files
package_within [] g p e = absurd (cc (e))
package_within (x ∷ files) zero p e = omega arith
package_within (x ∷ files) (suc g) p e = omega (arith, package_within files g p e)

module _ (files : List NamedFacts) (law : ViewLaw files) (f : ℕ) (name : List ℕ) where
  abbrev graph : List FileImports
  graph = graph_of files

  abbrev view : List ℕ
  view = view_of graph f

  abbrev named : List DeclRef
  named = all_named files name

  as_long : length graph ≡ length files
  as_long = length-map files (λ x. imports_of files x.facts)

  pub seen_so : (g : ℕ) → is_seen view g ≡ true → Sees graph f g
  seen_so g e =
      let one = from_any (sees graph f) (λ h. h == g) 0 (length graph) e in
      let same : one.0 ≡ g = equal one.0 g one.2 in
      subst (λ h. Sees graph f h) same ((law f one.0).0.0 one.1)
    where
      equal : (h g : ℕ) → (h == g) ≡ true → h ≡ g
      equal h g e = grind (arith, nat_tests)

  so_seen : (g : ℕ) → g < length files → Sees graph f g → is_seen view g ≡ true
  so_seen g lt there = to_any (sees graph f) (λ h. h == g) 0 (length graph) g (omega arith) (omega (arith, as_long, lt)) ((law f g).0.1 there) (agrees g g refl)

  within : (r : DeclRef) → In r named → r.file < length files
  within r there = all_in (λ r. r.file < length files) named r (named_within files name) there

  pub visible : (r : DeclRef) → IsSeenAs files f name r → is_visible view r ≡ true
  visible r seen = so_seen r.file (within r (named_in files f name r seen)) seen.seen

  own_order : (r s : DeclRef) → r.file ≡ f → s.file ≡ f → (s ≡ r) ⊎ Earlier r s → (s ≡ r) ⊎ ComesBefore f r s
  own_order r s own own' (inl same) = inl same
  own_order r s own own' (inr (inl lt)) = absurd (omega (arith, own, own', lt))
  own_order r s own own' (inr (inr both)) = inr (by_offset both.0 both.1)

  other_order : (r s : DeclRef) → ((s.file ≡ f) → ⊥) → (s ≡ r) ⊎ Earlier r s → (s ≡ r) ⊎ ComesBefore f r s
  other_order r s other (inl same) = inl same
  other_order r s other (inr (inl lt)) = inr (by_path other lt)
  other_order r s other (inr (inr both)) = inr (by_offset both.0 both.1)

  own_first : (r : DeclRef) → find (is_own f) named ≡ Some r → IsFirst files f name r
  own_first r e =
      let one = first_in Earlier (is_own f) named r (named_rise files name) e in
      let own : r.file ≡ f = own_file_of r one.1 in
      let there = in_named files name r one.0 in
      record {
        seen = record { seen = inl own; there = there.0; named = there.1 };
        first = λ s seen. elim (cases_eq s.file f) [
          | inl own' ↦ own_order r s own own' (one.2 s (named_in files f name s seen) (agrees s.file f own'))
          | inr other ↦ inr (own_file own other)
        ];
      }
    where
      own_file_of : (r : DeclRef) → is_own f r ≡ true → r.file ≡ f
      own_file_of r e = grind (arith, nat_tests)

  other_first : (r : DeclRef) → find (is_own f) named ≡ None → find (is_visible view) named ≡ Some r → IsFirst files f name r
  other_first r none e =
      let one = first_in Earlier (is_visible view) named r (named_rise files name) e in
      let there = in_named files name r one.0 in
      record {
        seen = record { seen = seen_so r.file one.1; there = there.0; named = there.1 };
        first = λ s seen. other_order r s (λ own. none_in (is_own f) named s none (named_in files f name s seen) (agrees s.file f own)) (one.2 s (named_in files f name s seen) (visible s seen));
      }

  declared_so : (own other : Option DeclRef) → find (is_own f) named ≡ own → find (is_visible view) named ≡ other → (r : DeclRef) → option_or own other ≡ Some r → IsFirst files f name r
  declared_so (Some x) other e e' r some = let same : x ≡ r = cc (some) in own_first r (e ∙ ap (λ y. Some y) same)
  declared_so None (Some x) e e' r some = let same : x ≡ r = cc (some) in other_first r e (e' ∙ ap (λ y. Some y) same)
  declared_so None None e e' r some = absurd (cc (some))

  undeclared_so : (own other : Option DeclRef) → find (is_own f) named ≡ own → find (is_visible view) named ≡ other → option_or own other ≡ None → IsUndeclared files f name
  undeclared_so (Some x) other e e' none = absurd (cc (none))
  undeclared_so None (Some x) e e' none = absurd (cc (none))
  undeclared_so None None e e' none = λ r seen. none_in (is_visible view) named r e' (named_in files f name r seen) (visible r seen)

  -- a package of a file that f sees
  pub package_seen : list_any (has_package files name) view ≡ true → (g : ℕ) × Sees graph f g × HasPackage files name g
  package_seen e =
      let one = from_any (sees graph f) (has_package files name) 0 (length graph) e in
      (one.0, (law f one.0).0.0 one.1, so_has files name one.0 one.2)

  pub seen_package : (g : ℕ) → Sees graph f g → HasPackage files name g → list_any (has_package files name) view ≡ true
  seen_package g there has =
      to_any (sees graph f) (has_package files name) 0 (length graph) g (omega arith)
      (omega (arith, as_long, package_within files g has.fact has.stated)) ((law f g).0.1 there) (has_so files name g has)

  package_so : (b : Bool) → list_any (has_package files name) view ≡ b → IsUndeclared files f name → Finds files f name (if b then Some (Package name) else None)
  package_so true e none = (refl, none, package_seen e)
  package_so false e none = (none, λ g there has. absurd (cc (e, seen_package g there has)))

  meets_so : (d : Option DeclRef) → first_declared f view named ≡ d → Finds files f name (option_or (option_map Declared d) (package_found files view name))
  meets_so (Some r) e = declared_so (find (is_own f) named) (find (is_visible view) named) refl refl r e
  meets_so None e = package_so (list_any (has_package files name) view) refl (undeclared_so (find (is_own f) named) (find (is_visible view) named) refl refl e)

  meets : Finds files f name (found files f view name)
  meets = meets_so (first_declared f view named) refl

  one_first : (r s : DeclRef) (a : IsFirst files f name r) (b : IsFirst files f name s) → (s ≡ r) ⊎ ComesBefore f r s → (r ≡ s) ⊎ ComesBefore f s r → r ≡ s
  one_first r s a b (inl same) other = sym same
  one_first r s a b (inr before) (inl same) = same
  one_first r s a b (inr before) (inr before') = absurd (comes_before f r s before before')

  one_answer : (a b : Option Target) → Finds files f name a → Finds files f name b → a ≡ b
  one_answer (Some (Declared r)) (Some (Declared s)) x y = ap (λ r. Some (Declared r)) (one_first r s x y (x.first s y.seen) (y.first r x.seen))
  one_answer (Some (Declared r)) (Some (Package q)) x y = absurd (y.1 r x.seen)
  one_answer (Some (Declared r)) None x y = absurd (y.0 r x.seen)
  one_answer (Some (Package p)) (Some (Declared s)) x y = absurd (x.1 s y.seen)
  one_answer (Some (Package p)) (Some (Package q)) x y = ap (λ n. Some (Package n)) (x.0 ∙ sym y.0)
  one_answer (Some (Package p)) None x y = absurd (y.1 x.2.0 x.2.1 x.2.2)
  one_answer None (Some (Declared s)) x y = absurd (x.0 s y.seen)
  one_answer None (Some (Package q)) x y = absurd (x.1 y.2.0 y.2.1 y.2.2)
  one_answer None None x y = refl

  pub says : (t : Option Target) → (found files f view name ≡ t) ↔ Finds files f name t
  says t = (λ e. subst (λ u. Finds files f name u) e meets, λ there. one_answer (found files f view name) t meets there)
