-- What files say to those that see them, and what of their names stays where that does.
use Rattle.std.proofs.Common.{◌≡◌, ℕ, zero, suc, ◌+◌, ◌<◌, List, [], ◌∷◌, ◌++◌, Bool, Option, Some, None, length, get_or, set, map, filter, bytes_eq, refl, sym, ap, ap₂, subst, ◌∙◌, arith}
use Rattle.std.specs.Prelude.{option_map}
use Rattle.std.specs.List.{enumerate_from, flat_map}
use Rattle.std.specs.List.Sorted.{IsPermutation}
use Rattle.std.proofs.Math.ListN as math
use Rattle.std.proofs.Math.Path.{fun_ext}
use Rattle.std.proofs.Math.Seq.{map-set_same}
use Rattle.std.proofs.lemmas.List.{get_or_default, get_or-map}
use Rattle.std.proofs.lemmas.Simd.{map-map}
use Rattle.proto_decls.specs.declared.fact.Decl.{Decl}
use Rattle.proto_decls.specs.declared.fact.DeclKind.{DeclKind}
use Rattle.proto_decls.specs.declared.fact.FileFacts.{FileFacts}
use Rattle.proto_decls.specs.declared.fact.PackageFact.{PackageFact}
use Rattle.proto_decls.specs.declared.named_facts.NamedFacts.{NamedFacts}
use Rattle.proto_names.specs.declared.decl_ref.DeclRef.{DeclRef}
use Rattle.proto_names.specs.Buckets.{AreByName, AreInBuckets}
use Rattle.proto_names.specs.Files.{all_decls, all_named, decl_at, facts_at, no_decl, no_facts, name_at}
use Rattle.proto_decls.specs.FullNames.{dot, last_of}
use Rattle.proto_names.specs.Hashed.{hashed}
use Rattle.proto_names.specs.Holders.{is_holder}
use Rattle.proto_names.specs.Outlines.{declared, with_facts, exports}
use Rattle.proto_names.specs.Packages.{packaged, ArePackaged}
use Rattle.proto_names.specs.Tables.{all_holders, by_name, by_scope}
use Rattle.proto_names.specs.declared.buckets.Buckets.{Buckets}
use Rattle.proto_names.specs.declared.packages.PackagedFile.{PackagedFile}
use Rattle.proto_names.proofs.Order.{numbered, refs}

-- elements at one place of lists that say the same
pub alike_at : {X Y : Type 0} (k : X → Y) (a b : List X) (i : ℕ) (x y : X) → i < length a → i < length b → x ≡ get_or a i x → y ≡ get_or b i y → map k a ≡ map k b → k x ≡ k y
alike_at k [] b i x y there there' is is' same = absurd (omega (arith, there))
alike_at k (u ∷ a) [] i x y there there' is is' same = absurd (omega (arith, there'))
alike_at k (u ∷ a) (v ∷ b) zero x y there there' is is' same = let heads : k u ≡ k v = cc in ap k is ∙ heads ∙ sym (ap k is')
alike_at k (u ∷ a) (v ∷ b) (suc i) x y there there' is is' same = let tails : map k a ≡ map k b = cc in alike_at k a b i x y (omega (arith, there)) (omega (arith, there')) is is' tails

-- ---- the names

-- what a file says to those that see it
abbrev pub telling : NamedFacts → List (DeclKind × List ℕ) × Option (List ℕ)
telling file = exports file.facts

same_refs : (f n : ℕ) (a b : List Decl) → map declared a ≡ map declared b → map (numbered f) (enumerate_from n a) ≡ map (numbered f) (enumerate_from n b)
same_refs f n [] [] same = refl
same_refs f n [] (y ∷ b) same = absurd (cc)
same_refs f n (x ∷ a) [] same = absurd (cc)
same_refs f n (x ∷ a) (y ∷ b) same = let tails : map declared a ≡ map declared b = cc in rw (same_refs f (n + 1) a b tails) refl

decls_from : (n : ℕ) (old new : List NamedFacts) → map telling old ≡ map telling new → flat_map refs (enumerate_from n old) ≡ flat_map refs (enumerate_from n new)
decls_from n [] [] same = refl
decls_from n [] (y ∷ new) same = absurd (cc)
decls_from n (x ∷ old) [] same = absurd (cc)
decls_from n (x ∷ old) (y ∷ new) same =
    let heads : telling x ≡ telling y = cc in
    let tails : map telling old ≡ map telling new = cc in
    ap₂ (λ a b. a ++ b) (same_refs n 0 (let facts = x.facts in facts.decls) (let facts = y.facts in facts.decls) (ap (λ t. t.0) heads)) (decls_from (n + 1) old new tails)

pub same_decls : (old new : List NamedFacts) → map telling old ≡ map telling new → all_decls old ≡ all_decls new
same_decls old new same = decls_from 0 old new same

told_is : (files : List NamedFacts) (g : ℕ) → exports (facts_at files g) ≡ get_or (map telling files) g (exports no_facts)
told_is files g = sym (ap (λ all. get_or all g (exports no_facts)) (sym (map-map exports (λ file. file.facts) files)) ∙ math.get_or-map exports (map (λ file. file.facts) files) g no_facts)

-- at each place they tell the same
pub told_at : (old new : List NamedFacts) → map telling old ≡ map telling new → (g : ℕ) → exports (facts_at old g) ≡ exports (facts_at new g)
told_at old new same g = told_is old g ∙ ap (λ all. get_or all g (exports no_facts)) same ∙ sym (told_is new g)

declared_at : (a b : List Decl) (n : ℕ) → map declared a ≡ map declared b → declared (get_or a n no_decl) ≡ declared (get_or b n no_decl)
declared_at a b n same = sym (math.get_or-map declared a n no_decl) ∙ ap (λ all. get_or all n (declared no_decl)) same ∙ math.get_or-map declared b n no_decl

pub same_name : (old new : List NamedFacts) → map telling old ≡ map telling new → (r : DeclRef) → (let d = decl_at old r in d.full_name) ≡ (let d = decl_at new r in d.full_name)
same_name old new same r =
    ap (λ d. d.1) (declared_at (let facts = facts_at old r.file in facts.decls) (let facts = facts_at new r.file in facts.decls) r.number (ap (λ t. t.0) (told_at old new same r.file)))

-- files that tell the same have the same declarations of each name
pub same_named : (old new : List NamedFacts) → map telling old ≡ map telling new → (name : List ℕ) → all_named old name ≡ all_named new name
same_named old new same name =
    ap₂ (λ (test : DeclRef → Bool) (all : List DeclRef). filter test all) (fun_ext (λ r. ap (λ n. bytes_eq n name) (same_name old new same r))) (same_decls old new same)

same_kind : (old new : List NamedFacts) → map telling old ≡ map telling new → (r : DeclRef) → (let d = decl_at old r in d.kind) ≡ (let d = decl_at new r in d.kind)
same_kind old new same r =
    ap (λ d. d.0) (declared_at (let facts = facts_at old r.file in facts.decls) (let facts = facts_at new r.file in facts.decls) r.number (ap (λ t. t.0) (told_at old new same r.file)))

-- and so the same may settle a scope
same_holders : (old new : List NamedFacts) → map telling old ≡ map telling new → all_holders old ≡ all_holders new
same_holders old new same =
    ap₂ (λ (test : DeclRef → Bool) (all : List DeclRef). filter test all) (fun_ext (λ r. ap is_holder (same_kind old new same r))) (same_decls old new same)

-- the tables of names stay
pub still_by_name : (old new : List NamedFacts) → map telling old ≡ map telling new → (names holders : Buckets) → AreByName old names holders → AreByName new names holders
still_by_name old new same names holders are = record {
  names_are = subst (λ (name : DeclRef → List ℕ). AreInBuckets (by_name name) (map (hashed name) (all_decls new)) names.list.items) (fun_ext (same_name old new same))
      (subst (λ ds. AreInBuckets (by_name (name_at old)) (map (hashed (name_at old)) ds) names.list.items) (same_decls old new same) are.names_are);
  holders_are = subst (λ (name : DeclRef → List ℕ). AreInBuckets (by_scope name) (map (hashed (λ r. last_of (name r))) (all_holders new)) holders.list.items) (fun_ext (same_name old new same))
      (subst (λ ds. AreInBuckets (by_scope (name_at old)) (map (hashed (λ r. last_of (name_at old r))) ds) holders.list.items) (same_holders old new same) are.holders_are);
}

-- ---- the packages

pub package_alike : (n : ℕ) (a b : Option PackageFact) → option_map (λ p. p.full_name) a ≡ option_map (λ p. p.full_name) b → packaged n a ≡ packaged n b
package_alike n None None same = refl
package_alike n None (Some q) same = absurd (cc (same))
package_alike n (Some p) None same = absurd (cc (same))
package_alike n (Some p) (Some q) same = let names : p.full_name ≡ q.full_name = cc in ap (λ name. record { name = name ++ dot ∷ []; file = n } ∷ []) names

packaged_from : (n : ℕ) (old new : List NamedFacts) → map telling old ≡ map telling new
    → flat_map (λ e. packaged e.0 (let facts = e.1.facts in facts.«package»)) (enumerate_from n old) ≡ flat_map (λ e. packaged e.0 (let facts = e.1.facts in facts.«package»)) (enumerate_from n new)
packaged_from n [] [] same = refl
packaged_from n [] (y ∷ new) same = absurd (cc)
packaged_from n (x ∷ old) [] same = absurd (cc)
packaged_from n (x ∷ old) (y ∷ new) same =
    let heads : telling x ≡ telling y = cc in
    let tails : map telling old ≡ map telling new = cc in
    ap₂ (λ a b. a ++ b) (package_alike n (let facts = x.facts in facts.«package») (let facts = y.facts in facts.«package») (ap (λ t. t.1) heads)) (packaged_from (n + 1) old new tails)

-- files that tell the same have the same packages
pub still_packaged : (old new : List NamedFacts) → map telling old ≡ map telling new → (list : List PackagedFile) → ArePackaged old list → ArePackaged new list
still_packaged old new same list are = record { all = subst (λ all. IsPermutation all list) (packaged_from 0 old new same) are.all; ordered = are.ordered }

-- ---- other facts of a file

pub here : (files : List NamedFacts) (f : ℕ) (file : NamedFacts) → f < length files → file ≡ get_or files f file → facts_at files f ≡ file.facts
here files f file there is = get_or-map (λ x. x.facts) files f file no_facts there ∙ sym (ap (λ x. x.facts) is)

module _ (files : List NamedFacts) (f : ℕ) (file : NamedFacts) (facts : FileFacts) (there : f < length files) (is : file ≡ get_or files f file) where
  pub keeps_telling : exports facts ≡ exports (facts_at files f) → map telling (set files f (record { path = file.path; facts = facts })) ≡ map telling files
  keeps_telling same = map-set_same telling files f (record { path = file.path; facts = facts }) file (same ∙ ap exports (here files f file there is) ∙ ap telling is)

-- ---- the order of the files

-- other facts beside the file's path
pub facts_set : (files : List NamedFacts) (f : ℕ) (file : NamedFacts) (facts : FileFacts) → f < length files → file ≡ get_or files f file → set files f (record { path = file.path; facts = facts }) ≡ with_facts files f facts
facts_set files f file facts there is =
    let path : get_or (map (λ x. x.path) files) f [] ≡ file.path = get_or-map (λ x. x.path) files f file [] there ∙ sym (ap (λ x. x.path) is) in
    ap (λ p. set files f (record { path = p; facts = facts })) (sym path)

-- ---- the same for the files with other facts of one

module _ (files : List NamedFacts) (f : ℕ) (facts : FileFacts) (there : f < length files) where
  nothing : NamedFacts
  nothing = record { path = []; facts = no_facts }

  named_so : get_or (map (λ (x : NamedFacts). x.path) files) f [] ≡ (let file = get_or files f nothing in file.path)
  named_so = get_or-map (λ (x : NamedFacts). x.path) files f nothing [] there

  itself : get_or files f nothing ≡ get_or files f (get_or files f nothing)
  itself = get_or_default files f nothing (get_or files f nothing) there

  pub tells_alike : exports facts ≡ exports (facts_at files f) → map telling files ≡ map telling (with_facts files f facts)
  tells_alike same = sym (ap (λ p. map telling (set files f (record { path = p; facts = facts }))) named_so ∙ keeps_telling files f (get_or files f nothing) facts there itself same)
