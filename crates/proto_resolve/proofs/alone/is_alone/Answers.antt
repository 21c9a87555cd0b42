use Rattle.std.proofs.Common.{◌≡◌, ℕ, List, [], ◌∷◌, false, length, refl, arith}
use Rattle.std.specs.Prelude.{All}
use Rattle.std.specs.List.{list_any}
use Rattle.std.proofs.lemmas.Bool.Decides.{nat_tests}
use Rattle.std.proofs.lemmas.List.Elements.{All-head, All-tail}
use Rattle.proto_decls.specs.declared.named_facts.NamedFacts.{NamedFacts}
use Rattle.proto_names.specs.declared.packages.PackagedFile.{PackagedFile}
use Rattle.proto_names.specs.declared.decl_ref.DeclRef.{DeclRef}
use Rattle.proto_names.specs.Files.{all_named, has_package}
use Rattle.proto_names.proofs.Apart.{whole}
use Rattle.proto_resolve.proofs.Firsts.{agrees, is_another}
use Rattle.proto_names.proofs.Order.{named_by_file}
use Rattle.proto_resolve.proofs.alone.is_alone.Goals as goal

-- where one file has all declarations, no other one has any
no_other : (f : ℕ) (view : List ℕ) (rs : List DeclRef) → All (λ r. r.file ≡ f) rs → list_any (is_another f view) rs ≡ false
no_other f view [] all = refl
no_other f view (r ∷ rs) all =
    rw (agrees r.file f (All-head (λ r. r.file ≡ f) r rs all)) (no_other f view rs (All-tail (λ r. r.file ≡ f) r rs all))

-- where no file has a package, none of a view has it
nobody_has : (files : List NamedFacts) (name : List ℕ) → ((g : ℕ) → false ≡ has_package files name g) → (view : List ℕ) → list_any (has_package files name) view ≡ false
nobody_has files name none [] = refl
nobody_has files name none (g ∷ gs) = rw (← none g) (nobody_has files name none gs)

is_empty : (these : List PackagedFile) → length these ≡ 0 → these ≡ []
is_empty [] e = refl
is_empty (p ∷ ps) e = absurd (omega (arith, e))

pub are_of-requires : goal.are_of-requires
are_of-requires g c = rw c.declared_as.ensures (named_by_file (g.I.Index.files c.args.index.now) c.args.name.now)

pub returns-then-are_of-clause-declared : goal.returns-then-are_of-clause-declared
returns-then-are_of-clause-declared g c empty view =
    no_other c.args.file view (all_named (g.I.Index.files c.args.index.now) c.args.name.now) (rw c.declared_as.ensures at (c.are_of.ensures c.if-are_of.true))

pub returns-then-are_of-clause-packaged : goal.returns-then-are_of-clause-packaged
returns-then-are_of-clause-packaged g c empty view =
    let same = whole c.args.name.now c.parts.result.scope.now c.parts.result.last.now c.parts.ensures.scope c.parts.ensures.last in
    let none : c.packaged.result.now ≡ [] = is_empty c.packaged.result.now (grind (arith, c.is_empty.ensures, empty, nat_tests)) in
    nobody_has (g.I.Index.files c.args.index.now) c.args.name.now (λ h. rw (none, same) at (c.packaged.ensures h)) view
