use Rattle.std.proofs.Common.{◌≡◌, ◌++◌, ◌∷◌, [], List, subst, sym}
use Rattle.std.specs.List.{insert}
use Rattle.std.specs.List.Sorted.{IsPermutation}
use Rattle.proto_names.specs.declared.packages.PackagedFile.{PackagedFile}
use Rattle.proto_names.specs.Packages.{AreByPackage}
use Rattle.proto_names.proofs.InsertedPackages.{is_there, stays_by_package}
use Rattle.proto_names.proofs.packages.put_among.Goals as goal

pub returns-clause-sorted : goal.returns-clause-sorted
returns-clause-sorted c =
    let found : List PackagedFile = c.args.found.now.items in
    let now : c.insert.new.self.items ≡ insert found c.place_among-place.result c.args.one = c.in_ok-insert.ensures.items in
    subst (λ ps. AreByPackage ps) (sym now)
    (stays_by_package found c.args.one c.place_among-place.result c.requires (rw c.deref.ensures.value at c.place_among-place.ensures.within) (rw (c.deref.ensures.value, c.as_str.ensures) at c.place_among-place.ensures.between))

pub returns-clause-same : goal.returns-clause-same
returns-clause-same c =
    let found : List PackagedFile = c.args.found.now.items in
    let now : c.insert.new.self.items ≡ insert found c.place_among-place.result c.args.one = c.in_ok-insert.ensures.items in
    subst (λ ps. IsPermutation (found ++ c.args.one ∷ []) ps) (sym now) (is_there found c.args.one c.place_among-place.result)
