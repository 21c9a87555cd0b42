use Rattle.std.proofs.Common.{◌≡◌, ◌++◌, drop}
use Rattle.std.specs.List.{enumerate_from, flat_map}
use Rattle.proto_names.specs.Packages.{all_packaged, packaged}
use Rattle.proto_names.proofs.packages.all_packaged.Given as goal

-- what is found and what is left are all
abbrev pub invariant-loop-number : goal.invariant-loop-number
invariant-loop-number l =
    l.found.items ++ flat_map (λ e. packaged e.0 (let facts = e.1.facts in facts.«package»)) (enumerate_from l.number (drop l.number l.files)) ≡ all_packaged l.files
