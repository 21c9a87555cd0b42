use Rattle.std.proofs.Common.{◌≡◌, take, filter}
use Rattle.proto_names.specs.Files.{decl_at}
use Rattle.proto_names.specs.Holders.{is_holder}
use Rattle.proto_names.proofs.holders.holders_of.Given as goal

-- those so far
abbrev pub invariant-loop-decl : goal.invariant-loop-decl
invariant-loop-decl l = l.found.items ≡ filter (λ r. is_holder (let d = decl_at l.files r in d.kind)) (take l.decl-index l.decls)
