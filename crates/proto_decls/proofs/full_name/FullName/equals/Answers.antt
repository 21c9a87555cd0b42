use Rattle.std.proofs.Common.{◌≡◌, ◌&&◌, ◌∙◌, ap₂, bytes_eq}
use Rattle.proto_decls.specs.FullNames.{last_of, scope_of}
use Rattle.proto_decls.proofs.ApartNames.{same_parts}
use Rattle.proto_decls.proofs.full_name.FullName.equals.Goals as goal

pub returns : goal.returns
returns c =
    let m = c.args.self.now in
    let n = c.args.other.now in
    let last : bytes_eq c.parts.result.last.now c.parts-2.result.last.now ≡ bytes_eq (last_of m) (last_of n) = ap₂ bytes_eq c.parts.ensures.last c.parts-2.ensures.last in
    let scope : bytes_eq c.parts.result.scope.now c.parts-2.result.scope.now ≡ bytes_eq (scope_of m) (scope_of n) = ap₂ bytes_eq c.parts.ensures.scope c.parts-2.ensures.scope in
    c.equals.ensures ∙ ap₂ (λ a b. a && b) last scope ∙ same_parts m n
