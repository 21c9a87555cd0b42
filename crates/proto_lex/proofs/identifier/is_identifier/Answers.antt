use Rattle.std.proofs.Common.{rules, subst, length, ◌<◌, ◌≡◌, IsTrue, nat_eq, ◌↔◌, slice_index, List, ℕ, take, drop, ◌-◌}
use Rattle.proto_lex.specs.declared.bytes.Class.TheVariants as class
use Rattle.proto_lex.specs.Bytes.{class_of}
use Rattle.proto_lex.specs.Forms.{IsIdent}
use Rattle.proto_lex.proofs.Identifiers.{is_whole}
use Rattle.proto_lex.proofs.identifier.is_identifier.Goals as goal

pub returns-then-eq : goal.returns-then-eq
returns-then-eq c =
    let bs = c.as_bytes-bytes.result.now in
    let some : 0 < length bs = search rules in
    let letter : class_of (slice_index bs 0) ≡ class.Letter = search rules in
    subst (λ (l : List ℕ). IsTrue (nat_eq c.name_len.result (length (take (length bs - 1) (drop 1 bs)))) ↔ IsIdent l) c.as_bytes-bytes.ensures.value (is_whole bs c.name_len.result some letter c.name_len.ensures.len)
