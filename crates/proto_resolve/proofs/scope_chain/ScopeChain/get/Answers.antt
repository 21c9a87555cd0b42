use Rattle.std.proofs.Common.{◌≡◌, ◌-◌, length, get_or, arith, sym, ◌∙◌}
use Rattle.std.specs.Prelude.{slice_range, string_bytes}
use Rattle.std.specs.Str.{IsUtf8}
use Rattle.std.specs.String.Boundary.{IsSplitPoint}
use Rattle.std.proofs.lemmas.List.Elements.{All-get_or}
use Rattle.proto_resolve.proofs.ScopeChains.{as_many, boundary, part_at}
use Rattle.proto_resolve.proofs.scope_chain.ScopeChain.get.Goals as goal

pub range-requires-clause-end_boundary : goal.range-requires-clause-end_boundary
range-requires-clause-end_boundary c =
    let many = as_many (string_bytes c.self.inside.text) c.self.inside.lengths in
    let long : length c.args.self.now ≡ length c.self.inside.lengths = rw (← c.self.view_is) many in
    let utf8 : IsUtf8 (string_bytes c.self.inside.text) = rw c.as_str.ensures.value at c.as_str.utf8 in
    let point = All-get_or (IsSplitPoint (string_bytes c.self.inside.text)) c.self.inside.lengths (length c.self.inside.lengths - 1 - c.args.number) 0 (omega (arith, c.requires, long)) c.self.invariant.0 in
    rw (c.as_slice.ensures, c.len.ensures, c.as_str.ensures.value)
    (boundary (string_bytes c.self.inside.text) (get_or c.self.inside.lengths (length c.self.inside.lengths - 1 - c.args.number) 0) utf8 point)

pub returns : goal.returns
returns c =
    let many = as_many (string_bytes c.self.inside.text) c.self.inside.lengths in
    let long : length c.args.self.now ≡ length c.self.inside.lengths = rw (← c.self.view_is) many in
    let part = part_at (string_bytes c.self.inside.text) c.self.inside.lengths c.args.number (omega (arith, c.requires, long)) in
    let cut : c.range.result.now ≡ slice_range (string_bytes c.self.inside.text) 0 (get_or c.self.inside.lengths (length c.self.inside.lengths - 1 - c.args.number) 0) = rw (← c.len.ensures, ← c.as_slice.ensures, ← c.as_str.ensures.value) c.range.ensures.value in
    rw (← c.self.view_is) (cut ∙ sym part)
