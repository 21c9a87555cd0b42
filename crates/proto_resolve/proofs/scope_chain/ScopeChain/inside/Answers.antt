use Rattle.std.proofs.Common.{◌≡◌, ◌∷◌, ◌++◌, [], length, rules}
use Rattle.std.specs.Prelude.{string_bytes, slice_index_or}
use Rattle.proto_decls.specs.Text.{joined}
use Rattle.proto_resolve.specs.ScopeChains.{front_parts}
use Rattle.proto_resolve.proofs.NextScopes.{not_longer, rises_pushed}
use Rattle.proto_resolve.proofs.ScopeChains.{inner_points, points, pushed}
use Rattle.proto_resolve.proofs.scope_chain.ScopeChain.inside.Goals as goal

pub invariant_of-result : goal.invariant_of-result
invariant_of-result c =
    let whole : string_bytes c.push_component.new.text ≡ joined (string_bytes c.self.inside.text) c.args.name.now = c.in_ok-push_component.ensures in
    let long : c.len.result ≡ length (string_bytes c.push_component.new.text) = search rules in
    let lengths : c.push.new.self ≡ c.self.inside.lengths ++ length (joined (string_bytes c.self.inside.text) c.args.name.now) ∷ [] = rw (← whole, ← long) c.in_ok-push.ensures.ok in
    rw (whole, lengths) (
      points (string_bytes c.self.inside.text) c.args.name.now c.self.inside.lengths c.self.invariant.0,
      inner_points (string_bytes c.self.inside.text) c.args.name.now c.self.inside.lengths c.self.invariant.0,
      rises_pushed c.self.inside.lengths (length (joined (string_bytes c.self.inside.text) c.args.name.now)) c.self.invariant.2 (not_longer (string_bytes c.self.inside.text) c.args.name.now c.self.inside.lengths c.self.invariant.0),
    )

pub returns : goal.returns
returns c =
    let whole : string_bytes c.push_component.new.text ≡ joined (string_bytes c.self.inside.text) c.args.name.now = c.in_ok-push_component.ensures in
    let long : c.len.result ≡ length (string_bytes c.push_component.new.text) = search rules in
    let lengths : c.push.new.self ≡ c.self.inside.lengths ++ length (joined (string_bytes c.self.inside.text) c.args.name.now) ∷ [] = rw (← whole, ← long) c.in_ok-push.ensures.ok in
    let inside : front_parts (string_bytes c.push_component.new.text) c.push.new.self ≡ joined (string_bytes c.self.inside.text) c.args.name.now ∷ front_parts (string_bytes c.self.inside.text) c.self.inside.lengths =
    rw (whole, lengths) (pushed (string_bytes c.self.inside.text) c.args.name.now c.self.inside.lengths c.self.invariant.0) in
    let innermost : slice_index_or c.args.self 0 [] ≡ string_bytes c.self.inside.text = rw (← c.self.view_is) c.self.invariant.1 in
    let all : front_parts (string_bytes c.push_component.new.text) c.push.new.self ≡ joined (slice_index_or c.args.self 0 []) c.args.name.now ∷ c.args.self = rw (innermost, ← c.self.view_is) inside in
    all
