use Rattle.std.proofs.Common.{◌≡◌, length, arith}
use Rattle.std.specs.Prelude.{string_bytes}
use Rattle.proto_decls.specs.Text.{joined}
use Rattle.proto_names.specs.Holders.{is_held}
use Rattle.proto_resolve.proofs.NextScopes.{none_next, some_next}
use Rattle.proto_resolve.proofs.ScopeChains.{as_many}
use Rattle.proto_resolve.proofs.scope_chain.ScopeChain.next_held.Goals as goal

pub returns-in-None : goal.returns-in-None
returns-in-None g c =
    let many = as_many (string_bytes c.self.inside.text) c.self.inside.lengths in
    let long : length c.args.self.now ≡ length c.self.inside.lengths = rw (← c.self.view_is) many in
    let none = rw (c.len.ensures, c.as_slice.ensures, c.as_str.ensures.value) at c.in-None.ensures in
    rw (← c.self.view_is)
    (none_next (λ s. is_held (g.I.Index.files c.args.index.now) (joined s c.args.name.now)) (string_bytes c.self.inside.text) c.self.inside.lengths c.args.number (omega (arith, c.requires.within, long)) none)

pub returns-in-Some : goal.returns-in-Some
returns-in-Some g c =
    let many = as_many (string_bytes c.self.inside.text) c.self.inside.lengths in
    let long : length c.args.self.now ≡ length c.self.inside.lengths = rw (← c.self.view_is) many in
    let last = rw (c.len.ensures, c.as_slice.ensures, c.as_str.ensures.value) at c.in-Some.ensures in
    rw (← c.self.view_is, c.len-in-Some.ensures)
    (some_next (λ s. is_held (g.I.Index.files c.args.index.now) (joined s c.args.name.now)) (string_bytes c.self.inside.text) c.self.inside.lengths c.args.number (omega (arith, c.requires.within, long)) c.in-Some.place (last.0, last.2))
