use Rattle.std.proofs.Common.{◌≡◌, ◌∙◌, sym, length}
use Rattle.std.proofs.lemmas.List.{length-map}
use Rattle.proto_decls.specs.Text.{joined}
use Rattle.std.specs.List.{list_any}
use Rattle.proto_names.specs.Files.{has_package}
use Rattle.proto_names.specs.Holders.{is_held}
use Rattle.proto_resolve.specs.Names.{first_text, settles_at, texts_of}
use Rattle.proto_resolve.proofs.Ahead.{unsettled, unsettled_whole}
use Rattle.proto_resolve.proofs.NextScopes.{next_two, next_weaker}
use Rattle.proto_resolve.proofs.resolver.Resolver.next_scope.Goals as goal

pub returns-then-len-eq1 : goal.returns-then-len-eq1
returns-then-len-eq1 g c =
    let one : length (texts_of c.args.site.now) ≡ 1 = length-map c.args.site.now.components (λ part. part.text) ∙ sym c.len.ensures ∙ c.if-len-eq1.true in
    next_weaker c.args.site.now.scopes c.args.number (λ s. is_held (g.I.Index.files c.args.self.now.index.now) (joined s (first_text c.args.site.now)))
    (settles_at (g.I.Index.files c.args.self.now.index.now) c.args.self.now.view.now.file c.args.self.now.view.now.files c.args.site.now)
    (λ s none. unsettled (g.I.Index.files c.args.self.now.index.now) c.args.self.now.view.now.file c.args.self.now.view.now.files c.args.site.now s one none)
    c.next_held.result (rw (c.place-scopes.ensures, c.first_text-first.ensures) at c.next_held.ensures)

pub returns : goal.returns
returns g c =
    rw c.earlier.ensures
    (next_two c.args.site.now.scopes c.args.number (λ s. is_held (g.I.Index.files c.args.self.now.index.now) (joined s (first_text c.args.site.now)))
    (λ s. list_any (has_package (g.I.Index.files c.args.self.now.index.now) (joined s (first_text c.args.site.now))) c.args.self.now.view.now.files)
    (settles_at (g.I.Index.files c.args.self.now.index.now) c.args.self.now.view.now.file c.args.self.now.view.now.files c.args.site.now)
    (λ s none none'. unsettled_whole (g.I.Index.files c.args.self.now.index.now) c.args.self.now.view.now.file c.args.self.now.view.now.files c.args.site.now s none none')
    c.next_held-2.result c.next_package.result (rw (c.place-scopes.ensures, c.first_text-first.ensures) at c.next_held-2.ensures) (rw (c.place-scopes.ensures, c.first_text-first.ensures) at c.next_package.ensures))
