use Rattle.std.proofs.Common.{◌≡◌, ◌∙◌, sym, ap, ℕ, List, [], Bool, Some, true, false, get_or, arith}
use Rattle.proto_resolve.specs.Names.{settles_at}
use Rattle.proto_resolve.proofs.Ahead.{found_at, none_ahead, passes_one, passes_over}
use Rattle.proto_resolve.proofs.resolver.Resolver.scope_of.Goals as goal

pub loop-number-preserved : goal.loop-number-preserved
loop-number-preserved g c =
    let scopes : List (List ℕ) = c.args.site.now.scopes in
    let test : List ℕ → Bool = settles_at (g.I.Index.files c.args.self.now.index.now) c.args.self.now.view.now.file c.args.self.now.view.now.files c.args.site.now in
    let next = c.in-Some.ensures in
    let here : c.get-scope.result.now ≡ get_or scopes c.in-Some.next [] = rw c.place-scopes.ensures at c.get-scope.ensures in
    let fails : test (get_or scopes c.in-Some.next []) ≡ false = rw (← here) (sym c.in_ok-settles-in-Some.ensures.value ∙ c.if-settles.false) in (
      omega (arith, next.1),
      c.loop-number.invariant.1
          ∙ passes_over test scopes [] c.loop-number.number c.in-Some.next next.0 (omega (arith, next.1))
          next.2
          ∙ passes_one test scopes [] c.in-Some.next next.1 fails,
    )

pub returns-then-settles-clause-scope : goal.returns-then-settles-clause-scope
returns-then-settles-clause-scope g c =
    let scopes : List (List ℕ) = c.args.site.now.scopes in
    let test : List ℕ → Bool = settles_at (g.I.Index.files c.args.self.now.index.now) c.args.self.now.view.now.file c.args.self.now.view.now.files c.args.site.now in
    let next = c.in-Some.ensures in
    let here : c.get-scope.result.now ≡ get_or scopes c.in-Some.next [] = rw c.place-scopes.ensures at c.get-scope.ensures in
    let holds : test (get_or scopes c.in-Some.next []) ≡ true = rw (← here) (sym c.in_ok-settles-in-Some.ensures.value ∙ c.if-settles.true) in
    rw c.if-site.false (ap (λ (s : List ℕ). Some s) here
    ∙ sym (c.loop-number.invariant.1
    ∙ passes_over test scopes [] c.loop-number.number c.in-Some.next next.0 (omega (arith, next.1))
    next.2
    ∙ found_at test scopes [] c.in-Some.next next.1 holds))

pub returns-in-None-clause-scope : goal.returns-in-None-clause-scope
returns-in-None-clause-scope g c =
    let scopes : List (List ℕ) = c.args.site.now.scopes in
    let test : List ℕ → Bool = settles_at (g.I.Index.files c.args.self.now.index.now) c.args.self.now.view.now.file c.args.self.now.view.now.files c.args.site.now in
    let none = c.in-None.ensures in
    rw c.if-site.false (sym (c.loop-number.invariant.1
    ∙ none_ahead test scopes [] c.loop-number.number c.loop-number.invariant.0
    none))
