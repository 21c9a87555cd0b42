use Rattle.std.proofs.Common.{◌≡◌, ◌∙◌, sym, ap, refl, ◌+◌, [], ◌∷◌, false, drop}
use Rattle.std.proofs.lemmas.List.{drop_all, drop_more}
use Rattle.proto_resolve.specs.declared.site.Needs.TheVariants as needs
use Rattle.proto_resolve.specs.Sites.{inner, is_scalar, names_in, site}
use Rattle.work_links.proofs.AskedNames.{has_all-grows, has_all-more, names-Extend, names-Field, names-MapField, names-Message, names-Oneof, names-Rpc, names-Service, ok-behind, ok-inside}
use Rattle.work_links.proofs.asked.Asked.+asked.Goals as goal

pub add_node-returns-in-Message-clause-all : goal.add_node-returns-in-Message-clause-all
add_node-returns-in-Message-clause-all t c = λ scopes.
    let same = c.as_slice.ensures ∙ c.get.ensures in
    rw (c.in-Message.is, names-Message c.args.text.now scopes c.in-Message.span c.in-Message.name c.in-Message.items, ← same)
    (c.add_nodes.ensures.all (inner c.args.text.now c.in-Message.name scopes))

pub add_node-returns-in-Service-clause-all : goal.add_node-returns-in-Service-clause-all
add_node-returns-in-Service-clause-all t c = λ scopes.
    let same = c.as_slice-in-Service.ensures ∙ c.get-in-Service.ensures in
    rw (c.in-Service.is, names-Service c.args.text.now scopes c.in-Service.span c.in-Service.name c.in-Service.items, ← same)
    (c.add_nodes-in-Service.ensures.all (inner c.args.text.now c.in-Service.name scopes))

pub add_node-returns-in-Oneof-clause-all : goal.add_node-returns-in-Oneof-clause-all
add_node-returns-in-Oneof-clause-all t c = λ scopes.
    let same = c.as_slice-in-Oneof.ensures ∙ c.get-in-Oneof.ensures in
    rw (c.in-Oneof.is, names-Oneof c.args.text.now scopes c.in-Oneof.span c.in-Oneof.name c.in-Oneof.items, ← same) (c.add_nodes-in-Oneof.ensures.all scopes)

pub add_node-returns-in_ok-add_type-in-Extend-clause-all :
    goal.add_node-returns-in_ok-add_type-in-Extend-clause-all
add_node-returns-in_ok-add_type-in-Extend-clause-all t c = λ scopes.
    let same = c.as_slice-in-Extend.ensures ∙ c.get-in-Extend-2.ensures in
    rw (c.in-Extend.is, names-Extend c.args.text.now scopes c.in-Extend.span c.in-Extend.target c.in-Extend.items, ← same, ← c.get-in-Extend.ensures)
    (ok-behind c.add_nodes-in-Extend.result c.add_type.new.self c.add_nodes-in-Extend.new.self
    (site c.args.text.now needs.Message c.get-in-Extend.result.now scopes) (names_in c.args.text.now c.as_slice-in-Extend.result.now scopes)
    (c.in_ok-add_type-in-Extend.ensures.all needs.Message scopes) c.add_nodes-in-Extend.ensures.kept (c.add_nodes-in-Extend.ensures.all scopes))

pub add_node-returns-in_ok-add_type-in-Rpc-clause-all :
    goal.add_node-returns-in_ok-add_type-in-Rpc-clause-all
add_node-returns-in_ok-add_type-in-Rpc-clause-all t c = λ scopes.
    let second = site c.args.text.now needs.Message c.get-in-Rpc-2.result.now scopes in
    rw (c.in-Rpc.is, names-Rpc c.args.text.now scopes c.in-Rpc.span c.in-Rpc.name c.in-Rpc.request c.in-Rpc.response c.in-Rpc.items, ← c.get-in-Rpc.ensures, ← c.get-in-Rpc-2.ensures)
    (ok-behind c.add_type-in-Rpc-2.result c.add_type-in-Rpc.new.self c.add_type-in-Rpc-2.new.self
    (site c.args.text.now needs.Message c.get-in-Rpc.result.now scopes) (second ∷ [])
    (c.in_ok-add_type-in-Rpc.ensures.all needs.Message scopes) c.add_type-in-Rpc-2.ensures.kept
    (ok-inside c.add_type-in-Rpc-2.result c.add_type-in-Rpc-2.new.self false second (c.add_type-in-Rpc-2.ensures.all needs.Message scopes)))

pub add_node-returns-in-Field-clause-all : goal.add_node-returns-in-Field-clause-all
add_node-returns-in-Field-clause-all t c = λ scopes.
    rw (c.in-Field.is, names-Field c.args.text.now scopes c.in-Field.field, ← c.get-in-Field.ensures)
    (let its = c.get-in-Field.result.now in
    ok-inside c.add_type-in-Field.result c.add_type-in-Field.new.self (is_scalar c.args.text.now its.type_name)
    (site c.args.text.now needs.MessageOrEnum its.type_name scopes) (c.add_type-in-Field.ensures.all needs.MessageOrEnum scopes))

pub add_node-returns-in-MapField-clause-all : goal.add_node-returns-in-MapField-clause-all
add_node-returns-in-MapField-clause-all t c = λ scopes.
    rw (c.in-MapField.is, names-MapField c.args.text.now scopes c.in-MapField.field, ← c.get-in-MapField.ensures)
    (let its = c.get-in-MapField.result.now in
    ok-inside c.add_type-in-MapField.result c.add_type-in-MapField.new.self (is_scalar c.args.text.now its.value)
    (site c.args.text.now needs.MessageOrEnum its.value scopes) (c.add_type-in-MapField.ensures.all needs.MessageOrEnum scopes))

pub add_nodes-nodes-preserved : goal.add_nodes-nodes-preserved
add_nodes-nodes-preserved t c =
    let nodes = c.args.nodes.now in
    let i = c.nodes.node-index in
    let front : drop i nodes ≡ c.node-item.result ∷ drop (i + 1) nodes = drop_more nodes i c.node-item.result c.nodes-test.true ∙ ap (λ n. n ∷ drop (i + 1) nodes) (sym c.node-item.is) in
    record {
      left = λ later scopes grows rest.
          c.nodes.invariant.left later scopes (λ name asks. grows name (c.in_ok-add_node.ensures.kept name asks))
          (has_all-more later c.args.text.now nodes c.node-item.result i (i + 1) scopes front
          (has_all-grows c.add_node.new.self later _ grows (c.in_ok-add_node.ensures.all scopes)) rest);
      kept = λ name asks. c.in_ok-add_node.ensures.kept name (c.nodes.invariant.kept name asks);
    }

pub add_nodes-returns-clause-all : goal.add_nodes-returns-clause-all
add_nodes-returns-clause-all t c = λ scopes.
    c.nodes.invariant.left c.nodes.self scopes (λ name asks. asks) (rw (drop_all c.nodes.node-index c.args.nodes.now c.nodes-test.false) refl)
