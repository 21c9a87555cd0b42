use Rattle.std.proofs.Common.{◌≡◌, ◌<◌, ◌∙◌, length, get_or, sym, ap, arith, false, None, IsTrue}
use Rattle.import_graph.specs.Imports.{edges_at, target_at}
use Rattle.import_graph.specs.Outlooks.{import_outlook}
use Rattle.import_graph.proofs.Outlooks.{more_alike, said_at}
use Rattle.import_graph.proofs.outlook.are_imports_alike.Goals as goal

pub returns-then-not-branch : goal.returns-then-not-branch
returns-then-not-branch c =
    let a = c.args.a.now in
    let b = c.args.b.now in
    let f = c.args.file in
    let i = c.loop-import.import in (
      λ h. absurd (cc (h)),
      λ same.
          let alike : import_outlook a f (target_at a f i) ≡ import_outlook b f (target_at b f i) = sym (said_at a f i) ∙ ap (λ said. get_or said i (None, false)) same ∙ said_at b f i in
          let is : IsTrue c.in_ok-is_import_alike.field-0 = c.in_ok-is_import_alike.ensures.1 alike in
          absurd (cc (is, c.if-not-branch.true)),
    )

pub loop-import-preserved : goal.loop-import-preserved
loop-import-preserved c =
    let a = c.args.a.now in
    let b = c.args.b.now in
    let f = c.args.file in
    let i = c.loop-import.import in
    let before = c.loop-import.invariant in
    let there : i < length (edges_at a f) = omega (arith, before.all, c.loop-import-test.true) in
    let there' : i < length (edges_at b f) = omega (arith, there, before.as_many) in
    let is : IsTrue c.in_ok-is_import_alike.field-0 = cc (c.if-not-branch.false) in
    let alike : import_outlook a f (target_at a f i) ≡ import_outlook b f (target_at b f i) = c.in_ok-is_import_alike.ensures.0 is in record {
      all = before.all;
      as_many = before.as_many;
      so_far = more_alike (λ x. import_outlook a f x.target) (λ x. import_outlook b f x.target) (edges_at a f) (edges_at b f) i (None, false) there there' before.so_far (said_at a f i ∙ alike ∙ sym (said_at b f i));
    }
