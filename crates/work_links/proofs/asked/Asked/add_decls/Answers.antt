use Rattle.std.proofs.Common.{◌≡◌, ◌++◌, ap, ◌∙◌, map, take}
use Rattle.std.proofs.lemmas.List.{take_all}
use Rattle.work_links.specs.Keys.{key}
use Rattle.work_links.proofs.AskedNames.{grows, has_all-declares, has_keys-all, has_keys-append}
use Rattle.work_links.proofs.asked.Asked.add_decls.Goals as goal

pub returns-clause-all : goal.returns-clause-all
returns-clause-all c =
    let whole : take c.decls.decl-index c.args.decls.now ≡ c.args.decls.now = take_all c.decls.decl-index c.args.decls.now c.decls-test.false in
    has_all-declares c.decls.self c.args.self.now.declares.items (map (λ d. d.full_name) c.args.decls.now)
    (c.decls.invariant.pushed ∙ ap (λ ds. c.args.self.now.declares.items ++ map key (map (λ d. d.full_name) ds)) whole)

pub returns-clause-kept : goal.returns-clause-kept
returns-clause-kept c =
    grows c.args.self.now c.decls.self (λ all. c.decls.invariant.same ∙ all) (rw c.decls.invariant.kept (has_keys-all c.args.self.now.uses.items))
    (has_keys-append c.args.self.now.declares.items c.decls.self.declares.items _ c.decls.invariant.pushed)
