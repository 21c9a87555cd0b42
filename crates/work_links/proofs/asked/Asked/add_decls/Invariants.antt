use Rattle.std.proofs.Common.{◌≡◌, ◌++◌, map, take}
use Rattle.work_links.specs.Keys.{key}
use Rattle.work_links.proofs.asked.Asked.add_decls.Given as goal

abbrev pub invariant-decls : goal.invariant-decls
invariant-decls l = record {
  pushed : l.self.declares.items ≡ l.fn.self.declares.items ++ map key (map (λ d. d.full_name) (take l.decl-index l.decls));
  kept : l.self.uses ≡ l.fn.self.uses;
  same : l.self.all ≡ l.fn.self.all;
}
