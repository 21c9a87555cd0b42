use Rattle.std.proofs.Common.{◌≡◌, ◌++◌, [], true, map, take}
use Rattle.proto_resolve.specs.Sites.{component}
use Rattle.work_links.specs.Keys.{last_key}
use Rattle.work_links.proofs.asked.Asked.add_type.Given as goal

abbrev pub invariant-components : goal.invariant-components
invariant-components l = record {
  pushed : l.self.uses.items ≡ l.fn.self.uses.items ++ map last_key (map (λ c. c.text) (map (component l.text) (take l.component-index l.components)));
  same : l.self.declares ≡ l.fn.self.declares;
  kept : l.fn.self.all ≡ true → l.self.all ≡ true;
  empty : l.components ≡ [] → l.self.all ≡ true;
}
