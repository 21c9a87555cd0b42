use Rattle.std.proofs.Common.{◌≡◌, ◌++◌, map, take}
use Rattle.work_links.specs.Keys.{key, last_key}
use Rattle.work_links.proofs.touched.push_keys.Given as goal

-- the keys of those so far
abbrev pub invariant-loop-decl : goal.invariant-loop-decl
invariant-loop-decl l = l.names.items ≡ l.initial.names.items ++ map (λ d. record { last = last_key d.full_name; whole = key d.full_name }) (take l.decl-index l.decls)
