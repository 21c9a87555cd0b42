use Rattle.std.proofs.Common.{◌≡◌, map, drop}
use Rattle.workspace_uri.specs.Uri.{place_in_roots}
use Rattle.workspace_uri.specs.View.{root_text, roots_texts}
use Rattle.workspace_uri.proofs.roots.Roots.place_in.Given as goal

-- the roots before have no path
abbrev pub invariant-loop-root : goal.invariant-loop-root
invariant-loop-root l = place_in_roots l.root (map root_text (drop l.root l.at-items)) l.url ≡ place_in_roots 0 (roots_texts l.self) l.url
