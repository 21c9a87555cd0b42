use Rattle.std.proofs.Common.{◌≡◌, ◌++◌, flat_map, take}
use Rattle.check_lines.specs.Lines.{property_byte}
use Rattle.check_lines.proofs.github_line.push_property.Given as goal

-- the bytes so far
abbrev pub invariant-loop-byte : goal.invariant-loop-byte
invariant-loop-byte l = l.out.items ≡ l.fn.out.items ++ flat_map property_byte (take l.byte-index l.text)
