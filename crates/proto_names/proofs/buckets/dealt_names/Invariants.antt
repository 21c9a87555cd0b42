use Rattle.std.proofs.Common.{◌≡◌, ◌++◌, length, map}
use Rattle.proto_names.specs.Buckets.{AreDealt}
use Rattle.proto_names.specs.Entries.{all_entries}
use Rattle.proto_names.proofs.buckets.dealt_names.Given as goal

-- those so far, of files numbered from 0
abbrev pub invariant-loop-file : goal.invariant-loop-file
invariant-loop-file l = record {
  left : map (λ e. e.1) l.yielded ++ l.file-iterator.iter.rest.items ≡ l.fn.files.items;
  number : l.file-iterator.count ≡ length l.yielded;
  dealt : AreDealt (all_entries (map (λ own. own.items) (map (λ e. e.1) l.yielded))) (map (λ list. list.items) l.initial.lists.items) (map (λ list. list.items) l.lists.items);
}
