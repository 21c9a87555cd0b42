use Rattle.std.proofs.Common.{◌≡◌, ◌-◌, drop, length, min, arith, ap, ◌∙◌}
use Rattle.lsp_frame.proofs.MemoryReads.{reads_on, none_left}
use Rattle.lsp_frame.proofs.memory.MemSourceByteSource.read.Goals as goal

pub returns-clause-bytes : goal.returns-clause-bytes
returns-clause-bytes c =
    let source = c.args.self.now in
    let bytes = source.bytes.items in
    let buf = c.args.buffer.now in
    let n = c.min-count.result in
    let copied = c.copy_from_slice.new.self in
    let is = rw c.deref.ensures.value at c.copy_from_slice.ensures.after in
    let most : c.min.result ≡ min (length bytes - source.taken) source.piece = c.min.ensures ∙ ap (λ k. min (k - source.taken) source.piece) (c.len.ensures ∙ source.bytes.ok.0) in (
      reads_on bytes copied (drop n buf) source.taken n is (omega (arith, most, c.min-count.ensures)),
      none_left bytes copied buf source.taken n source.piece c.min.result source.moves most c.min-count.ensures c.copy_from_slice.ensures.len,
    )
