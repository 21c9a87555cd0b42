use Rattle.std.proofs.lemmas.List.{take_rest}
use Rattle.proto_lex.proofs.Fronts.{ident_first, string_first, ascii_first, character_first}
use Rattle.proto_lex.proofs.scan.front.Goals as goal
use Rattle.proto_lex.proofs.scan.front.Goals.{then-first-lt128, else-first-lt128, then-closed, else-closed}

pub returns-in-Letter : goal.returns-in-Letter
returns-in-Letter c = ident_first _ _ _ (take_rest _ 1) c.requires (cc) c.name_len.ensures.len

pub returns-after-first-lt128 : goal.returns-after-first-lt128
returns-after-first-lt128 c =
    elim c.if-first-lt128.branch [
      | then-first-lt128 w ↦ rw (w.len-is) (ascii_first _ c.requires (cc) w.if-first-lt128.true)
      | else-first-lt128 w ↦ rw (w.len-is) (character_first _ _ _ (take_rest _ 1) c.requires (cc) w.if-first-lt128.false w.continuation_len-len.ensures.len)
    ]

pub returns-after-closed : goal.returns-after-closed
returns-after-closed c =
    elim c.if-closed.branch [
      | then-closed w ↦ string_first _ _ _ _ _ (take_rest _ 1) c.requires (cc) c.string_end-len.ensures (rw w.if-closed.true w.kind-is)
      | else-closed w ↦ string_first _ _ _ _ _ (take_rest _ 1) c.requires (cc) c.string_end-len.ensures (rw w.if-closed.false w.kind-is)
    ]
