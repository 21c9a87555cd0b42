-- Steps of a JSON writer, one after another.
use Rattle.std.proofs.Common.{List, [], ◌∷◌, ◌++◌, Ok, ap, ◌∙◌, append_assoc}
use Rattle.json.specs.Token.{Token}
use Rattle.json.specs.Written.{Written, Writes}
use Rattle.lsp_rpc.specs.Writing.{Appends}

infixr 5 ◌▹◌
pub one : {E : Type 0} {u : Unit {0}} {old new : Written} {t : Token} → Writes {E = E} (Ok u) old new t → Appends old (t ∷ []) new
one w = record { before = w.room.0; tokens = w.ok }

pub ◌▹◌ : {a b c : Written} {ts us : List Token} → Appends a ts b → Appends b us c → Appends a (ts ++ us) c
◌▹◌ {a} {b} {c} {ts} {us} p q = record { before = q.before ∙ p.before; tokens = q.tokens ∙ ap (λ xs. xs ++ us) p.tokens ∙ append_assoc a.tokens ts us }
