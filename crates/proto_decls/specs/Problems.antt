-- What diagnostics say: their numbers, severities and words, and the order of messages.
use Rattle.std.specs.Prelude.{ℕ, List, codes}
use Rattle.std.specs.declared.cmp.Ordering.{Ordering}
use Rattle.std.specs.Ordering.{nat_cmp, ordering_then}
use Rattle.std.specs.Cmp.Lexicographic.{slice_cmp}
use Rattle.proto_decls.specs.contracts.problem.ProblemOrd.TheImpl.{cmp-value}
use Rattle.proto_decls.specs.declared.problem.Problem.{Problem}
use Rattle.proto_decls.specs.declared.problem.Problem.TheVariants as m

abbrev pub code : Problem → ℕ
code m.IllegalCharacter = 201
code m.MalformedNumber = 201
code m.UnfinishedComment = 201
code m.UnfinishedString = 201
code m.NotUnderstood = 202
code m.TooDeep = 203
code m.Unfinished = 204
code m.NumberOutOfRange = 301
code m.NumberKeptFree = 302
code m.NumberUsedTwice = 303
code m.NumberReserved = 304
code m.NameReserved = 305
code m.ReservedTwice = 306
code m.RangeBackwards = 307
code m.FirstNotZero = 308
code m.EnumNumberOutOfRange = 309
code m.EnumNumberUsedTwice = 310
code m.MapKey = 311
code m.DeclaredTwice = 312
code m.ImportedTwice = 313
code m.PackageTwice = 314
code m.SyntaxNotFirst = 315
code m.TextTooLong = 316
code m.NotProto3 = 317
code m.LabelNotAllowed = 318
code m.Unresolved = 401
code m.WrongKind = 402
code m.ImportNotFound = 403
code m.ImportCycle = 404
code m.DeclaredElsewhere = 405
code m.NameIsPackage = 406

-- an information where a file is not proto3, else an error
abbrev pub severity : Problem → ℕ
severity m.NotProto3 = 3
severity _ = 1

abbrev pub text : Problem → List ℕ
text m.IllegalCharacter = codes "illegal character"
text m.MalformedNumber = codes "malformed number"
text m.UnfinishedComment = codes "unfinished comment"
text m.UnfinishedString = codes "unfinished string"
text m.NotUnderstood = codes "statement not understood"
text m.TooDeep = codes "blocks nested too deep"
text m.Unfinished = codes "unfinished statement"
text m.NumberOutOfRange = codes "number out of range"
text m.NumberKeptFree = codes "number in 19000 to 19999"
text m.NumberUsedTwice = codes "number used twice"
text m.NumberReserved = codes "number is reserved"
text m.NameReserved = codes "name is reserved"
text m.ReservedTwice = codes "reserved twice"
text m.RangeBackwards = codes "range runs backwards"
text m.FirstNotZero = codes "first enum value must be zero"
text m.EnumNumberOutOfRange = codes "enum number out of range"
text m.EnumNumberUsedTwice = codes "number used twice without allow_alias"
text m.MapKey = codes "map key type not allowed"
text m.DeclaredTwice = codes "name declared twice"
text m.ImportedTwice = codes "import listed twice"
text m.PackageTwice = codes "package stated twice"
text m.SyntaxNotFirst = codes "syntax must come first"
text m.TextTooLong = codes "text too long"
text m.NotProto3 = codes "not a proto3 file"
text m.LabelNotAllowed = codes "label not allowed here"
text m.Unresolved = codes "unresolved name"
text m.WrongKind = codes "wrong kind of name"
text m.ImportNotFound = codes "import not found"
text m.ImportCycle = codes "import cycle"
text m.DeclaredElsewhere = codes "name declared in a visible file"
text m.NameIsPackage = codes "name is a package"

-- the order of messages: by their numbers, and those of one number by the bytes of their words
abbrev pub problem_order : Problem → Problem → Ordering
problem_order a b = ordering_then (nat_cmp (code a) (code b)) (slice_cmp nat_cmp (text a) (text b))

-- the order of the variants
abbrev pub variant_order : Problem → Problem → Ordering
variant_order = cmp-value.it
