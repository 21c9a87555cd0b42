-- What is wrong in a file by itself, each for its reason, and the law that its list of diagnostics has just that.
use Rattle.std.specs.Prelude.{◌≡◌, ◌≢◌, ◌⊎◌, ◌↔◌, ℕ, ◌<◌, ◌≤◌, ℤ, pos, ◌≤ℤ◌, ◌<ℤ◌, Bool, List, [], ◌∷◌, length, Contains, codes}
use Rattle.proto_lex.specs.declared.token.Reason.TheVariants as reason
use Rattle.proto_tree.specs.declared.node.Span.{Span}
use Rattle.proto_tree.specs.declared.node.Fault.{Fault}
use Rattle.proto_tree.specs.declared.node.Field.{Field}
use Rattle.proto_tree.specs.declared.node.FileTree.{FileTree}
use Rattle.proto_tree.specs.declared.node.Literal.{Literal}
use Rattle.proto_tree.specs.declared.node.MapField.{MapField}
use Rattle.proto_tree.specs.declared.node.Number.{Number}
use Rattle.proto_tree.specs.declared.node.ReservedRange.{ReservedRange}
use Rattle.proto_tree.specs.declared.node.SyntaxProblem.{SyntaxProblem}
use Rattle.proto_tree.specs.declared.node.SyntaxProblem.TheVariants as problem
use Rattle.proto_tree.specs.declared.node.TypeName.{TypeName}
use Rattle.proto_tree.specs.declared.node.Node.{Node, out-Node}
use Rattle.proto_tree.specs.declared.node.Node.TheOpen.{Node-F}
use Rattle.proto_decls.specs.declared.diagnostic.Diag.{Diag}
use Rattle.proto_decls.specs.declared.fact.Decl.{Decl}
use Rattle.proto_decls.specs.declared.part.Numbering.{Numbering}
use Rattle.proto_decls.specs.declared.part.Numbering.TheVariants.{Fields, Values}
use Rattle.proto_decls.specs.declared.problem.Problem.{Problem}
use Rattle.proto_decls.specs.declared.problem.Problem.TheVariants as m
use Rattle.proto_decls.specs.Facts.{decls, facts_in}
use Rattle.proto_decls.specs.Text.{literal_text, text_at}
use Rattle.proto_laws.specs.Bodies.{AllowsAlias, HasBounds, HasStatement, IsBody, IsBound, IsInRange, IsNumber, Numbered, Precedes, Reserves, enum_values, from_is, number_in, reserved_names, reserved_ranges, to_is, whole_range}

-- ---- what the file is analysed as

-- its first `syntax` statement
pub data IsFirstSyntax : List Node → Span → Literal → Type 0 where
  here : {n : Node} {more : List Node} {span : Span} {value : Literal} → out-Node n ≡ Node-F.Syntax span value → IsFirstSyntax (n ∷ more) span value
  later : {n : Node} {more : List Node} {span : Span} {value : Literal} → ((s : Span) (v : Literal) → out-Node n ≢ Node-F.Syntax s v) → IsFirstSyntax more span value → IsFirstSyntax (n ∷ more) span value

-- it has none
abbrev pub HasNoSyntax : List Node → Type 0
HasNoSyntax nodes = (n : Node) (s : Span) (v : Literal) → Contains nodes n → out-Node n ≢ Node-F.Syntax s v

-- it is said of a whole statement that can't be read
abbrev pub IsOfStatement : SyntaxProblem → Type 0
IsOfStatement p = (p ≡ problem.NotUnderstood) ⊎ ((p ≡ problem.TooDeep) ⊎ (p ≡ problem.Unfinished))

-- from where to where a statement stands
abbrev pub whole_statement : Node-F Node → Span
whole_statement (Node-F.Message span name items) = span
whole_statement (Node-F.EnumDef span name items) = span
whole_statement (Node-F.Service span name items) = span
whole_statement (Node-F.Oneof span name items) = span
whole_statement (Node-F.Extend span target items) = span
whole_statement (Node-F.Rpc span name request response items) = span
whole_statement (Node-F.Field f) = f.span
whole_statement (Node-F.MapField f) = f.span
whole_statement (Node-F.Value span name number) = span
whole_statement (Node-F.Reserved span list) = span
whole_statement (Node-F.Import span is_public path) = span
whole_statement (Node-F.Package span name components) = span
whole_statement (Node-F.OptionDef span name value) = span
whole_statement (Node-F.Syntax span value) = span
whole_statement (Node-F.Empty span) = span

-- a statement starts before the offset: one that is read, or one that can't be
pub data StartsBefore (tree : FileTree) (offset : ℕ) : Type 0 where
  by_statement : (n : Node) → Contains tree.nodes n → (whole_statement (out-Node n)).start < offset → StartsBefore tree offset
  by_fault : (f : Fault) → Contains tree.faults f → IsOfStatement f.problem → f.span.start < offset → StartsBefore tree offset

-- ---- labels

-- a label that may not stand there: the second of a field, any in a oneof, any of a map
pub data IsLabelTooMany (nodes : List Node) : Span → Type 0 where
  of_message : {n k : Node} {span name label one : Span} {items : List Node} {f : Field} → HasStatement nodes n → out-Node n ≡ Node-F.Message span name items → Contains items k → out-Node k ≡ Node-F.Field f → Precedes f.labels one label → IsLabelTooMany nodes label
  of_extend : {n k : Node} {span label one : Span} {target : TypeName} {items : List Node} {f : Field} → HasStatement nodes n → out-Node n ≡ Node-F.Extend span target items → Contains items k → out-Node k ≡ Node-F.Field f → Precedes f.labels one label → IsLabelTooMany nodes label
  of_oneof : {n k : Node} {span name label : Span} {items : List Node} {f : Field} → HasStatement nodes n → out-Node n ≡ Node-F.Oneof span name items → Contains items k → out-Node k ≡ Node-F.Field f → Contains f.labels label → IsLabelTooMany nodes label
  of_map : {n : Node} {label : Span} {f : MapField} → HasStatement nodes n → out-Node n ≡ Node-F.MapField f → Contains f.labels label → IsLabelTooMany nodes label

-- ---- diagnostics

-- a diagnostic of a span
abbrev pub problem_at : Problem → Span → Diag
problem_at message s = record { start = s.start; end = s.end; message = message }

-- where what is said of the whole text stands: at its start
abbrev pub text_start : Span
text_start = record { start = 0; end = 0 }

-- what is said of a token or a statement that can't be read
abbrev pub unread_as : SyntaxProblem → Problem
unread_as (problem.BadToken reason.Character) = m.IllegalCharacter
unread_as (problem.BadToken reason.Number) = m.MalformedNumber
unread_as (problem.BadToken reason.String) = m.UnfinishedString
unread_as (problem.BadToken reason.Comment) = m.UnfinishedComment
unread_as problem.NotUnderstood = m.NotUnderstood
unread_as problem.TooDeep = m.TooDeep
unread_as problem.Unfinished = m.Unfinished

-- the types that the key of a map may have
abbrev pub map_key_types : List (List ℕ)
map_key_types =
    codes "int32" ∷ codes "int64" ∷ codes "uint32" ∷ codes "uint64" ∷ codes "sint32" ∷ codes "sint64" ∷ codes "fixed32" ∷ codes "fixed64"
    ∷ codes "sfixed32" ∷ codes "sfixed64" ∷ codes "bool" ∷ codes "string" ∷ []

-- What is wrong in a file that is analysed as proto3.
pub data IsProto3Diagnostic (text : List ℕ) (tree : FileTree) (d : Diag) : Type 0 where
  -- 201 to 204: a token or a statement that can't be read
  unread : {f : Fault} → Contains tree.faults f → d ≡ problem_at (unread_as f.problem) f.span → IsProto3Diagnostic text tree d
  -- 301: the number of a field or an extension, or a bound of a message's range, isn't one from 1 to 536,870,911
  number_out_of_range : {n : Number} → IsNumber tree.nodes Fields n ⊎ IsBound tree.nodes Fields n → ¬ IsInRange Fields (number_in text n) → d ≡ problem_at m.NumberOutOfRange n.span → IsProto3Diagnostic text tree d
  -- 302: the number of a field or an extension is one from 19,000 to 19,999
  number_kept_free : {n : Number} → IsNumber tree.nodes Fields n → pos 19000 ≤ℤ number_in text n → number_in text n ≤ℤ pos 19999 → d ≡ problem_at m.NumberKeptFree n.span → IsProto3Diagnostic text tree d
  -- 303: an earlier field of the message has the number, which is in range
  number_used_twice : {items : List Node} {fields : List Numbered} {e f : Numbered} → IsBody tree.nodes Fields items fields → Precedes fields e f
      → IsInRange Fields (number_in text f.number) → number_in text e.number ≡ number_in text f.number → d ≡ problem_at m.NumberUsedTwice f.number.span → IsProto3Diagnostic text tree d
  -- 304: a range of the field's message, or of the value's enum, reserves its number, wherever the range stands
  number_reserved : {numbering : Numbering} {items : List Node} {members : List Numbered} {f : Numbered} {r : ReservedRange} → IsBody tree.nodes numbering items members → Contains members f → Contains (reserved_ranges items) r
      → Reserves numbering text r (number_in text f.number) → d ≡ problem_at m.NumberReserved f.number.span → IsProto3Diagnostic text tree d
  -- 305: the field's message, or the value's enum, reserves its name
  name_reserved : {numbering : Numbering} {items : List Node} {members : List Numbered} {f : Numbered} {l : Literal} → IsBody tree.nodes numbering items members → Contains members f → Contains (reserved_names items) l
      → literal_text text l ≡ text_at text f.name → d ≡ problem_at m.NameReserved f.name → IsProto3Diagnostic text tree d
  -- 306: an earlier range of the body reserves a number that the range reserves
  range_reserved_twice : {numbering : Numbering} {items : List Node} {members : List Numbered} {r s : ReservedRange} {v : ℤ} → IsBody tree.nodes numbering items members → Precedes (reserved_ranges items) r s
      → Reserves numbering text r v → Reserves numbering text s v → d ≡ problem_at m.ReservedTwice (whole_range s) → IsProto3Diagnostic text tree d
  -- 306: the body reserves the name before
  name_reserved_twice : {numbering : Numbering} {items : List Node} {members : List Numbered} {k l : Literal} → IsBody tree.nodes numbering items members → Precedes (reserved_names items) k l
      → literal_text text k ≡ literal_text text l → d ≡ problem_at m.ReservedTwice l.span → IsProto3Diagnostic text tree d
  -- 307: the last number of a range is below its first, and both are in range
  range_backwards : {numbering : Numbering} {items : List Node} {members : List Numbered} {r : ReservedRange} → IsBody tree.nodes numbering items members → Contains (reserved_ranges items) r
      → HasBounds numbering text r → to_is numbering text r <ℤ from_is numbering text r → d ≡ problem_at m.RangeBackwards (whole_range r) → IsProto3Diagnostic text tree d
  -- 308: the first value of an enum isn't 0
  first_not_zero : {n : Node} {span name : Span} {items : List Node} {v : Numbered} {more : List Numbered} → HasStatement tree.nodes n → out-Node n ≡ Node-F.EnumDef span name items
      → enum_values items ≡ v ∷ more → number_in text v.number ≢ pos 0 → d ≡ problem_at m.FirstNotZero v.number.span → IsProto3Diagnostic text tree d
  -- 308: an enum has no value
  no_value : {n : Node} {span name : Span} {items : List Node} → HasStatement tree.nodes n → out-Node n ≡ Node-F.EnumDef span name items → enum_values items ≡ [] → d ≡ problem_at m.FirstNotZero name → IsProto3Diagnostic text tree d
  -- 309: the number of an enum value, or a bound of an enum's range, isn't one from -2,147,483,648 to 2,147,483,647
  enum_number_out_of_range : {n : Number} → IsNumber tree.nodes Values n ⊎ IsBound tree.nodes Values n → ¬ IsInRange Values (number_in text n) → d ≡ problem_at m.EnumNumberOutOfRange n.span → IsProto3Diagnostic text tree d
  -- 310: an earlier value of the enum has the number, which is in range, and the enum has no `option allow_alias = true;`
  enum_number_used_twice : {items : List Node} {values : List Numbered} {e f : Numbered} → IsBody tree.nodes Values items values → ¬ AllowsAlias text items → Precedes values e f
      → IsInRange Values (number_in text f.number) → number_in text e.number ≡ number_in text f.number → d ≡ problem_at m.EnumNumberUsedTwice f.number.span → IsProto3Diagnostic text tree d
  -- 311: the key of a map is none of the types that it may be
  map_key : {n : Node} {f : MapField} → HasStatement tree.nodes n → out-Node n ≡ Node-F.MapField f → ¬ Contains map_key_types (text_at text f.key.span) → d ≡ problem_at m.MapKey f.key.span → IsProto3Diagnostic text tree d
  -- 312: an earlier declaration of the file has the full name
  declared_twice : {e f : Decl} → Precedes (decls text tree.nodes) e f → e.full_name ≡ f.full_name → d ≡ problem_at m.DeclaredTwice f.name_span → IsProto3Diagnostic text tree d
  -- 313: an earlier import has the path
  imported_twice : {k n : Node} {one other : Span} {p q : Bool} {before path : Literal} → Precedes tree.nodes k n → out-Node k ≡ Node-F.Import one p before → out-Node n ≡ Node-F.Import other q path
      → literal_text text before ≡ literal_text text path → d ≡ problem_at m.ImportedTwice path.span → IsProto3Diagnostic text tree d
  -- 314: a package behind another one
  package_twice : {k n : Node} {one other before name : Span} {parts components : List Span} → Precedes tree.nodes k n → out-Node k ≡ Node-F.Package one before parts → out-Node n ≡ Node-F.Package other name components
      → d ≡ problem_at m.PackageTwice name → IsProto3Diagnostic text tree d
  -- 315: a `syntax` that isn't the first statement
  syntax_not_first : {n : Node} {span : Span} {value : Literal} → Contains tree.nodes n → out-Node n ≡ Node-F.Syntax span value → StartsBefore tree span.start → d ≡ problem_at m.SyntaxNotFirst span → IsProto3Diagnostic text tree d
  -- 318: a label that may not stand there
  label_not_allowed : {label : Span} → IsLabelTooMany tree.nodes label → d ≡ problem_at m.LabelNotAllowed label → IsProto3Diagnostic text tree d

-- What is wrong in a file. One that isn't analysed as proto3 has but one diagnostic: its text is too long, or it has no
-- `syntax` that says proto3.
pub data IsFileDiagnostic (text : List ℕ) (tree : FileTree) (d : Diag) : Type 0 where
  -- 316: the text has over 16,777,216 bytes
  text_too_long : 16777216 < length text → d ≡ problem_at m.TextTooLong text_start → IsFileDiagnostic text tree d
  -- 317: its first `syntax` says another language
  not_proto3 : {span : Span} {value : Literal} → length text ≤ 16777216 → IsFirstSyntax tree.nodes span value → literal_text text value ≢ codes "proto3" → d ≡ problem_at m.NotProto3 span → IsFileDiagnostic text tree d
  -- 317: it has no `syntax`
  no_syntax : length text ≤ 16777216 → HasNoSyntax tree.nodes → d ≡ problem_at m.NotProto3 text_start → IsFileDiagnostic text tree d
  -- a file that is analysed as proto3
  of_proto3 : {span : Span} {value : Literal} → length text ≤ 16777216 → IsFirstSyntax tree.nodes span value → literal_text text value ≡ codes "proto3" → IsProto3Diagnostic text tree d → IsFileDiagnostic text tree d

-- the diagnostics of a file are these, and no others
abbrev pub DiagnosticsAreSaid : Type 0
DiagnosticsAreSaid = (text : List ℕ) (tree : FileTree) (d : Diag) → Contains (let facts = facts_in text tree in facts.diags) d ↔ IsFileDiagnostic text tree d
