-- Diagnostics at spans, and those of bad tokens and statements.
use Rattle.proto_lex.specs.declared.token.Reason.TheVariants as reason
use Rattle.proto_tree.specs.declared.node.Span.{Span}
use Rattle.proto_tree.specs.declared.node.Fault.{Fault}
use Rattle.proto_tree.specs.declared.node.SyntaxProblem.{SyntaxProblem}
use Rattle.proto_tree.specs.declared.node.SyntaxProblem.TheVariants as problem
use Rattle.proto_decls.specs.declared.diagnostic.Diag.{Diag}
use Rattle.proto_decls.specs.declared.problem.Problem.{Problem}
use Rattle.proto_decls.specs.declared.problem.Problem.TheVariants as m

-- a message at a span
abbrev pub diag : Problem → Span → Diag
diag message s = record { start = s.start; end = s.end; message = message }

-- the start of the text
abbrev pub nowhere : Span
nowhere = record { start = 0; end = 0 }

-- what is said of a bad token or statement
abbrev pub problem_of : SyntaxProblem → Problem
problem_of (problem.BadToken reason.Character) = m.IllegalCharacter
problem_of (problem.BadToken reason.Number) = m.MalformedNumber
problem_of (problem.BadToken reason.String) = m.UnfinishedString
problem_of (problem.BadToken reason.Comment) = m.UnfinishedComment
problem_of problem.NotUnderstood = m.NotUnderstood
problem_of problem.TooDeep = m.TooDeep
problem_of problem.Unfinished = m.Unfinished

abbrev pub diag_of : Fault → Diag
diag_of f = diag (problem_of f.problem) f.span
