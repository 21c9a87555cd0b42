-- The methods of the Language Server Protocol that the server knows.
use Rattle.std.specs.Prelude.{ℕ, List, [], ◌∷◌, Option, codes, bytes_eq}
use Rattle.std.specs.Map.{lookup}
use Rattle.lsp_rpc.specs.declared.method.Method.{Method}
use Rattle.lsp_rpc.specs.declared.method.Method.TheVariants.{Initialize, Shutdown, Exit, DidOpen, DidChange, DidSave, DidClose, DocumentDiagnostic, WorkspaceDiagnostic, WorkspaceSymbol, Definition, References, Rename}

-- each name with its method: the server's lifecycle, then its documents, then what is asked about them
abbrev pub methods : List (List ℕ × Method)
methods =
    (codes "initialize", Initialize)
    ∷ (codes "shutdown", Shutdown)
    ∷ (codes "exit", Exit)
    ∷ (codes "textDocument/didOpen", DidOpen)
    ∷ (codes "textDocument/didChange", DidChange)
    ∷ (codes "textDocument/didSave", DidSave)
    ∷ (codes "textDocument/didClose", DidClose)
    ∷ (codes "textDocument/diagnostic", DocumentDiagnostic)
    ∷ (codes "workspace/diagnostic", WorkspaceDiagnostic)
    ∷ (codes "workspace/symbol", WorkspaceSymbol)
    ∷ (codes "textDocument/definition", Definition)
    ∷ (codes "textDocument/references", References)
    ∷ (codes "textDocument/rename", Rename)
    ∷ []

-- the method with this very name
abbrev pub method_named : List ℕ → Option Method
method_named name = lookup (bytes_eq name) methods
