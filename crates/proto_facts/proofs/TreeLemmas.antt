-- The statements of a tree, gone through one after the other.
use Rattle.std.specs.List.{flat_map}
use Rattle.std.proofs.lemmas.Grind.{flat_map-append}
use Rattle.std.proofs.Math.Seq.{drop-cons}
use Rattle.std.proofs.Common.{Option, length-append, ◌≡◌, ℕ, ◌+◌, ◌<◌, length, get_or, drop, append_assoc, add-one, List, ◌∷◌, ◌++◌, sym, ap, ◌∙◌}
use Rattle.proto_tree.specs.declared.node.Node.{Node}
use Rattle.proto_decls.specs.Decls.{decls_of, decls_in}
use Rattle.proto_decls.specs.declared.fact.Decl.{Decl}
use Rattle.proto_decls.specs.declared.fact.DeclKind.{DeclKind}
use Rattle.proto_decls.specs.Tree.{inside, all_statements}
use Rattle.proto_decls.proofs.Statements.{all_statements-cons}

-- one more statement, with those inside it
pub diags-next : {Y : Type 0} (said : Node → List Y) (nodes : List Node) (i : ℕ) (n : Node) (found own new whole : List Y) → i < length nodes → n ≡ get_or nodes i n
    → own ≡ found ++ said n → new ≡ own ++ flat_map said (all_statements (inside n))
    → found ++ flat_map said (all_statements (drop i nodes)) ≡ whole
    → new ++ flat_map said (all_statements (drop (i + 1) nodes)) ≡ whole
diags-next said nodes i n found own new whole lt is first inner so_far =
    let split : drop i nodes ≡ n ∷ drop (i + 1) nodes = rw add-one (drop-cons nodes i n lt) ∙ ap (λ m. m ∷ drop (i + 1) nodes) (sym is) in
    let rest = flat_map said (all_statements (drop (i + 1) nodes)) in
    let inside_diags = flat_map said (all_statements (inside n)) in
    let whole_is : flat_map said (all_statements (drop i nodes)) ≡ said n ++ (inside_diags ++ rest) =
    ap (λ ns. flat_map said (all_statements ns)) split ∙ ap (flat_map said) (all_statements-cons n (drop (i + 1) nodes))
    ∙ ap (λ ys. said n ++ ys) (flat_map-append said (all_statements (inside n)) (all_statements (drop (i + 1) nodes))) in
    ap (λ ys. ys ++ rest) (inner ∙ ap (λ ys. ys ++ inside_diags) first)
    ∙ append_assoc (found ++ said n) inside_diags rest ∙ append_assoc found (said n) (inside_diags ++ rest)
    ∙ ap (λ ys. found ++ ys) (sym whole_is) ∙ so_far

-- one more statement, with what is declared in it
pub decls-next : (text : List ℕ) (nodes : List Node) (i : ℕ) (n : Node) (k : DeclKind) (scope : List ℕ) (parent : Option ℕ) (old new whole : List Decl) → i < length nodes → n ≡ get_or nodes i n
    → new ≡ old ++ decls_of text n k scope parent (length old)
    → old ++ decls_in text (drop i nodes) k scope parent (length old) ≡ whole
    → new ++ decls_in text (drop (i + 1) nodes) k scope parent (length new) ≡ whole
decls-next text nodes i n k scope parent old new whole lt is step so_far =
    let split : drop i nodes ≡ n ∷ drop (i + 1) nodes = rw add-one (drop-cons nodes i n lt) ∙ ap (λ m. m ∷ drop (i + 1) nodes) (sym is) in
    let own = decls_of text n k scope parent (length old) in
    let long : length new ≡ length old + length own = ap length step ∙ length-append old own in
    ap (λ ds. ds ++ decls_in text (drop (i + 1) nodes) k scope parent (length new)) step
    ∙ ap (λ next. (old ++ own) ++ decls_in text (drop (i + 1) nodes) k scope parent next) long
    ∙ append_assoc old own (decls_in text (drop (i + 1) nodes) k scope parent (length old + length own))
    ∙ ap (λ ns. old ++ decls_in text ns k scope parent (length old)) (sym split)
    ∙ so_far
