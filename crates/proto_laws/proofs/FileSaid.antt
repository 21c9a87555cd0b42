-- The diagnostics of a file are those that their relation says.
use Rattle.std.proofs.Common.{◌≡◌, ◌⊎◌, ◌∙◌, inl, inr, ℕ, ◌<◌, ◌≤◌, Bool, true, false, cond, List, [], ◌∷◌, ◌++◌, drop, length, map, Option, Some, None, refl, sym, ap, subst, lt-ltb, le-ltb}
use Rattle.std.specs.Prelude.{Contains, ◌≢◌, codes, nat_lt, not}
use Rattle.std.specs.List.{cons_option, filter_map, list_any}
use Rattle.std.specs.Str.{bytes_eq}
use Rattle.std.proofs.lemmas.Bool.{cases_lt, false_from_ne_true, ltb-true}
use Rattle.std.proofs.lemmas.List.Elements.{Contains-append_cases, Contains-append_left, Contains-append_right}
use Rattle.std.proofs.lemmas.Slice.Eq.{bytes_eq-Decides}
use Rattle.proto_lex.specs.declared.token.Reason.TheVariants as reason
use Rattle.proto_tree.specs.declared.node.Fault.{Fault}
use Rattle.proto_tree.specs.declared.node.FileTree.{FileTree}
use Rattle.proto_tree.specs.declared.node.Literal.{Literal}
use Rattle.proto_tree.specs.declared.node.Span.{Span}
use Rattle.proto_tree.specs.declared.node.SyntaxProblem.{SyntaxProblem}
use Rattle.proto_tree.specs.declared.node.SyntaxProblem.TheVariants as problem
use Rattle.proto_tree.specs.declared.node.Node.{Node, out-Node}
use Rattle.proto_tree.specs.declared.node.Node.TheOpen.{Node-F}
use Rattle.proto_decls.specs.declared.diagnostic.Diag.{Diag}
use Rattle.proto_decls.specs.declared.fact.Decl.{Decl}
use Rattle.proto_decls.specs.declared.fact.ImportFact.{ImportFact}
use Rattle.proto_decls.specs.declared.problem.Problem.TheVariants as m
use Rattle.proto_decls.specs.declared.stated.StatedPackage.{StatedPackage}
use Rattle.proto_decls.specs.declared.stated.StatedSyntax.{StatedSyntax}
use Rattle.proto_decls.specs.Checks.{judged}
use Rattle.proto_decls.specs.Diags.{diag, diag_of, nowhere, problem_of}
use Rattle.proto_decls.specs.Facts.{bad_start, declared_twice, decls, diags_of, facts_at, import_of, imported_twice, imports, not_proto3, opaque, package_diags, package_of, package_twice, packages, says_proto3, starts, stated, stated_of, syntax_late}
use Rattle.proto_decls.specs.Starts.{start_of}
use Rattle.proto_decls.specs.Text.{dotted, literal_text}
use Rattle.proto_decls.proofs.DiagOrder.{in_order-is_list}
use Rattle.proto_laws.specs.Bodies.{reserved_names, reserved_ranges}
use Rattle.proto_laws.specs.FileDiagnostics as said
use Rattle.proto_laws.specs.FileDiagnostics.{DiagnosticsAreSaid, HasNoSyntax, IsFileDiagnostic, IsFirstSyntax, IsOfStatement, IsProto3Diagnostic, StartsBefore, by_fault, by_statement, here, later, unread_as, whole_statement}
use Rattle.proto_laws.proofs.BodiesSaid.{body_reserved, bound_out, enum_value_twice, field_twice, first_found, found, interval_backwards, interval_reserved, interval_twice, key_found, label_found, name_reserved_at, name_twice_at, number_free, number_out, statements-said}
use Rattle.proto_laws.proofs.BodyChecks.{in_backwards, in_name_reserved, in_names_twice, in_reserved, in_shared}
use Rattle.proto_laws.proofs.StatementChecks.{IsFirst, no_value as has_none, not_zero}
use Rattle.proto_laws.proofs.Holders.{either, first_in, inside, later_in, none_in, cases_in}
use Rattle.proto_laws.proofs.Judged.{diag_if-is, diag_if-tells, in_judged, judged-has}
use Rattle.proto_laws.proofs.Lists.{behind_first, filter_map-has, filter_map-order, in_filter_map, in_map, list_any-has, list_any-is, just, map-has, not_first, one_only, order-filter_map}

-- ---- what stands at the top

module _ (text : List ℕ) where
  syntax-is : (y : Node-F Node) (s : StatedSyntax) → stated_of text y ≡ Some s → (value : Literal) × (y ≡ Node-F.Syntax s.span value) × (s.is_proto3 ≡ says_proto3 text value)
  syntax-is (Node-F.Syntax span value) s e =
      let same = inside _ s e in
      (value, ap (λ (s : StatedSyntax). Node-F.Syntax s.span value) same, sym (ap (λ (s : StatedSyntax). s.is_proto3) same))
  syntax-is _ s e = cc

  import-is : (y : Node-F Node) (i : ImportFact) → import_of text y ≡ Some i → (span : Span) × (p : Bool) × (path : Literal) × (y ≡ Node-F.Import span p path) × (i.path ≡ literal_text text path) × (i.span ≡ path.span)
  import-is (Node-F.Import span p path) i e =
      let same = inside _ i e in
      (span, p, path, refl, sym (ap (λ (i : ImportFact). i.path) same), sym (ap (λ (i : ImportFact). i.span) same))
  import-is _ i e = cc

  package-is : (y : Node-F Node) (p : StatedPackage) → package_of text y ≡ Some p → (span : Span) × (components : List Span) × (y ≡ Node-F.Package span p.name components)
  package-is (Node-F.Package span name components) p e = let same = inside _ p e in (span, components, ap (λ (p : StatedPackage). Node-F.Package span p.name components) same)
  package-is _ p e = cc

  -- ---- the first `syntax`

  abbrev stated_as : Span → Literal → StatedSyntax
  stated_as span value = record { span = span; is_proto3 = says_proto3 text value }

  first-stated : {nodes : List Node} {span : Span} {value : Literal} → IsFirstSyntax nodes span value → (more : List StatedSyntax) × (stated text nodes ≡ stated_as span value ∷ more)
  first-stated (here {n} {more} {span} {value} is) = (stated text more, ap (λ y. cons_option (stated_of text y) (stated text more)) is)
  first-stated (later {n} {more} {span} {value} other h) =
      let rest = first-stated h in
      (rest.0, ap (λ o. cons_option o (stated text more)) (no_syntax (out-Node n) other) ∙ rest.1)
    where
      no_syntax : (y : Node-F Node) → ((s : Span) (v : Literal) → y ≢ Node-F.Syntax s v) → stated_of text y ≡ None
      no_syntax (Node-F.Syntax span value) other = absurd (other span value refl)
      no_syntax _ other = refl

  none-stated : (nodes : List Node) → HasNoSyntax nodes → stated text nodes ≡ []
  none-stated [] none = refl
  none-stated (n ∷ more) none =
      ap (λ o. cons_option o (stated text more)) (no_syntax (out-Node n) (λ s v. none n s v (first_in n more))) ∙ none-stated more (λ k s v c. none k s v (later_in n more k c))
    where
      no_syntax : (y : Node-F Node) → ((s : Span) (v : Literal) → y ≢ Node-F.Syntax s v) → stated_of text y ≡ None
      no_syntax (Node-F.Syntax span value) other = absurd (other span value refl)
      no_syntax _ other = refl

  -- a file has a first `syntax` or none
  abbrev HasFirst : List Node → Type 0
  HasFirst nodes = (span : Span) × (value : Literal) × IsFirstSyntax nodes span value

  syntax_or_none : (y : Node-F Node) → ((s : Span) × (v : Literal) × (y ≡ Node-F.Syntax s v)) ⊎ ((s : Span) (v : Literal) → y ≢ Node-F.Syntax s v)
  syntax_or_none (Node-F.Syntax span value) = inl (span, value, refl)
  syntax_or_none _ = inr (λ s v e. absurd (cc (e)))

  cases_first : (nodes : List Node) → HasFirst nodes ⊎ HasNoSyntax nodes
  cases_first [] = inr (λ n s v c. absurd (none_in n c))
  cases_first (n ∷ more) =
      either (λ is. inl (is.0, is.1, here is.2))
      (λ other. either (λ h. inl (h.0, h.1, later other h.2)) (λ none. inr (λ k s v c. either (λ same. subst (λ k. out-Node k ≢ Node-F.Syntax s v) same (other s v)) (none k s v) (cases_in n more k c))) (cases_first more))
      (syntax_or_none (out-Node n))

-- ---- statements of the file itself

abbrev SameName : Decl → Decl → Type 0
SameName e f = e.full_name ≡ f.full_name

name-asked : (before : List Decl) (f : Decl) → list_any (λ e. bytes_eq e.full_name f.full_name) before ≡ true → (e : Decl) × Contains before e × SameName e f
name-asked before f e = let h = list_any-has (λ (e : Decl). bytes_eq e.full_name f.full_name) before e in (h.0, h.1, (bytes_eq-Decides h.0.full_name f.full_name).0 h.2)

asked-name : (before : List Decl) (e f : Decl) → Contains before e → SameName e f → list_any (λ e. bytes_eq e.full_name f.full_name) before ≡ true
asked-name before e f c same = list_any-is (λ (e : Decl). bytes_eq e.full_name f.full_name) before e c ((bytes_eq-Decides e.full_name f.full_name).1 same)

abbrev SamePath : ImportFact → ImportFact → Type 0
SamePath e f = e.path ≡ f.path

path-asked : (before : List ImportFact) (f : ImportFact) → list_any (λ e. bytes_eq e.path f.path) before ≡ true → (e : ImportFact) × Contains before e × SamePath e f
path-asked before f e = let h = list_any-has (λ (e : ImportFact). bytes_eq e.path f.path) before e in (h.0, h.1, (bytes_eq-Decides h.0.path f.path).0 h.2)

asked-path : (before : List ImportFact) (e f : ImportFact) → Contains before e → SamePath e f → list_any (λ e. bytes_eq e.path f.path) before ≡ true
asked-path before e f c same = list_any-is (λ (e : ImportFact). bytes_eq e.path f.path) before e c ((bytes_eq-Decides e.path f.path).1 same)

-- what is said of a fault
unread-is : (p : SyntaxProblem) → problem_of p ≡ unread_as p
unread-is (problem.BadToken reason.Character) = refl
unread-is (problem.BadToken reason.Number) = refl
unread-is (problem.BadToken reason.String) = refl
unread-is (problem.BadToken reason.Comment) = refl
unread-is problem.NotUnderstood = refl
unread-is problem.TooDeep = refl
unread-is problem.Unfinished = refl

unread-diag : (f : Fault) → diag_of f ≡ diag (unread_as f.problem) f.span
unread-diag f = ap (λ p. diag p f.span) (unread-is f.problem)

-- where a statement starts
starts-at : (y : Node-F Node) → start_of y ≡ (whole_statement y).start
starts-at (Node-F.Message span name items) = refl
starts-at (Node-F.EnumDef span name items) = refl
starts-at (Node-F.Service span name items) = refl
starts-at (Node-F.Oneof span name items) = refl
starts-at (Node-F.Extend span target items) = refl
starts-at (Node-F.Rpc span name request response items) = refl
starts-at (Node-F.Field f) = refl
starts-at (Node-F.MapField f) = refl
starts-at (Node-F.Value span name number) = refl
starts-at (Node-F.Reserved span list) = refl
starts-at (Node-F.Import span is_public path) = refl
starts-at (Node-F.Package span name components) = refl
starts-at (Node-F.OptionDef span name value) = refl
starts-at (Node-F.Syntax span value) = refl
starts-at (Node-F.Empty span) = refl

-- a fault of a whole statement, and where that starts
start-is : (p : SyntaxProblem) (s : Span) (k : ℕ) → bad_start p s ≡ Some k → IsOfStatement p × (s.start ≡ k)
start-is problem.NotUnderstood s k e = (inl refl, inside s.start k e)
start-is problem.TooDeep s k e = (inr (inl refl), inside s.start k e)
start-is problem.Unfinished s k e = (inr (inr refl), inside s.start k e)
start-is (problem.BadToken r) s k e = cc

is-start : (p : SyntaxProblem) (s : Span) → IsOfStatement p → bad_start p s ≡ Some s.start
is-start p s (inl e) = ap (λ p. bad_start p s) e
is-start p s (inr (inl e)) = ap (λ p. bad_start p s) e
is-start p s (inr (inr e)) = ap (λ p. bad_start p s) e

module _ (text : List ℕ) (tree : FileTree) where
  abbrev node_start : Node → ℕ
  node_start n = start_of (out-Node n)

  abbrev fault_start : Fault → Option ℕ
  fault_start f = bad_start f.problem f.span

  -- a statement starts before the offset
  before-has : (offset : ℕ) → list_any (λ start. nat_lt start offset) (starts tree) ≡ true → StartsBefore tree offset
  before-has offset e =
      let h = list_any-has (λ start. nat_lt start offset) (starts tree) e in
      let lt = ltb-true h.0 offset h.2 in
      either (λ c. let n = map-has node_start tree.nodes h.0 c in by_statement n.source n.there (subst (λ k. k < offset) (sym n.is ∙ starts-at (out-Node n.source)) lt))
      (λ c. let f = filter_map-has fault_start tree.faults h.0 c in let is = start-is f.0.problem f.0.span h.0 f.2 in by_fault f.0 f.1 is.0 (subst (λ k. k < offset) (sym is.1) lt))
      (Contains-append_cases (map node_start tree.nodes) (filter_map fault_start tree.faults) h.0 h.1)

  in_before : (offset : ℕ) → StartsBefore tree offset → list_any (λ start. nat_lt start offset) (starts tree) ≡ true
  in_before offset (by_statement n c lt) =
      list_any-is (λ start. nat_lt start offset) (starts tree) (node_start n) (Contains-append_left (map node_start tree.nodes) (filter_map fault_start tree.faults) (node_start n) (in_map node_start tree.nodes n c)) (lt-ltb (node_start n) offset (subst (λ k. k < offset) (sym (starts-at (out-Node n))) lt))
  in_before offset (by_fault f c is lt) =
      list_any-is (λ start. nat_lt start offset) (starts tree) f.span.start
      (Contains-append_right (map node_start tree.nodes) (filter_map fault_start tree.faults) f.span.start (in_filter_map fault_start tree.faults f f.span.start c (is-start f.problem f.span is))) (lt-ltb f.span.start offset lt)

  abbrev syntaxes : List StatedSyntax
  syntaxes = stated text tree.nodes

  abbrev l_faults : List Diag
  l_faults = map diag_of tree.faults

  abbrev l_late : List Diag
  l_late = filter_map (syntax_late (starts tree)) syntaxes

  abbrev l_decls : List Diag
  l_decls = judged declared_twice (decls text tree.nodes)

  abbrev l_imports : List Diag
  l_imports = judged imported_twice (imports text tree.nodes)

  abbrev l_packages : List Diag
  l_packages = package_diags (packages text tree.nodes)

  abbrev every : List Diag
  every = diags_of text tree syntaxes (packages text tree.nodes) (imports text tree.nodes) (decls text tree.nodes)

  module _ (d : Diag) where
    abbrev Said : Type 0
    Said = IsProto3Diagnostic text tree d

    -- ---- what is found is said

    decls-said : Contains l_decls d → Said
    decls-said c =
        let h = judged-has (λ before (f : Decl). list_any (λ (e : Decl). bytes_eq e.full_name f.full_name) before) SameName m.DeclaredTwice (λ (f : Decl). f.name_span) name-asked (decls text tree.nodes) d c in
        said.declared_twice h.order h.related h.is

    imports-said : Contains l_imports d → Said
    imports-said c =
        let h = judged-has (λ before (f : ImportFact). list_any (λ (e : ImportFact). bytes_eq e.path f.path) before) SamePath m.ImportedTwice (λ (f : ImportFact). f.span) path-asked (imports text tree.nodes) d c in
        let g = filter_map-order (λ n. import_of text (out-Node n)) tree.nodes h.one h.two h.order in
        let one = import-is text (out-Node g.one) h.one g.one_is in
        let two = import-is text (out-Node g.two) h.two g.two_is in
        said.imported_twice g.order one.3 two.3 (sym one.4 ∙ h.related ∙ two.4) (h.is ∙ ap (diag m.ImportedTwice) two.5)

    packages-said : Contains l_packages d → Said
    packages-said c =
        let h = map-has package_twice (drop 1 (packages text tree.nodes)) d c in
        let g = not_first (packages text tree.nodes) h.source h.there in
        let k = filter_map-order (λ n. package_of text (out-Node n)) tree.nodes g.0 h.source g.1 in
        let one = package-is text (out-Node k.one) g.0 k.one_is in
        let two = package-is text (out-Node k.two) h.source k.two_is in
        said.package_twice k.order one.2 two.2 (sym h.is)

    late-said : Contains l_late d → Said
    late-said c =
        let h = filter_map-has (syntax_late (starts tree)) syntaxes d c in
        let g = filter_map-has (λ n. stated_of text (out-Node n)) tree.nodes h.0 h.1 in
        let t = diag_if-tells (list_any (λ start. nat_lt start h.0.span.start) (starts tree)) m.SyntaxNotFirst h.0.span d h.2 in
        let k = syntax-is text (out-Node g.0) h.0 g.2 in
        said.syntax_not_first g.1 k.1 (before-has h.0.span.start t.0) t.1

    faults-said : Contains l_faults d → Said
    faults-said c = let h = map-has diag_of tree.faults d c in said.unread h.there (sym h.is ∙ unread-diag h.source)

    every-said : Contains every d → Said
    every-said c =
        either (λ c. either (λ c. either faults-said (statements-said text tree d) (Contains-append_cases l_faults (found text tree) d c)) late-said (Contains-append_cases (l_faults ++ found text tree) l_late d c))
        (λ c. either (λ c. either decls-said imports-said (Contains-append_cases l_decls l_imports d c)) packages-said (Contains-append_cases (l_decls ++ l_imports) l_packages d c))
        (Contains-append_cases (l_faults ++ found text tree ++ l_late) (l_decls ++ l_imports ++ l_packages) d c)

    -- ---- what is said is found

    in_file : Contains (l_decls ++ l_imports ++ l_packages) d → Contains every d
    in_file c = Contains-append_right (l_faults ++ found text tree ++ l_late) (l_decls ++ l_imports ++ l_packages) d c

    in_tree : Contains (l_faults ++ found text tree) d → Contains every d
    in_tree c = Contains-append_left (l_faults ++ found text tree ++ l_late) (l_decls ++ l_imports ++ l_packages) d (Contains-append_left (l_faults ++ found text tree) l_late d c)

    in_body : Contains (found text tree) d → Contains every d
    in_body c = in_tree (Contains-append_right l_faults (found text tree) d c)

    in_late : Contains l_late d → Contains every d
    in_late c = Contains-append_left (l_faults ++ found text tree ++ l_late) (l_decls ++ l_imports ++ l_packages) d (Contains-append_right (l_faults ++ found text tree) l_late d c)

    every-has : Said → Contains every d
    every-has (said.unread {f} c is) = in_tree (Contains-append_left l_faults (found text tree) d (subst (Contains l_faults) (unread-diag f ∙ sym is) (in_map diag_of tree.faults f c)))
    every-has (said.number_out_of_range where_is out is) = in_body (either (λ n. number_out text tree d n out is) (λ n. bound_out text tree d n out is) where_is)
    every-has (said.number_kept_free n above below is) = in_body (number_free text tree d n above below is)
    every-has (said.number_used_twice {e} {f} body order within same is) = in_body (field_twice text tree d e f body order within same is)
    every-has (said.number_reserved {numbering} {items} {members} {f} {r} body c range reserves is) =
        in_body (body_reserved text tree d body (interval_reserved text tree d numbering items members (in_reserved numbering text members (reserved_ranges items) f r d c range reserves is)))
    every-has (said.name_reserved {numbering} {items} {members} {f} {l} body c name same is) =
        in_body (body_reserved text tree d body (name_reserved_at text tree d numbering items members (in_name_reserved text numbering members (reserved_names items) f l d c name same is)))
    every-has (said.range_reserved_twice {numbering} {items} {members} {r} {s} {v} body order one two is) =
        in_body (body_reserved text tree d body (interval_twice text tree d numbering items members (in_shared numbering text (reserved_ranges items) r s v d order one two is)))
    every-has (said.name_reserved_twice {numbering} {items} {members} {k} {l} body order same is) =
        in_body (body_reserved text tree d body (name_twice_at text tree d numbering items members (in_names_twice text (reserved_names items) k l d order same is)))
    every-has (said.range_backwards {numbering} {items} {members} {r} body c bounds below is) =
        in_body (body_reserved text tree d body (interval_backwards text tree d numbering items members (in_backwards numbering text (reserved_ranges items) r d c bounds below is)))
    every-has (said.first_not_zero {n} {span} {name} {items} {v} {more} stands eq are other is) =
        in_body (first_found text tree d stands eq (subst (IsFirst text name d) (sym are) (not_zero other is)))
    every-has (said.no_value {n} {span} {name} {items} stands eq are is) = in_body (first_found text tree d stands eq (subst (IsFirst text name d) (sym are) (has_none is)))
    every-has (said.enum_number_out_of_range where_is out is) = in_body (either (λ n. number_out text tree d n out is) (λ n. bound_out text tree d n out is) where_is)
    every-has (said.enum_number_used_twice {e} {f} body never order within same is) = in_body (enum_value_twice text tree d e f body never order within same is)
    every-has (said.map_key {n} {f} stands eq none is) = in_body (key_found text tree d stands eq none is)
    every-has (said.declared_twice {e} {f} order same is) =
        in_file (Contains-append_left (l_decls ++ l_imports) l_packages d (Contains-append_left l_decls l_imports d
        (in_judged (λ before (f : Decl). list_any (λ (e : Decl). bytes_eq e.full_name f.full_name) before) SameName m.DeclaredTwice (λ (f : Decl). f.name_span) asked-name (decls text tree.nodes) e f d order same is)))
    every-has (said.imported_twice {k} {n} {one} {other} {p} {q} {before} {path} order first second same is) =
        let a : ImportFact = record { path = literal_text text before; span = before.span; is_public = p } in
        let b : ImportFact = record { path = literal_text text path; span = path.span; is_public = q } in
        in_file (Contains-append_left (l_decls ++ l_imports) l_packages d (Contains-append_right l_decls l_imports d
        (in_judged (λ before (f : ImportFact). list_any (λ (e : ImportFact). bytes_eq e.path f.path) before) SamePath m.ImportedTwice (λ (f : ImportFact). f.span) asked-path (imports text tree.nodes) a b d
        (order-filter_map (λ n. import_of text (out-Node n)) a b order (ap (import_of text) first) (ap (import_of text) second)) same is)))
    every-has (said.package_twice {k} {n} {one} {other} {before} {name} {parts} {components} order first second is) =
        let a : StatedPackage = record { name = before; fact = record { full_name = dotted text parts; components = parts } } in
        let b : StatedPackage = record { name = name; fact = record { full_name = dotted text components; components = components } } in
        in_file (Contains-append_right (l_decls ++ l_imports) l_packages d
        (subst (Contains l_packages) (sym is) (in_map package_twice (drop 1 (packages text tree.nodes)) b (behind_first (order-filter_map (λ n. package_of text (out-Node n)) a b order (ap (package_of text) first) (ap (package_of text) second))))))
    every-has (said.syntax_not_first {n} {span} {value} c eq before is) =
        let s : StatedSyntax = record { span = span; is_proto3 = says_proto3 text value } in
        in_late (in_filter_map (syntax_late (starts tree)) syntaxes s d (in_filter_map (λ n. stated_of text (out-Node n)) tree.nodes n s c (ap (stated_of text) eq))
        (diag_if-is (list_any (λ start. nat_lt start span.start) (starts tree)) m.SyntaxNotFirst span d (in_before span.start before) is))
    every-has (said.label_not_allowed too_many is) = in_body (label_found text tree d too_many is)

-- ---- the law

module _ (text : List ℕ) (tree : FileTree) (d : Diag) where
  abbrev diags_at : Option Diag → List Diag
  diags_at o = (facts_at o (stated text tree.nodes) text tree).diags

  too_long : 16777216 < length text → opaque text (stated text tree.nodes) ≡ Some (diag m.TextTooLong nowhere)
  too_long lt = ap (λ (b : Bool). cond {A = Option Diag} b (Some (diag m.TextTooLong nowhere)) (not_proto3 (stated text tree.nodes))) (lt-ltb 16777216 (length text) lt)

  short : length text ≤ 16777216 → opaque text (stated text tree.nodes) ≡ not_proto3 (stated text tree.nodes)
  short le = ap (λ (b : Bool). cond {A = Option Diag} b (Some (diag m.TextTooLong nowhere)) (not_proto3 (stated text tree.nodes))) (le-ltb 16777216 (length text) le)

  with_first : (b : Bool) (span : Span) (value : Literal) → says_proto3 text value ≡ b → length text ≤ 16777216 → IsFirstSyntax tree.nodes span value → opaque text (stated text tree.nodes) ≡ cond {A = Option Diag} (not b) (Some (diag m.NotProto3 span)) None
  with_first b span value is le first =
      short le ∙ ap not_proto3 (first-stated text first).1 ∙ ap (λ (b : Bool). cond {A = Option Diag} (not b) (Some (diag m.NotProto3 span)) None) is

  with_none : length text ≤ 16777216 → HasNoSyntax tree.nodes → opaque text (stated text tree.nodes) ≡ Some (diag m.NotProto3 nowhere)
  with_none le none = short le ∙ ap not_proto3 (none-stated text tree.nodes none)

  first-said : length text ≤ 16777216 → (span : Span) (value : Literal) → IsFirstSyntax tree.nodes span value → (b : Bool) → says_proto3 text value ≡ b → Contains (diags_at (opaque text (stated text tree.nodes))) d → IsFileDiagnostic text tree d
  first-said le span value is true says c =
      let listed = in_order-is_list (every text tree) in
      said.of_proto3 le is ((bytes_eq-Decides (literal_text text value) (codes "proto3")).0 says)
      (every-said text tree d (listed.no_other d (subst (λ o. Contains (diags_at o) d) (with_first true span value says le is) c)))
  first-said le span value is false says c =
      said.not_proto3 le is (λ e. let yes = (bytes_eq-Decides (literal_text text value) (codes "proto3")).1 e in absurd (cc (yes, says)))
      (one_only (diag m.NotProto3 span) d (subst (λ o. Contains (diags_at o) d) (with_first false span value says le is) c))

  file-said : Contains (diags_at (opaque text (stated text tree.nodes))) d → IsFileDiagnostic text tree d
  file-said c =
      either (λ lt. said.text_too_long lt (one_only (diag m.TextTooLong nowhere) d (subst (λ o. Contains (diags_at o) d) (too_long lt) c)))
      (λ le. either (λ (h : HasFirst text tree.nodes). first-said le h.0 h.1 h.2 (says_proto3 text h.1) refl c)
      (λ none. said.no_syntax le none (one_only (diag m.NotProto3 nowhere) d (subst (λ o. Contains (diags_at o) d) (with_none le none) c)))
      (cases_first text tree.nodes))
      (cases_lt 16777216 (length text))

  file-has : IsFileDiagnostic text tree d → Contains (diags_at (opaque text (stated text tree.nodes))) d
  file-has (said.text_too_long lt is) = subst (λ o. Contains (diags_at o) d) (sym (too_long lt)) (just (diag m.TextTooLong nowhere) d is)
  file-has (said.not_proto3 {span} {value} le first other is) =
      let no : says_proto3 text value ≡ false = false_from_ne_true (says_proto3 text value) (λ e. other ((bytes_eq-Decides (literal_text text value) (codes "proto3")).0 e)) in
      subst (λ o. Contains (diags_at o) d) (sym (with_first false span value no le first)) (just (diag m.NotProto3 span) d is)
  file-has (said.no_syntax le none is) = subst (λ o. Contains (diags_at o) d) (sym (with_none le none)) (just (diag m.NotProto3 nowhere) d is)
  file-has (said.of_proto3 {span} {value} le first same problem) =
      let yes = (bytes_eq-Decides (literal_text text value) (codes "proto3")).1 same in
      let listed = in_order-is_list (every text tree) in
      subst (λ o. Contains (diags_at o) d) (sym (with_first true span value yes le first)) (listed.listed d (every-has text tree d problem))

pub diagnostics-are_said : DiagnosticsAreSaid
diagnostics-are_said text tree d = (file-said text tree d, file-has text tree d)
