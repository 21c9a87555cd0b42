-- The roots that are made of folders are written as their URLs are.
use Rattle.std.proofs.Common.{◌≡◌, ℕ, ◌-◌, true, nat_eq, List, [], ◌∷◌, ◌++◌, length, drop, Some, None, IsUtf8, codes, refl, sym, ap, ◌∙◌, subst, arith, append_assoc, length-append}
use Rattle.std.specs.List.{ends_with}
use Rattle.std.specs.Result.{result_ok}
use Rattle.std.proofs.Math.Seq.{drop-append_seam}
use Rattle.std.proofs.lemmas.Bool.{cond-true}
use Rattle.std.proofs.lemmas.List.Elements.{All-nil, All-cons, All-append}
use Rattle.std.proofs.lemmas.Slice.Eq.{bytes_eq-Decides}
use Rattle.std.proofs.lemmas.Str.{IsUtf8-append, IsUtf8-from_ascii, IsUtf8-from_is_utf8}
use Rattle.percent_encoding.specs.Percent.{percent_encode, percent_decode}
use Rattle.percent_encoding.proofs.OnLiterals.{percent_encoding_on_literals}
use Rattle.percent_encoding.proofs.PercentLemmas.{percent_decode_not_percent, percent_decode-nil, round_trip}
use Rattle.url.specs.declared.host.Host.TheVariants.{Domain}
use Rattle.url.specs.declared.scheme.SchemeType.TheVariants.{File}
use Rattle.url.specs.Path.{segment_len}
use Rattle.url.specs.Parts.{Parts, kind_of, serialize, IsValid}
use Rattle.url.specs.Parser.{with_path, file_with_host, parse_url}
use Rattle.url.specs.Canonical.{IsCanonical}
use Rattle.url.proofs.InputLemmas.{IsNot}
use Rattle.url.proofs.OnLiterals.{url_on_literals}
use Rattle.url.proofs.PathLemmas.{push_valid, empty_segment, root_only}
use Rattle.url.proofs.SchemeLemmas.{scheme_type_file}
use Rattle.url.proofs.ValidLemmas.{IsAscii-serialize}
use Rattle.url.proofs.Theorems.{parse_url-serialize}
use Rattle.workspace_uri.specs.declared.url_text.TheConstants.{ESCAPED}
use Rattle.workspace_uri.specs.Path.{is_workspace_path}
use Rattle.workspace_uri.specs.Uri.{is_root, folder_in, escaped}
use Rattle.workspace_uri.specs.Laws.{IsWrittenRoot, FoldersHaveWrittenRoots}
use Rattle.workspace_uri.proofs.StandardFacts.{encoded}
use Rattle.workspace_uri.proofs.ParsedRoots.{bare_is_valid}
use Rattle.workspace_uri.proofs.FileUris.{bytes_of, longer, decode_slash, written, from_file, no_drive_of, no_colon, no_bar}

-- the URL of the folder with this path below the topmost one
abbrev folder_url : List ℕ → Parts
folder_url path = with_path (file_with_host (Domain [])) ((47 ∷ percent_encode ESCAPED path) ++ 47 ∷ [])

folder_is_valid : (path : List ℕ) → IsUtf8 path → is_workspace_path path ≡ true → IsValid (folder_url path)
folder_is_valid path utf8 good =
    let list = longer [] path (root_only File) (bytes_of path utf8) good in
    let size = length-append (47 ∷ percent_encode ESCAPED path) (47 ∷ []) in
    let parts = bare_is_valid ((47 ∷ percent_encode ESCAPED path) ++ 47 ∷ []) (push_valid File (47 ∷ percent_encode ESCAPED path) [] list (empty_segment File), omega (arith, size)) in
    record { head = parts.0; path = parts.1; query = tt; fragment = tt }

folder_is_canonical : (path : List ℕ) → IsCanonical (folder_url path)
folder_is_canonical path =
    let xs = percent_encode ESCAPED path ++ 47 ∷ [] in
    let colons = All-append (IsNot 58) (percent_encode ESCAPED path) (47 ∷ []) (no_colon path) (All-cons (IsNot 58) 47 [] (omega arith) (All-nil (IsNot 58))) in
    let bars = All-append (IsNot 124) (percent_encode ESCAPED path) (47 ∷ []) (no_bar path) (All-cons (IsNot 124) 47 [] (omega arith) (All-nil (IsNot 124))) in
    from_file (kind_of (folder_url path)) (folder_url path) scheme_type_file
    (record { host = λ same. cc (same); drive = λ drive. absurd (no_drive_of xs (segment_len File xs) colons bars drive) })

folder_is_written : (path : List ℕ) → IsUtf8 path → serialize (folder_url path) ≡ codes "file://" ++ escaped (47 ∷ path) ++ codes "/"
unfolding percent_encode
folder_is_written path utf8 =
    written (folder_url path) refl refl refl
    ∙ sym (append_assoc (codes "file://") (47 ∷ percent_encode ESCAPED path) (47 ∷ []))
    ∙ ap (λ l. codes "file://" ++ (47 ∷ l) ++ codes "/") (encoded path (bytes_of path utf8))

ends_with_slash : (front : List ℕ) → ends_with nat_eq (front ++ 47 ∷ []) (47 ∷ []) ≡ true
ends_with_slash front =
    let size = length-append front (47 ∷ []) in
    let n : length (front ++ 47 ∷ []) - 1 ≡ length front = omega (arith, size) in
    (bytes_eq-Decides (47 ∷ []) (drop (length (front ++ 47 ∷ []) - 1) (front ++ 47 ∷ []))).1
    (sym (ap (λ k. drop k (front ++ 47 ∷ [])) n ∙ drop-append_seam front (47 ∷ [])))

folder_decodes : (path : List ℕ) → IsUtf8 path → percent_decode ((47 ∷ percent_encode ESCAPED path) ++ 47 ∷ []) ≡ (47 ∷ path) ++ 47 ∷ []
folder_decodes path utf8 =
    decode_slash [] (47 ∷ percent_encode ESCAPED path)
    ∙ ap (λ l. percent_decode (47 ∷ percent_encode ESCAPED path) ++ 47 ∷ l) percent_decode-nil
    ∙ ap (λ l. l ++ 47 ∷ []) (percent_decode_not_percent 47 (percent_encode ESCAPED path) (omega arith) ∙ ap (λ l. 47 ∷ l) (round_trip ESCAPED path refl (bytes_of path utf8)))

folder_names : (path : List ℕ) → IsUtf8 path → folder_in (folder_url path) ≡ Some ((47 ∷ path) ++ 47 ∷ [])
folder_names path utf8 =
    cond-true (is_root (folder_url path)) _ _ (ends_with_slash (47 ∷ percent_encode ESCAPED path)) ∙ ap Some (folder_decodes path utf8)

slash_text : IsUtf8 (47 ∷ [])
unfolding url_on_literals
slash_text = IsUtf8-from_is_utf8 (47 ∷ []) refl

folder_root : (path : List ℕ) → IsUtf8 path → is_workspace_path path ≡ true → IsWrittenRoot (codes "file://" ++ escaped (47 ∷ path) ++ codes "/")
folder_root path utf8 good =
    let valid = folder_is_valid path utf8 good in
    let text = folder_is_written path utf8 in
    record {
      text = subst IsUtf8 text (IsUtf8-from_ascii (serialize (folder_url path)) (IsAscii-serialize (folder_url path) valid));
      url = folder_url path;
      is = ap (λ t. result_ok (parse_url None t)) (sym text) ∙ ap result_ok (parse_url-serialize (folder_url path) None valid (folder_is_canonical path));
      written = text;
      folder = (47 ∷ path) ++ 47 ∷ [];
      names = folder_names path utf8;
      folder_text = IsUtf8-append (47 ∷ path) (47 ∷ []) (IsUtf8-append (47 ∷ []) path slash_text utf8) slash_text;
    }

topmost_root : IsWrittenRoot (codes "file:///")
unfolding url_on_literals percent_encoding_on_literals
topmost_root = record {
  text = IsUtf8-from_is_utf8 (codes "file:///") refl;
  url = with_path (file_with_host (Domain [])) (codes "/");
  is = refl;
  written = refl;
  folder = codes "/";
  names = refl;
  folder_text = slash_text;
}

pub folder_roots : FoldersHaveWrittenRoots
folder_roots = (topmost_root, folder_root)
