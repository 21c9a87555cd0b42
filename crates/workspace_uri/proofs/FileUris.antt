-- The URI of a file leads back to its path: it is what is written for the URL of its root with the escaped path behind the root's, and that is a URL.
use Rattle.std.proofs.Common.{◌≡◌, ℕ, suc, ◌+◌, ◌/◌, ◌<◌, Bool, true, false, cond, not, ◌==◌, nat_eq, List, [], ◌∷◌, ◌++◌, length, get_or, take, All, Option, Some, None, Ok, is_some, is_none, option_map, option_and_then, unwrap_or, IsUtf8, codes, refl, sym, ap, ◌∙◌, subst, inl, inr, ⊎_elim, arith, append_assoc, append-nil, length-append, one-add, add-zero, zero-add}
use Rattle.std.specs.List.{concat, list_all, onto_first, starts_with}
use Rattle.std.specs.Option.{option_or}
use Rattle.std.specs.Result.{result_ok}
use Rattle.std.specs.Str.{encode_utf8_all, all_scalars}
use Rattle.std.proofs.Math.Seq.{drop-append_seam, take-append_seam}
use Rattle.std.proofs.lemmas.Bool.{and_parts, and_left, or_from, ne_eqb, eq-eqb, eqb-true, cases_eq, cases_lt, lt-ltb, le-ltb, cond-true, cond-false, both_ways}
use Rattle.std.proofs.lemmas.List.Elements.{All-nil, All-cons, All-head, All-tail, All-append, All-push, All-weaker, All-take}
use Rattle.std.proofs.lemmas.List.Splits.{length-slice_split}
use Rattle.std.proofs.lemmas.Slice.Eq.{bytes_eq-Decides}
use Rattle.std.proofs.lemmas.Option.{cond_some}
use Rattle.std.proofs.lemmas.Str.{IsUtf8-append}
use Rattle.percent_encoding.specs.Percent.{IsKept, percent_encode, percent_decode, is_escape}
use Rattle.percent_encoding.proofs.AsciiSetLemmas.{kept_from_outside}
use Rattle.percent_encoding.proofs.PercentLemmas.{IsByte, percent_encode-append, percent_encode_kept, All-percent_encode, percent_decode_not_percent, KeepsFirst_from_no_escape, round_trip}
use Rattle.url.specs.declared.sets.TheConstants.{PATH}
use Rattle.url.specs.declared.scheme.SchemeType.{SchemeType}
use Rattle.url.specs.declared.scheme.SchemeType.TheVariants.{File}
use Rattle.url.specs.Input.{when}
use Rattle.url.specs.Scheme.{scheme_type, is_special, is_slash}
use Rattle.url.specs.Path.{segment_len, is_windows_drive_letter, IsSegment, IsSegmentList}
use Rattle.url.specs.Parts.{Parts, kind_of, has_authority, needs_guard, pieces, serialize, IsValid}
use Rattle.url.specs.Parser.{with_path, parse_url}
use Rattle.url.specs.Canonical.{first_segment, IsCanonicalFile, IsCanonicalAs, IsCanonical}
use Rattle.url.proofs.InputLemmas.{IsNot, rsplit_once_at}
use Rattle.url.proofs.SetLemmas.{kept_differs, encoded_is_kept}
use Rattle.url.proofs.SchemeLemmas.{scheme_type_file}
use Rattle.url.proofs.PiecesLemmas.{concat-split}
use Rattle.url.proofs.LayoutLemmas.{IsValidHead_same}
use Rattle.url.proofs.ValidLemmas.{hierarchical, special_has_authority, base_from_authority}
use Rattle.url.proofs.PathLemmas.{IsNoSlash, IsDots, dots_from_encoded, push_valid, without_last_valid, encoded_no_slash}
use Rattle.url.proofs.ParsedCanonical.{parse_url_canonical}
use Rattle.url.proofs.Theorems.{parse_url-serialize}
use Rattle.workspace_uri.specs.declared.url_text.TheConstants.{ESCAPED}
use Rattle.workspace_uri.specs.Path.{segments, is_segment, is_workspace_path}
use Rattle.workspace_uri.specs.Uri.{url_of, is_local_file, is_root, folder_in, folder_of, below, path_below, path_below_root, place_in_roots, is_of_earlier_root, document_path, path_of, file_uri}
use Rattle.workspace_uri.specs.Laws.{IsWrittenRoot}
use Rattle.workspace_uri.proofs.StandardFacts.{encoded}
use Rattle.workspace_uri.proofs.UriLemmas.{below_here, EndsInSlash-from_ends_with}
use Rattle.workspace_uri.proofs.ParsedRoots.{parsed_url, root_is_valid}
use lib.Utf8.{scalar, next, encode, scalar_cases}

-- ---- a text is bytes

next_bytes : (n : ℕ) (rest : List ℕ) → All IsByte rest → All IsByte (next n ∷ rest)
next_bytes n rest bytes = All-cons IsByte (next n) rest (omega arith) bytes

one_char : (c : ℕ) → scalar c ≡ true → All IsByte (encode c)
unfolding encode
one_char c ok =
    let most : c < 1114112 = ⊎_elim (λ h. omega arith) (λ h. h.1) (scalar_cases c ok) in
    let last = next_bytes c [] (All-nil IsByte) in
    let two_last = next_bytes (c / 64) (next c ∷ []) last in
    let three_last = next_bytes (c / 4096) (next (c / 64) ∷ next c ∷ []) two_last in
    elim (cases_lt c 128) [
      | inl one ↦ subst (All IsByte) (sym (cond-true _ _ _ (lt-ltb c 128 one))) (All-cons IsByte c [] (omega arith) (All-nil IsByte))
      | inr more ↦ subst (All IsByte) (sym (cond-false _ _ _ (le-ltb c 128 more))) (elim (cases_lt c 2048) [
        | inl two ↦ subst (All IsByte) (sym (cond-true _ _ _ (lt-ltb c 2048 two))) (All-cons IsByte (192 + c / 64) (next c ∷ []) (omega arith) last)
        | inr more ↦ subst (All IsByte) (sym (cond-false _ _ _ (le-ltb c 2048 more))) (elim (cases_lt c 65536) [
          | inl three ↦ subst (All IsByte) (sym (cond-true _ _ _ (lt-ltb c 65536 three))) (All-cons IsByte (224 + c / 4096) (next (c / 64) ∷ next c ∷ []) (omega arith) two_last)
          | inr more ↦ subst (All IsByte) (sym (cond-false _ _ _ (le-ltb c 65536 more))) (All-cons IsByte (240 + c / 262144) (next (c / 4096) ∷ next (c / 64) ∷ next c ∷ []) (omega arith) three_last)
        ])
      ])
    ]

pub text_is_bytes : (cs : List ℕ) → all_scalars cs ≡ true → All IsByte (encode_utf8_all cs)
text_is_bytes [] ok = All-nil IsByte
text_is_bytes (c ∷ cs) ok = let parts = and_parts _ _ ok in All-append IsByte (encode c) (encode_utf8_all cs) (one_char c parts.0) (text_is_bytes cs parts.1)

pub bytes_of : (text : List ℕ) → IsUtf8 text → All IsByte text
bytes_of text utf8 = subst (All IsByte) utf8.1.1 (text_is_bytes utf8.0 utf8.1.0)

-- ---- the escaped path is segments

no_slash : (b : ℕ) → IsNot 47 b → IsKept ESCAPED b → IsNoSlash File b
no_slash b other kept = or_from _ _ (ne_eqb b 47 other) (and_left _ _ (ne_eqb b 92 (kept_differs ESCAPED 92 refl b kept)))

not_dots : (s : List ℕ) → is_segment s ≡ true → IsDots s → ⊥
not_dots s good (inl one) = let bad = subst (λ t. is_segment t ≡ true) one good in cc
not_dots s good (inr two) = let bad = subst (λ t. is_segment t ≡ true) two good in cc

one_segment : (s : List ℕ) → All IsByte s → All (IsNot 47) s → is_segment s ≡ true → IsSegment File (percent_encode ESCAPED s)
one_segment s bytes whole good = record {
  escaped = encoded_is_kept ESCAPED PATH refl refl s;
  whole = encoded_no_slash File ESCAPED s (All-weaker (IsNot 47) (λ b. IsKept ESCAPED b → IsNoSlash File b) no_slash s whole);
  resolved =
      ⊎_elim (λ none. none)
      (λ some. ⊎_elim (λ kept. absurd (kept_differs ESCAPED 37 refl 37 kept refl)) (λ dots. absurd (not_dots s good dots)) some.1)
      (dots_from_encoded ESCAPED s (kept_from_outside ESCAPED 46 (omega arith) refl) bytes);
}

-- characters in front of the first of some segments
abbrev in_front : List ℕ → List (List ℕ) → List (List ℕ)
in_front acc [] = []
in_front acc (s ∷ ss) = (acc ++ s) ∷ ss

in_front_none : (ss : List (List ℕ)) → in_front [] ss ≡ ss
in_front_none [] = refl
in_front_none (s ∷ ss) = refl

in_front_more : (acc : List ℕ) (b : ℕ) (ss : List (List ℕ)) → 0 < length ss → in_front acc (onto_first b ss) ≡ in_front (acc ++ b ∷ []) ss
in_front_more acc b [] some = absurd (omega arith)
in_front_more acc b (s ∷ ss) some = ap (λ t. t ∷ ss) (sym (append_assoc acc (b ∷ []) s))

some_segment : (path : List ℕ) → 0 < length (segments path)
some_segment path = let n = length-slice_split (λ (b : ℕ). b == 47) path in omega arith

encode_slash : (acc path : List ℕ) → percent_encode ESCAPED (acc ++ 47 ∷ path) ≡ percent_encode ESCAPED acc ++ 47 ∷ percent_encode ESCAPED path
encode_slash acc path =
    percent_encode-append ESCAPED acc (47 ∷ path) ∙ ap (λ l. percent_encode ESCAPED acc ++ l) (percent_encode_kept ESCAPED 47 path (kept_from_outside ESCAPED 47 (omega arith) refl))

listed : (front acc path : List ℕ) → IsSegmentList File front → All IsByte acc → All (IsNot 47) acc → All IsByte path → list_all is_segment (in_front acc (segments path)) ≡ true
    → IsSegmentList File (front ++ 47 ∷ percent_encode ESCAPED (acc ++ path))
listed front acc [] list bytes whole rest good =
    let parts = and_parts _ _ good in
    let is = append-nil acc in
    subst (λ s. IsSegmentList File (front ++ 47 ∷ percent_encode ESCAPED s)) (sym is)
    (push_valid File front (percent_encode ESCAPED acc) list (one_segment acc bytes whole (subst (λ s. is_segment s ≡ true) is parts.0)))
listed front acc (b ∷ path) list bytes whole rest good =
    elim (cases_eq b 47) [
      | inl slash ↦
          let split : segments (b ∷ path) ≡ [] ∷ segments path = cond-true _ _ _ (eq-eqb b 47 slash) in
          let parts = and_parts _ _ (subst (λ ss. list_all is_segment (in_front acc ss) ≡ true) split good) in
          let first = one_segment acc bytes whole (subst (λ s. is_segment s ≡ true) (append-nil acc) parts.0) in
          let next = listed (front ++ 47 ∷ percent_encode ESCAPED acc) [] path (push_valid File front (percent_encode ESCAPED acc) list first) (All-nil IsByte) (All-nil (IsNot 47)) (All-tail IsByte b path rest)
          (subst (λ ss. list_all is_segment ss ≡ true) (sym (in_front_none (segments path))) parts.1) in
          subst (λ s. IsSegmentList File (front ++ 47 ∷ s)) (sym (ap (λ c. percent_encode ESCAPED (acc ++ c ∷ path)) slash ∙ encode_slash acc path))
          (subst (IsSegmentList File) (append_assoc front (47 ∷ percent_encode ESCAPED acc) (47 ∷ percent_encode ESCAPED path)) next)
      | inr other ↦
          let split : segments (b ∷ path) ≡ onto_first b (segments path) = cond-false _ _ _ (ne_eqb b 47 other) in
          let next = listed front (acc ++ b ∷ []) path list (All-push IsByte acc b bytes (All-head IsByte b path rest)) (All-push (IsNot 47) acc b whole other) (All-tail IsByte b path rest)
          (subst (λ ss. list_all is_segment ss ≡ true) (ap (in_front acc) split ∙ in_front_more acc b (segments path) (some_segment path)) good) in
          subst (λ l. IsSegmentList File (front ++ 47 ∷ percent_encode ESCAPED l)) (append_assoc acc (b ∷ []) path) next
    ]

-- a list of segments without the empty one at its end
without_end : (front : List ℕ) → IsSegmentList File (front ++ 47 ∷ []) → IsSegmentList File front
without_end front list =
    subst (IsSegmentList File) (ap (λ r. unwrap_or r.0 []) (rsplit_once_at 47 front [] (All-nil (IsNot 47)))) (without_last_valid File (front ++ 47 ∷ []) list)

pub longer : (front path : List ℕ) → IsSegmentList File (front ++ 47 ∷ []) → All IsByte path → is_workspace_path path ≡ true → IsSegmentList File (front ++ 47 ∷ percent_encode ESCAPED path)
longer front path list bytes good =
    listed front [] path (without_end front list) (All-nil IsByte) (All-nil (IsNot 47)) bytes (subst (λ ss. list_all is_segment ss ≡ true) (sym (in_front_none (segments path))) good)

-- ---- what is decoded

pub decode_slash : (ys front : List ℕ) → percent_decode (front ++ 47 ∷ ys) ≡ percent_decode front ++ 47 ∷ percent_decode ys
unfolding percent_decode
decode_slash ys [] = percent_decode_not_percent 47 ys (omega arith)
decode_slash ys (b ∷ []) =
    KeepsFirst_from_no_escape (b ∷ 47 ∷ ys) (λ long percent high low. absurd (omega (arith, high))) ∙ ap (λ l. b ∷ l) (percent_decode_not_percent 47 ys (omega arith))
decode_slash ys (b ∷ c ∷ []) =
    KeepsFirst_from_no_escape (b ∷ c ∷ 47 ∷ ys) (λ long percent high low. absurd (omega (arith, low))) ∙ ap (λ l. b ∷ l) (decode_slash ys (c ∷ []))
decode_slash ys (b ∷ high ∷ low ∷ rest) = by (is_escape b high low) _ (decode_slash ys rest) (decode_slash ys (high ∷ low ∷ rest))
  where
    by : (e : Bool) (v : ℕ) → percent_decode (rest ++ 47 ∷ ys) ≡ percent_decode rest ++ 47 ∷ percent_decode ys
        → percent_decode (high ∷ low ∷ (rest ++ 47 ∷ ys)) ≡ percent_decode (high ∷ low ∷ rest) ++ 47 ∷ percent_decode ys
        → cond e (v ∷ percent_decode (rest ++ 47 ∷ ys)) (b ∷ percent_decode (high ∷ low ∷ (rest ++ 47 ∷ ys)))
        ≡ cond e (v ∷ percent_decode rest) (b ∷ percent_decode (high ∷ low ∷ rest)) ++ 47 ∷ percent_decode ys
    by true v escape byte = ap (λ l. v ∷ l) escape
    by false v escape byte = ap (λ l. b ∷ l) byte

-- ---- the first segment is no other drive letter

first_stays : (f xs : List ℕ) → (let l = f ++ 47 ∷ xs in take (segment_len File l) l) ≡ (let l = f ++ 47 ∷ [] in take (segment_len File l) l)
first_stays [] xs = refl
first_stays (b ∷ f) xs = by (not (is_slash File b)) (first_stays f xs)
  where
    test : ℕ → Bool
    test x = not (is_slash File x)

    by : (t : Bool) → take (segment_len File (f ++ 47 ∷ xs)) (f ++ 47 ∷ xs) ≡ take (segment_len File (f ++ 47 ∷ [])) (f ++ 47 ∷ [])
        → take (cond t (1 + segment_len File (f ++ 47 ∷ xs)) 0) (b ∷ (f ++ 47 ∷ xs)) ≡ take (cond t (1 + segment_len File (f ++ 47 ∷ [])) 0) (b ∷ (f ++ 47 ∷ []))
    by true same =
        ap (λ n. take n (b ∷ (f ++ 47 ∷ xs))) (one-add (segment_len File (f ++ 47 ∷ xs))) ∙ ap (λ l. b ∷ l) same
        ∙ ap (λ n. take n (b ∷ (f ++ 47 ∷ []))) (sym (one-add (segment_len File (f ++ 47 ∷ []))))
    by false same = refl

pub no_drive_of : (xs : List ℕ) (n : ℕ) → All (IsNot 58) xs → All (IsNot 124) xs → is_windows_drive_letter (take n xs) ≡ true → ⊥
unfolding is_windows_drive_letter
no_drive_of xs n colons bars drive =
    let s = take n xs in
    let parts = and_parts _ _ drive in
    let long = eqb-true (length s) 2 (and_parts _ _ parts.0).0 in
    let colon = All-take (IsNot 58) n xs colons 1 0 (omega (arith, long)) in
    let bar = All-take (IsNot 124) n xs bars 1 0 (omega (arith, long)) in
    both_ways _ (or_from _ _ (ne_eqb (get_or s 1 0) 58 colon) (ne_eqb (get_or s 1 0) 124 bar)) parts.1

pub no_colon : (path : List ℕ) → All (IsNot 58) (percent_encode ESCAPED path)
no_colon path = All-percent_encode (IsNot 58) ESCAPED path (kept_differs ESCAPED 58 refl) (λ x h. grind arith)

pub no_bar : (path : List ℕ) → All (IsNot 124) (percent_encode ESCAPED path)
no_bar path = All-percent_encode (IsNot 124) ESCAPED path (kept_differs ESCAPED 124 refl) (λ x h. grind arith)

drive_stays : (front path : List ℕ) → (is_windows_drive_letter (first_segment File (front ++ 47 ∷ [])) ≡ true → get_or (first_segment File (front ++ 47 ∷ [])) 1 0 ≡ 58)
    → is_windows_drive_letter (first_segment File (front ++ 47 ∷ percent_encode ESCAPED path)) ≡ true → get_or (first_segment File (front ++ 47 ∷ percent_encode ESCAPED path)) 1 0 ≡ 58
drive_stays [] path old drive = absurd (no_drive_of (percent_encode ESCAPED path) _ (no_colon path) (no_bar path) drive)
drive_stays (c ∷ f) path old drive =
    let same = first_stays f (percent_encode ESCAPED path) in
    ap (λ s. get_or s 1 0) same ∙ old (ap is_windows_drive_letter (sym same) ∙ drive)

-- ---- what is written

plain : (head path : List ℕ) (guard : Bool) (query fragment : Option (List ℕ)) → guard ≡ false → query ≡ None → fragment ≡ None
    → head ++ (when guard (codes "/.") ++ (path ++ (when (is_some query) (codes "?") ++ (unwrap_or query [] ++ (when (is_some fragment) (codes "#") ++ (unwrap_or fragment [] ++ [])))))) ≡ head ++ path
plain head path true query fragment g q f = cc (g)
plain head path false (Some x) fragment g q f = cc (q)
plain head path false None (Some x) g q f = cc (f)
plain head path false None None g q f = ap (λ l. head ++ l) (append-nil path)

abbrev pub head_of : Parts → List ℕ
head_of url = concat (take 9 (pieces url))

pub written : (url : Parts) → has_authority url ≡ true → url.query ≡ None → url.fragment ≡ None → serialize url ≡ head_of url ++ url.path
written url authority query fragment =
    concat-split (pieces url) 9
    ∙ plain (head_of url) url.path (needs_guard url) url.query url.fragment (and_left _ _ (and_left _ _ (ap not authority))) query fragment

-- ---- the URL of a file

-- the URL of a root, with more behind its path
abbrev file_url : Parts → List ℕ → Parts
file_url url path = with_path url (url.path ++ percent_encode ESCAPED path)

-- what is known of the URL of a root
record IsRootUrl (url : Parts) : Type 0 where
  front : List ℕ
  ends : url.path ≡ front ++ 47 ∷ []
  local : is_local_file url ≡ true
  kind : kind_of url ≡ File
  authority : has_authority url ≡ true
  list : IsSegmentList File url.path
  query : url.query ≡ None
  fragment : url.fragment ≡ None

is_no : {A : Type 0} (o : Option A) → is_none o ≡ true → o ≡ None
is_no None none = refl
is_no (Some x) none = cc (none)

root_url : (url : Parts) → IsValid url → is_root url ≡ true → IsRootUrl url
root_url url valid root =
    let all = and_parts _ _ root in
    let front = and_parts _ _ all.0 in
    let first = and_parts _ _ front.0 in
    let scheme : url.scheme ≡ codes "file" = (bytes_eq-Decides url.scheme (codes "file")).0 (and_parts _ _ first.0).0 in
    let kind : kind_of url ≡ File = ap scheme_type scheme ∙ scheme_type_file in
    let authority = special_has_authority url valid.head (ap is_special kind) in
    let ends = EndsInSlash-from_ends_with url.path all.1 in
    record {
      front = ends.front;
      ends = ends.is;
      local = first.0;
      kind = kind;
      authority = authority;
      list = subst (λ k. IsSegmentList k url.path) kind (hierarchical url valid.path (base_from_authority url authority)).0;
      query = is_no url.query first.1;
      fragment = is_no url.fragment front.1;
    }

joined : (url : Parts) (front more : List ℕ) → url.path ≡ front ++ 47 ∷ [] → url.path ++ more ≡ front ++ 47 ∷ more
joined url front more ends = ap (λ p. p ++ more) ends ∙ append_assoc front (47 ∷ []) more

file_path : (url : Parts) (path : List ℕ) → IsRootUrl url → All IsByte path → is_workspace_path path ≡ true → IsSegmentList File (url.path ++ percent_encode ESCAPED path)
file_path url path is bytes good =
    subst (IsSegmentList File) (sym (joined url is.front (percent_encode ESCAPED path) is.ends)) (longer is.front path (subst (IsSegmentList File) is.ends is.list) bytes good)

file_is_valid : (url : Parts) (path : List ℕ) → IsValid url → IsRootUrl url → All IsByte path → is_workspace_path path ≡ true → IsValid (file_url url path)
file_is_valid url path valid is bytes good = record {
  head = IsValidHead_same url (file_url url path) refl valid.head;
  path =
      let size = length-append is.front (47 ∷ percent_encode ESCAPED path) in
      inl (
        subst (λ k. IsSegmentList k (url.path ++ percent_encode ESCAPED path)) (sym is.kind) (file_path url path is bytes good),
        λ special. subst (λ (p : List ℕ). 0 < length p) (sym (joined url is.front (percent_encode ESCAPED path) is.ends)) (omega (arith, size)),
      );
  query = valid.query;
  fragment = valid.fragment;
}

as_file : (kind : SchemeType) (url : Parts) → kind ≡ File → IsCanonicalAs kind url → IsCanonicalFile url
as_file kind url is canonical = subst (λ k. IsCanonicalAs k url) is canonical

pub from_file : (kind : SchemeType) (url : Parts) → kind ≡ File → IsCanonicalFile url → IsCanonicalAs kind url
from_file kind url is canonical = subst (λ k. IsCanonicalAs k url) (sym is) canonical

file_is_canonical : (url : Parts) (path : List ℕ) → IsRootUrl url → IsCanonical url → IsCanonical (file_url url path)
file_is_canonical url path is canonical =
    let old = as_file (kind_of url) url is.kind canonical in
    let first = λ (p : List ℕ). first_segment File p in
    let before : is_windows_drive_letter (first (is.front ++ 47 ∷ [])) ≡ true → get_or (first (is.front ++ 47 ∷ [])) 1 0 ≡ 58 =
    subst (λ p. is_windows_drive_letter (first p) ≡ true → get_or (first p) 1 0 ≡ 58) is.ends old.drive in
    from_file (kind_of url) (file_url url path) is.kind (record {
      host = old.host;
      drive =
          subst (λ p. is_windows_drive_letter (first p) ≡ true → get_or (first p) 1 0 ≡ 58) (sym (joined url is.front (percent_encode ESCAPED path) is.ends))
          (drive_stays is.front path before);
    })

file_is_written : (url : Parts) (path : List ℕ) → IsRootUrl url → serialize (file_url url path) ≡ serialize url ++ percent_encode ESCAPED path
file_is_written url path is =
    written (file_url url path) is.authority is.query is.fragment
    ∙ sym (append_assoc (head_of url) url.path (percent_encode ESCAPED path))
    ∙ ap (λ l. l ++ percent_encode ESCAPED path) (sym (written url is.authority is.query is.fragment))

-- the URI of a file is the text of that URL
uri_is_url : (root path : List ℕ) → (is : IsWrittenRoot root) → IsValid is.url → IsRootUrl is.url → All IsByte path → is_workspace_path path ≡ true → url_of (file_uri root path) ≡ Some (file_url is.url path)
uri_is_url root path is valid root_is bytes good =
    let url = is.url in
    let parsed : parse_url None root ≡ Ok url = parsed_url (parse_url None root) url is.is in
    let canonical = parse_url_canonical None root url tt valid parsed in
    let text : serialize (file_url url path) ≡ file_uri root path =
    file_is_written url path root_is ∙ ap (λ l. l ++ percent_encode ESCAPED path) is.written ∙ ap (λ l. root ++ l) (encoded path bytes) in
    ap (λ t. result_ok (parse_url None t)) (sym text)
    ∙ ap result_ok (parse_url-serialize (file_url url path) None (file_is_valid url path valid root_is bytes good) (file_is_canonical url path root_is canonical))

-- ---- the path of that URL

file_decodes : (url : Parts) (folder path : List ℕ) → IsRootUrl url → percent_decode url.path ≡ folder → All IsByte path → percent_decode (url.path ++ percent_encode ESCAPED path) ≡ folder ++ path
unfolding percent_decode
file_decodes url folder path is decodes bytes =
    let front = percent_decode is.front in
    let whole : folder ≡ front ++ 47 ∷ [] = sym decodes ∙ ap percent_decode is.ends ∙ decode_slash [] is.front in
    ap percent_decode (joined url is.front (percent_encode ESCAPED path) is.ends)
    ∙ decode_slash (percent_encode ESCAPED path) is.front
    ∙ ap (λ l. front ++ 47 ∷ l) (round_trip ESCAPED path refl bytes)
    ∙ sym (append_assoc front (47 ∷ []) path) ∙ ap (λ l. l ++ path) (sym whole)

file_is_below : (folder path : List ℕ) → IsUtf8 folder → IsUtf8 path → is_workspace_path path ≡ true → below folder (folder ++ path) ≡ Some path
file_is_below folder path folder_text text good =
    let starts : starts_with nat_eq (folder ++ path) folder ≡ true = (bytes_eq-Decides folder (take (length folder) (folder ++ path))).1 (sym (take-append_seam folder path)) in
    sym (below_here folder (folder ++ path) path (IsUtf8-append folder path folder_text text) starts (sym (drop-append_seam folder path)) good)

file_has_path : (root path : List ℕ) → (is : IsWrittenRoot root) → IsRootUrl is.url → IsUtf8 path → is_workspace_path path ≡ true → path_below_root root (file_url is.url path) ≡ Some path
file_has_path root path is root_is text good =
    let named = cond_some (is_root is.url) (percent_decode is.url.path) is.folder is.names in
    let folder : folder_of root ≡ Some is.folder = ap (option_and_then folder_in) is.is ∙ is.names in
    ap (option_and_then (λ f. path_below f (file_url is.url path))) folder
    ∙ cond-true (is_local_file (file_url is.url path)) _ _ root_is.local
    ∙ ap (below is.folder) (file_decodes is.url is.folder path root_is named.1 (bytes_of path text))
    ∙ file_is_below is.folder path is.folder_text text good

-- ---- among several roots

none_of_or : (o p : Option (ℕ × List ℕ)) → option_or o p ≡ None → (o ≡ None) × (p ≡ None)
none_of_or None p none = (refl, none)
none_of_or (Some x) p none = cc (none)

place_behind : (number : ℕ) (before after : List (List ℕ)) (root path : List ℕ) (url : Parts) → place_in_roots number before url ≡ None → path_below_root root url ≡ Some path
    → place_in_roots number (before ++ root ∷ after) url ≡ Some (number + length before, path)
place_behind number [] after root path url none here =
    ap (λ o. option_or (option_map (λ p. (number, p)) o) (place_in_roots (suc number) after url)) here ∙ ap (λ n. Some (n, path)) (sym (add-zero number))
place_behind number (r ∷ before) after root path url none here =
    let parts = none_of_or _ _ none in
    ap (λ o. option_or o (place_in_roots (suc number) (before ++ root ∷ after) url)) parts.0
    ∙ place_behind (suc number) before after root path url parts.1 here
    ∙ ap (λ n. Some (n, path)) (sums number (length before))
  where
    sums : (n m : ℕ) → suc n + m ≡ n + suc m
    sums n m = omega arith

pub of_several_roots : (owner : List ℕ → Option ℕ) (before after : List (List ℕ)) (root path : List ℕ) → IsWrittenRoot root → IsUtf8 path → is_workspace_path path ≡ true
    → ((url : Parts) → url_of (file_uri root path) ≡ Some url → place_in_roots 0 before url ≡ None)
    → is_of_earlier_root (length before) (owner path) ≡ false
    → path_of owner (before ++ root ∷ after) (file_uri root path) ≡ Some path
of_several_roots owner before after root path is text good none later =
    let named = cond_some (is_root is.url) (percent_decode is.url.path) is.folder is.names in
    let valid = root_is_valid root is.url (bytes_of root is.text) is.is named.0 in
    let root_is = root_url is.url valid named.0 in
    let url = file_url is.url path in
    let parsed = uri_is_url root path is valid root_is (bytes_of path text) good in
    let place = place_behind 0 before after root path url (none url parsed) (file_has_path root path is root_is text good) ∙ ap (λ n. Some (n, path)) (zero-add (length before)) in
    let at = λ (o : Option (ℕ × List ℕ)). document_path owner (record { below = o; outside = 47 ∷ serialize url }) in
    ap (λ u. option_map (document_path owner) (option_map (λ v. record { below = place_in_roots 0 (before ++ root ∷ after) v; outside = 47 ∷ serialize v }) u)) parsed
    ∙ ap (λ o. Some (at o)) place
    ∙ ap Some (cond-false _ _ _ later)

none_earlier : (number : Option ℕ) → is_of_earlier_root 0 number ≡ false
none_earlier None = refl
none_earlier (Some n) = le-ltb n 0 (omega arith)

pub lead_back : (owner : List ℕ → Option ℕ) (root path : List ℕ) → IsWrittenRoot root → IsUtf8 path → is_workspace_path path ≡ true
    → path_of owner (root ∷ []) (file_uri root path) ≡ Some path
lead_back owner root path is text good = of_several_roots owner [] [] root path is text good (λ url parsed. refl) (none_earlier (owner path))
