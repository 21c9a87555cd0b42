-- The shares and what is made of them, joined, are those of all files.
use Rattle.std.proofs.Common.{◌≡◌, ℕ, ◌+◌, ◌≤◌, Bool, true, List, [], ◌∷◌, ◌++◌, map, length, refl, suc, sym, ap, ap₂, ◌∙◌, arith, Ok, Result, flat_map, subst}
use Rattle.std.proofs.lemmas.List.{map-append, length-append, length-map}
use Rattle.std.proofs.lemmas.List.Elements.{All-nil, All-cons, All-head, All-tail}
use Rattle.std.specs.List.{enumerate_from}
use Rattle.std.specs.declared.alloc.AllocError.{AllocError}
use Rattle.proto_decls.specs.declared.diagnostic.Diag.{Diag}
use Rattle.proto_decls.specs.declared.named_facts.NamedFacts.{NamedFacts}
use Rattle.proto_resolve.specs.declared.resolve.Links.{Links}
use Rattle.piece_collector.specs.Views.{TextAt}
use Rattle.work_shares.specs.declared.shares.Share.{Share}
use Rattle.work_shares.specs.declared.linked.LinkedShare.{LinkedShare}
use Rattle.work_index.specs.Pieces.{AreNumbersIn, workspace_of}
use Rattle.work_shares.specs.Shares.{pieces_in, AreConsecutive, AreKept, ArePlacedIn, AreRead, AreLinkedBy, AreJoined, IsLinkedIn}
use Rattle.work_index.specs.Workspace.{SourceAt, Workspace, all_facts, resolution_of, diagnostics_of}
use Rattle.work_index.proofs.Steps.{made_from, all_numbered}

more : (n : ℕ) (ss : List Share) (s : Share) → AreConsecutive n ss → s.first ≡ n + length (pieces_in ss) → AreConsecutive n (ss ++ s ∷ [])
more n [] s c begins = (omega (arith, begins), tt)
more n (x ∷ ss) s c begins = (c.0, more (n + length x.pieces.items) ss s c.1 (omega (arith, begins, length-append x.pieces.items (pieces_in ss))))

-- one more share, which takes of the rest of all pieces
pub one_more_share : (old new : List Share) (s : Share) (rest all : List TextAt) → new ≡ old ++ s ∷ [] → AreConsecutive 0 old → pieces_in old ++ rest ≡ all
    → s.first + length rest ≡ length all → AreConsecutive 0 new
one_more_share old new s rest all added c whole first =
    let begins : s.first ≡ 0 + length (pieces_in old) = omega (arith, first, ap length whole, length-append (pieces_in old) rest) in
    subst (λ ss. AreConsecutive 0 ss) (sym added) (more 0 old s c begins)

-- the places of consecutive shares are among the files, if there are so many
pub placed : (files n : ℕ) (ss : List Share) → AreConsecutive n ss → n + length (pieces_in ss) ≤ files → files ≤ 18446744073709551615 → ArePlacedIn files ss
placed files n [] c enough held = All-nil _
placed files n (s ∷ ss) c enough held =
    let long = length-append s.pieces.items (pieces_in ss) in
    All-cons (λ (s : Share). AreNumbersIn files s.first (length s.pieces.items)) s ss
    (record { within = omega (arith, c.0, long, enough); held = held })
    (placed files (n + length s.pieces.items) ss c.1 (omega (arith, long, enough)) held)

-- the places of shares that are all files of a table are among them
pub all_placed : (r : Bool) (ts : List TextAt) (ss : List Share) (files : List NamedFacts) → files ≡ all_facts (workspace_of r ts) → pieces_in ss ≡ ts → AreConsecutive 0 ss
    → length ts ≤ 18446744073709551615 → ArePlacedIn (length files) ss
all_placed r ts ss files is whole c held =
    let n = all_numbered r ts files is held in
    placed (length files) 0 ss c (omega (arith, ap length whole, n.within)) n.held

enumerate_append : {X : Type 0} (n : ℕ) (xs ys : List X) → enumerate_from n (xs ++ ys) ≡ enumerate_from n xs ++ enumerate_from (n + length xs) ys
enumerate_append n [] ys = let e : n ≡ n + 0 = omega arith in ap (λ k. enumerate_from k ys) e
enumerate_append n (x ∷ xs) ys =
    let e : n + 1 + length xs ≡ n + length (x ∷ xs) = omega arith in
    ap (λ l. (n, x) ∷ l) (enumerate_append (n + 1) xs ys ∙ ap (λ k. enumerate_from (n + 1) xs ++ enumerate_from k ys) e)

-- what is made of files is what is made of the first of them, and of the others from their place on
made_append : {X : Type 0} (r : Bool) (f : ℕ × SourceAt → X) (n : ℕ) (ts us : List TextAt) → made_from r f n (ts ++ us) ≡ made_from r f n ts ++ made_from r f (n + length ts) us
made_append r f n ts us =
    let long : length (workspace_of r ts) ≡ length ts = length-map ts _ in
    ap (λ w. map f (enumerate_from n w)) (map-append _ ts us)
    ∙ ap (map f) (enumerate_append n (workspace_of r ts) (workspace_of r us))
    ∙ map-append f (enumerate_from n (workspace_of r ts)) (enumerate_from (n + length (workspace_of r ts)) (workspace_of r us))
    ∙ ap (λ k. made_from r f n ts ++ made_from r f (n + k) us) long

-- the shares of a workspace, joined, are these pieces, what is wrong in each, and their links, if these are kept
pub record AreAllLinked (w : Workspace) (r : Bool) (n : ℕ) (ss : List Share) (ts : List TextAt) (pieces : List TextAt) (links : List Links) (diagnostics : List (List Diag)) : Type 0 where
  pub pieces_are : pieces ≡ ts
  pub links_are : AreKept true ss → links ≡ made_from r (resolution_of w) n ts
  pub diagnostics_are : diagnostics ≡ made_from r (diagnostics_of w) n ts

with_share : {X : Type 0} (q r : Bool) (f : ℕ × SourceAt → X) (n first : ℕ) (ts us : List TextAt) (here rest : List X) → q ≡ r → first ≡ n
    → here ≡ made_from q f first ts → rest ≡ made_from r f (n + length ts) us → here ++ rest ≡ made_from r f n (ts ++ us)
with_share q r f n first ts us here rest alike at is are = ap₂ (λ a b. a ++ b) (is ∙ ap₂ (λ p m. made_from p f m ts) alike at) are ∙ sym (made_append r f n ts us)

joined : (w : Workspace) (r : Bool) (files : List NamedFacts) → files ≡ all_facts w → (n : ℕ) (ss : List Share) (parts : List LinkedShare) → AreRead r ss → AreConsecutive n ss → AreLinkedBy files ss (map Ok parts)
    → AreAllLinked w r n ss (pieces_in ss) (flat_map (λ (p : LinkedShare). p.pieces.items) parts) (flat_map (λ (p : LinkedShare). p.resolutions.links.items) parts) (flat_map (λ (p : LinkedShare). p.resolutions.diagnostics.items) parts)
joined w r files is n [] [] read c a = record { pieces_are = refl; links_are = λ kept. refl; diagnostics_are = refl }
joined w r files is n [] (p ∷ parts) read c a = absurd (omega (arith, a.len))
joined w r files is n (s ∷ ss) [] read c a = absurd (omega (arith, a.len))
joined w r files is n (s ∷ ss) (p ∷ parts) read c a =
    let here : IsLinkedIn w s p = a.each 0 s p refl refl w is in
    let alike : s.reads_others ≡ r = All-head (λ (x : Share). x.reads_others ≡ r) s ss read in
    let rest = joined w r files is (n + length s.pieces.items) ss parts (All-tail (λ (x : Share). x.reads_others ≡ r) s ss read) c.1 (record { len = omega (arith, a.len); each = λ i t linked x y. a.each (suc i) t linked x y }) in
    let us = pieces_in ss in
    record {
      pieces_are = ap₂ (λ a b. a ++ b) here.pieces rest.pieces_are;
      links_are = λ kept. with_share s.reads_others r (resolution_of w) n s.first s.pieces.items us _ _ alike c.0 (here.links (All-head (λ (x : Share). x.keeps_links ≡ true) s ss kept)) (rest.links_are (All-tail (λ (x : Share). x.keeps_links ≡ true) s ss kept));
      diagnostics_are = with_share s.reads_others r (diagnostics_of w) n s.first s.pieces.items us _ _ alike c.0 here.diagnostics rest.diagnostics_are;
    }

-- the linked shares of pieces, joined, are those pieces, what is wrong in each, and their links, if these are kept
pub all_joined : (w : Workspace) (r : Bool) (files : List NamedFacts) → files ≡ all_facts w → (ts : List TextAt) (ss : List Share) (answers : List (Result LinkedShare AllocError)) (found : LinkedShare)
    → pieces_in ss ≡ ts → AreRead r ss → AreConsecutive 0 ss → AreLinkedBy files ss answers → AreJoined answers found → AreAllLinked w r 0 ss ts found.pieces.items found.resolutions.links.items found.resolutions.diagnostics.items
all_joined w r files is ts ss answers found whole read c linked j =
    let P : List (Result LinkedShare AllocError) → Type 0 = λ xs. AreLinkedBy files ss xs in
    let all = joined w r files is 0 ss j.parts read c (subst P j.none_refused linked) in
    record {
      pieces_are = j.pieces ∙ (all.pieces_are ∙ whole);
      links_are = λ kept. j.links ∙ (all.links_are kept ∙ ap (made_from r (resolution_of w) 0) whole);
      diagnostics_are = j.diagnostics ∙ (all.diagnostics_are ∙ ap (made_from r (diagnostics_of w) 0) whole);
    }
