-- The words of a space are spelled by its objects and their links.
use Rattle.std.proofs.lemmas.Grind.{common_steps}
use Rattle.std.proofs.Common.{◌≡◌, ℕ, suc, zero, ◌+◌, ◌≤◌, true, cond, ◌==◌, List, [], ◌∷◌, ◌++◌, length, get_or, drop, Some, None, Ok, refl, sym, ◌∙◌, ap, subst, inl, inr, arith}
use Rattle.std.specs.Prelude.{IsOk, slice_index}
use Rattle.std.proofs.lemmas.Bool.{eqb-true, cases_Bool}
use Rattle.std.proofs.lemmas.List.{take_at, drop_at, drop-drop, drop_more, take-append-drop, get_or-append-add}
use Rattle.gc_words.specs.Word.{header_word, read_header}
use Rattle.gc_words.specs.Image.{Block, walk, walk_words, blocks, block_in}
use Rattle.gc_words.specs.Spelling.{block_words, spelled_from, spelled, no_links, link_at}
use Rattle.gc_words.specs.Internal.Spelling.{LaidOut}
use Rattle.gc_words.specs.Space.{SpaceWords, IsSpace, without_links}
use Rattle.gc_words.specs.declared.header.Header.{Header}
use Rattle.gc_words.proofs.Walks.{Walked, First, first, fields_in, object_result, read_back, written_back}
use Rattle.gc_words.proofs.Starts.{whole_first, walked_blocks}
use Rattle.gc_words.proofs.Steps.{passed}
use Rattle.gc_words.proofs.Writes.{space_of}

-- ---- walked objects are laid out

pub laid_out : (ws : List ℕ) (inside at : ℕ) (bs : List (ℕ × Block)) → inside ≤ length ws → Walked inside at ws bs → LaidOut (at + inside) bs
laid_out [] zero at [] room w = tt
laid_out [] zero at (b ∷ bs) room w = cc
laid_out [] (suc inside) at bs room w = absurd (omega arith)
laid_out (v ∷ ws) (suc inside) at bs room w = subst (λ n. LaidOut n bs) (omega arith) (laid_out ws inside (suc at) bs (omega arith) w)
laid_out (v ∷ ws) zero at bs room w =
    let f : First at ws bs (read_header v) = first at v ws bs w in
    subst (LaidOut (at + 0)) (sym f.5)
    (omega arith, whole_first f.0 v ws f.1 f.2, subst (λ n. LaidOut n f.3) (omega arith) (laid_out ws (f.0.len + 1) (suc at) f.3 f.2 f.4))

-- ---- objects that are laid out are walked

pub walk_spelled : (entries : List (ℕ × Block)) (links : ℕ → ℕ) (at : ℕ) → LaidOut at entries → walk true 0 at (spelled_from links entries) ≡ Ok entries
walk_spelled [] links at laid = refl
walk_spelled (entry ∷ rest) links at laid = grind (arith, common_steps, fields_in, take_at, drop_at, object_result, read_back, passed, walk_spelled rest links (at + (entry.1.header.len + 2)) laid.2)

-- ---- walked words are spelled by their objects

-- the links are the words after the starts
abbrev AreLinks : (ℕ → ℕ) → ℕ → List ℕ → Type 0
AreLinks links at ws = (p : ℕ) → links (at + p) ≡ get_or ws (p + 1) 0

next_links : (links : ℕ → ℕ) (at w : ℕ) (ws : List ℕ) → AreLinks links at (w ∷ ws) → AreLinks links (suc at) ws
next_links links at w ws are p =
    let e : suc at + p ≡ at + suc p = omega arith in
    let f : suc p + 1 ≡ suc (p + 1) = omega arith in
    ap links e ∙ are (suc p) ∙ ap (λ n. get_or (w ∷ ws) n 0) f

spelled_rest : (ws : List ℕ) (inside at : ℕ) (bs : List (ℕ × Block)) (links : ℕ → ℕ) → inside ≤ length ws → AreLinks links at ws → Walked inside at ws bs → drop inside ws ≡ spelled_from links bs
spelled_rest [] zero at [] links room are w = refl
spelled_rest [] zero at (b ∷ bs) links room are w = cc
spelled_rest [] (suc inside) at bs links room are w = absurd (omega arith)
spelled_rest (v ∷ ws) (suc inside) at bs links room are w = spelled_rest ws inside (suc at) bs links (omega arith) (next_links links at v ws are) w
spelled_rest (v ∷ ws) zero at bs links room are w =
    let f : First at ws bs (read_header v) = first at v ws bs w in
    let h : Header = f.0 in
    let fits : h.len + 1 ≤ length ws = f.2 in
    let behind : drop (h.len + 1) ws ≡ spelled_from links f.3 = spelled_rest ws (h.len + 1) (suc at) f.3 links fits (next_links links at v ws are) f.4 in
    let word : header_word h ≡ v = (written_back v h f.1).1 in
    let zero_more : at ≡ at + 0 = omega arith in
    let link : links at ≡ get_or ws 0 0 = ap links zero_more ∙ are 0 in
    let one : 1 + h.len ≡ h.len + 1 = omega arith in
    let parts : drop 1 ws ≡ fields_in h ws ++ drop (h.len + 1) ws = sym (take-append-drop h.len (drop 1 ws)) ∙ ap (λ xs. fields_in h ws ++ xs) (drop-drop h.len 1 ws ∙ ap (λ n. drop n ws) one) in
    let opened : ws ≡ get_or ws 0 0 ∷ drop 1 ws = drop_more ws 0 0 (omega arith) in
    ap (λ xs. v ∷ xs) opened
    ∙ (λ i. sym word i ∷ sym link i ∷ parts i)
    ∙ ap (λ xs. header_word h ∷ links at ∷ (fields_in h ws ++ xs)) behind
    ∙ ap (spelled_from links) (sym f.5)

pub spelled_words : (words : List ℕ) → IsOk (walk_words words) → 1 ≤ length words → slice_index words 0 ≡ 0 → words ≡ spelled (link_at words) (blocks words)
spelled_words [] ok low reserved = absurd (omega arith)
spelled_words (w ∷ ws) ok low reserved =
    (λ i. reserved i ∷ spelled_rest ws 0 1 (blocks (w ∷ ws)) (link_at (w ∷ ws)) (omega arith) are (walked_blocks (w ∷ ws) ok) i)
  where
    are : AreLinks (link_at (w ∷ ws)) 1 ws
    are p = let e : 1 + p + 1 ≡ suc (p + 1) = omega arith in ap (λ n. get_or (w ∷ ws) n 0) e

pub laid_out_words : (words : List ℕ) → IsOk (walk_words words) → LaidOut 1 (blocks words)
laid_out_words words ok = subst (λ n. LaidOut n (blocks words)) (omega arith) (laid_out (drop 1 words) 0 1 (blocks words) (omega arith) (walked_blocks words ok))

-- ---- the links that are spelled

link_from : (entries : List (ℕ × Block)) (links : ℕ → ℕ) (at p : ℕ) (b : Block) → LaidOut at entries → block_in entries (at + p) ≡ Some b → get_or (spelled_from links entries) (p + 1) 0 ≡ links (at + p)
link_from [] links at p b laid e = absurd (let no : None ≡ Some b = e in cc)
link_from (entry ∷ rest) links at p b laid e =
    elim (cases_Bool (entry.0 == at + p)) [
      | inl here ↦ (let same : entry.0 ≡ at + p = eqb-true _ _ here in
          let first_place : entry.0 ≡ at = laid.0 in
          let none : p + 1 ≡ 1 = omega arith in
          ap (λ n. get_or (block_words (links entry.0) entry.1 ++ spelled_from links rest) n 0) none ∙ ap links same)
      | inr other ↦ (let found : block_in rest (at + p) ≡ Some b = sym (ap (λ t. cond t (Some entry.1) (block_in rest (at + p))) other) ∙ e in
          let size : ℕ = entry.1.header.len + 2 in
          let behind : (q : ℕ) × (at + p ≡ at + size + q) = later rest (at + size) (at + p) b laid.2 found in
          let is_p : p + 1 ≡ size + (behind.0 + 1) = (let e : at + p ≡ at + size + behind.0 = behind.1 in omega arith) in
          let count : length (block_words (links entry.0) entry.1) ≡ size = (let n : length entry.1.fields ≡ entry.1.header.len = laid.1.fields in omega arith) in
          ap (λ n. get_or (block_words (links entry.0) entry.1 ++ spelled_from links rest) n 0) (is_p ∙ ap (λ n. n + (behind.0 + 1)) (sym count))
          ∙ get_or-append-add (block_words (links entry.0) entry.1) (spelled_from links rest) (behind.0 + 1) 0
          ∙ link_from rest links (at + size) behind.0 b laid.2 (ap (block_in rest) (sym behind.1) ∙ found)
          ∙ ap links (sym behind.1))
    ]
  where
    later : (entries : List (ℕ × Block)) (low place : ℕ) (b : Block) → LaidOut low entries → block_in entries place ≡ Some b → (q : ℕ) × (place ≡ low + q)
    later [] low place b laid e = absurd (let no : None ≡ Some b = e in cc)
    later (entry ∷ rest) low place b laid e =
        elim (cases_Bool (entry.0 == place)) [
          | inl here ↦ (let same : entry.0 ≡ place = eqb-true _ _ here in let first_place : entry.0 ≡ low = laid.0 in (0, omega arith))
          | inr other ↦ (let next : (q : ℕ) × (place ≡ low + (entry.1.header.len + 2) + q) = later rest (low + (entry.1.header.len + 2)) place b laid.2 (sym (ap (λ t. cond t (Some entry.1) (block_in rest place)) other) ∙ e) in
              let is : place ≡ low + (entry.1.header.len + 2) + next.0 = next.1 in (entry.1.header.len + 2 + next.0, omega arith))
        ]

pub link_spelled : (entries : List (ℕ × Block)) (links : ℕ → ℕ) (a : ℕ) (b : Block) → LaidOut 1 entries → block_in entries a ≡ Some b → link_at (spelled links entries) a ≡ links a
link_spelled entries links zero b laid e = absurd (below entries 1 b laid e (omega arith))
  where
    below : (entries : List (ℕ × Block)) (low : ℕ) (b : Block) → LaidOut low entries → block_in entries 0 ≡ Some b → 1 ≤ low → ⊥
    below [] low b laid e h = let no : None ≡ Some b = e in cc
    below (entry ∷ rest) low b laid e h = grind (arith, common_steps, cases_Bool, eqb-true, below rest (low + (entry.1.header.len + 2)) b)
link_spelled entries links (suc p) b laid e =
    let place : suc p ≡ 1 + p = omega arith in
    let behind : suc p + 1 ≡ suc (p + 1) = omega arith in
    ap (λ n. get_or (spelled links entries) n 0) behind ∙ link_from entries links 1 p b laid (ap (block_in entries) (sym place) ∙ e) ∙ ap links (sym place)

-- ---- without links

length_any_links : (entries : List (ℕ × Block)) (links others : ℕ → ℕ) → length (spelled_from links entries) ≡ length (spelled_from others entries)
length_any_links [] links others = refl
length_any_links (entry ∷ rest) links others = grind (arith, common_steps, length_any_links rest links others)

-- words with other links have as many words
pub length_relinked : (links : ℕ → ℕ) (words : List ℕ) → IsOk (walk_words words) → 1 ≤ length words → slice_index words 0 ≡ 0 → length (spelled links (blocks words)) ≡ length words
length_relinked links words ok low reserved =
    ap suc (length_any_links (blocks words) links (link_at words)) ∙ ap length (sym (spelled_words words ok low reserved))

-- a space with other links has the same objects
pub relinked : (links : ℕ → ℕ) (s : SpaceWords) → IsSpace s → IsSpace (record s { words = spelled links (blocks s.words) }) × (blocks (spelled links (blocks s.words)) ≡ blocks s.words)
relinked links s space = grind (arith, common_steps, length_relinked, space_of, walk_spelled, laid_out_words)

pub cleared : (s : SpaceWords) → IsSpace s → IsSpace (without_links s) × (blocks (without_links s).words ≡ blocks s.words)
cleared s space = relinked no_links s space
