-- Where the objects of a walk are among the words.
use Rattle.std.proofs.lemmas.Grind.{common_steps}
use Rattle.std.proofs.Common.{◌≡◌, ℕ, suc, zero, ◌+◌, ◌≤◌, cond, ◌==◌, List, [], ◌∷◌, length, get_or, take, drop, Some, None, Result, Ok, refl, sym, ◌∙◌, ap, subst, inl, inr, arith}
use Rattle.std.specs.Prelude.{slice_index, IsOk}
use Rattle.std.specs.Result.{result_unwrap_or}
use Rattle.std.proofs.lemmas.Bool.{eqb-true, cases_Bool}
use Rattle.gc_words.specs.Word.{read_header}
use Rattle.gc_words.specs.Image.{Block, walk_words, blocks, block_in, block_at}
use Rattle.gc_words.specs.Internal.Spelling.{IsBlock}
use Rattle.gc_words.specs.Internal.Walking.{StandsIn}
use Rattle.gc_words.specs.declared.header.Header.{Header}
use Rattle.gc_words.proofs.Walks.{Walked, First, first, fields_in, written_back}

-- the block is at place a, if the words begin at place `at`
pub record StandsAt (ws : List ℕ) (at a : ℕ) (b : Block) : Type 0 where
  pub offset : ℕ
  pub place : a ≡ at + offset
  pub fits : offset + (b.header.len + 2) ≤ length ws
  pub header : read_header (get_or ws offset 0) ≡ Some b.header
  pub fields : b.fields ≡ take b.header.len (drop (offset + 2) ws)
  pub whole : IsBlock b

pub whole_first : (h : Header) (w : ℕ) (ws : List ℕ) → read_header w ≡ Some h → h.len + 1 ≤ length ws → IsBlock (record { header = h; fields = fields_in h ws })
whole_first h w ws is room = grind (arith, common_steps, written_back)

later : (w : ℕ) (ws : List ℕ) (at a : ℕ) (b : Block) → StandsAt ws (suc at) a b → StandsAt (w ∷ ws) at a b
later w ws at a b s = record {
  offset = suc s.offset;
  place = let e : a ≡ suc at + s.offset = s.place in omega arith;
  fits = let f : s.offset + (b.header.len + 2) ≤ length ws = s.fits in omega arith;
  header = s.header;
  fields = (let e : suc (s.offset + 2) ≡ suc s.offset + 2 = omega arith in s.fields ∙ ap (λ n. take b.header.len (drop n (w ∷ ws))) e);
  whole = s.whole;
}

pub stands : (ws : List ℕ) (inside at : ℕ) (bs : List (ℕ × Block)) (a : ℕ) (b : Block) → Walked inside at ws bs → block_in bs a ≡ Some b → StandsAt ws at a b
stands [] inside at [] a b w e = absurd (let no : None ≡ Some b = e in cc)
stands [] inside at (x ∷ bs) a b w e = cc
stands (v ∷ ws) (suc inside) at bs a b w e = later v ws at a b (stands ws inside (suc at) bs a b w e)
stands (v ∷ ws) zero at bs a b w e =
    let f : First at ws bs (read_header v) = first at v ws bs w in
    let here : Block = record { header = f.0; fields = fields_in f.0 ws } in
    let found : cond (at == a) (Some here) (block_in f.3 a) ≡ Some b = ap (λ bs. block_in bs a) (sym f.5) ∙ e in
    elim (cases_Bool (at == a)) [
      | inl same ↦ (let is : here ≡ b = (let s : Some here ≡ Some b = sym (ap (λ t. cond t (Some here) (block_in f.3 a)) same) ∙ found in cc) in
          subst (StandsAt (v ∷ ws) at a) is
          (record {
            offset = 0;
            place = sym (eqb-true at a same) ∙ omega arith;
            fits = (let r : f.0.len + 1 ≤ length ws = f.2 in omega arith);
            header = f.1;
            fields = refl;
            whole = whole_first f.0 v ws f.1 f.2;
          }))
      | inr other ↦ later v ws at a b (stands ws (f.0.len + 1) (suc at) f.3 a b f.4 (sym (ap (λ t. cond t (Some here) (block_in f.3 a)) other) ∙ found))
    ]

pub ok_is : (r : Result (List (ℕ × Block)) ℕ) → IsOk r → r ≡ Ok (result_unwrap_or r [])
ok_is r e = grind (arith, common_steps)

pub walked_blocks : (words : List ℕ) → IsOk (walk_words words) → walk_words words ≡ Ok (blocks words)
walked_blocks words e = ok_is (walk_words words) e

-- ---- in a whole space

pub stands_in : (words : List ℕ) (a : ℕ) (b : Block) → IsOk (walk_words words) → block_at words a ≡ Some b → StandsIn words a b
stands_in [] a b ok e = absurd (let no : None ≡ Some b = e in cc)
stands_in (v ∷ ws) a b ok e =
    let s : StandsAt ws 1 a b = stands ws 0 1 (blocks (v ∷ ws)) a b (walked_blocks (v ∷ ws) ok) e in
    let at : a ≡ suc s.offset = s.place ∙ omega arith in
    record {
      low = omega arith;
      fits = let f : s.offset + (b.header.len + 2) ≤ length ws = s.fits in omega arith;
      header = ap (λ n. read_header (slice_index (v ∷ ws) n)) at ∙ s.header;
      fields = (let e : suc (s.offset + 2) ≡ a + 2 = omega arith in s.fields ∙ ap (λ n. take b.header.len (drop n (v ∷ ws))) e);
      whole = s.whole;
    }
