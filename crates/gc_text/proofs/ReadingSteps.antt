-- A text that is read piece by piece: its start, the next piece, the next line, its end.
use Rattle.std.proofs.lemmas.Grind.{common_steps}
use Rattle.std.proofs.Common.{◌≡◌, ℕ, ◌+◌, ◌≤◌, List, [], ◌∷◌, ◌++◌, length, drop, refl, sym, ap, ◌∙◌, arith, subst, append_assoc, Option, Some, None, IfSome, true}
use Rattle.std.specs.Io.KnownBytes.{Consumes, IsAtEnd}
use Rattle.std.proofs.lemmas.List.{append-nil, drop_all, drop-drop, length-drop, length-append}
use Rattle.std.proofs.Math.Seq.{drop-append_seam}
use Rattle.gc_text.specs.Lines.{newline}
use Rattle.gc_text.specs.Internal.Starting.{nothing_read}
use Rattle.gc_text.specs.Reading.{Progress, Place, start, IsAt, IsAtLast, HasTakenLine}

-- what is true of every known text, if a text is known
pub if_known : {P : List ℕ → Type 0} (known : Option (List ℕ)) → ((text : List ℕ) → known ≡ Some text → P text) → IfSome known P
if_known known all = grind (arith, common_steps)

-- ---- the start

-- a reader that has read nothing is at the start
pub at_start : (text : List ℕ) (limit : ℕ) (left : Option (List ℕ)) → left ≡ Some text → IsAt text (start text) (nothing_read limit) left
at_start text limit left is = record { left_is = is; read_is = omega arith; rest_is = refl; taken_is = refl; end_is = λ e. cc }

-- ---- the next piece

-- the reader's place after a piece
pub record HasMoved (text : List ℕ) (p : Progress) (new : Option (List ℕ)) (piece : List ℕ) : Type 0 where
  pub left : new ≡ Some (drop (p.read + length piece) text)
  pub bound : p.read + length piece ≤ length text
  pub parts : drop p.read text ≡ piece ++ drop (p.read + length piece) text

moved_to : (text : List ℕ) (p : Progress) (piece ys : List ℕ) → p.read ≤ length text → drop p.read text ≡ piece ++ ys → HasMoved text p (Some ys) piece
moved_to text p piece ys le parts =
    let behind : drop (p.read + length piece) text ≡ ys = sym (drop-drop (length piece) p.read text) ∙ ap (drop (length piece)) parts ∙ drop-append_seam piece ys in
    record {
      left = ap (λ (l : List ℕ). Some l) (sym behind);
      bound = omega (arith, le, ap length parts, length-append piece ys, length-drop p.read text);
      parts = parts ∙ ap (λ (l : List ℕ). piece ++ l) (sym behind);
    }

pub moved : (text : List ℕ) (place : Place) (p : Progress) (left new : Option (List ℕ)) (piece : List ℕ) → IsAt text place p left → Consumes left new piece → HasMoved text p new piece
moved text place p left None piece h c = absurd (subst (λ (l : Option (List ℕ)). Consumes l None piece) h.left_is c)
moved text place p left (Some ys) piece h c = moved_to text p piece ys h.read_is (subst (λ (l : Option (List ℕ)). Consumes l (Some ys) piece) h.left_is c)

-- ---- the next line

-- a line that was taken from the waiting bytes leaves the reader at the next place
pub line_taken : (text : List ℕ) (place : Place) (old new : Progress) (left : Option (List ℕ)) (line : List ℕ) → IsAt text place old left → old.waiting ≡ line ++ newline ∷ new.waiting → new ≡ record old { waiting = new.waiting; taken = old.taken + 1 }
    → (next : Place) × IsAt text next new left × HasTakenLine line place next
line_taken text place old new left line h parts same =
    let behind = new.waiting ++ drop old.read text in (
      record { rest = behind; taken = place.taken + 1 },
      rw same (record {
        left_is = h.left_is;
        read_is = h.read_is;
        rest_is = refl;
        taken_is = ap (λ (n : ℕ). n + 1) h.taken_is;
        end_is = h.end_is;
      }),
      record {
        parts = h.rest_is ∙ ap (λ (l : List ℕ). l ++ drop old.read text) parts ∙ append_assoc line (newline ∷ new.waiting) (drop old.read text);
        number = refl;
      },
    )

-- ---- the end

-- the input ends
pub at_end : (text : List ℕ) (n : ℕ) (left : Option (List ℕ)) → left ≡ Some (drop n text) → IsAtEnd left → length text ≤ n
at_end text n left is ends = omega (arith, ap length (subst IsAtEnd is ends), length-drop n text)

-- where the input has ended, the rest of the text waits
pub at_last : (text : List ℕ) (place : Place) (p : Progress) (left : Option (List ℕ)) → IsAt text place p left → p.ended ≡ true → p.read ≤ p.limit → IsAtLast text place p
at_last text place p left h ended bounded = grind (arith, common_steps, drop_all, append-nil)

-- where the input ends without another byte, no more was left of the text than waited before
pub last_waits : (text : List ℕ) (place : Place) (before after : Progress) (left new : Option (List ℕ)) → IsAt text place before left → IsAt text place after new → after.ended ≡ true → after.read ≡ before.read → place.rest ≡ before.waiting
last_waits text place before after left new h next ended same = grind (arith, common_steps, drop_all, append-nil)

-- the buffer is empty
pub no_byte : (bytes : List ℕ) → length bytes ≡ 0 → bytes ≡ []
no_byte bytes none = grind (arith, common_steps)
