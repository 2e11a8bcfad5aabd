-- A text that is written piece by piece.
use Rattle.std.proofs.lemmas.Grind.{common_steps}
use Rattle.std.proofs.Common.{◌≡◌, ℕ, List, [], ◌++◌, take, drop, refl, sym, ap, ◌∙◌, append_assoc, Option, subst, length, ◌-◌, arith}
use Rattle.std.proofs.lemmas.List.{take-append-drop, take_all, length-drop}
use Rattle.std.specs.Io.KnownBytes.{Appends}
use Rattle.gc_graph.specs.Streams.{SendsFront, HasSent}
use Rattle.std.proofs.KnownBytes.{Appends-nil, Appends-trans}

-- nothing was written
pub nothing_sent : (old : Option (List ℕ)) (text : List ℕ) → HasSent old old text text
nothing_sent old text = record { front = []; parts = refl; out = Appends-nil old }

more_sent : (old mid new : Option (List ℕ)) (text rest : List ℕ) (count : ℕ) → HasSent old mid text rest → Appends mid new (take count rest) → HasSent old new text (drop count rest)
more_sent old mid new text rest count so_far more = record {
  front = so_far.front ++ take count rest;
  parts = so_far.parts ∙ ap (λ (t : List ℕ). so_far.front ++ t) (sym (take-append-drop count rest)) ∙ sym (append_assoc so_far.front (take count rest) (drop count rest));
  out = Appends-trans old mid new so_far.front (take count rest) so_far.out more;
}

-- one write, with the rest as a slice gives it
pub more_sent_slice : (old mid new : Option (List ℕ)) (text rest : List ℕ) (count : ℕ) → HasSent old mid text rest → Appends mid new (take count rest) → HasSent old new text (take (length rest - count) (drop count rest))
more_sent_slice old mid new text rest count so_far more = grind (arith, common_steps, take_all, length-drop, more_sent)

-- more text waits after the buffer
pub sent_then : (a b c : Option (List ℕ)) (text waiting mid more rest : List ℕ) → HasSent a b text waiting → HasSent b c waiting mid → rest ≡ mid ++ more → HasSent a c (text ++ more) rest
sent_then a b c text waiting mid more rest first second is = grind (arith, common_steps, append_assoc, Appends-trans)

-- the buffer is written, or a prefix of it
pub sent_at_last : (a b c : Option (List ℕ)) (text waiting : List ℕ) → HasSent a b text waiting → Appends b c waiting → Appends a c text
sent_at_last a b c text waiting first out = subst (Appends a c) (sym first.parts) (Appends-trans a b c first.front waiting first.out out)

-- a prefix of the buffer is a prefix of the whole text
pub front_sent : (a b c : Option (List ℕ)) (text waiting more : List ℕ) → HasSent a b text waiting → SendsFront b c waiting → SendsFront a c (text ++ more)
front_sent a b c text waiting more first (front, rest, parts, out) = (
  first.front ++ front,
  rest ++ more,
  ap (λ (t : List ℕ). t ++ more) (first.parts ∙ ap (λ (t : List ℕ). first.front ++ t) parts ∙ sym (append_assoc first.front front rest)) ∙ append_assoc (first.front ++ front) rest more,
  Appends-trans a b c first.front front first.out out,
)
