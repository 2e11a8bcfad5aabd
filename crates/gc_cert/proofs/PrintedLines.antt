-- Lines that are printed one after the other are printed as one text.
use Rattle.std.proofs.lemmas.Grind.{common_steps}
use Rattle.std.proofs.Common.{◌≡◌, ℕ, List, [], ◌∷◌, ◌++◌, map, take, drop, refl, sym, ap, ◌∙◌, append_assoc, Option, subst, length, ◌+◌, ◌<◌, ◌≤◌, get_or, arith}
use Rattle.std.proofs.lemmas.List.{append-nil, take-append-drop, take_all, take_more, map-append}
use Rattle.std.proofs.lemmas.List.Concat.{flat_map-append}
use Rattle.gc_text.specs.Lines.{ended, text_of}
use Rattle.gc_graph.specs.Streams.{SendsFront, HasSent}
use Rattle.gc_graph.proofs.Public.{nothing_sent, sent_then, front_sent}
use Rattle.gc_cert.specs.Internal.PrintedLines.{Prints, PrintsFront}

abbrev Lines : Type 0
Lines = List (List ℕ)

abbrev Bytes : Type 0
Bytes = Option (List ℕ)

more_text : (before : List ℕ) (xs ys : Lines) → (before ++ text_of xs) ++ text_of ys ≡ before ++ text_of (xs ++ ys)
more_text before xs ys = append_assoc before (text_of xs) (text_of ys) ∙ ap (λ (t : List ℕ). before ++ t) (sym (flat_map-append ended xs ys))

-- the same with more lines after both
both_longer : (a b : Bytes) (xs ys : Lines) (before mid : List ℕ) → Prints xs a b before mid → HasSent a b (before ++ text_of (xs ++ ys)) (mid ++ text_of ys)
both_longer a b xs ys before mid first = subst (λ (t : List ℕ). HasSent a b t (mid ++ text_of ys)) (more_text before xs ys) (sent_then a b b (before ++ text_of xs) mid mid (text_of ys) (mid ++ text_of ys) first (nothing_sent b mid) refl)

pub prints_then : (a b c : Bytes) (xs ys : Lines) (before mid after : List ℕ) → Prints xs a b before mid → Prints ys b c mid after → Prints (xs ++ ys) a c before after
prints_then a b c xs ys before mid after first second =
    subst (λ (t : List ℕ). HasSent a c t after) (append-nil (before ++ text_of (xs ++ ys)))
    (sent_then a b c (before ++ text_of (xs ++ ys)) (mid ++ text_of ys) after [] after (both_longer a b xs ys before mid first) second (sym (append-nil after)))

-- a prefix of a text is a prefix of a longer text
pub front_longer : (a b : Bytes) (before : List ℕ) (lines : Lines) → SendsFront a b before → PrintsFront lines a b before
front_longer a b before lines failed = front_sent a a b before before (text_of lines) (nothing_sent a before) failed

front_then : (a b c : Bytes) (xs ys : Lines) (before mid : List ℕ) → Prints xs a b before mid → PrintsFront ys b c mid → PrintsFront (xs ++ ys) a c before
front_then a b c xs ys before mid first failed =
    subst (SendsFront a c) (append-nil (before ++ text_of (xs ++ ys))) (front_sent a b c (before ++ text_of (xs ++ ys)) (mid ++ text_of ys) [] (both_longer a b xs ys before mid first) failed)

-- after these lines, part of the others was written
pub front_within : (a b c : Bytes) (xs ys zs all : Lines) (before mid : List ℕ) → Prints xs a b before mid → PrintsFront ys b c mid → (xs ++ ys) ++ zs ≡ all → PrintsFront all a c before
front_within a b c xs ys zs all before mid first failed is =
    subst (λ (ls : Lines). PrintsFront ls a c before) is (subst (SendsFront a c) (more_text before (xs ++ ys) zs) (front_longer a c (before ++ text_of (xs ++ ys)) zs (front_then a b c xs ys before mid first failed)))

-- nothing is printed yet
pub none_printed : (a : Bytes) (before : List ℕ) → Prints [] a a before before
none_printed a before = subst (λ (t : List ℕ). HasSent a a t before) (sym (append-nil before)) (nothing_sent a before)

-- ---- a line for each value

pub one_failed : {X : Type 0} (f : X → List ℕ) (a b c : Bytes) (xs : List X) (i : ℕ) (d : X) (before mid : List ℕ) → i < length xs → Prints (map f (take i xs)) a b before mid → PrintsFront (f (get_or xs i d) ∷ []) b c mid → PrintsFront (map f xs) a c before
one_failed f a b c xs i d before mid lt so_far failed =
    let x = get_or xs i d in
    front_within a b c (map f (take i xs)) (f x ∷ []) (map f (drop (i + 1) xs)) (map f xs) before mid so_far failed
    (ap (λ (ls : Lines). ls ++ map f (drop (i + 1) xs)) (sym (map-append f (take i xs) (x ∷ [])) ∙ ap (map f) (sym (take_more xs i d lt))) ∙ sym (map-append f (take (i + 1) xs) (drop (i + 1) xs)) ∙ ap (map f) (take-append-drop (i + 1) xs))

pub all_printed : {X : Type 0} (f : X → List ℕ) (a b : Bytes) (xs : List X) (i : ℕ) (before after : List ℕ) → length xs ≤ i → Prints (map f (take i xs)) a b before after → Prints (map f xs) a b before after
all_printed {X} f a b xs i before after le so_far = subst (λ (ys : List X). Prints (map f ys) a b before after) (take_all i xs le) so_far

pub printed_out_front : (a b c : Bytes) (lines : Lines) (before after : List ℕ) → before ≡ [] → Prints lines a b before after → SendsFront b c after → SendsFront a c (text_of lines)
printed_out_front a b c lines before after none printed failed = grind (arith, common_steps, append-nil, front_sent)
