-- The places that the library finds are the grammar's.
use Rattle.std.proofs.Common.{◌≡◌, ◌==◌, ◌+◌, ◌≤◌, ◌<◌, ℕ, Bool, true, false, List, [], ◌∷◌, length, drop, length-drop, drop-drop, drop_of_length-le, refl, ap, arith, suc, subst, ◌∙◌, sym}
use Rattle.std.specs.Prelude.{unwrap_or, not, ltb, cond}
use borrow.Author.Tests.{lt-ltb, le-ltb, ltb-true, ltb-false}
use Rattle.std.specs.List.{position, position_or_len}
use Rattle.std.proofs.lemmas.List.Sums.{prefix_len-le-length}
use Rattle.grammar.specs.Bytes.{SP}
use Rattle.grammar.specs.Fields.{words, starts, attach}
use Rattle.grammar.proofs.Basics.{suc-ltb}
use Rattle.span.specs.Places.{upto, words_by}
use Rattle.span.proofs.Laws.{next_word}

pub upto_is : (c : ℕ) (xs : List ℕ) → position_or_len (λ x. x == c) xs ≡ upto c xs
unfolding upto
upto_is c [] = refl
upto_is c (x ∷ xs) = grind (arith, upto_is c xs)

-- the first place of a byte, or the length
pub before_is : (c : ℕ) (xs : List ℕ) → unwrap_or (position (λ x. x == c) xs) (length xs) ≡ upto c xs
before_is c xs =
    let b = prefix_len-le-length (λ (x : ℕ). not (x == c)) xs in
    let e = upto_is c xs in
    grind (arith, b, e)

-- the first place that passes, or the length
pub or_length : (p : ℕ → Bool) (xs : List ℕ) → unwrap_or (position p xs) (length xs) ≡ position_or_len p xs
or_length p xs =
    let b : position_or_len p xs ≤ length xs = prefix_len-le-length (λ x. not (p x)) xs in
    grind arith

-- spaces before a word are passed over
abbrev other : ℕ → Bool
other x = not (x == SP)

spaces_words : (xs : List ℕ) → words xs ≡ words (drop (position_or_len other xs) xs)
unfolding words
spaces_words [] = refl
spaces_words (x ∷ xs) = go (x == SP) refl (spaces_words xs)
  where
    go : (b : Bool) → (x == SP) ≡ b → words xs ≡ words (drop (position_or_len other xs) xs)
        → cond b (words xs) (attach x (starts xs) (words xs)) ≡ words (drop (cond (not (not b)) (1 + position_or_len other xs) 0) (x ∷ xs))
    go true e h = h ∙ ap (λ (i : ℕ). words (drop i (x ∷ xs))) (let m : suc (position_or_len other xs) ≡ 1 + position_or_len other xs = omega arith in m)
    go false e h = rw e

spaces_starts : (xs : List ℕ) → starts (drop (position_or_len other xs) xs) ≡ ltb (position_or_len other xs) (length xs)
spaces_starts [] = refl
spaces_starts (x ∷ xs) = go (x == SP) refl (spaces_starts xs)
  where
    go : (b : Bool) → (x == SP) ≡ b → starts (drop (position_or_len other xs) xs) ≡ ltb (position_or_len other xs) (length xs)
        → starts (drop (cond (not (not b)) (1 + position_or_len other xs) 0) (x ∷ xs)) ≡ ltb (cond (not (not b)) (1 + position_or_len other xs) 0) (length (x ∷ xs))
    go true e h =
        let m : suc (position_or_len other xs) ≡ 1 + position_or_len other xs = omega arith in
        subst (λ (i : ℕ). starts (drop i (x ∷ xs)) ≡ ltb i (length (x ∷ xs))) m (h ∙ sym (suc-ltb (position_or_len other xs) (length xs)))
    go false e h = rw (e, lt-ltb 0 (length (x ∷ xs)) (omega arith))

-- the field behind the spaces at a place
space : 32 ≡ SP
space = refl

pub field_behind : (l : List ℕ) (at k e : ℕ) → at ≤ length l → k ≡ position_or_len (λ x. not (x == 32)) (drop at l) → e ≡ at + k + upto SP (drop (at + k) l)
    → words (drop at l) ≡ words_by l (record { start = at + k; end = e })
field_behind l at k e h q32 r =
    let q : k ≡ position_or_len other (drop at l) = subst (λ (n : ℕ). k ≡ position_or_len (λ x. not (x == n)) (drop at l)) space q32 in
    let d : drop k (drop at l) ≡ drop (at + k) l = drop-drop k at l in
    let m : position_or_len other (drop at l) ≤ length (drop at l) = prefix_len-le-length (λ x. not (other x)) (drop at l) in
    let n = length-drop at l in
    let w : words (drop at l) ≡ words (drop (at + k) l) = spaces_words (drop at l) ∙ ap (λ (i : ℕ). words (drop i (drop at l))) (sym q) ∙ ap words d in
    let s : starts (drop (at + k) l) ≡ ltb k (length (drop at l)) = sym (ap starts d) ∙ ap (λ (i : ℕ). starts (drop i (drop at l))) q ∙ spaces_starts (drop at l) ∙ ap (λ (i : ℕ). ltb i (length (drop at l))) (sym q) in
    let t : ltb k (length (drop at l)) ≡ ltb (at + k) (length l) = less_by (omega (arith, n)) in
    next_word l at (at + k) e w (s ∙ t) (omega (arith, m, n, q)) r
  where
    less_by : length (drop at l) + at ≡ length l → ltb k (length (drop at l)) ≡ ltb (at + k) (length l)
    less_by f = go (ltb k (length (drop at l))) refl
      where
        go : (b : Bool) → ltb k (length (drop at l)) ≡ b → b ≡ ltb (at + k) (length l)
        go true g = let z = ltb-true k (length (drop at l)) g in sym (lt-ltb (at + k) (length l) (omega (arith, f)))
        go false g = let z = ltb-false k (length (drop at l)) g in sym (le-ltb (at + k) (length l) (omega (arith, f)))

-- past the end there is neither a field nor a byte
pub no_field : (l : List ℕ) (at : ℕ) → length l < at → words (drop at l) ≡ []
unfolding words
no_field l at h = rw (drop_of_length-le l {i = at} (omega arith))

pub no_byte : (l : List ℕ) (at c : ℕ) → length l < at → at ≡ at + upto c (drop at l)
unfolding upto
no_byte l at c h = rw (drop_of_length-le l {i = at} (omega arith)) (omega arith)
