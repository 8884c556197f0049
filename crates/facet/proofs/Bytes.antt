-- Bytes that are written one by one into an array or a buffer. Assumes nothing.
use Rattle.std.proofs.Common.{◌≡◌, ℕ, ◌+◌, ◌<◌, ◌≤◌, ◌%◌, Bool, true, false, cond, List, [], ◌∷◌, ◌++◌, length, take, drop, set, replicate, sym, refl, ap, ◌∙◌, arith, length-append, length-drop, length-set}
use Rattle.std.specs.List.{fold, count_by}
use Rattle.std.proofs.lemmas.List.Sums.{sum_by-cons}
use Rattle.utf8.specs.Octets.{utf8}
use Rattle.facet.specs.Padded.{IsPadded}
use Rattle.std.proofs.lemmas.List.{take_at, drop_at, drop-replicate, append_assoc, append-nil, take_more_set, length-take-le, drop-set-lt, drop-drop, take-append-drop}

-- bytes counted in a byte, where the count fits
abbrev pub one_more : (ℕ → Bool) → ℕ → ℕ → ℕ
one_more test n b = (n + cond (test b) 1 0) % 256

fold_from : (test : ℕ → Bool) (xs : List ℕ) (n : ℕ) → n + length xs ≤ 255 → fold (one_more test) n xs ≡ n + count_by test xs
fold_from test [] n l = omega arith
fold_from test (b ∷ xs) n l =
    let k = one (test b) in
    let m : one_more test n b ≡ n + cond (test b) 1 0 = omega arith in
    fold_from test xs (one_more test n b) (omega arith) ∙ omega (arith, m, sum_by-cons (λ x. cond (test x) 1 0) b xs)
  where
    one : (t : Bool) → cond t 1 0 ≤ 1
    one true = omega arith
    one false = omega arith

pub fold_count : (test : ℕ → Bool) (xs : List ℕ) → length xs ≤ 255 → fold (one_more test) 0 xs ≡ count_by test xs
fold_count test xs l = fold_from test xs 0 (omega arith) ∙ omega arith

-- the first n bytes of `all` are written over `old`, which gave `bytes`, and `left` is still to come
pub record Filled (all old bytes : List ℕ) (n : ℕ) (left : List ℕ) : Type 0 where
  pub same : length bytes ≡ length old
  pub within : n ≤ length old
  pub front : all ≡ take n bytes ++ left
  pub behind : drop n bytes ≡ drop n old

pub length_filled : (all old bytes left : List ℕ) (n : ℕ) → Filled all old bytes n left → length all ≡ n + length left
length_filled all old bytes left n h =
    let s = h.same in
    let t = length-take-le n bytes (let w = h.within in omega arith) in
    ap length h.front ∙ length-append (take n bytes) left ∙ omega arith

pub filled_more : (all old bytes left : List ℕ) (n b : ℕ) → n < length old → Filled all old bytes n (b ∷ left) → Filled all old (set bytes n b) (n + 1) left
filled_more all old bytes left n b l h =
    let s = h.same in
    record {
      same = simp length-set s;
      within = omega arith;
      front = h.front ∙ sym (append_assoc (take n bytes) (b ∷ []) left) ∙ ap (λ (x : List ℕ). x ++ left) (sym (take_more_set bytes n b (omega arith)));
      behind = drop-set-lt (n + 1) bytes n b (omega arith) ∙ sym (drop-drop 1 n bytes) ∙ ap (drop 1) h.behind ∙ drop-drop 1 n old;
    }

pub filled_front : (all old bytes : List ℕ) (n : ℕ) → Filled all old bytes n [] → all ≡ take n bytes
filled_front all old bytes n h = h.front ∙ append-nil (take n bytes)

-- bytes that are copied at once
pub filled_copy : (e old bytes : List ℕ) → length e ≤ length old → bytes ≡ e ++ drop (length e) old → Filled e old bytes (length e) []
filled_copy e old bytes l w = record {
  same = ap length w ∙ simp (length-append, length-drop) (omega arith);
  within = l;
  front = sym (ap (take (length e)) w ∙ take_at e (drop (length e) old) (length e) refl) ∙ sym (append-nil (take (length e) bytes));
  behind = ap (drop (length e)) w ∙ drop_at e (drop (length e) old) (length e) refl;
}

pub filled_whole : (all old bytes : List ℕ) (n m : ℕ) → m ≡ length all → Filled all old bytes n [] → bytes ≡ all ++ drop m old
filled_whole all old bytes n m e h =
    let k : n ≡ m = omega (arith, length_filled all old bytes [] n h) in
    sym (take-append-drop n bytes) ∙ (λ i. sym (filled_front all old bytes n h) i ++ (h.behind ∙ ap (λ (x : ℕ). drop x old) k) i)

-- an array with an encoding in front of zeros
pub padded_filled : (e bytes : List ℕ) (n : ℕ) → utf8 e ≡ true → Filled e (replicate 127 0) bytes n [] → IsPadded (record { bytes = bytes; len = n })
padded_filled e bytes n u h =
    record { full = h.same; within = h.within; text = ap utf8 (sym (filled_front e _ bytes n h)) ∙ u; padded = h.behind ∙ drop-replicate n 127 0 }
