-- A block of documents, filled one by one. Assumes nothing.
use Rattle.std.proofs.Common.{◌≡◌, ℕ, ◌+◌, ◌-◌, ◌<◌, ◌≤◌, List, [], ◌∷◌, ◌++◌, length, get_or, take, drop, set, sym, ap, ◌∙◌, ⊎_elim, arith, length-drop}
use lib.Ieee.{Float}
use Rattle.std.proofs.lemmas.List.{append_assoc, drop_all, drop-drop, drop-map, drop_more, get_or_append_left, get_or-take, length-take-le, map_more, set_at, take-map}
use Rattle.std.proofs.lemmas.Bool.{cases_lt}
use Rattle.docset.specs.Pairs.{Rising, docs_of, first_doc_of, first_doc, rest, terminated, zero_score}
use Rattle.docset.proofs.Rising.{length_docs, rising_end}

-- after `len` documents of `all`, with `left` to come
module _ (all left : List (ℕ × Float)) (len : ℕ) (is : left ≡ drop len all) where
  pub one_left : (first_doc left ≡ terminated → ⊥) → len < length all
  one_left n = ⊎_elim (λ h. h) (λ h. absurd (n (ap first_doc (is ∙ drop_all len all h)))) (cases_lt len (length all))

  next : len < length all → left ≡ get_or all len (0, zero_score) ∷ drop (len + 1) all
  next h = is ∙ drop_more all len (0, zero_score) h

  pub block_rest : len < length all → rest left ≡ drop (len + 1) all
  block_rest h = ap rest (next h)

  pub block_front : (before : List ℕ) → len < length before → len < length all → set (docs_of (take len all) ++ drop len before) len (first_doc left) ≡ docs_of (take (len + 1) all) ++ drop (len + 1) before
  block_front before b h =
      let front = docs_of (take len all) in
      let n : length front ≡ len = length_docs (take len all) ∙ length-take-le len all (omega arith) in
      let doc = first_doc left in
      let e : doc ≡ (get_or all len (0, zero_score)).0 = ap first_doc (next h) in
      ap (λ (l : List ℕ). set (front ++ l) len doc) (drop_more before len 0 b)
      ∙ set_at front (get_or before len 0) (drop (len + 1) before) doc len n
      ∙ sym (append_assoc front (doc ∷ []) (drop (len + 1) before))
      ∙ ap (λ (l : List ℕ). l ++ drop (len + 1) before) (ap (λ (d : ℕ). front ++ d ∷ []) e ∙ sym (map_more (λ (p : ℕ × Float). p.0) all len (0, zero_score) h))

  pub block_end : Rising left → first_doc left ≡ terminated → length all ≤ len
  block_end r e = let n = ap length (sym is ∙ rising_end left r e) in let k = length-drop len all in omega arith

-- ---- a place among documents that come in blocks

pub at_block : (all : List (ℕ × Float)) (before : List ℕ) (len place : ℕ) → place < len → len ≤ length all → get_or (docs_of (take len all) ++ drop len before) place 0 ≡ first_doc_of (drop place (docs_of all))
at_block all before len place h l =
    let n : length (docs_of (take len all)) ≡ len = length_docs (take len all) ∙ length-take-le len all l in
    let e : length (docs_of all) ≡ length all = length_docs all in
    get_or_append_left (docs_of (take len all)) (drop len before) 0 place (omega arith)
    ∙ ap (λ (l : List ℕ). get_or l place 0) (sym (take-map (λ (p : ℕ × Float). p.0) len all))
    ∙ get_or-take len (docs_of all) place 0 h
    ∙ sym (ap first_doc_of (drop_more (docs_of all) place 0 (omega arith)))

pub past_block : (all : List (ℕ × Float)) (len place : ℕ) → len ≤ place → first_doc_of (drop (place - len) (docs_of (drop len all))) ≡ first_doc_of (drop place (docs_of all))
past_block all len place h =
    let n : len + (place - len) ≡ place = omega arith in
    ap (λ (l : List ℕ). first_doc_of (drop (place - len) l)) (sym (drop-map (λ (p : ℕ × Float). p.0) len all))
    ∙ ap first_doc_of (drop-drop (place - len) len (docs_of all))
    ∙ ap (λ (k : ℕ). first_doc_of (drop k (docs_of all))) n

pub no_block : (all : List (ℕ × Float)) (place : ℕ) → length all ≡ 0 → first_doc_of (drop place (docs_of all)) ≡ terminated
no_block all place e = let n = length_docs all in ap first_doc_of (drop_all place (docs_of all) (omega arith))

pub shorter : (all left : List (ℕ × Float)) (len : ℕ) → left ≡ drop len all → 0 < len → len ≤ length all → length left < length all
shorter all left len is h l = let n = ap length is in let k = length-drop len all in omega arith
