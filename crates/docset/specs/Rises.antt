-- Pairs whose documents rise. Assumes nothing.
use Rattle.std.specs.Prelude.{◌≡◌, ℕ, zero, suc, ◌+◌, ◌<◌, ◌≤◌, Bool, true, false, cond, List, [], ◌∷◌, length, nat_lt, refl, Float}
use Rattle.std.specs.List.{zip}
use Rattle.std.proofs.Common.{arith, lt-ltb, sym, ap, ◌∙◌}
use Rattle.std.proofs.lemmas.Bool.{and_parts, ltb-true}
use Rattle.std.proofs.lemmas.Slice.Zip.{firsts-zip}
use Rattle.docset.specs.Pairs.{Rising, rises, docs_of, first_doc, all_from, only_above, rising_front, terminated}

below_first : (d n : ℕ) → d + suc n ≤ terminated → d < first_doc (all_from (d + 1) n)
below_first d zero h = omega arith
below_first d (suc n) h = omega arith

pub all_from_rising : (d n : ℕ) → (0 < n → d + n ≤ terminated) → Rising (all_from d n)
all_from_rising d zero h = refl
all_from_rising d (suc n) h =
    let k = h (omega arith) in rw (lt-ltb d _ (below_first d n k)) (all_from_rising (d + 1) n (λ _. omega arith))

-- the documents of pairs are those that were zipped
pub zip_rising : (ds : List ℕ) (ss : List Float) → rises ds ≡ true → length ds ≡ length ss → Rising (zip ds ss)
zip_rising ds ss r e = rw (firsts-zip ds ss (sym e)) r

-- the rising front of any pairs rises
pub front_rising : (ps : List (ℕ × Float)) → Rising (rising_front ps)
front_rising [] = refl
front_rising (p ∷ ps) = kept (nat_lt p.0 terminated) (nat_lt p.0 (first_doc (rising_front ps))) refl refl (front_rising ps)
  where
    kept : (a b : Bool) → nat_lt p.0 terminated ≡ a → nat_lt p.0 (first_doc (rising_front ps)) ≡ b → Rising (rising_front ps) → Rising (cond a (p ∷ cond b (rising_front ps) []) [])
    kept false b e f r = refl
    kept true true e f r = rw f r
    kept true false e f r = rw e

first_within : (ps : List (ℕ × Float)) → Rising ps → first_doc ps ≤ terminated
first_within [] r = omega arith
first_within (p ∷ ps) r =
    let (a, b) = and_parts (nat_lt p.0 (first_doc ps)) (rises (docs_of ps)) r in
    let l = ltb-true p.0 (first_doc ps) a in let w = first_within ps b in omega arith

-- and pairs that rise are all of it
pub front_whole : (ps : List (ℕ × Float)) → Rising ps → rising_front ps ≡ ps
front_whole [] r = refl
front_whole (p ∷ ps) r =
    let (a, b) = and_parts (nat_lt p.0 (first_doc ps)) (rises (docs_of ps)) r in
    let l = ltb-true p.0 (first_doc ps) a in
    let w = first_within ps b in
    ap (λ (t : Bool). cond t (p ∷ only_above p.0 (rising_front ps)) []) (lt-ltb p.0 terminated (omega arith))
    ∙ ap (λ (qs : List (ℕ × Float)). p ∷ only_above p.0 qs) (front_whole ps b)
    ∙ ap (λ (t : Bool). p ∷ cond t ps []) a
