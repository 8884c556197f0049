-- Collectors that count documents. Assumes nothing.
use Rattle.std.specs.Prelude.{ℕ, ◌+◌, Bool, true, false, cond, None, nat_le, Float}
use Rattle.collector.specs.Meaning.{Meaning}
use Rattle.collector.specs.Scores.{reaches}

-- documents whose score passes a test, each worth 1; a count fits up to 4294967295
abbrev pub counting : Bool → (Float → Bool) → Meaning ℕ
counting scored test = record {
  blank = 0;
  join = λ u v. u + v;
  worth = λ _ _ _ x. cond (test x) 1 0;
  refusal = λ _. None;
  fits = λ v. nat_le v 4294967295;
  scored = scored;
  has = λ _. true;
}

-- all documents, whatever their score
abbrev pub count_m : Meaning ℕ
count_m = counting false (λ _. true)

-- the documents whose score reaches a floor
abbrev pub floor_m : Float → Meaning ℕ
floor_m floor = counting true (reaches floor)
