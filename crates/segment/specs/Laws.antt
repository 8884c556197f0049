-- What the places of faults mean, and a worked column. Assumes nothing.
use Rattle.std.specs.Prelude.{◌≡◌, ℕ, ◌<◌, Bool, true, false, List, [], ◌∷◌, ◌++◌, codes, MatchOption}
use Rattle.segment.specs.Columns.{sound}
use Rattle.segment.specs.Items.{items, first_failing}

-- where no place fails all pass, and else the first that fails is told
abbrev pub FirstPlace : Type 0
FirstPlace =
    (test : ℕ → Bool) (n : ℕ) → MatchOption (first_failing test 0 n) ((i : ℕ) → i < n → test i ≡ true) (λ k. (k < n) × (test k ≡ false) × ((i : ℕ) → i < k → test i ≡ true))

-- ---- segment S: the terms /a, /a/x, /a/x/p, /a/x/q, /a/xy and /b, and five documents

abbrev pub terms_s : List (List ℕ)
terms_s =
    codes "a"
    ∷ (codes "a" ++ 0 ∷ codes "x")
    ∷ (codes "a" ++ 0 ∷ codes "x" ++ 0 ∷ codes "p")
    ∷ (codes "a" ++ 0 ∷ codes "x" ++ 0 ∷ codes "q")
    ∷ (codes "a" ++ 0 ∷ codes "xy")
    ∷ codes "b"
    ∷ []

abbrev pub rows_s : List (List ℕ)
rows_s = (2 ∷ 3 ∷ []) ∷ (4 ∷ []) ∷ (0 ∷ 5 ∷ []) ∷ [] ∷ (1 ∷ 4 ∷ []) ∷ []

abbrev pub bytes_s : List ℕ
bytes_s = 97 ∷ 97 ∷ 0 ∷ 120 ∷ 97 ∷ 0 ∷ 120 ∷ 0 ∷ 112 ∷ 97 ∷ 0 ∷ 120 ∷ 0 ∷ 113 ∷ 97 ∷ 0 ∷ 120 ∷ 121 ∷ 98 ∷ []

abbrev pub ends_s : List ℕ
ends_s = 1 ∷ 4 ∷ 9 ∷ 14 ∷ 18 ∷ 19 ∷ []

abbrev pub row_ends_s : List ℕ
row_ends_s = 2 ∷ 3 ∷ 5 ∷ 5 ∷ 7 ∷ []

abbrev pub ordinals_s : List ℕ
ordinals_s = 2 ∷ 3 ∷ 4 ∷ 0 ∷ 5 ∷ 1 ∷ 4 ∷ []

-- its tables are sound, and hold its terms and rows
pub record Worked : Type 0 where
  pub accepted : sound bytes_s ends_s row_ends_s ordinals_s ≡ true
  pub terms : items ends_s bytes_s ≡ terms_s
  pub rows : items row_ends_s ordinals_s ≡ rows_s
