-- What a set of requested facets takes in. Assumes nothing.
use Rattle.std.specs.Prelude.{◌≡◌, ℕ, Bool, true, false, cond, ◌||◌, List, [], ◌∷◌, ◌++◌, length, map, reverse, Ok, Err, codes, Result, ◌==◌, nat_lt}
use Rattle.facet.specs.Laws.{all}
use Rattle.std.specs.List.{list_any}
use Rattle.std.specs.Cmp.Lexicographic.{pointwise}
use Rattle.std.specs.Str.{bytes_eq}
use Rattle.facet.specs.Paths.{above}
use Rattle.facet_collector.specs.declared.request_fault.RequestFault.{RequestFault}
use Rattle.facet_collector.specs.declared.request_fault.RequestFault.TheVariants.{BelowRequested, AboveRequested, TooMany}
use Rattle.facet_collector.specs.Children.{insert, member}
use Rattle.facet_collector.specs.Faults.{request_number}

-- the requested facets with f in its place: none is above f, f is above none, and there are at most 16
abbrev pub requested_with : List (List ℕ) → List ℕ → Result (List (List ℕ)) RequestFault
requested_with rs f =
    cond (list_any (λ r. above r f) rs) (Err BelowRequested)
    (cond (list_any (λ r. above f r) rs) (Err AboveRequested)
    (cond (member rs f || nat_lt (length rs) 16) (Ok (insert f rs)) (Err TooMany)))

-- f is taken in, or the requested facets are what they were
abbrev pub Adds : List (List ℕ) → List ℕ → Result Unit RequestFault → List (List ℕ) → Type 0
Adds rs f (Ok u) rs' = requested_with rs f ≡ Ok rs'
Adds rs f (Err e) rs' = (requested_with rs f ≡ Err e) × (rs' ≡ rs)

-- ---- worked cases

-- what each of some that are asked for in turn leaves, up to the first refusal
abbrev pub requested_all : Result (List (List ℕ)) RequestFault → List (List ℕ) → Result (List (List ℕ)) RequestFault
requested_all (Err e) fs = Err e
requested_all (Ok rs) [] = Ok rs
requested_all (Ok rs) (f ∷ fs) = requested_all (requested_with rs f) fs

abbrev pub asked : List (List ℕ) → Result (List (List ℕ)) RequestFault
asked fs = requested_all (Ok []) fs

abbrev pub answers : List (List ℕ) → Result (List (List ℕ)) RequestFault → Bool
answers rs (Ok qs) = pointwise bytes_eq rs qs
answers rs (Err e) = false

abbrev pub refuses : ℕ → Result (List (List ℕ)) RequestFault → Bool
refuses n (Ok rs) = false
refuses n (Err e) = request_number e == n

-- the facets /a and /a/x
abbrev pub a : List ℕ
a = codes "a"

abbrev pub a_x : List ℕ
a_x = codes "a" ++ 0 ∷ codes "x"

-- /a to /p
abbrev pub sixteen : List (List ℕ)
sixteen = map (λ b. b ∷ []) (codes "abcdefghijklmnop")

-- a row for each case
abbrev pub worked : List Bool
worked =
    refuses 6 (asked (a ∷ a_x ∷ []))
    ∷ refuses 7 (asked (a_x ∷ a ∷ []))
    ∷ refuses 6 (asked ([] ∷ a ∷ []))
    ∷ refuses 7 (asked (a ∷ [] ∷ []))
    ∷ answers (a ∷ []) (asked (a ∷ a ∷ []))
    ∷ answers (a ∷ codes "b" ∷ []) (asked (codes "b" ∷ a ∷ []))
    ∷ answers (a ∷ codes "ab" ∷ []) (asked (codes "ab" ∷ a ∷ []))
    ∷ answers sixteen (asked (reverse sixteen))
    ∷ answers sixteen (asked (sixteen ++ a ∷ []))
    ∷ refuses 8 (asked (sixteen ++ codes "q" ∷ []))
    ∷ refuses 6 (asked (sixteen ++ a_x ∷ []))
    ∷ []

abbrev pub WorkedCases : Type 0
WorkedCases = all worked ≡ true
