-- What the fields of a whole segment keep. Assumes nothing.
use Rattle.std.proofs.Common.{◌≡◌, ℕ, zero, suc, ◌<◌, ◌≤◌, false, cond, ◌&&◌, leb, List, [], ◌∷◌, ◌++◌, length, get_or, is_some, Some, None, Option, sym, refl, ◌∙◌, le_of_suc-le-suc, arith, MatchOption}
use Rattle.std.specs.Option.{unwrap_or}
use Rattle.segment.specs.declared.column.Column.{Column as Col}
use Rattle.segment.specs.declared.field.Field.{Field}
use Rattle.segment.specs.declared.field.Kind.{Kind}
use Rattle.segment.specs.declared.field.Kind.TheVariants.{Facet, Other}
use Rattle.segment.specs.declared.segment.Segment.{Segment}
use Rattle.segment.specs.declared.segment_fault.SegmentFault.TheVariants.{Column, Documents}
use Rattle.segment.specs.Fields.{kind_fault, field_fault, fields_from}
use Rattle.segment.specs.Held.{terms_of, rows_of}
use Rattle.segment.specs.Made.{Facets, fields_of, docs_of, at_field, is_facet, kind_terms, kind_rows}
use Rattle.segment.specs.Segments.{rows_are, alive_fits, segment_fault}
use Rattle.segment.proofs.Sounds.{mapped_none, none_from}
use Rattle.segment.proofs.Spans.{both_none}

pub at_field_kind : {X : Type 0} (d : X) (f : Kind → X) (fs : List Field) (i : ℕ) (e : Field) → i < length fs → at_field d f fs i ≡ f (get_or fs i e).kind
at_field_kind d f [] i e h = absurd (omega arith)
at_field_kind d f (g ∷ gs) zero e h = refl
at_field_kind d f (g ∷ gs) (suc i) e h = at_field_kind d f gs i e (le_of_suc-le-suc h)

pub no_field : {X : Type 0} (d : X) (f : Kind → X) (fs : List Field) (i : ℕ) → length fs ≤ i → at_field d f fs i ≡ d
no_field d f [] i h = refl
no_field d f (g ∷ gs) zero h = absurd (omega arith)
no_field d f (g ∷ gs) (suc i) h = no_field d f gs i (le_of_suc-le-suc h)

kinds_sound : (before fs : List Field) (i : ℕ) (e : Field) → fields_from before fs ≡ None → i < length fs → kind_fault (get_or fs i e).kind ≡ None
kinds_sound before [] i e q h = absurd (omega arith)
kinds_sound before (f ∷ fs) zero e q h =
    mapped_none (λ x. Column (length before) x) (kind_fault f.kind) (both_none _ _ (both_none (field_fault before f) (fields_from (before ++ f ∷ []) fs) q).0).0
kinds_sound before (f ∷ fs) (suc i) e q h =
    kinds_sound (before ++ f ∷ []) fs i e (both_none (field_fault before f) (fields_from (before ++ f ∷ []) fs) q).1 (le_of_suc-le-suc h)

-- the columns of a segment are sound
pub columns_sound : (s : Segment) (i : ℕ) (e : Field) → i < length (fields_of s) → kind_fault (get_or (fields_of s) i e).kind ≡ None
columns_sound s i e h =
    kinds_sound [] (fields_of s) i e
    (both_none (fields_from [] (fields_of s)) (cond (leb (docs_of s) 65535 && (rows_are (docs_of s) (fields_of s) && alive_fits (docs_of s) s.alive)) None (Some Documents))
    (none_from (segment_fault (fields_of s) (docs_of s) s.alive) s.sound)).0
    h

-- a kind that is no facet field holds nothing
no_terms : (k : Kind) → is_facet k ≡ false → kind_terms k ≡ []
no_terms (Facet t) e = absurd (let z : ◌≡◌ {A = ℕ} 0 1 = cc in omega arith)
no_terms Other e = refl

no_rows : (k : Kind) → is_facet k ≡ false → kind_rows k ≡ []
no_rows (Facet t) e = absurd (let z : ◌≡◌ {A = ℕ} 0 1 = cc in omega arith)
no_rows Other e = refl

none_held : (f : Kind → List (List ℕ)) → ((k : Kind) → is_facet k ≡ false → f k ≡ []) → (fs : List Field) (i : ℕ) → at_field false is_facet fs i ≡ false → at_field [] f fs i ≡ []
none_held f none [] i e = refl
none_held f none (g ∷ gs) zero e = none g.kind e
none_held f none (g ∷ gs) (suc i) e = none_held f none gs i e

-- ---- what was found at a place

module _ (s : Segment) (place : ℕ) where
  pub some_found : (o : Option Col) → MatchOption o (at_field false is_facet (fields_of s) place ≡ false) (Facets s place) → is_some o ≡ at_field false is_facet (fields_of s) place
  some_found None h = sym h
  some_found (Some c) h = sym h.facet

  pub terms_found : (o : Option Col) (d : Col) → MatchOption o (at_field false is_facet (fields_of s) place ≡ false) (Facets s place) → terms_of d ≡ [] → terms_of (unwrap_or o d) ≡ at_field [] kind_terms (fields_of s) place
  terms_found None d h e = e ∙ sym (none_held kind_terms no_terms (fields_of s) place h)
  terms_found (Some c) d h e = h.terms

  pub rows_found : (o : Option Col) (d : Col) → MatchOption o (at_field false is_facet (fields_of s) place ≡ false) (Facets s place) → rows_of d ≡ [] → rows_of (unwrap_or o d) ≡ at_field [] kind_rows (fields_of s) place
  rows_found None d h e = e ∙ sym (none_held kind_rows no_rows (fields_of s) place h)
  rows_found (Some c) d h e = h.rows
