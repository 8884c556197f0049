-- A check accepts exactly what it asks for. Assumes nothing.
use Rattle.std.proofs.Common.{◌≡◌, ℕ, Bool, true, false, cond, eqb, ◌↔◌, List, length, Ok, Err, Result, sym, refl, ◌∙◌, arith, eq-eqb, eqb-true}
use lib.Ieee.{Float}
use Rattle.docset.specs.declared.fault.ScorerFault.{ScorerFault}
use Rattle.docset.specs.declared.fault.ScorerFault.TheVariants.{NotRising, ScoreCount}
use Rattle.docset.specs.Checks.{held_check, Fit}
use Rattle.docset.specs.Pairs.{rises}
use Rattle.docset.proofs.Rising.{rises_steps, rises_below, rises_from}

asked : (a b : Bool) → ◌≡◌ {A = Result Unit ScorerFault} (cond a (cond b (Ok tt) (Err ScoreCount)) (Err NotRising)) (Ok tt) → (a ≡ true) × (b ≡ true)
asked true true e = (refl, refl)
asked true false e = let z : ◌≡◌ {A = ℕ} 0 1 = cc in absurd (omega arith)
asked false b e = let z : ◌≡◌ {A = ℕ} 0 1 = cc in absurd (omega arith)

pub held_exact : (r : Result Unit ScorerFault) (ds : List ℕ) (ss : List Float) → r ≡ held_check ds ss → (r ≡ Ok tt) ↔ Fit ds ss
held_exact r ds ss is = (sound, complete)
  where
    sound : r ≡ Ok tt → Fit ds ss
    sound e =
        let a = asked (rises ds) (eqb (length ds) (length ss)) (sym is ∙ e) in
        record {
          rising = rises_steps ds a.0;
          below = rises_below ds a.0;
          scored = eqb-true (length ds) (length ss) a.1;
        }

    complete : Fit ds ss → r ≡ Ok tt
    complete f = is ∙ rw (rises_from ds f.rising f.below, eq-eqb (length ds) (length ss) f.scored)
