-- Parts of collectors, and what holds at the places within a combination. Assumes nothing.
use Rattle.std.specs.Prelude.{◌≡◌, ℕ, Bool, true, false, ◌&&◌, ◌||◌, Some, None, Option, refl}
use Rattle.std.proofs.Common.{sym, ap, ap₂, ◌∙◌, inl, inr, arith, rules}
use Rattle.std.proofs.lemmas.Bool.{and_parts}
use Rattle.std.specs.Option.{option_or}
use Rattle.collector.specs.Combined.{pair_m, switch_m, same_switch, pair_of, same_pair, nested, triple_of, same_triple}
use Rattle.collector.specs.Facets.{Faceted, CountsFacets}
use Rattle.collector.specs.Meaning.{Meaning, Laws}
use Rattle.collector.specs.Parts.{Part, Parted}
use Rattle.collector.specs.Places.{Places, itself, no_facets, then, inside, beside, pair_places, triple_places, switch_places}

-- ---- parts

pub part_self : {V : Type 0} (m : Meaning V) → Part m m Some
part_self m = record {
  blanks = refl;
  worths = λ n s d y. refl;
  joins = λ u v a b p q. let e : u ≡ a = cc in let h : v ≡ b = cc in cc;
  accepts = λ s e. e;
  fit = λ u a e h. let p : a ≡ u = cc in ap m.fits p ∙ h;
  scores = λ e. e;
}

bound : {A B : Type 0} (g : A → Option B) (o : Option A) (b : B) → then g o ≡ Some b → (a : A) × (o ≡ Some a) × (g a ≡ Some b)
bound g None b e = let z : ◌≡◌ {A = ℕ} 0 1 = cc in absurd (omega arith)
bound g (Some a) b e = (a, refl, e)

pub part_of_part : {U V W : Type 0} {m : Meaning U} {n : Meaning V} {x : Meaning W} {f : U → Option V} {g : V → Option W} → Part m n f → Part n x g → Part m x (λ u. then g (f u))
part_of_part {m} {n} {x} {f} {g} P Q = record {
  blanks = ap (then g) P.blanks ∙ Q.blanks;
  worths = λ k s d y. ap (then g) (P.worths k s d y) ∙ Q.worths k s d y;
  joins = λ u v a b p q.
      let (c, fu, gc) = bound g (f u) a p in
      let (d, fv, gd) = bound g (f v) b q in ap (then g) (P.joins u v c d fu fv) ∙ Q.joins c d a b gc gd;
  accepts = λ s e. Q.accepts s (P.accepts s e);
  fit = λ u a e h. let (c, fu, gc) = bound g (f u) a e in Q.fit c a gc (P.fit u c fu h);
  scores = λ e. P.scores (Q.scores e);
}

pub part_switch : {V : Type 0} (b : Bool) (m : Meaning V) → b ≡ true → Part (switch_m b m) m (λ v. v)
part_switch true m e = record {
  blanks = refl;
  worths = λ n s d y. refl;
  joins = λ u v a b p q. rw (p, q);
  accepts = λ s h. h;
  fit = λ u a p h. rw p at h;
  scores = λ h. h;
}
part_switch false m e = let z : ◌≡◌ {A = ℕ} 0 1 = cc in absurd (omega arith)

neither : {A : Type 0} (o p : Option A) → option_or o p ≡ None → (o ≡ None) × (p ≡ None)
neither None p e = (refl, e)
neither (Some x) p e = let z : ◌≡◌ {A = ℕ} 0 1 = cc in absurd (omega arith)

some_is : {A : Type 0} {a b : A} → Some a ≡ Some b → a ≡ b
some_is e = cc

module _ {U V : Type 0} (a : Meaning U) (b : Meaning V) where
  pub part_left : Part (pair_m a b) a (λ v. Some v.0)
  part_left = record {
    blanks = refl;
    worths = λ n s d y. refl;
    joins = λ u v c d p q. let e = some_is p in let h = some_is q in cc;
    accepts = λ s e. (neither _ _ e).0;
    fit = λ u c e h. ap a.fits (sym (some_is e)) ∙ (and_parts _ _ h).0;
    scores = λ e. rw e;
  }

  pub part_right : Part (pair_m a b) b (λ v. Some v.1)
  part_right = record {
    blanks = refl;
    worths = λ n s d y. refl;
    joins = λ u v c d p q. let e = some_is p in let h = some_is q in cc;
    accepts = λ s e. (neither _ _ e).1;
    fit = λ u c e h. ap b.fits (sym (some_is e)) ∙ (and_parts _ _ h).1;
    scores = λ e. right a.scored e;
  }
    where
      right : (c : Bool) → b.scored ≡ true → (c || b.scored) ≡ true
      right true e = refl
      right false e = e

-- ---- places

none_counted : {C V : Type 0} (meaning : C → Meaning V) (c : C) (f : Faceted V) → None ≡ Some f → CountsFacets (meaning c) f
none_counted meaning c f e = let z : ◌≡◌ {A = ℕ} 0 1 = cc in absurd (omega arith)

module _ {C V : Type 0} (meaning : C → Meaning V) (same : C → C → Bool) where
  -- the collector itself
  pub parted_itself : (facets : C → Option (Faceted V)) → ((c : C) → Laws (meaning c)) → ((c d : C) → same c d ≡ true → meaning c ≡ meaning d) → ((c : C) (f : Faceted V) → facets c ≡ Some f → CountsFacets (meaning c) f) → Parted meaning same (itself meaning same facets)
  parted_itself facets lawful agree counts = record {
    lawful_at = λ c _. lawful c;
    part_at = λ c _ _. part_self (meaning c);
    level = λ c d e _. refl;
    alike_at = λ c d e _ _. e;
    agree_at = λ c d _ e. agree c d e;
    counts_at = λ c _ f e. counts c f e;
  }

  -- a collector that is not made of others and counts no facets
  pub parted_alone : ((c : C) → Laws (meaning c)) → ((c d : C) → same c d ≡ true → meaning c ≡ meaning d) → Parted meaning same (itself meaning same no_facets)
  parted_alone lawful agree = parted_itself no_facets lawful agree (none_counted meaning)

  -- a collector inside
  pub parted_inside : {A U : Type 0} {inner-meaning : A → Meaning U} {inner-same : A → A → Bool} {ps : Places A U} (gate : C → Bool) (inner : C → A) (see : V → Option U) → Parted inner-meaning inner-same ps → ((c : C) → gate c ≡ true → Part (meaning c) (inner-meaning (inner c)) see) → ((c d : C) → same c d ≡ true → gate c ≡ gate d) → ((c d : C) → same c d ≡ true → gate c ≡ true → inner-same (inner c) (inner d) ≡ true) → Parted meaning same (inside gate inner see ps)
  parted_inside {ps} gate inner see h part level alike = record {
    lawful_at = λ c p. h.lawful_at (inner c) p;
    part_at = λ c p e. let (o, i) = and_parts (gate c) _ e in part_of_part (part c o) (h.part_at (inner c) p i);
    level = λ c d e p. both c d p (gate c) (gate d) (level c d e) (λ o. h.level (inner c) (inner d) (alike c d e o) p);
    alike_at = λ c d e p o. let (g, i) = and_parts (gate c) _ o in h.alike_at (inner c) (inner d) (alike c d e g) p i;
    agree_at = λ c d p e. h.agree_at (inner c) (inner d) p e;
    counts_at = λ c p f e. h.counts_at (inner c) p f e;
  }
    where
      both : (c d : C) (p : ps.Place) (a b : Bool) → a ≡ b → (a ≡ true → ps.on (inner c) p ≡ ps.on (inner d) p) → (a && ps.on (inner c) p) ≡ (b && ps.on (inner d) p)
      both c d p true true e k = k refl
      both c d p false false e k = refl
      both c d p true false e k = let z : ◌≡◌ {A = ℕ} 0 1 = cc in absurd (omega arith)
      both c d p false true e k = let z : ◌≡◌ {A = ℕ} 0 1 = cc in absurd (omega arith)

  -- these and those
  pub parted_beside : {ps qs : Places C V} → Parted meaning same ps → Parted meaning same qs → Parted meaning same (beside ps qs)
  parted_beside {ps} {qs} h k = record {
    lawful_at = λ c. elim [ inl p ↦ h.lawful_at c p | inr q ↦ k.lawful_at c q ];
    part_at = λ c. elim [ inl p ↦ h.part_at c p | inr q ↦ k.part_at c q ];
    level = λ c d e. elim [ inl p ↦ h.level c d e p | inr q ↦ k.level c d e q ];
    alike_at = λ c d e. elim [ inl p ↦ h.alike_at c d e p | inr q ↦ k.alike_at c d e q ];
    agree_at = λ c d. elim [ inl p ↦ h.agree_at c d p | inr q ↦ k.agree_at c d q ];
    counts_at = λ c. elim [ inl p ↦ h.counts_at c p | inr q ↦ k.counts_at c q ];
  }

-- ---- combinations

-- both of a pair keep the laws
pair_lawful : {U V : Type 0} (a : Meaning U) (b : Meaning V) → Laws a → Laws b → Laws (pair_m a b)
pair_lawful a b h k = search rules

module _ {A B U V : Type 0} {a : A → Meaning U} {b : B → Meaning V} {same-a : A → A → Bool} {same-b : B → B → Bool} where
  pub pair_agree : ((c d : A) → same-a c d ≡ true → a c ≡ a d) → ((c d : B) → same-b c d ≡ true → b c ≡ b d) → (c d : A × B) → same_pair same-a same-b c d ≡ true → pair_of a b c ≡ pair_of a b d
  pair_agree h k c d e = let (l, r) = and_parts _ _ e in ap₂ pair_m (h _ _ l) (k _ _ r)

  pub pair_parted : {ps : Places A U} {qs : Places B V} → ((c : A) → Laws (a c)) → ((c : B) → Laws (b c)) → ((c d : A) → same-a c d ≡ true → a c ≡ a d) → ((c d : B) → same-b c d ≡ true → b c ≡ b d) → Parted a same-a ps → Parted b same-b qs → Parted (pair_of a b) (same_pair same-a same-b) (pair_places a b same-a same-b ps qs)
  pair_parted la lb ga gb pa pb =
      parted_beside _ _ (parted_alone _ _ (λ c. pair_lawful _ _ (la _) (lb _)) (pair_agree ga gb))
      (parted_beside _ _
      (parted_inside _ _ (λ _. true) (λ c. c.0) _ pa (λ c _. part_left _ _) (λ c d _. refl) (λ c d e _. (and_parts _ _ e).0))
      (parted_inside _ _ (λ _. true) (λ c. c.1) _ pb (λ c _. part_right _ _) (λ c d _. refl) (λ c d e _. (and_parts _ _ e).1)))

each : {A B C : Type 0} (same-a : A → A → Bool) (same-b : B → B → Bool) (same-c : C → C → Bool) (t u : A × B × C) → same_triple same-a same-b same-c t u ≡ true → (same-a t.0 u.0 ≡ true) × (same-b t.1 u.1 ≡ true) × (same-c t.2 u.2 ≡ true)
each same-a same-b same-c t u e = let (l, r) = and_parts (same-a t.0 u.0) _ e in let (m, n) = and_parts (same-b t.1 u.1) _ r in (l, m, n)

module _ {A B C U V W : Type 0} {a : A → Meaning U} {b : B → Meaning V} {c : C → Meaning W} {same-a : A → A → Bool} {same-b : B → B → Bool} {same-c : C → C → Bool} where
  pub triple_agree : ((x y : A) → same-a x y ≡ true → a x ≡ a y) → ((x y : B) → same-b x y ≡ true → b x ≡ b y) → ((x y : C) → same-c x y ≡ true → c x ≡ c y) → (t u : A × B × C) → same_triple same-a same-b same-c t u ≡ true → triple_of a b c t ≡ triple_of a b c u
  triple_agree h k l t u e = pair_agree h (pair_agree k l) (nested t) (nested u) e

  pub triple_parted : {ps : Places A U} {qs : Places B V} {rs : Places C W} → ((x : A) → Laws (a x)) → ((x : B) → Laws (b x)) → ((x : C) → Laws (c x)) → ((x y : A) → same-a x y ≡ true → a x ≡ a y) → ((x y : B) → same-b x y ≡ true → b x ≡ b y) → ((x y : C) → same-c x y ≡ true → c x ≡ c y) → Parted a same-a ps → Parted b same-b qs → Parted c same-c rs → Parted (triple_of a b c) (same_triple same-a same-b same-c) (triple_places a b c same-a same-b same-c ps qs rs)
  triple_parted la lb lc ga gb gc pa pb pc =
      let rest : (t : A × B × C) → Part (triple_of a b c t) (pair_m (b t.1) (c t.2)) (λ v. Some v.1) = λ t. part_right (a t.0) (pair_m (b t.1) (c t.2)) in
      parted_beside _ _
      (parted_alone _ _ (λ t. pair_lawful _ _ (la _) (pair_lawful _ _ (lb _) (lc _))) (triple_agree ga gb gc))
      (parted_beside _ _ (parted_inside _ _ (λ _. true) (λ t. t.0) _ pa (λ t _. part_left _ _) (λ t u _. refl) (λ t u e _. (each same-a same-b same-c t u e).0))
      (parted_beside _ _
      (parted_inside _ _ (λ _. true) (λ t. t.1) _ pb (λ t _. part_of_part (rest t) (part_left (b t.1) (c t.2))) (λ t u _. refl) (λ t u e _. (each same-a same-b same-c t u e).1))
      (parted_inside _ _ (λ _. true) (λ t. t.2) _ pc (λ t _. part_of_part (rest t) (part_right (b t.1) (c t.2))) (λ t u _. refl) (λ t u e _. (each same-a same-b same-c t u e).2))))

-- ---- switches

switch_lawful : {V : Type 0} (b : Bool) (m : Meaning V) → Laws m → Laws (switch_m b m)
switch_lawful true m h = search rules
switch_lawful false m h = search rules

level_switch : (b c alike : Bool) → same_switch b c alike ≡ true → b ≡ c
level_switch true true alike e = refl
level_switch false false alike e = refl
level_switch true false alike e = let z : ◌≡◌ {A = ℕ} 0 1 = cc in absurd (omega arith)
level_switch false true alike e = let z : ◌≡◌ {A = ℕ} 0 1 = cc in absurd (omega arith)

switch_agree : {V : Type 0} (b c alike : Bool) (m n : Meaning V) → same_switch b c alike ≡ true → (alike ≡ true → m ≡ n) → switch_m b m ≡ switch_m c n
switch_agree true true alike m n e h = ap (switch_m true) (h e)
switch_agree false false alike m n e h = refl
switch_agree true false alike m n e h = let z : ◌≡◌ {A = ℕ} 0 1 = cc in absurd (omega arith)
switch_agree false true alike m n e h = let z : ◌≡◌ {A = ℕ} 0 1 = cc in absurd (omega arith)

alike_switch : (b c alike : Bool) → same_switch b c alike ≡ true → b ≡ true → alike ≡ true
alike_switch true true alike e o = e
alike_switch true false alike e o = let z : ◌≡◌ {A = ℕ} 0 1 = cc in absurd (omega arith)
alike_switch false c alike e o = let z : ◌≡◌ {A = ℕ} 0 1 = cc in absurd (omega arith)

module _ {S C V : Type 0} {m : C → Meaning V} {same : C → C → Bool} (isOn : S → Bool) (inner : S → C) where
  pub switch_parted : {ps : Places C V} → ((c : C) → Laws (m c)) → ((c d : C) → same c d ≡ true → m c ≡ m d) → Parted m same ps → Parted (λ s. switch_m (isOn s) (m (inner s))) (λ s t. same_switch (isOn s) (isOn t) (same (inner s) (inner t))) (switch_places (λ s. switch_m (isOn s) (m (inner s))) (λ s t. same_switch (isOn s) (isOn t) (same (inner s) (inner t))) isOn inner ps)
  switch_parted lawful agree p =
      parted_beside _ _
      (parted_alone _ _ (λ s. switch_lawful (isOn s) _ (lawful (inner s))) (λ s t e. switch_agree (isOn s) (isOn t) _ _ _ e (agree (inner s) (inner t))))
      (parted_inside _ _ isOn inner _ p (λ s e. part_switch (isOn s) _ e) (λ s t. level_switch (isOn s) (isOn t) _) (λ s t. alike_switch (isOn s) (isOn t) _))
