-- The first place of a row that is among the places of another.
use Rattle.std.proofs.Common.{◌≡◌, ℕ, ◌+◌, ◌-◌, ◌<◌, ◌≤◌, min, MatchOption, unwrap_or, false, eqb, ◌⊎◌, Some, None, Option, sym, ap, ◌∙◌, inl, inr, arith}
use Rattle.std.proofs.lemmas.Bool.{cases_Bool, cases_lt, cases_order, eqb-true, eq-eqb}
use Rattle.translation.proofs.Covering.{any_says, any_is}
use Rattle.overlap.specs.Clashes.{Rising, among}
use Rattle.overlap.specs.Rows.{Places, Lined, Running, Skips, shared_by, Common}
use Rattle.overlap.proofs.Firsts.{is_first}

-- the last of a row is above the others
rising_last : (h : ℕ → ℕ) (p : ℕ) → Rising h p → (k : ℕ) → k < p → h k ≤ h (p - 1)
rising_last h p r k l = elim (cases_lt k (p - 1)) [ inl a ↦ (let q = r k (p - 1) a (omega arith) in omega arith) | inr a ↦ (let z : k ≡ p - 1 = omega arith in let w = ap h z in omega arith) ]

rising_first : (h : ℕ → ℕ) (p : ℕ) → Rising h p → (k : ℕ) → k < p → h 0 ≤ h k
rising_first h p r k l = elim (cases_lt 0 k) [ inl a ↦ (let q = r 0 k a l in omega arith) | inr a ↦ (let z : 0 ≡ k = omega arith in let w = ap h z in omega arith) ]

module _ (p q : Places) where
  -- place k of p is none of q's
  abbrev pub Apart : ℕ → Type 0
  Apart k = (j : ℕ) → j < q.many → q.at j ≡ p.at k → ⊥

  among_not : (k : ℕ) → Apart k → among q.at q.many (p.at k) ≡ false
  among_not k h = elim (cases_Bool (among q.at q.many (p.at k))) [ inl e ↦ absurd (let a = any_says (λ j. eqb (q.at j) (p.at k)) q.many e in h a.0 a.1 (eqb-true _ _ a.2)) | inr e ↦ e ]

  shared_none : ((k : ℕ) → k < p.many → Apart k) → None ≡ shared_by p q
  shared_none h = is_first (λ k. among q.at q.many (p.at k)) p.many None (λ k l. among_not k (h k l))

  -- one of them has no places
  pub empty_none : min p.many q.many ≡ 0 → None ≡ shared_by p q
  empty_none z = shared_none (λ k h j l e. omega arith)

  shared_first : (k j : ℕ) → k < p.many → j < q.many → q.at j ≡ p.at k → ((i : ℕ) → i < k → Apart i) → Some k ≡ shared_by p q
  shared_first k j h l e before = is_first (λ k. among q.at q.many (p.at k)) p.many (Some k) (h, any_is (λ j. eqb (q.at j) (p.at k)) q.many j l (eq-eqb (q.at j) (p.at k) e), λ i a. among_not i (before i a))

  -- the places of p before k are none of q's, and those of q before j lie before those of p that are left
  pub record Met (k j : ℕ) : Type 0 where
    pub within : j ≤ q.many
    pub apart : (i : ℕ) → i < k → Apart i
    pub behind : (i l : ℕ) → l < j → k ≤ i → i < p.many → q.at l < p.at i

  module _ (a : Lined p) (b : Lined q) (k j x i : ℕ) (met : Met k j) (h : k < p.many) (is : x ≡ p.at k) (s : Skips q.at q.many j x i) where
    passed : (l : ℕ) → l < i → q.at l < p.at k
    passed l c = elim (cases_lt l j) [ inl d ↦ met.behind k l d (omega arith) h | inr d ↦ (let e = s.below l d c in omega arith) ]

    here : (i < q.many → q.at i ≡ x → ⊥) → Apart k
    here no' l c e =
        elim (cases_order l i) [
          | inl d ↦ (let t : i < q.many = omega arith in no' t (ap q.at (sym d) ∙ e ∙ sym is))
          | inr o ↦ elim o [
            | inl d ↦ (let r = passed l d in omega arith)
            | inr d ↦ (let r = b.rises i l d c in let t = s.there (omega arith) in omega arith)
          ]
        ]

    pub met_more : (i < q.many → q.at i ≡ x → ⊥) → Met (k + 1) i
    met_more no' = record {
      within = s.within;
      apart = λ c d. elim (cases_lt c k) [ inl t ↦ met.apart c t | inr t ↦ (let z : k ≡ c = omega arith in λ l u e. here no' l u (e ∙ ap p.at (sym z))) ];
      behind = λ c l d t u. (let r = passed l d in let w = a.rises k c (omega arith) u in omega arith);
    }

    pub met_found : i < q.many → q.at i ≡ x → Some k ≡ shared_by p q
    met_found c e = shared_first k i h c (e ∙ is) met.apart

    -- all of q lies before
    pub met_past : q.many ≤ i → None ≡ shared_by p q
    met_past c =
        shared_none (λ d t. elim (cases_lt d k) [
          | inl u ↦ met.apart d u
          | inr u ↦ λ l e w. (let v = passed l (omega arith) in elim (cases_order d k) [ inl z ↦ (let y = ap p.at z in omega arith) | inr o ↦ elim o [ inl y ↦ omega arith | inr y ↦ (let r = a.rises k d y t in omega arith) ] ])
        ])

  pub met_all : (k j : ℕ) → p.many ≤ k → Met k j → None ≡ shared_by p q
  met_all k j h met = shared_none (λ i l. met.apart i (omega arith))

  -- rows whose ends lie apart share nothing
  pub ends_apart : Lined p → Lined q → (p.at (p.many - 1) < q.at 0) ⊎ (q.at (q.many - 1) < p.at 0) → None ≡ shared_by p q
  ends_apart a b o =
      shared_none (λ k h j l e. let x = rising_last p.at p.many a.rises k h in let y = rising_first p.at p.many a.rises k h in let z = rising_last q.at q.many b.rises j l in let w = rising_first q.at q.many b.rises j l in elim o [ inl t ↦ omega arith | inr t ↦ omega arith ])

  -- the places of p follow a, and those of q follow b
  pub common : (a n b m : ℕ) (o : Option ℕ) → n ≡ p.many → m ≡ q.many → Running p a → Running q b → Common a n b m o → o ≡ shared_by p q
  common a n b m None en em r t h = shared_none (λ k l j i e. let x = r.follow k l in let y = t.follow j i in h k (omega arith) (omega arith) (omega arith))
  common a n b m (Some k) en em r t h =
      let i : k < p.many = omega (arith, h.0) in
      let c = h.1 in
      let d = h.2 in
      let x = r.follow k i in
      let l : a + k - b < q.many = omega arith in
      let y = t.follow (a + k - b) l in
      shared_first k (a + k - b) i l (omega arith) (λ z n j f e. let w = h.3 z n in let u = r.follow z (omega arith) in let v = t.follow j f in omega arith)

-- from j on, the first place that is not below x, or the end of the row where there is none
pub skips : (f : ℕ → ℕ) (n j x c : ℕ) (o : Option ℕ) → c ≡ n → j ≤ n → MatchOption o ((k : ℕ) → j ≤ k → k < c → f k < x) (λ i. (j ≤ i) × (i < c) × (x ≤ f i) × ((k : ℕ) → j ≤ k → k < i → f k < x)) → Skips f n j x (unwrap_or o c)
skips f n j x c None e h m = record { on = omega arith; within = omega arith; below = λ k a b. m k a b; there = λ l. absurd (omega arith) }
skips f n j x c (Some i) e h m = let b = m.1 in record { on = m.0; within = omega arith; below = m.3; there = λ l. m.2 }
