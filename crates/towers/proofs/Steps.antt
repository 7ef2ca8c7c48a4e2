-- Steps of the search. Assumes nothing.
use Rattle.std.proofs.Common.{◌≡◌, ℕ, ◌+◌, ◌*◌, ◌%◌, ◌^◌, ◌<◌, Bool, true, false, T, eqb, List, length, is_some, IfSome, Some, None, Option, sym, refl, ap, ◌∙◌, subst, ap₂, inl, inr, mod-eq_of_lt, arith, eqb→eq, MatchOption}
use native.Mathlib.Decide.{dec_lt}
use lib.Bits.{bit_xor, xor_self, xor_assoc, xor_comm}
use lib.Dec.{eqb_refl}
use Rattle.rings.specs.Laws.{Laws}
use Rattle.towers.specs.Matrices.{apply}
use Rattle.towers.specs.Place.{IsRoot, powers_of, image, Solution, Serves, Built, Candidate}
use Rattle.towers.specs.Search.{Ahead, Earlier, Least}
use Rattle.towers.specs.Tests.{Whether}
use Rattle.towers.specs.declared.pair.Pair.{Pair}
use Rattle.towers.proofs.Order.{before_then, not_before, moved}

-- ---- the powers of a code

module _ (w : ℕ) (mul : ℕ → ℕ → ℕ) (R : Laws w 1 mul) (g s t : ℕ) (code : g < 2 ^ w) (square : s ≡ mul (g % 2 ^ w) (g % 2 ^ w)) where
  pub square_is : s ≡ mul g g
  square_is = square ∙ ap₂ mul (mod-eq_of_lt code) (mod-eq_of_lt code)

  square_lt : s < 2 ^ w
  square_lt = subst (λ (x : ℕ). x < 2 ^ w) (sym square_is) (R.closed g g code code)

  pub cube_is : t ≡ mul (g % 2 ^ w) (s % 2 ^ w) → t ≡ mul g (mul g g)
  cube_is e = e ∙ ap₂ mul (mod-eq_of_lt code) (mod-eq_of_lt square_lt ∙ square_is)

  fourth_is : t ≡ mul (s % 2 ^ w) (s % 2 ^ w) → t ≡ mul (mul g g) (mul g g)
  fourth_is e = e ∙ ap₂ mul (mod-eq_of_lt square_lt ∙ square_is) (mod-eq_of_lt square_lt ∙ square_is)

  pub root_decided : t ≡ mul (s % 2 ^ w) (s % 2 ^ w) → Whether (IsRoot 1 mul g) (eqb t (bit_xor g 1))
  root_decided e = go (eqb t (bit_xor g 1)) refl
    where
      go : (b : Bool) → eqb t (bit_xor g 1) ≡ b → Whether (IsRoot 1 mul g) b
      go true p = sym (fourth_is e) ∙ eqb→eq t (bit_xor g 1) (subst T (sym p) tt)
      go false p = λ root. subst T p (subst (λ (x : ℕ). T (eqb x (bit_xor g 1))) (sym (fourth_is e ∙ root)) (eqb_refl (bit_xor g 1)))

-- ---- the pair at two bytes

module _ (oct : ℕ → ℕ → ℕ) (r y : ℕ) (ps : List ℕ) (is : ps ≡ powers_of 1 oct r) where
  at_r : (v : ℕ) → apply ps v ≡ image 1 oct r v
  unfolding image
  at_r v = ap (λ (cs : List ℕ). apply cs v) is

  pub taken : (o : Option ℕ) → Solution ps 16 y o → is_some o ≡ true → (u : ℕ) → Serves oct r y u → ⊥
  taken None s e u S = absurd (subst T (sym e) tt)
  taken (Some v) s e u S = S.new v s.0 (sym (at_r v) ∙ s.1)

  free : (o : Option ℕ) → Solution ps 16 y o → is_some o ≡ false → (v : ℕ) → v < 16 → image 1 oct r v ≡ y → ⊥
  free None s e v h q = s v h (at_r v ∙ q)
  free (Some w) s e v h q = absurd (subst T e tt)

  pub unserved : ((v : ℕ) → v < 16 → apply ps v ≡ bit_xor (oct y y) y → ⊥) → (u : ℕ) → Serves oct r y u → ⊥
  unserved n u S =
      n u S.lu (at_r u ∙ ap (λ (x : ℕ). bit_xor x (image 1 oct r u)) (sym (xor_self y)) ∙ xor_assoc y y (image 1 oct r u) ∙ ap (bit_xor y) (sym S.square) ∙ xor_comm y (oct y y))

  pub candidate : (gs us : List ℕ) → r < 256 → y < 256 → IsRoot 1 oct r → (o : Option ℕ) → Solution ps 16 y o → is_some o ≡ false
      → (u : ℕ) → u < 16 → apply ps u ≡ bit_xor (oct y y) y → (q : Pair) → Built gs us ps oct y u q → Candidate gs us oct r y q
  candidate gs us hr hy root o s e u hu eu q C = record {
    code = u;
    serves = record {
      lr = hr;
      root = root;
      ly = hy;
      lu = hu;
      square = sym (ap (bit_xor y) (sym (at_r u) ∙ eu ∙ xor_comm (oct y y) y) ∙ sym (xor_assoc y y (oct y y)) ∙ ap (λ (x : ℕ). bit_xor x (oct y y)) (xor_self y));
      new = free o s e;
    };
    built = subst (λ (cs : List ℕ). Built gs us cs oct y u q) is C;
  }

-- ---- the best so far

module _ (gs us : List ℕ) (oct : ℕ → ℕ → ℕ) where
  pub begins : Least gs us oct 0 None
  begins = record { held = tt; seen = λ r y u S h. absurd (omega arith) }

  -- r is no root: go on by a row
  pub skips : (r : ℕ) (best : Option Pair) → (IsRoot 1 oct r → ⊥) → Least gs us oct (r * 256) best → Least gs us oct ((r + 1) * 256) best
  skips r best n K = record {
    held = K.held;
    seen = λ s y u S h. elim (dec_lt (s * 256 + y) (r * 256)) [
      | yes l ↦ K.seen s y u S l
      | no l ↦ (let e : s ≡ r = omega (arith, S.ly) in absurd (n (subst (λ (x : ℕ). IsRoot 1 oct x) e S.root)))
    ];
  }

  -- r and y do not serve: go on by a byte
  pub passes : (r y : ℕ) (best : Option Pair) → ((u : ℕ) → Serves oct r y u → ⊥) → y < 256 → Least gs us oct (r * 256 + y) best → Least gs us oct (r * 256 + (y + 1)) best
  passes r y best n hy K = record {
    held = K.held;
    seen = λ s z u S h. elim (dec_lt (s * 256 + z) (r * 256 + y)) [
      | yes l ↦ K.seen s z u S l
      | no l ↦
          let e : s ≡ r = omega (arith, S.ly) in
          let f : z ≡ y = omega (arith, S.ly) in
          absurd (n u (subst (λ (x : ℕ). Serves oct x y u) e (subst (λ (x : ℕ). Serves oct s x u) f S)))
    ];
  }

  ahead : (best : Option Pair) (q e : Pair) → length q.columns ≡ 8 → IfSome best (λ p. length p.columns ≡ 8) → Earlier best q e
      → (x : Pair) → MatchOption best ⊥ (λ p. Ahead p x) → Ahead e x
  ahead None q e lq lp E x a = absurd a
  ahead (Some p) q e lq lp E x a = elim E [
    | inl (is, b) ↦ subst (λ (z : Pair). Ahead z x) (sym is) (elim a [
      | inl (o, c, f) ↦ inr (moved q.ones q.constant q.columns o c f b)
      | inr d ↦ inr (before_then q.ones q.constant q.columns p.ones p.constant p.columns x.ones x.constant x.columns b d)
    ])
    | inr (is, b) ↦ subst (λ (z : Pair). Ahead z x) (sym is) a
  ]

  ahead_new : (best : Option Pair) (q e : Pair) → length q.columns ≡ 8 → IfSome best (λ p. length p.columns ≡ 8) → Earlier best q e → Ahead e q
  ahead_new None q e lq lp E = subst (λ (z : Pair). Ahead z q) (sym E) (inl (refl, refl, refl))
  ahead_new (Some p) q e lq lp E = elim E [
    | inl (is, b) ↦ subst (λ (z : Pair). Ahead z q) (sym is) (inl (refl, refl, refl))
    | inr (is, b) ↦ subst (λ (z : Pair). Ahead z q) (sym is) (not_before q.ones q.constant q.columns p.ones p.constant p.columns (lq ∙ sym lp) b)
  ]

  held_on : (best : Option Pair) (q e : Pair) (P : Pair → Type 0) → P q → IfSome best P → Earlier best q e → P e
  held_on None q e P new old E = subst P (sym E) new
  held_on (Some p) q e P new old E = elim E [ inl (is, b) ↦ subst P (sym is) new | inr (is, b) ↦ subst P (sym is) old ]

  lengths : (best : Option Pair) → IfSome best (λ p. (r : ℕ) × (y : ℕ) × Candidate gs us oct r y p) → IfSome best (λ p. length p.columns ≡ 8)
  lengths None h = tt
  lengths (Some p) h = ap length h.2.built.columns

  -- r and y serve: keep the earlier
  pub takes : (r y : ℕ) (best : Option Pair) (q e : Pair) → Candidate gs us oct r y q → Earlier best q e
      → Least gs us oct (r * 256 + y) best → Least gs us oct (r * 256 + (y + 1)) (Some e)
  takes r y best q e C E K = record {
    held = held_on best q e (λ p. (r : ℕ) × (y : ℕ) × Candidate gs us oct r y p) (r, y, C) K.held E;
    seen = λ s z u S h. elim (dec_lt (s * 256 + z) (r * 256 + y)) [
      | yes l ↦ (let x = K.seen s z u S l in (x.0, x.1, ahead best q e lq lp E x.0 x.2))
      | no l ↦
          let hy : y < 256 = C.serves.ly in
          let a : s ≡ r = omega (arith, S.ly) in
          let b : z ≡ y = omega (arith, S.ly) in
          (q, subst (λ (x : ℕ). Candidate gs us oct x z q) (sym a) (subst (λ (x : ℕ). Candidate gs us oct r x q) (sym b) C), ahead_new best q e lq lp E)
    ];
  }
    where
      lq : length q.columns ≡ 8
      lq = ap length C.built.columns

      lp : IfSome best (λ p. length p.columns ≡ 8)
      lp = lengths best K.held
