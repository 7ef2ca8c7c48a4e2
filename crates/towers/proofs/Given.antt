-- A pair given by its constant and the columns of both matrices is lawful if a test passes, which antt can compute.
-- Assumes nothing.
use Rattle.std.proofs.Common.{◌≡◌, ℕ, ◌^◌, ◌<◌, Bool, T, eqb, ltb, List, [], ◌∷◌, map, length, get_or, sym, refl, ap, ◌∙◌, subst, ap₂, lit<, eqb→eq, ltb→lt}
use Rattle.rings.specs.Laws.{Laws}
use Rattle.rings.specs.Pairing.{pair_mul}
use Rattle.rings.specs.PairLaws.{pair_laws}
use Rattle.towers.specs.Lawful.{Lawful}
use Rattle.towers.specs.Matrices.{apply, columns, product, unit}
use Rattle.rings.proofs.Finite.{each, at, at2}
use Rattle.towers.proofs.Linear.{apply_add, same_columns}
use Rattle.towers.proofs.Columns.{at_eight}
use Rattle.towers.proofs.Carry.{spreads_left}
use Rattle.towers.proofs.Reverses.{apply_lt, eight_columns}

-- the columns are bytes
abbrev pub bytes : List ℕ → Bool
bytes cs = each 8 (λ i. ltb (get_or cs i 0) 256)

-- the matrix keeps the products of the codes 1, 2, 4 and so on
abbrev pub multiplies : (ℕ → ℕ → ℕ) → (ℕ → ℕ → ℕ) → ℕ → List ℕ → Bool
multiplies mul oct c cs =
    each 8 (λ i. each 8 (λ j. eqb (apply cs (pair_mul 4 mul c (2 ^ i) (2 ^ j))) (oct (get_or cs i 0) (get_or cs j 0))))

module _ (mul : ℕ → ℕ → ℕ) (R : Laws 4 1 mul) (oct : ℕ → ℕ → ℕ) (E : Laws 8 1 oct) (c : ℕ) (const : c < 16)
    (cs bs : List ℕ) (eight : length cs ≡ 8) (small : T (bytes cs)) (keep : T (multiplies mul oct c cs)) (back : product bs cs ≡ unit) where
  P : Laws 8 1 (pair_mul 4 mul c)
  P = pair_laws 4 1 mul R c

  cs_lt : (v : ℕ) → apply cs v < 256
  cs_lt = apply_lt 8 cs (λ i h. ltb→lt (get_or cs i 0) 256 (at 8 (λ i. ltb (get_or cs i 0) 256) small i (subst (λ (n : ℕ). i < n) eight h)))

  power_lt : (i : ℕ) → i < 8 → 2 ^ i < 256
  power_lt = at_eight (λ i. 2 ^ i < 256) (lit< tt) (lit< tt) (lit< tt) (lit< tt) (lit< tt) (lit< tt) (lit< tt) (lit< tt)

  column : (i : ℕ) → i < 8 → get_or cs i 0 ≡ apply cs (2 ^ i)
  column = at_eight (λ i. get_or cs i 0 ≡ apply cs (2 ^ i)) (get 0) (get 1) (get 2) (get 3) (get 4) (get 5) (get 6) (get 7)
    where
      get : (i : ℕ) → get_or cs i 0 ≡ get_or (columns (apply cs)) i 0
      get i = ap (λ (xs : List ℕ). get_or xs i 0) (sym (eight_columns cs eight))

  at_powers : (i j : ℕ) → i < 8 → j < 8 → apply cs (pair_mul 4 mul c (2 ^ i) (2 ^ j)) ≡ oct (apply cs (2 ^ i)) (apply cs (2 ^ j))
  at_powers i j hi hj =
      eqb→eq _ _ (at2 8 8 (λ i j. eqb (apply cs (pair_mul 4 mul c (2 ^ i) (2 ^ j))) (oct (get_or cs i 0) (get_or cs j 0))) keep i j hi hj)
      ∙ ap₂ oct (column i hi) (column j hj)

  at_power : (i : ℕ) → i < 8 → (b : ℕ) → b < 256 → apply cs (pair_mul 4 mul c (2 ^ i) b) ≡ oct (apply cs (2 ^ i)) (apply cs b)
  at_power i hi = same_columns (λ b. apply cs (pair_mul 4 mul c (2 ^ i) b)) (λ b. oct (apply cs (2 ^ i)) (apply cs b))
      (λ a b ha hb. ap (apply cs) (P.distrib (2 ^ i) a b (power_lt i hi) ha hb) ∙ apply_add cs (pair_mul 4 mul c (2 ^ i) a) (pair_mul 4 mul c (2 ^ i) b))
      (λ a b ha hb. ap (oct (apply cs (2 ^ i))) (apply_add cs a b) ∙ E.distrib (apply cs (2 ^ i)) (apply cs a) (apply cs b) (cs_lt (2 ^ i)) (cs_lt a) (cs_lt b))
      (λ k. at_powers i 0 hi (lit< tt) k ∷ at_powers i 1 hi (lit< tt) k ∷ at_powers i 2 hi (lit< tt) k ∷ at_powers i 3 hi (lit< tt) k
      ∷ at_powers i 4 hi (lit< tt) k ∷ at_powers i 5 hi (lit< tt) k ∷ at_powers i 6 hi (lit< tt) k ∷ at_powers i 7 hi (lit< tt) k ∷ [])

  keeps : (a b : ℕ) → a < 256 → b < 256 → apply cs (pair_mul 4 mul c a b) ≡ oct (apply cs a) (apply cs b)
  keeps a b ha hb = same_columns (λ a. apply cs (pair_mul 4 mul c a b)) (λ a. oct (apply cs a) (apply cs b))
      (λ x y hx hy. ap (apply cs) (spreads_left 8 1 (pair_mul 4 mul c) P x y b hx hy hb) ∙ apply_add cs (pair_mul 4 mul c x b) (pair_mul 4 mul c y b))
      (λ x y hx hy. ap (λ (z : ℕ). oct z (apply cs b)) (apply_add cs x y) ∙ spreads_left 8 1 oct E (apply cs x) (apply cs y) (apply cs b) (cs_lt x) (cs_lt y) (cs_lt b))
      (λ k. at_power 0 (lit< tt) b hb k ∷ at_power 1 (lit< tt) b hb k ∷ at_power 2 (lit< tt) b hb k ∷ at_power 3 (lit< tt) b hb k
      ∷ at_power 4 (lit< tt) b hb k ∷ at_power 5 (lit< tt) b hb k ∷ at_power 6 (lit< tt) b hb k ∷ at_power 7 (lit< tt) b hb k ∷ [])
      a ha

  undone : (a : ℕ) → a < 256 → apply bs (apply cs a) ≡ a
  undone = same_columns (λ a. apply bs (apply cs a)) (λ a. a)
      (λ a b ha hb. ap (apply bs) (apply_add cs a b) ∙ apply_add bs (apply cs a) (apply cs b)) (λ a b ha hb. refl)
      (ap (map (apply bs)) (eight_columns cs eight) ∙ back)

  pub lawful_given : Lawful mul oct c (apply cs)
  lawful_given = record {
    const = const;
    byte = λ a ha. cs_lt a;
    adds = λ a b ha hb. apply_add cs a b;
    keeps = keeps;
    once = λ a b ha hb e. sym (undone a ha) ∙ ap (apply bs) e ∙ undone b hb;
  }
