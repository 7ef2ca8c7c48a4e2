-- The products of one code x with the codes 1, 2, 4 and 8 are any three nibbles beside x itself.
-- One test over all of them, which antt computes. Assumes nothing.
use Rattle.std.proofs.Common.{◌≡◌, ℕ, zero, suc, ◌*◌, ◌/◌, ◌%◌, ◌<◌, Bool, true, false, T, eqb, ltb, List, [], ◌∷◌, sym, refl, subst}
use lib.Bits.{bit_xor}
use Rattle.rings.proofs.Finite.{both, each, at}
use Rattle.towers.proofs.Finite.{either, some}
use Rattle.towers.specs.Matrices.{apply}

-- the polynomial with the n low bits of q as coefficients, at the map with these columns, applied to v
unfoldable pub poly : ℕ → List ℕ → ℕ → ℕ → ℕ
poly zero cs q v = 0
poly (suc n) cs q v = bit_xor (v * (q % 2)) (poly n cs (q / 2) (apply cs v))

-- the polynomial q is not 0 at x, but times some v it is
abbrev pub splits : List ℕ → ℕ → Bool
splits cs q = both (ltb 0 (poly 4 cs q 1)) (some 16 (λ v. both (ltb 0 v) (eqb (poly 4 cs q v) 0)))

-- the polynomial q of x is a code g with g to the fourth equal to g + 1
abbrev pub roots : List ℕ → ℕ → Bool
roots cs q = let g = poly 4 cs q 1 in eqb (poly 4 cs q (poly 4 cs q (poly 4 cs q g))) (bit_xor g 1)

abbrev pub any : List ℕ → (ℕ → Bool) → Bool
any [] f = false
any (q ∷ qs) f = elim (f q) [ true ↦ true | false ↦ any qs f ]

picked_at : (q : ℕ) (qs : List ℕ) (f : ℕ → Bool) (b : Bool) → f q ≡ b → (T (any qs f) → (q : ℕ) × T (f q))
    → T (elim b [ true ↦ true | false ↦ any qs f ]) → (q : ℕ) × T (f q)
picked_at q qs f true e r t = (q, subst T (sym e) tt)
picked_at q qs f false e r t = r t

abbrev pub decided : ℕ → List ℕ → Bool
decided x cs = either (any (2 ∷ 3 ∷ 7 ∷ []) (splits cs)) (either (eqb (apply cs x) (bit_xor x 1)) (any (2 ∷ 12 ∷ 10 ∷ []) (roots cs)))

abbrev pub tests : ℕ → Bool
tests x = each 16 (λ y. each 16 (λ z. each 16 (λ w. decided x (x ∷ y ∷ z ∷ w ∷ []))))

pub test2 : T (tests 2)
unfolding apply poly
test2 = tt

pub test4 : T (tests 4)
unfolding apply poly
test4 = tt

pub tested : (x : ℕ) → T (tests x) → (y z w : ℕ) → y < 16 → z < 16 → w < 16 → T (decided x (x ∷ y ∷ z ∷ w ∷ []))
tested x t y z w hy hz hw =
    at 16 (λ w. decided x (x ∷ y ∷ z ∷ w ∷ []))
    (at 16 (λ z. each 16 (λ w. decided x (x ∷ y ∷ z ∷ w ∷ [])))
    (at 16 (λ y. each 16 (λ z. each 16 (λ w. decided x (x ∷ y ∷ z ∷ w ∷ [])))) t y hy) z hz) w hw

pub picked : (qs : List ℕ) (f : ℕ → Bool) → T (any qs f) → (q : ℕ) × T (f q)
picked [] f t = absurd t
picked (q ∷ qs) f t = picked_at q qs f (f q) refl (λ s. picked qs f s) t
