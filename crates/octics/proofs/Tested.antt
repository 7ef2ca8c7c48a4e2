-- Division leaves 0 just where there is a quotient: a test that antt computes for each divisor. Assumes nothing.
use Rattle.std.proofs.Common.{◌≡◌, ℕ, zero, suc, ◌+◌, ◌-◌, ◌*◌, ◌/◌, ◌%◌, ◌^◌, ◌<◌, ◌≤◌, Bool, true, false, cond, ◌&&◌, eqb, ltb, leb, sym, refl, ap, ◌∙◌, subst, ap₂, ⊎_elim, mod-lt, add-one, arith, pow_pos, pow-add, true-eqb}
use lib.Bits.{bit_xor}
use lib.Pow.{field, mod-mod-pow}
use Rattle.std.proofs.lemmas.Bool.Decides.{nat_tests}
use Rattle.std.proofs.lemmas.Bool.{cases_order}
use Rattle.rings.specs.Poly.{pick, act, carryless}
use Rattle.octics.specs.Division.{cut, remainder, Degree}
use Rattle.octics.specs.Octics.{Divides}

-- the k low bits count
act_low : (X : ℕ → ℕ) (k p v : ℕ) → act X k (p % 2 ^ k) v ≡ act X k p v
act_low X zero p v = refl
act_low X (suc k) p v = ap₂ (λ (x y : ℕ). bit_xor (pick x v) (X y)) low (ap (λ (x : ℕ). act X k x v) high ∙ act_low X k (p / 2) v)
  where
    low : p % 2 ^ suc k % 2 ≡ p % 2
    low = ap (λ (x : ℕ). p % 2 ^ x % 2) (sym (add-one k)) ∙ mod-mod-pow p k 1

    high : p % 2 ^ suc k / 2 ≡ p / 2 % 2 ^ k
    high = ap (λ (x : ℕ). p % 2 ^ x / 2) (sym (add-one k)) ∙ field p k 1

-- the test passes at each number below n
abbrev pub below : (ℕ → Bool) → ℕ → Bool
below p zero = true
below p (suc n) = p n && below p n

-- the product of d and q
times : ℕ → ℕ → ℕ
times d q = carryless 8 q d

-- the quotient's bits, from those at i - 1 down
abbrev quot_from : ℕ → ℕ → ℕ → ℕ → ℕ
quot_from k d zero n = 0
quot_from k d (suc i) n = cond (leb (2 ^ (k + i)) n) (2 ^ i) 0 + quot_from k d i (cut k d i n)

quot : ℕ → ℕ → ℕ → ℕ
quot k d n = quot_from k d (9 - k) n

-- where n leaves 0, the quotient is one
there : ℕ → ℕ → ℕ → Bool
there k d n = cond (eqb (remainder k d n) 0) (eqb (times d (quot k d n)) n && ltb (quot k d n) 256) true

-- a product below 512 leaves 0
back : ℕ → ℕ → ℕ → Bool
back k d q = cond (ltb (times d q) 512) (eqb (remainder k d (times d q)) 0) true

all_there : ℕ → Bool
unfolding there
all_there k = below (λ j. below (there k (2 ^ k + j)) 512) (2 ^ k)

all_back : ℕ → Bool
unfolding back
all_back k = below (λ j. below (back k (2 ^ k + j)) 256) (2 ^ k)

and_left : (a b : Bool) → (a && b) ≡ true → a ≡ true
and_left true b t = refl
and_left false b t = t

and_right : (a b : Bool) → (a && b) ≡ true → b ≡ true
and_right true b t = t
and_right false b t = cc

pub below_at : (p : ℕ → Bool) (n : ℕ) → below p n ≡ true → (k : ℕ) → k < n → p k ≡ true
below_at p zero t k h = absurd (omega arith)
below_at p (suc n) t k h =
    ⊎_elim (λ e. ap p e ∙ and_left (p n) (below p n) t) (⊎_elim (λ l. below_at p n (and_right (p n) (below p n) t) k l) (λ l. absurd (omega arith))) (cases_order k n)

-- the tests pass at every degree
each_there : (k : ℕ) → 1 ≤ k → k ≤ 4 → all_there k ≡ true
unfolding all_there there quot remainder times
each_there zero l h = absurd (omega arith)
each_there (suc zero) l h = refl
each_there (suc (suc zero)) l h = refl
each_there (suc (suc (suc zero))) l h = refl
each_there (suc (suc (suc (suc zero)))) l h = refl
each_there (suc (suc (suc (suc (suc k))))) l h = absurd (omega arith)

each_back : (k : ℕ) → 1 ≤ k → k ≤ 4 → all_back k ≡ true
unfolding all_back back remainder times
each_back zero l h = absurd (omega arith)
each_back (suc zero) l h = refl
each_back (suc (suc zero)) l h = refl
each_back (suc (suc (suc zero))) l h = refl
each_back (suc (suc (suc (suc zero)))) l h = refl
each_back (suc (suc (suc (suc (suc k))))) l h = absurd (omega arith)

at_there : (k d n : ℕ) → Degree k d → n < 512 → there k d n ≡ true
unfolding all_there
at_there k d n g h =
    let j : d - 2 ^ k < 2 ^ k = omega (arith, g.from, g.below, pow-add 2 k 1) in
    let e : 2 ^ k + (d - 2 ^ k) ≡ d = omega (arith, g.from) in
    subst (λ x. there k x n ≡ true) e (below_at (there k (2 ^ k + (d - 2 ^ k))) 512 (below_at (λ i. below (there k (2 ^ k + i)) 512) (2 ^ k) (each_there k g.low g.high) (d - 2 ^ k) j) n h)

at_back : (k d q : ℕ) → Degree k d → q < 256 → back k d q ≡ true
unfolding all_back
at_back k d q g h =
    let j : d - 2 ^ k < 2 ^ k = omega (arith, g.from, g.below, pow-add 2 k 1) in
    let e : 2 ^ k + (d - 2 ^ k) ≡ d = omega (arith, g.from) in
    subst (λ x. back k x q ≡ true) e (below_at (back k (2 ^ k + (d - 2 ^ k))) 256 (below_at (λ i. below (back k (2 ^ k + i)) 256) (2 ^ k) (each_back k g.low g.high) (d - 2 ^ k) j) q h)

pub found : (k d n : ℕ) → Degree k d → n < 512 → remainder k d n ≡ 0 → Divides d n
unfolding there times
found k d n g h z =
    let t = at_there k d n g h in
    let u : (eqb (times d (quot k d n)) n && ltb (quot k d n) 256) ≡ true = grind (arith, nat_tests) in
    (quot k d n, true-eqb _ _ (sym (and_left (eqb (times d (quot k d n)) n) _ u)))

-- of the other factor the eight low bits count
pub leaves : (k d q : ℕ) → Degree k d → carryless 8 q d < 512 → remainder k d (carryless 8 q d) ≡ 0
unfolding back times
leaves k d q g l =
    let e : carryless 8 (q % 256) d ≡ carryless 8 q d = act_low (λ v. v * 2) 8 q d in
    let t = at_back k d (q % 256) g (mod-lt q (pow_pos 8)) in
    let l' : carryless 8 (q % 256) d < 512 = subst (λ (x : ℕ). x < 512) (sym e) l in
    let z : remainder k d (carryless 8 (q % 256) d) ≡ 0 = grind (arith, nat_tests) in
    subst (λ (x : ℕ). remainder k d x ≡ 0) e z
