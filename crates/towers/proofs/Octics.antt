-- Every accepted octic has bytes r and y that serve: one test over the 256 octics, which antt computes. Assumes nothing.
use Rattle.std.proofs.Common.{◌≡◌, ℕ, zero, suc, ◌+◌, ◌-◌, ◌*◌, ◌/◌, ◌%◌, ◌^◌, ◌<◌, Bool, true, false, cond, not, T, eqb, ltb, ◌⊎◌, List, sym, subst, inl, inr, arith, eqb→eq, ltb→lt, T_not}
use lib.Bits.{bit_xor}
use lib.Dec.{eqb_refl}
use Rattle.rings.specs.Poly.{carryless, mul_mod}
use Rattle.octics.specs.Octics.{Accepted}
use Rattle.towers.specs.Matrices.{apply}
use Rattle.towers.specs.Place.{image, powers_of, Serves}
use Rattle.rings.proofs.Finite.{both, both_left, both_right, each, at}
use Rattle.towers.proofs.Finite.{either, either_split, some, found}

abbrev rooted : ℕ → ℕ → Bool
rooted o r = let s = mul_mod 8 o r r in eqb (mul_mod 8 o s s) (bit_xor r 1)

abbrev powers : ℕ → ℕ → List ℕ
powers o r = powers_of 1 (mul_mod 8 o) r

-- the quotient by a divisor d of degree k
unfoldable quotient : ℕ → ℕ → ℕ → ℕ → ℕ
quotient zero k d o = 0
quotient (suc n) k d o = let t = (o / 2 ^ (n + k)) % 2 in 2 ^ n * t + quotient n k d (bit_xor o (d * 2 ^ n * t))

unfoldable degree : ℕ → ℕ
degree d = cond (ltb d 4) 1 (cond (ltb d 8) 2 (cond (ltb d 16) 3 4))

abbrev divided : ℕ → Bool
divided o = some 32 (λ d. both (ltb 1 d) (eqb (carryless 8 (quotient 8 (degree d) d o) d) o))

abbrev outside : List ℕ → ℕ → Bool
outside cs y = each 16 (λ v. not (eqb (apply cs v) y))

abbrev inside : List ℕ → ℕ → ℕ → Bool
inside cs y s = some 16 (λ u. eqb s (bit_xor y (apply cs u)))

abbrev extends : ℕ → List ℕ → Bool
extends o cs = some 256 (λ y. elim (outside cs y) [ true ↦ inside cs y (mul_mod 8 o y y) | false ↦ false ])

abbrev served : ℕ → Bool
served o = some 256 (λ r. elim (rooted o r) [ true ↦ extends o (powers o r) | false ↦ false ])

all_served : T (each 256 (λ k. elim (divided (k + 256)) [ true ↦ true | false ↦ served (k + 256) ]))
unfolding apply mul_mod quotient degree
all_served = tt

then_both : (a b : Bool) → T (elim a [ true ↦ b | false ↦ false ]) → T a × T b
then_both true b t = (tt, t)
then_both false b t = absurd t

or_else : (a b : Bool) → T (elim a [ true ↦ true | false ↦ b ]) → T a ⊎ T b
or_else true b t = inl tt
or_else false b t = inr t

undivided : (o : ℕ) → Accepted o → T (divided o) → ⊥
undivided o A t =
    let f = found 32 (λ d. both (ltb 1 d) (eqb (carryless 8 (quotient 8 (degree d) d o) d) o)) t in
    let d : ℕ = f.0 in
    let q : ℕ = quotient 8 (degree d) d o in
    A.whole d (ltb→lt 1 d (both_left (ltb 1 d) (eqb (carryless 8 q d) o) f.2)) f.1
    (q, eqb→eq (carryless 8 q d) o (both_right (ltb 1 d) (eqb (carryless 8 q d) o) f.2))

serving : (o : ℕ) → T (served o) → (r : ℕ) × (y : ℕ) × (u : ℕ) × Serves (mul_mod 8 o) r y u
unfolding image
serving o t =
    let f = found 256 (λ r. elim (rooted o r) [ true ↦ extends o (powers o r) | false ↦ false ]) t in
    let r : ℕ = f.0 in
    let p = then_both (rooted o r) (extends o (powers o r)) f.2 in
    let cs : List ℕ = powers o r in
    let h = found 256 (λ y. elim (outside cs y) [ true ↦ inside cs y (mul_mod 8 o y y) | false ↦ false ]) p.1 in
    let y : ℕ = h.0 in
    let q = then_both (outside cs y) (inside cs y (mul_mod 8 o y y)) h.2 in
    let k = found 16 (λ u. eqb (mul_mod 8 o y y) (bit_xor y (apply cs u))) q.1 in (
      r,
      y,
      k.0,
      record {
        lr = f.1;
        root = eqb→eq (mul_mod 8 o (mul_mod 8 o r r) (mul_mod 8 o r r)) (bit_xor r 1) p.0;
        ly = h.1;
        lu = k.1;
        square = eqb→eq (mul_mod 8 o y y) (bit_xor y (apply cs k.0)) k.2;
        new = λ v hv e. T_not (eqb (apply cs v) y) (at 16 (λ v. not (eqb (apply cs v) y)) q.0 v hv) (subst (λ (z : ℕ). T (eqb z y)) (sym e) (eqb_refl y));
      },
    )

pub octic_serves : (o : ℕ) → Accepted o → (r : ℕ) × (y : ℕ) × (u : ℕ) × Serves (mul_mod 8 o) r y u
octic_serves o A =
    let k : ℕ = o - 256 in
    let e : k + 256 ≡ o = omega (arith, A.least) in
    let t = at 256 (λ k. elim (divided (k + 256)) [ true ↦ true | false ↦ served (k + 256) ]) all_served k (omega (arith, A.most)) in
    elim (or_else (divided (k + 256)) (served (k + 256)) t) [
      | inl d ↦ absurd (undivided o A (subst (λ (z : ℕ). T (divided z)) e d))
      | inr s ↦ serving o (subst (λ (z : ℕ). T (served z)) e s)
    ]

-- no byte but 0 and 1 is its own square
abbrev lonely : ℕ → Bool
lonely o = each 256 (λ e. either (not (eqb (mul_mod 8 o e e) e)) (ltb e 2))

all_lonely : T (each 256 (λ k. elim (divided (k + 256)) [ true ↦ true | false ↦ lonely (k + 256) ]))
unfolding mul_mod quotient degree
all_lonely = tt

pub idempotents : (o : ℕ) → Accepted o → (e : ℕ) → e < 256 → mul_mod 8 o e e ≡ e → e < 2
idempotents o A e he q =
    let k : ℕ = o - 256 in
    let p : k + 256 ≡ o = omega (arith, A.least) in
    let t = at 256 (λ k. elim (divided (k + 256)) [ true ↦ true | false ↦ lonely (k + 256) ]) all_lonely k (omega (arith, A.most)) in
    elim (or_else (divided (k + 256)) (lonely (k + 256)) t) [
      | inl d ↦ absurd (undivided o A (subst (λ (z : ℕ). T (divided z)) p d))
      | inr s ↦ elim (either_split (not (eqb (mul_mod 8 o e e) e)) (ltb e 2) (at 256 (λ e. either (not (eqb (mul_mod 8 o e e) e)) (ltb e 2)) (subst (λ (z : ℕ). T (lonely z)) p s) e he)) [
        | inl n ↦ absurd (T_not (eqb (mul_mod 8 o e e) e) n (subst (λ (z : ℕ). T (eqb z e)) (sym q) (eqb_refl e)))
        | inr l ↦ ltb→lt e 2 l
      ]
    ]
