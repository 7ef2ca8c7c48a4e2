-- The trail of a byte other than 0 by a pair that is kept comes to its inverse: the octic's ring is a field. Assumes nothing.
use Rattle.std.proofs.Common.{◌≡◌, ℕ, zero, suc, ◌/◌, ◌^◌, ◌<◌, sym, refl, ap, ◌∙◌, subst, inl, inr, arith, lit<}
use Rattle.rings.specs.Laws.{Laws, Field, NoInverse}
use Rattle.rings.specs.Poly.{mul_mod}
use Rattle.rings.specs.PolyLaws.{mul_mod_laws}
use Rattle.octics.specs.Octics.{Accepted}
use Rattle.towers.specs.declared.pair.Pair.{Pair}
use Rattle.towers.specs.Keeps.{Tells}
use Rattle.towers.specs.Lawful.{Lawful, Reverse}
use Rattle.towers.specs.Trails.{Through, Arrives}
use Rattle.towers.proofs.Linear.{adds_zero}
use Rattle.towers.proofs.Octics.{idempotents}
use Rattle.towers.proofs.OneGoes.{one_goes}
use Rattle.towers.proofs.TowerField.{tower_field}

octic_degree : (o : ℕ) → Accepted o → o / 2 ^ 8 ≡ 1
octic_degree o A = let l = A.least in let h = A.most in omega arith

-- a byte other than 0 has an inverse modulo an accepted octic to which some lawful pair goes
invertible : (mul : ℕ → ℕ → ℕ) → Laws 4 1 mul → Field 4 1 mul → (o : ℕ) → Accepted o → (p : Pair) → Tells mul (mul_mod 8 o) p
    → (x : ℕ) → x < 256 → 0 < x → NoInverse 8 1 (mul_mod 8 o) x → ⊥
invertible mul R F o A p T x hx pos none =
    let m : ℕ → ℕ = T.map in
    let n : ℕ → ℕ = T.back in
    let L = T.lawful in
    let B = T.reversed in
    let E = mul_mod_laws 8 o (octic_degree o A) (lit< tt) in
    let nx = B.byte x hx in
    let i = tower_field mul R F (mul_mod 8 o) E (idempotents o A) p.constant m L (n x) nx (positive m n L B (n x) refl) in
    none (m i.0) (L.byte i.0 i.1.code)
    (ap (λ y. mul_mod 8 o y (m i.0)) (sym (B.there x hx)) ∙ sym (L.keeps (n x) i.0 nx i.1.code) ∙ ap m i.1.product
    ∙ one_goes 1 mul R (mul_mod 8 o) E p.constant m L)
  where
    positive : (m n : ℕ → ℕ) → Lawful mul (mul_mod 8 o) p.constant m → Reverse m n → (k : ℕ) → n x ≡ k → 0 < k
    positive m n L B zero e = absurd (let z : x ≡ 0 = sym (B.there x hx) ∙ ap m e ∙ adds_zero 8 m L.adds in omega arith)
    positive m n L B (suc k) e = omega arith

zero_times : (o b : ℕ) → mul_mod 8 o 0 b ≡ 0
unfolding mul_mod
zero_times o b = refl

pub arrives : (w : ℕ) (mul : ℕ → ℕ → ℕ) (p : Pair) (x b : ℕ) → Laws w 1 mul → x < 256 → Through w mul p x b → Arrives w mul p x b
arrives w mul p x b laws hx through o S A K =
    let T = K.tells in
    let R : Laws 4 1 mul = subst (λ v. Laws v 1 mul) S.0 laws in
    let F : Field 4 1 mul = subst (λ v. Field v 1 mul) S.0 S.1 in
    elim (through o (octic_degree o A) S.0 T) [
      | inl i ↦ (
        λ e. absurd (let z : ◌≡◌ {A = ℕ} 0 1 = sym (zero_times o b) ∙ ap (λ y. mul_mod 8 o y b) (sym e) ∙ i.product in omega arith),
        λ pos. i,
      )
      | inr v ↦ (λ e. v.1, λ pos. absurd (invertible mul R F o A p T x hx pos v.0))
    ]
