-- A ring with another one is, its codes renamed, a ring with code 1 as its one. Assumes nothing.
use Rattle.std.proofs.Common.{◌≡◌, ℕ, zero, suc, ◌*◌, ◌<◌, eqb, ltb, [], ◌∷◌, get_or, sym, refl, ap, ◌∙◌, subst, ap₂, arith, lit<, eqb→eq, ltb→lt}
use lib.Bits.{bit_xor, bit_and}
use Rattle.rings.specs.Laws.{Laws, Field}
use Rattle.rings.specs.Commuting.{the_inverse}
use Rattle.towers.specs.Place.{IsRoot}
use Rattle.rings.proofs.Finite.{at, at2}
use Rattle.towers.proofs.Finite.{at3}
use Rattle.towers.specs.Matrices.{apply}
use Rattle.towers.proofs.Root.{times_zero, root}

-- a renaming of codes that keeps sums and is its own reverse
pub record Turns (p : ℕ → ℕ) : Type 0 where
  pub code : (a : ℕ) → a < 16 → p a < 16
  pub adds : (a b : ℕ) → a < 16 → b < 16 → p (bit_xor a b) ≡ bit_xor (p a) (p b)
  pub back : (a : ℕ) → a < 16 → p (p a) ≡ a

module _ (p : ℕ → ℕ) (P : Turns p) (one : ℕ) (mul : ℕ → ℕ → ℕ) (R : Laws 4 one mul) where
  abbrev renamed : ℕ → ℕ → ℕ
  renamed a b = p (mul (p a) (p b))

  inside : (a b : ℕ) → a < 16 → b < 16 → p (renamed a b) ≡ mul (p a) (p b)
  inside a b ha hb = P.back (mul (p a) (p b)) (R.closed (p a) (p b) (P.code a ha) (P.code b hb))

  renamed_laws : Laws 4 (p one) renamed
  renamed_laws = record {
    one_code = P.code one R.one_code;
    closed = λ a b ha hb. P.code (mul (p a) (p b)) (R.closed (p a) (p b) (P.code a ha) (P.code b hb));
    comm = λ a b ha hb. ap p (R.comm (p a) (p b) (P.code a ha) (P.code b hb));
    assoc = λ a b c ha hb hc.
        ap p (ap (λ (x : ℕ). mul x (p c)) (inside a b ha hb)
        ∙ R.assoc (p a) (p b) (p c) (P.code a ha) (P.code b hb) (P.code c hc)
        ∙ ap (mul (p a)) (sym (inside b c hb hc)));
    distrib = λ a b c ha hb hc.
        ap p (ap (mul (p a)) (P.adds b c hb hc) ∙ R.distrib (p a) (p b) (p c) (P.code a ha) (P.code b hb) (P.code c hc))
        ∙ P.adds (mul (p a) (p b)) (mul (p a) (p c)) (R.closed (p a) (p b) (P.code a ha) (P.code b hb)) (R.closed (p a) (p c) (P.code a ha) (P.code c hc));
    unit = λ a ha. ap p (ap (λ (x : ℕ). mul x (p a)) (P.back one R.one_code) ∙ R.unit (p a) (P.code a ha)) ∙ P.back a ha;
  }

  p_zero : p 0 ≡ 0
  p_zero = P.adds 0 0 (lit< tt) (lit< tt) ∙ lib.Bits.xor_self (p 0)

  p_pos : (a : ℕ) → a < 16 → 0 < a → 0 < p a
  p_pos a ha h = go (p a) refl
    where
      go : (k : ℕ) → p a ≡ k → 0 < k
      go zero e = absurd (let z : a ≡ 0 = sym (P.back a ha) ∙ ap p e ∙ p_zero in omega arith)
      go (suc k) e = omega arith

  renamed_inverts : Field 4 one mul → Field 4 (p one) renamed
  renamed_inverts inv a ha h =
      let i = inv (p a) (P.code a ha) (p_pos a ha h) in (
        p i.0,
        the_inverse 4 (p one) renamed renamed_laws a (p i.0) ha (P.code i.0 i.1.code)
            (ap p (ap (mul (p a)) (P.back i.0 i.1.code) ∙ i.1.product)),
      )

  root_renamed : p one ≡ 1 → Field 4 one mul → (g : ℕ) × (g < 16) × IsRoot one mul g
  root_renamed e inv =
      let r = root renamed (subst (λ (o : ℕ). Laws 4 o renamed) e renamed_laws) (subst (λ (o : ℕ). Field 4 o renamed) e (renamed_inverts inv)) in
      let g : ℕ = r.0 in
      let hg : g < 16 = r.1 in (
        p g,
        P.code g hg,
        ap₂ mul (sym (inside g g hg hg)) (sym (inside g g hg hg))
            ∙ sym (inside (renamed g g) (renamed g g) (renamed_laws.closed g g hg hg) (renamed_laws.closed g g hg hg))
            ∙ ap p r.2 ∙ P.adds g 1 hg (lit< tt) ∙ ap (bit_xor (p g)) (ap p (sym e) ∙ P.back one R.one_code),
      )

-- the renaming that exchanges 1 and the one: it adds 1 + one where an odd count of the marked bits is set
abbrev exchange : ℕ → ℕ → ℕ
exchange one v = bit_xor v (bit_xor one 1 * apply (1 ∷ 1 ∷ 1 ∷ 1 ∷ []) (bit_and v (get_or (0 ∷ 1 ∷ 3 ∷ 1 ∷ 5 ∷ 1 ∷ 3 ∷ 1 ∷ 9 ∷ 1 ∷ 3 ∷ 1 ∷ 5 ∷ 1 ∷ 3 ∷ 1 ∷ []) one 1)))

turns : (one : ℕ) → one < 16 → Turns (exchange one)
unfolding apply
turns one h = record {
  code = λ a ha. ltb→lt (exchange one a) 16 (at2 16 16 (λ o a. ltb (exchange o a) 16) tt one a h ha);
  adds = λ a b ha hb. eqb→eq (exchange one (bit_xor a b)) (bit_xor (exchange one a) (exchange one b))
      (at3 16 16 16 (λ o a b. eqb (exchange o (bit_xor a b)) (bit_xor (exchange o a) (exchange o b))) tt one a b h ha hb);
  back = λ a ha. eqb→eq (exchange one (exchange one a)) a (at2 16 16 (λ o a. eqb (exchange o (exchange o a)) a) tt one a h ha);
}

to_one : (one : ℕ) → one < 16 → 0 < one → exchange one one ≡ 1
unfolding apply
to_one zero h pos = absurd (omega arith)
to_one (suc k) h pos = eqb→eq (exchange (suc k) (suc k)) 1 (at 15 (λ k. eqb (exchange (suc k) (suc k)) 1) tt k (omega arith))

pub one_pos : (one : ℕ) (mul : ℕ → ℕ → ℕ) → Laws 4 one mul → 0 < one
one_pos zero mul R = absurd (let z : ◌≡◌ {A = ℕ} 1 0 = sym (R.unit 1 (lit< tt)) ∙ R.comm 0 1 (lit< tt) (lit< tt) ∙ times_zero 0 mul R 1 (lit< tt) in omega arith)
one_pos (suc k) mul R = omega arith

pub root_any : (one : ℕ) (mul : ℕ → ℕ → ℕ) → Laws 4 one mul → Field 4 one mul → (g : ℕ) × (g < 16) × IsRoot one mul g
root_any one mul R inv =
    let pos : 0 < one = one_pos one mul R in
    root_renamed (exchange one) (turns one R.one_code) one mul R (to_one one R.one_code pos) inv
