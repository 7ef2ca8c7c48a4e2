-- What the exchange of bits keeps, by tests over the codes, which antt computes. Assumes nothing.
use Rattle.std.specs.Prelude.{◌≡◌, refl, Bool, ℕ, ◌%◌, ◌<◌, eqb, ltb}
use Rattle.std.proofs.Common.{sym, subst, ◌∙◌, mod-eq_of_lt, eqb→eq, ltb→lt, lit<}
use Rattle.std.proofs.Math.Path.{ap, ap₂}
use Rattle.std.specs.Int.Bits.{bit_xor}
use Rattle.rings.specs.Laws.{Laws}
use Rattle.rings.specs.Poly.{mul_mod}
use Rattle.rings.proofs.Finite.{each, at}
use Rattle.rings.specs.PolyLaws.{mul_mod_laws}
use Rattle.test_ring.specs.Exchange.{exchange, exchanged_mul}
use Rattle.test_ring.specs.Recoded.{recoded_laws}

exchange_lt : (a : ℕ) → a < 16 → exchange a < 16
exchange_lt a h = ltb→lt (exchange a) 16 (at 16 (λ a. ltb (exchange a) 16) tt a h)

twice : (a : ℕ) → a < 16 → exchange (exchange a) ≡ a
twice a h = eqb→eq (exchange (exchange a)) a (at 16 (λ a. eqb (exchange (exchange a)) a) tt a h)

adds : (a b : ℕ) → a < 16 → b < 16 → exchange (bit_xor a b) ≡ bit_xor (exchange a) (exchange b)
adds a b ha hb =
    let test : ℕ → ℕ → Bool = λ x y. eqb (exchange (bit_xor x y)) (bit_xor (exchange x) (exchange y)) in
    eqb→eq _ _ (at 16 (test a) (at 16 (λ x. each 16 (test x)) tt a ha) b hb)

laws_13 : Laws 4 1 (mul_mod 4 0x13)
laws_13 = mul_mod_laws 4 0x13 refl (lit< tt)

pub exchanged_laws : Laws 4 1 exchanged_mul
unfolding exchanged_mul
exchanged_laws = recoded_laws 4 1 (mul_mod 4 0x13) laws_13 exchange exchange (record {
  to = exchange_lt;
  fro = exchange_lt;
  to_adds = adds;
  fro_adds = adds;
  to_fro = twice;
  fro_to = twice;
  to_one = refl;
})

-- p is the product in ring 13 of the codes x and y
module _ (x y p : ℕ) (hx : x < 16) (hy : y < 16) (is : p ≡ mul_mod 4 0x13 (x % 16) (y % 16)) where
  whole : p ≡ mul_mod 4 0x13 x y
  whole = is ∙ ap₂ (mul_mod 4 0x13) (mod-eq_of_lt hx) (mod-eq_of_lt hy)

  pub product_lt : p < 16
  product_lt = subst (λ (v : ℕ). v < 16) (sym whole) (laws_13.closed x y hx hy)

  pub exchanged_product : (a b : ℕ) → x ≡ exchange a → y ≡ exchange b → exchange p ≡ exchanged_mul a b
  unfolding exchanged_mul
  exchanged_product a b ex ey = ap exchange (whole ∙ ap₂ (mul_mod 4 0x13) ex ey)
