-- A map of codes that keeps sums and the one, and has a reverse, carries the ring laws. Assumes nothing.
use Rattle.std.specs.Prelude.{◌≡◌, ℕ, ◌^◌, ◌<◌}
use Rattle.std.proofs.Common.{sym, ap, ◌∙◌}
use Rattle.std.specs.Int.Bits.{bit_xor}
use Rattle.rings.specs.Laws.{Laws}

-- f and g take codes of width w to codes, keep sums and the one, and undo each other
pub record Recodes (w one : ℕ) (f g : ℕ → ℕ) : Type 0 where
  pub to : (a : ℕ) → a < 2 ^ w → f a < 2 ^ w
  pub fro : (a : ℕ) → a < 2 ^ w → g a < 2 ^ w
  pub to_adds : (a b : ℕ) → a < 2 ^ w → b < 2 ^ w → f (bit_xor a b) ≡ bit_xor (f a) (f b)
  pub fro_adds : (a b : ℕ) → a < 2 ^ w → b < 2 ^ w → g (bit_xor a b) ≡ bit_xor (g a) (g b)
  pub to_fro : (a : ℕ) → a < 2 ^ w → f (g a) ≡ a
  pub fro_to : (a : ℕ) → a < 2 ^ w → g (f a) ≡ a
  pub to_one : f one ≡ one

module _ (w one : ℕ) (mul : ℕ → ℕ → ℕ) (R : Laws w one mul) (f g : ℕ → ℕ) (C : Recodes w one f g) where
  inner : (a b : ℕ) → a < 2 ^ w → b < 2 ^ w → mul (f a) (f b) < 2 ^ w
  inner a b ha hb = R.closed (f a) (f b) (C.to a ha) (C.to b hb)

  pub recoded_laws : Laws w one (λ a b. g (mul (f a) (f b)))
  recoded_laws = record {
    one_code = R.one_code;
    closed = λ a b ha hb. C.fro (mul (f a) (f b)) (inner a b ha hb);
    comm = λ a b ha hb. ap g (R.comm (f a) (f b) (C.to a ha) (C.to b hb));
    assoc = λ a b c ha hb hc.
        ap g (ap (λ (x : ℕ). mul x (f c)) (C.to_fro (mul (f a) (f b)) (inner a b ha hb))
        ∙ R.assoc (f a) (f b) (f c) (C.to a ha) (C.to b hb) (C.to c hc)
        ∙ ap (mul (f a)) (sym (C.to_fro (mul (f b) (f c)) (inner b c hb hc))));
    distrib = λ a b c ha hb hc.
        ap g (ap (mul (f a)) (C.to_adds b c hb hc) ∙ R.distrib (f a) (f b) (f c) (C.to a ha) (C.to b hb) (C.to c hc))
        ∙ C.fro_adds (mul (f a) (f b)) (mul (f a) (f c)) (inner a b ha hb) (inner a c ha hc);
    unit = λ a ha. ap g (ap (λ (x : ℕ). mul x (f a)) C.to_one ∙ R.unit (f a) (C.to a ha)) ∙ C.fro_to a ha;
  }
