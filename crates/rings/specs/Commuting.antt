-- The ring laws from four facts: each code acts on the codes by an additive map, these maps commute, and the action on the
-- one gives the code back. And an inverse is the only one. Assumes nothing.
use Rattle.std.specs.Prelude.{◌≡◌, ℕ, ◌^◌, ◌<◌, bit_xor}
use Rattle.std.proofs.Common.{sym, ap, ◌∙◌}
use Rattle.rings.specs.Laws.{Laws, Inverse}

module _ (w one : ℕ) (one_code : one < 2 ^ w) (mul : ℕ → ℕ → ℕ)
    (closed : (a v : ℕ) → a < 2 ^ w → v < 2 ^ w → mul a v < 2 ^ w)
    (additive : (a u v : ℕ) → mul a (bit_xor u v) ≡ bit_xor (mul a u) (mul a v))
    (commute : (a b v : ℕ) → mul a (mul b v) ≡ mul b (mul a v))
    (unit : (a : ℕ) → a < 2 ^ w → mul a one ≡ a) where
  comm : (a b : ℕ) → a < 2 ^ w → b < 2 ^ w → mul a b ≡ mul b a
  comm a b ha hb = ap (mul a) (sym (unit b hb)) ∙ commute a b one ∙ ap (mul b) (unit a ha)

  pub commuting_laws : Laws w one mul
  commuting_laws = record {
    one_code = one_code;
    closed = closed;
    comm = comm;
    assoc = λ a b c ha hb hc. comm (mul a b) c (closed a b ha hb) hc ∙ commute c a b ∙ ap (mul a) (comm c b hc hb);
    distrib = λ a b c ha hb hc. additive a b c;
    unit = λ a ha. comm one a one_code ha ∙ unit a ha;
  }

-- c = (a b) c = b (a c) = b
pub one_inverse : (w one : ℕ) (mul : ℕ → ℕ → ℕ) → Laws w one mul → (a b c : ℕ) → a < 2 ^ w → b < 2 ^ w → c < 2 ^ w
    → mul a b ≡ one → mul a c ≡ one → c ≡ b
one_inverse w one mul laws a b c ha hb hc eb ec =
    sym (laws.unit c hc) ∙ ap (λ (x : ℕ). mul x c) (sym eb ∙ laws.comm a b ha hb) ∙ laws.assoc b a c hb ha hc
    ∙ ap (mul b) ec ∙ laws.comm b one hb laws.one_code ∙ laws.unit b hb

pub the_inverse : (w one : ℕ) (mul : ℕ → ℕ → ℕ) → Laws w one mul → (a b : ℕ) → a < 2 ^ w → b < 2 ^ w → mul a b ≡ one
    → Inverse w one mul a b
the_inverse w one mul laws a b ha hb e =
    record { code = hb; product = e; only = λ c hc ec. one_inverse w one mul laws a b c ha hb hc e ec }
