-- What is to be computed of the numbers of a pair so that it tells a lawful pair. Assumes nothing.
use Rattle.std.proofs.Common.{◌≡◌, ℕ, ◌+◌, ◌^◌, ◌<◌, Bool, T, eqb, ltb, List, length, get_or, sym, ◌∙◌, ap₂, eqb→eq, ltb→lt}
use Rattle.rings.specs.Laws.{Laws}
use Rattle.towers.specs.Keeps.{Tells}
use Rattle.towers.specs.Lawful.{Lawful, Reverse}
use Rattle.towers.specs.Matrices.{apply, product, unit, entries}
use Rattle.towers.specs.declared.pair.Pair.{Pair}
use Rattle.rings.proofs.Finite.{each, at}
use Rattle.towers.proofs.Given.{bytes, multiplies, lawful_given}
use Rattle.towers.proofs.Reverses.{eight_columns, reverse_of}

-- the columns bs go to the columns of the unit matrix
abbrev pub hits : List ℕ → List ℕ → Bool
hits cs bs = each 8 (λ i. eqb (apply cs (get_or bs i 0)) (2 ^ i))

-- each field can be computed
pub record Stated (mul oct : ℕ → ℕ → ℕ) (p : Pair) : Type 0 where
  pub const : p.constant < 16
  pub eight : length p.columns ≡ 8
  pub small : T (bytes p.columns)
  pub keep : T (multiplies mul oct p.constant p.columns)
  pub back : product p.reverse p.columns ≡ unit
  pub eight_back : length p.reverse ≡ 8
  pub small_back : T (bytes p.reverse)
  pub there : T (hits p.columns p.reverse)
  pub ones : p.ones ≡ entries p.columns + entries p.reverse

module _ (mul : ℕ → ℕ → ℕ) (R : Laws 4 1 mul) (oct : ℕ → ℕ → ℕ) (E : Laws 8 1 oct) (p : Pair) (S : Stated mul oct p) where
  lawful : Lawful mul oct p.constant (apply p.columns)
  lawful = lawful_given mul R oct E p.constant S.const p.columns p.reverse S.eight S.small S.keep S.back

  reversed : Reverse (apply p.columns) (apply p.reverse)
  reversed =
      reverse_of (apply p.columns) lawful.adds lawful.byte lawful.once p.reverse S.eight_back
      (λ i h. ltb→lt _ _ (at 8 (λ i. ltb (get_or p.reverse i 0) 256) S.small_back i h))
      (λ i h. eqb→eq _ _ (at 8 (λ i. eqb (apply p.columns (get_or p.reverse i 0)) (2 ^ i)) S.there i h))

  pub told : Tells mul oct p
  told = record {
    map = apply p.columns;
    back = apply p.reverse;
    lawful = lawful;
    reversed = reversed;
    columns = sym (eight_columns p.columns S.eight);
    reverse = sym (eight_columns p.reverse S.eight_back);
    ones = S.ones
        ∙ ap₂ (λ (xs ys : List ℕ). entries xs + entries ys) (sym (eight_columns p.columns S.eight)) (sym (eight_columns p.reverse S.eight_back));
  }
