-- Arrays that `array::from_fn` made of a function of the index, and `map` of a function of each element; and values that `fold` made over
-- indices. Assumes nothing.
use Rattle.std.proofs.Common.{◌≡◌, ℕ, zero, suc, ◌+◌, ◌-◌, ◌<◌, List, map, get_or, sym, refl, ap, ◌∙◌, subst, arith}
use Rattle.std.specs.Array.{IsFromFnResult, IsFromFnResultFrom, IsMapOf, MapsFrom}
use Rattle.std.specs.Fn.{Called}
use Rattle.std.specs.Iterator.{FoldsItems}
use Rattle.std.specs.List.{fold, range_with_len}
use Rattle.std.proofs.iter.Yields.{nat_range_steps}
use Rattle.std.proofs.lemmas.Fn.{fold_over}
use Rattle.std.proofs.lemmas.Iterator.{YieldsList-from_range}
use Rattle.std.proofs.lemmas.List.FromFn.{fill_by_all}
use Rattle.std.proofs.lemmas.List.Sums.{fold_push}
use denote.Param.Members.{Mut}

module _ {F : Type 0} (g : Mut F (ℕ × Unit {0}) ℕ) (h : ℕ → ℕ) (f : F) (same : (x y : ℕ) (f' : F) → Called g f (x, tt) y f' → (y ≡ h x) × (f' ≡ f)) where
  made : (ys : List ℕ) (i n : ℕ) → IsFromFnResultFrom g f ys i n → (k : ℕ) → k < n → get_or ys (i + k) 0 ≡ h (i + k)
  made ys i zero e k l = absurd (omega arith)
  made ys i (suc n) e zero l =
      let s = (same i e.1 e.0 e.3).0 in
      let z : i ≡ i + 0 = omega arith in
      subst (λ (x : ℕ). get_or ys x 0 ≡ h x) z (e.2.1 0 ∙ s)
  made ys i (suc n) e (suc k) l =
      let rest = subst (λ (q : F). IsFromFnResultFrom g q ys (i + 1) n) (same i e.1 e.0 e.3).1 e.4 in
      let m : i + 1 + k ≡ i + suc k = omega arith in
      subst (λ (x : ℕ). get_or ys x 0 ≡ h x) m (made ys (i + 1) n rest k (omega arith))

  pub from_fn_all : (ys : List ℕ) (n : ℕ) → IsFromFnResult g f ys n → ys ≡ map h (range_with_len 0 n)
  from_fn_all ys n r =
      fill_by_all h ys n 0 r.long (λ k l.
      let z : 0 + k ≡ k = omega arith in
      subst (λ (x : ℕ). get_or ys x 0 ≡ h x) z (made ys 0 n r.each k l))

  mapped : (xs ys : List ℕ) (i n : ℕ) → MapsFrom g f xs ys i n → (k : ℕ) → k < n → get_or ys (i + k) 0 ≡ h (get_or xs (i + k) 0)
  mapped xs ys i zero e k l = absurd (omega arith)
  mapped xs ys i (suc n) e zero l =
      let s = (same e.1 e.2 e.0 e.5).0 in
      let z : i ≡ i + 0 = omega arith in
      subst (λ (x : ℕ). get_or ys x 0 ≡ h (get_or xs x 0)) z (e.4.1 0 ∙ s ∙ ap h (sym (e.3.1 0)))
  mapped xs ys i (suc n) e (suc k) l =
      let rest = subst (λ (q : F). MapsFrom g q xs ys (i + 1) n) (same e.1 e.2 e.0 e.5).1 e.6 in
      let m : i + 1 + k ≡ i + suc k = omega arith in
      subst (λ (x : ℕ). get_or ys x 0 ≡ h (get_or xs x 0)) m (mapped xs ys (i + 1) n rest k (omega arith))

  pub map_all : (xs ys : List ℕ) (n : ℕ) → IsMapOf g f xs ys n → ys ≡ map (λ k. h (get_or xs k 0)) (range_with_len 0 n)
  map_all xs ys n r =
      fill_by_all (λ k. h (get_or xs k 0)) ys n 0 r.long (λ k l.
      let z : 0 + k ≡ k = omega arith in
      subst (λ (x : ℕ). get_or ys x 0 ≡ h (get_or xs x 0)) z (mapped xs ys 0 n r.each k l))

-- what `fold` made over a range of indices, by a function of the value and the index
pub fold_all : {F C : Type 0} (g : Mut F (C × (ℕ × Unit {0})) C) (h : C → ℕ → C) (f : F) → ((a : C) (x : ℕ) (b : C) (f' : F) → Called g f (a, (x, tt)) b f' → (b ≡ h a x) × (f' ≡ f))
    → (first end n : ℕ) → end - first ≡ n → (a r : C) → FoldsItems nat_range_steps g (record { start = first; end = end }) f a r → r ≡ fold h a (range_with_len first n)
fold_all g h f same first end n e a r ran =
    fold_over nat_range_steps (λ x. x) g (λ ys b. b ≡ fold h a ys) f
    (λ ys b x d f' j k. let s = same b x d f' k in (s.0 ∙ ap (λ c. h c x) j ∙ sym (fold_push h a ys x), s.1))
    (record { start = first; end = end }) (range_with_len first n) a r (YieldsList-from_range first end n refl e).runs refl ran
