-- Lists by their entries. Assumes nothing.
use Rattle.std.proofs.Common.{◌≡◌, ℕ, zero, suc, ◌+◌, ◌<◌, ◌≤◌, List, [], ◌∷◌, ◌++◌, map, length, get_or, sym, refl, subst, subst₂, ◌∙◌, arith}
use native.Mathlib.Decide.{ℕ_discrete}
use borrow.Rule.Slice.PartMut.{put_mid}
use denote.Param.Members.{Mut}
use Rattle.std.specs.Fn.{Called}
use Rattle.std.specs.Array.{IsFromFnResult, IsFromFnResultFrom}
use Rattle.std.specs.List.{range_with_len}
use Rattle.std.proofs.lemmas.List.FromFn.{length-map-range_with_len, get_or-map-range_with_len}
use Rattle.std.proofs.lemmas.List.{ext_get_or}

-- a list whose entries are known
pub tabled : (f : ℕ → ℕ) (xs : List ℕ) (n : ℕ) → length xs ≡ n → ((i : ℕ) → i < n → get_or xs i 0 ≡ f i) → map f (range_with_len 0 n) ≡ xs
tabled f xs n e h =
    let size = length-map-range_with_len f 0 n in
    ext_get_or 0 (map f (range_with_len 0 n)) xs (size ∙ sym e)
    (λ i lt. let below : i < n = omega (arith, size) in get_or-map-range_with_len f 0 n i i 0 below (omega arith) ∙ sym (h i below))

-- a list of eight, spelled out
pub eight : (xs : List ℕ) → length xs ≡ 8 → map (λ i. get_or xs i 0) (range_with_len 0 8) ≡ xs
eight xs e = tabled (λ i. get_or xs i 0) xs 8 e (λ i h. refl)

-- two lists of eight, written one after the other into an array of sixteen
pub joined : (a b : List ℕ) → length a ≡ 8 → length b ≡ 8
    → put_mid 8 8 (a ++ 0 ∷ 0 ∷ 0 ∷ 0 ∷ 0 ∷ 0 ∷ 0 ∷ 0 ∷ []) b ≡ a ++ b
joined a b e f =
    subst₂ (λ (x y : List ℕ). put_mid 8 8 (x ++ 0 ∷ 0 ∷ 0 ∷ 0 ∷ 0 ∷ 0 ∷ 0 ∷ 0 ∷ []) y ≡ x ++ y) (eight a e) (eight b f) refl

-- what calls at each number gave, where each call leaves the closure as it was
module _ {F B : Type 0} (g : Mut F (ℕ × Unit {0}) B) (f : F) (Q : ℕ → B → Type 0)
    (called : (i : ℕ) (y : B) (q : F) → Called g f (i, tt) y q → (q ≡ f) × Q i y) (ys : List B) where
  each_from : (n i : ℕ) → IsFromFnResultFrom g f ys i n → (k : ℕ) → i ≤ k → k < i + n → (d : B) → Q k (get_or ys k d)
  each_from zero i r k low high d = absurd (omega arith)
  each_from (suc n) i r k low high d =
      let c = called i r.1 r.0 r.3 in
      let rest : IsFromFnResultFrom g f ys (i + 1) n = subst (λ (q : F). IsFromFnResultFrom g q ys (i + 1) n) c.0 r.4 in
      elim (ℕ_discrete k i) [
        | yes e ↦ subst (λ (j : ℕ). Q j (get_or ys j d)) (sym e) (subst (Q i) (sym (r.2.1 d)) c.1)
        | no ne ↦ each_from n (i + 1) rest k (omega arith) (omega arith) d
      ]

  pub each_of : (n : ℕ) → IsFromFnResult g f ys n → (k : ℕ) → k < n → (d : B) → Q k (get_or ys k d)
  each_of n r k h d = each_from n 0 r.each k (omega arith) (omega arith) d
