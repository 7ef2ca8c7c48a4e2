-- What the search keeps is the least of all lawful pairs. Assumes nothing.
use Rattle.std.proofs.Common.{◌≡◌, ℕ, ◌+◌, ◌*◌, ◌/◌, ◌%◌, ◌^◌, ◌<◌, ◌≤◌, List, [], ◌∷◌, get_or, Some, None, Option, sym, ap, ◌∙◌, subst, ap₂, inl, inr, arith, lit<}
use lib.Bits.{bit_xor, xor_zero_r, xor_self, xor_assoc}
use Rattle.rings.specs.Laws.{Laws, Field}
use Rattle.rings.specs.Poly.{mul_mod}
use Rattle.rings.specs.PolyLaws.{mul_mod_laws}
use Rattle.octics.specs.Octics.{Accepted}
use Rattle.towers.specs.Lawful.{Lawful, Reverse}
use Rattle.towers.specs.Matrices.{apply, columns, entries, both_ones}
use Rattle.towers.specs.Keeps.{Tells, Stands, Keeps}
use Rattle.towers.specs.Fitted.{Sixteen}
use Rattle.towers.specs.Place.{powers_of, image, Serves, placed, Built, Candidate, Based}
use Rattle.towers.specs.Search.{Ahead, Least}
use Rattle.towers.specs.declared.pair.Pair.{Pair}
use Rattle.towers.proofs.Finite.{onto}
use Rattle.towers.proofs.Linear.{adds_zero, by_columns}
use Rattle.towers.proofs.Order.{moved}
use Rattle.towers.proofs.Unique.{Same, columns_same, reverse_same}
use Rattle.towers.proofs.Iso.{image_0, image_once, apply4_1, apply4_2, apply4_4, apply4_8}
use Rattle.towers.proofs.Index.{Coords, reached, pair_at}
use Rattle.towers.proofs.Complete.{serves, same}
use Rattle.towers.proofs.Octics.{octic_serves}
use Rattle.towers.proofs.Reverses.{apply_zero, eight_columns, reverse_of, has_reverse, inverses_of}
use Rattle.towers.proofs.Columns.{at_eight}

-- the map at the bytes r and y
abbrev map_at : (ℕ → ℕ → ℕ) → List ℕ → ℕ → ℕ → ℕ → ℕ
map_at oct vs r y a = bit_xor (image 1 oct r (apply vs (a % 16))) (oct y (image 1 oct r (apply vs (a / 16))))

-- the four columns of a reverse
abbrev four : List ℕ → List ℕ
four us = get_or us 0 0 ∷ get_or us 1 0 ∷ get_or us 2 0 ∷ get_or us 3 0 ∷ []

module _ (mul : ℕ → ℕ → ℕ) (R : Laws 4 1 mul) (F : Field 4 1 mul) (oct : ℕ → ℕ → ℕ) (E : Laws 8 1 oct)
    (gs us : List ℕ) (B : Based mul gs us) where
  at_g : (v : ℕ) → apply gs v ≡ image 1 mul B.root v
  unfolding image
  at_g v = ap (λ (cs : List ℕ). apply cs v) B.powers

  coordinate : (i : ℕ) → i < 4 → 2 ^ i < 16 → image 1 mul B.root (get_or us i 0) ≡ 2 ^ i
  coordinate i h k =
      let t = reached 1 mul R B.root B.code B.is_root (2 ^ i) k in
      sym (at_g (get_or us i 0)) ∙ (B.reverse.each i h).solves t.0 t.1 (at_g t.0 ∙ t.2)

  coords : Coords (image 1 mul B.root) (get_or us 0 0) (get_or us 1 0) (get_or us 2 0) (get_or us 3 0)
  coords = record {
    l1 = (B.reverse.each 0 (lit< tt)).below;
    l2 = (B.reverse.each 1 (lit< tt)).below;
    l4 = (B.reverse.each 2 (lit< tt)).below;
    l8 = (B.reverse.each 3 (lit< tt)).below;
    e1 = coordinate 0 (lit< tt) (lit< tt);
    e2 = coordinate 1 (lit< tt) (lit< tt);
    e4 = coordinate 2 (lit< tt) (lit< tt);
    e8 = coordinate 3 (lit< tt) (lit< tt);
  }

  module _ (r y u : ℕ) (S : Serves oct r y u) where
    lawful_at : Lawful mul oct (image 1 mul B.root u) (map_at oct (four us) r y)
    lawful_at =
        pair_at 1 mul R B.root B.code B.is_root (get_or us 0 0) (get_or us 1 0) (get_or us 2 0) (get_or us 3 0) coords
        oct E r S.lr S.root F y S.ly u S.lu S.square S.new

    none : image 1 oct r (apply (four us) 0) ≡ 0
    none = ap (image 1 oct r) (apply_zero (four us)) ∙ image_0 8 1 oct E r S.lr S.root

    low_at : (k v : ℕ) → apply (four us) k ≡ v → image 1 oct r v ≡ bit_xor (image 1 oct r (apply (four us) k)) (oct y (image 1 oct r (apply (four us) 0)))
    low_at k v e =
        sym (ap₂ bit_xor (ap (image 1 oct r) e) (ap (oct y) none ∙ adds_zero 8 (oct y) (λ a b ha hb. E.distrib y a b S.ly ha hb)) ∙ xor_zero_r (image 1 oct r v))

    high_at : (k v : ℕ) → apply (four us) k ≡ v → oct y (image 1 oct r v) ≡ bit_xor (image 1 oct r (apply (four us) 0)) (oct y (image 1 oct r (apply (four us) k)))
    high_at k v e = sym (ap₂ bit_xor none (ap (λ (x : ℕ). oct y (image 1 oct r x)) e))

    placed_at : placed oct (powers_of 1 oct r) us y ≡ columns (map_at oct (four us) r y)
    unfolding image
    placed_at i =
        low_at 1 (get_or us 0 0) (apply4_1 _ _ _ _) i ∷ low_at 2 (get_or us 1 0) (apply4_2 _ _ _ _) i
        ∷ low_at 4 (get_or us 2 0) (apply4_4 _ _ _ _) i ∷ low_at 8 (get_or us 3 0) (apply4_8 _ _ _ _) i
        ∷ high_at 1 (get_or us 0 0) (apply4_1 _ _ _ _) i ∷ high_at 2 (get_or us 1 0) (apply4_2 _ _ _ _) i
        ∷ high_at 4 (get_or us 2 0) (apply4_4 _ _ _ _) i ∷ high_at 8 (get_or us 3 0) (apply4_8 _ _ _ _) i ∷ []

    module _ (q : Pair) (C : Built gs us (powers_of 1 oct r) oct y u q) where
      columns_at : q.columns ≡ columns (map_at oct (four us) r y)
      columns_at = C.columns ∙ placed_at

      hits : (i : ℕ) → i < 8 → 2 ^ i < 256 → map_at oct (four us) r y (get_or q.reverse i 0) ≡ 2 ^ i
      hits i h k =
          let t = onto 256 (map_at oct (four us) r y) lawful_at.byte lawful_at.once (2 ^ i) k in
          by (get_or q.reverse i 0) (C.reverse.each i h).below
          ∙ (C.reverse.each i h).solves t.0 t.1 (sym (by t.0 t.1) ∙ t.2)
        where
          by : (v : ℕ) → v < 256 → map_at oct (four us) r y v ≡ apply q.columns v
          by v l = by_columns (map_at oct (four us) r y) lawful_at.adds v l ∙ ap (λ (cs : List ℕ). apply cs v) (sym columns_at)

      reversed_at : Reverse (map_at oct (four us) r y) (apply q.reverse)
      reversed_at =
          reverse_of (map_at oct (four us) r y) lawful_at.adds lawful_at.byte lawful_at.once q.reverse C.reverse.size
          (λ i h. (C.reverse.each i h).below) (λ i h. hits i h (small i h))
        where
          small : (i : ℕ) → i < 8 → 2 ^ i < 256
          small = at_eight (λ i. 2 ^ i < 256) (lit< tt) (lit< tt) (lit< tt) (lit< tt) (lit< tt) (lit< tt) (lit< tt) (lit< tt)

      ones_at : q.ones ≡ both_ones (map_at oct (four us) r y) (apply q.reverse)
      ones_at = C.ones ∙ ap₂ (λ (xs ys : List ℕ). entries xs + entries ys) columns_at (sym (eight_columns q.reverse C.reverse.size))

      tells_at : Tells mul oct q
      tells_at = record {
        map = map_at oct (four us) r y;
        back = apply q.reverse;
        lawful = subst (λ (c : ℕ). Lawful mul oct c (map_at oct (four us) r y)) (sym (C.constant ∙ at_g u)) lawful_at;
        reversed = reversed_at;
        columns = columns_at;
        reverse = sym (eight_columns q.reverse C.reverse.size);
        ones = ones_at;
      }

  -- the constant's polynomial is settled by the bytes
  unique : (r y u v : ℕ) → Serves oct r y u → Serves oct r y v → u ≡ v
  unique r y u v S V = image_once 8 1 oct E r S.lr S.root (lit< tt) u v S.lu V.lu (inside u S.square ∙ sym (inside v V.square))
    where
      inside : (u : ℕ) → oct y y ≡ bit_xor y (image 1 oct r u) → image 1 oct r u ≡ bit_xor y (oct y y)
      inside u e = ap (λ (x : ℕ). bit_xor x (image 1 oct r u)) (sym (xor_self y)) ∙ xor_assoc y y (image 1 oct r u) ∙ ap (bit_xor y) (sym e)

  -- what is ahead of the pair at the bytes of a lawful pair is ahead of that
  stands : (p : Pair) (d : ℕ) (m n : ℕ → ℕ) → Lawful mul oct d m → Reverse m n
      → (q : Pair) → Candidate gs us oct (m B.root) (m 16) q → Ahead p q → Stands p d m n
  stands p d m n L N q C a =
      let r : ℕ = m B.root in
      let S = serves 1 mul R B.root B.code B.is_root oct E d m L in
      let k : S.0 ≡ C.code = unique r (m 16) S.0 C.code S.1 C.serves in
      let s : Same (map_at oct (four us) r (m 16)) m =
      λ v h. sym (same 1 mul R B.root B.code B.is_root oct E d m L (get_or us 0 0) (get_or us 1 0) (get_or us 2 0) (get_or us 3 0) coords v h) in
      let ec : q.constant ≡ d = C.built.constant ∙ at_g C.code ∙ ap (image 1 mul B.root) (sym k) ∙ S.2 in
      let ef : q.columns ≡ columns m = columns_at r (m 16) C.code C.serves q C.built ∙ columns_same (map_at oct (four us) r (m 16)) m s in
      let eo : q.ones ≡ both_ones m n =
      ones_at r (m 16) C.code C.serves q C.built
      ∙ ap₂ (λ (xs ys : List ℕ). entries xs + entries ys) (columns_same (map_at oct (four us) r (m 16)) m s)
      (columns_same (apply q.reverse) n (reverse_same (map_at oct (four us) r (m 16)) m (apply q.reverse) n s (reversed_at r (m 16) C.code C.serves q C.built) N)) in
      elim a [
        | inl e ↦ inl (e.0 ∙ eo, e.1 ∙ ec, e.2 ∙ ef)
        | inr b ↦ inr (moved p.ones p.constant p.columns eo ec ef b)
      ]

  place_lt : (d : ℕ) (m : ℕ → ℕ) → Lawful mul oct d m → m B.root * 256 + m 16 < 65536
  place_lt d m L = let c : B.root < 16 = B.code in omega (arith, L.byte B.root (omega arith), L.byte 16 (lit< tt))

  pub all_behind : (p : Pair) → Least gs us oct 65536 (Some p) → (d : ℕ) (m n : ℕ → ℕ) → Lawful mul oct d m → Reverse m n → Stands p d m n
  all_behind p K d m n L N =
      let S = serves 1 mul R B.root B.code B.is_root oct E d m L in
      let s = K.seen (m B.root) (m 16) S.0 S.1 (place_lt d m L) in
      stands p d m n L N s.0 s.1 s.2

  pub tells : (p : Pair) → Least gs us oct 65536 (Some p) → Tells mul oct p
  tells p K = let h = K.held in tells_at h.0 h.1 h.2.code h.2.serves p h.2.built

pub octic_laws : (o : ℕ) → Accepted o → Laws 8 1 (mul_mod 8 o)
octic_laws o A = let e : o / 2 ^ 8 ≡ 1 = degree o A.least A.most in mul_mod_laws 8 o e (lit< tt)
  where
    degree : (o : ℕ) → 256 ≤ o → o < 512 → o / 256 ≡ 1
    degree o h k = omega arith

module _ (w : ℕ) (mul : ℕ → ℕ → ℕ) (R : Laws w 1 mul) (K : Sixteen w mul) (o : ℕ) (A : Accepted o) (gs us : List ℕ) (B : Based mul gs us)
    (k : ℕ) (counts : k ≡ 256 + o % 256) where
  R4 : Laws 4 1 mul
  R4 = subst (λ (v : ℕ). Laws v 1 mul) K.0 R

  F4 : Field 4 1 mul
  F4 = subst (λ (v : ℕ). Field v 1 mul) K.0 K.1

  modulus : k ≡ o
  modulus = omega (arith, A.least, A.most)

  at_octic : (best : Option Pair) → Least gs us (mul_mod 8 k) 65536 best → Least gs us (mul_mod 8 o) 65536 best
  at_octic best = subst (λ (x : ℕ). Least gs us (mul_mod 8 x) 65536 best) modulus

  pub kept : (p : Pair) → Least gs us (mul_mod 8 k) 65536 (Some p) → Keeps mul o p
  kept p L = record {
    tells = tells mul R4 F4 (mul_mod 8 o) (octic_laws o A) gs us B p (at_octic (Some p) L);
    least = all_behind mul R4 F4 (mul_mod 8 o) (octic_laws o A) gs us B p (at_octic (Some p) L);
    reverses = λ d m M. has_reverse m M.byte M.once;
    inverses = λ d m n M N. inverses_of m M.adds M.byte M.once n N;
  }

  pub some_kept : Least gs us (mul_mod 8 k) 65536 None → ⊥
  some_kept L =
      let s = octic_serves o A in
      let S = s.3 in
      ((at_octic None L).seen s.0 s.1 s.2 S (omega (arith, S.lr, S.ly))).2
