-- A pair is the first of all at the bytes that serve: one test over those bytes, which antt computes. Assumes nothing.
use Rattle.std.proofs.Common.{◌≡◌, ℕ, zero, suc, ◌+◌, ◌^◌, ◌<◌, Bool, true, false, not, T, eqb, ltb, ◌⊎◌, List, [], ◌∷◌, map, length, get_or, Some, sym, refl, subst, ap₂, inl, inr, eqb→eq, ltb→lt, T_not}
use lib.Bits.{bit_xor}
use lib.Dec.{eqb_refl}
use Rattle.rings.proofs.Finite.{both, both_left, both_right, each, at}
use Rattle.towers.specs.Matrices.{apply, entries, unit}
use Rattle.towers.specs.Order.{Lex}
use Rattle.towers.specs.Place.{image, powers_of, Reversed, Serves, placed, Candidate}
use Rattle.towers.specs.Search.{Ahead, Least}
use Rattle.towers.specs.declared.pair.Pair.{Pair}
use Rattle.towers.proofs.Finite.{either, either_split, some, found}

differs : (a b : ℕ) → a ≡ b → T (not (eqb a b)) → ⊥
differs a b e t = T_not (eqb a b) t (subst (λ (x : ℕ). T (eqb x b)) (sym e) (eqb_refl b))

-- ---- the order

-- the same columns, or the smaller one at the first place where they differ
abbrev level : List ℕ → List ℕ → Bool
level [] [] = true
level [] (y ∷ ys) = false
level (x ∷ xs) [] = false
level (x ∷ xs) (y ∷ ys) = either (ltb x y) (both (eqb x y) (level xs ys))

levelled : (xs ys : List ℕ) → T (level xs ys) → (xs ≡ ys) ⊎ Lex xs ys
levelled [] [] t = inl refl
levelled [] (y ∷ ys) t = absurd t
levelled (x ∷ xs) [] t = absurd t
levelled (x ∷ xs) (y ∷ ys) t = elim (either_split (ltb x y) (both (eqb x y) (level xs ys)) t) [
  | inl h ↦ inr (inl (ltb→lt x y h))
  | inr s ↦ (let e = eqb→eq x y (both_left (eqb x y) (level xs ys) s) in elim (levelled xs ys (both_right (eqb x y) (level xs ys) s)) [
    | inl q ↦ inl (ap₂ ◌∷◌ e q)
    | inr l ↦ inr (inr (e, l))
  ])
]

-- the same constant and columns, or the smaller ones
abbrev sooner : ℕ → List ℕ → ℕ → List ℕ → Bool
sooner c xs d ys = either (ltb c d) (both (eqb c d) (level xs ys))

-- p tells the same numbers as q, or comes before it
abbrev ahead : Pair → Pair → Bool
ahead p q =
    either (ltb p.ones q.ones) (both (eqb p.ones q.ones) (sooner p.constant p.columns q.constant q.columns))

is_ahead : (p q : Pair) → T (ahead p q) → Ahead p q
is_ahead p q t = elim (either_split (ltb p.ones q.ones) rest t) [
  | inl h ↦ inr (inl (ltb→lt p.ones q.ones h))
  | inr s ↦ (let n = eqb→eq p.ones q.ones (both_left (eqb p.ones q.ones) order s) in
      elim (either_split (ltb p.constant q.constant) tie (both_right (eqb p.ones q.ones) order s)) [
        | inl h ↦ inr (inr (n, inl (ltb→lt p.constant q.constant h)))
        | inr z ↦ (let c = eqb→eq p.constant q.constant (both_left (eqb p.constant q.constant) same z) in
            elim (levelled p.columns q.columns (both_right (eqb p.constant q.constant) same z)) [
              | inl e ↦ inl (n, c, e)
              | inr l ↦ inr (inr (n, inr (c, l)))
            ])
      ])
]
  where
    same : Bool
    same = level p.columns q.columns

    tie : Bool
    tie = both (eqb p.constant q.constant) same

    order : Bool
    order = sooner p.constant p.columns q.constant q.columns

    rest : Bool
    rest = both (eqb p.ones q.ones) order

-- ---- the pair at a place

-- the largest number below the bound that passes, and 0 where none does
abbrev last : ℕ → (ℕ → Bool) → ℕ
last zero f = 0
last (suc n) f = elim (f n) [ true ↦ n | false ↦ last n f ]

-- the columns bs of w bits mark columns of cs that add up to 1, 2, 4 and so on
abbrev pub turns : ℕ → List ℕ → List ℕ → Bool
turns w cs bs = each w (λ i. both (ltb (get_or bs i 0) (2 ^ w)) (eqb (apply cs (get_or bs i 0)) (2 ^ i)))

pub turned : (w : ℕ) (cs bs : List ℕ) → length bs ≡ w → T (turns w cs bs) → Reversed w cs bs
turned w cs bs e t = record {
  size = e;
  each = λ i h.
      let s = at w (λ i. both (ltb (get_or bs i 0) (2 ^ w)) (eqb (apply cs (get_or bs i 0)) (2 ^ i))) t i h in
      let l = both_left (ltb (get_or bs i 0) (2 ^ w)) (eqb (apply cs (get_or bs i 0)) (2 ^ i)) s in
      let r = both_right (ltb (get_or bs i 0) (2 ^ w)) (eqb (apply cs (get_or bs i 0)) (2 ^ i)) s in
      record { below = ltb→lt (get_or bs i 0) (2 ^ w) l; solves = λ x hx ex. eqb→eq (apply cs (get_or bs i 0)) (2 ^ i) r };
}

-- the pair of a constant, the columns of a map and those of its reverse
abbrev with_columns : ℕ → List ℕ → List ℕ → Pair
with_columns c cs bs = record { constant = c; ones = entries cs + entries bs; columns = cs; reverse = bs }

-- the columns of the reverse, worked out
abbrev reversed : List ℕ → List ℕ
reversed cs = map (λ b. last 256 (λ v. eqb (apply cs v) b)) unit

-- the pair at a byte y and the powers rs of a byte r, where u gives the constant
abbrev pub pair_at : List ℕ → List ℕ → (ℕ → ℕ → ℕ) → List ℕ → ℕ → ℕ → Pair
pair_at gs us oct rs y u = let cs = placed oct rs us y in with_columns (apply gs u) cs (reversed cs)

-- ---- the test

-- the pair q has its reverse, and p is ahead of it
abbrev passes : Pair → Pair → Bool
passes p q = both (turns 8 q.columns q.reverse) (ahead p q)

-- where y y + y is the polynomial u, p passes
abbrev at_code : List ℕ → List ℕ → (ℕ → ℕ → ℕ) → Pair → List ℕ → ℕ → ℕ → Bool
at_code gs us oct p rs y u = either (not (eqb (oct y y) (bit_xor y (apply rs u)))) (passes p (pair_at gs us oct rs y u))

-- y is a polynomial in r, or p passes at each u
abbrev at_byte : List ℕ → List ℕ → (ℕ → ℕ → ℕ) → Pair → List ℕ → ℕ → Bool
at_byte gs us oct p rs y = either (some 16 (λ v. eqb (apply rs v) y)) (each 16 (at_code gs us oct p rs y))

-- r is no root, or p passes beside it at each y
abbrev at_root : List ℕ → List ℕ → (ℕ → ℕ → ℕ) → Pair → ℕ → Bool
at_root gs us oct p r = either (not (eqb (oct (oct r r) (oct r r)) (bit_xor r 1))) (each 256 (at_byte gs us oct p (powers_of 1 oct r)))

-- at each place that serves, p is ahead
abbrev pub fewest : List ℕ → List ℕ → (ℕ → ℕ → ℕ) → Pair → Bool
fewest gs us oct p = each 256 (at_root gs us oct p)

-- the bytes r and y serve, with the polynomial u
abbrev pub serving : (ℕ → ℕ → ℕ) → ℕ → ℕ → ℕ → Bool
serving oct r y u =
    both (eqb (oct (oct r r) (oct r r)) (bit_xor r 1))
    (both (eqb (oct y y) (bit_xor y (apply (powers_of 1 oct r) u))) (each 16 (λ v. not (eqb (apply (powers_of 1 oct r) v) y))))

-- ---- what a passed test says

pub served : (oct : ℕ → ℕ → ℕ) (r y u : ℕ) → r < 256 → y < 256 → u < 16 → T (serving oct r y u) → Serves oct r y u
unfolding image
served oct r y u lr ly lu t =
    let rs : List ℕ = powers_of 1 oct r in
    let root = eqb (oct (oct r r) (oct r r)) (bit_xor r 1) in
    let square = eqb (oct y y) (bit_xor y (apply rs u)) in
    let new = each 16 (λ v. not (eqb (apply rs v) y)) in
    let s = both_right root (both square new) t in
    record {
      lr = lr;
      root = eqb→eq (oct (oct r r) (oct r r)) (bit_xor r 1) (both_left root (both square new) t);
      ly = ly;
      lu = lu;
      square = eqb→eq (oct y y) (bit_xor y (apply rs u)) (both_left square new s);
      new = λ v h e. differs (apply rs v) y e (at 16 (λ v. not (eqb (apply rs v) y)) (both_right square new s) v h);
    }

module _ (gs us : List ℕ) (oct : ℕ → ℕ → ℕ) (p : Pair) (t : T (fewest gs us oct p)) where
  -- the pair at the bytes r and y
  abbrev there : ℕ → ℕ → ℕ → Pair
  there r y u = pair_at gs us oct (powers_of 1 oct r) y u

  passed : (r y u : ℕ) → Serves oct r y u → T (passes p (there r y u))
  unfolding image
  passed r y u S =
      let rs : List ℕ = powers_of 1 oct r in
      elim (either_split (not (eqb (oct (oct r r) (oct r r)) (bit_xor r 1))) (each 256 (at_byte gs us oct p rs)) (at 256 (at_root gs us oct p) t r S.lr)) [
        | inl n ↦ absurd (differs (oct (oct r r) (oct r r)) (bit_xor r 1) S.root n)
        | inr row ↦ elim (either_split (some 16 (λ v. eqb (apply rs v) y)) (each 16 (at_code gs us oct p rs y)) (at 256 (at_byte gs us oct p rs) row y S.ly)) [
          | inl f ↦ (let v = found 16 (λ v. eqb (apply rs v) y) f in absurd (S.new v.0 v.1 (eqb→eq (apply rs v.0) y v.2)))
          | inr codes ↦ elim (either_split (not (eqb (oct y y) (bit_xor y (apply rs u)))) (passes p (pair_at gs us oct rs y u)) (at 16 (at_code gs us oct p rs y) codes u S.lu)) [
            | inl n ↦ absurd (differs (oct y y) (bit_xor y (apply rs u)) S.square n)
            | inr s ↦ s
          ]
        ]
      ]

  candidate : (r y u : ℕ) → Serves oct r y u → Candidate gs us oct r y (there r y u)
  candidate r y u S =
      let q : Pair = there r y u in
      let t = both_left (turns 8 q.columns q.reverse) (ahead p q) (passed r y u S) in
      record {
        code = u;
        serves = S;
        built = record { constant = refl; columns = refl; reverse = turned 8 q.columns q.reverse refl t; ones = refl };
      }

  ahead_of : (r y u : ℕ) → Serves oct r y u → Ahead p (there r y u)
  ahead_of r y u S =
      let q : Pair = there r y u in
      is_ahead p q (both_right (turns 8 q.columns q.reverse) (ahead p q) (passed r y u S))

  -- p stands at the bytes r and y, and is ahead of the pair at any others
  pub first_of_all : (r y u : ℕ) → Serves oct r y u → p ≡ pair_at gs us oct (powers_of 1 oct r) y u → Least gs us oct 65536 (Some p)
  first_of_all r y u S e = record {
    held = (r, y, subst (λ (q : Pair). Candidate gs us oct r y q) (sym e) (candidate r y u S));
    seen = λ r y u S h. (there r y u, candidate r y u S, ahead_of r y u S);
  }
